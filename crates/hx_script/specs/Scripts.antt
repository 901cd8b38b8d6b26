-- Which bytes are a script. The forms, the limits and the order of the reasons are this project's own.
use Rattle.std.specs.Prelude.{◌≡◌, ◌≤◌, ◌<◌, ℕ, nat_le, nat_lt, not, Bool, true, false, ◌||◌, List, [], ◌∷◌, ◌++◌, length, All, count_by, codes, bytes_eq, if◌then◌else◌, Option, Some, None, is_some, Result, Ok, Err}
use Rattle.hx_events.specs.declared.event.Actor.{Actor}
use Rattle.hx_events.specs.declared.event.Actor.TheVariants.{Window}
use Rattle.hx_events.specs.Places.{place_of}
use Rattle.hx_events.specs.Resources.{is_resource}
use Rattle.hx_events.specs.Texts.{IsEventOf}
use Rattle.hx_events.specs.Fields.{fields_of}
use Rattle.hx_script.specs.declared.script.Form.{Form}
use Rattle.hx_script.specs.declared.script.Form.TheVariants.{Replay, Run, Restore}
use Rattle.hx_script.specs.declared.script.Plant.{Plant}
use Rattle.hx_script.specs.declared.script.Step.{Step}
use Rattle.hx_script.specs.declared.script.Step.TheVariants.{Do, Crash, Restart}
use Rattle.hx_script.specs.declared.script.Script.{Script}
use Rattle.hx_script.specs.declared.declarations.Kind.{Kind}
use Rattle.hx_script.specs.declared.declarations.Kind.TheVariants.{Declares, Plants, Crashes, Restarts, Does}
use Rattle.hx_script.specs.declared.why.Why.{Why}
use Rattle.hx_script.specs.declared.why.Why.TheVariants.{TooLong, Form as NoForm, Resource, Declared}
use Rattle.hx_script.specs.Readings.{Reading, Reads, Refused, and_then, ranked}
use Rattle.hx_script.specs.Values.{number_in, at_most, text_in}
use Rattle.hx_script.specs.Events.{actor_in, event_in, IsAskedBy}
use Rattle.hx_script.specs.Lines.{behind_header, lines_behind}

abbrev pub done_by : Option Actor → Option Kind
done_by None = None
done_by (Some actor) = Some (Does actor)

-- the kind of a line, by its first field
abbrev pub kind_in : List ℕ → Option Kind
kind_in field =
    if bytes_eq field (codes "file") then Some Declares
    else if bytes_eq field (codes "slot") then Some Plants
    else if bytes_eq field (codes "crash") then Some Crashes
    else if bytes_eq field (codes "restart") then Some Restarts
    else done_by (actor_in field)

-- a resource that isn't among the names yet
abbrev pub new_name : List (List ℕ) → List ℕ → Result (List ℕ) Why
new_name names field = if not (is_resource field) then Err Resource else if is_some (place_of field names) then Err Declared else Ok field

-- a line that has a new name and nothing else
abbrev pub name_in : List (List ℕ) → List (List ℕ) → Result (List ℕ) Why
name_in names (name ∷ []) = new_name names name
name_in names fields = Err NoForm

abbrev pub plant_of : (number text : List ℕ) → Result Plant Why
plant_of number text = and_then (at_most 127 (number_in number)) (λ file. and_then (text_in text) (λ bytes. Ok (record { file = file; bytes = bytes })))

-- the number of a slot file, and its bytes
abbrev pub plant_in : List (List ℕ) → Result Plant Why
plant_in (number ∷ text ∷ []) = plant_of number text
plant_in fields = Err NoForm

-- the pick of a crash
abbrev pub crash_in : List (List ℕ) → Result Step Why
crash_in (pick ∷ []) = and_then (number_in pick) (λ p. Ok (Crash p))
crash_in fields = Err NoForm

abbrev pub restart_in : List (List ℕ) → Result Step Why
restart_in [] = Ok Restart
restart_in fields = Err NoForm

-- a replay allows every actor, a run its windows alone, and a restore none
abbrev pub allows : Form → Actor → Bool
allows Replay actor = true
allows Run (Window k) = true
allows Run actor = false
allows Restore actor = false

abbrev pub allows_ends : Form → Bool
allows_ends Replay = true
allows_ends form = false

-- a step that ends a life
abbrev pub is_ending : Step → Bool
is_ending (Do actor event) = false
is_ending step = true

abbrev pub has_steps : Script → Bool
has_steps script = nat_lt 0 (length script.steps)

-- a script has at most 10,000 lines, 192 declared files, and 31 steps that end a life, so at most 32 lives
abbrev pub is_beyond : ℕ → Bool
is_beyond number = nat_lt 10000 number

abbrev pub has_all_names : Script → Bool
has_all_names script = nat_le 192 (length script.names)

abbrev pub has_all_ends : Script → Bool
has_all_ends script = nat_le 31 (count_by is_ending script.steps)

abbrev pub with_name : Script → List ℕ → Script
with_name script name = record { names = script.names ++ name ∷ []; slots = script.slots; steps = script.steps }

abbrev pub with_plant : Script → Plant → Script
with_plant script plant = record { names = script.names; slots = script.slots ++ plant ∷ []; steps = script.steps }

abbrev pub with_step : Script → Step → Script
with_step script step = record { names = script.names; slots = script.slots; steps = script.steps ++ step ∷ [] }

-- What each kind of line makes of the script so far. Declarations and plants stand before all steps.
abbrev pub file_line : ℕ → Script → List (List ℕ) → Result Script Why
file_line number script fields = and_then (ranked (name_in script.names fields) (has_steps script) (is_beyond number || has_all_names script)) (λ name. Ok (with_name script name))

abbrev pub plant_line : ℕ → Script → List (List ℕ) → Result Script Why
plant_line number script fields = and_then (ranked (plant_in fields) (has_steps script) (is_beyond number)) (λ plant. Ok (with_plant script plant))

abbrev pub event_line : Form → ℕ → Script → Actor → List (List ℕ) → Result Script Why
event_line form number script actor fields = and_then (ranked (event_in script.names actor fields) (not (allows form actor)) (is_beyond number)) (λ event. Ok (with_step script (Do actor event)))

abbrev pub ending_line : Form → ℕ → Script → Result Step Why → Result Script Why
ending_line form number script ending = and_then (ranked ending (not (allows_ends form)) (is_beyond number || has_all_ends script)) (λ step. Ok (with_step script step))

abbrev pub line_of_kind : Form → ℕ → Script → Option Kind → List (List ℕ) → Result Script Why
line_of_kind form number script None fields = Err NoForm
line_of_kind form number script (Some Declares) fields = file_line number script fields
line_of_kind form number script (Some Plants) fields = plant_line number script fields
line_of_kind form number script (Some Crashes) fields = ending_line form number script (crash_in fields)
line_of_kind form number script (Some Restarts) fields = ending_line form number script (restart_in fields)
line_of_kind form number script (Some (Does actor)) fields = event_line form number script actor fields

abbrev pub fields_in : Form → ℕ → Script → List (List ℕ) → Result Script Why
fields_in form number script [] = Err NoForm
fields_in form number script (first ∷ fields) = line_of_kind form number script (kind_in first) fields

-- what the line with this number makes of the script that the lines before it are
abbrev pub line_in : Form → ℕ → Script → List ℕ → Result Script Why
line_in form number script line = fields_in form number script (fields_of line)

abbrev pub no_lines : Script
no_lines = record { names = []; slots = []; steps = [] }

abbrev pub script_at_end : ℕ → Script → Reading Script
script_at_end number script = Reads script

-- What bytes read as for a command: a script, or the first bad line with its first reason.
unfoldable pub script_in : Form → List ℕ → Reading Script
script_in form bytes =
    if nat_lt 4194304 (length bytes) then Refused 0 TooLong
    else lines_behind (line_in form) script_at_end no_lines (behind_header (codes "hotexit 1") bytes)

-- the step's resource is among the names
abbrev pub IsStepOf : List (List ℕ) → Step → Type 0
IsStepOf names (Do actor event) = IsEventOf names event × IsAskedBy actor event
IsStepOf names step = Unit {0}

-- What holds of each script: its names are resources and few, its plants are of slot files, its steps are of its names.
pub record IsWellMade (script : Script) : Type 0 where
  pub few : length script.names ≤ 192
  pub resources : All (λ name. is_resource name ≡ true) script.names
  pub plants : All (λ plant. plant.file < 128) script.slots
  pub steps : All (IsStepOf script.names) script.steps
