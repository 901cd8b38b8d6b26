-- What a trace's reader knows of fields.
use Rattle.std.proofs.Common.{◌≡◌, ◌≤◌, ◌<◌, ℕ, zero, suc, ◌+◌, Bool, false, not, List, [], ◌∷◌, ◌++◌, length, length-append, arith, if◌then◌else◌, take, refl, sym, ◌∙◌, ap, Option, Some, None, Result, Ok, true, subst}
use Rattle.std.specs.Prelude.{All}
use Rattle.std.specs.Borrow.{Bor}
use Rattle.std.proofs.lemmas.List.Elements.{All-append}
use Rattle.hx_events.specs.declared.event.Actor.{Actor}
use Rattle.hx_events.specs.declared.event.Actor.TheVariants.{Window, Writer, Saver, Closer, Watcher}
use Rattle.hx_events.specs.declared.backup.PairFound.{PairFound}
use Rattle.hx_events.specs.declared.event.Event.{Event}
use Rattle.hx_events.specs.declared.outcome.Outcome.{Outcome}
use Rattle.hx_events.specs.Fields.{fields_of}
use Rattle.hx_script.specs.declared.why.Why.{Why}
use Rattle.hx_script.specs.declared.why.LineError.{LineError}
use Rattle.hx_script.specs.declared.trace.TraceLife.{TraceLife}
use Rattle.hx_script.specs.declared.trace.TraceKind.{TraceKind}
use Rattle.hx_script.specs.declared.trace.TraceKind.TheVariants.{Life, Name, Pair, Entry, End, Copy, Ticket}
use Rattle.hx_script.specs.declared.trace.Part.{Part}
use Rattle.hx_script.specs.declared.trace.Part.TheVariants.{Before, Names, Pairs, Entries, Copies, Tickets}
use Rattle.hx_script.specs.Events.{actor_in, move_of, move_in}
use Rattle.hx_script.specs.Lines.{texts, first_field, other_fields}
use Rattle.hx_script.specs.Outcomes.{outcome_in}
use Rattle.hx_script.specs.Readings.{Answers, Takes, and_then, ranked}
use Rattle.hx_script.specs.Traces.{TraceState, is_out_of_order, is_past, pair_in, with_life, paired_life, trace_kind, trace_line_of, trace_line, is_naming, named_life, NamesFirst, IsTraceState, IsWellRead, new_life, is_begun, begun_lives}

-- eight fields say what all do: of an event
pub enough_of_move : (names : List (List ℕ)) (fields : List (List ℕ)) → move_in names (take 8 fields) ≡ move_in names fields
enough_of_move names [] = refl
enough_of_move names (a ∷ []) = refl
enough_of_move names (a ∷ b ∷ []) = refl
enough_of_move names (a ∷ b ∷ c ∷ []) = refl
enough_of_move names (a ∷ b ∷ c ∷ d ∷ []) = refl
enough_of_move names (a ∷ b ∷ c ∷ d ∷ e ∷ []) = refl
enough_of_move names (a ∷ b ∷ c ∷ d ∷ e ∷ f ∷ []) = refl
enough_of_move names (a ∷ b ∷ c ∷ d ∷ e ∷ f ∷ g ∷ []) = refl
enough_of_move names (a ∷ b ∷ c ∷ d ∷ e ∷ f ∷ g ∷ h ∷ more) = by_actor (actor_in a)
  where
    by_actor : (actor : Option Actor) → move_of names actor (b ∷ c ∷ d ∷ e ∷ f ∷ g ∷ h ∷ []) ≡ move_of names actor (b ∷ c ∷ d ∷ e ∷ f ∷ g ∷ h ∷ more)
    by_actor None = refl
    by_actor (Some (Window k)) = refl
    by_actor (Some (Writer k)) = refl
    by_actor (Some (Saver k)) = refl
    by_actor (Some Closer) = refl
    by_actor (Some Watcher) = refl

-- of an outcome
pub enough_of_outcome : (names : List (List ℕ)) (fields : List (List ℕ)) → outcome_in names (take 8 fields) ≡ outcome_in names fields
enough_of_outcome names [] = refl
enough_of_outcome names (a ∷ []) = refl
enough_of_outcome names (a ∷ b ∷ []) = refl
enough_of_outcome names (a ∷ b ∷ c ∷ []) = refl
enough_of_outcome names (a ∷ b ∷ c ∷ d ∷ []) = refl
enough_of_outcome names (a ∷ b ∷ c ∷ d ∷ e ∷ []) = refl
enough_of_outcome names (a ∷ b ∷ c ∷ d ∷ e ∷ f ∷ []) = refl
enough_of_outcome names (a ∷ b ∷ c ∷ d ∷ e ∷ f ∷ g ∷ []) = refl
enough_of_outcome names (a ∷ b ∷ c ∷ d ∷ e ∷ f ∷ g ∷ h ∷ more) = refl

-- and of any other line
enough_of_kind : (kind : TraceKind) (n : ℕ) (s : TraceState) (line : List ℕ) (fields : List (List ℕ)) → trace_line_of kind n s line (other_fields (take 8 fields)) ≡ trace_line_of kind n s line (other_fields fields)
unfolding pair_in is_out_of_order
enough_of_kind kind n s line [] = refl
enough_of_kind kind n s line (a ∷ []) = refl
enough_of_kind kind n s line (a ∷ b ∷ []) = refl
enough_of_kind kind n s line (a ∷ b ∷ c ∷ []) = refl
enough_of_kind kind n s line (a ∷ b ∷ c ∷ d ∷ []) = refl
enough_of_kind kind n s line (a ∷ b ∷ c ∷ d ∷ e ∷ []) = refl
enough_of_kind kind n s line (a ∷ b ∷ c ∷ d ∷ e ∷ f ∷ []) = refl
enough_of_kind kind n s line (a ∷ b ∷ c ∷ d ∷ e ∷ f ∷ g ∷ []) = refl
enough_of_kind kind n s line (a ∷ b ∷ c ∷ d ∷ e ∷ f ∷ g ∷ h ∷ more) = by_kind kind
  where
    by_part : (part : Part) → is_out_of_order part (b ∷ c ∷ d ∷ e ∷ f ∷ g ∷ h ∷ []) ≡ is_out_of_order part (b ∷ c ∷ d ∷ e ∷ f ∷ g ∷ h ∷ more)
    by_part Before = refl
    by_part Names = refl
    by_part (Pairs last) = refl
    by_part Entries = refl
    by_part Copies = refl
    by_part Tickets = refl

    by_kind : (k : TraceKind) → trace_line_of k n s line (b ∷ c ∷ d ∷ e ∷ f ∷ g ∷ h ∷ []) ≡ trace_line_of k n s line (b ∷ c ∷ d ∷ e ∷ f ∷ g ∷ h ∷ more)
    by_kind Life = refl
    by_kind Name = refl
    by_kind Pair = ap (λ o. and_then (ranked (pair_in s.life.life.names (b ∷ c ∷ d ∷ e ∷ f ∷ g ∷ h ∷ [])) o (is_past n)) (λ p. Ok (with_life s (Pairs p.0) (paired_life s.life p.0 p.1)))) (by_part s.part)
    by_kind Entry = refl
    by_kind End = refl
    by_kind Copy = refl
    by_kind Ticket = refl

pub move_read : (result : Result (Actor × Event) LineError) (names : List (List ℕ)) (text : List ℕ) (fields items : List (Bor (List ℕ))) → fields ≡ items → texts items ≡ take 8 (fields_of text) → Answers result (move_in names (texts fields)) → Answers result (move_in names (fields_of text))
move_read result names text fields items same parted answers =
    subst (Answers result) (ap (λ (fs : List (Bor (List ℕ))). move_in names (texts fs)) same ∙ ap (move_in names) parted ∙ enough_of_move names (fields_of text)) answers

pub outcome_read : (result : Result Outcome LineError) (read : Result Outcome Why) (names : List (List ℕ)) (text : List ℕ) (fields items : List (Bor (List ℕ))) → fields ≡ items → texts items ≡ take 8 (fields_of text) → read ≡ outcome_in names (texts fields) → Answers result read → Answers result (outcome_in names (fields_of text))
outcome_read result read names text fields items same parted is answers =
    subst (Answers result) (is ∙ ap (λ (fs : List (Bor (List ℕ))). outcome_in names (texts fs)) same ∙ ap (outcome_in names) parted ∙ enough_of_outcome names (fields_of text)) answers

-- the fields of a line say what the line does
pub line_read : (result : Result Unit LineError) (kind : TraceKind) (n : ℕ) (s new : TraceState) (line first : List ℕ) (others fields items : List (Bor (List ℕ))) → first ≡ first_field (fields_of line) → kind ≡ trace_kind first
    → texts others ≡ other_fields (texts fields) → fields ≡ items → texts items ≡ take 8 (fields_of line) → Takes result new (trace_line_of kind n s line (texts others)) → Takes result new (trace_line n s line)
line_read result kind n s new line first others fields items is_first is_kind behind same parted took =
    subst (Takes result new)
    (ap (trace_line_of kind n s line) (behind ∙ ap (λ (fs : List (Bor (List ℕ))). other_fields (texts fs)) same ∙ ap other_fields parted) ∙ enough_of_kind kind n s line (fields_of line)
    ∙ ap (λ k. trace_line_of k n s line (other_fields (fields_of line))) (is_kind ∙ ap trace_kind is_first))
    took

-- the reader's state stays sound
pub still_sound : (lives : List TraceLife) (part : Part) (old new : TraceLife) → new ≡ old → IsTraceState (record { lives = lives; part = part; life = old }) → IsTraceState (record { lives = lives; part = part; life = new })
still_sound lives part old new same sound = subst (λ t. IsTraceState (record { lives = lives; part = part; life = t })) (sym same) sound

naming : (part : Part) (t : TraceLife) → is_naming part ≡ true → NamesFirst part t → NamesFirst Names t
naming Before t is first = absurd cc
naming Names t is first = first
naming (Pairs p) t is first = absurd cc
naming Entries t is first = absurd cc
naming Copies t is first = absurd cc
naming Tickets t is first = absurd cc

pub names_first : (part : Part) (lives : List TraceLife) (t : TraceLife) → is_naming part ≡ true → IsTraceState (record { lives = lives; part = part; life = t }) → NamesFirst Names t
names_first part lives t is sound = naming part t is sound.names_first

pub named_sound : (lives : List TraceLife) (part : Part) (old new : TraceLife) (name : List ℕ) → is_naming part ≡ true → new ≡ named_life old name → IsTraceState (record { lives = lives; part = part; life = old }) → IsTraceState (record { lives = lives; part = Names; life = new })
named_sound lives part old new name is grown sound =
    let first = naming part old is sound.names_first in record {
      few = sound.few;
      over = sound.over;
      names_first = (ap (λ (t : TraceLife). t.life.base) grown ∙ first.0, ap (λ (t : TraceLife). t.life.history) grown ∙ first.1);
    }

pub not_false : (b : Bool) → not b ≡ false → b ≡ true
not_false true is = refl
not_false false is = absurd cc

only : {X : Type 0} (P : X → Type 0) (x : X) → P x → All P (x ∷ [])
only P x holds zero d lt = holds
only P x holds (suc k) d lt = absurd (omega (arith, lt))

pub all_well : (lives new : List TraceLife) (life : TraceLife) → new ≡ lives ++ life ∷ [] → All IsWellRead lives → IsWellRead life → All IsWellRead new
all_well lives new life grown over well = subst (All IsWellRead) (sym grown) (All-append IsWellRead lives (life ∷ []) over (only IsWellRead life well))

pub begun_sound : (lives : List TraceLife) (part : Part) (draft life : TraceLife) → part ≡ Names → draft ≡ life → life ≡ new_life → length lives ≤ 31 → All IsWellRead lives → IsTraceState (record { lives = lives; part = part; life = draft })
begun_sound lives part draft life named is fresh few over =
    let same = is ∙ fresh in
    subst (λ p. IsTraceState (record { lives = lives; part = p; life = draft })) (sym named)
    (record { few = few; over = over; names_first = (ap (λ (t : TraceLife). t.life.base) same, ap (λ (t : TraceLife). t.life.history) same) })

count : (b : Bool) (n : ℕ) → (if b then n + 1 else 0) < 32 → b ≡ true → n + 1 ≤ 31
count true n lt is = omega (arith, lt)
count false n lt is = absurd cc

pub more_few : (lives new : List TraceLife) (part old : Part) (life draft : TraceLife) (s : TraceState) → begun_lives s < 32 → record { lives = lives; part = old; life = draft } ≡ s → part ≡ old → is_begun part ≡ true → new ≡ lives ++ life ∷ [] → length new ≤ 31
more_few lives new part old life draft s room is same begun grown =
    let few = count (is_begun old) (length lives) (subst (λ (t : TraceState). begun_lives t < 32) (sym is) room) (ap is_begun (sym same) ∙ begun) in
    omega (arith, ap length grown, length-append lives (life ∷ []), few)

pub pair_ranked : (out line : Result (ℕ × PairFound) LineError) (n : ℕ) (fields names : List (List ℕ)) (behind past : Bool) (lives : List TraceLife) (part : Part) (life : TraceLife) (s : TraceState) → record { lives = lives; part = part; life = life } ≡ s
    → names ≡ life.life.names → behind ≡ is_out_of_order part fields → past ≡ is_past n → Answers line (pair_in names fields) → ((read : Result (ℕ × PairFound) Why) → Answers line read → Answers out (ranked read behind past))
    → Answers out (ranked (pair_in s.life.life.names fields) (is_out_of_order s.part fields) (is_past n))
pair_ranked out line n fields names behind past lives part life s is same order count answers ranks =
    subst (Answers out)
    (ap (λ (ns : List (List ℕ)). ranked (pair_in ns fields) behind past) (same ∙ ap (λ (t : TraceState). t.life.life.names) is)
    ∙ ap (λ b. ranked (pair_in s.life.life.names fields) b past) (order ∙ ap (λ (t : TraceState). is_out_of_order t.part fields) is)
    ∙ ap (λ b. ranked (pair_in s.life.life.names fields) (is_out_of_order s.part fields) b) count)
    (ranks (pair_in names fields) answers)
