-- What an event comes to that the rules settle alone, and which work the device has for the others.
use Rattle.std.specs.Prelude.{◌≡◌, ℕ, Bool, true, false, List, [], Option, Some, None, refl}
use Rattle.std.proofs.Common.{subst}
use Rattle.hx_disk.specs.File.{FileState}
use Rattle.hx_events.specs.declared.event.Command.TheVariants.{Open, Create, Edit, Undo, Redo, Save, Revert, Close, Outside}
use Rattle.hx_events.specs.declared.event.Event.{Event}
use Rattle.hx_events.specs.declared.event.Event.TheVariants.{Act, Vault, Flush, Quit}
use Rattle.hx_events.specs.declared.life.Entry.{Entry}
use Rattle.hx_events.specs.declared.outcome.Outcome.{Outcome}
use Rattle.hx_rules.specs.declared.saves.Asked.{Asked as Request}
use Rattle.hx_rules.specs.declared.saves.Asked.TheVariants.{Joined as SaidJoined, Clean as SaidClean, Queued as SaidQueued, Started as SaidStarted}
use Rattle.hx_rules.specs.Due.{VaultWork, SaveWork, Check as DueCheck, Write as DueWrite, Refuse}
use Rattle.hx_rules.specs.Legal.{Opening}
use Rattle.hx_rules.specs.Versions.{Version}
use Rattle.hx_rules_laws.specs.Sizes.{IsWholeEntry}
use Rattle.hx_resource.specs.declared.asks.Asked.{Asked}
use Rattle.hx_resource.specs.declared.asks.Asked.TheVariants.{Settled, Device}
use Rattle.hx_resource.specs.Asks.{open_asks, create_asks, edit_asks, undo_asks, redo_asks, save_asks, revert_asks, close_asks, vault_asks, flush_asks}
use Rattle.hx_core.specs.Cores.{asks_at, quit_outcome}
use Rattle.hx_lives.specs.Caused.{is_fault}
use Rattle.hx_lives.specs.Told.{IsFound}
use Rattle.hx_pairs.specs.UserFiles.{no_stamp}

-- An outcome that needs no device: no stage of a vault, no fault, and nothing said of a file.
pub record IsMild (event : Event) (outcome : Outcome) : Type 0 where
  pub free : no_stamp outcome ≡ true
  pub fine : is_fault outcome ≡ false
  pub whole : IsWholeEntry outcome []
  pub found : (file : FileState) (saved : List Version) → IsFound file event [] saved outcome

-- whatever is settled is mild
abbrev pub IsMildAsked : Event → Asked → Type 0
IsMildAsked event (Settled outcome) = IsMild event outcome
IsMildAsked event (Device work) = Unit {0}

mild_open : (c d : ℕ) (is_open lacks : Bool) → IsMildAsked (Act (Open c)) (open_asks d is_open lacks)
mild_open c d true lacks = record { free = refl; fine = refl; whole = tt; found = λ file saved. tt }
mild_open c d false true = record { free = refl; fine = refl; whole = tt; found = λ file saved. tt }
mild_open c d false false = tt

mild_create : (c : ℕ) (is_open lacks : Bool) (last : ℕ) → IsMildAsked (Act (Create c)) (create_asks is_open lacks last)
mild_create c true lacks last = record { free = refl; fine = refl; whole = tt; found = λ file saved. tt }
mild_create c false true last = record { free = refl; fine = refl; whole = tt; found = λ file saved. tt }
mild_create c false false last = record { free = refl; fine = refl; whole = tt; found = λ file saved. tt }

mild_edit : (c off del : ℕ) (text : List ℕ) (is_open deletes grows : Bool) (last : ℕ) → IsMildAsked (Act (Edit c off del text)) (edit_asks is_open deletes grows last)
mild_edit c off del text false deletes grows last = record { free = refl; fine = refl; whole = tt; found = λ file saved. tt }
mild_edit c off del text true true grows last = record { free = refl; fine = refl; whole = tt; found = λ file saved. tt }
mild_edit c off del text true false true last = record { free = refl; fine = refl; whole = tt; found = λ file saved. tt }
mild_edit c off del text true false false last = record { free = refl; fine = refl; whole = tt; found = λ file saved. tt }

mild_undo : (c : ℕ) (is_open can : Bool) (last : ℕ) → IsMildAsked (Act (Undo c)) (undo_asks is_open can last)
mild_undo c false can last = record { free = refl; fine = refl; whole = tt; found = λ file saved. tt }
mild_undo c true false last = record { free = refl; fine = refl; whole = tt; found = λ file saved. tt }
mild_undo c true true last = record { free = refl; fine = refl; whole = tt; found = λ file saved. tt }

mild_redo : (c : ℕ) (is_open can : Bool) (last : ℕ) → IsMildAsked (Act (Redo c)) (redo_asks is_open can last)
mild_redo c false can last = record { free = refl; fine = refl; whole = tt; found = λ file saved. tt }
mild_redo c true false last = record { free = refl; fine = refl; whole = tt; found = λ file saved. tt }
mild_redo c true true last = record { free = refl; fine = refl; whole = tt; found = λ file saved. tt }

mild_save : (c : ℕ) (force over is_open : Bool) (request : Request) (last : ℕ) → IsMildAsked (Act (Save c force over)) (save_asks is_open request last)
mild_save c force over false request last = record { free = refl; fine = refl; whole = tt; found = λ file saved. tt }
mild_save c force over true SaidJoined last = record { free = refl; fine = refl; whole = tt; found = λ file saved. tt }
mild_save c force over true SaidClean last = record { free = refl; fine = refl; whole = tt; found = λ file saved. tt }
mild_save c force over true SaidQueued last = record { free = refl; fine = refl; whole = tt; found = λ file saved. tt }
mild_save c force over true SaidStarted last = record { free = refl; fine = refl; whole = tt; found = λ file saved. tt }

mild_revert : (c d : ℕ) (is_open is_saving : Bool) → IsMildAsked (Act (Revert c)) (revert_asks d is_open is_saving)
mild_revert c d false is_saving = record { free = refl; fine = refl; whole = tt; found = λ file saved. tt }
mild_revert c d true true = record { free = refl; fine = refl; whole = tt; found = λ file saved. tt }
mild_revert c d true false = tt

mild_close : (c : ℕ) (is_open is_saving : Bool) → IsMildAsked (Act (Close c)) (close_asks is_open is_saving)
mild_close c false is_saving = record { free = refl; fine = refl; whole = tt; found = λ file saved. tt }
mild_close c true true = record { free = refl; fine = refl; whole = tt; found = λ file saved. tt }
mild_close c true false = record { free = refl; fine = refl; whole = tt; found = λ file saved. tt }

mild_vault : (c d : ℕ) (due : Option VaultWork) → IsMildAsked (Vault c) (vault_asks d due)
mild_vault c d None = record { free = refl; fine = refl; whole = tt; found = λ file saved. tt }
mild_vault c d (Some w) = tt

mild_flush : (c d : ℕ) (due : Option SaveWork) → IsMildAsked (Flush c) (flush_asks d due)
mild_flush c d None = record { free = refl; fine = refl; whole = tt; found = λ file saved. tt }
mild_flush c d (Some DueCheck) = tt
mild_flush c d (Some (DueWrite v)) = tt
mild_flush c d (Some (Refuse v)) = record { free = refl; fine = refl; whole = tt; found = λ file saved. tt }

mild_quit : (lowest : Option ℕ) → IsMild Quit (quit_outcome lowest)
mild_quit None = record { free = refl; fine = refl; whole = tt; found = λ file saved. tt }
mild_quit (Some c) = record { free = refl; fine = refl; whole = tt; found = λ file saved. tt }

pub asked_is_mild : (o : Opening) (es : List Entry) (event : Event) → IsMildAsked event (asks_at o es event)
asked_is_mild o es (Act (Open c)) = mild_open c c _ _
asked_is_mild o es (Act (Create c)) = mild_create c _ _ _
asked_is_mild o es (Act (Edit c off del text)) = mild_edit c off del text _ _ _ _
asked_is_mild o es (Act (Undo c)) = mild_undo c _ _ _
asked_is_mild o es (Act (Redo c)) = mild_redo c _ _ _
asked_is_mild o es (Act (Save c force over)) = mild_save c force over _ _ _
asked_is_mild o es (Act (Revert c)) = mild_revert c c _ _
asked_is_mild o es (Act (Close c)) = mild_close c _ _
asked_is_mild o es (Act (Outside c mtime text)) = tt
asked_is_mild o es (Vault c) = mild_vault c c _
asked_is_mild o es (Flush c) = mild_flush c c _
asked_is_mild o es Quit = mild_quit _

-- What is settled is mild.
pub settled_is_mild : (o : Opening) (es : List Entry) (event : Event) (outcome : Outcome) → asks_at o es event ≡ Settled outcome → IsMild event outcome
settled_is_mild o es event outcome is = subst (IsMildAsked event) is (asked_is_mild o es event)
