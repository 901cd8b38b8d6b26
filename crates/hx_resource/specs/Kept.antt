-- What is kept of a resource as plain data, and what each outcome makes of it.
use Rattle.std.specs.Prelude.{ℕ, ◌+◌, ◌==◌, max, nat_le, Bool, true, false, ◌||◌, List, [], length, if◌then◌else◌, Option, Some, None, is_some, option_map}
use Rattle.hx_etag.specs.declared.stat.Stat.{Stat}
use Rattle.hx_events.specs.declared.backup.Backup.{Backup}
use Rattle.hx_events.specs.declared.event.Command.TheVariants.{Edit, Save}
use Rattle.hx_events.specs.declared.event.Event.{Event}
use Rattle.hx_events.specs.declared.event.Event.TheVariants.{Act}
use Rattle.hx_events.specs.declared.event.Stage.TheVariants.{Prepare, Body, Open, Drop}
use Rattle.hx_events.specs.declared.outcome.Outcome.{Outcome}
use Rattle.hx_events.specs.declared.outcome.Outcome.TheVariants.{Opened, Created, Edited, Undone, Redone, Joined, Clean, Queued, Started, Reverted, Closed, StageOk, StageFault, Checked, Modified, CheckFault, Saved, WriteFault, Unguarded}
use Rattle.hx_rules.specs.declared.saves.Asked.{Asked}
use Rattle.hx_rules.specs.declared.saves.Asked.TheVariants.{Joined as SaidJoined, Clean as SaidClean, Queued as SaidQueued, Started as SaidStarted}
use Rattle.hx_rules.specs.declared.saves.Running.{Running}
use Rattle.hx_rules.specs.declared.saves.SaveAnswer.TheVariants.{Saved as AnswerSaved, ModifiedSince, DiskFault, Unguarded as AnswerUnguarded}
use Rattle.hx_rules.specs.Versions.{adds_version}
use Rattle.hx_rules.specs.Saves.{starts}
use Rattle.hx_rules.specs.Backups.{Begun, begun_of, snapshot, one_block_more, begun_after, halted_after, opened_after, faded_after, write_failed_after}
use Rattle.hx_seq.specs.Keeps.{Seq, asked_seq, checked_seq, finished_seq, empty_seq}
use Rattle.hx_copy.specs.Copies.{Copy, CopyState, new_copy, edited_copy, undone_copy, redone_copy, reverted_copy, saved_copy, is_dirty_copy}

-- What is kept of one resource, for any history that led there.
pub record Kept : Type 0 where
  -- the last version id, which goes on when the copy is closed and opened again
  pub last : ℕ
  pub copy : Option Copy
  pub seq : Seq
  -- the content of the running save's version
  pub saving : List ℕ
  pub begun : Option Begun
  -- the version of the completed backup
  pub done : Option ℕ
  -- the latest version that was backed up since the last discard was tried
  pub safe : Option ℕ
  pub halted : Bool
  pub opened : Bool
  pub faded : Bool
  pub write_failed : Bool

abbrev pub restored_kept : List ℕ → Option Stat → Kept
restored_kept content base = record { last = 1; copy = Some (new_copy 1 content base false); seq = empty_seq; saving = []; begun = None; done = Some 1; safe = None; halted = false; opened = true; faded = false; write_failed = false }

-- What is kept at the opening of a life of a resource without a backup, and of one that is restored: a backup is version 1
-- of its copy, which is dirty.
abbrev pub kept_at_first : Option Backup → Kept
kept_at_first None = record { last = 0; copy = None; seq = empty_seq; saving = []; begun = None; done = None; safe = None; halted = false; opened = false; faded = false; write_failed = false }
kept_at_first (Some b) = restored_kept b.content b.base

-- is the copy there, and not in its clean state?
abbrev pub dirty_now : Option Copy → Bool
dirty_now None = false
dirty_now (Some c) = is_dirty_copy c

-- the content of the last version, where the copy is there
abbrev pub content_in : Option Copy → List ℕ
content_in None = []
content_in (Some c) = c.here.content

-- the stat that the copy keeps
abbrev pub base_in : Option Copy → Option Stat
base_in None = None
base_in (Some c) = c.base

-- the life is guarded and a save runs
abbrev pub held_by : Bool → Option Running → Bool
held_by guarded run = elim guarded [ true ↦ is_some run | false ↦ false ]

-- a backup of the copy is wanted
abbrev pub wanted_by : Bool → Option Copy → Option Running → Bool
wanted_by guarded copy run = dirty_now copy || held_by guarded run

-- the copy after an edit; no other event is one
abbrev pub edited_by : Event → Copy → Copy
edited_by (Act (Edit c off del text)) was = edited_copy off del text was
edited_by _ was = was

-- What an outcome makes of the copy. The content is what was read, and `n` the next version id.
abbrev pub copy_after : Outcome → Event → List ℕ → ℕ → Option Copy → Option Copy
copy_after (Opened s) event content n was = Some (new_copy n content (Some s) true)
copy_after (Created v) event content n was = Some (new_copy n [] None true)
copy_after (Edited v) event content n was = option_map (edited_by event) was
copy_after (Undone v) event content n was = option_map undone_copy was
copy_after (Redone v) event content n was = option_map redone_copy was
copy_after (Reverted s) event content n was = option_map (reverted_copy content s) was
copy_after Closed event content n was = None
copy_after (Saved v x) event content n was = option_map (saved_copy v x) was
copy_after _ event content n was = was

-- the sequencer after a request; no other event is one
abbrev pub asks_seq : Event → ℕ → ℕ → Asked → Seq → Seq
asks_seq (Act (Save c force over)) place last asked s = asked_seq place last force over asked s
asks_seq _ place last asked s = s

-- What an outcome makes of the saves. `after` says whether the copy is dirty after it.
abbrev pub seq_after : Outcome → Event → ℕ → ℕ → Bool → Seq → Seq
seq_after Joined event place last after s = asks_seq event place last SaidJoined s
seq_after Clean event place last after s = asks_seq event place last SaidClean s
seq_after Queued event place last after s = asks_seq event place last SaidQueued s
seq_after (Started v) event place last after s = asks_seq event place last SaidStarted s
seq_after (Checked x) event place last after s = checked_seq s
seq_after CheckFault event place last after s = finished_seq last after DiskFault s
seq_after (Modified x) event place last after s = finished_seq last after ModifiedSince s
seq_after (WriteFault v) event place last after s = finished_seq last after DiskFault s
seq_after (Unguarded v) event place last after s = finished_seq last after AnswerUnguarded s
seq_after (Saved v x) event place last after s = finished_seq last after (AnswerSaved v) s
seq_after _ event place last after s = s

abbrev pub is_save : Event → Bool
is_save (Act (Save c force over)) = true
is_save _ = false

-- does a save start with the outcome? `next` says whether a finish would start what is queued
abbrev pub starts_run : Outcome → Event → Bool → Bool
starts_run (Started v) event next = is_save event
starts_run CheckFault event next = next
starts_run (Modified x) event next = next
starts_run (WriteFault v) event next = next
starts_run (Unguarded v) event next = next
starts_run (Saved v x) event next = next
starts_run _ event next = false

-- the version of the completed backup after an outcome
abbrev pub done_version_after : Outcome → Option ℕ → Option ℕ
done_version_after (StageOk Open v) was = Some v
done_version_after (StageOk Drop v) was = None
done_version_after _ was = was

abbrev pub later : ℕ → Option ℕ → ℕ
later w None = w
later w (Some m) = max w m

-- The latest version that is safe: a completed backup raises it, and a discard that is completed or tried takes it away.
abbrev pub safe_to_after : Outcome → Option ℕ → Option ℕ
safe_to_after (StageOk Open w) was = Some (later w was)
safe_to_after (StageOk Drop w) was = None
safe_to_after (StageFault Drop w) was = None
safe_to_after _ was = was

-- is this version, or a later one, safe?
abbrev pub is_safe_to : ℕ → Option ℕ → Bool
is_safe_to v None = false
is_safe_to v (Some m) = nat_le v m

-- the content of the last version or of the running one
abbrev pub content_at : ℕ → Kept → List ℕ
content_at v s = if v == s.last then content_in s.copy else s.saving

-- what a Prepare of the version v begins
abbrev pub begins : ℕ → Kept → Begun
begins v s = begun_of (snapshot v (base_in s.copy) (content_at v s)) (length (content_at v s)) 0

-- What the outcome makes of what is kept, with the copy and the saves that it leads to.
abbrev pub kept_with : Bool → Event → Outcome → Option Copy → Seq → Kept → Kept
kept_with guarded event outcome copy seq s = record {
  last = if adds_version outcome then s.last + 1 else s.last;
  copy = copy;
  seq = seq;
  saving = if starts_run outcome event (starts s.seq.queue (dirty_now copy)) then content_in copy else s.saving;
  begun = begun_after outcome (wanted_by guarded copy seq.run) (λ v. begins v s) s.begun;
  done = done_version_after outcome s.done;
  safe = safe_to_after outcome s.safe;
  halted = halted_after outcome s.halted;
  opened = opened_after outcome s.opened;
  faded = faded_after outcome s.faded;
  write_failed = write_failed_after outcome s.write_failed;
}

-- the copy after the outcome
abbrev pub new_copy_of : Event → Outcome → List ℕ → Kept → Option Copy
new_copy_of event outcome content s = copy_after outcome event content (s.last + 1) s.copy

-- the saves after the outcome; the place is the ticket of a request
abbrev pub new_seq_of : ℕ → Event → Outcome → List ℕ → Kept → Seq
new_seq_of place event outcome content s = seq_after outcome event place s.last (dirty_now (new_copy_of event outcome content s)) s.seq

-- What the outcome of an event makes of what is kept.
abbrev pub kept_after : Bool → ℕ → Event → Outcome → List ℕ → Kept → Kept
kept_after guarded place event outcome content s = kept_with guarded event outcome (new_copy_of event outcome content s) (new_seq_of place event outcome content s) s

-- What is kept, and what there is room for: in the copy, for tickets, and for the bytes of one more content.
pub record ResourceState : Type 0 where
  pub kept : Kept
  pub copy : Option CopyState
  pub tickets : ℕ
  pub spare : ℕ

-- a begun backup where the outcome begins one
abbrev pub snapshot_for : Outcome → Kept → Option Begun
snapshot_for (StageOk Prepare v) s = Some (begins v s)
snapshot_for _ s = None

-- the begun backup after the outcome, with the one that it began
abbrev pub begun_given : Outcome → Bool → Option Begun → Option Begun → Option Begun
begun_given (StageOk Prepare v) is_wanted given was = given
begun_given (StageOk Open v) is_wanted given was = None
begun_given (StageFault s v) is_wanted given was = None
begun_given (StageOk Body v) is_wanted given was = if is_wanted then one_block_more was else None
begun_given _ is_wanted given was = if is_wanted then was else None

-- Kept is changed in three steps: the copy, the saves, and the rest.
abbrev pub with_copy : Option Copy → Kept → Kept
with_copy copy s = record { last = s.last; copy = copy; seq = s.seq; saving = s.saving; begun = s.begun; done = s.done; safe = s.safe; halted = s.halted; opened = s.opened; faded = s.faded; write_failed = s.write_failed }

abbrev pub with_saves : Seq → List ℕ → Kept → Kept
with_saves seq saving s = record { last = s.last; copy = s.copy; seq = seq; saving = saving; begun = s.begun; done = s.done; safe = s.safe; halted = s.halted; opened = s.opened; faded = s.faded; write_failed = s.write_failed }

abbrev pub rest_after : Bool → Outcome → Option Begun → Kept → Kept
rest_after guarded outcome given s = record {
  last = if adds_version outcome then s.last + 1 else s.last;
  copy = s.copy;
  seq = s.seq;
  saving = s.saving;
  begun = begun_given outcome (wanted_by guarded s.copy s.seq.run) given s.begun;
  done = done_version_after outcome s.done;
  safe = safe_to_after outcome s.safe;
  halted = halted_after outcome s.halted;
  opened = opened_after outcome s.opened;
  faded = faded_after outcome s.faded;
  write_failed = write_failed_after outcome s.write_failed;
}
