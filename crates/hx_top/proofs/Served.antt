-- What the program has done, by which of its two calls served the words.
use Rattle.std.specs.Prelude.{◌≡◌, ◌≢◌, ℕ, Bool, true, false, IsTrue, List, reverse, Option, Some, None, is_some, refl}
use Rattle.std.proofs.Common.{ap, sym, ◌∙◌, subst}
use Rattle.hx_disk.specs.File.{FileState}
use Rattle.hx_events.specs.declared.life.Life.{Life}
use Rattle.hx_faults.specs.Faults.{Rose}
use Rattle.hx_guarded_laws.specs.Lives.{HaveKept}
use Rattle.hx_io.specs.Streams.{AddsFront, added}
use Rattle.hx_lives.specs.Chained.{faults_of as faults_over}
use Rattle.hx_lives.specs.Course.{Past}
use Rattle.hx_memdisk.specs.declared.course.Course.{Course}
use Rattle.hx_memdisk.specs.declared.course.Plan.{Plan}
use Rattle.hx_memdisk.specs.declared.memdisk.MemDisk.{MemDisk}
use Rattle.hx_memdisk.specs.MemDisk.{course_of, files_of, recorded}
use Rattle.hx_memdisk.specs.Replay.{no_file}
use Rattle.hx_report.specs.Traces.{trace_text}
use Rattle.hx_top.specs.declared.whole.End.{End}
use Rattle.hx_top.specs.declared.whole.End.TheVariants.{Done, WriteFault, OpenFault}
use Rattle.hx_top.specs.declared.words.DiskChoice.TheVariants.{Memory}
use Rattle.hx_top.specs.declared.words.Order.{Order}
use Rattle.hx_top.specs.declared.words.Order.TheVariants.{History, Play}
use Rattle.hx_top.specs.declared.words.RunOrder.{RunOrder}
use Rattle.hx_top.specs.declared.exits.ExitOrder.{ExitOrder}
use Rattle.hx_top.specs.declared.words.Task.{Task}
use Rattle.hx_top.specs.declared.words.Task.TheVariants.{Exit}
use Rattle.hx_top.specs.Asking.{ClosesSafely}
use Rattle.hx_top.specs.Histories.{HasPlayedHistory}
use Rattle.hx_top.specs.Program.{HasServed, IsNewDisk, IsOfLives, ServedBy, ServedInMemory, printed_by, refusal_by}
use Rattle.hx_top.specs.Runs.{HasBeenRun, run_refusal}
use Rattle.hx_top.specs.Whole.{HavePlayed, IsOfInput, printed, refusal}
use Rattle.hx_top.specs.Words.{IsChosen, order_in, run_in, stored_in}

printed_run : (o : Option RunOrder) (words : List (List ℕ)) (input : List ℕ) (lives : List Life) → is_some o ≡ true → printed_by o words input lives ≡ trace_text lives
printed_run (Some order) words input lives is = refl
printed_run None words input lives is = absurd cc

printed_other : (o : Option RunOrder) (words : List (List ℕ)) (input : List ℕ) (lives : List Life) → is_some o ≡ false → printed_by o words input lives ≡ printed (order_in words) input lives
printed_other (Some order) words input lives is = absurd cc
printed_other None words input lives is = refl

pub refusal_run : (o : Option RunOrder) (words : List (List ℕ)) (input : List ℕ) → is_some o ≡ true → refusal_by o words input ≡ run_refusal input
refusal_run (Some order) words input is = refl
refusal_run None words input is = absurd cc

pub refusal_other : (o : Option RunOrder) (words : List (List ℕ)) (input : List ℕ) → is_some o ≡ false → refusal_by o words input ≡ refusal (order_in words) input
refusal_other (Some order) words input is = absurd cc
refusal_other None words input is = refl

-- there is no run, and there is one
not_both : {A : Type 0} (o : Option RunOrder) (order : RunOrder) → is_some o ≡ false → o ≡ Some order → A
not_both o order none some = absurd (let odd : false ≡ true = sym none ∙ ap is_some some in cc)

not_neither : {A : Type 0} (o : Option RunOrder) → is_some o ≡ true → o ≡ None → A
not_neither o some none = absurd (let odd : false ≡ true = sym (ap is_some none) ∙ some in cc)

pub by_run : (picked : ℕ → FileState → List ℕ) (tells : Bool) (past : Past) (words : List (List ℕ)) (input before now : List ℕ) (end : End) (a start b count : ℕ) (lives : List Life) (at_first at_end : ℕ → FileState) (marks : List ℕ) → is_some (run_in words) ≡ true
    → (end ≡ Done → added before now ≡ trace_text lives) → (end ≡ WriteFault → AddsFront (trace_text lives) before now)
    → ((order : RunOrder) → run_in words ≡ Some order → IsOfInput end → HasBeenRun picked tells past order.guarded input end a start b count (reverse lives))
    → (IsTrue tells → HaveKept past b (reverse lives)) → (end ≡ OpenFault → Rose (faults_over start (reverse lives)) count) → HasServed picked tells past words input before now end a start b count lives at_first at_end marks
by_run picked tells past words input before now end a start b count lives at_first at_end marks is done front ran kept unopened = record {
  done = λ of_lives ended. done ended ∙ sym (printed_run (run_in words) words input lives is);
  front = λ of_lives ended. subst (λ (text : List ℕ). AddsFront text before now) (sym (printed_run (run_in words) words input lives is)) (front ended);
  played = λ task none. not_neither (run_in words) is none;
  ran = ran;
  kept = kept;
  closes = λ order none. not_neither (run_in words) is none;
  open_fault = unopened;
  history = λ none. not_neither (run_in words) is none;
}

-- what tells of lives is asked for by other words than a local history
not_kept : (run : Option RunOrder) (asked : Option Order) → is_some run ≡ false → IsOfLives run asked → asked ≢ Some History
not_kept (Some order) asked none of_lives is = absurd cc
not_kept None asked none of_lives is = subst (IsOfLives None) is of_lives

pub by_top : (picked : ℕ → FileState → List ℕ) (tells : Bool) (past : Past) (words : List (List ℕ)) (input before now : List ℕ) (end : End) (a start b count : ℕ) (lives : List Life) (at_first at_end : ℕ → FileState) (marks : List ℕ) → is_some (run_in words) ≡ false
    → (order_in words ≢ Some History → end ≡ Done → added before now ≡ printed (order_in words) input lives) → (order_in words ≢ Some History → end ≡ WriteFault → AddsFront (printed (order_in words) input lives) before now)
    → ((task : Task) → order_in words ≡ Some (Play task) → IsOfInput end → HavePlayed picked tells past task input end a start b count (reverse lives))
    → (IsTrue tells → HaveKept past b (reverse lives)) → ((order : ExitOrder) → order_in words ≡ Some (Play (Exit order)) → IsTrue tells → end ≡ Done → ClosesSafely order past b (reverse lives))
    → (end ≡ OpenFault → Rose (faults_over start (reverse lives)) count) → (order_in words ≡ Some History → IsOfInput end → HasPlayedHistory tells start count at_first at_end input before now end marks) → HasServed picked tells past words input before now end a start b count lives at_first at_end marks
by_top picked tells past words input before now end a start b count lives at_first at_end marks is done front played kept closes unopened history = record {
  done = λ of_lives ended. done (not_kept (run_in words) (order_in words) is of_lives) ended ∙ sym (printed_other (run_in words) words input lives is);
  front = λ of_lives ended. subst (λ (text : List ℕ). AddsFront text before now) (sym (printed_other (run_in words) words input lives is)) (front (not_kept (run_in words) (order_in words) is of_lives) ended);
  played = λ task none. played task;
  ran = λ order some. not_both (run_in words) order is some;
  kept = kept;
  closes = λ order none. closes order;
  open_fault = unopened;
  history = λ none. history;
}

-- a disk in memory of the plan that the words name
pub new_disk : (words : List (List ℕ)) (plan : Plan) (disk : MemDisk) → IsChosen words (Memory plan) → ((f : ℕ) → files_of disk f ≡ no_file) → recorded disk ≡ 0 → course_of disk ≡ record { plan = plan; calls = 0; writes = 0; faults = 0 } → IsNewDisk words disk
new_disk words plan disk chosen empty unused course = record {
  planned = subst (λ (p : Plan). IsChosen words (Memory p)) (sym (ap (λ (c : Course). c.plan) course)) chosen;
  empty = empty;
  unused = unused;
  no_fault = ap (λ (c : Course). c.faults) course;
}

-- where the words name no folder
pub in_memory : (words : List (List ℕ)) (input before now : List ℕ) (end : End) → stored_in words ≡ None → ServedInMemory words input before now end → ServedBy (stored_in words) words input before now end
in_memory words input before now end none served = subst (λ (o : Option (List ℕ)). ServedBy o words input before now end) (sym none) served
