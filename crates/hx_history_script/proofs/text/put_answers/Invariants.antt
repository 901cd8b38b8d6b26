-- The lines of the answers so far stand there.
use Rattle.std.proofs.Common.{◌≡◌, ◌++◌, drop}
use Rattle.hx_history_script.specs.Texts.{answer_lines}
use Rattle.hx_history_script.proofs.text.put_answers.Given as goal

abbrev pub invariant-loop-answer : goal.invariant-loop-answer
invariant-loop-answer l = l.out.items ++ answer_lines (drop l.answer-index l.answers) ≡ l.fn.out.items ++ answer_lines l.answers
