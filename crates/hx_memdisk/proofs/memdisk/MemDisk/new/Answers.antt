use Rattle.std.proofs.Common.{List, ap, ◌∙◌}
use Rattle.hx_memdisk.specs.Event.{Event}
use Rattle.hx_memdisk.specs.Replay.{no_file, file_after, replayed-nil}
use Rattle.hx_memdisk.proofs.memdisk.MemDisk.new.Goals as goal

pub returns-clause-files : goal.returns-clause-files
returns-clause-files c = λ f. ap (λ (l : List Event). file_after l f) c.new.ensures ∙ replayed-nil f no_file
