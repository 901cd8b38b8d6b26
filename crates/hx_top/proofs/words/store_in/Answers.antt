use Rattle.hx_top.proofs.Settings.{no_store}
use Rattle.hx_top.proofs.words.store_in.Goals as goal

pub returns-in_default-clause-some : goal.returns-in_default-clause-some
returns-in_default-clause-some c = no_store c.args.words.now c.in_default.len_below
