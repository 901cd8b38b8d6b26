use Rattle.std.proofs.Common.{sym}
use Rattle.hx_top.proofs.Settings.{no_setting}
use Rattle.hx_top.proofs.words.first_setting.Goals as goal

pub returns-in_default-clause-first : goal.returns-in_default-clause-first
returns-in_default-clause-first c = sym (no_setting c.args.words.now c.in_default.len_below)
