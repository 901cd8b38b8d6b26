use Rattle.std.proofs.Common.{◌∙◌, ap, sym, is_some}
use Rattle.hx_top.specs.Words.{texts_of}
use Rattle.hx_top.proofs.Settings.{stored_behind, stored_has, texts_drop, unstored_has}
use Rattle.hx_top.proofs.words.command_in.Goals as goal

pub returns-in-Some-clause-few : goal.returns-in-Some-clause-few
returns-in-Some-clause-few c = stored_has (texts_of c.args.words.now) (sym (ap is_some c.in-Some.is) ∙ c.store_in.ensures.some)

pub returns-in-Some-clause-command : goal.returns-in-Some-clause-command
returns-in-Some-clause-command c = ap texts_of c.behind_setting.ensures ∙ texts_drop 2 c.args.words.now ∙ stored_behind (texts_of c.args.words.now) (sym (ap is_some c.in-Some.is) ∙ c.store_in.ensures.some)

pub returns-in-None-clause-few : goal.returns-in-None-clause-few
returns-in-None-clause-few c = c.behind_settings.ensures.few ∙ unstored_has (texts_of c.args.words.now) (sym (ap is_some c.in-None.is) ∙ c.store_in.ensures.some)
