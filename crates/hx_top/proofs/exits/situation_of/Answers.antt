use Rattle.std.proofs.Common.{◌≡◌, ◌∙◌, ap}
use Rattle.hx_top.specs.declared.exits.Flag.TheVariants.{Last, Folder, Mac}
use Rattle.hx_top.specs.Exits.{behind_flag}
use Rattle.hx_top.specs.Words.{texts_of}
use Rattle.hx_top.proofs.Settings.{none_left}
use Rattle.hx_top.proofs.exits.situation_of.Goals as goal

pub returns-in_default : goal.returns-in_default
returns-in_default c =
    let left : texts_of c.behind_flag.result.now ≡ behind_flag Mac (behind_flag Folder (behind_flag Last (texts_of c.args.words.now))) = c.behind_flag.ensures ∙ ap (behind_flag Mac) (c.behind_flag-behind_folder.ensures ∙ ap (behind_flag Folder) c.behind_flag-behind_last.ensures) in
    none_left c.behind_flag.result.now _ _ c.in_default.len_at_least left
