use Rattle.std.proofs.Common.{◌≡◌, ◌∙◌, ◌++◌, ℕ, List, Option, String, drop, ap, sym}
use Rattle.std.specs.declared.alloc.Global.{Global}
use Rattle.hx_top.specs.declared.words.Setting.{Setting}
use Rattle.hx_top.specs.Words.{fails_of, fuse_of, later_of, settings_before, texts_of}
use Rattle.hx_top.proofs.Settings.{More, fails_next, fuse_first, fuse_next, more}
use Rattle.hx_top.proofs.words.planned.Goals as goal

pub settings-init : goal.settings-init
settings-init c = record {
  fails = ap (λ (l : List ℕ). l ++ fails_of (settings_before (texts_of c.args.words.now))) c.empty_plan-plan.ensures.fails;
  fuse = ap (λ (o : Option ℕ). later_of o (fuse_of (settings_before (texts_of c.args.words.now)))) c.empty_plan-plan.ensures.fuse ∙ fuse_first (fuse_of (settings_before (texts_of c.args.words.now)));
}

pub settings-preserved : goal.settings-preserved
settings-preserved c =
    let rest : List (String Global) = c.settings.rest.now in
    let s : Setting = c.in-Some.setting in
    let next : More rest s = more rest s (sym c.in-Some.ensures.first) in
    let behind : c.behind_setting-rest.result.now ≡ drop 2 rest = c.behind_setting-rest.ensures in
    record {
      fails = ap (λ (ws : List (String Global)). c.add_setting.new.plan.fails.items ++ fails_of (settings_before (texts_of ws))) behind
          ∙ fails_next rest s c.settings.plan.fails.items c.add_setting.new.plan.fails.items (fails_of (settings_before (texts_of c.args.words.now))) next c.in_ok-add_setting.ensures.fails c.settings.invariant.fails;
      fuse = ap (λ (ws : List (String Global)). later_of c.add_setting.new.plan.fuse (fuse_of (settings_before (texts_of ws)))) behind
          ∙ fuse_next rest s c.settings.plan.fuse c.add_setting.new.plan.fuse (fuse_of (settings_before (texts_of c.args.words.now))) next c.in_ok-add_setting.ensures.fuse c.settings.invariant.fuse;
    }
