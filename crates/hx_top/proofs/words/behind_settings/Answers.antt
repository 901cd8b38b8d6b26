use Rattle.std.proofs.Common.{rules, ◌≡◌, ◌∙◌, ◌+◌, List, String, cond, count_by, None, length, drop, ap, sym, arith}
use Rattle.std.specs.declared.alloc.Global.{Global}
use Rattle.hx_top.specs.declared.words.Setting.{Setting}
use Rattle.hx_top.specs.Words.{command_in, first_setting, is_fail, is_fuse, settings_before, texts_of}
use Rattle.hx_top.proofs.Settings.{More, count_next, counts_once, few_is, more, rest_is}
use Rattle.hx_top.proofs.words.behind_settings.Goals as goal

pub settings-preserved : goal.settings-preserved
settings-preserved c =
    let rest : List (String Global) = c.settings.rest.now in
    let s : Setting = c.in-Some.setting in
    let next : More rest s = more rest s (sym c.in-Some.ensures.first) in
    let behind : c.behind_setting-rest.result.now ≡ drop 2 rest = c.behind_setting-rest.ensures in
    record {
      fails =
          let one : c.from-fails.result ≡ cond (is_fail s) 1 0 = search rules in
          let counted = count_next is_fail rest s c.settings.fails (count_by is_fail (settings_before (texts_of c.args.words.now))) next c.settings.invariant.fails in
          let left : count_by is_fail (settings_before (texts_of c.behind_setting-rest.result.now)) ≡ count_by is_fail (settings_before (texts_of (drop 2 rest))) = ap (λ (ws : List (String Global)). count_by is_fail (settings_before (texts_of ws))) behind in
          omega (arith, one, counted, left);
      fuses =
          let one : c.from-fuses.result ≡ cond (is_fuse s) 1 0 = search rules in
          let counted = count_next is_fuse rest s c.settings.fuses (count_by is_fuse (settings_before (texts_of c.args.words.now))) next c.settings.invariant.fuses in
          let left : count_by is_fuse (settings_before (texts_of c.behind_setting-rest.result.now)) ≡ count_by is_fuse (settings_before (texts_of (drop 2 rest))) = ap (λ (ws : List (String Global)). count_by is_fuse (settings_before (texts_of ws))) behind in
          omega (arith, one, counted, left);
      command = ap (λ (ws : List (String Global)). command_in (texts_of ws)) behind ∙ sym next.command ∙ c.settings.invariant.command;
      left =
          let fail : c.from-fails.result ≡ cond (is_fail s) 1 0 = search rules in
          let fuse : c.from-fuses.result ≡ cond (is_fuse s) 1 0 = search rules in
          let one : cond (is_fail s) 1 0 + cond (is_fuse s) 1 0 ≡ 1 = counts_once s in
          omega (arith, fail, fuse, one, ap length behind, next.left, c.settings.invariant.left);
    }

pub returns-then-are_few-clause-few : goal.returns-then-are_few-clause-few
returns-then-are_few-clause-few c =
    let rest : List (String Global) = c.settings.rest.now in
    let none : first_setting (texts_of rest) ≡ None = search rules in
    sym (few_is c.args.words.now rest c.settings.fails c.settings.fuses none c.settings.invariant.fails c.settings.invariant.fuses ∙ sym c.are_few.ensures ∙ c.if-are_few.true)

pub returns-then-are_few-clause-command : goal.returns-then-are_few-clause-command
returns-then-are_few-clause-command c =
    let rest : List (String Global) = c.settings.rest.now in
    let none : first_setting (texts_of rest) ≡ None = search rules in
    rest_is c.args.words.now rest none c.settings.invariant.command

pub returns-else-are_few-clause-few : goal.returns-else-are_few-clause-few
returns-else-are_few-clause-few c =
    let rest : List (String Global) = c.settings.rest.now in
    let none : first_setting (texts_of rest) ≡ None = search rules in
    sym (few_is c.args.words.now rest c.settings.fails c.settings.fuses none c.settings.invariant.fails c.settings.invariant.fuses ∙ sym c.are_few.ensures ∙ c.if-are_few.false)
