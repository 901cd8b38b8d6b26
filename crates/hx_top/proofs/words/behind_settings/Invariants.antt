-- The settings so far are counted, and the words behind them are left.
use Rattle.std.proofs.Common.{◌≡◌, ◌≤◌, ◌+◌, length, count_by}
use Rattle.hx_top.specs.Words.{command_in, is_fail, is_fuse, settings_before, texts_of}
use Rattle.hx_top.proofs.words.behind_settings.Given as goal

abbrev pub invariant-settings : goal.invariant-settings
invariant-settings l = record {
  fails : l.fails + count_by is_fail (settings_before (texts_of l.rest)) ≡ count_by is_fail (settings_before (texts_of l.words));
  fuses : l.fuses + count_by is_fuse (settings_before (texts_of l.rest)) ≡ count_by is_fuse (settings_before (texts_of l.words));
  command : command_in (texts_of l.rest) ≡ command_in (texts_of l.words);
  left : l.fails + l.fuses + length l.rest ≤ length l.words;
}

abbrev pub decreases-settings : goal.decreases-settings
decreases-settings l = length l.rest
