use Rattle.hx_passes.proofs.passes.Passes.split.Given as goal

-- the parts that are cut off
abbrev pub ghosts-cut : goal.ghosts-cut
ghosts-cut g a = record { parts = a.parts }
