use Rattle.hx_passes.proofs.passes.Passes.enter.Given as goal

-- the entry that is counted
abbrev pub ghosts-add : goal.ghosts-add
ghosts-add g a = record { entry = a.entry.now }
