use Rattle.hx_passes.proofs.passes.Passes.note.Given as goal

-- what was found
abbrev pub ghosts-note : goal.ghosts-note
ghosts-note g a = record { finding = a.finding }
