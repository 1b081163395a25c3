use Rattle.beas_shell.proofs.main.Given as goal

-- the ledger that the counter is of
abbrev pub ghosts-start : goal.ghosts-start
ghosts-start a = record { name = a.blank.name; parts = a.blank.parts }
