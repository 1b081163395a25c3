use Rattle.cases.proofs.main.Given as goal

-- the ledger that the counter is of
abbrev pub ghosts-run_counted : goal.ghosts-run_counted
ghosts-run_counted a = record { name = a.blank.name; parts = a.blank.parts }
