use Rattle.beas_c.proofs.calls.beas_say.Given as goal

-- the ledger that the counter is of
abbrev pub ghosts-said : goal.ghosts-said
ghosts-said a = record { name = a.blank.name; parts = a.blank.parts }
