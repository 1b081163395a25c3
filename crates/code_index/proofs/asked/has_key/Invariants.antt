use Rattle.std.proofs.Common.{◌≡◌, take}
use Rattle.code_index.specs.Reading.{pick}
use Rattle.code_index.proofs.asked.has_key.Given as goal

-- the codes so far are the row's
abbrev pub invariant-loop-i : goal.invariant-loop-i
invariant-loop-i l = take l.i (pick l.columns l.row_codes) ≡ take l.i l.key
