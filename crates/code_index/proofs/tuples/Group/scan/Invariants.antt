use Rattle.std.proofs.Common.{◌≢◌, take}
use Rattle.std.specs.List.{AllByRecursion}
use Rattle.beas_core.specs.Groups.{member_columns}
use Rattle.labelled_list.specs.declared.coded.Coded.{Coded}
use Rattle.code_index.specs.Reading.{pick}
use Rattle.code_index.proofs.tuples.Group.scan.Given as goal

-- none so far is the row's
abbrev pub invariant-loop-i : goal.invariant-loop-i
invariant-loop-i l = AllByRecursion (λ (tuple : Coded). tuple.codes ≢ pick (member_columns l.access) l.row_codes) (take l.i l.self)
