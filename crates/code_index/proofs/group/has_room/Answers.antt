use Rattle.std.proofs.Common.{◌≡◌, ◌≢◌, ◌<◌, ◌≤◌, ℕ, List, length, inr, sym, subst, arith}
use Rattle.std.specs.Prelude.{Option, Some, None, MatchOption, is_some, slice_index_or}
use Rattle.std.specs.List.{AllByRecursion}
use Rattle.beas_core.specs.declared.schema.Access.{Access}
use Rattle.beas_core.specs.Groups.{member_columns}
use Rattle.labelled_list.specs.declared.coded.Coded.{Coded}
use Rattle.code_index.specs.Reading.{pick}
use Rattle.code_index.specs.Taking.{HasRoom}
use Rattle.code_index.proofs.group.has_room.Goals as goal

-- a full group has room where the row's tuple was found
full : (access : Access) (row_codes : List ℕ) (group : List Coded) → access.bound ≤ length group → (found : Option ℕ)
    → MatchOption found (AllByRecursion (λ c. c.codes ≢ pick (member_columns access) row_codes) group)
    (λ at. (at < length group) × ((d : Coded) → (slice_index_or group at d).codes ≡ pick (member_columns access) row_codes))
    → HasRoom (is_some found) access row_codes group
full access row_codes group l (Some at) m = inr (record { at = at; within = m.0; same = m.1 })
full access row_codes group l None m = (l, m)

pub returns : goal.returns
returns c =
    subst (λ b. HasRoom b c.args.access.now c.args.row_codes.now c.args.group.now) (sym c.is_some.ensures)
    (full c.args.access.now c.args.row_codes.now c.args.group.now (omega (arith, c.if-len-access.false, c.len.ensures)) c.position_of.result
    c.position_of.ensures)
