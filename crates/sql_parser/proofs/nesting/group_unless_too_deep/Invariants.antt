use Rattle.std.proofs.Common.{◌≡◌, ◌≤◌, drop}
use Rattle.std.specs.Prelude.{◌||◌, nat_lt}
use Rattle.sql_text.specs.Symbols.{symbols, depth, depth_from}
use Rattle.token_reader.specs.Reading.{has_group}
use Rattle.sql_parser.proofs.nesting.group_unless_too_deep.Given as goal

abbrev pub invariant-loop-token : goal.invariant-loop-token
invariant-loop-token l =
    (nat_lt 32 (depth_from l.look.depth l.look.joins (symbols (drop l.token-index l.tokens))) ≡ nat_lt 32 (depth (symbols l.tokens)))
    × (l.look.depth ≤ 32) × (l.look.joins ≤ l.token-index)
    × ((l.look.has_group || has_group (symbols (drop l.token-index l.tokens))) ≡ has_group (symbols l.tokens))
