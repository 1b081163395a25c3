use Rattle.std.proofs.Common.{◌≡◌, Some, take, map}
use Rattle.name_resolution.specs.Meanings.{named_by}
use Rattle.name_resolution.specs.Scopes.{found_in, source_of}
use Rattle.name_resolution.proofs.names.find_with_alias.Given as goal

-- the columns of the atoms so far
abbrev pub invariant-loop-number : goal.invariant-loop-number
invariant-loop-number l =
    l.found ≡ found_in (named_by (map source_of (take l.number l.atoms)) (record { table = Some l.alias; column = l.name }))
