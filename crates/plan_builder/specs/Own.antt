-- The constraints that a block may use, found by the tables of its atoms.
--     with_table accesses own atom     some of the constraints, and all of those on the atom's table, unless one of these is among them
--     own_accesses accesses atoms      the constraints on the tables of some atoms, each once, table by table
use Rattle.std.specs.Prelude.{◌==◌, if◌then◌else◌, List, [], ◌++◌, fold}
use Rattle.std.specs.List.{list_any}
use Rattle.beas_core.specs.declared.query.Atom.{Atom}
use Rattle.beas_core.specs.declared.schema.Access.{Access}
use Rattle.catalogue.specs.Schema.{accesses_on}

abbrev pub with_table : List Access → List Access → Atom → List Access
with_table accesses own atom = if list_any (λ a. a.table.0 == atom.table.0) own then own else own ++ accesses_on accesses atom.table

abbrev pub own_accesses : List Access → List Atom → List Access
own_accesses accesses atoms = fold (with_table accesses) [] atoms
