-- The one atom of a block over the tables of a store is of a table that is there, and has its width.
use Rattle.std.proofs.Common.{◌≡◌, ◌∙◌, ◌<◌, List, [], ◌∷◌, map, length, get_or, All, ap, sym, arith}
use Rattle.beas_core.specs.declared.query.Atom.{Atom}
use Rattle.beas_core.specs.declared.query.Block.{Block}
use Rattle.beas_core.specs.declared.schema.TableId.{TableId}
use Rattle.beas_core.specs.Shapes.{width_of}
use Rattle.catalogue.specs.Database.{block_table, schema_of}
use Rattle.catalogue.specs.Queries.{AtomIsOver, BlockIsOver}
use Rattle.catalogue.specs.Schema.{Schema, columns_at}
use Rattle.catalogue.proofs.StoredFacts.{length-joined, schema_of_stored}
use Rattle.update_guard.specs.declared.guarded.Guarded.{Guarded}
use Rattle.update_guard.specs.Stored.{database_in}

first_over : (schema : Schema) (atoms : List Atom) (d : TableId) → All (AtomIsOver schema) atoms → length atoms ≡ 1
    → ((get_or (map (λ a. a.table) atoms) 0 d).0 < length schema.tables)
    × (width_of atoms 0 ≡ length (columns_at schema (get_or (map (λ a. a.table) atoms) 0 d)))
first_over schema [] d over one = absurd (omega (arith, one))
first_over schema (a ∷ atoms) d over one = let o = over 0 a (omega arith) in (o.table, o.width)

pub block_is_live : (g : Guarded) (block : Block) → BlockIsOver g.catalogue block → length block.atoms ≡ 1
    → (block_table block).0 < length (database_in g).tables
block_is_live g block over one =
    omega (arith, length-joined g.catalogue.tables g.rows g.kept.tables, (first_over g.catalogue block.atoms (record { 0 = 0 }) over one).0)

pub block_is_wide : (g : Guarded) (block : Block) → BlockIsOver g.catalogue block → length block.atoms ≡ 1
    → width_of block.atoms 0 ≡ length (columns_at (schema_of (database_in g)) (block_table block))
block_is_wide g block over one =
    (first_over g.catalogue block.atoms (record { 0 = 0 }) over one).1
    ∙ ap (λ s. length (columns_at s (block_table block))) (sym (schema_of_stored g.catalogue g.rows g.kept.tables))
