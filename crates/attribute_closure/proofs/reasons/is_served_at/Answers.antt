use Rattle.std.proofs.Common.{◌≡◌, ℕ, List, ◌∙◌, ap, sym, get_or}
use Rattle.beas_core.specs.declared.query.Atom.{Atom}
use Rattle.attribute_closure.proofs.Searches.{served_there, served_nowhere}
use Rattle.attribute_closure.proofs.reasons.is_served_at.Goals as goal

abbrev none : Atom
none = record { table = record { 0 = 0 }; width = 0 }

table_of : (atoms items : List Atom) (i k : ℕ) → items ≡ atoms → k ≡ i → (get_or items k none).table.0 ≡ (get_or atoms i none).table.0
table_of atoms items i k ea ek = ap (λ xs. (get_or xs k none).table.0) ea ∙ ap (λ n. (get_or atoms n none).table.0) ek

pub returns-then-serves : goal.returns-then-serves
returns-then-serves c =
    served_there c.args.block.now c.args.accesses.now c.args.set.now c.args.atom none c.requires c.loop-access.access-index c.access-item.result
    c.loop-access-test.true c.access-item.is
    (get_or c.as_slice.result.now c.from.result none).table.0
    (table_of c.args.block.now.atoms c.as_slice.result.now c.args.atom c.from.result c.as_slice.ensures c.from.ensures) c.if-access-table.true
    (sym c.serves.ensures ∙ c.if-serves.true)

pub returns : goal.returns
returns c =
    served_nowhere c.args.block.now c.args.accesses.now c.args.set.now c.args.atom none c.requires c.loop-access.access-index c.loop-access-test.false
    (get_or c.as_slice.result.now c.from.result none).table.0
    (table_of c.args.block.now.atoms c.as_slice.result.now c.args.atom c.from.result c.as_slice.ensures c.from.ensures) c.loop-access.invariant
