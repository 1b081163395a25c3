-- The parts of a block with its names looked up.
use Rattle.std.proofs.Common.{◌≡◌, List, ap, ◌∙◌, map}
use Rattle.std.proofs.Math.Path.{fun_ext}
use Rattle.beas_core.specs.declared.query.Atom.{Atom}
use Rattle.beas_core.specs.declared.schema.ColType.{ColType}
use Rattle.catalogue.specs.Schema.{Schema}
use Rattle.sql_text.specs.declared.tree.BlockTree.{BlockTree}
use Rattle.sql_text.specs.declared.tree.ColumnRef.{ColumnRef}
use Rattle.name_resolution.specs.declared.meaning.Condition.{Condition}
use Rattle.name_resolution.specs.declared.meaning.LookedUp.{LookedUp}
use Rattle.name_resolution.specs.declared.meaning.Meaning.{Meaning}
use Rattle.name_resolution.specs.LookedUp.{atom_of, looked_up, output_kinds}
use Rattle.name_resolution.specs.Meanings.{sources, meaning, condition}

pub looked_up_is : (schema : Schema) (block : BlockTree) (names : ColumnRef → Meaning) → ((ref : ColumnRef)
    → names ref ≡ meaning (sources schema block.from_items) ref)
    → (atoms : List Atom) (items : List Meaning) (kinds : List ColType) (conditions : List Condition)
    → atoms ≡ map (atom_of schema) block.from_items → items ≡ map names block.items → kinds ≡ output_kinds block.star (sources schema block.from_items) items
    → conditions ≡ map (condition names) block.conditions
    → (let found : LookedUp = record { atoms = atoms; star = block.star; items = items; kinds = kinds; conditions = conditions } in found)
    ≡ looked_up schema block
unfolding looked_up
looked_up_is schema block names same atoms items kinds conditions atoms_are items_are kinds_are conditions_are =
    let by_name : names ≡ meaning (sources schema block.from_items) = fun_ext same in
    let items_by : items ≡ map (meaning (sources schema block.from_items)) block.items = items_are ∙ ap (λ ns. map ns block.items) by_name in
    let made : List Atom → List Meaning → List ColType → List Condition
    → LookedUp = λ a i k c. record { atoms = a; star = block.star; items = i; kinds = k; conditions = c } in
    ap (λ a. made a items kinds conditions) atoms_are
    ∙ ap (λ k. made (map (atom_of schema) block.from_items) items k conditions) kinds_are
    ∙ ap (λ i. made (map (atom_of schema) block.from_items) i (output_kinds block.star (sources schema block.from_items) i) conditions) items_by
    ∙ ap (λ c. made (map (atom_of schema) block.from_items) (map (meaning (sources schema block.from_items)) block.items)
    (output_kinds block.star (sources schema block.from_items) (map (meaning (sources schema block.from_items)) block.items)) c)
    (conditions_are ∙ ap (λ ns. map (condition ns) block.conditions) by_name)
