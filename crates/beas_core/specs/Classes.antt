-- Classes of places that a block's equalities make equal, and its needed columns.
--     Linked equalities p q       the least equivalence that holds the equalities relates p and q
--     is_joined equalities p q    the same, computed
--     leaders block               the first place of each class, by atom and then column
--     class_of block p            the class of a place: how many leaders stand before the one that it is joined with
--     needed_columns block i      the columns of atom i that stand in a condition or in the output, ascending
--     normal_of block             the block's normal form
use Rattle.std.specs.Prelude.{◌&&◌, ◌||◌, ◌==◌, Bool, not, ℕ, List, [], ◌∷◌, ◌++◌, length, map, filter, flat_map, Contains}
use Rattle.std.specs.List.{list_any, position_or_len, enumerate_from, range_with_len}
use Rattle.beas_core.specs.declared.schema.ColumnId.{ColumnId}
use Rattle.beas_core.specs.declared.query.Atom.{Atom}
use Rattle.beas_core.specs.declared.query.Place.{Place}
use Rattle.beas_core.specs.declared.query.Operand.{Operand}
use Rattle.beas_core.specs.declared.query.Operand.TheVariants.{At, Fixed}
use Rattle.beas_core.specs.declared.query.Block.{Block}
use Rattle.beas_core.specs.declared.plan.Normal.{Normal}

pub data Linked (equalities : List (Place × Place)) : Place → Place → Type 0 where
  itself : (p : Place) → Linked equalities p p
  equated : (p q : Place) → Contains equalities (p, q) → Linked equalities p q
  turned : (p q : Place) → Linked equalities p q → Linked equalities q p
  chained : (p q r : Place) → Linked equalities p q → Linked equalities q r → Linked equalities p r

abbrev pub same_place : Place → Place → Bool
same_place p q = (p.atom == q.atom) && (p.column.0 == q.column.0)

-- with one more equality, two places are joined where they were or where it bridges their classes
abbrev pub is_joined : List (Place × Place) → Place → Place → Bool
is_joined [] p q = same_place p q
is_joined (e ∷ equalities) p q =
    is_joined equalities p q
    || (is_joined equalities p e.0 && is_joined equalities e.1 q)
    || (is_joined equalities p e.1 && is_joined equalities e.0 q)

-- all places, by atom and then column
abbrev pub places_of : List Atom → List Place
places_of atoms = flat_map (λ a. map (λ c. record { atom = a.0; column = record { 0 = c } }) (range_with_len 0 a.1.width)) (enumerate_from 0 atoms)

abbrev pub firsts : (Place → Place → Bool) → List Place → List Place
firsts same [] = []
firsts same (p ∷ ps) = p ∷ filter (λ q. not (same p q)) (firsts same ps)

abbrev pub leaders : Block → List Place
leaders block = firsts (is_joined block.equalities) (places_of block.atoms)

abbrev pub class_of : Block → Place → ℕ
class_of block p = position_or_len (λ q. is_joined block.equalities q p) (leaders block)

abbrev pub operand_places : Operand → List Place
operand_places (At place) = place ∷ []
operand_places (Fixed value) = []

-- each place in a condition or in the output
abbrev pub used_places : Block → List Place
used_places block =
    flat_map (λ e. e.0 ∷ e.1 ∷ []) block.equalities
    ++ map (λ c. c.0) block.constants
    ++ flat_map (λ c. c.left ∷ operand_places c.right) block.comparisons
    ++ block.output

abbrev pub needed_columns : Block → ℕ → ℕ → List ColumnId
needed_columns block atom width =
    map (λ c. record { 0 = c }) (filter (λ c. list_any (same_place (record { atom = atom; column = record { 0 = c } })) (used_places block))
    (range_with_len 0 width))

unfoldable pub normal_of : Block → Normal
normal_of block = record {
  atoms = block.atoms;
  classes = map (λ a. map (λ c. class_of block (record { atom = a.0; column = record { 0 = c } })) (range_with_len 0 a.1.width)) (enumerate_from 0 block.atoms);
  count = length (leaders block);
  constants = map (λ c. (class_of block c.0, c.1)) block.constants;
  needed = map (λ a. needed_columns block a.0 a.1.width) (enumerate_from 0 block.atoms);
  comparisons = block.comparisons;
  output = block.output;
}
