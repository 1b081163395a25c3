-- Constants for the same classes cover alike, whatever their values.
use Rattle.std.proofs.Common.{◌≡◌, ℕ, List, [], ◌∷◌, ◌++◌, map, pos, refl, ap, sym, ◌∙◌}
use Rattle.std.specs.List.{list_any, filter, enumerate_from, range_with_len, flat_map}
use Rattle.beas_core.specs.declared.schema.Access.{Access}
use Rattle.beas_core.specs.declared.schema.ColumnId.{ColumnId}
use Rattle.beas_core.specs.declared.value.Value.{Value}
use Rattle.beas_core.specs.declared.value.Value.TheVariants.{Int}
use Rattle.beas_core.specs.declared.query.Place.{Place}
use Rattle.beas_core.specs.declared.query.Block.{Block}
use Rattle.beas_core.specs.declared.plan.Normal.{Normal}
use Rattle.beas_core.specs.Types.{ClassSet}
use Rattle.beas_core.specs.Classes.{class_of, operand_places, same_place, normal_of}
use Rattle.beas_core.specs.Coverage.{with_classes, constant_classes, covered_set, own_cover, is_covered, own_is_covered}
use Rattle.specialise.specs.Specialised.{first_place, with_constants, is_covered_with}
use Rattle.specialise.proofs.Added.{covered_same, start_more, constants_split}

module _ (accesses : List Access) (block : Block) (given : List (ℕ × Value)) where
  abbrev constant_for : ℕ → ℕ × Value
  constant_for c = (c, Int (pos 0))

  abbrev plain : List (ℕ × Value)
  plain = map constant_for (map (λ (g : ℕ × Value). g.0) given)

  abbrev more : Block
  more = with_constants block given

  abbrev other : Block
  other = with_constants block plain

  same_map : {A : Type 0} (f : ℕ → A) (gs : List (ℕ × Value)) → map (λ (g : ℕ × Value). f g.0) gs ≡ map (λ (g : ℕ × Value). f g.0) (map constant_for (map (λ (g : ℕ × Value). g.0) gs))
  same_map f [] = refl
  same_map f (g ∷ gs) = ap (λ xs. f g.0 ∷ xs) (same_map f gs)

  cover_same : own_cover (normal_of more) accesses ≡ own_cover (normal_of other) accesses
  cover_same =
      covered_same accesses block given (constant_classes (normal_of more))
      ∙ ap (covered_set (normal_of block) accesses)
      (start_more accesses block given
      ∙ ap (with_classes (constant_classes (normal_of block))) (same_map (λ c. class_of block (first_place block c)) given)
      ∙ sym (start_more accesses block plain))
      ∙ sym (covered_same accesses block plain (constant_classes (normal_of other)))

  constants_same : map (λ (c : Place × Value). c.0) more.constants ≡ map (λ (c : Place × Value). c.0) other.constants
  constants_same =
      constants_split accesses block given block.constants given
      ∙ ap (λ ps. map (λ (c : Place × Value). c.0) block.constants ++ ps) (same_map (first_place block) given)
      ∙ sym (constants_split accesses block given block.constants plain)

  abbrev needed_by : List Place → List (List ColumnId)
  needed_by constants = map (λ a. map (λ c. record { 0 = c }) (filter (λ c. list_any (same_place (record { atom = a.0; column = record { 0 = c } }))
      (flat_map (λ e. e.0 ∷ e.1 ∷ []) block.equalities ++ constants ++ flat_map (λ c. c.left ∷ operand_places c.right) block.comparisons ++ block.output))
      (range_with_len 0 a.1.width))) (enumerate_from 0 block.atoms)

  abbrev with_needed : List Place → Normal
  with_needed constants = record (normal_of block) { needed = needed_by constants }

  tested_same : (set : ClassSet) → is_covered (normal_of more) accesses set ≡ is_covered (normal_of other) accesses set
  unfolding normal_of is_covered
  tested_same set = ap (λ ps. is_covered (with_needed ps) accesses set) constants_same

  pub values_free : own_is_covered (normal_of more) accesses ≡ is_covered_with accesses block (map (λ g. g.0) given)
  values_free = ap (is_covered (normal_of more) accesses) cover_same ∙ tested_same (own_cover (normal_of other) accesses)
