-- A query without refusals can be built.
use Rattle.std.proofs.Common.{◌≡◌, ℕ, ◌+◌, ◌<◌, ◌≤◌, ◌^◌, List, [], ◌∷◌, ◌++◌, length, map, All, refl, ap, arith, sym, ◌∙◌, subst, Bool, true, false, None, ltb}
use Rattle.std.specs.List.{enumerate_from, flat_map}
use Rattle.std.proofs.lemmas.Bool.Decides.{nat_tests}
use Rattle.std.proofs.lemmas.List.{length-map}
use Rattle.beas_core.specs.declared.limits.Limits.{Limits}
use Rattle.beas_core.specs.declared.query.Atom.{Atom}
use Rattle.beas_core.specs.declared.query.Block.{Block}
use Rattle.beas_core.specs.declared.refusal.Refusal.{Refusal}
use Rattle.beas_core.specs.declared.schema.ColType.{ColType}
use Rattle.beas_core.specs.Shapes.{width_of}
use Rattle.catalogue.specs.Schema.{Schema, SchemaIsSound}
use Rattle.sql_text.specs.declared.tree.BlockTree.{BlockTree}
use Rattle.name_resolution.specs.declared.kinds.Kind.TheVariants.{Atoms}
use Rattle.name_resolution.specs.declared.meaning.Condition.{Condition}
use Rattle.name_resolution.specs.declared.meaning.Condition.TheVariants.{Compare, Between}
use Rattle.name_resolution.specs.declared.meaning.LookedUp.{LookedUp}
use Rattle.name_resolution.specs.declared.meaning.Meaning.{Meaning}
use Rattle.name_resolution.specs.declared.meaning.Meaning.TheVariants.{At, Fixed, Unknown, Ambiguous, OutOfRange}
use Rattle.name_resolution.specs.Binding.{kinds, places_in_all, shape_of, looked_refusals}
use Rattle.name_resolution.specs.LookedUp.{atom_of, looked_up, bound_block, IsSmall, ConditionIsSmall, BlockIsSmall}
use Rattle.name_resolution.specs.Meanings.{sources, meaning, condition}
use Rattle.name_resolution.specs.Refusing.{first, refusals_if, places}
use Rattle.name_resolution.proofs.Ranges.{Each, each_by_index, all_of_each, each_weaker, each_mapped, MeaningFits, ConditionFits, ref_fits, condition_fits, widths_few}

-- ---- no refusals

pub none_left : (xs ys : List Refusal) → first (xs ++ ys) ≡ None → first xs ≡ None
none_left [] ys none = refl
none_left (x ∷ xs) ys none = cc

pub none_right : (xs ys : List Refusal) → first (xs ++ ys) ≡ None → first ys ≡ None
none_right [] ys none = none
none_right (x ∷ xs) ys none = cc

pub none_each : {X : Type 0} (f : X → List Refusal) (xs : List X) → first (flat_map f xs) ≡ None → Each (λ x. first (f x) ≡ None) xs
none_each f [] none = tt
none_each f (x ∷ xs) none = (none_left (f x) (flat_map f xs) none, none_each f xs (none_right (f x) (flat_map f xs) none))

pub each_unnumbered : {X : Type 0} (P : ℕ × X → Type 0) (Q : X → Type 0) → ((k : ℕ) (x : X) → P (k, x) → Q x) → (n : ℕ) (xs : List X)
    → Each P (enumerate_from n xs) → Each Q xs
each_unnumbered P Q so n [] each = tt
each_unnumbered P Q so n (x ∷ xs) each = (so n x each.0, each_unnumbered P Q so (n + 1) xs each.1)

pub all_of : {X : Type 0} (P : X → Type 0) (xs : List X) → Each P xs → All P xs
all_of P xs each = λ k d below. all_of_each P xs each k d below

pub each_of_all : {X : Type 0} (P : X → Type 0) (xs : List X) → All P xs → Each P xs
each_of_all P xs all = each_by_index P xs (λ i d below. all i d below)

pub not_over : (limit n : ℕ) (why : Refusal) → first (refusals_if (ltb limit n) why) ≡ None → n ≤ limit
not_over limit n why none = by_test (ltb limit n) refl none where
  by_test : (b : Bool) → ltb limit n ≡ b → first (refusals_if b why) ≡ None → n ≤ limit
  by_test true is never = cc
  by_test false is never = grind (arith, nat_tests)

few_in_block : (limits : Limits) (shape : List ColType) (number : ℕ) (block : LookedUp) → first (places Atoms limits shape (number, block)) ≡ None
    → length block.atoms ≤ limits.atoms
unfolding places
few_in_block limits shape number block none = not_over limits.atoms (length block.atoms) _ none

pub few_atoms : (limits : Limits) (blocks : List LookedUp) → first (looked_refusals limits blocks) ≡ None
    → Each (λ block. length block.atoms ≤ limits.atoms) blocks
unfolding looked_refusals
few_atoms limits blocks none =
    let by_kind = none_each (places_in_all limits (shape_of blocks) blocks) kinds none in
    each_unnumbered (λ p. first (places Atoms limits (shape_of blocks) p) ≡ None) (λ block. length block.atoms ≤ limits.atoms)
    (λ k block one. few_in_block limits (shape_of blocks) k block one) 1 blocks
    (none_each (places Atoms limits (shape_of blocks)) (enumerate_from 1 blocks) by_kind.1.1.1.1.1.1.1.0)

-- ---- numbers of 16 bits

pub small : (atoms : List Atom) → length atoms ≤ 16 → ((i : ℕ) → width_of atoms i ≤ 64) → (m : Meaning) → MeaningFits atoms m → IsSmall m
small atoms few widths (At column) fits = (omega (arith, fits.atom), omega (arith, fits.column, widths column.atom))
small atoms few widths (Fixed value) fits = tt
small atoms few widths (Unknown table column) fits = tt
small atoms few widths (Ambiguous column) fits = tt
small atoms few widths (OutOfRange negative digits) fits = tt

condition_small : (atoms : List Atom) → length atoms ≤ 16 → ((i : ℕ) → width_of atoms i ≤ 64) → (c : Condition) → ConditionFits atoms c → ConditionIsSmall c
condition_small atoms few widths (Compare left sign right) fits = (small atoms few widths left fits.0, small atoms few widths right fits.1)
condition_small atoms few widths (Between value low high) fits =
    (small atoms few widths value fits.0, small atoms few widths low fits.1, small atoms few widths high fits.2)

pub block_small : (schema : Schema) (block : BlockTree) → SchemaIsSound schema → length (looked_up schema block).atoms ≤ 16
    → BlockIsSmall (looked_up schema block)
unfolding looked_up
block_small schema block sound few =
    let atoms : List Atom = map (atom_of schema) block.from_items in
    let widths : (i : ℕ) → width_of atoms i ≤ 64 = λ i. widths_few schema block.from_items i sound in
    record {
      atoms = omega (arith, few);
      items = all_of IsSmall _ (each_mapped (meaning (sources schema block.from_items)) IsSmall
          (λ ref. small atoms few widths (meaning (sources schema block.from_items) ref) (ref_fits schema block.from_items ref)) block.items);
      conditions = all_of ConditionIsSmall _ (each_mapped (condition (meaning (sources schema block.from_items))) ConditionIsSmall
          (λ c. condition_small atoms few widths (condition (meaning (sources schema block.from_items)) c)
          (condition_fits schema block.from_items c)) block.conditions);
    }

each_small : (schema : Schema) (trees : List BlockTree) → SchemaIsSound schema → Each (λ block. length block.atoms ≤ 16) (map (looked_up schema) trees)
    → Each BlockIsSmall (map (looked_up schema) trees)
each_small schema [] sound few = tt
each_small schema (tree ∷ trees) sound few = (block_small schema tree sound few.0, each_small schema trees sound few.1)

pub blocks_small : (limits : Limits) (schema : Schema) (trees : List BlockTree) (found : List LookedUp) → found ≡ map (looked_up schema) trees
    → limits.atoms ≤ 16 → SchemaIsSound schema
    → first (looked_refusals limits found) ≡ None → All BlockIsSmall found
blocks_small limits schema trees found is sixteen sound none =
    let few : Each (λ block. length block.atoms ≤ 16) found =
    each_weaker (λ block. length block.atoms ≤ limits.atoms) (λ block. length block.atoms ≤ 16) (λ block one. omega (arith, one)) found
    (few_atoms limits found none) in
    all_of BlockIsSmall found (subst (Each BlockIsSmall) (sym is) (each_small schema trees sound (subst (Each (λ block. length block.atoms ≤ 16)) is few)))

each_few : (schema : Schema) (trees : List BlockTree) → Each (λ b. length b.conditions < 2 ^ 32) trees
    → Each (λ b. length b.conditions < 2 ^ 32) (map (looked_up schema) trees)
unfolding looked_up
each_few schema [] few = tt
each_few schema (tree ∷ trees) few =
    (subst (λ n. n < 2 ^ 32) (sym (length-map tree.conditions (condition (meaning (sources schema tree.from_items))))) few.0, each_few schema trees few.1)

pub conditions_few : (schema : Schema) (trees : List BlockTree) (found : List LookedUp) → found ≡ map (looked_up schema) trees
    → All (λ b. length b.conditions < 2 ^ 32) trees
    → All (λ b. length b.conditions < 2 ^ 32) found
conditions_few schema trees found is few =
    all_of (λ (b : LookedUp). length b.conditions < 2 ^ 32) found
    (subst (Each (λ (b : LookedUp). length b.conditions < 2 ^ 32)) (sym is) (each_few schema trees (each_of_all (λ
    (b : BlockTree). length b.conditions < 2 ^ 32) trees few)))

map_both : {X Y Z : Type 0} (f : Y → Z) (g : X → Y) (xs : List X) → map f (map g xs) ≡ map (λ x. f (g x)) xs
map_both f g [] = refl
map_both f g (x ∷ xs) = ap (λ ys. f (g x) ∷ ys) (map_both f g xs)

pub blocks_are : (schema : Schema) (trees : List BlockTree) (found lent : List LookedUp) (bound : List Block) → found ≡ map (looked_up schema) trees
    → lent ≡ found → bound ≡ map bound_block lent
    → bound ≡ [] ++ map (λ b. bound_block (looked_up schema b)) trees
blocks_are schema trees found lent bound is same made =
    made ∙ ap (map bound_block) (same ∙ is) ∙ map_both bound_block (looked_up schema) trees
