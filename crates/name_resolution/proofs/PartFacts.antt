-- Parts that are added to a block.
use Rattle.std.proofs.Common.{◌≡◌, ℕ, ◌+◌, ◌<◌, List, [], ◌∷◌, ◌++◌, length, take, get_or, ap, sym, ◌∙◌, subst, append_assoc, refl, map, arith, Option, Some, None}
use Rattle.std.specs.List.{filter_map, cons_option, flat_map, enumerate_from, range_with_len}
use Rattle.std.proofs.lemmas.List.{append-nil, take_more, length-take-le, map-append}
use Rattle.std.proofs.lemmas.List.Concat.{flat_map-append}
use Rattle.std.proofs.lemmas.List.Elements.{filter_map-append}
use Rattle.beas_core.specs.declared.query.Atom.{Atom}
use Rattle.beas_core.specs.declared.query.Block.{Block}
use Rattle.beas_core.specs.declared.query.Place.{Place}
use Rattle.name_resolution.specs.declared.meaning.BoundColumn.{BoundColumn}
use Rattle.name_resolution.specs.declared.meaning.Condition.{Condition}
use Rattle.name_resolution.specs.declared.meaning.LookedUp.{LookedUp}
use Rattle.name_resolution.specs.declared.meaning.Meaning.{Meaning}
use Rattle.name_resolution.specs.declared.meaning.Meaning.TheVariants.{At, Fixed, Unknown, Ambiguous, OutOfRange}
use Rattle.name_resolution.specs.declared.meaning.Part.{Part}
use Rattle.name_resolution.specs.LookedUp.{column_of, equality_of, constant_of, comparison_of, Adds, parts, place_at, all_places, outputs, bound_block}
use Rattle.name_resolution.proofs.Numbered.{enumerate_append}

pub adds_none : (block : Block) → Adds block block []
adds_none block = record {
  atoms = refl;
  equalities = sym (append-nil block.equalities);
  constants = sym (append-nil block.constants);
  comparisons = sym (append-nil block.comparisons);
  output = refl;
}

pub adds_both : (before between after : Block) (first second : List Part) → Adds before between first → Adds between after second
    → Adds before after (first ++ second)
adds_both before between after first second one two = record {
  atoms = two.atoms ∙ one.atoms;
  equalities = two.equalities ∙ ap (λ xs. xs ++ filter_map equality_of second) one.equalities
      ∙ append_assoc before.equalities (filter_map equality_of first) (filter_map equality_of second)
      ∙ ap (λ xs. before.equalities ++ xs) (sym (filter_map-append equality_of first second));
  constants = two.constants ∙ ap (λ xs. xs ++ filter_map constant_of second) one.constants
      ∙ append_assoc before.constants (filter_map constant_of first) (filter_map constant_of second)
      ∙ ap (λ xs. before.constants ++ xs) (sym (filter_map-append constant_of first second));
  comparisons = two.comparisons ∙ ap (λ xs. xs ++ filter_map comparison_of second) one.comparisons
      ∙ append_assoc before.comparisons (filter_map comparison_of first) (filter_map comparison_of second)
      ∙ ap (λ xs. before.comparisons ++ xs) (sym (filter_map-append comparison_of first second));
  output = two.output ∙ one.output;
}

block_is : (a b : Block) → a.atoms ≡ b.atoms → a.equalities ≡ b.equalities → a.constants ≡ b.constants → a.comparisons ≡ b.comparisons
    → a.output ≡ b.output → a ≡ b
block_is a b atoms equalities constants comparisons output =
    λ i. record { atoms = atoms i; equalities = equalities i; constants = constants i; comparisons = comparisons i; output = output i }

pub bound_is : (found : LookedUp) (empty bound : Block) → empty.atoms ≡ found.atoms → empty.equalities ≡ [] → empty.constants ≡ [] → empty.comparisons ≡ []
    → empty.output ≡ outputs found → Adds empty bound (flat_map parts found.conditions) → bound ≡ bound_block found
unfolding bound_block
bound_is found empty bound atoms no_equalities no_constants no_comparisons output adds =
    block_is bound (bound_block found) (adds.atoms ∙ atoms) (adds.equalities ∙ ap (λ xs. xs ++ filter_map equality_of
    (flat_map parts found.conditions)) no_equalities)
    (adds.constants ∙ ap (λ xs. xs ++ filter_map constant_of (flat_map parts found.conditions)) no_constants)
    (adds.comparisons ∙ ap (λ xs. xs ++ filter_map comparison_of (flat_map parts found.conditions)) no_comparisons) (adds.output ∙ output)

-- ---- one element more

pub columns_to_one : (items : List Meaning) (i : ℕ) (item : Meaning) (column : BoundColumn) → i < length items → item ≡ get_or items i item
    → column_of item ≡ Some column
    → filter_map column_of (take (i + 1) items) ≡ filter_map column_of (take i items) ++ column ∷ []
columns_to_one items i item column below is has =
    ap (filter_map column_of) (take_more items i item below ∙ ap (λ x. take i items ++ x ∷ []) (sym is))
    ∙ filter_map-append column_of (take i items) (item ∷ []) ∙ ap (λ o. filter_map column_of (take i items) ++ cons_option o []) has

pub columns_to_none : (items : List Meaning) (i : ℕ) (item : Meaning) → i < length items → item ≡ get_or items i item → column_of item ≡ None
    → filter_map column_of (take (i + 1) items) ≡ filter_map column_of (take i items)
columns_to_none items i item below is none =
    ap (filter_map column_of) (take_more items i item below ∙ ap (λ x. take i items ++ x ∷ []) (sym is))
    ∙ filter_map-append column_of (take i items) (item ∷ []) ∙ ap (λ o. filter_map column_of (take i items) ++ cons_option o []) none
    ∙ append-nil (filter_map column_of (take i items))

pub mapped_one : {Y : Type 0} (f : BoundColumn → Y) (ys : List Y) (cs ds : List BoundColumn) (c : BoundColumn) → ys ≡ map f cs → ds ≡ cs ++ c ∷ []
    → ys ++ f c ∷ [] ≡ map f ds
mapped_one f ys cs ds c is more = ap (λ zs. zs ++ f c ∷ []) is ∙ sym (map-append f cs (c ∷ [])) ∙ ap (map f) (sym more)

pub parts_to : (before between after : Block) (conditions : List Condition) (i : ℕ) (condition : Condition) → i < length conditions
    → condition ≡ get_or conditions i condition
    → Adds before between (flat_map parts (take i conditions)) → Adds between after (parts condition)
    → Adds before after (flat_map parts (take (i + 1) conditions))
parts_to before between after conditions i condition below is one two =
    subst (Adds before after)
    (sym (ap (flat_map parts) (take_more conditions i condition below ∙ ap (λ c. take i conditions ++ c ∷ []) (sym is))
    ∙ flat_map-append parts (take i conditions) (condition ∷ []) ∙ ap (λ ps. flat_map parts (take i conditions) ++ ps) (append-nil (parts condition))))
    (adds_both before between after (flat_map parts (take i conditions)) (parts condition) one two)

pub places_to : (atoms : List Atom) (i : ℕ) (none : Atom) → i < length atoms
    → all_places (take (i + 1) atoms) ≡ all_places (take i atoms) ++ map (place_at i) (range_with_len 0 (get_or atoms i none).width)
places_to atoms i none below =
    let atom : Atom = get_or atoms i none in
    let each : ℕ × Atom → List Place = λ a. map (place_at a.0) (range_with_len 0 a.1.width) in
    ap (λ xs. flat_map each (enumerate_from 0 xs)) (take_more atoms i none below)
    ∙ ap (flat_map each) (enumerate_append 0 (take i atoms) (atom ∷ []))
    ∙ flat_map-append each (enumerate_from 0 (take i atoms)) ((0 + length (take i atoms), atom) ∷ [])
    ∙ ap (λ ps. flat_map each (enumerate_from 0 (take i atoms)) ++ ps) (append-nil (map (place_at (0 + length (take i atoms))) (range_with_len 0 atom.width)))
    ∙ ap (λ n. flat_map each (enumerate_from 0 (take i atoms)) ++ map (place_at n) (range_with_len 0 atom.width)) (ap (λ n. 0 + n) (length-take-le i atoms
    (omega arith)) ∙ omega arith)

pub not_some : {X : Type 0} (o : Option X) → ((x : X) → o ≡ Some x → ⊥) → o ≡ None
not_some None never = refl
not_some (Some x) never = absurd (never x refl)

pub not_at : (meaning : Meaning) → ((column : BoundColumn) → meaning ≡ At column → ⊥) → column_of meaning ≡ None
not_at (At column) never = absurd (never column refl)
not_at (Fixed value) never = refl
not_at (Unknown table column) never = refl
not_at (Ambiguous column) never = refl
not_at (OutOfRange negative digits) never = refl
