-- Sets of classes, grown column by column.
use Rattle.std.proofs.Common.{◌≡◌, ◌<◌, ◌≤◌, ◌+◌, ℕ, true, List, [], ◌∷◌, length, map, take, get_or, ap, sym, ◌∙◌, add-one}
use Rattle.std.specs.List.{slice_set}
use Rattle.std.proofs.Math.Seq.{take-suc}
use Rattle.std.proofs.lemmas.List.{map-append}
use Rattle.std.proofs.lemmas.List.Sums.{fold-append}
use Rattle.beas_core.specs.declared.schema.ColumnId.{ColumnId}
use Rattle.beas_core.specs.declared.query.Place.{Place}
use Rattle.beas_core.specs.declared.plan.Normal.{Normal}
use Rattle.beas_core.specs.Types.{ClassSet, Use}
use Rattle.beas_core.specs.Coverage.{with_classes, class_at, place_class, key_classes, fetched_classes}
use Rattle.beas_core.specs.Derivations.{with_use}
use Rattle.attribute_closure.proofs.Sets.{with_push, set_past}

-- one more of some items that have classes
module _ {A : Type 0} (class : A → ℕ) (set : ClassSet) (items : List A) (i : ℕ) (d : A) (l : i < length items) where
  classes_more : slice_set (with_classes set (map class (take i items))) (class (get_or items i d)) true ≡ with_classes set (map class (take (i + 1) items))
  classes_more =
      sym (with_push set (map class (take i items)) (class (get_or items i d)))
      ∙ ap (with_classes set) (sym (ap (λ k. map class (take k items)) (add-one i)
      ∙ ap (map class) (take-suc items i d l) ∙ map-append class (take i items) (get_or items i d ∷ [])))

  classes_past : length (with_classes set (map class (take i items))) ≤ class (get_or items i d)
      → with_classes set (map class (take (i + 1) items)) ≡ with_classes set (map class (take i items))
  classes_past past = sym classes_more ∙ set_past (with_classes set (map class (take i items))) (class (get_or items i d)) past

pub columns_more : (normal : Normal) (atom : ℕ) (set : ClassSet) (columns : List ColumnId) (i : ℕ) (d : ColumnId) → i < length columns
    → slice_set (with_classes set (map (class_at normal atom) (take i columns))) (class_at normal atom (get_or columns i d)) true
    ≡ with_classes set (map (class_at normal atom) (take (i + 1) columns))
columns_more normal atom set columns i d l = classes_more (class_at normal atom) set columns i d l

pub columns_past : (normal : Normal) (atom : ℕ) (set : ClassSet) (columns : List ColumnId) (i : ℕ) (d : ColumnId) → i < length columns
    → length (with_classes set (map (class_at normal atom) (take i columns))) ≤ class_at normal atom (get_or columns i d)
    → with_classes set (map (class_at normal atom) (take (i + 1) columns)) ≡ with_classes set (map (class_at normal atom) (take i columns))
columns_past normal atom set columns i d l past = classes_past (class_at normal atom) set columns i d l past

pub places_more : (normal : Normal) (set : ClassSet) (places : List Place) (i : ℕ) (d : Place) → i < length places
    → slice_set (with_classes set (map (place_class normal) (take i places))) (place_class normal (get_or places i d)) true
    ≡ with_classes set (map (place_class normal) (take (i + 1) places))
places_more normal set places i d l = classes_more (place_class normal) set places i d l

pub places_past : (normal : Normal) (set : ClassSet) (places : List Place) (i : ℕ) (d : Place) → i < length places
    → length (with_classes set (map (place_class normal) (take i places))) ≤ place_class normal (get_or places i d)
    → with_classes set (map (place_class normal) (take (i + 1) places)) ≡ with_classes set (map (place_class normal) (take i places))
places_past normal set places i d l past = classes_past (place_class normal) set places i d l past

pub with_members : (normal : Normal) (set : ClassSet) (u : Use)
    → with_classes (with_classes set (map (class_at normal u.atom) u.access.key)) (map (class_at normal u.atom) u.access.fetched) ≡ with_use normal set u
with_members normal set u = sym (fold-append (λ s c. slice_set s c true) set (key_classes normal u) (fetched_classes normal u))
    ∙ ap (with_classes set) (sym (map-append (class_at normal u.atom) u.access.key u.access.fetched))
