-- Classes that are noted, list by list.
use Rattle.std.proofs.Common.{◌≡◌, ◌<◌, ◌≤◌, ◌+◌, ℕ, true, List, [], ◌∷◌, ◌++◌, length, map, take, get_or, refl, ap, sym, ◌∙◌, subst}
use Rattle.std.specs.List.{flat_map, enumerate_from, slice_set}
use Rattle.std.proofs.lemmas.List.{map-append, take_all}
use Rattle.std.proofs.lemmas.List.FromFn.{length-enumerate_from}
use Rattle.beas_core.specs.declared.schema.ColumnId.{ColumnId}
use Rattle.beas_core.specs.declared.query.Place.{Place}
use Rattle.beas_core.specs.declared.plan.Normal.{Normal}
use Rattle.beas_core.specs.Types.{ClassSet}
use Rattle.beas_core.specs.Coverage.{with_classes, class_at, place_class, needed_places, key_classes}
use Rattle.attribute_closure.proofs.Sets.{columns_more, set_past}
use Rattle.attribute_closure.specs.Uses.{as_use}
use Rattle.attribute_closure.specs.declared.uses.UseAt.{UseAt}
use Rattle.specialise.proofs.Lists.{numbers_push, flat_push, map_push}

pub noted_past : {A : Type 0} (set : ClassSet) (f : A → ℕ) (xs : List A) (i : ℕ) (d : A) → i < length xs
    → length (with_classes set (map f (take i xs))) ≤ f (get_or xs i d)
    → with_classes set (map f (take (i + 1) xs)) ≡ with_classes set (map f (take i xs))
noted_past set f xs i d l past = sym (columns_more set f xs i d l) ∙ set_past (with_classes set (map f (take i xs))) (f (get_or xs i d)) past

pub with_append : (set : ClassSet) (xs ys : List ℕ) → with_classes set (xs ++ ys) ≡ with_classes (with_classes set xs) ys
with_append set [] ys = refl
with_append set (x ∷ xs) ys = with_append (slice_set set x true) xs ys

abbrev pub place_of : ℕ → ColumnId → Place
place_of atom column = record { atom = atom; column = column }

abbrev pub places_on : ℕ × List ColumnId → List Place
places_on n = map (place_of n.0) n.1

module _ (normal : Normal) where
  places_classes : (atom : ℕ) (columns : List ColumnId) → map (place_class normal) (map (place_of atom) columns) ≡ map (class_at normal atom) columns
  places_classes atom [] = refl
  places_classes atom (c ∷ columns) = ap (λ cs. class_at normal atom c ∷ cs) (places_classes atom columns)

  pub needed_more : (start : ClassSet) (lists : List (List ColumnId)) (i : ℕ) (d : List ColumnId) → i < length lists
      → with_classes (with_classes start (map (place_class normal) (flat_map places_on (take i (enumerate_from 0 lists))))) (map (class_at normal i) (get_or lists i d))
      ≡ with_classes start (map (place_class normal) (flat_map places_on (take (i + 1) (enumerate_from 0 lists))))
  needed_more start lists i d l =
      let front = flat_map places_on (take i (enumerate_from 0 lists)) in
      sym (with_append start (map (place_class normal) front) (map (class_at normal i) (get_or lists i d)))
      ∙ ap (with_classes start)
      (ap (λ cs. map (place_class normal) front ++ cs) (sym (places_classes i (get_or lists i d)))
      ∙ sym (map-append (place_class normal) front (places_on (i, get_or lists i d)))
      ∙ ap (map (place_class normal)) (sym (ap (flat_map places_on) (numbers_push lists i d l) ∙ flat_push places_on (take i (enumerate_from 0 lists)) (i, get_or lists i d))))

  abbrev pub needed_to : ℕ → List ℕ
  needed_to i = map (place_class normal) (flat_map places_on (take i (enumerate_from 0 normal.needed)))

  pub needed_step : (start old new : ClassSet) (items : List (List ColumnId)) (i : ℕ) (d columns : List ColumnId) → items ≡ normal.needed → i < length items
      → d ≡ get_or items i d → columns ≡ d → old ≡ with_classes start (needed_to i) → new ≡ with_classes old (map (class_at normal i) columns)
      → new ≡ with_classes start (needed_to (i + 1))
  needed_step start old new items i d columns es l is ec eo en =
      en ∙ ap (λ s. with_classes s (map (class_at normal i) columns)) eo
      ∙ ap (λ cs. with_classes (with_classes start (needed_to i)) (map (class_at normal i) cs)) (ec ∙ is ∙ ap (λ xs. get_or xs i d) es)
      ∙ needed_more start normal.needed i d (subst (λ xs. i < length xs) es l)

  pub needed_end : (start new : ClassSet) (items : List (List ColumnId)) (i : ℕ) → items ≡ normal.needed → length items ≤ i
      → new ≡ with_classes start (needed_to i) → new ≡ with_classes start (map (place_class normal) (needed_places normal))
  needed_end start new items i es l en =
      let all : length (enumerate_from 0 normal.needed) ≤ i = subst (λ n. n ≤ i) (ap length es ∙ sym (length-enumerate_from 0 normal.needed)) l in
      en ∙ ap (λ ns. with_classes start (map (place_class normal) (flat_map places_on ns))) (take_all i (enumerate_from 0 normal.needed) all)

  pub keys_more : (start : ClassSet) (found : List UseAt) (i : ℕ) (d : UseAt) → i < length found
      → with_classes (with_classes start (flat_map (key_classes normal) (map as_use (take i found)))) (key_classes normal (as_use (get_or found i d)))
      ≡ with_classes start (flat_map (key_classes normal) (map as_use (take (i + 1) found)))
  keys_more start found i d l =
      sym (with_append start (flat_map (key_classes normal) (map as_use (take i found))) (key_classes normal (as_use (get_or found i d))))
      ∙ ap (with_classes start) (sym (ap (flat_map (key_classes normal)) (map_push as_use found i d l)
      ∙ flat_push (key_classes normal) (map as_use (take i found)) (as_use (get_or found i d))))
