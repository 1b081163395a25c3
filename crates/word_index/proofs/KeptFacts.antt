-- Indexes over codes, one of them changed while their interner grows.
use Rattle.std.proofs.Common.{◌≡◌, ◌∙◌, ◌<◌, ◌+◌, ℕ, suc, List, [], ◌∷◌, map, take, drop, length, get_or, set, ap, refl, sym, subst, arith}
use Rattle.std.specs.Prelude.{◌++◌, All, remove}
use Rattle.std.proofs.lemmas.List.{map_more, map-set, map-append, take-map, drop-map, get_or-map, get_or-set_same, set-get_or, length-set, length-map}
use Rattle.std.proofs.lemmas.List.Elements.{All-set, All-push, All-get_or, All-weaker, All-head, All-tail, All-append, All-take, All-drop}
use Rattle.beas_core.specs.declared.value.Value.{Value}
use Rattle.beas_core.specs.Shapes.{AccessIsWellFormed}
use Rattle.access_index.specs.Index.{Index}
use Rattle.word_index.specs.declared.any.AnyIndex.{AnyIndex}
use Rattle.code_index.specs.Reading.{CodeIndex, KeepsCodes, IsInOrderFor, read_index}
use Rattle.word_index.specs.Widths.{index_in}
use Rattle.code_index.proofs.Ordering.{none_in_order}
use Rattle.update_guard.specs.Indexing.{no_access}
use Rattle.update_guard.specs.Seen.{index_at, no_index, IsMoved}
use Rattle.word_index.specs.Kept.{meaning, meanings, IsKept, AreKept}

module _ (codes more : List Value) (grows : KeepsCodes codes more) where
  each_grown : (indexes : List AnyIndex) → All (IsKept codes) indexes → All (IsKept more) indexes
  each_grown = All-weaker (IsKept codes) (IsKept more)
      (λ index k. record { in_order = grows.in_order (index_in index) k.in_order; form = k.form; few = k.few })

  -- an interner that grows leaves what is kept, and all meanings
  pub kept_grown : (indexes : List AnyIndex) → AreKept codes indexes → AreKept more indexes
  kept_grown indexes k = record {
    distinct = (grows.in_order (record { access = no_access; total = 0; groups = [] }) (none_in_order codes k.distinct no_access)).distinct;
    each = each_grown indexes k.each;
  }

  meanings_stay : (indexes : List AnyIndex) → All (IsKept codes) indexes → meanings more indexes ≡ meanings codes indexes
  meanings_stay [] k = refl
  meanings_stay (x ∷ xs) k =
      let first = grows.same (index_in x) (All-head (IsKept codes) x xs k).in_order in
      let rest = meanings_stay xs (All-tail (IsKept codes) x xs k) in λ i. first i ∷ rest i

  pub meanings_grown : (indexes : List AnyIndex) → AreKept codes indexes → meanings more indexes ≡ meanings codes indexes
  meanings_grown indexes k = meanings_stay indexes k.each

  -- one index more at the end
  pub kept_pushed : (indexes : List AnyIndex) (index : AnyIndex) → AreKept codes indexes → IsKept more index → AreKept more (indexes ++ index ∷ [])
  kept_pushed indexes index k new =
      record { distinct = new.in_order.distinct; each = All-push (IsKept more) indexes index (each_grown indexes k.each) new }

  pub meanings_pushed : (indexes : List AnyIndex) (index : AnyIndex) → AreKept codes indexes
      → meanings more (indexes ++ index ∷ []) ≡ meanings codes indexes ++ meaning more index ∷ []
  meanings_pushed indexes index k =
      map-append (meaning more) indexes (index ∷ []) ∙ ap (λ xs. xs ++ meaning more index ∷ []) (meanings_grown indexes k)

module _ (codes : List Value) (indexes : List AnyIndex) (place : ℕ) where
  pub meaning_at : (d : AnyIndex) → place < length indexes → index_at (meanings codes indexes) place ≡ meaning codes (get_or indexes place d)
  meaning_at d l = get_or-map (meaning codes) indexes place d no_index l

  -- one index fewer
  pub kept_dropped : AreKept codes indexes → AreKept codes (remove indexes place)
  kept_dropped k = record {
    distinct = k.distinct;
    each = All-append (IsKept codes) (take place indexes) (drop (suc place) indexes) (All-take (IsKept codes) place indexes k.each)
        (All-drop (IsKept codes) (suc place) indexes k.each);
  }

  pub meanings_dropped : meanings codes (remove indexes place) ≡ remove (meanings codes indexes) place
  meanings_dropped =
      map-append (meaning codes) (take place indexes) (drop (suc place) indexes)
      ∙ ap (λ xs. xs ++ meanings codes (drop (suc place) indexes)) (sym (take-map (meaning codes) place indexes))
      ∙ ap (λ xs. take place (meanings codes indexes) ++ xs) (sym (drop-map (meaning codes) (suc place) indexes))

-- the index at a place is read
module _ (codes : List Value) (indexes : List AnyIndex) (place : ℕ) (was : AnyIndex) (old : List Index) (seen : meanings codes indexes ≡ old)
    (kept : AreKept codes indexes) (there : place < length old) (is : was ≡ get_or indexes place was) where
  within : place < length indexes
  within = omega (arith, there, ap length seen, length-map indexes (meaning codes))

  pub was_kept : IsKept codes was
  was_kept = subst (IsKept codes) (sym is) (All-get_or (IsKept codes) indexes place was within kept.each)

  pub was_at : index_at old place ≡ meaning codes was
  was_at = ap (λ xs. index_at xs place) (sym seen) ∙ meaning_at codes indexes place was within ∙ ap (meaning codes) (sym is)

  -- and changed
  module _ (more : List Value) (new : AnyIndex) where
    pub new_at : index_at (meanings more (set indexes place new)) place ≡ meaning more new
    new_at =
        meaning_at more (set indexes place new) place new (omega (arith, within, length-set indexes place new))
        ∙ ap (meaning more) (get_or-set_same indexes place new new within)

    module _ (grows : KeepsCodes codes more) (order : IsInOrderFor more (index_in new)) (same : (index_in new).access ≡ (index_in was).access) where
      pub kept_changed : (index_in new).total < 4294967296 → AreKept more (set indexes place new)
      kept_changed few = record {
        distinct = order.distinct;
        each = All-set (IsKept more) indexes place new
            (record { in_order = order; form = subst (AccessIsWellFormed 64) (sym same) was_kept.form; few = few }) (each_grown codes more grows indexes kept.each);
      }

      pub moved : IsMoved old (meanings more (set indexes place new)) place
      moved = record {
        index = meaning more new;
        moved = map-set (meaning more) indexes place new
            ∙ ap (λ xs. set xs place (meaning more new)) (meanings_grown codes more grows indexes kept ∙ seen);
        access_stays = same ∙ ap (λ (x : Index). x.access) (sym was_at);
      }

      pub as_before : index_in new ≡ index_in was → meanings more (set indexes place new) ≡ old
      unfolding moved
      as_before e =
          moved.moved
          ∙ ap (set old place) (ap (read_index more) e ∙ grows.same (index_in was) was_kept.in_order ∙ sym was_at)
          ∙ set-get_or old place no_index

-- an index is copied
module _ (codes : List Value) (index copy : AnyIndex) (alike : index_in copy ≡ index_in index) where
  copy_kept : IsKept codes index → IsKept codes copy
  copy_kept k = record {
    in_order = subst (IsInOrderFor codes) (sym alike) k.in_order;
    form = subst (λ (x : CodeIndex). AccessIsWellFormed 64 x.access) (sym alike) k.form;
    few = subst (λ (x : CodeIndex). x.total < 4294967296) (sym alike) k.few;
  }

  module _ (indexes copies : List AnyIndex) (place : ℕ) (within : place < length indexes) (is : index ≡ get_or indexes place index) where
    pub copies_kept : AreKept codes indexes → AreKept codes copies → AreKept codes (copies ++ copy ∷ [])
    copies_kept k made = record {
      distinct = k.distinct;
      each = All-push (IsKept codes) copies copy made.each
          (copy_kept (subst (IsKept codes) (sym is) (All-get_or (IsKept codes) indexes place index within k.each)));
    }

    pub copies_same : (places : List ℕ) (i : ℕ) → i < length places → place ≡ get_or places i place
        → meanings codes copies ≡ map (index_at (meanings codes indexes)) (take i places)
        → meanings codes (copies ++ copy ∷ []) ≡ map (index_at (meanings codes indexes)) (take (i + 1) places)
    copies_same places i l at made =
        let f : ℕ → Index = index_at (meanings codes indexes) in
        let here : meaning codes copy ≡ f (get_or places i place) =
        ap (read_index codes) alike ∙ ap (meaning codes) is ∙ sym (meaning_at codes indexes place index within) ∙ ap f at in
        map-append (meaning codes) copies (copy ∷ [])
        ∙ ap (λ xs. xs ++ meaning codes copy ∷ []) made
        ∙ ap (λ x. map f (take i places) ++ x ∷ []) here
        ∙ sym (map_more f places i place l)
