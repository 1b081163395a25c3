-- Sets of candidates, tried one after another.
use Rattle.std.proofs.Common.{◌≡◌, ◌==◌, ◌<◌, ◌+◌, ◌-◌, ◌*◌, ◌%◌, ◌^◌, bit_or, ℕ, zero, suc, Bool, true, false, cond, List, [], ◌∷◌, ◌++◌, length, map, map-id, take, drop, drop-cons, length-drop, get_or, Option, Some, None, refl, ap, sym, ◌∙◌, subst, arith, add-one, zero-add, append_assoc, append-nil}
use Rattle.std.specs.Int.{bit_at}
use Rattle.std.specs.List.{find, flat_map, range_with_len}
use Rattle.std.specs.Option.{option_or}
use Rattle.std.proofs.lemmas.List.{get_or-map, length-map, map-append}
use Rattle.std.proofs.lemmas.List.Folds.{find-append}
use Rattle.std.proofs.lemmas.Nat.{pow_below}
use Rattle.beas_core.specs.declared.schema.Access.{Access}
use Rattle.beas_core.specs.declared.query.Place.{Place}
use Rattle.beas_core.specs.declared.query.Block.{Block}
use Rattle.beas_core.proofs.UseFacts.{same_number}
use Rattle.specialise.specs.Specialised.{candidates, first_place, first_set, is_covered_with, sublists}
use Rattle.specialise.specs.declared.candidates.Candidate.{Candidate}
use Rattle.specialise.specs.Trials.{candidate_of, classes_at, classes_in, first_from}
use Rattle.specialise.proofs.Lists.{find_here, find_on, flat_push, range_push, unequal}
use Rattle.specialise.proofs.Masks.{classes_more, classes_to, no_classes}

-- a position's bit, as the code has it
pub bit_is : (p : ℕ) → p < 16 → 1 * 2 ^ p % 4294967296 ≡ 2 ^ p
bit_is p l = let b = pow_below p 16 l in let e : 2 ^ 16 ≡ 65536 = refl in omega (arith, b, e)

-- of fewer members there is no sublist
too_few : (n : ℕ) (xs : List ℕ) → length xs < n → sublists n xs ≡ []
too_few zero xs l = absurd (omega (arith, l))
too_few (suc n) [] l = refl
too_few (suc n) (x ∷ xs) l =
    ap (λ sets. map (λ set. x ∷ set) sets ++ sublists (suc n) xs) (too_few n xs (omega (arith, l))) ∙ too_few (suc n) xs (omega (arith, l))

abbrev after : List ℕ → List (List ℕ) → List (List ℕ)
after given sets = map (λ set. given ++ set) sets

after_first : (given : List ℕ) (c : ℕ) (sets : List (List ℕ)) → after given (map (λ set. c ∷ set) sets) ≡ after (given ++ c ∷ []) sets
after_first given c [] = refl
after_first given c (set ∷ sets) =
    ap (λ s. s ∷ after given (map (λ t. c ∷ t) sets)) (sym (append_assoc given (c ∷ []) set))
    ∙ ap (λ ss. ((given ++ c ∷ []) ++ set) ∷ ss) (after_first given c sets)

module _ (accesses : List Access) (block : Block) where
  abbrev all : List ℕ
  all = candidates accesses block

  abbrev passes : List ℕ → Bool
  passes = is_covered_with accesses block

  abbrev Found : Type 0
  Found = Option (List ℕ)

  -- ---- one step of the walk

  pub none_left : (size position held count : ℕ) → count ≡ length all → count - position < size → None ≡ first_from accesses block size position held
  none_left size position held count e l =
      let few : length (drop position all) < size = subst (λ n. n < size) (ap (λ n. n - position) e ∙ sym (length-drop position all)) l in
      sym (ap (λ sets. find passes (after (classes_in accesses block held) sets)) (too_few size (drop position all) few))

  -- the sets with the candidate at a position stand before those without it
  halves : (n position held : ℕ) → held < 2 ^ position → position < length all → first_from accesses block (suc n) position held
      ≡ option_or (first_from accesses block n (suc position) (bit_or held (2 ^ position))) (first_from accesses block (suc n) (suc position) held)
  halves n position held l inside =
      let c = get_or all position 0 in
      let given = classes_in accesses block held in
      let rest = drop (suc position) all in
      let later = find passes (after given (sublists (suc n) rest)) in
      ap (λ cs. find passes (after given (sublists (suc n) cs))) (drop-cons all position 0 inside)
      ∙ ap (find passes) (map-append (λ set. given ++ set) (map (λ set. c ∷ set) (sublists n rest)) (sublists (suc n) rest))
      ∙ find-append passes (after given (map (λ set. c ∷ set) (sublists n rest))) (after given (sublists (suc n) rest))
      ∙ ap (λ sets. option_or (find passes sets) later) (after_first given c (sublists n rest))
      ∙ ap (λ ds. option_or (find passes (after ds (sublists n rest))) later) (sym (classes_more position held all 0 l inside))

  module _ (size position held mask : ℕ) (some : size ≡ 0 → ⊥) (l : held < 2 ^ position) (inside : position < length all)
      (is_more : mask ≡ bit_or held (2 ^ position)) where
    both : first_from accesses block size position held
        ≡ option_or (first_from accesses block (size - 1) (position + 1) mask) (first_from accesses block size (position + 1) held)
    both = by size some
      where
        next : position + 1 ≡ suc position
        next = add-one position

        by : (k : ℕ) → (k ≡ 0 → ⊥) → first_from accesses block k position held
            ≡ option_or (first_from accesses block (k - 1) (position + 1) mask) (first_from accesses block k (position + 1) held)
        by zero none = absurd (none refl)
        by (suc n) none =
            let less : n ≡ suc n - 1 = omega arith in
            halves n position held l inside
            ∙ ap (λ m. option_or (first_from accesses block n (suc position) m) (first_from accesses block (suc n) (suc position) held)) (sym is_more)
            ∙ ap (λ p. option_or (first_from accesses block n p mask) (first_from accesses block (suc n) p held)) (sym next)
            ∙ ap (λ m. option_or (first_from accesses block m (position + 1) mask) (first_from accesses block (suc n) (position + 1) held)) less

    pub with_it : (set : List ℕ) → Some set ≡ first_from accesses block (size - 1) (position + 1) mask → Some set ≡ first_from accesses block size position held
    with_it set e = ap (λ o. option_or o (first_from accesses block size (position + 1) held)) e ∙ sym both

    pub without_it : (result : Found) → None ≡ first_from accesses block (size - 1) (position + 1) mask
        → result ≡ first_from accesses block size (position + 1) held → result ≡ first_from accesses block size position held
    without_it result none e = e ∙ ap (λ o. option_or o (first_from accesses block size (position + 1) held)) none ∙ sym both

  -- ---- sizes, one after another

  abbrev pub all_to : ℕ → List (List ℕ)
  all_to n = flat_map (λ k. sublists k all) (range_with_len 0 n)

  at_start : (size : ℕ) → first_from accesses block size 0 0 ≡ find passes (sublists size all)
  at_start size = ap (λ given. find passes (after given (sublists size all))) (no_classes all) ∙ ap (find passes) (map-id (sublists size all))

  pub none_more : (n : ℕ) → find passes (all_to n) ≡ None → None ≡ first_from accesses block n 0 0 → find passes (all_to (n + 1)) ≡ None
  none_more n before none =
      ap (λ ns. find passes (flat_map (λ k. sublists k all) ns)) (range_push n) ∙ ap (find passes) (flat_push (λ k. sublists k all) (range_with_len 0 n) n)
      ∙ find_on passes (all_to n) (sublists n all) before ∙ sym (at_start n) ∙ sym none

  split : (k n from : ℕ) → k < n → (rest : List (List ℕ)) × (flat_map (λ j. sublists j all) (range_with_len from n)
      ≡ flat_map (λ j. sublists j all) (range_with_len from k) ++ (sublists (from + k) all ++ rest))
  split k zero from l = absurd (omega (arith, l))
  split zero (suc n) from l = (
    flat_map (λ j. sublists j all) (range_with_len (from + 1) n),
    let e : from ≡ from + 0 = omega arith in ap (λ m. sublists m all ++ flat_map (λ j. sublists j all) (range_with_len (from + 1) n)) e,
  )
  split (suc k) (suc n) from l =
      let r = split k n (from + 1) (omega arith) in
      let f : from + 1 + k ≡ from + suc k = omega arith in (
        r.0,
        ap (λ ss. sublists from all ++ ss) (r.1 ∙ ap (λ m. flat_map (λ j. sublists j all) (range_with_len (from + 1) k) ++ (sublists m all ++ r.0)) f)
            ∙ sym (append_assoc (sublists from all) (flat_map (λ j. sublists j all) (range_with_len (from + 1) k)) (sublists (from + suc k) all ++ r.0)),
      )

  module _ (found : List Candidate) (is : found ≡ map (candidate_of block) all) where
    pub counted : length found ≡ length all
    counted = ap length is ∙ length-map all (candidate_of block)

    pub now_found : (size : ℕ) → size < length found + 1 → find passes (all_to size) ≡ None
        → (set : List ℕ) → Some set ≡ first_from accesses block size 0 0 → Some set ≡ first_set accesses block
    now_found size l before set e =
        let n = counted in
        let r = split size (length all + 1) 0 (omega (arith, l, n)) in
        sym (ap (find passes) r.1 ∙ find_on passes (all_to size) (sublists (0 + size) all ++ r.0) before
        ∙ ap (λ m. find passes (sublists m all ++ r.0)) (zero-add size)
        ∙ find_here passes (sublists size all) r.0 set (sym (at_start size) ∙ sym e))

    -- ---- the places of a set

    module _ (mask n : ℕ) (d : Candidate) (l : n < length found) (old : List Place) (so : old ≡ map (first_place block) (classes_at mask (take n all))) where
      inside : n < length all
      inside = subst (λ k. n < k) counted l

      to : (b : Bool) → (bit_at mask n == 1) ≡ b
          → classes_at mask (take (n + 1) all) ≡ classes_at mask (take n all) ++ cond b (get_or all n 0 ∷ []) []
      to b e =
          ap (λ k. classes_at mask (take k all)) (add-one n) ∙ classes_to n mask all 0 inside
          ∙ ap (λ x. classes_at mask (take n all) ++ cond x (get_or all n 0 ∷ []) []) e

      place_is : (get_or found n d).place ≡ first_place block (get_or all n 0)
      place_is = ap (λ cs. (get_or cs n d).place) is ∙ ap (λ (c : Candidate). c.place) (get_or-map (candidate_of block) all n 0 d inside)

      pub place_pushed : bit_at mask n ≡ 1 → old ++ (get_or found n d).place ∷ [] ≡ map (first_place block) (classes_at mask (take (n + 1) all))
      place_pushed e =
          ap (λ ps. ps ++ (get_or found n d).place ∷ []) so
          ∙ ap (λ p. map (first_place block) (classes_at mask (take n all)) ++ p ∷ []) place_is
          ∙ sym (map-append (first_place block) (classes_at mask (take n all)) (get_or all n 0 ∷ []))
          ∙ ap (map (first_place block)) (sym (to true (same_number (bit_at mask n) 1 e)))

      pub place_left : (bit_at mask n ≡ 1 → ⊥) → old ≡ map (first_place block) (classes_at mask (take (n + 1) all))
      place_left ne =
          so ∙ ap (map (first_place block)) (sym (to false (unequal (bit_at mask n) 1 ne) ∙ append-nil (classes_at mask (take n all))))
