-- Labels numbered in order of their first place.
use Rattle.std.proofs.Common.{◌≡◌, ◌≢◌, ◌==◌, ◌||◌, ◌<◌, ◌≤◌, ◌+◌, ℕ, zero, suc, Bool, true, false, not, cond, List, [], ◌∷◌, ◌++◌, length, map, take, drop, set, get_or, refl, ap, sym, ◌∙◌, subst, arith, add-one, add-zero, length-append, append_assoc}
use Rattle.std.specs.List.{list_any, filter, position_or_len}
use Rattle.std.proofs.Math.Seq.{take-suc}
use Rattle.std.proofs.lemmas.Bool.{eqb-true, eqb-false, eq-eqb}
use Rattle.std.proofs.lemmas.List.{map-append, get_or-map, get_or-take, get_or_at, get_or_append_left, set_at, drop_more, length-map, length-take}
use Rattle.std.proofs.lemmas.List.Elements.{filter-append}
use Rattle.normal_form.specs.Labels.{AreFirst, label_at, heads, rank}

abbrev is : ℕ → ℕ → Bool
is y x = x == y

same_number : (x : ℕ) → (x == x) ≡ true
same_number x = eq-eqb x x refl

-- which heads one more label makes
heads_push : (xs : List ℕ) (y : ℕ) → heads (xs ++ y ∷ []) ≡ heads xs ++ cond (list_any (is y) xs) [] (y ∷ [])
heads_push [] y = refl
heads_push (x ∷ xs) y =
    ap (λ hs. x ∷ filter (λ h. not (x == h)) hs) (heads_push xs y)
    ∙ ap (λ hs. x ∷ hs) (filter-append (λ h. not (x == h)) (heads xs) (cond (list_any (is y) xs) [] (y ∷ []))
    ∙ ap (λ hs. filter (λ h. not (x == h)) (heads xs) ++ hs) (last (list_any (is y) xs) (x == y) refl))
  where
    last : (b c : Bool) → (x == y) ≡ c → filter (λ h. not (x == h)) (cond b [] (y ∷ [])) ≡ cond (c || b) [] (y ∷ [])
    last true true e = refl
    last true false e = refl
    last false true e = ap (λ d. cond (not d) (y ∷ []) []) e
    last false false e = ap (λ d. cond (not d) (y ∷ []) []) e

any_kept : (hs : List ℕ) (x y : ℕ) → list_any (is y) hs ≡ true → (x == y) ≡ false → list_any (is y) (filter (λ h. not (x == h)) hs) ≡ true
any_kept [] x y h e = h
any_kept (z ∷ hs) x y h e = by (z == y) (x == z) refl refl h (λ g. any_kept hs x y g e)
  where
    by : (b c : Bool) → (z == y) ≡ b → (x == z) ≡ c → (b || list_any (is y) hs) ≡ true
        → (list_any (is y) hs ≡ true → list_any (is y) (filter (λ h. not (x == h)) hs) ≡ true)
        → list_any (is y) (cond (not c) (z ∷ filter (λ h. not (x == h)) hs) (filter (λ h. not (x == h)) hs)) ≡ true
    by true true d f g rest = let k : x ≡ y = eqb-true x z f ∙ eqb-true z y d in absurd (eqb-false x y e k)
    by true false d f g rest = ap (λ b. b || list_any (is y) (filter (λ h. not (x == h)) hs)) d
    by false true d f g rest = rest g
    by false false d f g rest = ap (λ b. b || list_any (is y) (filter (λ h. not (x == h)) hs)) d ∙ rest g

-- each label has a head
head_of : (xs : List ℕ) (y : ℕ) → list_any (is y) xs ≡ true → list_any (is y) (heads xs) ≡ true
head_of [] y h = h
head_of (x ∷ xs) y h = by (x == y) refl h (head_of xs y)
  where
    by : (b : Bool) → (x == y) ≡ b → (b || list_any (is y) xs) ≡ true → (list_any (is y) xs ≡ true → list_any (is y) (heads xs) ≡ true)
        → ((x == y) || list_any (is y) (filter (λ h. not (x == h)) (heads xs))) ≡ true
    by true e g rest = ap (λ b. b || list_any (is y) (filter (λ h. not (x == h)) (heads xs))) e
    by false e g rest = ap (λ b. b || list_any (is y) (filter (λ h. not (x == h)) (heads xs))) e ∙ any_kept (heads xs) x y (rest g) e

no_head_of : (xs : List ℕ) (y : ℕ) → list_any (is y) xs ≡ false → list_any (is y) (heads xs) ≡ false
no_head_of [] y h = h
no_head_of (x ∷ xs) y h = by (x == y) refl h (no_head_of xs y)
  where
    none : (hs : List ℕ) → list_any (is y) hs ≡ false → list_any (is y) (filter (λ h. not (x == h)) hs) ≡ false
    none [] g = g
    none (z ∷ hs) g = step (z == y) (x == z) refl g (none hs)
      where
        step : (b c : Bool) → (z == y) ≡ b → (b || list_any (is y) hs) ≡ false
            → (list_any (is y) hs ≡ false → list_any (is y) (filter (λ h. not (x == h)) hs) ≡ false)
            → list_any (is y) (cond (not c) (z ∷ filter (λ h. not (x == h)) hs) (filter (λ h. not (x == h)) hs)) ≡ false
        step true c d k rest = cc
        step false true d k rest = rest k
        step false false d k rest = ap (λ b. b || list_any (is y) (filter (λ h. not (x == h)) hs)) d ∙ rest k

    by : (b : Bool) → (x == y) ≡ b → (b || list_any (is y) xs) ≡ false → (list_any (is y) xs ≡ false → list_any (is y) (heads xs) ≡ false)
        → ((x == y) || list_any (is y) (filter (λ h. not (x == h)) (heads xs))) ≡ false
    by true e g rest = cc
    by false e g rest = ap (λ b. b || list_any (is y) (filter (λ h. not (x == h)) (heads xs))) e ∙ none (heads xs) (rest g)

-- the first place that passes a test stays with more at the end
position_kept : (p : ℕ → Bool) (hs gs : List ℕ) → list_any p hs ≡ true → position_or_len p (hs ++ gs) ≡ position_or_len p hs
position_kept p [] gs h = cc
position_kept p (x ∷ hs) gs h = by (p x) h (position_kept p hs gs)
  where
    by : (b : Bool) → (b || list_any p hs) ≡ true → (list_any p hs ≡ true → position_or_len p (hs ++ gs) ≡ position_or_len p hs)
        → cond (not b) (1 + position_or_len p (hs ++ gs)) 0 ≡ cond (not b) (1 + position_or_len p hs) 0
    by true g rest = refl
    by false g rest = ap (λ n. 1 + n) (rest g)

position_past : (p : ℕ → Bool) (hs : List ℕ) (y : ℕ) → list_any p hs ≡ false → p y ≡ true → position_or_len p (hs ++ y ∷ []) ≡ length hs
position_past p [] y h e = ap (λ b. cond (not b) (1 + 0) 0) e
position_past p (x ∷ hs) y h e = by (p x) h (λ g. position_past p hs y g e)
  where
    by : (b : Bool) → (b || list_any p hs) ≡ false → (list_any p hs ≡ false → position_or_len p (hs ++ y ∷ []) ≡ length hs)
        → cond (not b) (1 + position_or_len p (hs ++ y ∷ [])) 0 ≡ suc (length hs)
    by true g rest = cc
    by false g rest = let r = rest g in omega arith

any_here : (xs : List ℕ) (k : ℕ) → k < length xs → list_any (is (get_or xs k 0)) xs ≡ true
any_here [] k l = absurd (omega (arith, l))
any_here (x ∷ xs) zero l = ap (λ b. b || list_any (is x) xs) (same_number x)
any_here (x ∷ xs) (suc k) l = by (x == get_or xs k 0) (any_here xs k (omega arith))
  where
    by : (b : Bool) → list_any (is (get_or xs k 0)) xs ≡ true → (b || list_any (is (get_or xs k 0)) xs) ≡ true
    by true h = refl
    by false h = h

-- the ranks of labels stay with more labels at the end
ranks_kept : (all xs : List ℕ) (y : ℕ) → ((k : ℕ) → k < length xs → list_any (is (get_or xs k 0)) all ≡ true)
    → map (rank (all ++ y ∷ [])) xs ≡ map (rank all) xs
unfolding rank
ranks_kept all [] y h = refl
ranks_kept all (x ∷ xs) y h =
    ap (λ n. n ∷ map (rank (all ++ y ∷ [])) xs)
    (ap (position_or_len (is x)) (heads_push all y) ∙ position_kept (is x) (heads all) (cond (list_any (is y) all) [] (y ∷ []))
    (head_of all x (h 0 (omega arith))))
    ∙ ap (λ ns. rank all x ∷ ns) (ranks_kept all xs y (λ k l. h (suc k) (omega arith)))

none_is : (xs : List ℕ) (y : ℕ) → ((k : ℕ) → k < length xs → get_or xs k 0 ≢ y) → list_any (is y) xs ≡ false
none_is [] y h = refl
none_is (x ∷ xs) y h = by (x == y) refl (none_is xs y (λ k l. h (suc k) (omega arith)))
  where
    by : (b : Bool) → (x == y) ≡ b → list_any (is y) xs ≡ false → ((x == y) || list_any (is y) xs) ≡ false
    by true e g = absurd (h 0 (omega arith) (eqb-true x y e))
    by false e g = ap (λ b. b || list_any (is y) xs) e ∙ g

heads_few : (xs : List ℕ) → length (heads xs) ≤ length xs
heads_few [] = omega arith
heads_few (x ∷ xs) = let g = heads_few xs in let f = filter_le (λ h. not (x == h)) (heads xs) in omega arith
  where
    filter_le : (p : ℕ → Bool) (hs : List ℕ) → length (filter p hs) ≤ length hs
    filter_le p [] = omega arith
    filter_le p (z ∷ hs) = by (p z) (filter_le p hs)
      where
        by : (b : Bool) → length (filter p hs) ≤ length hs → length (cond b (z ∷ filter p hs) (filter p hs)) ≤ suc (length hs)
        by true g = omega arith
        by false g = omega arith

module _ (xs : List ℕ) (y : ℕ) where
  ranks_push : map (rank (xs ++ y ∷ [])) (xs ++ y ∷ []) ≡ map (rank xs) xs ++ rank (xs ++ y ∷ []) y ∷ []
  ranks_push = map-append (rank (xs ++ y ∷ [])) xs (y ∷ []) ∙ ap (λ ns. ns ++ rank (xs ++ y ∷ []) y ∷ []) (ranks_kept xs xs y (λ k l. any_here xs k l))

  pub ranks_new : list_any (is y) xs ≡ false → map (rank (xs ++ y ∷ [])) (xs ++ y ∷ []) ≡ map (rank xs) xs ++ length (heads xs) ∷ []
  unfolding rank
  ranks_new h = ranks_push ∙ ap (λ n. map (rank xs) xs ++ n ∷ [])
      (ap (position_or_len (is y)) (heads_push xs y ∙ ap (λ b. heads xs ++ cond b [] (y ∷ [])) h)
      ∙ position_past (is y) (heads xs) y (no_head_of xs y h) (same_number y))

  pub ranks_old : list_any (is y) xs ≡ true → map (rank (xs ++ y ∷ [])) (xs ++ y ∷ []) ≡ map (rank xs) xs ++ rank xs y ∷ []
  unfolding rank
  ranks_old h = ranks_push ∙ ap (λ n. map (rank xs) xs ++ n ∷ [])
      (ap (position_or_len (is y)) (heads_push xs y) ∙ position_kept (is y) (heads xs) (cond (list_any (is y) xs) [] (y ∷ [])) (head_of xs y h))

  pub heads_new : list_any (is y) xs ≡ false → length (heads (xs ++ y ∷ [])) ≡ length (heads xs) + 1
  heads_new h = ap length (heads_push xs y ∙ ap (λ b. heads xs ++ cond b [] (y ∷ [])) h) ∙ length-append (heads xs) (y ∷ [])

  pub heads_old : list_any (is y) xs ≡ true → length (heads (xs ++ y ∷ [])) ≡ length (heads xs)
  heads_old h = ap length (heads_push xs y ∙ ap (λ b. heads xs ++ cond b [] (y ∷ [])) h) ∙ length-append (heads xs) [] ∙ add-zero (length (heads xs))

-- one more label: a new class where it is its own place, else the class of the place that it names
module _ (labels : List ℕ) (i : ℕ) (first : AreFirst labels) (l : i < length labels) where
  one_more : take (i + 1) labels ≡ take i labels ++ label_at labels i ∷ []
  one_more = ap (λ k. take k labels) (add-one i) ∙ take-suc labels i 0 l

  earlier : (k : ℕ) → k < length (take i labels) → get_or (take i labels) k 0 ≡ label_at labels k
  earlier k h = let g : k < i = omega (arith, length-take i labels) in get_or-take i labels k 0 g

  none_before : label_at labels i ≡ i → list_any (is (label_at labels i)) (take i labels) ≡ false
  none_before e = none_is (take i labels) (label_at labels i) (λ k h d.
      let g = first.least k (omega (arith, length-take i labels)) in
      let s = earlier k h in
      let t : k < i = omega (arith, length-take i labels) in
      omega arith)

  pub numbers_new : label_at labels i ≡ i → map (rank (take (i + 1) labels)) (take (i + 1) labels)
      ≡ map (rank (take i labels)) (take i labels) ++ length (heads (take i labels)) ∷ []
  numbers_new e = ap (λ ls. map (rank ls) ls) one_more ∙ ranks_new (take i labels) (label_at labels i) (none_before e)

  pub count_new : label_at labels i ≡ i → length (heads (take (i + 1) labels)) ≡ length (heads (take i labels)) + 1
  count_new e = ap (λ ls. length (heads ls)) one_more ∙ heads_new (take i labels) (label_at labels i) (none_before e)

  pub first_before : label_at labels i ≢ i → label_at labels i < i
  first_before e = let g = first.least i l in omega arith

  same_before : label_at labels i ≢ i → get_or (take i labels) (label_at labels i) 0 ≡ label_at labels i
  same_before e = let b = first_before e in earlier (label_at labels i) (omega (arith, length-take i labels)) ∙ first.own i l

  some_before : label_at labels i ≢ i → list_any (is (label_at labels i)) (take i labels) ≡ true
  some_before e =
      let b = first_before e in
      subst (λ y. list_any (is y) (take i labels) ≡ true) (same_before e) (any_here (take i labels) (label_at labels i) (omega (arith, length-take i labels)))

  pub numbers_old : label_at labels i ≢ i → map (rank (take (i + 1) labels)) (take (i + 1) labels)
      ≡ map (rank (take i labels)) (take i labels) ++ get_or (map (rank (take i labels)) (take i labels)) (label_at labels i) 0 ∷ []
  numbers_old e =
      let b = first_before e in
      let ranked = get_or-map (rank (take i labels)) (take i labels) (label_at labels i) 0 0 (omega (arith, length-take i labels))
      ∙ ap (rank (take i labels)) (same_before e) in
      ap (λ ls. map (rank ls) ls) one_more ∙ ranks_old (take i labels) (label_at labels i) (some_before e)
      ∙ ap (λ n. map (rank (take i labels)) (take i labels) ++ n ∷ []) (sym ranked)

  pub count_old : label_at labels i ≢ i → length (heads (take (i + 1) labels)) ≡ length (heads (take i labels))
  count_old e = ap (λ ls. length (heads ls)) one_more ∙ heads_old (take i labels) (label_at labels i) (some_before e)

  pub heads_le : length (heads (take i labels)) ≤ i
  heads_le = let g = heads_few (take i labels) in omega (arith, length-take i labels)

  pub old_number : (numbers : List ℕ) (k r : ℕ) → numbers ≡ map (rank (take i labels)) (take i labels) → k ≡ label_at labels i → label_at labels i ≢ i
      → r ≡ get_or numbers k 0
      → r ≡ get_or (map (rank (take i labels)) (take i labels)) (label_at labels i) 0
  old_number numbers k r en ek e h =
      h ∙ ap (λ ns. get_or ns k 0) en ∙ ap (λ j. get_or (map (rank (take i labels)) (take i labels)) j 0) ek

-- the numbers of the first labels, and the labels that are left
abbrev pub part_way : List ℕ → ℕ → List ℕ
part_way labels i = map (rank (take i labels)) (take i labels) ++ drop i labels

module _ (labels : List ℕ) (i : ℕ) (first : AreFirst labels) (l : i < length labels) (xs : List ℕ) (e : xs ≡ part_way labels i) where
  abbrev front : List ℕ
  front = map (rank (take i labels)) (take i labels)

  long : length front ≡ i
  long = length-map (take i labels) (rank (take i labels)) ∙ omega (arith, length-take i labels)

  parts : (d : ℕ) → xs ≡ front ++ get_or labels i d ∷ drop (i + 1) labels
  parts d = e ∙ ap (λ ls. front ++ ls) (drop_more labels i d l)

  pub label_here : (d : ℕ) → get_or xs i d ≡ get_or labels i d
  label_here d = ap (λ ls. get_or ls i d) (parts d) ∙ get_or_at front _ _ d i long

  put : (n : ℕ) → set xs i n ≡ (front ++ n ∷ []) ++ drop (i + 1) labels
  put n = ap (λ ls. set ls i n) (parts 0) ∙ set_at front _ _ n i long ∙ sym (append_assoc front (n ∷ []) _)

  pub put_new : (n : ℕ) → n ≡ length (heads (take i labels)) → label_at labels i ≡ i → set xs i n ≡ part_way labels (i + 1)
  put_new n en h = put n ∙ ap (λ ls. ls ++ drop (i + 1) labels) (ap (λ m. front ++ m ∷ []) en ∙ sym (numbers_new labels i first l h))

  pub put_old : (k r : ℕ) → k ≡ label_at labels i → label_at labels i ≢ i → r ≡ get_or xs k 0 → set xs i r ≡ part_way labels (i + 1)
  put_old k r ek h is =
      let b = first_before labels i first l h in
      let inside : k < length front = omega (arith, long) in
      let read : r ≡ get_or front k 0 = is ∙ ap (λ ls. get_or ls k 0) e ∙ get_or_append_left front (drop i labels) 0 k inside in
      put r ∙ ap (λ ls. ls ++ drop (i + 1) labels)
      (ap (λ m. front ++ m ∷ []) (old_number labels i first l front k r refl ek h read) ∙ sym (numbers_old labels i first l h))
