-- Uses that wait for the classes of their keys, taken up one by one.
use Rattle.std.proofs.Common.{◌≡◌, ◌≢◌, ◌==◌, ◌||◌, ◌<◌, ◌≤◌, ◌+◌, ℕ, zero, suc, Bool, true, false, not, cond, List, [], ◌∷◌, ◌++◌, length, map, take, drop, get_or, set, replicate, refl, ap, sym, ◌∙◌, subst, arith, add-one, length-append, length-set, get_or-set_same, get_or-set_other}
use Rattle.std.specs.List.{slice_set, All}
use Rattle.std.proofs.Math.Seq.{take-suc}
use Rattle.std.proofs.lemmas.Bool.{eqb-true, eqb-false, eq-eqb}
use Rattle.std.proofs.lemmas.Bool.Decides.{nat_tests}
use Rattle.std.proofs.lemmas.List.{map-append, get_or_append_left, length-replicate, length-take-le}
use Rattle.std.proofs.lemmas.List.Elements.{All-push, All-nil}
use Rattle.beas_core.specs.declared.plan.Normal.{Normal}
use Rattle.beas_core.specs.Types.{ClassSet, Use}
use Rattle.beas_core.specs.Coverage.{has, key_classes, class_at}
use Rattle.beas_core.specs.declared.schema.ColumnId.{ColumnId}
use Rattle.attribute_closure.specs.declared.uses.UseAt.{UseAt}
use Rattle.attribute_closure.specs.Uses.{as_use, use_at, no_use}
use Rattle.attribute_closure.specs.Keys.{bit, times, among, number_at, list_at, lacking, some_left, AreCounted, CountedDown, WaitsFor}
use Rattle.attribute_closure.proofs.Counting.{times_push, among_push, count_append, enough, inside_waiting, added, written}

pub waits_none : (count number : ℕ) (waiting : List (List ℕ)) → WaitsFor count number [] waiting waiting
waits_none count number waiting = record {
  lists = refl;
  waits = λ c w l. by (times w (list_at waiting c)) (number == w);
  inside = λ n c o l h. h;
}
  where
    by : (n : ℕ) (b : Bool) → n ≡ n + cond b 0 0
    by n true = omega arith
    by n false = omega arith

pub waits_more : (count number : ℕ) (classes : List ℕ) (old new : List (List ℕ)) (d : ℕ) → WaitsFor count number classes old new → count ≤ length new
    → d < count
    → WaitsFor count number (classes ++ d ∷ []) old (set new d (list_at new d ++ number ∷ []))
waits_more count number classes old new d so full below = record {
  lists = length-set new d (list_at new d ++ number ∷ []) ∙ so.lists;
  waits = λ c w l. by c w l (d == c) refl;
  inside = λ n c o l h. inside n c o (d == c) refl (so.inside n c o l h);
}
  where
    inside : (n c : ℕ) → number < n → (b : Bool) → (d == c) ≡ b → All (λ w. w < n) (list_at new c)
        → All (λ w. w < n) (list_at (set new d (list_at new d ++ number ∷ [])) c)
    inside n c o true e h =
        let same = eqb-true d c e in
        subst (λ xs. All (λ w. w < n) xs) (sym (ap (list_at (set new d (list_at new d ++ number ∷ []))) (sym same)
        ∙ get_or-set_same new d (list_at new d ++ number ∷ []) [] (omega arith)))
        (All-push (λ w. w < n) (list_at new d) number (subst (λ k. All (λ w. w < n) (list_at new k)) (sym same) h) o)
    inside n c o false e h = subst (λ xs. All (λ w. w < n) xs) (sym (get_or-set_other new d c (list_at new d ++ number ∷ []) [] (λ g. eqb-false d c e
        (sym g)))) h

    bit_cond : (b : Bool) → bit b ≡ cond b 1 0
    bit_cond true = refl
    bit_cond false = refl

    if_plus : (b : Bool) (m n : ℕ) → cond b (m + n) 0 ≡ cond b m 0 + cond b n 0
    if_plus true m n = refl
    if_plus false m n = refl

    by : (c w : ℕ) → c < count → (b : Bool) → (d == c) ≡ b
        → times w (list_at (set new d (list_at new d ++ number ∷ [])) c) ≡ times w (list_at old c) + cond (number == w) (times c (classes ++ d ∷ [])) 0
    by c w l true e =
        let same = eqb-true d c e in
        let v = ap (λ xs. times w xs) (ap (list_at (set new d (list_at new d ++ number ∷ []))) (sym same)
        ∙ get_or-set_same new d (list_at new d ++ number ∷ []) [] (omega arith)) in
        let p = times_push w (list_at new d) number in
        let q = ap (λ k. times w (list_at new k)) same in
        let r = so.waits c w l in
        let t = ap (λ k. cond (number == w) k 0) (times_push c classes d ∙ ap (λ b. times c classes + bit b) e) in
        let s = if_plus (number == w) (times c classes) 1 in
        let z = bit_cond (number == w) in
        omega arith
    by c w l false e =
        let v = ap (λ xs. times w xs) (get_or-set_other new d c (list_at new d ++ number ∷ []) [] (λ g. eqb-false d c e (sym g))) in
        let r = so.waits c w l in
        let t = ap (λ k. cond (number == w) k 0) (times_push c classes d ∙ ap (λ b. times c classes + bit b) e) in
        let z : times c classes + 0 ≡ times c classes = omega arith in
        let s = ap (λ k. cond (number == w) k 0) z in
        omega arith

pub get_or_default : {A : Type 0} (xs : List A) (i : ℕ) (d e : A) → i < length xs → get_or xs i d ≡ get_or xs i e
get_or_default [] i d e l = absurd (omega (arith, l))
get_or_default (x ∷ xs) zero d e l = refl
get_or_default (x ∷ xs) (suc i) d e l = get_or_default xs i d e (omega arith)

pub waits_on : {A : Type 0} (count number : ℕ) (f : A
    → ℕ) (columns : List A) (old new : List (List ℕ)) (i : ℕ) (d : A) (c : ℕ) (list e : List ℕ) (items : List A)
    → WaitsFor count number (map f (take i columns)) old new → length old ≡ count
    → items ≡ columns → i < length items → c ≡ f (get_or items i d) → c < count → list ≡ get_or new c e ++ number ∷ []
    → WaitsFor count number (map f (take (i + 1) columns)) old (set new c list)
waits_on count number f columns old new i d c list e items so full same len is_item below el =
    let is = is_item ∙ ap (λ xs. f (get_or xs i d)) same in
    let l = subst (λ xs. i < length xs) same len in
    let full_now = so.lists ∙ full in
    let there = get_or_default new c e [] (omega arith) in
    let more = ap (λ k. map f (take k columns)) (add-one i) ∙ ap (map f) (take-suc columns i d l) ∙ map-append f (take i columns) (get_or columns i d ∷ []) in
    subst (λ ks. WaitsFor count number ks old (set new c list)) (sym (more ∙ ap (λ k. map f (take i columns) ++ k ∷ []) (sym is)))
    (subst (λ xs. WaitsFor count number (map f (take i columns) ++ c ∷ []) old (set new c xs)) (sym (el
    ∙ ap (λ xs. xs ++ number ∷ []) there)) (waits_more count number (map f (take i columns)) old new c so (omega arith) below))

-- no use yet
pub none_counted : (normal : Normal) → AreCounted normal [] (replicate normal.count false) [] (replicate normal.count []) []
none_counted normal = record {
  classes = length-replicate normal.count false;
  lists = length-replicate normal.count [];
  counts = refl;
  lacks = λ w l. absurd (omega (arith, l));
  waits = λ c w b l. absurd (omega (arith, l));
  inside = λ c b. subst (λ xs. All (λ w. w < 0) xs) (sym (empty normal.count c)) (All-nil (λ w. w < 0));
  ready_is = λ w l. absurd (omega (arith, l));
  ready_inside = All-nil (λ w. w < 0);
  together = refl;
}
  where
    empty : (n c : ℕ) → list_at (replicate n []) c ≡ []
    empty zero c = refl
    empty (suc n) zero = refl
    empty (suc n) (suc c) = empty n c

not_inside : (xs : List ℕ) (n w : ℕ) → All (λ v. v < n) xs → n ≤ w → (times w xs ≡ 0) × (among xs w ≡ false)
not_inside [] n w h l = (refl, refl)
not_inside (x ∷ xs) n w h l =
    let b = h 0 x (omega arith) in
    let rest = not_inside xs n w (λ k d m. h (suc k) d (omega arith)) l in
    let e = differs x w (omega arith) in
    let f = ap (λ b. bit b) e in
    (omega (arith, rest.0), ap (λ b. b || among xs w) e ∙ rest.1)
  where
    differs : (a b : ℕ) → a < b → (a == b) ≡ false
    differs a b l = grind (arith, nat_tests)

nothing_held : (n : ℕ) (ks : List ℕ) → lacking (replicate n false) ks ≡ length ks
nothing_held n [] = refl
nothing_held n (k ∷ ks) = let e = ap (λ b. bit (not b)) (none n k) in let h = nothing_held n ks in omega arith
  where
    none : (m c : ℕ) → has (replicate m false) c ≡ false
    none zero c = refl
    none (suc m) zero = refl
    none (suc m) (suc c) = none m c

use_before : (us : List Use) (u : Use) (w : ℕ) → w < length us → use_at (us ++ u ∷ []) w ≡ use_at us w
use_before us u w l = get_or_append_left us (u ∷ []) no_use w l

use_last : (us : List Use) (u : Use) → use_at (us ++ u ∷ []) (length us) ≡ u
use_last [] u = refl
use_last (v ∷ us) u = use_last us u

number_before : (m : List ℕ) (n w : ℕ) → w < length m → number_at (m ++ n ∷ []) w ≡ number_at m w
number_before m n w l = get_or_append_left m (n ∷ []) 0 w l

number_last : (m : List ℕ) (n : ℕ) → number_at (m ++ n ∷ []) (length m) ≡ n
number_last [] n = refl
number_last (k ∷ m) n = number_last m n

wider : (xs : List ℕ) (n : ℕ) → All (λ w. w < n) xs → All (λ w. w < n + 1) xs
wider xs n h = λ k d l. (let g = h k d l in omega arith)

module _ (normal : Normal) (us : List Use) (m : List ℕ) (waiting waiting2 : List (List ℕ)) (r : List ℕ) (u : Use) (so : AreCounted normal us
    (replicate normal.count false) m waiting r)
    (waits : WaitsFor normal.count (length us) (key_classes normal u) waiting waiting2) where
  len : length (us ++ u ∷ []) ≡ length us + 1
  len = length-append us (u ∷ [])

  lacks_more : (w : ℕ) → w < length (us ++ u ∷ [])
      → number_at (m ++ length (key_classes normal u) ∷ []) w ≡ lacking (replicate normal.count false) (key_classes normal (use_at (us ++ u ∷ []) w))
  lacks_more w l = by (w == length us) refl
    where
      by : (b : Bool) → (w == length us) ≡ b → number_at (m ++ length (key_classes normal u) ∷ []) w
          ≡ lacking (replicate normal.count false) (key_classes normal (use_at (us ++ u ∷ []) w))
      by true e =
          let same = eqb-true w (length us) e in
          ap (number_at (m ++ length (key_classes normal u) ∷ [])) (same ∙ sym so.counts) ∙ number_last m (length (key_classes normal u))
          ∙ sym (ap (λ v. lacking (replicate normal.count false) (key_classes normal v)) (ap (use_at (us ++ u ∷ [])) same ∙ use_last us u)
          ∙ nothing_held normal.count (key_classes normal u))
      by false e =
          let apart = eqb-false w (length us) e in
          let below : w < length us = omega (arith, len) in
          number_before m (length (key_classes normal u)) w (omega (arith, so.counts)) ∙ so.lacks w below
          ∙ sym (ap (λ v. lacking (replicate normal.count false) (key_classes normal v)) (use_before us u w below))

  waits_all : (c w : ℕ) → c < normal.count → w < length (us ++ u ∷ []) → times w (list_at waiting2 c) ≡ times c (key_classes normal (use_at (us ++ u ∷ []) w))
  waits_all c w b l = by (length us == w) refl
    where
      by : (t : Bool) → (length us == w) ≡ t → times w (list_at waiting2 c) ≡ times c (key_classes normal (use_at (us ++ u ∷ []) w))
      by true e =
          let same = eqb-true (length us) w e in
          let h = waits.waits c w b in
          let f = ap (λ x. cond x (times c (key_classes normal u)) 0) e in
          let z = (not_inside (list_at waiting c) (length us) w (so.inside c b) (omega arith)).0 in
          let k = ap (λ v. times c (key_classes normal v)) (ap (use_at (us ++ u ∷ [])) (sym same) ∙ use_last us u) in
          omega arith
      by false e =
          let apart = eqb-false (length us) w e in
          let below : w < length us = omega (arith, len) in
          let h = waits.waits c w b in
          let f = ap (λ x. cond x (times c (key_classes normal u)) 0) e in
          let g = so.waits c w b below in
          let k = ap (λ v. times c (key_classes normal v)) (use_before us u w below) in
          omega arith

  inside_all : (c : ℕ) → c < normal.count → All (λ w. w < length (us ++ u ∷ [])) (list_at waiting2 c)
  inside_all c b = subst (λ n. All (λ w. w < n) (list_at waiting2 c)) (sym len) (waits.inside (length us + 1) c (omega arith) b (wider
      (list_at waiting c) (length us) (so.inside c b)))

  left_more : some_left (m ++ length (key_classes normal u) ∷ []) ≡ some_left m + bit (not (length (key_classes normal u) == 0))
  left_more = let h = count_append (λ x. not (x == 0)) m (length (key_classes normal u) ∷ []) in omega arith

  pub taken_ready : length (key_classes normal u) ≡ 0
      → AreCounted normal (us ++ u ∷ []) (replicate normal.count false) (m ++ length (key_classes normal u) ∷ []) waiting2 (r ++ length us ∷ [])
  taken_ready none = record {
    classes = so.classes;
    lists = waits.lists ∙ so.lists;
    counts = length-append m (length (key_classes normal u) ∷ []) ∙ ap (λ n. n + 1) so.counts ∙ sym len;
    lacks = lacks_more;
    waits = waits_all;
    inside = inside_all;
    ready_is = λ w l. among_push r (length us) w ∙ by w l (length us == w) refl;
    ready_inside = subst (λ n. All (λ w. w < n) (r ++ length us ∷ [])) (sym len) (All-push (λ w. w < length us + 1) r (length us) (wider r
        (length us) so.ready_inside) (omega arith));
    together =
        let h = so.together in
        let g = length-append r (length us ∷ []) in
        let k = left_more in
        let e = ap (λ b. bit (not b)) (eq-eqb (length (key_classes normal u)) 0 none) in
        omega (arith, len);
  }
    where
      or_true : (b : Bool) → (b || true) ≡ true
      or_true true = refl
      or_true false = refl

      or_false : (b : Bool) → (b || false) ≡ b
      or_false true = refl
      or_false false = refl

      by : (w : ℕ) → w < length (us ++ u ∷ []) → (t : Bool) → (length us == w) ≡ t
          → (among r w || (length us == w)) ≡ (number_at (m ++ length (key_classes normal u) ∷ []) w == 0)
      by w l true e =
          let same = eqb-true (length us) w e in
          ap (λ b. among r w || b) e ∙ or_true (among r w)
          ∙ sym (ap (λ n. n == 0) (ap (number_at (m ++ length (key_classes normal u) ∷ [])) (sym same ∙ sym so.counts)
          ∙ number_last m (length (key_classes normal u))) ∙ eq-eqb (length (key_classes normal u)) 0 none)
      by w l false e =
          let apart = eqb-false (length us) w e in
          let below : w < length us = omega (arith, len) in
          ap (λ b. among r w || b) e ∙ or_false (among r w) ∙ so.ready_is w below
          ∙ sym (ap (λ n. n == 0) (number_before m (length (key_classes normal u)) w (omega (arith, so.counts))))

  pub taken_on : length (key_classes normal u) ≢ 0
      → AreCounted normal (us ++ u ∷ []) (replicate normal.count false) (m ++ length (key_classes normal u) ∷ []) waiting2 r
  taken_on some = record {
    classes = so.classes;
    lists = waits.lists ∙ so.lists;
    counts = length-append m (length (key_classes normal u) ∷ []) ∙ ap (λ n. n + 1) so.counts ∙ sym len;
    lacks = lacks_more;
    waits = waits_all;
    inside = inside_all;
    ready_is = λ w l. by w l (length us == w) refl;
    ready_inside = subst (λ n. All (λ w. w < n) r) (sym len) (wider r (length us) so.ready_inside);
    together =
        let h = so.together in
        let k = left_more in
        let e = ap (λ b. bit (not b)) (not_none (length (key_classes normal u)) some) in
        omega (arith, len);
  }
    where
      not_none : (n : ℕ) → n ≢ 0 → (n == 0) ≡ false
      not_none n h = grind (arith, nat_tests)

      by : (w : ℕ) → w < length (us ++ u ∷ []) → (t : Bool) → (length us == w) ≡ t → among r w ≡ (number_at (m ++ length (key_classes normal u) ∷ []) w == 0)
      by w l true e =
          let same = eqb-true (length us) w e in
          (not_inside r (length us) w so.ready_inside (omega arith)).1
          ∙ sym (ap (λ n. n == 0) (ap (number_at (m ++ length (key_classes normal u) ∷ [])) (sym same ∙ sym so.counts)
          ∙ number_last m (length (key_classes normal u))) ∙ not_none (length (key_classes normal u)) some)
      by w l false e =
          let apart = eqb-false (length us) w e in
          let below : w < length us = omega (arith, len) in
          so.ready_is w below ∙ sym (ap (λ n. n == 0) (number_before m (length (key_classes normal u)) w (omega (arith, so.counts))))

-- what one class more comes to, as the code reads it
module _ (normal : Normal) (us : List Use) (set : ClassSet) (m : List ℕ) (waiting : List (List ℕ)) (r : List ℕ)
    (so : AreCounted normal us set m waiting r) (c : ℕ) (below : c < normal.count)
    (bit : Bool) (read : bit ≡ get_or set c bit) (out : bit ≡ false) (numbers item m2 : List ℕ) (is : numbers ≡ item) (at : item
    ≡ get_or waiting c item) (same : m2 ≡ m) where
  held_not : has set c ≡ false
  held_not = get_or_default set c false bit (omega (arith, so.classes)) ∙ sym read ∙ out

  listed : numbers ≡ list_at waiting c
  listed = is ∙ at ∙ get_or_default waiting c item [] (omega (arith, so.lists))

  pub add_inside : All (λ w. w < length m2) numbers
  add_inside = subst (λ xs. All (λ w. w < length xs) numbers) (sym same) (subst (λ xs. All (λ w. w < length m) xs) (sym listed)
      (inside_waiting normal us set m waiting r so c below held_not))

  pub add_enough : (w : ℕ) → w < length m2 → times w numbers ≤ number_at m2 w
  add_enough w l =
      let e = enough normal us set m waiting r so c below held_not w (subst (λ xs. w < length xs) same l) in
      let f = ap (times w) listed in
      let g = ap (λ xs. number_at xs w) same in
      omega arith

  pub add_counted : (m3 r2 : List ℕ) (n : ℕ) → CountedDown numbers m2 m3 r r2 → n ≡ length m
      → AreCounted normal us (slice_set set c true) (take n (m3 ++ drop (length m3) m)) waiting r2
  add_counted m3 r2 n down full =
      let len : length m3 ≡ n = down.counts ∙ ap length same ∙ sym full in
      subst (λ xs. AreCounted normal us (slice_set set c true) xs waiting r2) (sym (written m3 m n len))
      (added normal us set m waiting r so c below held_not m3 r2 (subst (λ xs. CountedDown xs m m3 r r2) listed (subst
      (λ xs. CountedDown numbers xs m3 r r2) same down)))

pub none_given : (normal : Normal) (m : List ℕ) (waiting : List (List ℕ)) (r : List ℕ) → m ≡ [] → waiting ≡ replicate normal.count [] → r ≡ []
    → AreCounted normal [] (replicate normal.count false) m waiting r
none_given normal m waiting r em ew er =
    subst (λ xs. AreCounted normal [] (replicate normal.count false) xs waiting r) (sym em)
    (subst (λ xs. AreCounted normal [] (replicate normal.count false) [] xs r) (sym ew) (subst (AreCounted normal [] (replicate normal.count false) []
    (replicate normal.count [])) (sym er) (none_counted normal)))

-- one use more, as the code takes it up
module _ (normal : Normal) (us : List Use) (m : List ℕ) (waiting waiting2 : List (List ℕ)) (r : List ℕ) (i n : ℕ) (u : Use) (l : i < length us) (is : u
    ≡ use_at us i)
    (so : AreCounted normal (take i us) (replicate normal.count false) m waiting r) (waits : WaitsFor normal.count i
    (key_classes normal u) waiting waiting2) (size : n ≡ length u.access.key) where
  one_more : take (i + 1) us ≡ take i us ++ u ∷ []
  one_more = ap (λ k. take k us) (add-one i) ∙ take-suc us i no_use l ∙ ap (λ v. take i us ++ v ∷ []) (sym is)

  front : length (take i us) ≡ i
  front = length-take-le i us (omega arith)

  waits_here : WaitsFor normal.count (length (take i us)) (key_classes normal u) waiting waiting2
  waits_here = subst (λ k. WaitsFor normal.count k (key_classes normal u) waiting waiting2) (sym front) waits

  keys : n ≡ length (key_classes normal u)
  keys = size ∙ sym (length_mapped (class_at normal u.atom) u.access.key)
    where
      length_mapped : (f : ColumnId → ℕ) (xs : List ColumnId) → length (map f xs) ≡ length xs
      length_mapped f [] = refl
      length_mapped f (x ∷ xs) = ap suc (length_mapped f xs)

  pub taken_up_ready : (m2 r2 : List ℕ) → m2 ≡ m ++ n ∷ [] → r2 ≡ r ++ i ∷ [] → n ≡ 0
      → AreCounted normal (take (i + 1) us) (replicate normal.count false) m2 waiting2 r2
  taken_up_ready m2 r2 em er none =
      subst (λ vs. AreCounted normal vs (replicate normal.count false) m2 waiting2 r2) (sym one_more)
      (subst (λ xs. AreCounted normal (take i us ++ u ∷ []) (replicate normal.count false) xs waiting2 r2) (sym (em ∙ ap (λ k. m ++ k ∷ []) keys))
      (subst (AreCounted normal (take i us ++ u ∷ []) (replicate normal.count false) (m ++ length (key_classes normal u) ∷ []) waiting2) (sym (er
      ∙ ap (λ k. r ++ k ∷ []) (sym front)))
      (taken_ready normal (take i us) m waiting waiting2 r u so waits_here (sym keys ∙ none))))

  pub taken_up_on : (m2 : List ℕ) → m2 ≡ m ++ n ∷ [] → n ≢ 0 → AreCounted normal (take (i + 1) us) (replicate normal.count false) m2 waiting2 r
  taken_up_on m2 em some =
      subst (λ vs. AreCounted normal vs (replicate normal.count false) m2 waiting2 r) (sym one_more)
      (subst (λ xs. AreCounted normal (take i us ++ u ∷ []) (replicate normal.count false) xs waiting2 r) (sym (em ∙ ap (λ k. m ++ k ∷ []) keys))
      (taken_on normal (take i us) m waiting waiting2 r u so waits_here (λ h. some (keys ∙ h))))

pub length_seen : (us : List UseAt) → length (map as_use us) ≡ length us
length_seen [] = refl
length_seen (u ∷ us) = ap suc (length_seen us)

pub seen_at : (us : List UseAt) (i : ℕ) (u : UseAt) → i < length us → u ≡ get_or us i u → as_use u ≡ use_at (map as_use us) i
seen_at us i u l e = ap as_use e ∙ by us i l
  where
    by : (vs : List UseAt) (k : ℕ) → k < length vs → as_use (get_or vs k u) ≡ use_at (map as_use vs) k
    by [] k m = absurd (omega (arith, m))
    by (v ∷ vs) zero m = refl
    by (v ∷ vs) (suc k) m = by vs k (omega arith)

pub found_at : (list us : List UseAt) (ready r : List ℕ) (n : ℕ) (x : UseAt) → us ≡ list → r ≡ ready → x ≡ get_or us (get_or r n 0) x
    → number_at ready n < length (map as_use list)
    → as_use x ≡ use_at (map as_use list) (number_at ready n)
found_at list us ready r n x eu er is l =
    seen_at list (number_at ready n) x (omega (arith, length_seen list)) (is ∙ ap (λ xs. get_or xs (get_or r n 0) x) eu
    ∙ ap (λ ks. get_or list (get_or ks n 0) x) er)
