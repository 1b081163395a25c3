-- Counts of the classes that uses lack.
use Rattle.std.proofs.Common.{◌≡◌, ◌≢◌, ◌==◌, ◌&&◌, ◌||◌, ◌<◌, ◌≤◌, ◌+◌, ◌-◌, ℕ, zero, suc, Bool, true, false, not, List, [], ◌∷◌, ◌++◌, length, take, drop, set, refl, ap, sym, ◌∙◌, subst, arith, add-zero, add-one, drop-cons, length-append, length-set, get_or-set_same, get_or-set_other}
use Rattle.std.specs.List.{slice_set, All}
use Rattle.std.proofs.Math.Seq.{take-suc, take-length}
use Rattle.std.proofs.lemmas.Bool.{eqb-true, eqb-false, eq-eqb}
use Rattle.std.proofs.lemmas.List.{take-append-le, take-append-drop}
use Rattle.std.proofs.lemmas.List.Folds.{list_any-append}
use Rattle.std.proofs.lemmas.List.Elements.{All-push}
use Rattle.beas_core.specs.declared.plan.Normal.{Normal}
use Rattle.beas_core.specs.Types.{ClassSet, Use}
use Rattle.beas_core.specs.Coverage.{has, key_classes}
use Rattle.attribute_closure.specs.Uses.{use_at}
use Rattle.attribute_closure.specs.Keys.{bit, count, times, among, number_at, list_at, lacking, some_left, AreCounted, CountedDown, GoesOn}

not_same : (a b : ℕ) → a ≢ b → (a == b) ≡ false
not_same a b h = by (a == b) refl
  where
    by : (c : Bool) → (a == b) ≡ c → c ≡ false
    by true e = absurd (h (eqb-true a b e))
    by false e = refl

pub count_append : (p : ℕ → Bool) (xs ys : List ℕ) → count p (xs ++ ys) ≡ count p xs + count p ys
count_append p [] ys = omega arith
count_append p (x ∷ xs) ys = let h = count_append p xs ys in omega arith

pub times_push : (w : ℕ) (xs : List ℕ) (x : ℕ) → times w (xs ++ x ∷ []) ≡ times w xs + bit (x == w)
times_push w xs x = let h = count_append (λ y. y == w) xs (x ∷ []) in omega arith

pub among_push : (xs : List ℕ) (x w : ℕ) → among (xs ++ x ∷ []) w ≡ (among xs w || (x == w))
among_push xs x w = list_any-append (λ y. y == w) xs (x ∷ []) ∙ ap (λ b. among xs w || b) (or_false (x == w))
  where
    or_false : (b : Bool) → (b || false) ≡ b
    or_false true = refl
    or_false false = refl

pub some_left_set : (m : List ℕ) (x v : ℕ) → x < length m → some_left (set m x v) + bit (not (number_at m x == 0)) ≡ some_left m + bit (not (v == 0))
some_left_set [] x v l = absurd (omega (arith, l))
some_left_set (y ∷ m) zero v l = omega arith
some_left_set (y ∷ m) (suc x) v l = let h = some_left_set m x v (omega arith) in omega arith

goes_on_push : (old new : List ℕ) (x : ℕ) → GoesOn old new → length old ≤ length new → GoesOn old (new ++ x ∷ [])
goes_on_push old new x h l = take-append-le (length old) new (x ∷ []) l ∙ h

pub goes_on_length : (old new : List ℕ) → GoesOn old new → length old ≤ length new
goes_on_length old new h = let e = ap length h in let f = length_take (length old) new in omega arith
  where
    length_take : (n : ℕ) (xs : List ℕ) → length (take n xs) ≤ length xs
    length_take zero xs = omega arith
    length_take (suc n) [] = omega arith
    length_take (suc n) (x ∷ xs) = let g = length_take n xs in omega arith

pub goes_on_itself : (xs : List ℕ) → GoesOn xs xs
goes_on_itself xs = take-length xs

pub goes_on_further : (a b c : List ℕ) → GoesOn a b → GoesOn b c → GoesOn a c
goes_on_further a b c h g = sym (take_take (length a) (length b) c (goes_on_length a b h)) ∙ ap (take (length a)) g ∙ h
  where
    take_take : (n k : ℕ) (xs : List ℕ) → n ≤ k → take n (take k xs) ≡ take n xs
    take_take zero k xs l = refl
    take_take (suc n) zero xs l = absurd (omega (arith, l))
    take_take (suc n) (suc k) [] l = refl
    take_take (suc n) (suc k) (x ∷ xs) l = ap (λ ys. x ∷ ys) (take_take n k xs (omega arith))

-- before the first number, and one number more
pub counted_none : (m r : List ℕ) → CountedDown [] m m r r
counted_none m r = record {
  counts = refl;
  lacks = λ w l. add-zero (number_at m w);
  ready_is = λ w l. or_false (among r w);
  ready_inside = λ h. h;
  together = refl;
  goes_on = take-length r;
}
  where
    or_false : (b : Bool) → b ≡ (b || false)
    or_false true = refl
    or_false false = refl

module _ (taken m0 m r0 r : List ℕ) (x : ℕ) (so : CountedDown taken m0 m r0 r) (inside : x < length m0) (some : 1 ≤ number_at m x) where
  inside_now : x < length m
  inside_now = omega (arith, so.counts)

  lacks_more : (w : ℕ) → w < length m0 → number_at (set m x (number_at m x - 1)) w + times w (taken ++ x ∷ []) ≡ number_at m0 w
  lacks_more w l = by (x == w) refl
    where
      by : (b : Bool) → (x == w) ≡ b → number_at (set m x (number_at m x - 1)) w + times w (taken ++ x ∷ []) ≡ number_at m0 w
      by true e =
          let same = eqb-true x w e in
          let a = so.lacks w l in
          let t = times_push w taken x in
          let c = ap (λ b. bit b) e in
          let v = get_or-set_same m x (number_at m x - 1) 0 inside_now in
          let u = ap (number_at (set m x (number_at m x - 1))) same in
          let p = ap (number_at m) same in
          omega arith
      by false e =
          let a = so.lacks w l in
          let t = times_push w taken x in
          let c = ap (λ b. bit b) e in
          let v = get_or-set_other m x w (number_at m x - 1) 0 (λ h. eqb-false x w e (sym h)) in
          omega arith

  left_more : some_left (set m x (number_at m x - 1)) + 1 ≡ some_left m + bit (not ((number_at m x - 1) == 0))
  left_more =
      let h = some_left_set m x (number_at m x - 1) inside_now in
      let e = not_same (number_at m x) 0 (λ d. (omega arith)) in
      let f = ap (λ b. bit (not b)) e in
      omega arith

  pub counted_ready : number_at m x - 1 ≡ 0 → CountedDown (taken ++ x ∷ []) m0 (set m x (number_at m x - 1)) r0 (r ++ x ∷ [])
  counted_ready zero_now = record {
    counts = length-set m x (number_at m x - 1) ∙ so.counts;
    lacks = lacks_more;
    ready_is = λ w l. by w l (x == w) refl;
    ready_inside = λ h. All-push (λ w. w < length m0) r x (so.ready_inside h) inside;
    together =
        let h = left_more in
        let f = ap (λ b. bit (not b)) (eq-eqb (number_at m x - 1) 0 zero_now) in
        let g = so.together in
        let k = length-append r (x ∷ []) in
        omega arith;
    goes_on = goes_on_push r0 r x so.goes_on (goes_on_length r0 r so.goes_on);
  }
    where
      by : (w : ℕ) → w < length m0 → (b : Bool) → (x == w) ≡ b
          → among (r ++ x ∷ []) w ≡ (among r0 w || (among (taken ++ x ∷ []) w && (number_at (set m x (number_at m x - 1)) w == 0)))
      by w l true e =
          let same = eqb-true x w e in
          let v = ap (number_at (set m x (number_at m x - 1))) (sym same) ∙ get_or-set_same m x (number_at m x - 1) 0 inside_now ∙ zero_now in
          among_push r x w ∙ ap (λ b. among r w || b) e ∙ true_right (among r w)
          ∙ sym (ap (λ b. among r0 w || (b && (number_at (set m x (number_at m x - 1)) w == 0))) (among_push taken x w ∙ ap (λ b. among taken w || b) e
          ∙ true_right (among taken w))
          ∙ ap (λ b. among r0 w || b) (eq-eqb (number_at (set m x (number_at m x - 1)) w) 0 v) ∙ true_right (among r0 w))
        where
          true_right : (b : Bool) → (b || true) ≡ true
          true_right true = refl
          true_right false = refl
      by w l false e =
          let v = get_or-set_other m x w (number_at m x - 1) 0 (λ h. eqb-false x w e (sym h)) in
          among_push r x w ∙ ap (λ b. among r w || b) e ∙ false_right (among r w) ∙ so.ready_is w l
          ∙ sym (ap (λ b. among r0 w || (b && (number_at (set m x (number_at m x - 1)) w == 0))) (among_push taken x w ∙ ap (λ b. among taken w || b) e
          ∙ false_right (among taken w))
          ∙ ap (λ n. among r0 w || (among taken w && (n == 0))) v)
        where
          false_right : (b : Bool) → (b || false) ≡ b
          false_right true = refl
          false_right false = refl

  pub counted_on : number_at m x - 1 ≢ 0 → CountedDown (taken ++ x ∷ []) m0 (set m x (number_at m x - 1)) r0 r
  counted_on some_now = record {
    counts = length-set m x (number_at m x - 1) ∙ so.counts;
    lacks = lacks_more;
    ready_is = λ w l. by w l (x == w) refl;
    ready_inside = so.ready_inside;
    together =
        let h = left_more in
        let f = ap (λ b. bit (not b)) (not_same (number_at m x - 1) 0 some_now) in
        let g = so.together in
        omega arith;
    goes_on = so.goes_on;
  }
    where
      false_right : (b : Bool) → (b || false) ≡ b
      false_right true = refl
      false_right false = refl

      and_false : (b : Bool) → (b && false) ≡ false
      and_false true = refl
      and_false false = refl

      by : (w : ℕ) → w < length m0 → (b : Bool) → (x == w) ≡ b
          → among r w ≡ (among r0 w || (among (taken ++ x ∷ []) w && (number_at (set m x (number_at m x - 1)) w == 0)))
      by w l true e =
          let same = eqb-true x w e in
          let v = ap (number_at (set m x (number_at m x - 1))) (sym same) ∙ get_or-set_same m x (number_at m x - 1) 0 inside_now in
          let p = ap (number_at m) same in
          let before : number_at m w ≢ 0 = λ h. (let q : number_at m x ≡ 0 = p ∙ h in omega arith) in
          so.ready_is w l ∙ ap (λ b. among r0 w || (among taken w && b)) (not_same (number_at m w) 0 before)
          ∙ ap (λ b. among r0 w || b) (and_false (among taken w))
          ∙ sym (ap (λ n. among r0 w || (among (taken ++ x ∷ []) w && (n == 0))) v
          ∙ ap (λ b. among r0 w || (among (taken ++ x ∷ []) w && b)) (not_same (number_at m x - 1) 0 some_now)
          ∙ ap (λ b. among r0 w || b) (and_false (among (taken ++ x ∷ []) w)))
      by w l false e =
          let v = get_or-set_other m x w (number_at m x - 1) 0 (λ h. eqb-false x w e (sym h)) in
          so.ready_is w l
          ∙ sym (ap (λ b. among r0 w || (b && (number_at (set m x (number_at m x - 1)) w == 0))) (among_push taken x w ∙ ap (λ b. among taken w || b) e
          ∙ false_right (among taken w))
          ∙ ap (λ n. among r0 w || (among taken w && (n == 0))) v)

times_front : (numbers : List ℕ) (i : ℕ) → i < length numbers → times (number_at numbers i) (take i numbers) + 1 ≤ times (number_at numbers i) numbers
times_front numbers i l =
    let w = number_at numbers i in
    let a = count_append (λ y. y == w) (take i numbers) (drop i numbers) in
    let b = ap (times w) (take-append-drop i numbers) in
    let c = ap (times w) (drop-cons numbers i 0 l) in
    let d = ap bit (eq-eqb w w refl) in
    omega arith

pub some_there : (numbers m0 m r0 r : List ℕ) (i : ℕ) → CountedDown (take i numbers) m0 m r0 r → i < length numbers → All (λ w. w < length m0) numbers
    → ((w : ℕ) → w < length m0 → times w numbers ≤ number_at m0 w) → 1 ≤ number_at m (number_at numbers i)
some_there numbers m0 m r0 r i so l inside enough =
    let b = inside i 0 l in
    let a = so.lacks (number_at numbers i) b in
    let c = enough (number_at numbers i) b in
    let d = times_front numbers i l in
    omega arith

-- one more class in the set
has_set_same : (set : ClassSet) (c : ℕ) → c < length set → has (slice_set set c true) c ≡ true
has_set_same [] c l = absurd (omega (arith, l))
has_set_same (b ∷ set) zero l = refl
has_set_same (b ∷ set) (suc c) l = has_set_same set c (omega arith)

has_set_other : (set : ClassSet) (c d : ℕ) → d ≢ c → has (slice_set set c true) d ≡ has set d
has_set_other set c d h = get_or-set_other set c d true false h

pub lacking_without : (set : ClassSet) (c : ℕ) (ks : List ℕ) → c < length set → has set c ≡ false
    → lacking set ks ≡ lacking (slice_set set c true) ks + times c ks
lacking_without set c [] l h = omega arith
lacking_without set c (k ∷ ks) l h = by (k == c) refl (lacking_without set c ks l h)
  where
    by : (b : Bool) → (k == c) ≡ b → lacking set ks ≡ lacking (slice_set set c true) ks + times c ks
        → lacking set (k ∷ ks) ≡ lacking (slice_set set c true) (k ∷ ks) + times c (k ∷ ks)
    by true e g =
        let same = eqb-true k c e in
        let a = ap (λ b. bit (not b)) (ap (has set) same ∙ h) in
        let d = ap (λ b. bit (not b)) (ap (has (slice_set set c true)) same ∙ has_set_same set c l) in
        let f = ap (λ b. bit b) e in
        omega arith
    by false e g =
        let d = ap (λ b. bit (not b)) (has_set_other set c k (eqb-false k c e)) in
        let f = ap (λ b. bit b) e in
        omega arith

pub among_times : (xs : List ℕ) (w : ℕ) → 1 ≤ times w xs → among xs w ≡ true
among_times [] w l = absurd (omega (arith, l))
among_times (x ∷ xs) w l = by (x == w) refl (among_times xs w)
  where
    by : (b : Bool) → (x == w) ≡ b → (1 ≤ times w xs → among xs w ≡ true) → ((x == w) || among xs w) ≡ true
    by true e g = ap (λ b. b || among xs w) e
    by false e g = let f = ap (λ b. bit b) e in ap (λ b. b || among xs w) e ∙ g (omega arith)

module _ (normal : Normal) (us : List Use) (set : ClassSet) (m : List ℕ) (waiting : List (List ℕ)) (r : List ℕ)
    (so : AreCounted normal us set m waiting r) (c : ℕ) (below : c < normal.count) (out : has set c ≡ false) where
  inside_set : c < length set
  inside_set = omega (arith, so.classes)

  pub enough : (w : ℕ) → w < length m → times w (list_at waiting c) ≤ number_at m w
  enough w l =
      let k : w < length us = omega (arith, so.counts) in
      let a = so.lacks w k in
      let b = so.waits c w below k in
      let d = lacking_without set c (key_classes normal (use_at us w)) inside_set out in
      omega arith

  pub inside_waiting : All (λ w. w < length m) (list_at waiting c)
  inside_waiting = subst (λ n. All (λ w. w < n) (list_at waiting c)) (sym so.counts) (so.inside c below)

  pub added : (m2 r2 : List ℕ) → CountedDown (list_at waiting c) m m2 r r2 → AreCounted normal us (slice_set set c true) m2 waiting r2
  added m2 r2 down = record {
    classes = length-set set c true ∙ so.classes;
    lists = so.lists;
    counts = down.counts ∙ so.counts;
    lacks = λ w l.
        let k : w < length m = omega (arith, so.counts) in
        let a = so.lacks w l in
        let b = so.waits c w below l in
        let d = lacking_without set c (key_classes normal (use_at us w)) inside_set out in
        let e = down.lacks w k in
        omega arith;
    waits = so.waits;
    inside = so.inside;
    ready_is = λ w l.
        let k : w < length m = omega (arith, so.counts) in
        down.ready_is w k ∙ ap (λ b. b || (among (list_at waiting c) w && (number_at m2 w == 0))) (so.ready_is w l)
        ∙ by w k (number_at m w == 0) (number_at m2 w == 0) refl refl;
    ready_inside = subst (λ n. All (λ w. w < n) r2) so.counts (down.ready_inside (subst (λ n. All (λ w. w < n) r) (sym so.counts) so.ready_inside));
    together = down.together ∙ so.together;
  }
    where
      by : (w : ℕ) → w < length m → (a b : Bool) → (number_at m w == 0) ≡ a → (number_at m2 w == 0) ≡ b → (a || (among (list_at waiting c) w && b)) ≡ b
      by w l true true e f = refl
      by w l true false e f =
          let d = down.lacks w l in
          let z = eqb-true (number_at m w) 0 e in
          absurd (eqb-false (number_at m2 w) 0 f (omega arith))
      by w l false true e f =
          let d = down.lacks w l in
          let z = eqb-true (number_at m2 w) 0 f in
          let n : number_at m w ≢ 0 = eqb-false (number_at m w) 0 e in
          ap (λ x. x && true) (among_times (list_at waiting c) w (omega arith))
      by w l false false e f = and_false (among (list_at waiting c) w)
        where
          and_false : (x : Bool) → (x && false) ≡ false
          and_false true = refl
          and_false false = refl

-- what a slice that was written through leaves in its vector
pub written : {A : Type 0} (new old : List A) (n : ℕ) → length new ≡ n → take n (new ++ drop (length new) old) ≡ new
written new old n e = take-append-le n new (drop (length new) old) (omega arith) ∙ ap (λ k. take k new) (sym e) ∙ take-length new

-- one number more, as a loop takes them
pub down_ready : (numbers m0 m r0 r r2 : List ℕ) (i : ℕ) → CountedDown (take i numbers) m0 m r0 r → i < length numbers → All (λ w. w < length m0) numbers
    → ((w : ℕ) → w < length m0 → times w numbers ≤ number_at m0 w)
    → number_at (set m (number_at numbers i) (number_at m (number_at numbers i) - 1)) (number_at numbers i) ≡ 0 → r2 ≡ r ++ number_at numbers i ∷ []
    → CountedDown (take (i + 1) numbers) m0 (set m (number_at numbers i) (number_at m (number_at numbers i) - 1)) r0 r2
down_ready numbers m0 m r0 r r2 i so l inside enough zero_set e =
    let b = inside i 0 l in
    let zero_now = sym (get_or-set_same m (number_at numbers i) (number_at m (number_at numbers i) - 1) 0 (omega (arith, so.counts))) ∙ zero_set in
    let more = ap (λ k. take k numbers) (add-one i) ∙ take-suc numbers i 0 l in
    subst (λ ns. CountedDown ns m0 (set m (number_at numbers i) (number_at m (number_at numbers i) - 1)) r0 r2) (sym more)
    (subst (CountedDown (take i numbers ++ number_at numbers i ∷ []) m0 (set m (number_at numbers i) (number_at m (number_at numbers i) - 1)) r0) (sym e)
    (counted_ready (take i numbers) m0 m r0 r (number_at numbers i) so (inside i 0 l) (some_there numbers m0 m r0 r i so l inside enough) zero_now))

pub down_on : (numbers m0 m r0 r : List ℕ) (i : ℕ) → CountedDown (take i numbers) m0 m r0 r → i < length numbers → All (λ w. w < length m0) numbers
    → ((w : ℕ) → w < length m0 → times w numbers ≤ number_at m0 w)
    → number_at (set m (number_at numbers i) (number_at m (number_at numbers i) - 1)) (number_at numbers i) ≢ 0
    → CountedDown (take (i + 1) numbers) m0 (set m (number_at numbers i) (number_at m (number_at numbers i) - 1)) r0 r
down_on numbers m0 m r0 r i so l inside enough some_set =
    let b = inside i 0 l in
    let some_now : number_at m (number_at numbers i) - 1 ≢ 0 = λ h. some_set (get_or-set_same m (number_at numbers i) (number_at m
    (number_at numbers i) - 1) 0 (omega (arith, so.counts)) ∙ h) in
    let more = ap (λ k. take k numbers) (add-one i) ∙ take-suc numbers i 0 l in
    subst (λ ns. CountedDown ns m0 (set m (number_at numbers i) (number_at m (number_at numbers i) - 1)) r0 r) (sym more)
    (counted_on (take i numbers) m0 m r0 r (number_at numbers i) so (inside i 0 l) (some_there numbers m0 m r0 r i so l inside enough) some_now)
