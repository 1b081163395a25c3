-- The first element that passes a test: what a sum over the list is where another takes its place, or where it goes, and where it stands.
use Rattle.std.proofs.Common.{◌≡◌, ◌<◌, ◌≤◌, ◌+◌, ◌-◌, ◌++◌, ◌∙◌, ℕ, zero, Bool, true, false, not, cond, List, [], ◌∷◌, set, remove, find, None, Some, refl, ap, sym, subst, arith, suc, get_or, length, append-nil}
use Rattle.std.specs.Prelude.{sum, sum_by}
use Rattle.std.specs.List.{AllZip, position_or_len}
use Rattle.std.proofs.lemmas.List.Edits.{remove-append_right}
use Rattle.std.proofs.lemmas.List.Sums.{sum_by-cons}
use Rattle.version_store.proofs.Places.{remove-set}

one_on : {X : Type 0} (p : X → Bool) (xs : List X) → 1 + position_or_len p xs ≡ suc (position_or_len p xs)
one_on p xs = omega arith

module _ {X : Type 0} (p : X → Bool) where
  pub sum_by-set-found : (f : X → ℕ) (xs : List X) (x y : X) → find p xs ≡ Some x → f y ≡ f x
      → sum_by f (set xs (position_or_len p xs) y) ≡ sum_by f xs
  sum_by-set-found f [] x y h same = cc
  sum_by-set-found f (z ∷ xs) x y h same = by (p z) refl h (λ g. sum_by-set-found f xs x y g same)
    where
      by : (b : Bool) → p z ≡ b → cond b (Some z) (find p xs) ≡ Some x
          → (find p xs ≡ Some x → sum_by f (set xs (position_or_len p xs) y) ≡ sum_by f xs)
          → sum_by f (set (z ∷ xs) (cond (not b) (1 + position_or_len p xs) 0) y) ≡ sum_by f (z ∷ xs)
      by true e g later =
          let is : z ≡ x = cc in
          sum_by-cons f y xs ∙ ap (λ n. n + sum_by f xs) (same ∙ sym (ap f is)) ∙ sym (sum_by-cons f z xs)
      by false e g later =
          ap (λ i. sum_by f (set (z ∷ xs) i y)) (one_on p xs)
          ∙ sum_by-cons f z (set xs (position_or_len p xs) y) ∙ ap (λ n. f z + n) (later g) ∙ sym (sum_by-cons f z xs)

  pub sum_by-remove-found : (f : X → ℕ) (xs : List X) (x : X) → find p xs ≡ Some x
      → f x + sum_by f (remove xs (position_or_len p xs)) ≡ sum_by f xs
  sum_by-remove-found f [] x h = cc
  sum_by-remove-found f (z ∷ xs) x h = by (p z) refl h (λ g. sum_by-remove-found f xs x g)
    where
      by : (b : Bool) → p z ≡ b → cond b (Some z) (find p xs) ≡ Some x
          → (find p xs ≡ Some x → f x + sum_by f (remove xs (position_or_len p xs)) ≡ sum_by f xs)
          → f x + sum_by f (remove (z ∷ xs) (cond (not b) (1 + position_or_len p xs) 0)) ≡ sum_by f (z ∷ xs)
      by true e g later = let is : z ≡ x = cc in ap (λ w. f w + sum_by f xs) (sym is) ∙ sym (sum_by-cons f z xs)
      by false e g later =
          let h = later g in
          let c = sum_by-cons f z xs in
          let d = sum_by-cons f z (remove xs (position_or_len p xs)) in
          ap (λ i. f x + sum_by f (remove (z ∷ xs) i)) (one_on p xs) ∙ omega (arith, h, c, d)

  pub find-set-found : (xs : List X) (x y : X) → find p xs ≡ Some x → p y ≡ true → find p (set xs (position_or_len p xs) y) ≡ Some y
  find-set-found [] x y h own = cc
  find-set-found (z ∷ xs) x y h own = by (p z) refl h (λ g. find-set-found xs x y g own)
    where
      by : (b : Bool) → p z ≡ b → cond b (Some z) (find p xs) ≡ Some x
          → (find p xs ≡ Some x → find p (set xs (position_or_len p xs) y) ≡ Some y)
          → find p (set (z ∷ xs) (cond (not b) (1 + position_or_len p xs) 0) y) ≡ Some y
      by true e g later = ap (λ b. cond b (Some y) (find p xs)) own
      by false e g later =
          ap (λ i. find p (set (z ∷ xs) i y)) (one_on p xs) ∙ ap (λ b. cond b (Some z) (find p (set xs (position_or_len p xs) y))) e ∙ later g

-- numbers beside a list, none greater than what is counted for its element
module _ {X : Type 0} (f : X → ℕ) where
  abbrev pub Within : List X → List ℕ → Type 0
  Within xs ns = AllZip (λ x n. n ≤ f x) xs ns

  pub sum-within : (xs : List X) (ns : List ℕ) → Within xs ns → sum ns ≤ sum_by f xs
  sum-within [] [] w = omega arith
  sum-within [] (n ∷ ns) w = absurd w
  sum-within (x ∷ xs) [] w = absurd w
  sum-within (x ∷ xs) (n ∷ ns) w =
      let h = sum-within xs ns w.1 in
      let c = sum_by-cons f x xs in
      let d = sum_by-cons (λ k. k) n ns in
      omega (arith, h, c, d, w.0)

  -- so it is where a number is greater by some more
  pub sum-within-more : (p : X → Bool) (xs : List X) (ns : List ℕ) (x : X) (more : ℕ) → Within xs ns → find p xs ≡ Some x
      → get_or ns (position_or_len p xs) 0 + more ≤ f x → sum ns + more ≤ sum_by f xs
  sum-within-more p [] ns x more w h le = cc
  sum-within-more p (z ∷ xs) [] x more w h le = absurd w
  sum-within-more p (z ∷ xs) (n ∷ ns) x more w h le = by (p z) refl h (λ g l. sum-within-more p xs ns x more w.1 g l) le
    where
      by : (b : Bool) → p z ≡ b → cond b (Some z) (find p xs) ≡ Some x
          → (find p xs ≡ Some x → get_or ns (position_or_len p xs) 0 + more ≤ f x → sum ns + more ≤ sum_by f xs)
          → get_or (n ∷ ns) (cond (not b) (1 + position_or_len p xs) 0) 0 + more ≤ f x → sum (n ∷ ns) + more ≤ sum_by f (z ∷ xs)
      by true e g later l =
          let is : z ≡ x = cc in
          let own : n + more ≤ f z = subst (λ w. n + more ≤ f w) (sym is) l in
          let h = sum-within xs ns w.1 in
          let c = sum_by-cons f z xs in
          let d = sum_by-cons (λ k. k) n ns in
          omega (arith, own, h, c, d)
      by false e g later l =
          let at : get_or ns (position_or_len p xs) 0 + more ≤ f x = subst (λ i. get_or (n ∷ ns) i 0 + more ≤ f x) (one_on p xs) l in
          let h = later g at in
          let c = sum_by-cons f z xs in
          let d = sum_by-cons (λ k. k) n ns in
          omega (arith, h, c, d, w.0)

  -- and for the first that passes
  pub within-found : (p : X → Bool) (xs : List X) (ns : List ℕ) (x : X) → Within xs ns → find p xs ≡ Some x
      → get_or ns (position_or_len p xs) 0 ≤ f x
  within-found p [] ns x w h = cc
  within-found p (z ∷ xs) [] x w h = absurd w
  within-found p (z ∷ xs) (n ∷ ns) x w h = by (p z) refl h (λ g. within-found p xs ns x w.1 g)
    where
      by : (b : Bool) → p z ≡ b → cond b (Some z) (find p xs) ≡ Some x
          → (find p xs ≡ Some x → get_or ns (position_or_len p xs) 0 ≤ f x)
          → get_or (n ∷ ns) (cond (not b) (1 + position_or_len p xs) 0) 0 ≤ f x
      by true e g later = let is : z ≡ x = cc in subst (λ v. n ≤ f v) is w.0
      by false e g later = subst (λ i. get_or (n ∷ ns) i 0 ≤ f x) (sym (one_on p xs)) (later g)

-- a sum, and what goes from it; past the end nothing goes
pub sum-remove : (ns : List ℕ) (i : ℕ) → sum (remove ns i) + get_or ns i 0 ≡ sum ns
sum-remove [] zero = refl
sum-remove [] (suc i) = refl
sum-remove (n ∷ ns) zero = let c = sum_by-cons (λ k. k) n ns in omega (arith, c)
sum-remove (n ∷ ns) (suc i) =
    let h = sum-remove ns i in
    let c = sum_by-cons (λ k. k) n ns in
    let d = sum_by-cons (λ k. k) n (remove ns i) in
    omega (arith, h, c, d)

-- what holds at each place holds place by place
pub all_zip : {A B : Type 0} (R : A → B → Type 0) (xs : List A) (ys : List B) (e : B) → length ys ≡ length xs
    → ((k : ℕ) (d : A) → k < length xs → R (get_or xs k d) (get_or ys k e)) → AllZip R xs ys
all_zip R [] [] e same each = tt
all_zip R [] (y ∷ ys) e same each = absurd (omega (arith, same))
all_zip R (x ∷ xs) [] e same each = absurd (omega (arith, same))
all_zip R (x ∷ xs) (y ∷ ys) e same each = (
  each 0 x (omega arith),
  all_zip R xs ys e (omega (arith, same)) (λ k d below. each (suc k) d (omega (arith, below))),
)

-- the first that passes stands where it stood if another that passes takes its place
pub place-set-found : {X : Type 0} (p : X → Bool) (xs : List X) (x y : X) → find p xs ≡ Some x → p y ≡ true
    → position_or_len p (set xs (position_or_len p xs) y) ≡ position_or_len p xs
place-set-found p [] x y h own = cc
place-set-found p (z ∷ xs) x y h own = by (p z) refl h (λ g. place-set-found p xs x y g own)
  where
    by : (b : Bool) → p z ≡ b → cond b (Some z) (find p xs) ≡ Some x
        → (find p xs ≡ Some x → position_or_len p (set xs (position_or_len p xs) y) ≡ position_or_len p xs)
        → position_or_len p (set (z ∷ xs) (cond (not b) (1 + position_or_len p xs) 0) y) ≡ cond (not b) (1 + position_or_len p xs) 0
    by true e g later = ap (λ b. cond (not b) (1 + position_or_len p xs) 0) own
    by false e g later =
        let one : 1 + position_or_len p xs ≡ suc (position_or_len p xs) = omega arith in
        ap (λ i. position_or_len p (set (z ∷ xs) i y)) one
        ∙ ap (λ b. cond (not b) (1 + position_or_len p (set xs (position_or_len p xs) y)) 0) e ∙ ap (λ n. 1 + n) (later g)

pub remove-set-found : {X : Type 0} (p : X → Bool) (xs : List X) (x y : X) → find p xs ≡ Some x → p y ≡ true
    → remove (set xs (position_or_len p xs) y) (position_or_len p (set xs (position_or_len p xs) y)) ≡ remove xs (position_or_len p xs)
remove-set-found p xs x y h own =
    ap (remove (set xs (position_or_len p xs) y)) (place-set-found p xs x y h own) ∙ remove-set xs (position_or_len p xs) y

-- ---- where none passes

pub place-none : {X : Type 0} (p : X → Bool) (xs : List X) → find p xs ≡ None → position_or_len p xs ≡ length xs
place-none p [] none = refl
place-none p (x ∷ xs) none = by (p x) refl none (λ h. place-none p xs h)
  where
    by : (b : Bool) → p x ≡ b → cond b (Some x) (find p xs) ≡ None → (find p xs ≡ None → position_or_len p xs ≡ length xs)
        → position_or_len p (x ∷ xs) ≡ length (x ∷ xs)
    by true e h later = cc
    by false e h later = let rest = later h in ap (λ b. cond (not b) (1 + position_or_len p xs) 0) e ∙ omega (arith, rest)

pub place-last : {X : Type 0} (p : X → Bool) (xs : List X) (y : X) → find p xs ≡ None → p y ≡ true
    → position_or_len p (xs ++ y ∷ []) ≡ length xs
place-last p [] y none own = ap (λ b. cond (not b) 1 0) own
place-last p (x ∷ xs) y none own = by (p x) refl none (λ h. place-last p xs y h own)
  where
    by : (b : Bool) → p x ≡ b → cond b (Some x) (find p xs) ≡ None
        → (find p xs ≡ None → position_or_len p (xs ++ y ∷ []) ≡ length xs)
        → position_or_len p (x ∷ xs ++ y ∷ []) ≡ length (x ∷ xs)
    by true e h later = cc
    by false e h later = let rest = later h in ap (λ b. cond (not b) (1 + position_or_len p (xs ++ y ∷ [])) 0) e ∙ omega (arith, rest)

pub remove-at-last : {X : Type 0} (xs : List X) (y : X) (n : ℕ) → length xs ≡ n → remove (xs ++ y ∷ []) n ≡ xs
remove-at-last xs y n all =
    let none : n - n ≡ 0 = omega arith in
    remove-append_right xs (y ∷ []) n n all (omega arith) ∙ ap (λ i. xs ++ remove (y ∷ []) i) none ∙ append-nil xs

pub remove-past : {X : Type 0} (xs : List X) (n : ℕ) → length xs ≡ n → remove xs n ≡ xs
remove-past xs n all =
    let none : n - n ≡ 0 = omega arith in
    ap (λ l. remove l n) (sym (append-nil xs)) ∙ remove-append_right xs [] n n all (omega arith)
    ∙ ap (λ i. xs ++ remove [] i) none ∙ append-nil xs
