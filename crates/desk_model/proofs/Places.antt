-- Where a session's query stands among the open ones.
use Rattle.std.proofs.Common.{◌≡◌, ◌+◌, ◌++◌, ◌∙◌, Bool, true, false, not, cond, List, [], ◌∷◌, map, set, remove, find, Some, None, refl, ap, sym, subst, arith, suc}
use Rattle.std.specs.List.{position_or_len}
use Rattle.std.specs.Option.{option_or}
use Rattle.std.proofs.lemmas.List.Folds.{find-append}

pub find_passes : {X : Type 0} (p : X → Bool) (xs : List X) (x : X) → find p xs ≡ Some x → p x ≡ true
find_passes p [] x h = cc
find_passes p (y ∷ xs) x h = by (p y) refl h (find_passes p xs x)
  where
    by : (b : Bool) → p y ≡ b → cond b (Some y) (find p xs) ≡ Some x → (find p xs ≡ Some x → p x ≡ true) → p x ≡ true
    by true e g later = let same : y ≡ x = cc in subst (λ z. p z ≡ true) same e
    by false e g later = later g

-- ---- the last one

pub find-last : {X : Type 0} (p : X → Bool) (xs : List X) (y : X) → find p xs ≡ None → p y ≡ true → find p (xs ++ y ∷ []) ≡ Some y
find-last p xs y none own =
    find-append p xs (y ∷ []) ∙ ap (λ o. option_or o (find p (y ∷ []))) none ∙ ap (λ b. cond b (Some y) None) own

pub remove-last : {X : Type 0} (p : X → Bool) (xs : List X) (y : X) → find p xs ≡ None → p y ≡ true
    → remove (xs ++ y ∷ []) (position_or_len p (xs ++ y ∷ [])) ≡ xs
remove-last p [] y none own = ap (λ b. remove (y ∷ []) (cond (not b) 1 0)) own
remove-last p (x ∷ xs) y none own = by (p x) refl none (λ h. remove-last p xs y h own)
  where
    by : (b : Bool) → p x ≡ b → cond b (Some x) (find p xs) ≡ None
        → (find p xs ≡ None → remove (xs ++ y ∷ []) (position_or_len p (xs ++ y ∷ [])) ≡ xs)
        → remove (x ∷ xs ++ y ∷ []) (position_or_len p (x ∷ xs ++ y ∷ [])) ≡ x ∷ xs
    by true e h later = cc
    by false e h later =
        let i = position_or_len p (xs ++ y ∷ []) in
        let one : 1 + i ≡ suc i = omega (arith) in
        ap (λ b. remove (x ∷ xs ++ y ∷ []) (cond (not b) (1 + i) 0)) e ∙ ap (λ n. remove (x ∷ xs ++ y ∷ []) n) one ∙ ap (λ l. x ∷ l) (later h)

pub set-last : {X : Type 0} (p : X → Bool) (xs : List X) (y z : X) → find p xs ≡ None → p y ≡ true
    → set (xs ++ y ∷ []) (position_or_len p (xs ++ y ∷ [])) z ≡ xs ++ z ∷ []
set-last p [] y z none own = ap (λ b. set (y ∷ []) (cond (not b) 1 0) z) own
set-last p (x ∷ xs) y z none own = by (p x) refl none (λ h. set-last p xs y z h own)
  where
    by : (b : Bool) → p x ≡ b → cond b (Some x) (find p xs) ≡ None
        → (find p xs ≡ None → set (xs ++ y ∷ []) (position_or_len p (xs ++ y ∷ [])) z ≡ xs ++ z ∷ [])
        → set (x ∷ xs ++ y ∷ []) (position_or_len p (x ∷ xs ++ y ∷ [])) z ≡ x ∷ xs ++ z ∷ []
    by true e h later = cc
    by false e h later =
        let i = position_or_len p (xs ++ y ∷ []) in
        let one : 1 + i ≡ suc i = omega (arith) in
        ap (λ b. set (x ∷ xs ++ y ∷ []) (cond (not b) (1 + i) 0) z) e ∙ ap (λ n. set (x ∷ xs ++ y ∷ []) n z) one ∙ ap (λ l. x ∷ l) (later h)

-- ---- where another query changes, or goes

pub find-set-other : {X : Type 0} (p r : X → Bool) (xs : List X) (y : X) → ((x : X) → r x ≡ true → p x ≡ false) → p y ≡ false
    → find p (set xs (position_or_len r xs) y) ≡ find p xs
find-set-other p r [] y apart none = refl
find-set-other p r (x ∷ xs) y apart none = by (r x) refl (find-set-other p r xs y apart none)
  where
    by : (b : Bool) → r x ≡ b → find p (set xs (position_or_len r xs) y) ≡ find p xs
        → find p (set (x ∷ xs) (cond (not b) (1 + position_or_len r xs) 0) y) ≡ find p (x ∷ xs)
    by true e later =
        ap (λ b. cond b (Some y) (find p xs)) none ∙ sym (ap (λ b. cond b (Some x) (find p xs)) (apart x e))
    by false e later =
        let one : 1 + position_or_len r xs ≡ suc (position_or_len r xs) = omega arith in
        ap (λ i. find p (set (x ∷ xs) i y)) one
        ∙ ap (λ o. cond (p x) (Some x) o) later

pub find-remove-other : {X : Type 0} (p r : X → Bool) (xs : List X) → ((x : X) → r x ≡ true → p x ≡ false)
    → find p (remove xs (position_or_len r xs)) ≡ find p xs
find-remove-other p r [] apart = refl
find-remove-other p r (x ∷ xs) apart = by (r x) refl (find-remove-other p r xs apart)
  where
    by : (b : Bool) → r x ≡ b → find p (remove xs (position_or_len r xs)) ≡ find p xs
        → find p (remove (x ∷ xs) (cond (not b) (1 + position_or_len r xs) 0)) ≡ find p (x ∷ xs)
    by true e later = sym (ap (λ b. cond b (Some x) (find p xs)) (apart x e))
    by false e later =
        let one : 1 + position_or_len r xs ≡ suc (position_or_len r xs) = omega arith in
        ap (λ i. find p (remove (x ∷ xs) i)) one
        ∙ ap (λ o. cond (p x) (Some x) o) later

-- ---- what can't be told from the first that passes

pub map-set-found : {X Y : Type 0} (f : X → Y) (p : X → Bool) (xs : List X) (x y : X) → find p xs ≡ Some x → f y ≡ f x
    → map f (set xs (position_or_len p xs) y) ≡ map f xs
map-set-found f p [] x y h same = cc
map-set-found f p (z ∷ xs) x y h same = by (p z) refl h (λ g. map-set-found f p xs x y g same)
  where
    by : (b : Bool) → p z ≡ b → cond b (Some z) (find p xs) ≡ Some x
        → (find p xs ≡ Some x → map f (set xs (position_or_len p xs) y) ≡ map f xs)
        → map f (set (z ∷ xs) (cond (not b) (1 + position_or_len p xs) 0) y) ≡ map f (z ∷ xs)
    by true e g later = let is : z ≡ x = cc in ap (λ w. w ∷ map f xs) (same ∙ sym (ap f is))
    by false e g later =
        let one : 1 + position_or_len p xs ≡ suc (position_or_len p xs) = omega arith in
        ap (λ i. map f (set (z ∷ xs) i y)) one ∙ ap (λ l. f z ∷ l) (later g)
