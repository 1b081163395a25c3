-- Tests over lists, by their members.
use Rattle.std.proofs.Common.{◌≡◌, ◌&&◌, ◌||◌, Bool, true, false, not, List, [], ◌∷◌, ◌⊎◌, inl, inr, refl, ap, sym, ◌∙◌, subst, arith, suc}
use Rattle.std.specs.List.{list_all, list_any, flat_map, AllPairs}
use Rattle.beas_core.proofs.Sets.{Has, Has-append_left, Has-append_right, Has-append_cases, Contains-from_has}

pub and_left : (a b : Bool) → (a && b) ≡ true → a ≡ true
and_left true b h = refl
and_left false b h = h

pub and_right : (a b : Bool) → (a && b) ≡ true → b ≡ true
and_right true b h = h
and_right false b h = cc

pub and_both : (a b : Bool) → a ≡ true → b ≡ true → (a && b) ≡ true
and_both true b p q = q
and_both false b p q = p

pub or_cases : (a b : Bool) → (a || b) ≡ true → (a ≡ true) ⊎ (b ≡ true)
or_cases true b h = inl refl
or_cases false b h = inr h

pub or_left : (a b : Bool) → a ≡ true → (a || b) ≡ true
or_left true b p = refl
or_left false b p = cc

pub or_right : (a b : Bool) → b ≡ true → (a || b) ≡ true
or_right true b p = refl
or_right false b p = p

pub from_not : (a : Bool) → not a ≡ true → a ≡ false
from_not true h = sym h
from_not false h = refl

pub to_not : (a : Bool) → a ≡ false → not a ≡ true
to_not true h = sym h
to_not false h = refl

pub which : (b : Bool) → (b ≡ true) ⊎ (b ≡ false)
which true = inl refl
which false = inr refl

module _ {K : Type 0} (p : K → Bool) where
  pub all_has : (xs : List K) (y : K) → list_all p xs ≡ true → Has xs y → p y ≡ true
  all_has [] y a h = absurd h
  all_has (x ∷ xs) y a (inl e) = ap p e ∙ and_left (p x) (list_all p xs) a
  all_has (x ∷ xs) y a (inr h) = all_has xs y (and_right (p x) (list_all p xs) a) h

  pub all_by : (xs : List K) → ((y : K) → Has xs y → p y ≡ true) → list_all p xs ≡ true
  all_by [] f = refl
  all_by (x ∷ xs) f = and_both (p x) (list_all p xs) (f x (inl refl)) (all_by xs (λ y h. f y (inr h)))

  pub any_has : (xs : List K) → list_any p xs ≡ true → (y : K) × (Has xs y) × (p y ≡ true)
  any_has [] a = cc
  any_has (x ∷ xs) a = elim (or_cases (p x) (list_any p xs) a)
      [ inl e ↦ (x, inl refl, e) | inr g ↦ let r = any_has xs g in (r.0, inr r.1, r.2) ]

  pub any_by : (xs : List K) (y : K) → Has xs y → p y ≡ true → list_any p xs ≡ true
  any_by [] y h e = absurd h
  any_by (x ∷ xs) y (inl d) e = or_left (p x) (list_any p xs) (sym (ap p d) ∙ e)
  any_by (x ∷ xs) y (inr h) e = or_right (p x) (list_any p xs) (any_by xs y h e)

  pub none_by : (xs : List K) → ((y : K) → Has xs y → p y ≡ false) → list_any p xs ≡ false
  none_by xs f = elim (which (list_any p xs))
      [ inl e ↦ (let r = any_has xs e in let g = f r.0 r.1 in let h = r.2 in cc) | inr e ↦ e ]

  pub none_has : (xs : List K) (y : K) → list_any p xs ≡ false → Has xs y → p y ≡ false
  none_has xs y e h = elim (which (p y)) [ inl g ↦ (let k = any_by xs y h g in cc) | inr g ↦ g ]

pub Has-flat_map : {A B : Type 0} (f : A → List B) (xs : List A) (x : A) (y : B) → Has xs x → Has (f x) y → Has (flat_map f xs) y
Has-flat_map f [] x y h g = absurd h
Has-flat_map f (z ∷ zs) x y (inl e) g = Has-append_left (f z) (flat_map f zs) y (subst (λ w. Has (f w) y) e g)
Has-flat_map f (z ∷ zs) x y (inr h) g = Has-append_right (f z) (flat_map f zs) y (Has-flat_map f zs x y h g)

pub Has-from_flat_map : {A B : Type 0} (f : A → List B) (xs : List A) (y : B) → Has (flat_map f xs) y → (x : A) × (Has xs x) × (Has (f x) y)
Has-from_flat_map f [] y h = absurd h
Has-from_flat_map f (z ∷ zs) y h = elim (Has-append_cases (f z) (flat_map f zs) y h)
    [ inl g ↦ (z, inl refl, g) | inr g ↦ let r = Has-from_flat_map f zs y g in (r.0, inr r.1, r.2) ]

pub not_all_has : {K : Type 0} (p : K → Bool) (xs : List K) → list_all p xs ≡ false → (y : K) × (Has xs y) × (p y ≡ false)
not_all_has p [] e = cc
not_all_has {K} p (x ∷ xs) e = elim (which (p x)) [
  | inl h ↦ (
      let rest : list_all p xs ≡ false = sym (ap (λ b. b && list_all p xs) h) ∙ e in
      let r = not_all_has p xs rest in
      (r.0, inr r.1, r.2))
  | inr h ↦ (x, inl refl, h)
]

pub first_of_pairs : {K : Type 0} (R : K → K → Type 0) (x : K) (xs : List K) → AllPairs R (x ∷ xs) → (y : K) → Has xs y → R x y
first_of_pairs R x xs h y g =
    let c = Contains-from_has xs y g in
    subst (R x) c.2 (h 0 (suc c.0) y (omega arith) (omega (arith, c.1)))

pub rest_of_pairs : {K : Type 0} (R : K → K → Type 0) (x : K) (xs : List K) → AllPairs R (x ∷ xs) → AllPairs R xs
rest_of_pairs R x xs h i j d l m = h (suc i) (suc j) d (omega arith) (omega arith)
