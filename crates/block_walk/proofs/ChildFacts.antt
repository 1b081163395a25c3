-- One tuple more of those that a valuation goes on with.
use Rattle.std.proofs.Common.{◌≡◌, ◌+◌, ◌<◌, ◌++◌, ◌∷◌, ◌∙◌, [], ℕ, Bool, true, false, cond, List, length, map, take, get_or, ap, sym, add-one}
use Rattle.std.specs.List.{filter}
use Rattle.std.proofs.Math.Seq.{take-suc}
use Rattle.std.proofs.lemmas.List.{append-nil, map-append}
use Rattle.std.proofs.lemmas.List.Elements.{filter-append}

module _ {A B : Type 0} (f : A → B) (p : A → Bool) (xs : List A) (i : ℕ) (d x : A) (l : i < length xs) (is : x ≡ get_or xs i d) where
  more : take (i + 1) xs ≡ take i xs ++ x ∷ []
  more = ap (λ k. take k xs) (add-one i) ∙ take-suc xs i d l ∙ ap (λ y. take i xs ++ y ∷ []) (sym is)

  kept : map f (filter p (take (i + 1) xs)) ≡ map f (filter p (take i xs)) ++ map f (filter p (x ∷ []))
  kept = ap (λ ys. map f (filter p ys)) more ∙ ap (map f) (filter-append p (take i xs) (x ∷ []))
      ∙ map-append f (filter p (take i xs)) (filter p (x ∷ []))

  pub child_more : p x ≡ true → map f (filter p (take (i + 1) xs)) ≡ map f (filter p (take i xs)) ++ f x ∷ []
  child_more e = kept ∙ ap (λ b. map f (filter p (take i xs)) ++ map f (cond b (x ∷ []) [])) e

  pub no_child : p x ≡ false → map f (filter p (take (i + 1) xs)) ≡ map f (filter p (take i xs))
  no_child e = kept ∙ ap (λ b. map f (filter p (take i xs)) ++ map f (cond b (x ∷ []) [])) e ∙ append-nil (map f (filter p (take i xs)))
