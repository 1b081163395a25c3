-- One row further in a pass that keeps some rows of a list.
use Rattle.std.proofs.Common.{◌≡◌, ◌∙◌, ◌<◌, ◌+◌, ℕ, suc, Bool, true, false, cond, List, [], ◌∷◌, ◌++◌, take, drop, length, get_or, ap, sym, add-one, add-zero, append_assoc, append-nil}
use Rattle.std.specs.Prelude.{filter}
use Rattle.std.proofs.Math.Seq.{drop-cons, take-suc}
use Rattle.std.proofs.lemmas.List.{get_or-drop}
use Rattle.std.proofs.lemmas.List.Elements.{filter-append}

module _ {X : Type 0} (p : X → Bool) (xs : List X) where
  -- the row at i is still the first one's
  pub still : (ys : List X) (i : ℕ) (d : X) → drop i ys ≡ drop i xs → get_or ys i d ≡ get_or xs i d
  still ys i d rest =
      ap (λ j. get_or ys j d) (sym (add-zero i)) ∙ sym (get_or-drop i ys 0 d) ∙ ap (λ zs. get_or zs 0 d) rest ∙ get_or-drop i xs 0 d
      ∙ ap (λ j. get_or xs j d) (add-zero i)

  filter_next : (i : ℕ) (x : X) → i < length xs → x ≡ get_or xs i x → filter p (take (i + 1) xs) ≡ filter p (take i xs) ++ cond (p x) (x ∷ []) []
  filter_next i x h is =
      ap (λ j. filter p (take j xs)) (add-one i) ∙ ap (filter p) (take-suc xs i x h) ∙ filter-append p (take i xs) (get_or xs i x ∷ [])
      ∙ ap (λ y. filter p (take i xs) ++ cond (p y) (y ∷ []) []) (sym is)

  drop_next : (i : ℕ) (x : X) → i < length xs → x ≡ get_or xs i x → drop i xs ≡ x ∷ drop (i + 1) xs
  drop_next i x h is = drop-cons xs i x h ∙ ap (λ y. y ∷ drop (suc i) xs) (sym is) ∙ ap (λ j. x ∷ drop j xs) (sym (add-one i))

  pub before_gone : (i : ℕ) (x : X) → i < length xs → x ≡ get_or xs i x → filter p (take i xs) ++ drop i xs ≡ filter p (take i xs) ++ (x ∷ drop (i + 1) xs)
  before_gone i x h is = ap (λ ys. filter p (take i xs) ++ ys) (drop_next i x h is)

  pub after_gone : (i : ℕ) (x : X) → i < length xs → x ≡ get_or xs i x → p x ≡ false
      → filter p (take i xs) ++ drop (i + 1) xs ≡ filter p (take (i + 1) xs) ++ drop (i + 1) xs
  after_gone i x h is e =
      ap (λ ys. ys ++ drop (i + 1) xs) (sym (filter_next i x h is ∙ ap (λ b. filter p (take i xs) ++ cond b (x ∷ []) []) e ∙ append-nil (filter p (take i xs))))

  pub after_kept : (i : ℕ) (x : X) → i < length xs → x ≡ get_or xs i x → p x ≡ true
      → filter p (take i xs) ++ drop i xs ≡ filter p (take (i + 1) xs) ++ drop (i + 1) xs
  after_kept i x h is e =
      before_gone i x h is ∙ sym (append_assoc (filter p (take i xs)) (x ∷ []) (drop (i + 1) xs))
      ∙ ap (λ ys. ys ++ drop (i + 1) xs) (sym (filter_next i x h is ∙ ap (λ b. filter p (take i xs) ++ cond b (x ∷ []) []) e))
