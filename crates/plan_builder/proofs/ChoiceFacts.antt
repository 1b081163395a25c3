-- The best of the uses so far.
use Rattle.std.proofs.Common.{◌≡◌, ◌&&◌, ◌<◌, ◌+◌, ℕ, Bool, true, false, cond, nat_lt, List, [], ◌∷◌, ◌++◌, length, map, take, get_or, Option, Some, refl, ap, sym, ◌∙◌, add-one}
use Rattle.std.specs.List.{filter, best_of}
use Rattle.std.proofs.Math.Seq.{take-suc}
use Rattle.std.proofs.lemmas.List.{map-append, append-nil}
use Rattle.std.proofs.lemmas.List.Elements.{filter-append}
use Rattle.beas_core.specs.Types.{Use}
use Rattle.beas_core.specs.Derivations.{least_bound}
use Rattle.attribute_closure.specs.declared.uses.UseAt.{UseAt}
use Rattle.attribute_closure.specs.Uses.{as_use}
use Rattle.plan_builder.specs.Choices.{is_better}

abbrev pub lesser : Use → Use → Bool
lesser v w = nat_lt v.access.bound w.access.bound

fold_push : (b : Use) (us : List Use) (u : Use) → best_of lesser b (us ++ u ∷ []) ≡ cond (lesser u (best_of lesser b us)) u (best_of lesser b us)
fold_push b [] u = refl
fold_push b (v ∷ us) u = fold_push (cond (lesser v b) v b) us u

least_push : (us : List Use) (u : Use) → least_bound (us ++ u ∷ []) ≡ cond (is_better u (least_bound us)) (Some u) (least_bound us)
least_push [] u = refl
least_push (v ∷ us) u = ap Some (fold_push v us u) ∙ by (lesser u (best_of lesser v us))
  where
    by : (b : Bool) → Some (cond b u (best_of lesser v us)) ≡ cond b (Some u) (Some (best_of lesser v us))
    by true = refl
    by false = refl

module _ (p : Use → Bool) (us : List UseAt) (i : ℕ) (u : UseAt) (l : i < length us) (is : u ≡ get_or us i u) where
  one_more : filter p (map as_use (take (i + 1) us)) ≡ filter p (map as_use (take i us)) ++ cond (p (as_use u)) (as_use u ∷ []) []
  one_more =
      ap (λ k. filter p (map as_use (take k us))) (add-one i) ∙ ap (λ vs. filter p (map as_use vs)) (take-suc us i u l ∙ ap (λ v. take i us ++ v ∷ []) (sym is))
      ∙ ap (filter p) (map-append as_use (take i us) (u ∷ [])) ∙ filter-append p (map as_use (take i us)) (as_use u ∷ [])

  best_more : (best : Option Use) → best ≡ least_bound (filter p (map as_use (take i us))) → p (as_use u) ≡ true
      → least_bound (filter p (map as_use (take (i + 1) us))) ≡ cond (is_better (as_use u) best) (Some (as_use u)) best
  best_more best so may =
      ap least_bound (one_more ∙ ap (λ b. filter p (map as_use (take i us)) ++ cond b (as_use u ∷ []) []) may)
      ∙ least_push (filter p (map as_use (take i us))) (as_use u)
      ∙ ap (λ o. cond (is_better (as_use u) o) (Some (as_use u)) o) (sym so)

  pub best_taken : (best : Option Use) (may better : Bool) → best ≡ least_bound (filter p (map as_use (take i us))) → may ≡ p (as_use u)
      → better ≡ is_better (as_use u) best → (may && better) ≡ true
      → Some (as_use u) ≡ least_bound (filter p (map as_use (take (i + 1) us)))
  best_taken best true better so m b h = sym (best_more best so (sym m) ∙ ap (λ c. cond c (Some (as_use u)) best) (sym b ∙ h))
  best_taken best false better so m b h = cc

  pub best_left : (best : Option Use) (may better : Bool) → best ≡ least_bound (filter p (map as_use (take i us))) → may ≡ p (as_use u)
      → better ≡ is_better (as_use u) best → (may && better) ≡ false
      → best ≡ least_bound (filter p (map as_use (take (i + 1) us)))
  best_left best true better so m b h = sym (best_more best so (sym m) ∙ ap (λ c. cond c (Some (as_use u)) best) (sym b ∙ h))
  best_left best false better so m b h = so ∙ sym (ap least_bound (one_more
      ∙ ap (λ c. filter p (map as_use (take i us)) ++ cond c (as_use u ∷ []) []) (sym m) ∙ append-nil (filter p (map as_use (take i us)))))
