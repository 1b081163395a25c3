-- The announced number, step by step.
use Rattle.std.proofs.Common.{◌≡◌, ◌≤◌, ◌<◌, ◌+◌, ◌*◌, ℕ, List, [], ◌∷◌, length, drop, get_or, ap, sym, ◌∙◌, drop-cons, add-one}
use Rattle.std.proofs.lemmas.List.{drop_all}
use Rattle.beas_core.specs.declared.schema.Access.{Access}
use Rattle.beas_core.specs.declared.plan.DStep.{DStep}
use Rattle.beas_core.specs.Derivations.{access_in}
use Rattle.beas_core.specs.Numbers.{announced_from, last_size, size_after}

one_more : (steps : List DStep) (i : ℕ) (d : DStep) → i < length steps → drop i steps ≡ get_or steps i d ∷ drop (i + 1) steps
one_more steps i d l = drop-cons steps i d l ∙ ap (λ k. get_or steps i d ∷ drop k steps) (sym (add-one i))

pub announced_step : (accesses : List Access) (steps : List DStep) (b i : ℕ) (d : DStep) → i < length steps
    → announced_from accesses b (drop i steps) ≡ b * (access_in accesses (get_or steps i d).access).bound + announced_from accesses
    (size_after accesses b (get_or steps i d)) (drop (i + 1) steps)
announced_step accesses steps b i d l = ap (announced_from accesses b) (one_more steps i d l)

pub last_step : (accesses : List Access) (steps : List DStep) (b i : ℕ) (d : DStep) → i < length steps
    → last_size accesses b (drop i steps) ≡ last_size accesses (size_after accesses b (get_or steps i d)) (drop (i + 1) steps)
last_step accesses steps b i d l = ap (last_size accesses b) (one_more steps i d l)

past : (steps : List DStep) (i : ℕ) → length steps ≤ i → drop i steps ≡ []
past steps i l = drop_all i steps l

pub announced_end : (accesses : List Access) (steps : List DStep) (b i : ℕ) → length steps ≤ i → announced_from accesses b (drop i steps) ≡ 0
announced_end accesses steps b i l = ap (announced_from accesses b) (past steps i l)

pub last_end : (accesses : List Access) (steps : List DStep) (b i : ℕ) → length steps ≤ i → last_size accesses b (drop i steps) ≡ b
last_end accesses steps b i l = ap (last_size accesses b) (past steps i l)
