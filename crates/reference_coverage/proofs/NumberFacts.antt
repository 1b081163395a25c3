-- The announced number, from the first step on.
use Rattle.std.proofs.Common.{◌≡◌, ◌≤◌, ◌+◌, ◌-◌, ◌*◌, ℕ, List, [], ◌∷◌, length, take, drop, get_or, ap, sym, ◌∙◌, arith}
use Rattle.std.proofs.lemmas.List.{take_all}
use Rattle.beas_core.specs.declared.schema.Access.{Access}
use Rattle.beas_core.specs.declared.plan.DStep.{DStep}
use Rattle.beas_core.specs.Derivations.{access_in}
use Rattle.beas_core.specs.Numbers.{announced_from, size_after}

rest_of : (s : DStep) (steps : List DStep) → take (length (s ∷ steps) - 1) (drop 1 (s ∷ steps)) ≡ steps
rest_of s steps = let e : length (s ∷ steps) - 1 ≡ length steps = omega arith in ap (λ k. take k steps) e ∙ take_all (length steps) steps (omega arith)

pub announced_first : (accesses : List Access) (steps : List DStep) (n : ℕ) (d : DStep) → 1 ≤ length steps
    → announced_from accesses n steps ≡ n * (access_in accesses (get_or steps 0 d).access).bound
    + announced_from accesses (size_after accesses n (get_or steps 0 d)) (take (length steps - 1) (drop 1 steps))
announced_first accesses [] n d l = absurd (omega (arith, l))
announced_first accesses (s ∷ steps) n d l =
    ap (λ ss. n * (access_in accesses s.access).bound + announced_from accesses (size_after accesses n s) ss) (sym (rest_of s steps))
