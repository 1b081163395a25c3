use Rattle.std.proofs.Common.{◌≡◌, ◌++◌, ◌∷◌, [], take}
use Rattle.std.specs.List.{flat_map}
use Rattle.reference_normal_form.proofs.needed.push_equalities.Given as goal

abbrev pub invariant-loop-equality : goal.invariant-loop-equality
invariant-loop-equality l = l.places ≡ l.initial.places ++ flat_map (λ e. e.0 ∷ e.1 ∷ []) (take l.equality-index l.equalities)
