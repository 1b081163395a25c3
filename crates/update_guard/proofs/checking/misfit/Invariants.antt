use Rattle.std.proofs.Common.{◌≡◌, drop, not}
use Rattle.std.specs.Prelude.{find, zip}
use Rattle.catalogue.specs.Database.{has_kind}
use Rattle.update_guard.proofs.checking.misfit.Given as goal

abbrev pub invariant-loop-i : goal.invariant-loop-i
invariant-loop-i l = find (λ p. not (has_kind p.0.kind p.1)) (zip l.columns l.row) ≡ find (λ p. not (has_kind p.0.kind p.1)) (drop l.i (zip l.columns l.row))
