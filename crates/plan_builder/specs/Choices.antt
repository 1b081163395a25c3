-- Which uses may come next in a derivation.
--     may_add normal set u           the set holds the key's classes, and the use adds a class
--     may_serve normal set atom u    it is on the atom and serves it
--     is_better u best               it has a lesser bound than the best so far, if there is one
use Rattle.std.specs.Prelude.{◌&&◌, ◌==◌, nat_lt, Bool, true, ℕ, Option, Some, None}
use Rattle.beas_core.specs.declared.plan.Normal.{Normal}
use Rattle.beas_core.specs.Types.{ClassSet, Use}
use Rattle.beas_core.specs.Coverage.{holds_classes, key_classes, serves}
use Rattle.beas_core.specs.Derivations.{adds_class}

abbrev pub may_add : Normal → ClassSet → Use → Bool
may_add normal set u = holds_classes set (key_classes normal u) && adds_class normal set u

abbrev pub may_serve : Normal → ClassSet → ℕ → Use → Bool
may_serve normal set atom u = (u.atom == atom) && serves normal set u

abbrev pub is_better : Use → Option Use → Bool
is_better u None = true
is_better u (Some best) = nat_lt u.access.bound best.access.bound
