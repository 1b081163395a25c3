-- What the codes of a tuple feed to a hash: what a slice of them does.
--     codes_alike      codes that are equal feed the same
use Rattle.std.proofs.Common.{◌≡◌, ap}
use Rattle.std.specs.Prelude.{ℕ, List, IsTrue, nat_eq}
use Rattle.std.specs.Cmp.Lexicographic.{pointwise, bytes_decides}
use Rattle.std.specs.Hash as fed

pub codes_alike : (x y : List ℕ) → IsTrue (pointwise nat_eq x y) → fed.slice fed.u64 x ≡ fed.slice fed.u64 y
codes_alike x y e = ap (fed.slice fed.u64) ((bytes_decides x y).0 e)
