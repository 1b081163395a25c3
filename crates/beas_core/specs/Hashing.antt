-- What texts and values feed to a hash. A text feeds its bytes as a `str` does.
--     writes_of value       what a value feeds: its number as an `i64`, or its text
--     texts_alike, writes_alike    texts that are equal feed the same, and so do values that compare equal
use Rattle.std.proofs.Common.{◌≡◌, true, ap, refl}
use Rattle.std.specs.Prelude.{ℕ, List, IsTrue, nat_eq}
use Rattle.std.specs.Ordering.{eq_by_cmp, is_eq}
use Rattle.std.specs.Cmp.Lexicographic.{pointwise, bytes_decides}
use Rattle.std.specs.declared.cmp.Ordering.{Ordering}
use Rattle.std.specs.declared.cmp.Ordering.TheVariants.{Less, Equal, Greater}
use Rattle.std.specs.Hash as fed
use Rattle.beas_core.specs.declared.value.Value.{Value}
use Rattle.beas_core.specs.declared.value.Value.TheVariants.{Int, Str}
use Rattle.beas_core.specs.Order.{value_cmp}
use Rattle.beas_core.specs.Telling.{value_cmp_tells}

abbrev pub writes_of : Value → List (List ℕ)
writes_of (Int number) = fed.i64 number
writes_of (Str text) = fed.str text

pub texts_alike : (x y : List ℕ) → IsTrue (pointwise nat_eq x y) → fed.str x ≡ fed.str y
texts_alike x y e = ap fed.str ((bytes_decides x y).0 e)

pub equal_from : (o : Ordering) → is_eq o ≡ true → o ≡ Equal
equal_from Less e = cc
equal_from Equal e = refl
equal_from Greater e = cc

pub writes_alike : (x y : Value) → IsTrue (eq_by_cmp value_cmp x y) → writes_of x ≡ writes_of y
writes_alike x y e = ap writes_of (value_cmp_tells x y (equal_from (value_cmp x y) e))
