-- Texts that are told apart by their lengths.
use Rattle.std.proofs.Common.{◌≡◌, refl, ap, sym, true, false, ℕ, List, length}
use Rattle.std.specs.Prelude.{◌&&◌, ◌==◌, Bool}
use Rattle.std.specs.Str.{bytes_eq}
use Rattle.std.proofs.lemmas.Slice.Eq.{bytes_eq-Decides}
use Rattle.std.proofs.lemmas.Bool.{eq-eqb}

joined : (all as_long : Bool) → (all ≡ true → as_long ≡ true) → all ≡ (as_long && all)
joined true true l = refl
joined true false l = sym (l refl)
joined false true l = refl
joined false false l = refl

pub told : (text found : List ℕ) → bytes_eq text found ≡ ((length found == length text) && bytes_eq text found)
told text found = joined (bytes_eq text found) (length found == length text)
    (λ e. eq-eqb (length found) (length text) (ap (λ (t : List ℕ). length t) (sym ((bytes_eq-Decides text found).0 e))))
