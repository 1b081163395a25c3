-- Values that compare equal are equal, and so are rows. So a value may be hashed by what it is.
--     lists_tell                      lists compared item by item are equal where they compare equal, if items are
--     value_cmp_tells, row_cmp_tells  the same of values, and of rows
use Rattle.std.proofs.Common.{◌≡◌, [], ◌∷◌, refl, ap, sym}
use Rattle.std.specs.declared.cmp.Ordering.{Ordering}
use Rattle.std.specs.declared.cmp.Ordering.TheVariants.{Less, Equal, Greater}
use Rattle.std.specs.Ordering.{nat_cmp, int_cmp, ordering_then}
use Rattle.std.specs.Cmp.Lexicographic.{slice_cmp}
use Rattle.std.proofs.lemmas.Cmp.{ranked, int_ranked}
use Rattle.beas_core.specs.declared.value.Value.TheVariants.{Int, Str}
use Rattle.beas_core.specs.Order.{value_cmp, row_cmp, TellsApart}

pub lists_tell : {K : Type 0} (cmp : K → K → Ordering) → TellsApart cmp → TellsApart (slice_cmp cmp)
lists_tell cmp tells [] [] e = refl
lists_tell cmp tells [] (y ∷ ys) e = cc
lists_tell cmp tells (x ∷ xs) [] e = cc
lists_tell {K} cmp tells (x ∷ xs) (y ∷ ys) e = by (cmp x y) refl e (lists_tell cmp tells xs ys)
  where
    by : (o : Ordering) → cmp x y ≡ o → ordering_then o (slice_cmp cmp xs ys) ≡ Equal → (slice_cmp cmp xs ys ≡ Equal → xs ≡ ys) → x ∷ xs ≡ y ∷ ys
    by Less d h rest = cc
    by Equal d h rest = let a = tells x y d in let b = rest h in cc
    by Greater d h rest = cc

nat_tells : TellsApart nat_cmp
nat_tells a b e = ranked a b Equal (sym e)

int_tells : TellsApart int_cmp
int_tells a b e = int_ranked a b Equal (sym e)

pub value_cmp_tells : TellsApart value_cmp
value_cmp_tells (Int a) (Int b) e = ap Int (int_tells a b e)
value_cmp_tells (Int a) (Str t) e = cc
value_cmp_tells (Str s) (Int b) e = cc
value_cmp_tells (Str s) (Str t) e = ap Str (lists_tell nat_cmp nat_tells s t e)

pub row_cmp_tells : TellsApart row_cmp
row_cmp_tells = lists_tell value_cmp value_cmp_tells
