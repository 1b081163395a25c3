-- Sets in order: lists that are strictly ascending.
--     distinct cmp xs      the set of the members of xs, in order
--     IsInOrder cmp xs     each member stands before all later ones
use Rattle.std.specs.Prelude.{◌≡◌, List, [], ◌∷◌}
use Rattle.std.specs.List.{AllByRecursion}
use Rattle.std.specs.declared.cmp.Ordering.{Ordering}
use Rattle.std.specs.declared.cmp.Ordering.TheVariants.{Less, Equal, Greater}

abbrev pub by_order : {A : Type 0} → Ordering → A → A → A → A
by_order Less less equal greater = less
by_order Equal less equal greater = equal
by_order Greater less equal greater = greater

-- the set with one more member, in its place
abbrev pub add_in_order : {K : Type 0} → (K → K → Ordering) → K → List K → List K
add_in_order cmp k [] = k ∷ []
add_in_order cmp k (x ∷ xs) = by_order (cmp k x) (k ∷ x ∷ xs) (x ∷ xs) (x ∷ add_in_order cmp k xs)

abbrev pub distinct : {K : Type 0} → (K → K → Ordering) → List K → List K
distinct cmp [] = []
distinct cmp (k ∷ ks) = add_in_order cmp k (distinct cmp ks)

abbrev pub IsInOrder : {K : Type 0} → (K → K → Ordering) → List K → Type 0
IsInOrder cmp [] = Unit {0}
IsInOrder cmp (x ∷ xs) = AllByRecursion (λ y. cmp x y ≡ Less) xs × IsInOrder cmp xs
