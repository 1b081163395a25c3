-- Tuples that a probe found, copied one after another.
use Rattle.std.proofs.Common.{◌≡◌, ◌<◌, ◌≤◌, ◌+◌, ◌*◌, ◌++◌, ◌∷◌, [], ℕ, zero, suc, pos, List, length, take, drop, get_or, refl, ap, sym, subst, ◌∙◌, arith}
use Rattle.std.proofs.lemmas.List.{drop-append-le, drop-drop, length-drop, take-append-le, take_all, take_more}
use Rattle.std.proofs.lemmas.Nat.{mul-le}
use Rattle.beas_core.specs.declared.value.Value.{Value}
use Rattle.beas_core.specs.declared.value.Value.TheVariants.{Int}
use Rattle.beas_core.specs.Found.{Found}
use Rattle.beas_core.specs.declared.schema.Access.{Access}
use Rattle.beas_core.specs.declared.schema.ColumnId.{ColumnId}
use Rattle.beas_core.specs.Types.{Row}
use Rattle.beas_core.specs.Groups.{member_columns, value_in}
use Rattle.beas_core.specs.Derivations.{access_in}
use Rattle.block_walk.specs.Fetched.{rows_in}
use Rattle.plan_ops.specs.Joins.{HitsAre, IsTuple}

module _ (columns : List ColumnId) (tuple : Row) (is : IsTuple columns tuple) where
  -- a tuple, copied value by value
  pub copied_more : (j : ℕ) (e : ColumnId) → j < length columns
      → take j tuple ++ value_in columns tuple (get_or columns j e) ∷ [] ≡ take (j + 1) tuple
  copied_more j e l =
      let zero_value = Int (pos 0) in
      ap (λ v. take j tuple ++ v ∷ []) (sym (is.values j zero_value e l))
      ∙ sym (take_more tuple j zero_value (omega (arith, l, is.wide)))

-- the tuple that hits have at a place
pub tuple_at : (accesses : List Access) (stands : Found → Type 0) (members : Found → List Row) (hits : Found) → HitsAre accesses stands members hits
    → (columns : List ColumnId) → columns ≡ member_columns (access_in accesses hits.access) → (i : ℕ) → i < hits.len
    → IsTuple columns (get_or (members hits) i [])
tuple_at accesses stands members hits are columns is i l =
    subst (λ cs. IsTuple cs (get_or (members hits) i [])) (sym is) (are.tuples i [] (omega (arith, l, are.count)))

-- ---- rows that are cut from one list

pub length-rows_in : (width count : ℕ) (values : List Value) → length (rows_in width count values) ≡ count
length-rows_in width zero values = refl
length-rows_in width (suc count) values = ap suc (length-rows_in width count (drop width values))

pub row_at : (width count : ℕ) (values : List Value) (at : ℕ) → at < count → get_or (rows_in width count values) at [] ≡ take width (drop (at * width) values)
row_at width zero values at l = absurd (omega (arith, l))
row_at width (suc count) values zero l =
    let none : 0 * width ≡ 0 = omega arith in
    ap (λ n. take width (drop n values)) (sym none)
row_at width (suc count) values (suc at) l =
    let more : width + at * width ≡ suc at * width = omega arith in
    row_at width count (drop width values) at (omega (arith, l)) ∙ ap (take width) (drop-drop (at * width) width values)
    ∙ ap (λ n. take width (drop n values)) more

-- a row ends within the list
pub row_within : (width count at : ℕ) → at < count → at * width + width ≤ count * width
row_within width count at l =
    let m = mul-le (at + 1) width count width (omega (arith, l)) (omega arith) in
    omega (arith, m)

-- a row more
pub rows_more : (width count : ℕ) (values tuple : List Value) → length values ≡ count * width → length tuple ≡ width
    → rows_in width (count + 1) (values ++ tuple) ≡ rows_in width count values ++ tuple ∷ []
rows_more width zero [] tuple whole wide = ap (λ t. t ∷ []) (take_all width tuple (omega (arith, wide)))
rows_more width zero (v ∷ values) tuple whole wide = absurd (omega (arith, whole))
rows_more width (suc count) values tuple whole wide =
    let l : width ≤ length values = omega (arith, whole) in
    let rest : length (drop width values) ≡ count * width = (let d = length-drop width values in omega (arith, d, whole, l)) in
    let more : suc count + 1 ≡ suc (count + 1) = omega arith in
    ap (λ n. rows_in width n (values ++ tuple)) more
    ∙ ap (λ t. t ∷ rows_in width (count + 1) (drop width (values ++ tuple))) (take-append-le width values tuple l)
    ∙ ap (λ vs. take width values ∷ rows_in width (count + 1) vs) (drop-append-le width values tuple l)
    ∙ ap (λ rs. take width values ∷ rs) (rows_more width count (drop width values) tuple rest wide)
