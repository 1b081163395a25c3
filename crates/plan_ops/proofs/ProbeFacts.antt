-- What the probes of keys count, and the tuples of the groups that they find.
use Rattle.beas_core.specs.declared.value.Value.{Value}
use Rattle.std.proofs.Common.{◌≡◌, ◌==◌, ◌<◌, ◌≤◌, ◌+◌, ◌*◌, ℕ, zero, suc, pos, Bool, true, false, cond, List, [], ◌∷◌, ◌++◌, length, get_or, take, map, All, IsTrue, IsErr, Result, Ok, Err, refl, ap, sym, subst, ◌∙◌, arith, add-one}
use Rattle.std.specs.List.{sum_by, AllZip, filter}
use Rattle.std.proofs.Math.Seq.{take-suc}
use Rattle.std.proofs.lemmas.Bool.{eqb-true}
use Rattle.std.proofs.lemmas.Nat.{mul-le}
use Rattle.std.proofs.lemmas.List.{get_or-map, get_or_append_left, length-append, take_at}
use Rattle.std.proofs.lemmas.List.Sums.{sum_by-append}
use Rattle.beas_core.specs.declared.value.Value.TheVariants.{Int}
use Rattle.beas_core.specs.declared.schema.ColumnId.{ColumnId}
use Rattle.beas_core.specs.declared.schema.Access.{Access}
use Rattle.beas_core.specs.Types.{Row, TableRows}
use Rattle.beas_core.specs.Found.{Found}
use Rattle.beas_core.specs.Derivations.{access_in, is_live}
use Rattle.beas_core.specs.declared.schema.AccessId.{AccessId}
use Rattle.beas_core.specs.Order.{row_cmp_total}
use Rattle.beas_core.specs.Groups.{value_at, value_in, project, same_row, group_of, member_columns}
use Rattle.beas_core.proofs.Groups.{length-project, project-append, same_row_true}
use Rattle.beas_core.proofs.Sets.{Has-get_or, Has-from_distinct, Has-from_map, Has-from_filter, Has}
use Rattle.beas_core.proofs.ValueOrder.{row_cmp_tells}
use Rattle.beas_core.proofs.UseFacts.{same_number}
use Rattle.plan_ops.specs.Joins.{IsTuple, IsGroup}
use Rattle.plan_ops.specs.Over.{Counts}

value_of_tuple : (columns : List ColumnId) (row : Row) (j : ℕ) (e : ColumnId) → j < length columns
    → value_in columns (project columns row) (get_or columns j e) ≡ value_at row (get_or columns j e)
value_of_tuple [] row j e l = absurd (omega (arith, l))
value_of_tuple (d ∷ columns) row zero e l = ap (λ b. cond b (value_at row d) (value_in columns (project columns row) d)) (same_number d.0 d.0 refl)
value_of_tuple (d ∷ columns) row (suc j) e l = by (d.0 == (get_or columns j e).0) refl (value_of_tuple columns row j e (omega arith))
  where
    by : (b : Bool) → (d.0 == (get_or columns j e).0) ≡ b → value_in columns (project columns row) (get_or columns j e) ≡ value_at row (get_or columns j e)
        → cond b (value_at row d) (value_in columns (project columns row) (get_or columns j e)) ≡ value_at row (get_or columns j e)
    by true s rest = ap (λ n. get_or row n (Int (pos 0))) (eqb-true d.0 (get_or columns j e).0 s)
    by false s rest = rest

-- the members of a group are tuples over its constraint's columns
pub group_tuples : (rows : List Row) (access : Access) (key : Row) → All (IsTuple (member_columns access)) (group_of rows access key)
group_tuples rows access key k d l =
    let columns = member_columns access in
    let held = filter (λ row. same_row (project access.key row) key) rows in
    let tuple = get_or (group_of rows access key) k d in
    let m = Has-from_map (project columns) held tuple (Has-from_distinct row_cmp_total row_cmp_tells (map (project columns) held) tuple
    (Has-get_or (group_of rows access key) k d l)) in
    subst (IsTuple columns) (sym m.2) (record {
      wide = length-project columns m.0;
      values = λ j v e k. get_or-map (value_at m.0) columns j e v k ∙ sym (value_of_tuple columns m.0 j e k);
    })

-- and they begin with the group's key
pub group_begins : (rows : List Row) (access : Access) (key tuple : Row) (j : ℕ) (d : Value) → length key ≡ length access.key
    → Has (group_of rows access key) tuple → j < length access.key → get_or tuple j d ≡ get_or key j d
group_begins rows access key tuple j d wide h l =
    let columns = member_columns access in
    let held = filter (λ row. same_row (project access.key row) key) rows in
    let m = Has-from_map (project columns) held tuple (Has-from_distinct row_cmp_total row_cmp_tells (map (project columns) held) tuple h) in
    let f = Has-from_filter (λ row. same_row (project access.key row) key) rows m.0 m.1 in
    let column : ColumnId = record { 0 = 0 } in
    let both = length-append access.key access.fetched in
    ap (λ t. get_or t j d) m.2
    ∙ get_or-map (value_at m.0) columns j column d (omega (arith, l, both))
    ∙ ap (value_at m.0) (get_or_append_left access.key access.fetched column j l)
    ∙ sym (get_or-map (value_at m.0) access.key j column d l)
    ∙ ap (λ t. get_or t j d) (same_row_true (project access.key m.0) key f.1)

-- so that their first values are the key
pub group_takes : (rows : List Row) (access : Access) (key : Row) → length key ≡ length access.key
    → All (λ tuple. take (length key) tuple ≡ key) (group_of rows access key)
group_takes rows access key wide k d l =
    let columns = member_columns access in
    let held = filter (λ row. same_row (project access.key row) key) rows in
    let tuple = get_or (group_of rows access key) k d in
    let m = Has-from_map (project columns) held tuple (Has-from_distinct row_cmp_total row_cmp_tells (map (project columns) held) tuple
    (Has-get_or (group_of rows access key) k d l)) in
    let f = Has-from_filter (λ row. same_row (project access.key row) key) rows m.0 m.1 in
    let n : length (project access.key m.0) ≡ length key = length-project access.key m.0 ∙ sym wide in
    ap (take (length key)) (m.2 ∙ project-append access.key access.fetched m.0)
    ∙ take_at (project access.key m.0) (project access.fetched m.0) (length key) n
    ∙ same_row_true (project access.key m.0) key f.1

pub zip_push : {A B : Type 0} (R : A → B → Type 0) (xs : List A) (ys : List B) (x : A) (y : B) → AllZip R xs ys → R x y
    → AllZip R (xs ++ x ∷ []) (ys ++ y ∷ [])
zip_push R [] [] x y h r = (r, tt)
zip_push R [] (z ∷ ys) x y h r = absurd h
zip_push R (z ∷ xs) [] x y h r = absurd h
zip_push R (z ∷ xs) (w ∷ ys) x y h r = (h.0, zip_push R xs ys x y h.1 r)

pub zip_at : {A B : Type 0} (R : A → B → Type 0) (xs : List A) (ys : List B) (i : ℕ) (d : A) (e : B) → AllZip R xs ys → i < length xs
    → R (get_or xs i d) (get_or ys i e)
zip_at R [] ys i d e h l = absurd (omega (arith, l))
zip_at R (x ∷ xs) [] i d e h l = absurd h
zip_at R (x ∷ xs) (y ∷ ys) zero d e h l = h.0
zip_at R (x ∷ xs) (y ∷ ys) (suc i) d e h l = zip_at R xs ys i d e h.1 (omega arith)

pub length-zip : {A B : Type 0} (R : A → B → Type 0) (xs : List A) (ys : List B) → AllZip R xs ys → length xs ≡ length ys
length-zip R [] [] h = refl
length-zip R [] (y ∷ ys) h = absurd h
length-zip R (x ∷ xs) [] h = absurd h
length-zip R (x ∷ xs) (y ∷ ys) h = ap suc (length-zip R xs ys h.1)

pub zip_all : {A B : Type 0} (R : A → B → Type 0) (P : B → Type 0) → ((x : A) (y : B) → R x y → P y) → (xs : List A) (ys : List B) → AllZip R xs ys → All P ys
zip_all R P f [] [] h i d l = absurd (omega (arith, l))
zip_all R P f [] (y ∷ ys) h i d l = absurd h
zip_all R P f (x ∷ xs) [] h i d l = absurd h
zip_all R P f (x ∷ xs) (y ∷ ys) h zero d l = f x y h.0
zip_all R P f (x ∷ xs) (y ∷ ys) h (suc i) d l = zip_all R P f xs ys h.1 i d (omega (arith, l))

module _ (f : Row → ℕ) (keys : List Row) (bound i : ℕ) (l : i < length keys) where
  pub summed_more : (key : Row) → key ≡ get_or keys i key → sum_by f (take (i + 1) keys) ≡ sum_by f (take i keys) + f key
  summed_more key is =
      let e = ap (λ k. sum_by f (take k keys)) (add-one i) ∙ ap (sum_by f) (take-suc keys i key l) ∙ sum_by-append f (take i keys) (get_or keys i key ∷ []) in
      let v = ap f is in
      omega (arith, e, v)

  next_times : (i b : ℕ) → (i + 1) * b ≡ i * b + b
  next_times i b = grind arith

  pub few_more : (s n : ℕ) → s ≤ i * bound → n ≤ bound → s + n ≤ (i + 1) * bound
  few_more s n few small =
      let e = next_times i bound in
      omega (arith, e, few, small)

  pub few_left : (s n : ℕ) → s ≤ i * bound → n ≤ bound → s + n ≤ length keys * bound
  few_left s n few small =
      let m = few_more s n few small in
      let e = mul-le (i + 1) bound (length keys) bound (omega arith) (omega arith) in
      omega (arith, m, e)

pub zip_more : {A B : Type 0} (R : A → B → Type 0) (xs : List A) (ys : List B) (i : ℕ) (x : A) (y : B) → i < length xs → x ≡ get_or xs i x
    → AllZip R (take i xs) ys → R x y → AllZip R (take (i + 1) xs) (ys ++ y ∷ [])
zip_more R xs ys i x y l is h r = subst (λ zs. AllZip R zs (ys ++ y ∷ []))
    (sym (ap (λ k. take k xs) (add-one i) ∙ take-suc xs i x l ∙ ap (λ v. take i xs ++ v ∷ []) (sym is)))
    (zip_push R (take i xs) ys x y h r)

-- what a probe answers
pub group_of_hits : (rows : TableRows) (accesses : List Access) (stands : Found → Type 0) (members : Found → List Row) (id : AccessId) (key : Row)
    (hits : Found)
    → IsTrue (is_live accesses id) → hits.access ≡ id → stands hits → hits.len ≡ length (members hits)
    → members hits ≡ group_of (rows (access_in accesses id).table) (access_in accesses id) key
    → IsGroup rows accesses stands members id key hits
group_of_hits rows accesses stands members id key hits live of_id standing len is = record {
  hits_are = record {
    live = subst (λ n. IsTrue (is_live accesses n)) (sym of_id) live;
    standing = standing;
    count = len;
    tuples = subst (λ n. All (IsTuple (member_columns (access_in accesses n))) (members hits)) (sym of_id)
        (subst (All (IsTuple (member_columns (access_in accesses id)))) (sym is)
        (group_tuples (rows (access_in accesses id).table) (access_in accesses id) key));
  };
  access_is = of_id;
  group_is = is;
}

pub counts_err : {A E : Type 0} (r : Result A E) (old new share : ℕ) → IsErr r → old ≤ new → new ≤ old + share → Counts r old new share
counts_err (Ok value) old new share h l m = cc
counts_err (Err error) old new share h l m = (l, m)
