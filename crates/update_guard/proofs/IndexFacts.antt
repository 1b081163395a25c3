-- The indexes of a table's constraints, one of them moved at a time.
use Rattle.std.proofs.Common.{◌≡◌, ◌≢◌, ◌∙◌, ◌<◌, ◌≤◌, ◌+◌, ◌==◌, ◌||◌, ℕ, zero, suc, Bool, true, false, cond, List, [], ◌∷◌, map, take, drop, length, get_or, set, ap, refl, sym, subst, arith, add-one, true≢false, inl, inr, length-set, length-take, length-drop, if◌then◌else◌}
use Rattle.std.specs.Prelude.{◌++◌, filter, remove, All, AllPairs}
use Rattle.std.specs.List.{list_any}
use Rattle.std.proofs.Math.Seq.{drop-cons, take-suc}
use Rattle.std.proofs.lemmas.Bool.{eq-eqb, ne_eqb, eqb-true, cases_eq}
use Rattle.std.proofs.lemmas.List.{get_or-set_same, get_or-set_other, get_or-map, get_or-take, get_or-drop, get_or_default, length-map, take_all}
use Rattle.std.proofs.lemmas.List.Elements.{All-filter, filter_passes}
use Rattle.std.proofs.lemmas.List.Kept.{AllPairs-filter}
use Rattle.std.proofs.lemmas.List.Folds.{list_any_none, list_any-append, list_any_at}
use Rattle.beas_core.specs.declared.schema.Access.{Access}
use Rattle.beas_core.specs.declared.schema.AccessId.{AccessId}
use Rattle.beas_core.specs.Types.{Row}
use Rattle.access_index.specs.Index.{Index, IsIndexOf}
use Rattle.catalogue.specs.Schema.{access_with_id}
use Rattle.catalogue.specs.Kept.{ids_on}
use Rattle.catalogue.proofs.IdFacts.{IdsRise, located_at}
use Rattle.catalogue.proofs.ListFacts.{one_place}
use Rattle.update_guard.specs.Guarding.{IsIndexAt, IndexesOf}
use Rattle.update_guard.specs.Seen.{index_at, no_index, IsMoved}
use Rattle.update_guard.specs.Indexing.{AreIndexed, is_done, IsOnTable, IsPlaceOn, id_at, no_access}

-- a constraint is live, and found by its id
pub record IsOwn (accesses : List Access) (a : Access) : Type 0 where
  pub live : list_any (λ x. x.id.0 == a.id.0) accesses ≡ true
  pub found : access_with_id accesses a.id ≡ a

pub own : (accesses : List Access) → IdsRise accesses → All (IsOwn accesses) accesses
own accesses rise k d l =
    let a = get_or accesses k d in
    let at = located_at accesses a.id k d rise l refl in
    record { live = list_any_at (λ x. x.id.0 == a.id.0) accesses k d l (eq-eqb a.id.0 a.id.0 refl); found = sym (at.found d) }

pub on_table : (accesses : List Access) (table : ℕ) → IdsRise accesses → All (IsOnTable accesses table) (ids_on accesses table)
on_table accesses table rise k d l =
    let mine = filter (λ a. a.table.0 == table) accesses in
    let h : k < length mine = omega (arith, l, length-map mine (λ a. a.id)) in
    let o = All-filter (λ a. a.table.0 == table) (IsOwn accesses) accesses (own accesses rise) k no_access h in
    let t = filter_passes (λ a. a.table.0 == table) accesses k no_access h in
    let is : get_or (ids_on accesses table) k d ≡ (get_or mine k no_access).id = get_or-map (λ a. a.id) mine k no_access d h in
    subst (IsOnTable accesses table) (sym is) (record {
      live = o.live;
      has_id = ap (λ a. a.id.0) o.found;
      on = ap (λ a. a.table.0) o.found ∙ eqb-true (get_or mine k no_access).table.0 table t;
    })

abbrev pub Rising : List AccessId → Type 0
Rising ids = AllPairs (λ x y. x.0 < y.0) ids

pub ids_rise : (accesses : List Access) (table : ℕ) → IdsRise accesses → Rising (ids_on accesses table)
ids_rise accesses table rise i j d b l =
    let mine = filter (λ a. a.table.0 == table) accesses in
    let h : j < length mine = omega (arith, l, length-map mine (λ a. a.id)) in
    let first : get_or (ids_on accesses table) i d ≡ (get_or mine i no_access).id = get_or-map (λ a. a.id) mine i no_access d (omega (arith, b, h)) in
    let second : get_or (ids_on accesses table) j d ≡ (get_or mine j no_access).id = get_or-map (λ a. a.id) mine j no_access d h in
    let less = AllPairs-filter (λ a c. a.id.0 < c.id.0) (λ a. a.table.0 == table) accesses rise i j no_access b h in
    omega (arith, less, ap (λ x. x.0) first, ap (λ x. x.0) second)

pub rising_take : (ids : List AccessId) (n : ℕ) → Rising ids → Rising (take n ids)
rising_take ids n rise i j d b l =
    let h : j < n = omega (arith, l, length-take n ids) in
    let g : j < length ids = omega (arith, l, length-take n ids) in
    let less = rise i j d b g in
    omega (arith, less, ap (λ x. x.0) (get_or-take n ids i d (omega (arith, b, h))), ap (λ x. x.0) (get_or-take n ids j d h))

abbrev pub has : ℕ → List AccessId → Bool
has x ids = list_any (λ i. i.0 == x) ids

pub not_before : (ids : List AccessId) (k : ℕ) (d : AccessId) → Rising ids → k < length ids → has (get_or ids k d).0 (take k ids) ≡ false
not_before ids k d rise l = list_any_none (λ i. i.0 == (get_or ids k d).0) (take k ids) (λ j e h.
    let b : j < k = omega (arith, h, length-take k ids) in
    ne_eqb (get_or (take k ids) j e).0 (get_or ids k d).0 (λ s. absurd
    (omega (arith, rise j k d b l, s, ap (λ x. x.0) (get_or-take k ids j e b ∙ get_or_default ids j e d (omega (arith, b, l)))))))

not_after : (ids : List AccessId) (k : ℕ) (d : AccessId) → Rising ids → k < length ids → has (get_or ids k d).0 (drop (suc k) ids) ≡ false
not_after ids k d rise l = list_any_none (λ i. i.0 == (get_or ids k d).0) (drop (suc k) ids) (λ j e h.
    let b : suc k + j < length ids = omega (arith, h, length-drop (suc k) ids) in
    let later = rise k (suc k + j) d (omega arith) b in
    ne_eqb (get_or (drop (suc k) ids) j e).0 (get_or ids k d).0
    (λ s. absurd (omega (arith, later, s, ap (λ x. x.0) (get_or-drop (suc k) ids j e ∙ get_or_default ids (suc k + j) e d b)))))

or_true : (a b : Bool) → b ≡ true → (a || b) ≡ true
or_true true b e = refl
or_true false b e = e

-- one index is moved: its constraint is done where it wasn't, or is no more where it was
pub record Move (accesses : List Access) (rows : List (List Row)) (table : ℕ) (before after : List Row) (done moved : List AccessId) (indexes : List Index)
    (place : ℕ) (id : AccessId) (new : Index) : Type 0 where
  pub indexed : AreIndexed accesses rows table before after done indexes
  pub rise : IdsRise accesses
  pub live : table < length rows
  pub within : place < length accesses
  pub at : (d : Access) → get_or accesses place d ≡ access_with_id accesses id
  pub is_on : IsOnTable accesses table id
  pub others : (x : ℕ) → x ≢ id.0 → has x moved ≡ has x done
  pub access_is : new.access ≡ (get_or indexes place new).access
  pub index_is : IsIndexOf (get_or indexes place new) (if has id.0 done then after else before) → IsIndexOf new (if has id.0 moved then after else before)

pub moved_one : {accesses : List Access} {rows : List (List Row)} {table : ℕ} {before after : List Row} {done moved : List AccessId} {indexes : List Index}
    {place : ℕ} {id : AccessId} {new : Index}
    → Move accesses rows table before after done moved indexes place id new → AreIndexed accesses rows table before after moved (set indexes place new)
moved_one {accesses} {rows} {table} {before} {after} {done} {moved} {indexes} {place} {id} {new} m = record {
  count = length-set indexes place new ∙ m.indexed.count;
  each = each;
}
  where
    long : place < length indexes
    long = omega (arith, m.within, m.indexed.count)

    here : (e : Access) → IsIndexAt (set rows table (if is_done moved (get_or accesses place e) then after else before)) new (get_or accesses place e)
    here e =
        let old = m.indexed.each place new e m.within in
        let own_id : (get_or accesses place e).id.0 ≡ id.0 = ap (λ a. a.id.0) (m.at e) ∙ m.is_on.has_id in
        let own_table : (get_or accesses place e).table.0 ≡ table = ap (λ a. a.table.0) (m.at e) ∙ m.is_on.on in
        let rows_of : (xs : List Row) → get_or (set rows table xs) (get_or accesses place e).table.0 [] ≡ xs =
        λ xs. ap (λ t. get_or (set rows table xs) t []) own_table ∙ get_or-set_same rows table xs [] m.live in
        let was : IsIndexOf (get_or indexes place new) (if has id.0 done then after else before) =
        subst (IsIndexOf (get_or indexes place new)) (rows_of (if is_done done (get_or accesses place e) then after else before)
        ∙ ap (λ x. if has x done then after else before) own_id) old.index_is in
        record {
          access_is = m.access_is ∙ old.access_is;
          index_is = subst (IsIndexOf new) (ap (λ x. if has x moved then after else before) (sym own_id)
              ∙ sym (rows_of (if is_done moved (get_or accesses place e) then after else before))) (m.index_is was);
        }

    there : (i : ℕ) (d : Index) (e : Access) → i < length accesses → i ≢ place
        → IsIndexAt (set rows table (if is_done moved (get_or accesses i e) then after else before)) (get_or indexes i d) (get_or accesses i e)
    there i d e l n =
        let other : (get_or accesses i e).id.0 ≢ id.0 = λ s. n
        (one_place (λ a. a.id.0) accesses i place e m.rise l m.within (s ∙ sym m.is_on.has_id ∙ ap (λ a. a.id.0) (sym (m.at e)))) in
        subst (λ (b : Bool). IsIndexAt (set rows table (if b then after else before)) (get_or indexes i d) (get_or accesses i e))
        (sym (m.others (get_or accesses i e).id.0 other)) (m.indexed.each i d e l)

    each : (i : ℕ) (d : Index) (e : Access) → i < length accesses
        → IsIndexAt (set rows table (if is_done moved (get_or accesses i e) then after else before)) (get_or (set indexes place new) i d) (get_or accesses i e)
    each i d e l = elim (cases_eq i place) [
      | inl s ↦
          let read : get_or (set indexes place new) i d ≡ new = ap (λ j. get_or (set indexes place new) j d) s ∙ get_or-set_same indexes place new d long in
          let P : ℕ → Type 0 = λ j. IsIndexAt (set rows table (if is_done moved (get_or accesses j e) then after else before)) new (get_or accesses j e) in
          subst (λ (x : Index). IsIndexAt (set rows table (if is_done moved (get_or accesses i e) then after else before)) x (get_or accesses i e)) (sym read)
          (subst P (sym s) (here e))
      | inr n ↦ subst (λ (x : Index). IsIndexAt (set rows table (if is_done moved (get_or accesses i e) then after else before)) x (get_or accesses i e))
          (sym (get_or-set_other indexes place i new d n)) (there i d e l n)
    ]

-- no constraint is done yet
pub none_done : (accesses : List Access) (rows : List (List Row)) (table : ℕ) (before after : List Row) (indexes : List Index)
    → IndexesOf accesses (set rows table before) indexes → AreIndexed accesses rows table before after [] indexes
none_done accesses rows table before after indexes i = record { count = i.count; each = i.each }

pub from_none_done : (accesses : List Access) (rows : List (List Row)) (table : ℕ) (before after : List Row) (indexes : List Index)
    → AreIndexed accesses rows table before after [] indexes → IndexesOf accesses (set rows table before) indexes
from_none_done accesses rows table before after indexes i = record { count = i.count; each = i.each }

among : (p : Access → Bool) (xs : List Access) (i : ℕ) (e : Access) → i < length xs → p (get_or xs i e) ≡ true
    → has (get_or xs i e).id.0 (map (λ a. a.id) (filter p xs)) ≡ true
among p [] i e l t = absurd (omega (arith, l))
among p (x ∷ xs) zero e l t =
    ap (λ b. has x.id.0 (map (λ a. a.id) (cond b (x ∷ filter p xs) (filter p xs)))) t
    ∙ ap (λ b. b || has x.id.0 (map (λ a. a.id) (filter p xs))) (eq-eqb x.id.0 x.id.0 refl)
among p (x ∷ xs) (suc i) e l t = by (p x) (among p xs i e (omega arith) t)
  where
    by : (b : Bool) → has (get_or xs i e).id.0 (map (λ a. a.id) (filter p xs)) ≡ true
        → has (get_or xs i e).id.0 (map (λ a. a.id) (cond b (x ∷ filter p xs) (filter p xs))) ≡ true
    by true h = or_true (x.id.0 == (get_or xs i e).id.0) (has (get_or xs i e).id.0 (map (λ a. a.id) (filter p xs))) h
    by false h = h

-- a constraint stands in its table's list and in no other
done_where : (accesses : List Access) (table : ℕ) → IdsRise accesses → (i : ℕ) (e : Access) → i < length accesses
    → is_done (ids_on accesses table) (get_or accesses i e) ≡ ((get_or accesses i e).table.0 == table)
done_where accesses table rise i e l = by ((get_or accesses i e).table.0 == table) refl
  where
    by : (b : Bool) → ((get_or accesses i e).table.0 == table) ≡ b → is_done (ids_on accesses table) (get_or accesses i e) ≡ b
    by true t = among (λ a. a.table.0 == table) accesses i e l t
    by false t = list_any_none (λ x. x.0 == (get_or accesses i e).id.0) (ids_on accesses table) (λ j d h.
        let o = on_table accesses table rise j d h in
        ne_eqb (get_or (ids_on accesses table) j d).0 (get_or accesses i e).id.0 (λ s.
        let at = located_at accesses (get_or (ids_on accesses table) j d) i e rise l (sym s) in
        true≢false (sym (eq-eqb (get_or accesses i e).table.0 table (ap (λ a. a.table.0) (at.found e) ∙ o.on)) ∙ t)))

or_false : (a : Bool) → (a || (false || false)) ≡ a
or_false true = refl
or_false false = refl

-- with its table's constraints done, each has the rows after
same_rows : (accesses : List Access) (rows : List (List Row)) (table : ℕ) (before after : List Row) → IdsRise accesses → table < length rows
    → (i : ℕ) (e : Access) → i < length accesses
    → get_or (set rows table after) (get_or accesses i e).table.0 []
    ≡ get_or (set rows table (if is_done (ids_on accesses table) (get_or accesses i e) then after else before)) (get_or accesses i e).table.0 []
same_rows accesses rows table before after rise live i e l = elim (cases_eq (get_or accesses i e).table.0 table) [
  | inl s ↦ ap (λ b. get_or (set rows table (if b then after else before)) (get_or accesses i e).table.0 [])
      (sym (done_where accesses table rise i e l ∙ eq-eqb (get_or accesses i e).table.0 table s))
  | inr n ↦ get_or-set_other rows table (get_or accesses i e).table.0 after [] n
      ∙ sym (get_or-set_other rows table (get_or accesses i e).table.0 (if is_done (ids_on accesses table) (get_or accesses i e) then after else before) [] n)
]

-- all of the table's constraints are done
pub all_done : (accesses : List Access) (rows : List (List Row)) (table : ℕ) (before after : List Row) (indexes : List Index) → IdsRise accesses
    → table < length rows
    → IndexesOf accesses (set rows table after) indexes → AreIndexed accesses rows table before after (ids_on accesses table) indexes
all_done accesses rows table before after indexes rise live is = record {
  count = is.count;
  each = λ i d e l. let o = is.each i d e l in record {
    access_is = o.access_is;
    index_is = subst (IsIndexOf (get_or indexes i d)) (same_rows accesses rows table before after rise live i e l) o.index_is;
  };
}

pub from_all_done : (accesses : List Access) (rows : List (List Row)) (table : ℕ) (before after : List Row) (indexes : List Index) → IdsRise accesses
    → table < length rows
    → AreIndexed accesses rows table before after (ids_on accesses table) indexes → IndexesOf accesses (set rows table after) indexes
from_all_done accesses rows table before after indexes rise live is = record {
  count = is.count;
  each = λ i d e l. let o = is.each i d e l in record {
    access_is = o.access_is;
    index_is = subst (IsIndexOf (get_or indexes i d)) (sym (same_rows accesses rows table before after rise live i e l)) o.index_is;
  };
}

step_others : (ids : List AccessId) (k : ℕ) (d : AccessId) (x : ℕ) → k < length ids → x ≢ (get_or ids k d).0 → has x (take (suc k) ids) ≡ has x (take k ids)
step_others ids k d x l n =
    ap (has x) (take-suc ids k d l) ∙ list_any-append (λ i. i.0 == x) (take k ids) (get_or ids k d ∷ [])
    ∙ ap (λ b. has x (take k ids) || (b || false)) (ne_eqb (get_or ids k d).0 x (λ s. n (sym s))) ∙ or_false (has x (take k ids))

step_own : (ids : List AccessId) (k : ℕ) (d : AccessId) → k < length ids → has (get_or ids k d).0 (take (suc k) ids) ≡ true
step_own ids k d l =
    ap (has (get_or ids k d).0) (take-suc ids k d l) ∙ list_any-append (λ i. i.0 == (get_or ids k d).0) (take k ids) (get_or ids k d ∷ [])
    ∙ ap (λ b. has (get_or ids k d).0 (take k ids) || (b || false)) (eq-eqb (get_or ids k d).0 (get_or ids k d).0 refl)
    ∙ or_true (has (get_or ids k d).0 (take k ids)) (true || false) refl

drop_others : (ids : List AccessId) (k : ℕ) (d : AccessId) (x : ℕ) → k < length ids → x ≢ (get_or ids k d).0 → has x (drop (suc k) ids) ≡ has x (drop k ids)
drop_others ids k d x l n = sym (ap (has x) (drop-cons ids k d l) ∙ ap (λ b. b || has x (drop (suc k) ids)) (ne_eqb (get_or ids k d).0 x (λ s. n (sym s))))

drop_own : (ids : List AccessId) (k : ℕ) (d : AccessId) → k < length ids → has (get_or ids k d).0 (drop k ids) ≡ true
drop_own ids k d l = ap (has (get_or ids k d).0) (drop-cons ids k d l)
    ∙ ap (λ b. b || has (get_or ids k d).0 (drop (suc k) ids)) (eq-eqb (get_or ids k d).0 (get_or ids k d).0 refl)

-- what a step of a loop over ids knows of the index that it moves
pub record Turn (accesses : List Access) (table : ℕ) (ids : List AccessId) (k : ℕ) (indexes : List Index) (place : ℕ) (id : AccessId) (new : Index) : Type 0
  where
    pub rise : IdsRise accesses
    pub rising : Rising ids
    pub in_list : k < length ids
    pub id_is : id ≡ get_or ids k id
    pub is_on : IsOnTable accesses table id
    pub within : place < length accesses
    pub at : (d : Access) → get_or accesses place d ≡ access_with_id accesses id
    pub access_is : new.access ≡ (get_or indexes place new).access

-- the index that it moves is read over other rows, where its id is done before or after alone
turn_to : {accesses : List Access} {table : ℕ} {ids : List AccessId} {k : ℕ} {indexes : List Index} {place : ℕ} {id : AccessId} {new : Index}
    (rows : List (List Row)) (before after : List Row) (done moved : List AccessId) (was now : Bool)
    → Turn accesses table ids k indexes place id new → table < length rows
    → ((x : ℕ) → x ≢ (get_or ids k id).0 → has x moved ≡ has x done) → has (get_or ids k id).0 done ≡ was → has (get_or ids k id).0 moved ≡ now
    → (IsIndexOf (get_or indexes place new) (if was then after else before) → IsIndexOf new (if now then after else before))
    → AreIndexed accesses rows table before after done indexes → AreIndexed accesses rows table before after moved (set indexes place new)
turn_to {accesses} {table} {ids} {k} {indexes} {place} {id} {new} rows before after done moved was now t live others was_done is_done flips is = moved_one (record {
  indexed = is;
  rise = t.rise;
  live = live;
  within = t.within;
  at = t.at;
  is_on = t.is_on;
  others = λ x n. others x (λ s. n (s ∙ ap (λ i. i.0) (sym t.id_is)));
  access_is = t.access_is;
  index_is = λ old.
      subst (IsIndexOf new) (ap (λ b. if b then after else before) (sym (ap (λ i. has i.0 moved) t.id_is ∙ is_done)))
      (flips (subst (IsIndexOf (get_or indexes place new)) (ap (λ b. if b then after else before) (ap (λ i. has i.0 done) t.id_is ∙ was_done)) old));
})

-- the first of the ids that are left is done no more
pub turn_out : {accesses : List Access} {table : ℕ} {ids : List AccessId} {k : ℕ} {indexes : List Index} {place : ℕ} {id : AccessId} {new : Index}
    (rows : List (List Row)) (before after : List Row) → Turn accesses table ids k indexes place id new → table < length rows
    → (IsIndexOf (get_or indexes place new) after → IsIndexOf new before)
    → AreIndexed accesses rows table before after (drop k ids) indexes → AreIndexed accesses rows table before after (drop (suc k) ids) (set indexes place new)
turn_out {accesses} {table} {ids} {k} {indexes} {place} {id} {new} rows before after t live flips is = turn_to rows before after (drop k ids) (drop (suc k) ids) true false t live
    (λ x n. drop_others ids k id x t.in_list n) (drop_own ids k id t.in_list) (not_after ids k id t.rising t.in_list) flips is

-- one id more is done
pub turn_in : {accesses : List Access} {table : ℕ} {ids : List AccessId} {k : ℕ} {indexes : List Index} {place : ℕ} {id : AccessId} {new : Index}
    (rows : List (List Row)) (before after : List Row) → Turn accesses table ids k indexes place id new → table < length rows
    → (IsIndexOf (get_or indexes place new) before → IsIndexOf new after)
    → AreIndexed accesses rows table before after (take k ids) indexes → AreIndexed accesses rows table before after (take (suc k) ids) (set indexes place new)
turn_in {accesses} {table} {ids} {k} {indexes} {place} {id} {new} rows before after t live flips is = turn_to rows before after (take k ids) (take (suc k) ids) false true t live
    (λ x n. step_others ids k id x t.in_list n) (not_before ids k id t.rising t.in_list) (step_own ids k id t.in_list) flips is

-- a step over the first n of a table's constraints
pub turn_of : {accesses : List Access} {table k place : ℕ} (n : ℕ) (indexes : List Index) (new : Index) → IsPlaceOn accesses table k place → k < n
    → n ≤ length (ids_on accesses table)
    → new.access ≡ (get_or indexes place new).access → Turn accesses table (take n (ids_on accesses table)) k indexes place (id_at accesses table k) new
turn_of {accesses} {table} {k} {place} n indexes new p h l same = record {
  rise = p.rise;
  rising = rising_take (ids_on accesses table) n (ids_rise accesses table p.rise);
  in_list = omega (arith, h, l, length-take n (ids_on accesses table));
  id_is = get_or_default (ids_on accesses table) k (record { 0 = 0 }) (id_at accesses table k) (omega (arith, h, l))
      ∙ sym (get_or-take n (ids_on accesses table) k (id_at accesses table k) h);
  is_on = p.is_on;
  within = p.within;
  at = p.at;
  access_is = same;
}

-- where a table's constraint number k stands, as the look-ups tell
pub place_on : (accesses : List Access) (table k place : ℕ) (lent : List AccessId) (id : AccessId) → IdsRise accesses → lent ≡ ids_on accesses table
    → k < length lent → id ≡ get_or lent k id
    → place < length accesses → ((d : Access) → get_or accesses place d ≡ access_with_id accesses id) → IsPlaceOn accesses table k place
place_on accesses table k place lent id rise e h is within at =
    let l : k < length (ids_on accesses table) = omega (arith, h, ap length e) in
    let same : id ≡ id_at accesses table k = is ∙ ap (λ xs. get_or xs k id) e ∙ get_or_default (ids_on accesses table) k id (record { 0 = 0 }) l in
    record {
      rise = rise;
      within = within;
      at = λ d. at d ∙ ap (access_with_id accesses) same;
      is_on = on_table accesses table rise k (record { 0 = 0 }) l;
    }

pub live_at : (accesses : List Access) (table k : ℕ) (lent : List AccessId) (id : AccessId) → IdsRise accesses → lent ≡ ids_on accesses table → k < length lent
    → id ≡ get_or lent k id
    → list_any (λ x. x.id.0 == id.0) accesses ≡ true
live_at accesses table k lent id rise e h is =
    let l : k < length (ids_on accesses table) = omega (arith, h, ap length e) in
    let same : get_or (ids_on accesses table) k id ≡ id = ap (λ xs. get_or xs k id) (sym e) ∙ sym is in
    subst (λ (i : AccessId). list_any (λ x. x.id.0 == i.0) accesses ≡ true) same (on_table accesses table rise k id l).live

-- an index is replaced by one of the same rows
pub kept_one : {accesses : List Access} {table k place : ℕ} (rows : List (List Row)) (before after : List Row) (done : List AccessId)
    (indexes : List Index) (new : Index) → IsPlaceOn accesses table k place → table < length rows → new.access ≡ (get_or indexes place new).access
    → ((own : List Row) → IsIndexOf (get_or indexes place new) own → IsIndexOf new own)
    → AreIndexed accesses rows table before after done indexes → AreIndexed accesses rows table before after done (set indexes place new)
kept_one {accesses} {table} {k} {place} rows before after done indexes new p live same keeps is = moved_one (record {
  indexed = is;
  rise = p.rise;
  live = live;
  within = p.within;
  at = p.at;
  is_on = p.is_on;
  others = λ x n. refl;
  access_is = same;
  index_is = λ old. keeps (if has (id_at accesses table k).0 done then after else before) old;
})

-- an index whose constraint isn't done yet is as it was
pub fresh_at : (accesses : List Access) (table k place : ℕ) (old new : List Index) (d : Index) → IsPlaceOn accesses table k place
    → k < length (ids_on accesses table)
    → ((i : ℕ) (e : Index) (f : Access) → i < length accesses → is_done (take k (ids_on accesses table)) (get_or accesses i f) ≡ false
    → get_or new i e ≡ get_or old i e)
    → get_or new place d ≡ get_or old place d
fresh_at accesses table k place old new d p h fresh =
    let no = not_before (ids_on accesses table) k (record { 0 = 0 }) (ids_rise accesses table p.rise) h in
    fresh place d no_access p.within (ap (λ x. has x (take k (ids_on accesses table))) (ap (λ a. a.id.0) (p.at no_access) ∙ p.is_on.has_id) ∙ no)

-- and stays so where another one is moved
pub fresh_after : (accesses : List Access) (table k place : ℕ) (old new : List Index) (moved : Index) → IsPlaceOn accesses table k place
    → k < length (ids_on accesses table)
    → ((i : ℕ) (e : Index) (f : Access) → i < length accesses → is_done (take k (ids_on accesses table)) (get_or accesses i f) ≡ false
    → get_or new i e ≡ get_or old i e)
    → (i : ℕ) (e : Index) (f : Access) → i < length accesses → is_done (take (suc k) (ids_on accesses table)) (get_or accesses i f) ≡ false
    → get_or (set new place moved) i e ≡ get_or old i e
fresh_after accesses table k place old new moved p h fresh i e f l unseen =
    let ids = ids_on accesses table in
    let id = id_at accesses table k in
    elim (cases_eq (get_or accesses i f).id.0 id.0) [
      | inl s ↦ absurd (true≢false (sym (step_own ids k (record { 0 = 0 }) h) ∙ ap (λ x. has x (take (suc k) ids)) (sym s) ∙ unseen))
      | inr n ↦
          let apart : i ≢ place = λ q. n (ap (λ j. (get_or accesses j f).id.0) q ∙ ap (λ a. a.id.0) (p.at f) ∙ p.is_on.has_id) in
          get_or-set_other new place i moved e apart ∙ fresh i e f l (sym (step_others ids k (record { 0 = 0 }) (get_or accesses i f).id.0 h n) ∙ unseen)
    ]

-- what a call tells of the one index that it moved
pub moved_long : {old new : List Index} {place : ℕ} (accesses : List Access) → IsMoved old new place → length old ≡ length accesses
    → length new ≡ length accesses
moved_long {old} {new} {place} accesses m e = ap length m.moved ∙ length-set old place m.index ∙ e

moved_at : {old new : List Index} {place : ℕ} (m : IsMoved old new place) → place < length old → index_at new place ≡ m.index
moved_at {old} {new} {place} m l = ap (λ xs. get_or xs place no_index) m.moved ∙ get_or-set_same old place m.index no_index l

moved_access : {old new : List Index} {place : ℕ} (m : IsMoved old new place) → place < length old → m.index.access ≡ (get_or old place m.index).access
moved_access {old} {new} {place} m l = m.access_stays ∙ ap (λ (i : Index). i.access) (get_or_default old place no_index m.index l)

pub move_out : {accesses : List Access} {table k place : ℕ} {old new : List Index} (n : ℕ) (rows : List (List Row)) (before after : List Row)
    → IsPlaceOn accesses table k place → k < n → n ≤ length (ids_on accesses table) → length old ≡ length accesses → table < length rows
    → IsMoved old new place → (IsIndexOf (index_at old place) after → IsIndexOf (index_at new place) before)
    → AreIndexed accesses rows table before after (drop k (take n (ids_on accesses table))) old
    → AreIndexed accesses rows table before after (drop (k + 1) (take n (ids_on accesses table))) new
move_out {accesses} {table} {k} {place} {old} {new} n rows before after p h l long live m flips is =
    let within : place < length old = omega (arith, p.within, long) in
    let ids = take n (ids_on accesses table) in
    let turn = turn_of n old m.index p h l (moved_access m within) in
    subst (λ ixs. AreIndexed accesses rows table before after (drop (k + 1) ids) ixs) (sym m.moved)
    (subst (λ j. AreIndexed accesses rows table before after (drop j ids) (set old place m.index)) (sym (add-one k))
    (turn_out rows before after turn live (λ x. subst (λ (i : Index). IsIndexOf i before) (moved_at m within)
    (flips (subst (λ (i : Index). IsIndexOf i after) (get_or_default old place m.index no_index within) x))) is))

pub move_in : {accesses : List Access} {table k place : ℕ} {old new : List Index} (rows : List (List Row)) (before after : List Row)
    → IsPlaceOn accesses table k place → k < length (ids_on accesses table) → length old ≡ length accesses → table < length rows
    → IsMoved old new place → (IsIndexOf (index_at old place) before → IsIndexOf (index_at new place) after)
    → AreIndexed accesses rows table before after (take k (ids_on accesses table)) old
    → AreIndexed accesses rows table before after (take (k + 1) (ids_on accesses table)) new
move_in {accesses} {table} {k} {place} {old} {new} rows before after p h long live m flips is =
    let within : place < length old = omega (arith, p.within, long) in
    let ids = ids_on accesses table in
    let turn = turn_of (length ids) old m.index p h (omega arith) (moved_access m within) in
    let all = take_all (length ids) ids (omega arith) in
    subst (λ ixs. AreIndexed accesses rows table before after (take (k + 1) ids) ixs) (sym m.moved)
    (subst (λ ds. AreIndexed accesses rows table before after ds (set old place m.index))
    (ap (λ xs. take (suc k) xs) all ∙ ap (λ j. take j ids) (sym (add-one k)))
    (turn_in rows before after turn live (λ x. subst (λ (i : Index). IsIndexOf i after) (moved_at m within)
    (flips (subst (λ (i : Index). IsIndexOf i before) (get_or_default old place m.index no_index within) x)))
    (subst (λ ds. AreIndexed accesses rows table before after ds old) (ap (take k) (sym all)) is)))

pub move_kept : {accesses : List Access} {table k place : ℕ} {old new : List Index} (rows : List (List Row)) (before after : List Row)
    (done : List AccessId) → IsPlaceOn accesses table k place → length old ≡ length accesses → table < length rows
    → IsMoved old new place → ((own : List Row) → IsIndexOf (index_at old place) own → IsIndexOf (index_at new place) own)
    → AreIndexed accesses rows table before after done old → AreIndexed accesses rows table before after done new
move_kept {accesses} {table} {k} {place} {old} {new} rows before after done p long live m keeps is =
    let within : place < length old = omega (arith, p.within, long) in
    subst (λ ixs. AreIndexed accesses rows table before after done ixs) (sym m.moved)
    (kept_one rows before after done old m.index p live (moved_access m within)
    (λ own x. subst (λ (i : Index). IsIndexOf i own) (moved_at m within)
    (keeps own (subst (λ (i : Index). IsIndexOf i own) (get_or_default old place m.index no_index within) x))) is)

-- the indexes of a table's constraints that aren't among the first k are as they were
abbrev pub AreFresh : List Access → ℕ → ℕ → List Index → List Index → Type 0
AreFresh accesses table k old new =
    (i : ℕ) (d : Index) (e : Access) → i < length accesses → is_done (take k (ids_on accesses table)) (get_or accesses i e) ≡ false
    → get_or new i d ≡ get_or old i d

pub move_fresh : {accesses : List Access} {table k place : ℕ} {now new : List Index} (old : List Index) → IsPlaceOn accesses table k place
    → k < length (ids_on accesses table) → IsMoved now new place → AreFresh accesses table k old now → AreFresh accesses table (k + 1) old new
move_fresh {accesses} {table} {k} {place} {now} {new} old p h m fresh i d e l unseen =
    ap (λ xs. get_or xs i d) m.moved ∙ fresh_after accesses table k place old now m.index p h fresh i d e l
    (ap (λ j. is_done (take j (ids_on accesses table)) (get_or accesses i e)) (sym (add-one k)) ∙ unseen)

pub last_removed : (front : List Index) (last : Index) → remove (front ++ last ∷ []) (length front) ≡ front
last_removed [] last = refl
last_removed (x ∷ front) last = ap (λ xs. x ∷ xs) (last_removed front last)
