-- Whose constraint an id is, in a kept port.
use Rattle.std.proofs.Common.{◌≡◌, ◌<◌, ◌≤◌, ◌==◌, ◌||◌, ◌+◌, ◌++◌, ◌∙◌, append_assoc, ℕ, zero, suc, Bool, true, false, not, cond, nat_lt, List, [], ◌∷◌, length, get_or, flat_map, position, Some, None, refl, ap, sym, subst, inl, inr, arith}
use Rattle.std.specs.Prelude.{if◌then◌else◌, filter, All}
use Rattle.std.specs.List.{list_any, position_or_len}
use Rattle.std.proofs.lemmas.Bool.{eq-eqb, ne_eqb, ltb-true, ltb-false}
use Rattle.std.proofs.lemmas.List.Elements.{All-contains}
use Rattle.beas_core.specs.declared.schema.Access.{Access}
use Rattle.beas_core.specs.declared.schema.AccessId.{AccessId}
use Rattle.beas_core.specs.declared.schema.TableId.{TableId}
use Rattle.beas_core.specs.declared.schema.ColumnId.{ColumnId}
use Rattle.beas_core.specs.declared.value.Value.{Value}
use Rattle.beas_core.specs.Groups.{Holds, group_of, member_columns, value_in}
use Rattle.beas_core.specs.Types.{Row, TableRows}
use Rattle.beas_core.specs.Derivations.{access_in, is_live}
use Rattle.beas_core.specs.Shapes.{EachIdOnce}
use Rattle.beas_core.proofs.Accesses.{access_in-rest, access_in-member, access_in-append, is_live-member}
use Rattle.beas_core.proofs.Sets.{Has, Contains-from_has, Has-from_filter}
use Rattle.beas_core.proofs.MoreAccesses.{live_id}
use Rattle.beas_core.proofs.UseFacts.{found_by_id}
use Rattle.desk_model.specs.Kept.{rows_with, is_frozen, accesses_with, has_id, chosen, Where, StandsWith, AreApart}

-- an id that the front doesn't have is that of the back
pub access_in-skip : (xs ys : List Access) (id : AccessId) → is_live xs id ≡ false → access_in (xs ++ ys) id ≡ access_in ys id
access_in-skip [] ys id none = refl
access_in-skip (x ∷ xs) ys id none = by (x.id.0 == id.0) refl none (access_in-skip xs ys id)
  where
    by : (b : Bool) → (x.id.0 == id.0) ≡ b → (b || is_live xs id) ≡ false → (is_live xs id ≡ false → access_in (xs ++ ys) id ≡ access_in ys id)
        → access_in (x ∷ xs ++ ys) id ≡ access_in ys id
    by true e h later = cc
    by false e h later = access_in-rest x (xs ++ ys) id e ∙ later h

pub is_live-skip : (xs ys : List Access) (id : AccessId) → is_live xs id ≡ false → is_live (xs ++ ys) id ≡ is_live ys id
is_live-skip [] ys id none = refl
is_live-skip (x ∷ xs) ys id none = by (x.id.0 == id.0) none (is_live-skip xs ys id)
  where
    by : (b : Bool) → (b || is_live xs id) ≡ false → (is_live xs id ≡ false → is_live (xs ++ ys) id ≡ is_live ys id)
        → (b || is_live (xs ++ ys) id) ≡ is_live ys id
    by true h later = cc
    by false h later = later h

module _ {P : Type 0} (table : P → TableId) (rows : P → TableRows) (accesses : P → List Access) where
  -- what a part says of an id, where it is the first that has it
  pub record InPart {A : Type 0} (what : P → A) (parts : List P) (other : A) (rest : List Access) (id : AccessId) (part : P) : Type 0 where
    pub live : is_live (accesses part) id ≡ true
    pub has : Has parts part
    pub access : access_in (flat_map accesses parts ++ rest) id ≡ access_in (accesses part) id
    pub what_is : chosen accesses what parts other id ≡ what part

  pub in_part : {A : Type 0} (what : P → A) (parts : List P) (other : A) (rest : List Access) (id : AccessId) (i : ℕ) (d : P)
      → position_or_len (has_id accesses id) parts ≡ i → i < length parts → InPart what parts other rest id (get_or parts i d)
  in_part what [] other rest id i d first within = absurd (omega arith)
  in_part {A} what (part ∷ parts) other rest id i d first within =
      by (has_id accesses id part) refl (in_part what parts other rest id (position_or_len (has_id accesses id) parts) d refl)
    where
      together : (flat_map accesses (part ∷ parts)) ++ rest ≡ accesses part ++ (flat_map accesses parts ++ rest)
      together = append_assoc (accesses part) (flat_map accesses parts) rest

      by : (b : Bool) → has_id accesses id part ≡ b
          → (position_or_len (has_id accesses id) parts < length parts
          → InPart what parts other rest id (get_or parts (position_or_len (has_id accesses id) parts) d))
          → InPart what (part ∷ parts) other rest id (get_or (part ∷ parts) i d)
      by true e later =
          let here : i ≡ 0 = sym first ∙ ap (λ b. cond (not b) (1 + position_or_len (has_id accesses id) parts) 0) e in
          subst (λ k. InPart what (part ∷ parts) other rest id (get_or (part ∷ parts) k d)) (sym here) (record {
            live = e;
            has = inl refl;
            access = ap (λ xs. access_in xs id) together ∙ access_in-append (accesses part) (flat_map accesses parts ++ rest) id e;
            what_is = ap (λ b. if b then what part else chosen accesses what parts other id) e;
          })
      by false e later =
          let there : i ≡ 1 + position_or_len (has_id accesses id) parts = sym first
          ∙ ap (λ b. cond (not b) (1 + position_or_len (has_id accesses id) parts) 0) e in
          let next : i ≡ suc (position_or_len (has_id accesses id) parts) = there
          ∙ (let one : 1 + position_or_len (has_id accesses id) parts ≡ suc (position_or_len (has_id accesses id) parts) = omega arith in one) in
          let h = later (omega (arith, next, within)) in
          subst (λ k. InPart what (part ∷ parts) other rest id (get_or (part ∷ parts) k d)) (sym next) (record {
            live = h.live;
            has = inr h.has;
            access = ap (λ xs. access_in xs id) together
                ∙ access_in-skip (accesses part) (flat_map accesses parts ++ rest) id e ∙ h.access;
            what_is = ap (λ b. if b then what part else chosen accesses what parts other id) e ∙ h.what_is;
          })

  -- no part has the id
  pub record InStore {A : Type 0} (what : P → A) (parts : List P) (other : A) (rest : List Access) (id : AccessId) : Type 0 where
    pub access : access_in (flat_map accesses parts ++ rest) id ≡ access_in rest id
    pub live : is_live (flat_map accesses parts ++ rest) id ≡ is_live rest id
    pub what_is : chosen accesses what parts other id ≡ other

  pub in_store : {A : Type 0} (what : P → A) (parts : List P) (other : A) (rest : List Access) (id : AccessId)
      → length parts ≤ position_or_len (has_id accesses id) parts → InStore what parts other rest id
  in_store what [] other rest id past = record { access = refl; live = refl; what_is = refl }
  in_store {A} what (part ∷ parts) other rest id past = by (has_id accesses id part) refl past (in_store what parts other rest id)
    where
      together : (flat_map accesses (part ∷ parts)) ++ rest ≡ accesses part ++ (flat_map accesses parts ++ rest)
      together = append_assoc (accesses part) (flat_map accesses parts) rest

      by : (b : Bool) → has_id accesses id part ≡ b
          → length (part ∷ parts) ≤ cond (not b) (1 + position_or_len (has_id accesses id) parts) 0
          → (length parts ≤ position_or_len (has_id accesses id) parts → InStore what parts other rest id)
          → InStore what (part ∷ parts) other rest id
      by true e le later = absurd (omega arith)
      by false e le later =
          let h = later (omega arith) in
          record {
            access = ap (λ xs. access_in xs id) together
                ∙ access_in-skip (accesses part) (flat_map accesses parts ++ rest) id e ∙ h.access;
            live = ap (λ xs. is_live xs id) together ∙ is_live-skip (accesses part) (flat_map accesses parts ++ rest) id e ∙ h.live;
            what_is = ap (λ b. if b then what part else chosen accesses what parts other id) e ∙ h.what_is;
          }

  -- ---- rows

  pub rows-at_part : (parts : List P) (other : TableRows) (i : ℕ) (d : P) → AreApart table parts → i < length parts
      → rows_with table rows parts other (table (get_or parts i d)) ≡ rows (get_or parts i d) (table (get_or parts i d))
  rows-at_part [] other i d apart within = absurd (omega arith)
  rows-at_part (part ∷ parts) other zero d apart within =
      ap (λ b. if b then rows part (table part) else rows_with table rows parts other (table part)) (eq-eqb (table part).0 (table part).0 refl)
  rows-at_part (part ∷ parts) other (suc i) d apart within =
      let own = get_or parts i d in
      ap (λ b. if b then rows part (table own) else rows_with table rows parts other (table own))
      (ne_eqb (table part).0 (table own).0 (apart 0 (suc i) d (omega arith) within))
      ∙ rows-at_part parts other i d (λ j k e less below. apart (suc j) (suc k) e (omega arith) (omega arith)) (omega arith)

  pub rows-at_store : (parts : List P) (other : TableRows) (t : TableId) → list_any (λ part. (table part).0 == t.0) parts ≡ false
      → rows_with table rows parts other t ≡ other t
  rows-at_store [] other t none = refl
  rows-at_store (part ∷ parts) other t none = by ((table part).0 == t.0) none (rows-at_store parts other t)
    where
      by : (b : Bool) → (b || list_any (λ part. (table part).0 == t.0) parts) ≡ false
          → (list_any (λ part. (table part).0 == t.0) parts ≡ false → rows_with table rows parts other t ≡ other t)
          → (if b then rows part t else rows_with table rows parts other t) ≡ other t
      by true h later = cc
      by false h later = later h

-- a constraint of the store on a table without a part
pub record IsKeptOfStore (q : Access → Bool) (own : List Access) (id : AccessId) : Type 0 where
  pub access : access_in (filter q own) id ≡ access_in own id
  pub passes : q (access_in own id) ≡ true
  pub live : is_live own id ≡ true

pub kept_of_store : (q : Access → Bool) (own : List Access) (id : AccessId) → EachIdOnce own → is_live (filter q own) id ≡ true → IsKeptOfStore q own id
kept_of_store q own id once live =
    let a = access_in (filter q own) id in
    let there = Has-from_filter q own a (access_in-member (filter q own) id live) in
    let same : access_in own id ≡ a = ap (access_in own) (sym (live_id (filter q own) id live)) ∙ found_by_id own once a there.0 in
    record {
      access = sym same;
      passes = subst (λ x. q x ≡ true) (sym same) there.1;
      live = subst (λ i. is_live own i ≡ true) (live_id (filter q own) id live) (is_live-member own a there.0);
    }

-- ---- where an id is found

pub place_some : {X : Type 0} (p : X → Bool) (xs : List X) (i : ℕ) → position p xs ≡ Some i → (position_or_len p xs ≡ i) × (i < length xs)
place_some p xs i found = by (nat_lt (position_or_len p xs) (length xs)) refl found
  where
    by : (b : Bool) → nat_lt (position_or_len p xs) (length xs) ≡ b → cond b (Some (position_or_len p xs)) None ≡ Some i
        → (position_or_len p xs ≡ i) × (i < length xs)
    by true e h = let same : position_or_len p xs ≡ i = cc in (same, subst (λ k. k < length xs) same (ltb-true (position_or_len p xs) (length xs) e))
    by false e h = cc

pub place_none : {X : Type 0} (p : X → Bool) (xs : List X) → position p xs ≡ None → length xs ≤ position_or_len p xs
place_none p xs none = by (nat_lt (position_or_len p xs) (length xs)) refl none
  where
    by : (b : Bool) → nat_lt (position_or_len p xs) (length xs) ≡ b → cond b (Some (position_or_len p xs)) None ≡ None
        → length xs ≤ position_or_len p xs
    by true e h = cc
    by false e h = ltb-false (position_or_len p xs) (length xs) e

module _ {P : Type 0} (table : P → TableId) (rows : P → TableRows) (accesses : P → List Access)
    (on_table : (p : P) → All (λ (a : Access). a.table ≡ table p) (accesses p)) where
  abbrev all_of : List P → List Access → List Access
  all_of parts own = accesses_with table accesses parts own

  -- in a port of these parts and these constraints and rows of the store
  pub record AtPart (parts : List P) (own : List Access) (other : TableRows) (id : AccessId) (part : P) : Type 0 where
    pub live : is_live (accesses part) id ≡ true
    pub access : access_in (accesses_with table accesses parts own) id ≡ access_in (accesses part) id
    pub rows_are : rows_with table rows parts other (access_in (accesses part) id).table ≡ rows part (access_in (accesses part) id).table

  pub at_part : (parts : List P) (own : List Access) (other : TableRows) (id : AccessId) (i : ℕ) (d : P) → AreApart table parts
      → position (has_id accesses id) parts ≡ Some i → AtPart parts own other id (get_or parts i d)
  at_part parts own other id i d apart found =
      let place = place_some (has_id accesses id) parts i found in
      let part = get_or parts i d in
      let h = in_part table rows accesses (λ p. true) parts true (filter (λ a. not (is_frozen table parts a)) own) id i d place.0 place.1 in
      let there = access_in-member (accesses part) id h.live in
      let on : (access_in (accesses part) id).table ≡ table part = All-contains (λ (a : Access). a.table ≡ table part) (accesses part)
      (access_in (accesses part) id) (on_table part) (Contains-from_has (accesses part) (access_in (accesses part) id) there) in
      record {
        live = h.live;
        access = h.access;
        rows_are = ap (rows_with table rows parts other) on ∙ rows-at_part table rows accesses parts other i d apart place.1 ∙ ap (rows part) (sym on);
      }

  pub chosen_at : {A : Type 0} (what : P → A) (parts : List P) (other : A) (id : AccessId) (i : ℕ) (d : P)
      → position (has_id accesses id) parts ≡ Some i → chosen accesses what parts other id ≡ what (get_or parts i d)
  chosen_at what parts other id i d found =
      let place = place_some (has_id accesses id) parts i found in
      (in_part table rows accesses what parts other [] id i d place.0 place.1).what_is

  pub chosen_none : {A : Type 0} (what : P → A) (parts : List P) (other : A) (id : AccessId)
      → position (has_id accesses id) parts ≡ None → chosen accesses what parts other id ≡ other
  chosen_none what parts other id none = (in_store table rows accesses what parts other [] id (place_none (has_id accesses id) parts none)).what_is

  pub record AtStore (parts : List P) (own : List Access) (other : TableRows) (id : AccessId) : Type 0 where
    pub live : is_live own id ≡ true
    pub access : access_in (accesses_with table accesses parts own) id ≡ access_in own id
    pub rows_are : rows_with table rows parts other (access_in own id).table ≡ other (access_in own id).table

  pub at_store : (parts : List P) (own : List Access) (other : TableRows) (id : AccessId) → EachIdOnce own
      → is_live (accesses_with table accesses parts own) id ≡ true → position (has_id accesses id) parts ≡ None → AtStore parts own other id
  at_store parts own other id once live none =
      let left = filter (λ a. not (is_frozen table parts a)) own in
      let h = in_store table rows accesses (λ p. true) parts true left id (place_none (has_id accesses id) parts none) in
      let k = kept_of_store (λ a. not (is_frozen table parts a)) own id once (sym h.live ∙ live) in
      record {
        live = k.live;
        access = h.access ∙ k.access;
        rows_are = rows-at_store table rows accesses parts other (access_in own id).table (not_true (is_frozen table parts (access_in own id)) k.passes);
      }
    where
      not_true : (b : Bool) → not b ≡ true → b ≡ false
      not_true true h = cc
      not_true false h = refl

  -- ---- what hits stand for

  pub stands_from : (stands : P → Type 0) (parts : List P) (other : Type 0) (id : AccessId) (i : ℕ) (d : P)
      → position_or_len (has_id accesses id) parts ≡ i → i < length parts → stands (get_or parts i d) → StandsWith accesses stands parts other id
  stands_from stands [] other id i d first within h = absurd (omega arith)
  stands_from stands (part ∷ parts) other id i d first within h =
      by (has_id accesses id part) refl (λ own. stands_from stands parts other id (position_or_len (has_id accesses id) parts) d refl own)
    where
      by : (b : Bool) → has_id accesses id part ≡ b
          → (position_or_len (has_id accesses id) parts < length parts → stands (get_or parts (position_or_len (has_id accesses id) parts) d)
          → StandsWith accesses stands parts other id)
          → Where b (stands part) (StandsWith accesses stands parts other id)
      by true e later =
          let here : i ≡ 0 = sym first ∙ ap (λ b. cond (not b) (1 + position_or_len (has_id accesses id) parts) 0) e in
          subst (λ k. stands (get_or (part ∷ parts) k d)) here h
      by false e later =
          let there : i ≡ 1 + position_or_len (has_id accesses id) parts = sym first
          ∙ ap (λ b. cond (not b) (1 + position_or_len (has_id accesses id) parts) 0) e in
          let next : i ≡ suc (position_or_len (has_id accesses id) parts) = there
          ∙ (let one : 1 + position_or_len (has_id accesses id) parts ≡ suc (position_or_len (has_id accesses id) parts) = omega arith in one) in
          later (omega (arith, next, within)) (subst (λ k. stands (get_or (part ∷ parts) k d)) next h)

  pub stands_to : (stands : P → Type 0) (parts : List P) (other : Type 0) (id : AccessId) (i : ℕ) (d : P)
      → position_or_len (has_id accesses id) parts ≡ i → i < length parts → StandsWith accesses stands parts other id → stands (get_or parts i d)
  stands_to stands [] other id i d first within h = absurd (omega arith)
  stands_to stands (part ∷ parts) other id i d first within h =
      by (has_id accesses id part) refl (λ own. stands_to stands parts other id (position_or_len (has_id accesses id) parts) d refl own) h
    where
      by : (b : Bool) → has_id accesses id part ≡ b
          → (position_or_len (has_id accesses id) parts < length parts → StandsWith accesses stands parts other id
          → stands (get_or parts (position_or_len (has_id accesses id) parts) d))
          → Where b (stands part) (StandsWith accesses stands parts other id) → stands (get_or (part ∷ parts) i d)
      by true e later own =
          let here : i ≡ 0 = sym first ∙ ap (λ b. cond (not b) (1 + position_or_len (has_id accesses id) parts) 0) e in
          subst (λ k. stands (get_or (part ∷ parts) k d)) (sym here) own
      by false e later own =
          let there : i ≡ 1 + position_or_len (has_id accesses id) parts = sym first
          ∙ ap (λ b. cond (not b) (1 + position_or_len (has_id accesses id) parts) 0) e in
          let next : i ≡ suc (position_or_len (has_id accesses id) parts) = there
          ∙ (let one : 1 + position_or_len (has_id accesses id) parts ≡ suc (position_or_len (has_id accesses id) parts) = omega arith in one) in
          subst (λ k. stands (get_or (part ∷ parts) k d)) (sym next) (later (omega (arith, next, within)) own)

  pub group_at : (parts : List P) (own : List Access) (other : TableRows) (id : AccessId) (part : P) (key : Row) → AtPart parts own other id part
      → group_of (rows part (access_in (accesses part) id).table) (access_in (accesses part) id) key
      ≡ group_of (rows_with table rows parts other (access_in (accesses_with table accesses parts own) id).table)
      (access_in (accesses_with table accesses parts own) id) key
  group_at parts own other id part key h =
      ap (λ rs. group_of rs (access_in (accesses part) id) key) (sym h.rows_are)
      ∙ ap (λ (a : Access). group_of (rows_with table rows parts other a.table) a key) (sym h.access)

  pub group_in_store : (parts : List P) (own : List Access) (other : TableRows) (id : AccessId) (key : Row) → AtStore parts own other id
      → group_of (other (access_in own id).table) (access_in own id) key
      ≡ group_of (rows_with table rows parts other (access_in (accesses_with table accesses parts own) id).table)
      (access_in (accesses_with table accesses parts own) id) key
  group_in_store parts own other id key h =
      ap (λ rs. group_of rs (access_in own id) key) (sym h.rows_are)
      ∙ ap (λ (a : Access). group_of (rows_with table rows parts other a.table) a key) (sym h.access)

  pub holds_at : (parts : List P) (own : List Access) (other : TableRows) (id : AccessId) (part : P) (r : Access) → AtPart parts own other id part
      → r ≡ access_in (accesses part) id → Holds (rows part r.table) r → Holds (rows_with table rows parts other r.table) r
  holds_at parts own other id part r h is holds =
      let same = subst (λ (a : Access). rows_with table rows parts other a.table ≡ rows part a.table) (sym is) h.rows_are in
      subst (λ rs. Holds rs r) (sym same) holds

  pub holds_in_store : (parts : List P) (own : List Access) (other : TableRows) (id : AccessId) (r : Access) → AtStore parts own other id
      → r ≡ access_in own id → Holds (other r.table) r → Holds (rows_with table rows parts other r.table) r
  holds_in_store parts own other id r h is holds =
      let same = subst (λ (a : Access). rows_with table rows parts other a.table ≡ other a.table) (sym is) h.rows_are in
      subst (λ rs. Holds rs r) (sym same) holds

  pub stands_in_store : (stands : P → Type 0) (parts : List P) (other : Type 0) (id : AccessId)
      → length parts ≤ position_or_len (has_id accesses id) parts → other → StandsWith accesses stands parts other id
  stands_in_store stands [] other id past h = h
  stands_in_store stands (part ∷ parts) other id past h =
      by (has_id accesses id part) past (λ later. stands_in_store stands parts other id later h)
    where
      by : (b : Bool) → length (part ∷ parts) ≤ cond (not b) (1 + position_or_len (has_id accesses id) parts) 0
          → (length parts ≤ position_or_len (has_id accesses id) parts → StandsWith accesses stands parts other id)
          → Where b (stands part) (StandsWith accesses stands parts other id)
      by true le later = absurd (omega arith)
      by false le later = later (omega arith)

  pub stands_of_store : (stands : P → Type 0) (parts : List P) (other : Type 0) (id : AccessId)
      → length parts ≤ position_or_len (has_id accesses id) parts → StandsWith accesses stands parts other id → other
  stands_of_store stands [] other id past h = h
  stands_of_store stands (part ∷ parts) other id past h =
      by (has_id accesses id part) past (λ later. stands_of_store stands parts other id later) h
    where
      by : (b : Bool) → length (part ∷ parts) ≤ cond (not b) (1 + position_or_len (has_id accesses id) parts) 0
          → (length parts ≤ position_or_len (has_id accesses id) parts → StandsWith accesses stands parts other id → other)
          → Where b (stands part) (StandsWith accesses stands parts other id) → other
      by true le later own = absurd (omega arith)
      by false le later own = later (omega arith) own

  pub value-at : (parts : List P) (own : List Access) (other : TableRows) (id : AccessId) (part : P) (v : Value) (i : ℕ) (column : ColumnId)
      (mine all : List Row) → AtPart parts own other id part → all ≡ mine
      → v ≡ value_in (member_columns (access_in (accesses part) id)) (get_or mine i []) column
      → v ≡ value_in (member_columns (access_in (accesses_with table accesses parts own) id)) (get_or all i []) column
  value-at parts own other id part v i column mine all h same is =
      is ∙ ap (λ (a : Access). value_in (member_columns a) (get_or mine i []) column) (sym h.access)
      ∙ ap (λ ms. value_in (member_columns (access_in (accesses_with table accesses parts own) id)) (get_or ms i []) column) (sym same)

  pub value-in_store : (parts : List P) (own : List Access) (other : TableRows) (id : AccessId) (v : Value) (i : ℕ) (column : ColumnId)
      (mine all : List Row) → AtStore parts own other id → all ≡ mine
      → v ≡ value_in (member_columns (access_in own id)) (get_or mine i []) column
      → v ≡ value_in (member_columns (access_in (accesses_with table accesses parts own) id)) (get_or all i []) column
  value-in_store parts own other id v i column mine all h same is =
      is ∙ ap (λ (a : Access). value_in (member_columns a) (get_or mine i []) column) (sym h.access)
      ∙ ap (λ ms. value_in (member_columns (access_in (accesses_with table accesses parts own) id)) (get_or ms i []) column) (sym same)
