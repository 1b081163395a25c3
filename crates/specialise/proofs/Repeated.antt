-- What is answered of a block is the same where constraints that are alike stand once.
use Rattle.std.proofs.Common.{◌≡◌, ◌==◌, ◌&&◌, ◌||◌, ◌<◌, ◌+◌, ◌≤◌, ℕ, zero, suc, Bool, true, false, not, cond, nat_lt, List, [], ◌∷◌, ◌++◌, length, map, take, get_or, Option, Some, Result, Ok, Err, ◌⊎◌, inl, inr, refl, ap, sym, ◌∙◌, subst, add-one}
use Rattle.std.specs.List.{Contains, filter, find, flat_map, enumerate_from, list_any, list_all, range_with_len}
use Rattle.std.specs.Option.{option_map}
use Rattle.std.proofs.Math.Seq.{take-suc}
use Rattle.std.proofs.lemmas.Bool.{eqb-true}
use Rattle.std.proofs.lemmas.List.{take_all}
use Rattle.std.specs.Prelude.{pos}
use Rattle.beas_core.specs.declared.plan.Normal.{Normal}
use Rattle.beas_core.specs.declared.query.Atom.{Atom}
use Rattle.beas_core.specs.declared.query.Block.{Block}
use Rattle.beas_core.specs.declared.query.Place.{Place}
use Rattle.beas_core.specs.declared.refusal.Refusal.{Refusal}
use Rattle.beas_core.specs.declared.refusal.Refusal.TheVariants.{TooManyCandidates}
use Rattle.beas_core.specs.declared.schema.Access.{Access}
use Rattle.beas_core.specs.declared.schema.ColumnId.{ColumnId}
use Rattle.beas_core.specs.declared.value.Value.TheVariants.{Int}
use Rattle.beas_core.specs.Classes.{normal_of}
use Rattle.beas_core.specs.Coverage.{atoms_of, class_at, constant_classes, covered_set, grow, grow_times, has, holds_classes, is_covered, is_open, is_served, key_classes, needed_of, needed_places, own_cover, own_is_covered, place_class, uses}
use Rattle.beas_core.specs.Groups.{has_column}
use Rattle.beas_core.specs.Types.{ClassSet, Use}
use Rattle.beas_core.proofs.Sets.{Has, Has-append_left, Has-append_right, Has-append_cases, Has-filter, Has-from_filter, Has-map, Has-from_map, Has-from_contains, Contains-from_has}
use Rattle.beas_core.proofs.MemberTests.{Has-flat_map, Has-from_flat_map, any_by, any_has}
use Rattle.beas_core.proofs.UseFacts.{same_number}
use Rattle.specialise.specs.Alike.{AreAlike, IsStoodFor, StandFor}
use Rattle.specialise.specs.Specialised.{candidates, first_place, first_set, is_covered_with, open_classes, sets_of, specialised, with_constants}

-- ---- tests over lists

both : (x y : Bool) → (x ≡ true → y ≡ true) → (y ≡ true → x ≡ true) → x ≡ y
both true y f g = sym (f refl)
both false true f g = g refl
both false false f g = refl

map_same : {A B : Type 0} (f g : A → B) → ((x : A) → f x ≡ g x) → (xs : List A) → map f xs ≡ map g xs
map_same f g e [] = refl
map_same f g e (x ∷ xs) = ap (λ y. y ∷ map f xs) (e x) ∙ ap (λ ys. g x ∷ ys) (map_same f g e xs)

filter_same : {A : Type 0} (p q : A → Bool) → ((x : A) → p x ≡ q x) → (xs : List A) → filter p xs ≡ filter q xs
filter_same p q e [] = refl
filter_same p q e (x ∷ xs) =
    ap (λ b. cond b (x ∷ filter p xs) (filter p xs)) (e x) ∙ ap (λ ys. cond (q x) (x ∷ ys) ys) (filter_same p q e xs)

find_same : {A : Type 0} (p q : A → Bool) → ((x : A) → p x ≡ q x) → (xs : List A) → find p xs ≡ find q xs
find_same p q e [] = refl
find_same p q e (x ∷ xs) = ap (λ b. cond b (Some x) (find p xs)) (e x) ∙ ap (λ o. cond (q x) (Some x) o) (find_same p q e xs)

all_same : {A : Type 0} (p q : A → Bool) → ((x : A) → p x ≡ q x) → (xs : List A) → list_all p xs ≡ list_all q xs
all_same p q e [] = refl
all_same p q e (x ∷ xs) = ap (λ b. b && list_all p xs) (e x) ∙ ap (λ b. q x && b) (all_same p q e xs)

or_assoc : (a b c : Bool) → ((a || b) || c) ≡ (a || (b || c))
or_assoc true b c = refl
or_assoc false b c = refl

any_append : {A : Type 0} (p : A → Bool) (xs ys : List A) → list_any p (xs ++ ys) ≡ (list_any p xs || list_any p ys)
any_append p [] ys = refl
any_append p (x ∷ xs) ys = ap (λ b. p x || b) (any_append p xs ys) ∙ sym (or_assoc (p x) (list_any p xs) (list_any p ys))

any_flat : {A B : Type 0} (p : B → Bool) (f : A → List B) (xs : List A) → list_any p (flat_map f xs) ≡ list_any (λ x. list_any p (f x)) xs
any_flat p f [] = refl
any_flat p f (x ∷ xs) = any_append p (f x) (flat_map f xs) ∙ ap (λ b. list_any p (f x) || b) (any_flat p f xs)

-- ---- uses

made : ℕ → Access → Use
made atom access = record { atom = atom; access = access }

-- another constraint on the same table is used on the same atom
moved : (normal : Normal) (few all : List Access) (u : Use) → Has (uses normal few) u → (b : Access) → Has all b → b.table.0 ≡ u.access.table.0
    → Has (uses normal all) (record { atom = u.atom; access = b })
moved normal few all u h b m e =
    let on : List Access → ℕ × Atom → List Use =
    λ accesses a. map (λ access. record { atom = a.0; access = access }) (filter (λ access. access.table.0 == a.1.table.0) accesses) in
    let r = Has-from_flat_map (on few) (enumerate_from 0 normal.atoms) u h in
    let k = Has-from_map (λ (access : Access). record { atom = r.0.0; access = access }) (filter (λ access. access.table.0 == r.0.1.table.0) few) u r.2 in
    let f = Has-from_filter (λ access. access.table.0 == r.0.1.table.0) few k.0 k.1 in
    let table : b.table.0 ≡ r.0.1.table.0 = e ∙ ap (λ (v : Use). v.access.table.0) k.2 ∙ eqb-true k.0.table.0 r.0.1.table.0 f.1 in
    let there = Has-map (λ (access : Access). record { atom = r.0.0; access = access }) (filter (λ access. access.table.0 == r.0.1.table.0) all) b
    (Has-filter (λ access. access.table.0 == r.0.1.table.0) all b m (same_number b.table.0 r.0.1.table.0 table)) in
    let atom : u.atom ≡ r.0.0 = ap (λ (v : Use). v.atom) k.2 in
    subst (λ (n : ℕ). Has (uses normal all) (record { atom = n; access = b })) (sym atom) (Has-flat_map (on all) (enumerate_from 0 normal.atoms) r.0
    (record { atom = r.0.0; access = b }) r.1 there)

own_access : (normal : Normal) (accesses : List Access) (u : Use) → Has (uses normal accesses) u → Has accesses u.access
own_access normal accesses u h =
    let on : ℕ × Atom → List Use =
    λ a. map (λ access. record { atom = a.0; access = access }) (filter (λ access. access.table.0 == a.1.table.0) accesses) in
    let r = Has-from_flat_map on (enumerate_from 0 normal.atoms) u h in
    let k = Has-from_map (λ (access : Access). record { atom = r.0.0; access = access }) (filter (λ access. access.table.0 == r.0.1.table.0) accesses) u r.2 in
    let f = Has-from_filter (λ access. access.table.0 == r.0.1.table.0) accesses k.0 k.1 in
    subst (Has accesses) (sym (ap (λ (v : Use). v.access) k.2)) f.0

-- ---- what a few that stand for all cover

module _ (few all : List Access) (stand : StandFor few all) where
  abbrev Passes : (ℕ → List ColumnId → List ColumnId → Bool) → Use → Bool
  Passes test u = test u.atom u.access.key u.access.fetched

  there : (normal : Normal) (test : ℕ → List ColumnId → List ColumnId → Bool) → list_any (Passes test) (uses normal few) ≡ true
      → list_any (Passes test) (uses normal all) ≡ true
  there normal test h =
      let r = any_has (Passes test) (uses normal few) h in
      let m = Has-from_contains all r.0.access (stand.within r.0.access (Contains-from_has few r.0.access (own_access normal few r.0 r.1))) in
      any_by (Passes test) (uses normal all) (record { atom = r.0.atom; access = r.0.access }) (moved normal few all r.0 r.1 r.0.access m refl) r.2

  back : (normal : Normal) (test : ℕ → List ColumnId → List ColumnId → Bool) → list_any (Passes test) (uses normal all) ≡ true
      → list_any (Passes test) (uses normal few) ≡ true
  back normal test h =
      let r = any_has (Passes test) (uses normal all) h in
      let s = stand.each r.0.access (Contains-from_has all r.0.access (own_access normal all r.0 r.1)) in
      let m = moved normal all few r.0 r.1 s.by (Has-from_contains few s.by s.among) s.alike.table in
      any_by (Passes test) (uses normal few) (record { atom = r.0.atom; access = s.by }) m
      (ap (λ key. test r.0.atom key s.by.fetched) s.alike.key ∙ ap (test r.0.atom r.0.access.key) s.alike.fetched ∙ r.2)

  -- a test of atom, key and fetched columns
  any_same : (normal : Normal) (test : ℕ → List ColumnId → List ColumnId → Bool)
      → list_any (Passes test) (uses normal few) ≡ list_any (Passes test) (uses normal all)
  any_same normal test = both (list_any (Passes test) (uses normal few)) (list_any (Passes test) (uses normal all)) (there normal test) (back normal test)

  module _ (normal : Normal) where
    grow_same : (set : ClassSet) → grow normal few set ≡ grow normal all set
    grow_same set = map_same
        (λ c. has set c || list_any (λ u. holds_classes set (map (class_at normal u.atom) u.access.key)
        && list_any (λ d. d == c) (map (class_at normal u.atom) u.access.fetched)) (uses normal few))
        (λ c. has set c || list_any (λ u. holds_classes set (map (class_at normal u.atom) u.access.key)
        && list_any (λ d. d == c) (map (class_at normal u.atom) u.access.fetched)) (uses normal all))
        (λ c. ap (λ b. has set c || b) (any_same normal (λ atom key fetched. holds_classes set (map (class_at normal atom) key)
        && list_any (λ d. d == c) (map (class_at normal atom) fetched))))
        (range_with_len 0 normal.count)

    grown_same : (n : ℕ) (set : ClassSet) → grow_times n normal few set ≡ grow_times n normal all set
    grown_same zero set = refl
    grown_same (suc n) set = grow_same (grow_times n normal few set) ∙ ap (grow normal all) (grown_same n set)

    cover_same : own_cover normal few ≡ own_cover normal all
    unfolding covered_set
    cover_same = grown_same normal.count (constant_classes normal)

    served_same : (set : ClassSet) (atom : ℕ) → is_served normal few set atom ≡ is_served normal all set atom
    served_same set atom = any_same normal (λ n key fetched. (n == atom)
        && (holds_classes set (map (class_at normal n) key) && list_all (has_column (key ++ fetched)) (needed_of normal n)))

    covered_same : (set : ClassSet) → is_covered normal few set ≡ is_covered normal all set
    unfolding is_covered
    covered_same set = ap (λ b. not (list_any (is_open normal set) (needed_places normal)) && b)
        (all_same (is_served normal few set) (is_served normal all set) (served_same set) (atoms_of normal))

    own_same : own_is_covered normal few ≡ own_is_covered normal all
    own_same = ap (is_covered normal few) cover_same ∙ covered_same (own_cover normal all)

    asked_same : (c : ℕ) → list_any (λ d. d == c) (map (place_class normal) (needed_places normal) ++ flat_map (key_classes normal) (uses normal few))
        ≡ list_any (λ d. d == c) (map (place_class normal) (needed_places normal) ++ flat_map (key_classes normal) (uses normal all))
    asked_same c =
        let needed = map (place_class normal) (needed_places normal) in
        any_append (λ d. d == c) needed (flat_map (key_classes normal) (uses normal few))
        ∙ ap (λ b. list_any (λ d. d == c) needed || b) (any_flat (λ d. d == c) (key_classes normal) (uses normal few)
        ∙ any_same normal (λ atom key fetched. list_any (λ d. d == c) (map (class_at normal atom) key))
        ∙ sym (any_flat (λ d. d == c) (key_classes normal) (uses normal all)))
        ∙ sym (any_append (λ d. d == c) needed (flat_map (key_classes normal) (uses normal all)))

    open_same : open_classes normal few ≡ open_classes normal all
    open_same = filter_same
        (λ c. not (has (own_cover normal few) c)
        && list_any (λ d. d == c) (map (place_class normal) (needed_places normal) ++ flat_map (key_classes normal) (uses normal few)))
        (λ c. not (has (own_cover normal all) c)
        && list_any (λ d. d == c) (map (place_class normal) (needed_places normal) ++ flat_map (key_classes normal) (uses normal all)))
        (λ c. ap (λ b. not (has (own_cover normal few) c) && b) (asked_same c)
        ∙ ap (λ set. not (has set c)
        && list_any (λ d. d == c) (map (place_class normal) (needed_places normal) ++ flat_map (key_classes normal) (uses normal all))) cover_same)
        (range_with_len 0 normal.count)

  first_same : (block : Block) → first_set few block ≡ first_set all block
  first_same block =
      ap (λ cs. find (is_covered_with few block) (sets_of cs)) (open_same (normal_of block))
      ∙ find_same (is_covered_with few block) (is_covered_with all block)
      (λ set. own_same (normal_of (with_constants block (map (λ c. (c, Int (pos 0))) set)))) (sets_of (candidates all block))

  abbrev Answer : Block → Bool → List ℕ → Option (List ℕ) → Result (Option (List Place)) Refusal
  Answer block covered found first =
      cond (not covered && nat_lt 16 (length found)) (Err (TooManyCandidates (length found))) (Ok (option_map (map (first_place block)) first))

  pub specialised_same : (block : Block) → specialised few block ≡ specialised all block
  specialised_same block =
      let normal = normal_of block in
      ap (λ b. Answer block b (candidates few block) (first_set few block)) (own_same normal)
      ∙ ap (λ cs. Answer block (own_is_covered normal all) cs (first_set few block)) (open_same normal)
      ∙ ap (Answer block (own_is_covered normal all) (candidates all block)) (first_same block)

-- ---- how the few are found

module _ (few accesses : List Access) (i : ℕ) (d : Access) (l : i < length accesses) (stand : StandFor few (take i accesses)) where
  abbrev x : Access
  x = get_or accesses i d

  abbrev before : List Access
  before = take i accesses

  longer : take (i + 1) accesses ≡ before ++ x ∷ []
  longer = ap (λ k. take k accesses) (add-one i) ∙ take-suc accesses i d l

  earlier : (a : Access) → Contains before a → Contains (before ++ x ∷ []) a
  earlier a h = Contains-from_has (before ++ x ∷ []) a (Has-append_left before (x ∷ []) a (Has-from_contains before a h))

  kept : IsStoodFor few x → StandFor few (before ++ x ∷ [])
  kept s = record {
    within = λ a h. earlier a (stand.within a h);
    each = λ a h. elim (Has-append_cases before (x ∷ []) a (Has-from_contains (before ++ x ∷ []) a h)) [
      | inl m ↦ stand.each a (Contains-from_has before a m)
      | inr m ↦ elim m [
        | inl e ↦ subst (IsStoodFor few) (sym e) s
        | inr n ↦ absurd n
      ]
    ];
  }

  wider : (a : Access) → IsStoodFor few a → IsStoodFor (few ++ x ∷ []) a
  wider a s = record {
    by = s.by;
    among = Contains-from_has (few ++ x ∷ []) s.by (Has-append_left few (x ∷ []) s.by (Has-from_contains few s.by s.among));
    alike = s.alike;
  }

  itself : IsStoodFor (few ++ x ∷ []) x
  itself = record {
    by = x;
    among = Contains-from_has (few ++ x ∷ []) x (Has-append_right few (x ∷ []) x (inl refl));
    alike = record { table = refl; key = refl; fetched = refl };
  }

  pushed : StandFor (few ++ x ∷ []) (before ++ x ∷ [])
  pushed = record {
    within = λ a h. elim (Has-append_cases few (x ∷ []) a (Has-from_contains (few ++ x ∷ []) a h)) [
      | inl m ↦ earlier a (stand.within a (Contains-from_has few a m))
      | inr m ↦ Contains-from_has (before ++ x ∷ []) a (Has-append_right before (x ∷ []) a m)
    ];
    each = λ a h. elim (Has-append_cases before (x ∷ []) a (Has-from_contains (before ++ x ∷ []) a h)) [
      | inl m ↦ wider a (stand.each a (Contains-from_has before a m))
      | inr m ↦ elim m [
        | inl e ↦ subst (IsStoodFor (few ++ x ∷ [])) (sym e) itself
        | inr n ↦ absurd n
      ]
    ];
  }

  pub stood_more : (new : List Access) → ((new ≡ few) × IsStoodFor few (get_or accesses i d)) ⊎ (new ≡ few ++ get_or accesses i d ∷ [])
      → StandFor new (take (i + 1) accesses)
  stood_more new how = subst (StandFor new) (sym longer) (elim how [
    | inl k ↦ subst (λ xs. StandFor xs (before ++ x ∷ [])) (sym k.0) (kept k.1)
    | inr k ↦ subst (λ xs. StandFor xs (before ++ x ∷ [])) (sym k) pushed
  ])

pub stood_none : StandFor [] []
stood_none = record {
  within = λ a h. h;
  each = λ a h. absurd (Has-from_contains [] a h);
}

pub stood_all : (few accesses : List Access) (i : ℕ) → length accesses ≤ i → StandFor few (take i accesses) → StandFor few accesses
stood_all few accesses i l stand = subst (StandFor few) (take_all i accesses l) stand

-- one of the first few is one of them
pub stood_wider : (few : List Access) (n : ℕ) (a : Access) → IsStoodFor (take n few) a → IsStoodFor few a
stood_wider few n a s = record {
  by = s.by;
  among = Contains-from_has few s.by (of_take few n s.by (Has-from_contains (take n few) s.by s.among));
  alike = s.alike;
}
  where
    of_take : (xs : List Access) (k : ℕ) (y : Access) → Has (take k xs) y → Has xs y
    of_take xs zero y h = absurd h
    of_take [] (suc k) y h = absurd h
    of_take (x ∷ xs) (suc k) y (inl e) = inl e
    of_take (x ∷ xs) (suc k) y (inr h) = inr (of_take xs k y h)

pub stood_by : (few : List Access) (i : ℕ) (other a : Access) → i < length few → other ≡ get_or few i other → AreAlike other a → IsStoodFor few a
stood_by few i other a l e alike = record { by = other; among = (i, l, sym e); alike = alike }
