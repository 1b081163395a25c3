-- The constraints on the tables of some atoms.
use Rattle.std.proofs.Common.{◌≡◌, ◌≢◌, ◌==◌, ◌<◌, ◌+◌, ℕ, Bool, true, false, cond, List, [], ◌∷◌, ◌++◌, length, map, take, get_or, inl, inr, refl, ap, sym, ◌∙◌, subst, arith, eq-eqb, append_assoc, add-one, ◌≤◌}
use Rattle.std.specs.Prelude.{fold}
use Rattle.std.specs.List.{Contains, filter, flat_map, enumerate_from, list_any}
use Rattle.std.proofs.lemmas.Bool.{eqb-true}
use Rattle.std.proofs.Math.Seq.{take-suc, take-length}
use Rattle.std.proofs.lemmas.List.{append-nil, get_or-map, length-map, take_all}
use Rattle.std.proofs.lemmas.List.Elements.{All-from_recursion, filter-append}
use Rattle.std.proofs.lemmas.List.Kept.{AllPairs-cons, AllPairs-filter}
use Rattle.beas_core.specs.declared.query.Atom.{Atom}
use Rattle.beas_core.specs.declared.plan.Normal.{Normal}
use Rattle.beas_core.specs.declared.schema.Access.{Access}
use Rattle.beas_core.specs.declared.schema.AccessId.{AccessId}
use Rattle.beas_core.specs.declared.schema.TableId.{TableId}
use Rattle.beas_core.specs.Coverage.{uses}
use Rattle.beas_core.specs.Derivations.{access_in}
use Rattle.beas_core.specs.Shapes.{EachIdOnce}
use Rattle.beas_core.specs.Types.{Use}
use Rattle.beas_core.proofs.Accesses.{is_live-member}
use Rattle.beas_core.proofs.Sets.{Has, Has-append_cases, Has-from_filter, Has-from_contains, Has-get_or, Contains-from_has, all_from}
use Rattle.beas_core.proofs.MemberTests.{any_has, none_has, first_of_pairs, rest_of_pairs, which}
use Rattle.beas_core.proofs.UseFacts.{found_by_id}
use Rattle.catalogue.specs.Kept.{ids_on}
use Rattle.catalogue.specs.Schema.{access_with_id, accesses_on}
use Rattle.plan_builder.specs.Own.{own_accesses, with_table}

-- ---- filters

none_left : {A : Type 0} (p : A → Bool) (xs : List A) → ((y : A) → Has xs y → p y ≡ false) → filter p xs ≡ []
none_left p [] h = refl
none_left {A} p (x ∷ xs) h = ap (λ b. cond b (x ∷ filter p xs) (filter p xs)) (h x (inl refl)) ∙ none_left p xs (λ y m. h y (inr m))

all_left : {A : Type 0} (p : A → Bool) (xs : List A) → ((y : A) → Has xs y → p y ≡ true) → filter p xs ≡ xs
all_left p [] h = refl
all_left {A} p (x ∷ xs) h = ap (λ b. cond b (x ∷ filter p xs) (filter p xs)) (h x (inl refl)) ∙ ap (λ ys. x ∷ ys) (all_left p xs (λ y m. h y (inr m)))

apart : (x y t : ℕ) → (x == t) ≡ true → (y == t) ≡ false → (x == y) ≡ false
apart x y t e f = elim (which (x == y)) [
  | inl g ↦ (let h = eq-eqb y t (sym (eqb-true x y g) ∙ eqb-true x t e) in cc)
  | inr g ↦ g
]

-- those on a table, by its number
abbrev on : ℕ → List Access → List Access
on t accesses = filter (λ a. a.table.0 == t) accesses

abbrev made : ℕ → Access → Use
made atom access = record { atom = atom; access = access }

abbrev Apart : Access → Access → Type 0
Apart a b = a.id.0 ≢ b.id.0

joined_once : (xs ys : List Access) → EachIdOnce xs → EachIdOnce ys → ((x y : Access) → Has xs x → Has ys y → Apart x y) → EachIdOnce (xs ++ ys)
joined_once [] ys a b h = b
joined_once (x ∷ xs) ys a b h = AllPairs-cons Apart x (xs ++ ys)
    (All-from_recursion (Apart x) (xs ++ ys) (all_from (Apart x) (xs ++ ys) (λ y m. elim (Has-append_cases xs ys y m) [
      | inl k ↦ first_of_pairs Apart x xs a y k
      | inr k ↦ h x y (inl refl) k
    ])))
    (joined_once xs ys (rest_of_pairs Apart x xs a) b (λ z y m k. h z y (inr m) k))

-- some of the constraints, all of those on a table that one of them is on
record Takes (many own : List Access) : Type 0 where
  once : EachIdOnce own
  within : (a : Access) → Has own a → Has many a
  whole : (a : Access) → Has own a → on a.table.0 own ≡ on a.table.0 many

-- ---- one atom more

module _ (many : List Access) (once : EachIdOnce many) (own : List Access) (takes : Takes many own) (table : ℕ)
    (lacks : list_any (λ a. a.table.0 == table) own ≡ false) where
  elsewhere : (a : Access) → Has own a → (a.table.0 == table) ≡ false
  elsewhere a m = none_has (λ b. b.table.0 == table) own a lacks m

  there : (a : Access) → Has (on table many) a → (a.table.0 == table) ≡ true
  there a m = (Has-from_filter (λ b. b.table.0 == table) many a m).1

  different : (x y : Access) → Has own x → Has (on table many) y → Apart x y
  different x y m k e =
      let f = Has-from_filter (λ b. b.table.0 == table) many y k in
      let same : x ≡ y = sym (found_by_id many once x (takes.within x m)) ∙ ap (λ n. access_in many (record { 0 = n })) e ∙ found_by_id many once y f.0 in
      let out : (y.table.0 == table) ≡ false = subst (λ (z : Access). (z.table.0 == table) ≡ false) same (elsewhere x m) in
      let in_it : (y.table.0 == table) ≡ true = f.1 in
      cc

  here : on table (own ++ on table many) ≡ on table many
  here =
      filter-append (λ a. a.table.0 == table) own (on table many)
      ∙ ap (λ xs. xs ++ on table (on table many)) (none_left (λ a. a.table.0 == table) own elsewhere)
      ∙ all_left (λ a. a.table.0 == table) (on table many) there

  others : (t : ℕ) → (t == table) ≡ false → on t (own ++ on table many) ≡ on t own
  others t e =
      filter-append (λ a. a.table.0 == t) own (on table many)
      ∙ ap (λ xs. on t own ++ xs) (none_left (λ a. a.table.0 == t) (on table many) (λ a m. apart a.table.0 t table (there a m) e))
      ∙ append-nil (on t own)

  more_taken : Takes many (own ++ on table many)
  more_taken = record {
    once = joined_once own (on table many) takes.once (AllPairs-filter Apart (λ a. a.table.0 == table) many once) different;
    within = λ a m. elim (Has-append_cases own (on table many) a m) [
      | inl k ↦ takes.within a k
      | inr k ↦ (Has-from_filter (λ b. b.table.0 == table) many a k).0
    ];
    whole = λ a m. elim (Has-append_cases own (on table many) a m) [
      | inl k ↦ others a.table.0 (elsewhere a k) ∙ takes.whole a k
      | inr k ↦ subst (λ n. on n (own ++ on table many) ≡ on n many) (sym (eqb-true a.table.0 table (there a k))) here
    ];
  }

  -- a table whose constraints were all there has them all still
  still_whole : (t : ℕ) → on t own ≡ on t many → on t (own ++ on table many) ≡ on t many
  still_whole t e = elim (which (t == table)) [
    | inl same ↦ subst (λ n. on n (own ++ on table many) ≡ on n many) (sym (eqb-true t table same)) here
    | inr other ↦ others t other ∙ e
  ]

module _ (many : List Access) (once : EachIdOnce many) where
  record Turn (own new : List Access) (table : ℕ) : Type 0 where
    takes : Takes many new
    here : on table new ≡ on table many
    still : (t : ℕ) → on t own ≡ on t many → on t new ≡ on t many

  turn : (own : List Access) (atom : Atom) → Takes many own → Turn own (with_table many own atom) atom.table.0
  turn own atom takes = by (list_any (λ a. a.table.0 == atom.table.0) own) refl
    where
      by : (b : Bool) → list_any (λ a. a.table.0 == atom.table.0) own ≡ b → Turn own (cond b own (own ++ accesses_on many atom.table)) atom.table.0
      by true e =
          let r = any_has (λ a. a.table.0 == atom.table.0) own e in
          record {
            takes = takes;
            here = subst (λ n. on n own ≡ on n many) (eqb-true r.0.table.0 atom.table.0 r.2) (takes.whole r.0 r.1);
            still = λ t h. h;
          }
      by false e = record {
        takes = more_taken many once own takes atom.table.0 e;
        here = here many once own takes atom.table.0 e;
        still = still_whole many once own takes atom.table.0 e;
      }

  record All_taken (atoms : List Atom) (own new : List Access) : Type 0 where
    takes : Takes many new
    still : (t : ℕ) → on t own ≡ on t many → on t new ≡ on t many
    each : (a : Atom) → Has atoms a → on a.table.0 new ≡ on a.table.0 many

  all_taken : (atoms : List Atom) (own : List Access) → Takes many own → All_taken atoms own (fold (with_table many) own atoms)
  all_taken [] own takes = record { takes = takes; still = λ t h. h; each = λ a m. absurd m }
  all_taken (atom ∷ atoms) own takes =
      let one = turn own atom takes in
      let rest = all_taken atoms (with_table many own atom) one.takes in
      record {
        takes = rest.takes;
        still = λ t h. rest.still t (one.still t h);
        each = λ a m. elim m [
          | inl e ↦ subst (λ n. on n (fold (with_table many) (with_table many own atom) atoms) ≡ on n many) (ap (λ (x : Atom). x.table.0) (sym e))
              (rest.still atom.table.0 one.here)
          | inr k ↦ rest.each a k
        ];
      }

  nothing_taken : Takes many []
  nothing_taken = record { once = λ i j d l m. absurd (omega (arith, m)); within = λ a m. absurd m; whole = λ a m. absurd m }

  pub own_once : (atoms : List Atom) → EachIdOnce (own_accesses many atoms)
  own_once atoms = (all_taken atoms [] nothing_taken).takes.once

  pub own_within : (atoms : List Atom) (access : Access) → Contains (own_accesses many atoms) access → Contains many access
  own_within atoms access h = Contains-from_has many access
      ((all_taken atoms [] nothing_taken).takes.within access (Has-from_contains (own_accesses many atoms) access h))

  numbered_atom : (n : ℕ) (atoms : List Atom) (a : ℕ × Atom) → Has (enumerate_from n atoms) a → Has atoms a.1
  numbered_atom n [] a h = absurd h
  numbered_atom n (x ∷ xs) a (inl e) = inl (ap (λ p. p.1) e)
  numbered_atom n (x ∷ xs) a (inr m) = inr (numbered_atom (n + 1) xs a m)

  flat_same : {A B : Type 0} (f g : A → List B) (xs : List A) → ((x : A) → Has xs x → f x ≡ g x) → flat_map f xs ≡ flat_map g xs
  flat_same f g [] h = refl
  flat_same f g (x ∷ xs) h = ap (λ ys. ys ++ flat_map f xs) (h x (inl refl)) ∙ ap (λ ys. g x ++ ys) (flat_same f g xs (λ y m. h y (inr m)))

  pub own_uses : (normal : Normal) → uses normal (own_accesses many normal.atoms) ≡ uses normal many
  own_uses normal =
      let all = all_taken normal.atoms [] nothing_taken in
      flat_same (λ a. map (made a.0) (on a.1.table.0 (own_accesses many normal.atoms))) (λ a. map (made a.0) (on a.1.table.0 many))
      (enumerate_from 0 normal.atoms) (λ a m. ap (map (made a.0)) (all.each a.1 (numbered_atom 0 normal.atoms a m)))

-- ---- how they are copied

-- the tables of the first atoms, and of one more
pub own_more : (accesses : List Access) (atoms : List Atom) (i : ℕ) (d : Atom) → i < length atoms
    → with_table accesses (own_accesses accesses (take i atoms)) (get_or atoms i d) ≡ own_accesses accesses (take (i + 1) atoms)
own_more accesses atoms i d l = sym (
    ap (λ k. own_accesses accesses (take k atoms)) (add-one i) ∙ ap (own_accesses accesses) (take-suc atoms i d l)
    ∙ folded [] (take i atoms) (get_or atoms i d))
  where
    folded : (own : List Access) (xs : List Atom) (x : Atom)
        → fold (with_table accesses) own (xs ++ x ∷ []) ≡ with_table accesses (fold (with_table accesses) own xs) x
    folded own [] x = refl
    folded own (y ∷ xs) x = folded (with_table accesses own y) xs x

pub own_all : (accesses : List Access) (atoms : List Atom) → own_accesses accesses (take (length atoms) atoms) ≡ own_accesses accesses atoms
own_all accesses atoms = ap (own_accesses accesses) (take-length atoms)

no_access : Access
no_access = record { id = record { 0 = 0 }; name = []; table = record { 0 = 0 }; key = []; fetched = []; bound = 0 }

with_id : (accesses : List Access) (id : AccessId) → access_with_id accesses id ≡ access_in accesses id
unfolding access_in
with_id accesses id = refl

-- the constraint with an id of a table's
module _ (accesses : List Access) (table : TableId) (k : ℕ) (ids : List AccessId) (id : AccessId) (once : EachIdOnce accesses)
    (are : ids ≡ ids_on accesses table.0) (inside : k < length ids) (is : id ≡ get_or ids k id) where
  abbrev mine : List Access
  mine = accesses_on accesses table

  below : k < length mine
  below = omega (arith, inside, ap length are, length-map mine (λ a. a.id))

  id_is : id ≡ (get_or mine k no_access).id
  id_is = is ∙ ap (λ xs. get_or xs k id) are ∙ get_or-map (λ a. a.id) mine k no_access id below

  member : Has accesses (get_or mine k no_access)
  member = (Has-from_filter (λ a. a.table.0 == table.0) accesses (get_or mine k no_access) (Has-get_or mine k no_access below)).0

  pub id_is_live : list_any (λ a. a.id.0 == id.0) accesses ≡ true
  id_is_live = subst (λ (i : AccessId). list_any (λ a. a.id.0 == i.0) accesses ≡ true) (sym id_is)
      (is_live-member accesses (get_or mine k no_access) member)

  found_here : access_with_id accesses id ≡ get_or mine k no_access
  found_here = with_id accesses id ∙ ap (access_in accesses) id_is ∙ found_by_id accesses once (get_or mine k no_access) member

  -- so one more is copied
  pub copied_more : (before old new : List Access) (found : Access) → old ≡ before ++ take k mine → found ≡ access_with_id accesses id
      → new ≡ old ++ found ∷ [] → new ≡ before ++ take (k + 1) mine
  copied_more before old new found e f g =
      g ∙ ap (λ xs. xs ++ found ∷ []) e ∙ append_assoc before (take k mine) (found ∷ [])
      ∙ ap (λ a. before ++ (take k mine ++ a ∷ [])) (f ∙ found_here)
      ∙ ap (λ xs. before ++ xs) (sym (ap (λ n. take n mine) (add-one k) ∙ take-suc mine k no_access below))

pub copied_all : (accesses : List Access) (table : TableId) (k : ℕ) (ids : List AccessId) (before found : List Access) → ids ≡ ids_on accesses table.0
    → length ids ≤ k → found ≡ before ++ take k (accesses_on accesses table) → found ≡ before ++ accesses_on accesses table
copied_all accesses table k ids before found are all e =
    let mine = accesses_on accesses table in
    e ∙ ap (λ xs. before ++ xs) (take_all k mine (omega (arith, all, ap length are, length-map mine (λ a. a.id))))
