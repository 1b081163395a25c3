-- Constraints over rows that come: which is broken first, and that the others hold.
use Rattle.std.proofs.Common.{◌≡◌, ◌∙◌, ◌<◌, ◌≤◌, ◌+◌, ◌==◌, ℕ, zero, suc, Bool, true, false, not, cond, List, [], ◌∷◌, ◌++◌, map, take, drop, length, get_or, set, ap, refl, sym, subst, arith, true≢false, inl, inr, Option, Some, None, add-one, append_assoc}
use Rattle.std.specs.Prelude.{filter, find, All, IsTrue, ◌↔◌, option_map}
use Rattle.std.specs.List.{enumerate_from}
use Rattle.std.specs.Option.{option_or, is_none}
use Rattle.std.proofs.Math.Seq.{drop-cons}
use Rattle.std.proofs.Math.ListN.{drop_of_length-le}
use Rattle.std.proofs.lemmas.Bool.{leb-true, le-leb, false_from_ne_true, cases_eq, eq-eqb, lt-leb}
use Rattle.std.proofs.lemmas.List.{get_or-set_same, get_or-set_other, length-map, get_or-map, get_or_default, take-append-drop}
use Rattle.std.proofs.lemmas.List.Elements.{All-filter}
use Rattle.beas_core.specs.declared.schema.Access.{Access}
use Rattle.beas_core.specs.declared.schema.TableId.{TableId}
use Rattle.beas_core.specs.Types.{Row}
use Rattle.beas_core.specs.Groups.{Holds, greatest}
use Rattle.beas_core.proofs.Groups.{greatest-from_Holds, Holds-from_greatest}
use Rattle.catalogue.specs.Schema.{access_with_id, accesses_on}
use Rattle.catalogue.specs.Kept.{ids_on}
use Rattle.beas_core.specs.declared.refusal.Refusal.TheVariants.{AlreadyBroken}
use Rattle.beas_core.specs.declared.refusal.Refusal.{Refusal}
use Rattle.catalogue.specs.Refusing.{holds, broken, broken_bound, breaks_bound, first_of, already_broken}
use Rattle.beas_core.specs.Results.{refused_if}
use Rattle.catalogue.proofs.ListFacts.{find_none}
use Rattle.access_index.specs.Index.{Index, IsIndexOf}
use Rattle.access_index.proofs.FewerRows.{Holds-front}
use Rattle.update_guard.specs.Guarding.{IndexesOf}
use Rattle.catalogue.specs.Stored.{HoldOver}
use Rattle.update_guard.specs.Indexing.{IsPlaceOn, no_access}
use Rattle.update_guard.proofs.IndexFacts.{IsOwn, own}

pub holds_where : (rows : List Row) (a : Access) → Holds rows a → holds rows a ≡ true
holds_where rows a h = le-leb (greatest rows a.key a.fetched) a.bound (greatest-from_Holds rows a h)

pub fails_where : (rows : List Row) (a : Access) → (Holds rows a → ⊥) → holds rows a ≡ false
fails_where rows a n = false_from_ne_true (holds rows a) (λ e. n (Holds-from_greatest rows a (leb-true (greatest rows a.key a.fetched) a.bound e)))

-- the search for a broken constraint, from place k on
abbrev pub broken_from : List Access → List Row → ℕ → Option Access
broken_from accesses rows k = find (λ a. not (holds rows a)) (drop k accesses)

pub broken_step : (accesses : List Access) (rows : List Row) (k : ℕ) (a : Access) → k < length accesses → get_or accesses k a ≡ a
    → broken_from accesses rows k ≡ cond (not (holds rows a)) (Some a) (broken_from accesses rows (k + 1))
broken_step accesses rows k a h is =
    ap (find (λ x. not (holds rows x))) (drop-cons accesses k a h)
    ∙ ap (λ x. cond (not (holds rows x)) (Some x) (find (λ y. not (holds rows y)) (drop (suc k) accesses))) is
    ∙ ap (λ j. cond (not (holds rows a)) (Some a) (broken_from accesses rows j)) (sym (add-one k))

pub broken_end : (accesses : List Access) (rows : List Row) (k : ℕ) → length accesses ≤ k → broken_from accesses rows k ≡ None
broken_end accesses rows k h = ap (find (λ a. not (holds rows a))) (drop_of_length-le accesses h)

from_filtered : (Q : Access → Type 0) (p : Access → Bool) (xs : List Access) → All Q (filter p xs) → (i : ℕ) (d : Access) → i < length xs
    → p (get_or xs i d) ≡ true → Q (get_or xs i d)
from_filtered Q p [] h i d l t = absurd (omega (arith, l))
from_filtered Q p (x ∷ xs) h zero d l t = subst (λ (b : Bool). All Q (cond b (x ∷ filter p xs) (filter p xs))) t h 0 d (omega arith)
from_filtered Q p (x ∷ xs) h (suc i) d l t = from_filtered Q p xs (rest (p x) h) i d (omega arith) t
  where
    rest : (b : Bool) → All Q (cond b (x ∷ filter p xs) (filter p xs)) → All Q (filter p xs)
    rest true g = λ k e m. g (suc k) e (omega arith)
    rest false g = g

true_from : (b : Bool) → not b ≡ false → b ≡ true
true_from true e = refl
true_from false e = cc

-- where none is broken, each holds over the rows of its table
pub hold_after : (accesses : List Access) (rows : List (List Row)) (table : TableId) (own : List Row) → HoldOver accesses rows → table.0 < length rows
    → broken (accesses_on accesses table) own ≡ None → HoldOver accesses (set rows table.0 own)
hold_after accesses rows table own hold live none i d l = elim (cases_eq (get_or accesses i d).table.0 table.0) [
  | inl s ↦
      let P : Access → Type 0 = λ a. not (holds own a) ≡ false in
      let not_broken : P (get_or accesses i d) = from_filtered P (λ a. a.table.0 == table.0) accesses
      (find_none (λ a. not (holds own a)) (accesses_on accesses table) none) i d l (eq-eqb (get_or accesses i d).table.0 table.0 s) in
      subst (λ (rs : List Row). Holds rs (get_or accesses i d))
      (sym (ap (λ t. get_or (set rows table.0 own) t []) s ∙ get_or-set_same rows table.0 own [] live))
      (Holds-from_greatest own (get_or accesses i d) (leb-true (greatest own (get_or accesses i d).key (get_or accesses i d).fetched)
      (get_or accesses i d).bound (true_from (holds own (get_or accesses i d)) not_broken)))
  | inr n ↦ subst (λ (rs : List Row). Holds rs (get_or accesses i d)) (sym (get_or-set_other rows table.0 (get_or accesses i d).table.0 own [] n)) (hold i d l)
]

-- where none is broken by all rows, none is by the first ones
unbroken_front : (accesses : List Access) (front back : List Row) → broken accesses (front ++ back) ≡ None → broken accesses front ≡ None
unbroken_front [] front back e = refl
unbroken_front (a ∷ more) front back e = by (not (holds (front ++ back) a)) refl e (unbroken_front more front back)
  where
    by : (b : Bool) → not (holds (front ++ back) a) ≡ b → cond b (Some a) (broken more (front ++ back)) ≡ None
        → (broken more (front ++ back) ≡ None → broken more front ≡ None) → broken (a ∷ more) front ≡ None
    by true t f rest = cc
    by false t f rest =
        let held = true_from (holds (front ++ back) a) t in
        let whole = Holds-from_greatest (front ++ back) a (leb-true (greatest (front ++ back) a.key a.fetched) a.bound held) in
        ap (λ b. cond (not b) (Some a) (broken more front)) (holds_where front a (Holds-front front back a whole)) ∙ rest f

first_of_none : {X : Type 0} (F : X → Option Refusal) → ((x : X) → F x ≡ None) → (xs : List X) → first_of (map F xs) ≡ None
first_of_none F none [] = refl
first_of_none F none (x ∷ xs) = ap (λ r. option_or r (first_of (map F xs))) (none x) ∙ first_of_none F none xs

-- and no row is refused
pub none_refused : (accesses : List Access) (own rows : List Row) → broken accesses (own ++ rows) ≡ None → broken_bound accesses own rows ≡ None
none_refused accesses own rows e =
    first_of_none (λ r. option_map (breaks_bound r) (broken accesses (own ++ take r.0 rows)))
    (λ r. let split = append_assoc own (take r.0 rows) (drop r.0 rows) ∙ ap (λ rs. own ++ rs) (take-append-drop r.0 rows) in
    ap (option_map (breaks_bound r)) (unbroken_front accesses (own ++ take r.0 rows) (drop r.0 rows) (ap (broken accesses) split ∙ e)))
    (enumerate_from 1 rows)

pub none_of : {X : Type 0} (o : Option X) → is_none o ≡ true → o ≡ None
none_of None e = refl
none_of (Some x) e = cc

answers : (rows : List Row) (a : Access) (answer : Bool) → (IsTrue answer → Holds rows a) → (Holds rows a → IsTrue answer) → holds rows a ≡ answer
answers rows a true to from = holds_where rows a (to refl)
answers rows a false to from = fails_where rows a (λ h. true≢false (sym (from h)))

-- what the index of a table's constraint number k tells of more rows
pub judged : (accesses : List Access) (table : TableId) (rows : List (List Row)) (more : List Row) (k place : ℕ)
    (indexes : List Index) (index : Index) (answer : Bool) → IsPlaceOn accesses table.0 k place → k < length (ids_on accesses table.0)
    → IndexesOf accesses rows indexes → HoldOver accesses rows → index ≡ get_or indexes place index
    → ((rs : List Row) → IsIndexOf index rs → Holds rs index.access → (IsTrue answer ↔ Holds (rs ++ more) index.access))
    → broken_from (accesses_on accesses table) (get_or rows table.0 [] ++ more) k
    ≡ cond (not answer) (Some (get_or accesses place no_access)) (broken_from (accesses_on accesses table) (get_or rows table.0 [] ++ more) (k + 1))
judged accesses table rows more k place indexes index answer p h indexed hold is tells =
    let mine = accesses_on accesses table in
    let l : k < length mine = omega (arith, h, length-map mine (λ a. a.id)) in
    let x = get_or accesses place no_access in
    let o = All-filter (λ a. a.table.0 == table.0) (IsOwn accesses) accesses (own accesses p.rise) k no_access l in
    let same : x ≡ get_or mine k no_access =
    p.at no_access ∙ ap (access_with_id accesses) (get_or-map (λ a. a.id) mine k no_access (record { 0 = 0 }) l) ∙ o.found in
    let on : x.table.0 ≡ table.0 = ap (λ a. a.table.0) (p.at no_access) ∙ p.is_on.on in
    let at = indexed.each place index no_access p.within in
    let access : index.access ≡ x = ap (λ i. i.access) is ∙ at.access_is in
    let rs : get_or rows x.table.0 [] ≡ get_or rows table.0 [] = ap (λ t. get_or rows t []) on in
    let own_rows = get_or rows table.0 [] in
    let index_is : IsIndexOf index own_rows = subst (λ (r : List Row). IsIndexOf index r) rs
    (subst (λ (i : Index). IsIndexOf i (get_or rows x.table.0 [])) (sym is) at.index_is) in
    let held : Holds own_rows index.access = subst (λ (a : Access). Holds own_rows a) (sym access)
    (subst (λ (r : List Row). Holds r x) rs (hold place no_access p.within)) in
    let iff = tells own_rows index_is held in
    let to : IsTrue answer → Holds (own_rows ++ more) x = λ t. subst (λ (a : Access). Holds (own_rows ++ more) a) access (iff.0 t) in
    let from : Holds (own_rows ++ more) x → IsTrue answer = λ g. iff.1 (subst (λ (a : Access). Holds (own_rows ++ more) a) (sym access) g) in
    broken_step mine (own_rows ++ more) k (get_or mine k no_access) l (get_or_default mine k (get_or mine k no_access) no_access l)
    ∙ ap (λ a. cond (not (holds (own_rows ++ more) a)) (Some a) (broken_from mine (own_rows ++ more) (k + 1))) (sym same)
    ∙ ap (λ b. cond (not b) (Some x) (broken_from mine (own_rows ++ more) (k + 1))) (answers (own_rows ++ more) x answer to from)

-- whether a greatest group passes the bound
pub broken_where : (rows : List Row) (a : Access) (needed : ℕ) → needed ≡ greatest rows a.key a.fetched → a.bound < needed
    → already_broken rows a ≡ Some (AlreadyBroken needed a.bound)
broken_where rows a needed e l =
    ap (λ b. refused_if (not b) (AlreadyBroken (greatest rows a.key a.fetched) a.bound)) (lt-leb (greatest rows a.key a.fetched) a.bound (omega (arith, e, l)))
    ∙ ap (λ n. Some (AlreadyBroken n a.bound)) (sym e)

pub whole_where : (rows : List Row) (a : Access) (needed : ℕ) → needed ≡ greatest rows a.key a.fetched → needed ≤ a.bound → already_broken rows a ≡ None
whole_where rows a needed e l =
    ap (λ b. refused_if (not b) (AlreadyBroken (greatest rows a.key a.fetched) a.bound)) (le-leb (greatest rows a.key a.fetched) a.bound (omega (arith, e, l)))

pub held_where : (rows : List Row) (a : Access) (needed : ℕ) → needed ≡ greatest rows a.key a.fetched → needed ≤ a.bound → Holds rows a
held_where rows a needed e l = Holds-from_greatest rows a (omega (arith, e, l))
