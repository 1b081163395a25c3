-- Tuples that fit a valuation share its values at some places.
use Rattle.std.proofs.Common.{ltb, ◌≡◌, ◌&&◌, ◌<◌, ◌≤◌, ◌+◌, ◌-◌, ◌++◌, ◌∷◌, [], ℕ, pos, Bool, true, false, cond, List, Option, All, length, map, take, get_or, inl, inr, refl, ap, sym, subst, ◌∙◌, arith}
use Rattle.std.proofs.Math.Seq.{get_or-append_right}
use Rattle.std.proofs.lemmas.Bool.{cases_lt, ltb-true}
use Rattle.std.proofs.lemmas.List.{get_or_append_left, get_or_push, length_push, take_all, take_more}
use Rattle.std.proofs.lemmas.List.Elements.{All-head, All-tail}
use Rattle.beas_core.specs.declared.value.Value.{Value}
use Rattle.beas_core.specs.declared.value.Value.TheVariants.{Int}
use Rattle.beas_core.specs.Found.{Found}
use Rattle.beas_core.specs.Full.{same_value}
use Rattle.beas_core.specs.Types.{Row}
use Rattle.beas_core.proofs.BindingFacts.{same_from}
use Rattle.plan_ops.specs.declared.joining.Join.{Join}
use Rattle.place_chains.specs.TupleOrder.{values_at}
use Rattle.plan_ops.specs.Joins.{IsSharing, at_place, fits_by}
use Rattle.plan_ops.specs.Matching.{AreIndexes, IsIndexed, IsShared, shared_in}

-- ---- the places that a valuation and a tuple share

-- a tuple that fits has the valuation's values there
module _ (row tuple : Row) where
  agree : (checks : List (ℕ × ℕ)) → All (λ c. length row ≤ c.0) checks → fits_by checks row tuple ≡ true
      → values_at (map (λ c. c.1) (shared_in (length row) checks)) row ≡ values_at (map (λ c. c.0 - length row) (shared_in (length row) checks)) tuple
  agree [] behind fits = refl
  agree (c ∷ checks) behind fits = by (agree checks (All-tail (λ (k : ℕ × ℕ). length row ≤ k.0) c checks behind))
      (same_value (at_place row tuple c.0) (at_place row tuple c.1)) (ltb c.1 (length row)) refl refl fits
    where
      value : Row → ℕ → Value
      value r place = get_or r place (Int (pos 0))

      lefts : List (ℕ × ℕ) → List Value
      lefts cs = values_at (map (λ c. c.1) cs) row

      rights : List (ℕ × ℕ) → List Value
      rights cs = values_at (map (λ c. c.0 - length row) cs) tuple

      by : (fits_by checks row tuple ≡ true → lefts (shared_in (length row) checks) ≡ rights (shared_in (length row) checks))
          → (same low : Bool) → same_value (at_place row tuple c.0) (at_place row tuple c.1) ≡ same → ltb c.1 (length row) ≡ low
          → (same && fits_by checks row tuple) ≡ true → lefts (cond low (c ∷ shared_in (length row) checks) (shared_in (length row) checks))
          ≡ rights (cond low (c ∷ shared_in (length row) checks) (shared_in (length row) checks))
      by rest false low s e f = absurd (let t : false ≡ true = f in cc)
      by rest true false s e f = rest f
      by rest true true s e f =
          let below : c.1 < length row = ltb-true c.1 (length row) e in
          let far : length row ≤ c.0 = All-head (λ (k : ℕ × ℕ). length row ≤ k.0) c checks behind in
          let equal : value row c.1 ≡ value tuple (c.0 - length row) =
          sym (get_or_append_left row tuple (Int (pos 0)) c.1 below)
          ∙ sym (same_from (at_place row tuple c.0) (at_place row tuple c.1) s)
          ∙ get_or-append_right row tuple c.0 (Int (pos 0)) far in
          ap (λ v. v ∷ lefts (shared_in (length row) checks)) equal
          ∙ ap (λ vs. value tuple (c.0 - length row) ∷ vs) (rest f)

pub shared_agree : (checks : List (ℕ × ℕ)) (shared : List ℕ × List ℕ) (width : ℕ) → IsShared width checks shared → All (λ c. width ≤ c.0) checks
    → (row tuple : Row) → length row ≡ width → fits_by checks row tuple ≡ true
    → values_at shared.1 tuple ≡ values_at shared.0 row
shared_agree checks shared width is behind row tuple wide fits =
    let at_row = subst (λ n. IsShared n checks shared) (sym wide) is in
    let far = subst (λ n. All (λ (c : ℕ × ℕ). n ≤ c.0) checks) (sym wide) behind in
    ap (λ ps. values_at ps tuple) at_row.tuples_are ∙ sym (agree row tuple checks far fits)
    ∙ ap (λ ps. values_at ps row) (sym at_row.rows_are)

pub fits_only : (join : Join) (row : Row) → IsSharing (length row) join → (tuples : List Row) (k : ℕ) → k < length tuples
    → fits_by join.checks.items row (get_or tuples k []) ≡ true
    → values_at join.shared.1 (get_or tuples k []) ≡ values_at join.shared.0 row
fits_only join row sharing tuples k l t =
    shared_agree join.checks.items join.shared (length row) sharing.shared_are sharing.behind row (get_or tuples k []) refl t

-- ---- one index more

pub indexes_none : (places : List ℕ) (members : Found → List Row) → AreIndexes places members [] []
indexes_none places members = record { count = refl; each = λ i d e l. absurd (omega (arith, l)) }

module _ (places : List ℕ) (members : Found → List Row) where
  pushed : (groups : List Found) (indexes : List (Option (List ℕ))) (hits : Found) (o : Option (List ℕ)) → AreIndexes places members groups indexes
      → IsIndexed places (members hits) o → AreIndexes places members (groups ++ hits ∷ []) (indexes ++ o ∷ [])
  pushed groups indexes hits o are is =
      let n = length_push groups hits in
      let m = length_push indexes o in
      let same = are.count in
      record {
        count = omega (arith, n, m, same);
        each = λ i d e l. elim (cases_lt i (length groups)) [
          | inl before ↦ (
              subst (λ h. IsIndexed places (members h) (get_or (indexes ++ o ∷ []) i e)) (sym (get_or_append_left groups (hits ∷ []) d i before))
              (subst (IsIndexed places (members (get_or groups i d))) (sym (get_or_append_left indexes (o ∷ []) e i (omega (arith, before, same))))
              (are.each i d e before)))
          | inr past ↦ (
              subst (λ h. IsIndexed places (members h) (get_or (indexes ++ o ∷ []) i e)) (sym (get_or_push groups hits d i (omega (arith, l, n, past))))
              (subst (IsIndexed places (members hits)) (sym (get_or_push indexes o e i (omega (arith, l, n, past, same)))) is))
        ];
      }

  pub indexes_more : (groups : List Found) (i : ℕ) → i < length groups → (hits : Found) → hits ≡ get_or groups i hits → (indexes : List (Option (List ℕ)))
      → AreIndexes places members (take i groups) indexes → (o : Option (List ℕ)) → IsIndexed places (members hits) o
      → AreIndexes places members (take (i + 1) groups) (indexes ++ o ∷ [])
  indexes_more groups i l hits read indexes are o is =
      subst (λ gs. AreIndexes places members gs (indexes ++ o ∷ [])) (sym (take_more groups i hits l ∙ ap (λ h. take i groups ++ h ∷ []) (sym read)))
      (pushed (take i groups) indexes hits o are is)

  pub indexes_all : (groups : List Found) (i : ℕ) → length groups ≤ i → (indexes : List (Option (List ℕ)))
      → AreIndexes places members (take i groups) indexes → AreIndexes places members groups indexes
  indexes_all groups i end indexes are = subst (λ gs. AreIndexes places members gs indexes) (take_all i groups end) are
