-- Where a constraint stands in a list whose ids rise.
use Rattle.std.proofs.Common.{◌≡◌, ◌∙◌, ◌<◌, ◌==◌, ℕ, true, false, List, [], length, get_or, ap, sym, subst, arith, Some, inl, inr}
use Rattle.std.specs.Prelude.{find, unwrap_or, AllPairs, nat_lt}
use Rattle.std.specs.List.{list_any}
use Rattle.std.specs.List.Sorted.{IsPartitionedBy, IsPartitionPoint}
use Rattle.std.proofs.lemmas.Bool.{eq-eqb, ne_eqb, eqb-true, lt-ltb, ltb-true, ltb-false, cases_order}
use Rattle.std.proofs.lemmas.List.{get_or_default}
use Rattle.std.proofs.lemmas.List.Folds.{Any-from_list_any}
use Rattle.beas_core.specs.declared.schema.Access.{Access}
use Rattle.beas_core.specs.declared.schema.AccessId.{AccessId}
use Rattle.catalogue.specs.Schema.{access_with_id}
use Rattle.catalogue.proofs.ListFacts.{find_first}

abbrev pub IdsRise : List Access → Type 0
IdsRise accesses = AllPairs (λ a b. a.id.0 < b.id.0) accesses

-- where a constraint with this id stands
pub record Located (accesses : List Access) (id : AccessId) (place : ℕ) : Type 0 where
  pub within : place < length accesses
  pub found : (d : Access) → get_or accesses place d ≡ access_with_id accesses id
  pub has_id : (access_with_id accesses id).id.0 ≡ id.0

pub parted : (accesses : List Access) (id : AccessId) → IdsRise accesses → IsPartitionedBy (λ a. nat_lt a.id.0 id.0) accesses
parted accesses id rise i j d l h e =
    let below : (get_or accesses j d).id.0 < id.0 = ltb-true (get_or accesses j d).id.0 id.0 e in
    elim (cases_order i j) [
      | inl s ↦ subst (λ (n : ℕ). nat_lt (get_or accesses n d).id.0 id.0 ≡ true) (sym s) e
      | inr t ↦ elim t [
        | inl b ↦ lt-ltb (get_or accesses i d).id.0 id.0 (omega (arith, rise i j d b h, below))
        | inr b ↦ absurd (omega arith)
      ]
    ]

-- one with this id, wherever it stands, is the one that is found
pub located_at : (accesses : List Access) (id : AccessId) (k : ℕ) (e : Access) → IdsRise accesses → k < length accesses → (get_or accesses k e).id.0 ≡ id.0
    → Located accesses id k
located_at accesses id k e rise h s =
    let found : find (λ a. a.id.0 == id.0) accesses ≡ Some (get_or accesses k e) =
    find_first (λ a. a.id.0 == id.0) accesses k e h (eq-eqb (get_or accesses k e).id.0 id.0 s)
    (λ j l. ne_eqb (get_or accesses j e).id.0 id.0 (λ q. absurd (omega (arith, rise j k e l h, q, s)))) in
    let is : access_with_id accesses id ≡ get_or accesses k e = ap
    (λ o. unwrap_or o (record { id = id; name = []; table = record { 0 = 0 }; key = []; fetched = []; bound = 0 })) found in
    record { within = h; found = λ d. get_or_default accesses k d e h ∙ sym is; has_id = ap (λ a. a.id.0) is ∙ s }

pub located : (accesses : List Access) (id : AccessId) (place : ℕ) → IdsRise accesses → list_any (λ a. a.id.0 == id.0) accesses ≡ true
    → IsPartitionPoint (λ a. nat_lt a.id.0 id.0 ≡ true) (λ a. nat_lt a.id.0 id.0 ≡ false) accesses place → Located accesses id place
located accesses id place rise live point =
    let one = Any-from_list_any (λ a. a.id.0 == id.0) accesses live in
    let same : (get_or accesses one.0 one.1).id.0 ≡ id.0 = ap (λ a. a.id.0) one.3 ∙ eqb-true one.1.id.0 id.0 one.4 in
    let here : one.0 ≡ place = elim (cases_order one.0 place) [
      | inl s ↦ s
      | inr t ↦ elim t [
        | inl b ↦ absurd (omega (arith, ltb-true _ _ (point.0 one.0 one.1 (omega arith) b), same))
        | inr b ↦ absurd (omega (arith, rise place one.0 one.1 b one.2, same, ltb-false _ _ (point.1 place one.1 (omega arith) (omega (arith, b, one.2)))))
      ]
    ] in
    subst (λ (n : ℕ). Located accesses id n) here (located_at accesses id one.0 one.1 rise one.2 same)
