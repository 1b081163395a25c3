-- The constraint with an id, found by halves among those whose ids rise.
use Rattle.std.proofs.Common.{◌≡◌, ◌≢◌, ◌∙◌, ◌<◌, ◌==◌, ℕ, Bool, true, false, List, [], length, get_or, refl, ap, sym, arith, Some, None}
use Rattle.std.specs.Prelude.{find, nat_lt}
use Rattle.std.specs.List.{list_any}
use Rattle.std.specs.List.Sorted.{IsPartitionPoint}
use Rattle.std.proofs.lemmas.Bool.{eq-eqb, ne_eqb, ltb-true}
use Rattle.beas_core.specs.declared.schema.Access.{Access}
use Rattle.beas_core.specs.declared.schema.AccessId.{AccessId}
use Rattle.catalogue.proofs.IdFacts.{IdsRise, located}
use Rattle.catalogue.proofs.ListFacts.{find_first, is_some-find, none_from_is_some}

abbrev pub no_access : AccessId → Access
no_access id = record { id = id; name = []; table = record { 0 = 0 }; key = []; fetched = []; bound = 0 }

module _ (accesses : List Access) (id : AccessId) (place : ℕ) (rise : IdsRise accesses)
    (point : IsPartitionPoint (λ a. nat_lt a.id.0 id.0 ≡ true) (λ a. nat_lt a.id.0 id.0 ≡ false) accesses place) where
  pub found_there : (a : Access) → place < length accesses → a ≡ get_or accesses place a → a.id.0 ≡ id.0 → find (λ c. c.id.0 == id.0) accesses ≡ Some a
  found_there a within is same =
      find_first (λ c. c.id.0 == id.0) accesses place a within (eq-eqb (get_or accesses place a).id.0 id.0 (ap (λ (c : Access). c.id.0) (sym is) ∙ same))
      (λ k l. ne_eqb (get_or accesses k a).id.0 id.0 (λ e. absurd (omega (arith, e, ltb-true (get_or accesses k a).id.0 id.0 (point.0 k a (omega arith) l)))))
      ∙ ap (λ c. Some c) (sym is)

  pub none_there : (d : Access) → (place < length accesses → (get_or accesses place d).id.0 ≢ id.0) → find (λ c. c.id.0 == id.0) accesses ≡ None
  none_there d other = by (list_any (λ c. c.id.0 == id.0) accesses) refl
    where
      by : (b : Bool) → list_any (λ c. c.id.0 == id.0) accesses ≡ b → find (λ c. c.id.0 == id.0) accesses ≡ None
      by false t = none_from_is_some (find (λ c. c.id.0 == id.0) accesses) (is_some-find (λ (c : Access). c.id.0 == id.0) accesses ∙ t)
      by true t =
          let l = located accesses id place rise t point in
          absurd (other l.within (ap (λ (c : Access). c.id.0) (l.found d) ∙ l.has_id))
