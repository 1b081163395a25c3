-- What is known of a use of a constraint on an atom, and of the constraint that an id finds.
use Rattle.std.proofs.Common.{◌≡◌, ◌≢◌, ◌==◌, ◌<◌, ◌+◌, ℕ, suc, Bool, true, false, cond, nat_lt, List, [], ◌∷◌, length, map, get_or, Some, None, inl, inr, refl, ap, sym, ◌∙◌, subst, arith, add-zero, zero-add, eq-eqb}
use Rattle.std.specs.List.{filter, fold, enumerate_from, best_of}
use Rattle.std.proofs.lemmas.Bool.{eqb-true}
use Rattle.beas_core.specs.declared.schema.Access.{Access}
use Rattle.beas_core.specs.declared.plan.Normal.{Normal}
use Rattle.beas_core.specs.Types.{Use}
use Rattle.beas_core.specs.Shapes.{EachIdOnce}
use Rattle.beas_core.specs.Coverage.{uses}
use Rattle.beas_core.specs.Derivations.{access_in, table_of, least_bound}
use Rattle.beas_core.proofs.Accesses.{access_in-first, access_in-rest}
use Rattle.beas_core.proofs.Sets.{Has, Has-from_map, Has-from_filter}
use Rattle.beas_core.proofs.MemberTests.{Has-from_flat_map, first_of_pairs, rest_of_pairs}

pub same_number : (a b : ℕ) → a ≡ b → (a == b) ≡ true
same_number a b e = eq-eqb a b e

pub enumerated : {A B : Type 0} (f : A → B) (d : B) (n : ℕ) (xs : List A) (a : ℕ × A) → Has (enumerate_from n xs) a
    → (k : ℕ) × (k < length xs) × (a.0 ≡ n + k) × (get_or (map f xs) k d ≡ f a.1)
enumerated f d n [] a h = absurd h
enumerated f d n (x ∷ xs) a (inl e) = (0, omega arith, ap (λ p. p.0) e ∙ sym (add-zero n), sym (ap (λ p. f p.1) e))
enumerated f d n (x ∷ xs) a (inr h) = let r = enumerated f d (n + 1) xs a h in (suc r.0, omega (arith, r.1), omega (arith, r.2), r.3)

-- a member of a list of constraints is the one that its id finds
pub found_by_id : (accesses : List Access) → EachIdOnce accesses → (access : Access) → Has accesses access → access_in accesses access.id ≡ access
found_by_id [] once access h = absurd h
found_by_id (a ∷ accesses) once access h = by (a.id.0 == access.id.0) refl h
    (found_by_id accesses (rest_of_pairs (λ x y. x.id.0 ≢ y.id.0) a accesses once) access)
  where
    by : (b : Bool) → (a.id.0 == access.id.0) ≡ b → Has (a ∷ accesses) access → (Has accesses access → access_in accesses access.id ≡ access)
        → access_in (a ∷ accesses) access.id ≡ access
    by true t (inl e) later = access_in-first a accesses access.id t ∙ sym e
    by true t (inr g) later = absurd (first_of_pairs (λ x y. x.id.0 ≢ y.id.0) a accesses once access g (eqb-true a.id.0 access.id.0 t))
    by false t (inl e) later = let s = same_number a.id.0 access.id.0 (ap (λ x. x.id.0) (sym e)) in cc
    by false t (inr g) later = access_in-rest a accesses access.id t ∙ later g

pub best_has : {K : Type 0} (beats : K → K → Bool) (u : K) (us : List K) → Has (u ∷ us) (best_of beats u us)
best_has beats u [] = inl refl
best_has {K} beats u (x ∷ xs) = by (beats x u) (best_has beats x xs) (best_has beats u xs)
  where
    by : (b : Bool) → Has (x ∷ xs) (best_of beats x xs) → Has (u ∷ xs) (best_of beats u xs)
        → Has (u ∷ x ∷ xs) (fold (λ c y. cond (beats y c) y c) (cond b x u) xs)
    by true new old = inr new
    by false new (inl e) = inl e
    by false new (inr g) = inr (inr g)

pub least_has : (us : List Use) (u : Use) → least_bound us ≡ Some u → Has us u
least_has [] u e = cc
least_has (v ∷ us) u e =
    let some : (x y : Use) → Some x ≡ Some y → x ≡ y = λ x y d. cc in
    subst (Has (v ∷ us)) (some (best_of (λ x y. nat_lt x.access.bound y.access.bound) v us) u e) (best_has (λ x y. nat_lt x.access.bound y.access.bound) v us)

pub least_none : (us : List Use) → least_bound us ≡ None → us ≡ []
least_none [] e = refl
least_none (v ∷ us) e = cc

module _ (normal : Normal) (accesses : List Access) where
  pub record IsUse (u : Use) : Type 0 where
    pub member : Has accesses u.access
    pub atom : u.atom < length normal.atoms
    pub table : (table_of normal u.atom).0 ≡ u.access.table.0

  pub use_facts : (u : Use) → Has (uses normal accesses) u → IsUse u
  use_facts u h =
      let made : ℕ → Access → Use = λ n c. record { atom = n; access = c } in
      let r = Has-from_flat_map (λ a. map (λ c. made a.0 c) (filter (λ c. c.table.0 == a.1.table.0) accesses)) (enumerate_from 0 normal.atoms) u h in
      let m = Has-from_map (λ c. made r.0.0 c) (filter (λ c. c.table.0 == r.0.1.table.0) accesses) u r.2 in
      let f = Has-from_filter (λ c. c.table.0 == r.0.1.table.0) accesses m.0 m.1 in
      let k = enumerated (λ a. a.table) (record { 0 = 0 }) 0 normal.atoms r.0 r.1 in
      let first : u.atom ≡ k.0 = ap (λ p. p.atom) m.2 ∙ k.2 ∙ zero-add k.0 in
      let second : u.access ≡ m.0 = ap (λ p. p.access) m.2 in
      record {
        member = subst (Has accesses) (sym second) f.0;
        atom = subst (λ n. n < length normal.atoms) (sym first) k.1;
        table = ap (λ n. (table_of normal n).0) first ∙ ap (λ t. t.0) k.3 ∙ sym (eqb-true m.0.table.0 r.0.1.table.0 f.1) ∙ ap (λ c. c.table.0) (sym second);
      }
