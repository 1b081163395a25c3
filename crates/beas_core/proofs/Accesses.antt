-- The constraint with an id in a list of constraints.
use Rattle.std.proofs.Common.{◌≡◌, ◌==◌, ◌||◌, Bool, true, false, cond, List, [], ◌∷◌, ◌++◌, Some, inl, inr, refl, ap, sym, ◌∙◌, subst, eq-eqb}
use Rattle.std.specs.Prelude.{unwrap_or, find}
use Rattle.beas_core.specs.declared.schema.AccessId.{AccessId}
use Rattle.beas_core.specs.declared.schema.Access.{Access}
use Rattle.beas_core.specs.Derivations.{access_in, is_live}
use Rattle.beas_core.proofs.Sets.{Has}

abbrev no_access : AccessId → Access
no_access id = record { id = id; name = []; table = record { 0 = 0 }; key = []; fetched = []; bound = 0 }

-- the first of the list, where it has the id, and else the one among the rest
pub access_in-first : (a : Access) (accesses : List Access) (id : AccessId) → (a.id.0 == id.0) ≡ true → access_in (a ∷ accesses) id ≡ a
unfolding access_in
access_in-first a accesses id e =
    ap (λ b. unwrap_or (cond b (Some a) (find (λ c. c.id.0 == id.0) accesses)) (no_access id)) e

pub access_in-rest : (a : Access) (accesses : List Access) (id : AccessId) → (a.id.0 == id.0) ≡ false → access_in (a ∷ accesses) id ≡ access_in accesses id
unfolding access_in
access_in-rest a accesses id e =
    ap (λ b. unwrap_or (cond b (Some a) (find (λ c. c.id.0 == id.0) accesses)) (no_access id)) e

-- a live constraint is one of the list
pub access_in-member : (accesses : List Access) (id : AccessId) → is_live accesses id ≡ true → Has accesses (access_in accesses id)
access_in-member [] id live = cc
access_in-member (a ∷ accesses) id live = by (a.id.0 == id.0) refl live (access_in-member accesses id)
  where
    by : (b : Bool) → (a.id.0 == id.0) ≡ b → (b || is_live accesses id) ≡ true → (is_live accesses id ≡ true → Has accesses (access_in accesses id))
        → Has (a ∷ accesses) (access_in (a ∷ accesses) id)
    by true e l rest = inl (access_in-first a accesses id e)
    by false e l rest = inr (subst (Has accesses) (sym (access_in-rest a accesses id e)) (rest l))

-- and each of the list is live
pub is_live-member : (accesses : List Access) (a : Access) → Has accesses a → is_live accesses a.id ≡ true
is_live-member [] a h = absurd h
is_live-member (c ∷ accesses) a (inl e) = ap (λ b. b || is_live accesses a.id) (eq-eqb c.id.0 a.id.0 (ap (λ x. x.id.0) (sym e)))
is_live-member (c ∷ accesses) a (inr h) = by (c.id.0 == a.id.0) (is_live-member accesses a h)
  where
    by : (b : Bool) → is_live accesses a.id ≡ true → (b || is_live accesses a.id) ≡ true
    by true l = refl
    by false l = l

-- with more constraints after it, a live one stays what it is
pub is_live-append : (accesses more : List Access) (id : AccessId) → is_live accesses id ≡ true → is_live (accesses ++ more) id ≡ true
is_live-append [] more id live = cc
is_live-append (a ∷ accesses) more id live = by (a.id.0 == id.0) live (is_live-append accesses more id)
  where
    by : (b : Bool) → (b || is_live accesses id) ≡ true → (is_live accesses id ≡ true → is_live (accesses ++ more) id ≡ true)
        → (b || is_live (accesses ++ more) id) ≡ true
    by true l rest = refl
    by false l rest = rest l

pub access_in-append : (accesses more : List Access) (id : AccessId) → is_live accesses id ≡ true → access_in (accesses ++ more) id ≡ access_in accesses id
access_in-append [] more id live = cc
access_in-append (a ∷ accesses) more id live = by (a.id.0 == id.0) refl live (access_in-append accesses more id)
  where
    by : (b : Bool) → (a.id.0 == id.0) ≡ b → (b || is_live accesses id) ≡ true
        → (is_live accesses id ≡ true → access_in (accesses ++ more) id ≡ access_in accesses id)
        → access_in (a ∷ accesses ++ more) id ≡ access_in (a ∷ accesses) id
    by true e l rest = access_in-first a (accesses ++ more) id e ∙ sym (access_in-first a accesses id e)
    by false e l rest = access_in-rest a (accesses ++ more) id e ∙ rest l ∙ sym (access_in-rest a accesses id e)

-- a list of one constraint
pub access_in-only : (a : Access) (id : AccessId) → is_live (a ∷ []) id ≡ true → access_in (a ∷ []) id ≡ a
access_in-only a id live = by (a.id.0 == id.0) refl live
  where
    by : (b : Bool) → (a.id.0 == id.0) ≡ b → (b || false) ≡ true → access_in (a ∷ []) id ≡ a
    by true e l = access_in-first a [] id e
    by false e l = cc
