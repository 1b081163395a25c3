-- The constraint with an id, found by a walk or by its place.
use Rattle.std.proofs.Common.{◌≡◌, ◌≢◌, ◌==◌, ◌||◌, ◌<◌, ◌≤◌, ◌+◌, ℕ, zero, suc, Bool, true, false, cond, List, [], ◌∷◌, length, drop, get_or, Some, refl, ap, sym, ◌∙◌, arith, drop-cons, add-one}
use Rattle.std.specs.List.{find}
use Rattle.std.specs.Option.{unwrap_or}
use Rattle.std.proofs.lemmas.Bool.{eqb-true, eq-eqb}
use Rattle.std.proofs.lemmas.List.{drop_all}
use Rattle.beas_core.specs.declared.schema.AccessId.{AccessId}
use Rattle.beas_core.specs.declared.schema.Access.{Access}
use Rattle.beas_core.specs.Derivations.{access_in, is_live}
use Rattle.beas_core.specs.Shapes.{EachIdOnce}

not_same : (a b : ℕ) → a ≢ b → (a == b) ≡ false
not_same a b h = by (a == b) refl
  where
    by : (c : Bool) → (a == b) ≡ c → c ≡ false
    by true e = absurd (h (eqb-true a b e))
    by false e = refl

head_is : (a : Access) (accesses : List Access) (id : AccessId) → a.id.0 ≡ id.0 → access_in (a ∷ accesses) id ≡ a
unfolding access_in
head_is a accesses id e = ap (λ b. unwrap_or (cond b (Some a) (find (λ c. c.id.0 == id.0) accesses))
    (record { id = id; name = []; table = record { 0 = 0 }; key = []; fetched = []; bound = 0 })) (eq-eqb a.id.0 id.0 e)

head_is_not : (a : Access) (accesses : List Access) (id : AccessId) → a.id.0 ≢ id.0 → access_in (a ∷ accesses) id ≡ access_in accesses id
unfolding access_in
head_is_not a accesses id h = ap (λ b. unwrap_or (cond b (Some a) (find (λ c. c.id.0 == id.0) accesses))
    (record { id = id; name = []; table = record { 0 = 0 }; key = []; fetched = []; bound = 0 })) (not_same a.id.0 id.0 h)

one_more : (accesses : List Access) (i : ℕ) (d : Access) → i < length accesses → drop i accesses ≡ get_or accesses i d ∷ drop (i + 1) accesses
one_more accesses i d l = drop-cons accesses i d l ∙ ap (λ k. get_or accesses i d ∷ drop k accesses) (sym (add-one i))

pub found_here : (accesses : List Access) (id : AccessId) (i : ℕ) (d : Access) → i < length accesses → (get_or accesses i d).id.0 ≡ id.0
    → access_in (drop i accesses) id ≡ get_or accesses i d
found_here accesses id i d l e = ap (λ xs. access_in xs id) (one_more accesses i d l) ∙ head_is (get_or accesses i d) (drop (i + 1) accesses) id e

pub found_later : (accesses : List Access) (id : AccessId) (i : ℕ) (d : Access) → i < length accesses → (get_or accesses i d).id.0 ≢ id.0
    → access_in (drop i accesses) id ≡ access_in (drop (i + 1) accesses) id
found_later accesses id i d l h = ap (λ xs. access_in xs id) (one_more accesses i d l) ∙ head_is_not (get_or accesses i d) (drop (i + 1) accesses) id h

pub live_later : (accesses : List Access) (id : AccessId) (i : ℕ) (d : Access) → i < length accesses → (get_or accesses i d).id.0 ≢ id.0
    → is_live (drop i accesses) id ≡ is_live (drop (i + 1) accesses) id
live_later accesses id i d l h =
    ap (λ xs. is_live xs id) (one_more accesses i d l) ∙ ap (λ b. b || is_live (drop (i + 1) accesses) id) (not_same (get_or accesses i d).id.0 id.0 h)

pub live_nowhere : (accesses : List Access) (id : AccessId) (i : ℕ) → length accesses ≤ i → is_live (drop i accesses) id ≡ false
live_nowhere accesses id i l = ap (λ xs. is_live xs id) (drop_all i accesses l)

-- a constraint that isn't live has no bound
pub no_bound : (accesses : List Access) (id : AccessId) → is_live accesses id ≡ false → (access_in accesses id).bound ≡ 0
unfolding access_in
no_bound [] id h = refl
no_bound (a ∷ accesses) id h = by (a.id.0 == id.0) h (no_bound accesses id)
  where
    by : (b : Bool) → (b || is_live accesses id) ≡ false → (is_live accesses id ≡ false → (access_in accesses id).bound ≡ 0)
        → (unwrap_or (cond b (Some a) (find (λ c. c.id.0 == id.0) accesses))
        (record { id = id; name = []; table = record { 0 = 0 }; key = []; fetched = []; bound = 0 })).bound ≡ 0
    by true g later = cc
    by false g later = later g

rest_of : (a : Access) (accesses : List Access) → EachIdOnce (a ∷ accesses) → EachIdOnce accesses
rest_of a accesses h i j d l m = h (suc i) (suc j) d (omega arith) (omega arith)

pub found_at : (accesses : List Access) (id : AccessId) (i : ℕ) (d : Access) → EachIdOnce accesses → i < length accesses → (get_or accesses i d).id.0 ≡ id.0
    → access_in accesses id ≡ get_or accesses i d
found_at [] id i d once l e = absurd (omega (arith, l))
found_at (a ∷ accesses) id zero d once l e = head_is a accesses id e
found_at (a ∷ accesses) id (suc i) d once l e =
    head_is_not a accesses id (λ h. once 0 (suc i) d (omega arith) l (h ∙ sym e))
    ∙ found_at accesses id i d (rest_of a accesses once) (omega arith) e
