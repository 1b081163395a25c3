-- Joined places as lists.
use Rattle.std.proofs.Common.{◌≡◌, ◌<◌, ◌≤◌, ◌+◌, ◌&&◌, ◌||◌, not, cond, ℕ, List, [], ◌∷◌, ◌++◌, length, map, ◌∙◌, ap, refl, arith, Bool, true, false}
use Rattle.std.specs.List.{filter, list_any, position_or_len}
use Rattle.std.proofs.lemmas.List.Folds.{list_any-append}
use Rattle.beas_core.specs.declared.query.Place.{Place}
use Rattle.beas_core.specs.declared.query.Block.{Block}
use Rattle.beas_core.specs.Classes.{same_place, is_joined, firsts, leaders, places_of, class_of}
use Rattle.reference_normal_form.specs.Joined.{has_place, joined_with}

-- Lists of joined places.
any_if : (b : Bool) (p : Place → Bool) (xs : List Place) → list_any p (cond b xs []) ≡ (b && list_any p xs)
any_if true p xs = refl
any_if false p xs = refl

-- the test of one more equality, of equal parts
bridged : (a a' b b' c c' d d' f f' : Bool) → a ≡ a' → b ≡ b' → c ≡ c' → d ≡ d' → f ≡ f' → ((a || (b && c)) || (d && f)) ≡ ((a' || (b' && c')) || (d' && f'))
bridged a a' b b' c c' d d' f f' ha hb hc hd hf =
    ap (λ x. (x || (b && c)) || (d && f)) ha
    ∙ ap (λ x. (a' || (x && c)) || (d && f)) hb
    ∙ ap (λ x. (a' || (b' && x)) || (d && f)) hc
    ∙ ap (λ x. (a' || (b' && c')) || (x && f)) hd
    ∙ ap (λ x. (a' || (b' && c')) || (d' && x)) hf

pub has_joined : (equalities : List (Place × Place)) (p q : Place) → has_place (joined_with equalities p) q ≡ is_joined equalities p q
has_joined [] p q = ors (same_place p q)
  where
    ors : (b : Bool) → (b || false) ≡ b
    ors true = refl
    ors false = refl
has_joined (e ∷ es) p q =
    list_any-append (λ x. same_place x q) (joined_with es p ++ cond (has_place (joined_with es p) e.0) (joined_with es e.1) [])
    (cond (has_place (joined_with es p) e.1) (joined_with es e.0) [])
    ∙ ap (λ b. b || has_place (cond (has_place (joined_with es p) e.1) (joined_with es e.0) []) q)
    (list_any-append (λ x. same_place x q) (joined_with es p) (cond (has_place (joined_with es p) e.0) (joined_with es e.1) []))
    ∙ ap (λ b. (has_place (joined_with es p) q || b) || has_place (cond (has_place (joined_with es p) e.1) (joined_with es e.0) []) q)
    (any_if (has_place (joined_with es p) e.0) (λ x. same_place x q) (joined_with es e.1))
    ∙ ap (λ b. (has_place (joined_with es p) q || (has_place (joined_with es p) e.0 && has_place (joined_with es e.1) q)) || b)
    (any_if (has_place (joined_with es p) e.1) (λ x. same_place x q) (joined_with es e.0))
    ∙ bridged (has_place (joined_with es p) q) (is_joined es p q) (has_place (joined_with es p) e.0) (is_joined es p e.0) (has_place (joined_with es e.1) q)
    (is_joined es e.1 q)
    (has_place (joined_with es p) e.1) (is_joined es p e.1) (has_place (joined_with es e.0) q) (is_joined es e.0 q)
    (has_joined es p q) (has_joined es p e.0) (has_joined es e.1 q) (has_joined es p e.1) (has_joined es e.0 q)

at_first : (equalities : List (Place × Place)) (p : Place) (ps : List Place)
    → position_or_len (λ group. has_place group p) (map (joined_with equalities) ps) ≡ position_or_len (λ q. is_joined equalities q p) ps
at_first es p [] = refl
at_first es p (q ∷ ps) =
    ap (λ b. cond (not b) (1 + position_or_len (λ group. has_place group p) (map (joined_with es) ps)) 0) (has_joined es q p)
    ∙ ap (λ n. cond (not (is_joined es q p)) (1 + n) 0) (at_first es p ps)

pub class_by_groups : (block : Block) (groups : List (List Place)) (p : Place) → groups ≡ map (joined_with block.equalities) (leaders block)
    → position_or_len (λ group. has_place group p) groups ≡ class_of block p
class_by_groups block groups p e = ap (position_or_len (λ group. has_place group p)) e ∙ at_first block.equalities p (leaders block)

if_kept : (b : Bool) (x : Place) (xs ys : List Place) → length xs ≤ length ys → length (cond b (x ∷ xs) xs) ≤ length (x ∷ ys)
if_kept true x xs ys h = omega (arith, h)
if_kept false x xs ys h = omega (arith, h)

shorter : (p : Place → Bool) (xs : List Place) → length (filter p xs) ≤ length xs
shorter p [] = omega arith
shorter p (x ∷ xs) = if_kept (p x) x (filter p xs) xs (shorter p xs)

few_firsts : (same : Place → Place → Bool) (ps : List Place) → length (firsts same ps) ≤ length ps
few_firsts same [] = omega arith
few_firsts same (p ∷ ps) = omega (arith, shorter (λ q. not (same p q)) (firsts same ps), few_firsts same ps)

pub few_leaders : (block : Block) → length (places_of block.atoms) < 65536 → length (leaders block) < 65536
few_leaders block few = omega (arith, few, few_firsts (is_joined block.equalities) (places_of block.atoms))

-- without the places that are joined with one, by their list
pub without_joined : (equalities : List (Place × Place)) (p : Place) (qs : List Place)
    → filter (λ q. not (has_place (joined_with equalities p) q)) qs ≡ filter (λ q. not (is_joined equalities p q)) qs
without_joined es p [] = refl
without_joined es p (q ∷ qs) =
    ap (λ b. cond (not b) (q ∷ filter (λ r. not (has_place (joined_with es p) r)) qs) (filter (λ r. not (has_place (joined_with es p) r)) qs))
    (has_joined es p q)
    ∙ ap (λ rs. cond (not (is_joined es p q)) (q ∷ rs) rs) (without_joined es p qs)
