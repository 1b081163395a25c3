-- Derivations: the steps by which a block's rows are fetched. A step uses a constraint on an atom; `accesses` are the live constraints,
-- and `start` is the set of classes that are bound before the first step. Which of the steps then go stands in Pruning.
--     access_in accesses id                    the live constraint with this id
--     bound_after normal accesses start steps  the classes bound after these steps
--     IsSound normal accesses start steps      the steps fetch all that the block needs, and each says rightly whether it adds a class
--     greedy_steps normal accesses start       the steps that are taken before any is dropped, nothing where the block isn't covered
use Rattle.std.specs.Prelude.{◌&&◌, ◌==◌, Bool, true, not, if◌then◌else◌, nat_lt, ℕ, zero, suc, List, [], ◌∷◌, ◌++◌, length, map, filter, fold, find, slice_index_or, IsTrue, All, Option, Some, None, option_map, unwrap_or}
use Rattle.std.specs.List.{list_any, list_all, best_of}
use Rattle.beas_core.specs.declared.schema.AccessId.{AccessId}
use Rattle.beas_core.specs.declared.schema.TableId.{TableId}
use Rattle.beas_core.specs.declared.schema.Access.{Access}
use Rattle.beas_core.specs.declared.plan.DStep.{DStep}
use Rattle.beas_core.specs.declared.plan.Normal.{Normal}
use Rattle.beas_core.specs.Types.{ClassSet, Use}
use Rattle.beas_core.specs.Groups.{member_columns}
use Rattle.beas_core.specs.Coverage.{with_classes, class_at, uses, key_classes, fetched_classes, holds_classes, needed_places, holds_needed, serves, is_open, is_covered, atoms_of}

-- the constraint with this id, and one that fetches nothing where there is none
unfoldable pub access_in : List Access → AccessId → Access
access_in accesses id = unwrap_or (find (λ a. a.id.0 == id.0) accesses)
    (record { id = id; name = []; table = record { 0 = 0 }; key = []; fetched = []; bound = 0 })

abbrev pub is_live : List Access → AccessId → Bool
is_live accesses id = list_any (λ a. a.id.0 == id.0) accesses

-- the table of an atom
abbrev pub table_of : Normal → ℕ → TableId
table_of normal atom = slice_index_or (map (λ a. a.table) normal.atoms) atom (record { 0 = 0 })

-- the classes of key and fetched columns of a use of a constraint on an atom
abbrev pub member_classes : Normal → Use → List ℕ
member_classes normal u = map (class_at normal u.atom) (member_columns u.access)

abbrev pub use_of : List Access → DStep → Use
use_of accesses s = record { atom = s.atom; access = access_in accesses s.access }

abbrev pub bound_by : Normal → List Access → ClassSet → DStep → ClassSet
bound_by normal accesses set s = with_classes set (member_classes normal (use_of accesses s))

abbrev pub bound_after : Normal → List Access → ClassSet → List DStep → ClassSet
bound_after normal accesses start steps = fold (bound_by normal accesses) start steps

-- whether each step passes a test on the classes bound before it
abbrev pub each_step : Normal → List Access → (ClassSet → DStep → Bool) → ClassSet → List DStep → Bool
each_step normal accesses test set [] = true
each_step normal accesses test set (s ∷ steps) = test set s && each_step normal accesses test (bound_by normal accesses set s) steps

abbrev pub adds_class : Normal → ClassSet → Use → Bool
adds_class normal set u = not (holds_classes set (fetched_classes normal u))

abbrev pub is_on_table : Normal → List Access → DStep → Bool
is_on_table normal accesses s = nat_lt s.atom (length normal.atoms) && ((table_of normal s.atom).0 == (access_in accesses s.access).table.0)

abbrev pub key_is_bound : Normal → List Access → ClassSet → DStep → Bool
key_is_bound normal accesses set s = holds_classes set (key_classes normal (use_of accesses s))

abbrev pub adds_rightly : Normal → List Access → ClassSet → DStep → Bool
adds_rightly normal accesses set s = if s.adds then adds_class normal set (use_of accesses s) else not (adds_class normal set (use_of accesses s))

-- whether some step on the atom has all its needed columns in key or fetched
abbrev pub is_served_by : Normal → List Access → List DStep → ℕ → Bool
is_served_by normal accesses steps atom = list_any (λ s. (s.atom == atom) && holds_needed normal (use_of accesses s)) steps

-- what may be tested of the front part of a derivation: each step is on its atom's table, has its key bound, and says rightly whether it adds
abbrev pub steps_are_sound : Normal → List Access → ClassSet → List DStep → Bool
steps_are_sound normal accesses start steps =
    list_all (is_on_table normal accesses) steps
    && each_step normal accesses (key_is_bound normal accesses) start steps
    && each_step normal accesses (adds_rightly normal accesses) start steps

-- and of the whole: all that the block needs is bound, and each atom has a step that holds its needed columns
abbrev pub is_sound : Normal → List Access → ClassSet → List DStep → Bool
is_sound normal accesses start steps =
    steps_are_sound normal accesses start steps
    && not (list_any (is_open normal (bound_after normal accesses start steps)) (needed_places normal))
    && list_all (is_served_by normal accesses steps) (atoms_of normal)

pub record IsSound (normal : Normal) (accesses : List Access) (start : ClassSet) (steps : List DStep) : Type 0 where
  pub live : All (λ s. IsTrue (is_live accesses s.access)) steps
  pub sound : IsTrue (is_sound normal accesses start steps)

-- the first of those with the least bound
abbrev pub least_bound : List Use → Option Use
least_bound [] = None
least_bound (u ∷ us) = Some (best_of (λ v w. nat_lt v.access.bound w.access.bound) u us)

abbrev pub step_of : Normal → ClassSet → Use → DStep
step_of normal set u = record { atom = u.atom; access = u.access.id; adds = adds_class normal set u }

abbrev pub with_use : Normal → ClassSet → Use → ClassSet
with_use normal set u = with_classes set (member_classes normal u)

-- the uses whose key the set holds and that add a class to it
abbrev pub enabled_uses : Normal → List Access → ClassSet → List Use
enabled_uses normal accesses set = filter (λ u. holds_classes set (key_classes normal u) && adds_class normal set u) (uses normal accesses)

abbrev pub then_step : {A : Type 0} → Option Use → A → (Use → A) → A
then_step None none some = none
then_step (Some u) none some = some u

-- while the block isn't covered for the set: the enabled use of least bound, by atom and then in order of creation where equal
abbrev pub adding_steps : ℕ → Normal → List Access → ClassSet → Option (List DStep)
adding_steps zero normal accesses set = if is_covered normal accesses set then Some [] else None
adding_steps (suc n) normal accesses set =
    if is_covered normal accesses set then Some []
    else then_step (least_bound (enabled_uses normal accesses set)) None
    (λ u. option_map (λ steps. step_of normal set u ∷ steps) (adding_steps n normal accesses (with_use normal set u)))

-- then, for each atom in order that no step serves: the use of least bound that serves it
abbrev pub serving_steps : Normal → List Access → List DStep → ClassSet → List ℕ → List DStep
serving_steps normal accesses steps set [] = []
serving_steps normal accesses steps set (atom ∷ atoms) =
    if is_served_by normal accesses steps atom then serving_steps normal accesses steps set atoms
    else then_step (least_bound (filter (λ u. (u.atom == atom) && serves normal set u) (uses normal accesses)))
    (serving_steps normal accesses steps set atoms)
    (λ u. step_of normal set u ∷ serving_steps normal accesses steps (with_use normal set u) atoms)

unfoldable pub greedy_steps : Normal → List Access → ClassSet → Option (List DStep)
greedy_steps normal accesses start =
    option_map (λ steps. steps ++ serving_steps normal accesses steps (bound_after normal accesses start steps) (atoms_of normal))
    (adding_steps normal.count normal accesses start)
