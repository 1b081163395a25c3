-- Which classes a block's constraints cover (Cao and Fan: An Effective Syntax for Bounded Relational Queries, SIGMOD 2016).
-- What is said of a whole query stands in Guiding.
--     uses normal accesses                 each atom with each constraint on its table, by atom and then in order of creation
--     start_classes normal is_guided       the classes that are bound before the first step
--     covered_set normal accesses start    the least set that holds the start and, of each use, the fetched classes where it holds those of the key
--     IsLeastClosed ..                     what makes it the least
--     serves normal set u                  the set holds the key's classes, and the atom's needed columns are all in key or fetched
--     is_covered normal accesses set       the set holds each needed column's class, and each atom has a use that serves it
--     reason normal accesses set           the first needed column whose class isn't in the set, else the first atom that nothing serves
use Rattle.std.specs.Prelude.{◌&&◌, ◌||◌, ◌==◌, ◌<◌, if◌then◌else◌, Bool, true, false, not, ℕ, zero, suc, List, [], length, map, filter, flat_map, fold, find, replicate, slice_index_or, slice_set, IsTrue, All, Contains, Option, option_map}
use Rattle.std.specs.List.{list_any, list_all, enumerate_from, range_with_len}
use Rattle.std.specs.Option.{option_or}
use Rattle.beas_core.specs.declared.schema.ColumnId.{ColumnId}
use Rattle.beas_core.specs.declared.schema.Access.{Access}
use Rattle.beas_core.specs.declared.query.Place.{Place}
use Rattle.beas_core.specs.declared.plan.Normal.{Normal}
use Rattle.beas_core.specs.declared.plan.NotCovered.{NotCovered}
use Rattle.beas_core.specs.declared.plan.NotCovered.TheVariants.{ColumnOpen, AtomUnindexed}
use Rattle.beas_core.specs.Types.{ClassSet, Use}
use Rattle.beas_core.specs.Groups.{member_columns, has_column}

abbrev pub has : ClassSet → ℕ → Bool
has set class = slice_index_or set class false

abbrev pub with_classes : ClassSet → List ℕ → ClassSet
with_classes set classes = fold (λ s c. slice_set s c true) set classes

-- the class of a column of an atom
abbrev pub class_at : Normal → ℕ → ColumnId → ℕ
class_at normal atom column = slice_index_or (slice_index_or normal.classes atom []) column.0 0

abbrev pub place_class : Normal → Place → ℕ
place_class normal place = class_at normal place.atom place.column

-- every class is one of those that the normal form counts
abbrev pub ClassesInRange : Normal → Type 0
ClassesInRange normal = (atom : ℕ) (column : ColumnId) → class_at normal atom column < normal.count

-- so is every class that is equated with a constant
abbrev pub ConstantsInRange : Normal → Type 0
ConstantsInRange normal = All (λ c. c.0 < normal.count) normal.constants

-- the classes that are equated with a constant
abbrev pub constant_classes : Normal → ClassSet
constant_classes normal = with_classes (replicate normal.count false) (map (λ c. c.0) normal.constants)

abbrev pub output_classes : Normal → List ℕ
output_classes normal = map (place_class normal) normal.output

-- a block by itself starts with its constant classes, a guided one with those of its output too
abbrev pub start_classes : Normal → Bool → ClassSet
start_classes normal is_guided = if is_guided then with_classes (constant_classes normal) (output_classes normal) else constant_classes normal

abbrev pub uses : Normal → List Access → List Use
uses normal accesses =
    flat_map (λ a. map (λ access. record { atom = a.0; access = access }) (filter (λ access. access.table.0 == a.1.table.0) accesses))
    (enumerate_from 0 normal.atoms)

abbrev pub key_classes : Normal → Use → List ℕ
key_classes normal u = map (class_at normal u.atom) u.access.key

abbrev pub fetched_classes : Normal → Use → List ℕ
fetched_classes normal u = map (class_at normal u.atom) u.access.fetched

abbrev pub holds_classes : ClassSet → List ℕ → Bool
holds_classes set classes = list_all (has set) classes

-- the set, with what every use adds whose key it holds
abbrev pub grow : Normal → List Access → ClassSet → ClassSet
grow normal accesses set =
    map (λ c. has set c || list_any (λ u. holds_classes set (key_classes normal u) && list_any (λ d. d == c) (fetched_classes normal u)) (uses normal accesses))
    (range_with_len 0 normal.count)

abbrev pub grow_times : ℕ → Normal → List Access → ClassSet → ClassSet
grow_times zero normal accesses set = set
grow_times (suc n) normal accesses set = grow normal accesses (grow_times n normal accesses set)

-- each turn but the last adds a class, so there are no more turns than classes
unfoldable pub covered_set : Normal → List Access → ClassSet → ClassSet
covered_set normal accesses start = grow_times normal.count normal accesses start

abbrev pub Within : ClassSet → ClassSet → Type 0
Within small large = (c : ℕ) → IsTrue (has small c) → IsTrue (has large c)

abbrev pub IsClosed : Normal → List Access → ClassSet → Type 0
IsClosed normal accesses set = (u : Use) → Contains (uses normal accesses) u → IsTrue (holds_classes set (key_classes normal u))
    → IsTrue (holds_classes set (fetched_classes normal u))

pub record IsLeastClosed (normal : Normal) (accesses : List Access) (start set : ClassSet) : Type 0 where
  pub from_start : Within start set
  pub closed : IsClosed normal accesses set
  pub least : (other : ClassSet) → Within start other → IsClosed normal accesses other → Within set other

abbrev pub needed_of : Normal → ℕ → List ColumnId
needed_of normal atom = slice_index_or normal.needed atom []

-- each needed column of each atom, by atom and then column
abbrev pub needed_places : Normal → List Place
needed_places normal = flat_map (λ n. map (λ c. record { atom = n.0; column = c }) n.1) (enumerate_from 0 normal.needed)

abbrev pub holds_needed : Normal → Use → Bool
holds_needed normal u = list_all (has_column (member_columns u.access)) (needed_of normal u.atom)

abbrev pub serves : Normal → ClassSet → Use → Bool
serves normal set u = holds_classes set (key_classes normal u) && holds_needed normal u

abbrev pub is_served : Normal → List Access → ClassSet → ℕ → Bool
is_served normal accesses set atom = list_any (λ u. (u.atom == atom) && serves normal set u) (uses normal accesses)

abbrev pub is_open : Normal → ClassSet → Place → Bool
is_open normal set place = not (has set (place_class normal place))

abbrev pub atoms_of : Normal → List ℕ
atoms_of normal = range_with_len 0 (length normal.atoms)

unfoldable pub is_covered : Normal → List Access → ClassSet → Bool
is_covered normal accesses set =
    not (list_any (is_open normal set) (needed_places normal)) && list_all (is_served normal accesses set) (atoms_of normal)

unfoldable pub reason : Normal → List Access → ClassSet → Option NotCovered
reason normal accesses set =
    option_or
    (option_map (λ p. ColumnOpen p.atom p.column) (find (is_open normal set) (needed_places normal)))
    (option_map (λ atom. AtomUnindexed atom) (find (λ atom. not (is_served normal accesses set atom)) (atoms_of normal)))

-- of a block by itself: what it covers from its constants
abbrev pub own_cover : Normal → List Access → ClassSet
own_cover normal accesses = covered_set normal accesses (constant_classes normal)

abbrev pub own_is_covered : Normal → List Access → Bool
own_is_covered normal accesses = is_covered normal accesses (own_cover normal accesses)

abbrev pub own_reason : Normal → List Access → Option NotCovered
own_reason normal accesses = reason normal accesses (own_cover normal accesses)
