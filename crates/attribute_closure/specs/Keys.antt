-- How many key classes of each use of a constraint a set of classes lacks. Uses are known by their number in a list.
--     times x xs                 how often a number stands in a list
--     AreCounted normal us set missing waiting ready
--         missing has that count for each use, waiting has for each class the uses with it in their keys, once for each
--         key column of it, and ready has the uses that lack none
use Rattle.std.specs.Prelude.{◌≡◌, ◌==◌, ◌+◌, ◌<◌, ◌&&◌, ◌||◌, if◌then◌else◌, Bool, true, false, not, ℕ, List, [], ◌∷◌, length, map, slice_index_or, take, All, IsTrue}
use Rattle.std.specs.List.{list_any}
use Rattle.beas_core.specs.declared.plan.Normal.{Normal}
use Rattle.beas_core.specs.Types.{ClassSet, Use}
use Rattle.beas_core.specs.declared.schema.Access.{Access}
use Rattle.beas_core.specs.Coverage.{has, key_classes, fetched_classes, holds_classes, Within, IsClosed}
use Rattle.attribute_closure.specs.declared.keys.Keys.{Keys}
use Rattle.attribute_closure.specs.Uses.{as_use, use_at}

abbrev pub bit : Bool → ℕ
bit true = 1
bit false = 0

-- how many numbers pass a test
abbrev pub count : (ℕ → Bool) → List ℕ → ℕ
count test [] = 0
count test (x ∷ xs) = bit (test x) + count test xs

abbrev pub times : ℕ → List ℕ → ℕ
times x xs = count (λ y. y == x) xs

abbrev pub among : List ℕ → ℕ → Bool
among xs x = list_any (λ y. y == x) xs

abbrev pub number_at : List ℕ → ℕ → ℕ
number_at xs i = slice_index_or xs i 0

abbrev pub list_at : List (List ℕ) → ℕ → List ℕ
list_at lists i = slice_index_or lists i []

-- how many of some classes a set lacks
abbrev pub lacking : ClassSet → List ℕ → ℕ
lacking set classes = count (λ c. not (has set c)) classes

abbrev pub some_left : List ℕ → ℕ
some_left missing = count (λ m. not (m == 0)) missing

pub record AreCounted (normal : Normal) (us : List Use) (set : ClassSet) (missing : List ℕ) (waiting : List (List ℕ)) (ready : List ℕ) : Type 0 where
  pub classes : length set ≡ normal.count
  pub lists : length waiting ≡ normal.count
  pub counts : length missing ≡ length us
  pub lacks : (w : ℕ) → w < length us → number_at missing w ≡ lacking set (key_classes normal (use_at us w))
  pub waits : (c w : ℕ) → c < normal.count → w < length us → times w (list_at waiting c) ≡ times c (key_classes normal (use_at us w))
  pub inside : (c : ℕ) → c < normal.count → All (λ w. w < length us) (list_at waiting c)
  pub ready_is : (w : ℕ) → w < length us → among ready w ≡ (number_at missing w == 0)
  pub ready_inside : All (λ w. w < length us) ready
  pub together : length ready + some_left missing ≡ length us

abbrev pub KeysAreCounted : Normal → Keys → Type 0
KeysAreCounted normal keys = AreCounted normal (map as_use keys.uses) keys.set.items keys.missing.items keys.waiting.items keys.ready

-- a list that goes on as another began
abbrev pub GoesOn : List ℕ → List ℕ → Type 0
GoesOn old new = take (length old) new ≡ old

-- what it comes to that the uses with these numbers lack one class less each
pub record CountedDown (numbers missing_old missing_new ready_old ready_new : List ℕ) : Type 0 where
  pub counts : length missing_new ≡ length missing_old
  pub lacks : (w : ℕ) → w < length missing_old → number_at missing_new w + times w numbers ≡ number_at missing_old w
  pub ready_is : (w : ℕ) → w < length missing_old → among ready_new w ≡ (among ready_old w || (among numbers w && (number_at missing_new w == 0)))
  pub ready_inside : All (λ w. w < length missing_old) ready_old → All (λ w. w < length missing_old) ready_new
  pub together : length ready_new + some_left missing_new ≡ length ready_old + some_left missing_old
  pub goes_on : GoesOn ready_old ready_new

-- what it comes to that a use waits for these classes, one after another
pub record WaitsFor (count number : ℕ) (classes : List ℕ) (old new : List (List ℕ)) : Type 0 where
  pub lists : length new ≡ length old
  pub waits : (c w : ℕ) → c < count → times w (list_at new c) ≡ times w (list_at old c) + (if number == w then times c classes else 0)
  pub inside : (n c : ℕ) → number < n → c < count → All (λ w. w < n) (list_at old c) → All (λ w. w < n) (list_at new c)

-- how far the closure has come: the set holds the start, is in each closed set that does, and holds the fetched classes of the first ready uses
pub record Closing (normal : Normal) (us : List Use) (accesses : List Access) (start : ClassSet) (number : ℕ) (set : ClassSet) (ready : List ℕ) : Type 0 where
  pub from_start : Within start set
  pub least : (other : ClassSet) → Within start other → IsClosed normal accesses other → Within set other
  pub done : (k : ℕ) → k < number → IsTrue (holds_classes set (fetched_classes normal (use_at us (number_at ready k))))
