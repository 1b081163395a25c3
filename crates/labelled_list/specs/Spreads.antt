-- Stretches of a labelled list whose labels are spread evenly.
--     IsStretch tuples stretch                the labels before and after the stretch lie at or outside its ends
--     parts_of stretch                        into how many parts its n tuples and one more cut it: n + 2
--     HasRoom stretch                         there is room for the stretch's tuples and one more
--     IsSparse stretch                        spread, its n tuples come to stand 2^8 n apart at least, so that a stretch is
--                                             the sparser the wider it is; then many tuples find room in its parts before it
--                                             is spread again (order maintenance: Dietz and Sleator, Two algorithms for
--                                             maintaining order in a list, 1987; Bender and others, Two simplified
--                                             algorithms for maintaining order in a list, 2002)
--     IsSpread old new first end low step     from `first` to `end` the labels are low + step, low + 2 step and so on;
--                                             the codes, the counts and all other labels stay
use Rattle.std.specs.Prelude.{◌≡◌, ◌<◌, ◌≤◌, ◌+◌, ◌-◌, ◌*◌, ◌^◌, ℕ, List, length, map}
use Rattle.labelled_list.specs.declared.slot.Standing.{Standing}
use Rattle.labelled_list.specs.declared.stretch.Stretch.{Stretch}
use Rattle.labelled_list.specs.Labels.{item_of, label_in}

pub record IsStretch (tuples : List (List ℕ × Standing)) (stretch : Stretch) : Type 0 where
  pub ordered : stretch.first ≤ stretch.end
  pub within : stretch.end ≤ length tuples
  pub open_between : stretch.low < stretch.high
  pub behind : (i : ℕ) → i < stretch.first → label_in tuples i ≤ stretch.low
  pub ahead : (i : ℕ) → stretch.end ≤ i → i < length tuples → stretch.high ≤ label_in tuples i

abbrev pub parts_of : Stretch → ℕ
parts_of stretch = stretch.end - stretch.first + 2

abbrev pub HasRoom : Stretch → Type 0
HasRoom stretch = stretch.low + parts_of stretch ≤ stretch.high

abbrev pub IsSparse : Stretch → Type 0
IsSparse stretch = 2 ^ 8 * parts_of stretch * parts_of stretch ≤ stretch.high - stretch.low

pub record IsSpread (old new : List (List ℕ × Standing)) (first end low step : ℕ) : Type 0 where
  pub same : map item_of new ≡ map item_of old
  pub even : (i : ℕ) → first ≤ i → i < end → label_in new i ≡ low + step * (i - first + 1)
  pub behind : (i : ℕ) → i < first → label_in new i ≡ label_in old i
  pub ahead : (i : ℕ) → end ≤ i → label_in new i ≡ label_in old i
