-- How what loads gave is tied to the files: to their contents, where those are told, and to the counts of faults.
--     AreTied limit loads before after       what loads of at most so many bytes each gave between two moments
use Rattle.std.specs.Prelude.{◌≡◌, ◌≢◌, ◌+◌, ◌*◌, ◌<◌, ◌≤◌, ◌&&◌, ℕ, Bool, true, false, List, length, All, Option, Some, IsSomeAnd}
use Rattle.std.specs.List.{count_by}
use Rattle.std.specs.Str.{bytes_eq}
use Rattle.outside.specs.Counts.{RoseBy}
use Rattle.outside.specs.Seen.{Seen}
use Rattle.session.specs.declared.loading.LoadOutcome.{LoadOutcome}
use Rattle.session.specs.declared.loading.LoadOutcome.TheVariants.{Content, Failed, TooLong}
use Rattle.session.specs.Turns.{FileLoad}

-- what the load of a name with this content gave, if it didn't fail: the content, or that it is longer than the limit
abbrev pub LoadFits : ℕ → Option (List ℕ) → LoadOutcome → Type 0
LoadFits limit content Failed = Unit {0}
LoadFits limit content TooLong = IsSomeAnd content (λ bytes. limit < length bytes)
LoadFits limit content (Content bytes) = content ≡ Some bytes

abbrev pub GaveContent : ℕ → Seen → FileLoad → Type 0
GaveContent limit files l = LoadFits limit (files.content l.name) l.outcome

abbrev pub LoadIsShort : ℕ → LoadOutcome → Type 0
LoadIsShort limit (Content bytes) = length bytes ≤ limit
LoadIsShort limit Failed = Unit {0}
LoadIsShort limit TooLong = Unit {0}

abbrev pub is_failed : LoadOutcome → Bool
is_failed Failed = true
is_failed (Content bytes) = false
is_failed TooLong = false

abbrev pub is_too_long : LoadOutcome → Bool
is_too_long TooLong = true
is_too_long (Content bytes) = false
is_too_long Failed = false

-- how many loads of a name failed
abbrev pub failures : List ℕ → List FileLoad → ℕ
failures name loads = count_by (λ l. bytes_eq l.name name && is_failed l.outcome) loads

-- the least number of bytes that were taken by the loads that found too many
abbrev pub bytes_past : ℕ → List FileLoad → ℕ
bytes_past limit loads = (limit + 1) * count_by (λ l. is_too_long l.outcome) loads

pub record AreTied (limit : ℕ) (loads : List FileLoad) (before after : Seen) : Type 0 where
  -- where contents are told, they say what each load that didn't fail gave
  pub contents : before.told ≡ true → All (GaveContent limit before) loads
  -- no load gave more bytes than the limit
  pub short : All (λ l. LoadIsShort limit l.outcome) loads
  -- a name's loads failed at most as often as its count of faults rose
  pub failed : (name : List ℕ) → RoseBy (failures name loads) (before.faults name) (after.faults name)
  -- where contents aren't told, a file is too long only where a byte past the limit was taken
  pub too_long : before.told ≢ true → RoseBy (bytes_past limit loads) before.taken after.taken
