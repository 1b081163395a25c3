-- Entries that are found by the order of their keys, by a map for each step.
--     kept_under maps step key        the entry that the maps keep under a step and a key, or none
--     HasSame old new                 the maps keep under each step and key what the old ones did
--     Keeps old new step key entry    the maps keep this entry there, and under any other step or key what the old ones did
--     IsPlaced old new step key entry own hash     the hash is the entry's own, and the maps keep what they did; or else they keep the entry
use Rattle.std.specs.Prelude.{◌≡◌, ℕ, zero, suc, ◌⊎◌, [], ◌∷◌, List, Option, None, Some, Vec}
use Rattle.std.specs.BTreeMap.{BTreeMap, get_by}
use Rattle.std.specs.declared.alloc.Global.{Global}
use Rattle.beas_core.specs.declared.value.Value.{Value}
use Rattle.beas_core.specs.Order.{row_cmp}
use Rattle.beas_core.specs.Types.{Row}

abbrev pub Maps : Type 0
Maps = List (BTreeMap (Vec Value Global) ℕ)

abbrev pub kept_in : BTreeMap (Vec Value Global) ℕ → Row → Option ℕ
kept_in map key = get_by (λ k. row_cmp key k.items) map

abbrev pub kept_under : Maps → ℕ → Row → Option ℕ
kept_under [] step key = None
kept_under (m ∷ ms) zero key = kept_in m key
kept_under (m ∷ ms) (suc step) key = kept_under ms step key

abbrev pub HasSame : Maps → Maps → Type 0
HasSame old new = (step : ℕ) (key : Row) → kept_under new step key ≡ kept_under old step key

pub record Keeps (old new : Maps) (step : ℕ) (key : Row) (entry : ℕ) : Type 0 where
  pub here : kept_under new step key ≡ Some entry
  pub elsewhere : (s : ℕ) (k : Row) → ((s ≡ step) × (k ≡ key) → ⊥) → kept_under new s k ≡ kept_under old s k

abbrev pub IsPlaced : Maps → Maps → ℕ → Row → ℕ → ℕ → ℕ → Type 0
IsPlaced old new step key entry own hash = ((hash ≡ own) × HasSame old new) ⊎ Keeps old new step key entry
