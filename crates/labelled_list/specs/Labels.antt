-- Tuples of codes in an order that only the writer knows. Each lies once in a map, from its codes to its count and its
-- label, and a list of slots gives the order: a slot names its tuple by its place in the map.
--     no_tuple                      what stands for a tuple where there is none
--     entry_at entries slot         the tuple that a slot names
--     passes test entries slot      the codes of the tuple that a slot names pass a test; where it names none they don't
--     in_order entries slots        the tuples in the order of the slots
--     item_of tuple                 its codes and its count: what callers see
--     items_of entries slots        the items in the order of the slots
--     AreDistinct items             no two items have the same codes
--     label_in tuples i              the label of the tuple at a place
--     Rises tuples                  the labels rise, above 0 and below the greatest number
--     ArePlaces n slots             each of the map's n places is named by one slot
--     IsLabelled entries slots        both, and there are fewer than 2^32 tuples
--     SitsAt tuples at label         a label between those before a place and those from it on
use Rattle.std.specs.Prelude.{◌≡◌, ◌≢◌, ◌<◌, ◌≤◌, ◌-◌, ◌^◌, ℕ, Bool, false, List, [], length, map, slice_get, slice_index_or}
use Rattle.std.specs.Option.{option_map_or}
use Rattle.labelled_list.specs.declared.coded.Coded.{Coded}
use Rattle.labelled_list.specs.declared.slot.Slot.{Slot}
use Rattle.labelled_list.specs.declared.slot.Standing.{Standing}

abbrev pub no_tuple : List ℕ × Standing
no_tuple = ([], record { count = 0; label = 0 })

abbrev pub entry_at : List (List ℕ × Standing) → Slot → List ℕ × Standing
entry_at entries slot = slice_index_or entries slot.entry no_tuple

abbrev pub passes : (List ℕ → Bool) → List (List ℕ × Standing) → Slot → Bool
passes test entries slot = option_map_or (λ tuple. test tuple.0) (slice_get entries slot.entry) false

abbrev pub in_order : List (List ℕ × Standing) → List Slot → List (List ℕ × Standing)
in_order entries slots = map (entry_at entries) slots

abbrev pub item_of : List ℕ × Standing → Coded
item_of tuple = record { codes = tuple.0; count = tuple.1.count }

abbrev pub items_of : List (List ℕ × Standing) → List Slot → List Coded
items_of entries slots = map item_of (in_order entries slots)

abbrev pub AreDistinct : List Coded → Type 0
AreDistinct items = (i j : ℕ) (d : Coded) → i < j → j < length items → (slice_index_or items i d).codes ≢ (slice_index_or items j d).codes

abbrev pub label_in : List (List ℕ × Standing) → ℕ → ℕ
label_in tuples i = (slice_index_or tuples i no_tuple).1.label

pub record Rises (tuples : List (List ℕ × Standing)) : Type 0 where
  pub rises : (i j : ℕ) → i < j → j < length tuples → label_in tuples i < label_in tuples j
  pub above : (i : ℕ) → i < length tuples → 0 < label_in tuples i
  pub below : (i : ℕ) → i < length tuples → label_in tuples i < 2 ^ 64 - 1

pub record ArePlaces (n : ℕ) (slots : List Slot) : Type 0 where
  pub all : length slots ≡ n
  pub within : (i : ℕ) (d : Slot) → i < length slots → (slice_index_or slots i d).entry < n
  pub apart : (i j : ℕ) (d : Slot) → i < length slots → j < length slots
      → (slice_index_or slots i d).entry ≡ (slice_index_or slots j d).entry → i ≡ j
  pub named : (e : ℕ) → e < n → (i : ℕ) × (i < length slots) × ((d : Slot) → (slice_index_or slots i d).entry ≡ e)

pub record IsLabelled (entries : List (List ℕ × Standing)) (slots : List Slot) : Type 0 where
  pub places : ArePlaces (length entries) slots
  pub labels : Rises (in_order entries slots)
  pub few : length slots < 2 ^ 32

pub record SitsAt (tuples : List (List ℕ × Standing)) (at label : ℕ) : Type 0 where
  pub above : 0 < label
  pub below : label < 2 ^ 64 - 1
  pub behind : (i : ℕ) → i < at → label_in tuples i < label
  pub ahead : (i : ℕ) → at ≤ i → i < length tuples → label < label_in tuples i
