-- The uses whose key is bound, as a derivation grows. Uses are known by their number in a list.
--     later                          the order of the queue: a greater bound comes later, and the greater number where bounds are equal
--     IsEntry normal us set e        the entry of a use whose key the set holds
--     AreWaiting normal us set es    the queue has an entry of each such use that adds a class
--     AreLeft normal us set u es     so it has, but for those that add none once u is taken
--     AreServed normal us set bs     for each atom whether such a use holds its needed columns
use Rattle.std.specs.Prelude.{◌≡◌, ◌<◌, ◌==◌, ◌&&◌, ℕ, Bool, true, false, List, length, map, filter, slice_index_or, All, Contains}
use Rattle.std.specs.List.{list_any}
use Rattle.std.specs.Ordering.{nat_cmp, ordering_then}
use Rattle.std.specs.BinaryHeap.{IsHeap, heap_items}
use Rattle.std.specs.declared.cmp.Ordering.{Ordering}
use Rattle.std.specs.declared.cmp.Reverse.{Reverse}
use Rattle.beas_core.specs.declared.plan.Normal.{Normal}
use Rattle.beas_core.specs.Types.{ClassSet, Use}
use Rattle.beas_core.specs.Coverage.{holds_classes, holds_needed, key_classes, serves}
use Rattle.beas_core.specs.Derivations.{adds_class, with_use}
use Rattle.attribute_closure.specs.Keys.{KeysAreCounted}
use Rattle.attribute_closure.specs.Uses.{as_use, use_at}
use Rattle.plan_builder.specs.declared.candidates.Candidates.{Candidates}
use Rattle.plan_builder.specs.Choices.{may_add}

abbrev pub Entry : Type 0
Entry = Reverse (ℕ × ℕ)

abbrev pub later : Entry → Entry → Ordering
later d e = ordering_then (nat_cmp e.0.0 d.0.0) (nat_cmp e.0.1 d.0.1)

abbrev pub entry_of : List Use → ℕ → Entry
entry_of us w = record { 0 = ((use_at us w).access.bound, w) }

pub record IsEntry (normal : Normal) (us : List Use) (set : ClassSet) (e : Entry) : Type 0 where
  pub number : e.0.1 < length us
  pub bound : e.0.0 ≡ (use_at us e.0.1).access.bound
  pub held : holds_classes set (key_classes normal (use_at us e.0.1)) ≡ true

pub record AreWaiting (normal : Normal) (us : List Use) (set : ClassSet) (entries : List Entry) : Type 0 where
  pub order : IsHeap later entries
  pub each : All (IsEntry normal us set) entries
  pub all : (w : ℕ) → w < length us → may_add normal set (use_at us w) ≡ true → Contains entries (entry_of us w)

pub record AreLeft (normal : Normal) (us : List Use) (set : ClassSet) (taken : Use)
    (entries : List Entry) : Type 0 where
  pub order : IsHeap later entries
  pub each : All (IsEntry normal us set) entries
  pub all : (w : ℕ) → w < length us → may_add normal set (use_at us w) ≡ true
      → adds_class normal (with_use normal set taken) (use_at us w) ≡ true → Contains entries (entry_of us w)

pub record AreServed (normal : Normal) (us : List Use) (set : ClassSet) (served : List Bool) : Type 0 where
  pub atoms : length served ≡ length normal.atoms
  pub only : (a : ℕ) → slice_index_or served a false ≡ true
      → list_any (λ u. (u.atom == a) && serves normal set u) us ≡ true
  pub all : (w : ℕ) → w < length us → serves normal set (use_at us w) ≡ true
      → slice_index_or served (use_at us w).atom false ≡ true

-- the atoms of those uses that hold their needed columns
abbrev pub atoms_served : Normal → List Use → List ℕ → List ℕ
atoms_served normal us numbers = map (λ u. u.atom) (filter (holds_needed normal) (map (use_at us) numbers))

abbrev pub uses_of : Candidates → List Use
uses_of c = map as_use c.keys.uses

pub record AreCandidates (normal : Normal) (c : Candidates) : Type 0 where
  pub counted : KeysAreCounted normal c.keys
  pub atoms : All (λ u. u.atom < length normal.atoms) (uses_of c)
  pub waiting : AreWaiting normal (uses_of c) c.keys.set.items (heap_items c.waiting)
  pub served : AreServed normal (uses_of c) c.keys.set.items c.served.items

-- after one of them came up
pub record AreOthers (normal : Normal) (taken : Use) (c : Candidates) : Type 0 where
  pub counted : KeysAreCounted normal c.keys
  pub atoms : All (λ u. u.atom < length normal.atoms) (uses_of c)
  pub left : AreLeft normal (uses_of c) c.keys.set.items taken (heap_items c.waiting)
  pub served : AreServed normal (uses_of c) c.keys.set.items c.served.items
