-- Searches by codes, over slots and over what callers see.
use Rattle.std.proofs.Common.{◌≡◌, ◌<◌, ℕ, suc, Bool, true, false, cond, List, [], ◌∷◌, length, get_or, refl, ap, sym, ◌∙◌, arith}
use Rattle.std.specs.Option.{option_map_or}
use Rattle.std.specs.List.{filter, AllByRecursion}
use Rattle.std.specs.List.Sorted.{IsPartitionedBy}
use Rattle.std.proofs.lemmas.Option.{slice_get-get_or}
use Rattle.labelled_list.specs.declared.coded.Coded.{Coded}
use Rattle.labelled_list.specs.declared.slot.Slot.{Slot}
use Rattle.labelled_list.specs.Labels.{no_tuple, entry_at, items_of, passes, ArePlaces}
use Rattle.labelled_list.proofs.OrderFacts.{Tuple}
use Rattle.labelled_list.proofs.KeyFacts.{length_items, item_at, all_by_places}

module _ (test : List ℕ → Bool) (es : List Tuple) where
  -- what callers see passes
  abbrev pub seen : Coded → Bool
  seen item = test item.codes

  passes_is : (s : Slot) → s.entry < length es → passes test es s ≡ test (entry_at es s).0
  passes_is s l = ap (λ o. option_map_or (λ (t : Tuple). test t.0) o false) (slice_get-get_or es s.entry no_tuple l)

  counted : (slots : List Slot) → AllByRecursion (λ (s : Slot). s.entry < length es) slots
      → length (filter (passes test es) slots) ≡ length (filter seen (items_of es slots))
  counted [] a = refl
  counted (s ∷ slots) a =
      ap (λ b. length (cond b (s ∷ filter (passes test es) slots) (filter (passes test es) slots))) (passes_is s a.0)
      ∙ by (test (entry_at es s).0) (counted slots a.1)
    where
      by : (b : Bool) → length (filter (passes test es) slots) ≡ length (filter seen (items_of es slots))
          → length (cond b (s ∷ filter (passes test es) slots) (filter (passes test es) slots))
          ≡ length (cond b ((record { codes = (entry_at es s).0; count = (entry_at es s).1.count }) ∷ filter seen (items_of es slots)) (filter seen (items_of es slots)))
      by true h = ap suc h
      by false h = h

  module _ (slots : List Slot) (places : ArePlaces (length es) slots) (self : List Coded) (view : items_of es slots ≡ self) where
    -- as many slots pass as callers see
    pub slots_counted : length (filter (passes test es) slots) ≡ length (filter seen self)
    slots_counted =
        counted slots (all_by_places (λ (s : Slot). s.entry < length es) slots (λ i d l. places.within i d l)) ∙ ap (λ xs. length (filter seen xs)) view

    told : (i : ℕ) (d : Slot) (c : Coded) → i < length slots → passes test es (get_or slots i d) ≡ seen (get_or self i c)
    told i d c l =
        passes_is (get_or slots i d) (places.within i d l)
        ∙ sym (ap (λ (x : Coded). test x.codes) (item_at es slots i c d l))
        ∙ ap (λ (xs : List Coded). test (get_or xs i c).codes) view

    pub slots_parted : IsPartitionedBy seen self → IsPartitionedBy (passes test es) slots
    slots_parted p i j d h l e =
        let c : Coded = record { codes = []; count = 0 } in
        told i d c (omega (arith, h, l)) ∙ p i j c h (omega (arith, l, length_items es slots, ap length view)) (sym (told j d c l) ∙ e)
