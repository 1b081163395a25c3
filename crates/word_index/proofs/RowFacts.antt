-- Rows that come after all others one by one, and go from the last to the first.
use Rattle.std.proofs.Common.{◌≡◌, ◌∙◌, ◌<◌, ◌+◌, ◌++◌, ◌∷◌, ℕ, Bool, true, false, List, [], take, map, length, get_or, ap, sym, subst, append_assoc, true≢false}
use Rattle.std.specs.Prelude.{IsTrue, ◌↔◌, if◌then◌else◌}
use Rattle.std.proofs.lemmas.List.{append-nil, take_more}
use Rattle.beas_core.specs.declared.value.Value.{Value}
use Rattle.beas_core.specs.declared.schema.Access.{Access}
use Rattle.beas_core.specs.Groups.{Holds}
use Rattle.access_index.specs.Index.{Index, IsIndexOf}
use Rattle.access_index.proofs.Growing.{one_row_more, holds_with}

-- an index of a row more
abbrev pub HasOneMore : Index → Index → List Value → Type 0
HasOneMore old new row = (front back : List (List Value)) → IsIndexOf old (front ++ back) → IsIndexOf new (front ++ row ∷ back)

-- and of a row fewer
abbrev pub HasOneFewer : Index → Index → List Value → Type 0
HasOneFewer old new row = (front back : List (List Value)) → IsIndexOf old (front ++ row ∷ back) → IsIndexOf new (front ++ back)

-- an index of a row more or of the same rows
abbrev pub HasOneMoreIf : Bool → Index → Index → List Value → Type 0
HasOneMoreIf held old new row = (front back : List (List Value)) → IsIndexOf old (front ++ back)
    → IsIndexOf new (if held then front ++ row ∷ back else front ++ back)

abbrev pub TellsHolds : Index → Access → Bool → List Value → Type 0
TellsHolds index access held row = (rows : List (List Value)) → IsIndexOf index rows → Holds rows access → (IsTrue held ↔ Holds (rows ++ row ∷ []) access)

pub had_more : (held : Bool) (old new : Index) (row : List Value) → held ≡ true → HasOneMoreIf held old new row → HasOneMore old new row
had_more true old new row e h = h
had_more false old new row e h = absurd (true≢false (sym e))

pub had_same : (held : Bool) (old new : Index) (row : List Value) → held ≡ false → HasOneMoreIf held old new row
    → (rows : List (List Value)) → IsIndexOf old rows → IsIndexOf new rows
had_same true old new row e h = absurd (true≢false e)
had_same false old new row e h = h []

module _ {X : Type 0} (f : X → List Value) (rows : List X) (i : ℕ) (item : X) (row : List Value) (lt : i < length rows)
    (is : item ≡ get_or rows i item) (here : row ≡ f item) where
  pub row_more : (old new : Index) (front : List (List Value)) → HasOneMore old new row
      → IsIndexOf old (front ++ take i (map f rows)) → IsIndexOf new (front ++ take (i + 1) (map f rows))
  row_more old new front step h = one_row_more f rows i item lt is old new front (subst (HasOneMore old new) here step) h

  pub holds_row : (index : Index) (access : Access) (held : Bool) (front : List (List Value)) → index.access ≡ access → TellsHolds index index.access held row
      → IsIndexOf index (front ++ take i (map f rows)) → Holds (front ++ take i (map f rows)) access
      → IsTrue held ↔ Holds (front ++ take (i + 1) (map f rows)) access
  holds_row index access held front same tells counted before =
      holds_with f rows i item lt is index access held front same (subst (TellsHolds index index.access held) here tells) counted before

-- a row that came last, gone
module _ (xs : List (List Value)) (k : ℕ) (row : List Value) (lt : k < length xs) (is : row ≡ get_or xs k row) where
  with_row : (front : List (List Value)) → front ++ take (k + 1) xs ≡ (front ++ take k xs) ++ row ∷ []
  with_row front =
      ap (λ rs. front ++ rs) (take_more xs k row lt ∙ ap (λ (x : List Value). take k xs ++ x ∷ []) (sym is))
      ∙ sym (append_assoc front (take k xs) (row ∷ []))

  -- the index of the rows up to it, and without it
  pub row_fewer : (old new : Index) (front : List (List Value)) → HasOneFewer old new row
      → IsIndexOf old (front ++ take (k + 1) xs) → IsIndexOf new (front ++ take k xs)
  row_fewer old new front step h =
      subst (IsIndexOf new) (append-nil (front ++ take k xs)) (step (front ++ take k xs) [] (subst (IsIndexOf old) (with_row front) h))
