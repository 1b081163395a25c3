-- Labels of places: places that some equalities join have one label.
--     AreLabels atoms equalities labels     for each place the number of the first place that it is joined with
--     heads labels                          the different labels, in order of their first place
--     rank labels label                     how many of these stand before a label
use Rattle.std.specs.Prelude.{◌≡◌, ◌==◌, ◌<◌, ◌≤◌, not, if◌then◌else◌, ℕ, List, [], ◌∷◌, length, filter, slice_index_or}
use Rattle.std.specs.List.{position_or_len}
use Rattle.beas_core.specs.declared.query.Atom.{Atom}
use Rattle.beas_core.specs.declared.query.Place.{Place}
use Rattle.beas_core.specs.Shapes.{IsPlace}
use Rattle.beas_core.specs.Classes.{is_joined}
use Rattle.normal_form.specs.Places.{offset, place_number}

abbrev pub label_at : List ℕ → ℕ → ℕ
label_at labels place = slice_index_or labels place 0

abbrev pub label_of : List Atom → List ℕ → Place → ℕ
label_of atoms labels place = label_at labels (place_number atoms place)

-- each label is the number of a place that has it, and that isn't after any place that has it
pub record AreFirst (labels : List ℕ) : Type 0 where
  pub least : (k : ℕ) → k < length labels → label_at labels k ≤ k
  pub own : (k : ℕ) → k < length labels → label_at labels (label_at labels k) ≡ label_at labels k

pub record AreLabels (atoms : List Atom) (equalities : List (Place × Place)) (labels : List ℕ) : Type 0 where
  pub count : length labels ≡ offset atoms (length atoms)
  pub firsts : AreFirst labels
  pub joins : (p q : Place) → IsPlace atoms p → IsPlace atoms q → (label_of atoms labels p == label_of atoms labels q) ≡ is_joined equalities p q

abbrev pub replace : ℕ → ℕ → ℕ → ℕ
replace old new label = if label == old then new else label

abbrev pub heads : List ℕ → List ℕ
heads [] = []
heads (x ∷ xs) = x ∷ filter (λ y. not (x == y)) (heads xs)

unfoldable pub rank : List ℕ → ℕ → ℕ
rank labels label = position_or_len (λ head. head == label) (heads labels)
