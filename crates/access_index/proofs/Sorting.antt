-- The rows of an index are lent and counted in another order.
use Rattle.std.proofs.Common.{◌≡◌, List, map, subst}
use Rattle.std.specs.List.Sorted.{IsPermutation}
use Rattle.std.proofs.lemmas.List.Sorted.{IsPermutation-map, IsPermutation-sym}
use Rattle.beas_core.specs.declared.value.Value.{Value}
use Rattle.access_index.specs.Index.{Index, IsIndexOf}
use Rattle.access_index.proofs.Indexing.{index_of_permutation}

pub sorted_rows : {X Y : Type 0} (f : X → Y) (before after : List X) (rows : List Y) → IsPermutation before after → map f before ≡ rows
    → IsPermutation (map f after) rows
sorted_rows f before after rows p e = subst (IsPermutation (map f after)) e (IsPermutation-map f after before (IsPermutation-sym before after p))

module _ {X : Type 0} (f : X → List Value) where
  pub index_of_lent : (index : Index) (lent slice : List X) (rows : List (List Value)) → IsPermutation (map f lent) rows → slice ≡ lent
      → IsIndexOf index (map f slice) → IsIndexOf index rows
  index_of_lent index lent slice rows p e is = index_of_permutation index (map f lent) rows p (subst (λ (ls : List X). IsIndexOf index (map f ls)) e is)
