-- The size of a query, from the sizes of its blocks.
--     size_in sizes n t    how many rows a tree answers at most, where n is the number of its first block
use Rattle.std.specs.Prelude.{◌+◌, ℕ, List, slice_index_or}
use Rattle.beas_core.specs.declared.plan.Sizes.{Sizes}
use Rattle.beas_core.specs.Trees.{QueryTree, Single, Either, Minus}
use Rattle.beas_core.specs.Guiding.{after}

-- of a block that isn't there
abbrev pub no_sizes : Sizes
no_sizes = record { reads = 0; last = 0 }

-- an EXCEPT has no more rows than its left side
abbrev pub size_in : List Sizes → ℕ → QueryTree → ℕ
size_in sizes n (Single block) = (slice_index_or sizes n no_sizes).last
size_in sizes n (Either l r) = size_in sizes n l + size_in sizes (after n l) r
size_in sizes n (Minus l r) = size_in sizes n l
