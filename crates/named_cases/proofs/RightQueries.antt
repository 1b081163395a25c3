-- A query whose blocks are all right, with outputs of one width, has the shape that `prepare` asks of it.
use Rattle.std.proofs.Common.{◌≡◌, ◌<◌, ◌∙◌, ℕ, List, length, map, All, Bor, arith, ap, sym, subst}
use Rattle.std.specs.List.{AllPairs}
use Rattle.std.proofs.lemmas.List.Elements.{All-map, All-weaker}
use Rattle.beas_core.specs.declared.query.Block.{Block}
use Rattle.beas_core.specs.Shapes.{BlockIsWellFormed, QueryIsWellFormed}
use Rattle.beas_core.specs.Trees.{QueryTree, blocks_of}
use Rattle.catalogue.specs.Queries.{BlockIsOver, QueryIsOver}
use Rattle.catalogue.specs.Schema.{Schema}
use Rattle.named_cases.specs.Right.{IsRight}

module _ (schema : Schema) (width : ℕ) where
  same_widths : (blocks : List Block) → All (IsRight schema width) blocks → AllPairs (λ b c. length b.output ≡ length c.output) blocks
  same_widths blocks all =
      λ i j d below within. (all i d (omega (arith, below, within))).columns ∙ sym (all j d within).columns

  own_well_formed : (t : QueryTree) → All (IsRight schema width) (blocks_of t) → QueryIsWellFormed t
  own_well_formed t all = record {
    blocks = All-weaker (IsRight schema width) BlockIsWellFormed (λ b right. right.shape) (blocks_of t) all;
    shapes = same_widths (blocks_of t) all;
  }

  own_over : (t : QueryTree) → All (IsRight schema width) (blocks_of t) → QueryIsOver schema t
  own_over t all = All-weaker (IsRight schema width) (BlockIsOver schema) (λ b right. right.over) (blocks_of t) all

  module _ (t : QueryTree) (lent : List (Bor Block)) (are : map (λ b. b.now) lent ≡ blocks_of t) (all : All (λ b. IsRight schema width b.now) lent) where
    are_right : All (IsRight schema width) (blocks_of t)
    are_right = subst (All (IsRight schema width)) are (All-map (IsRight schema width) (λ (b : Bor Block). b.now) lent all)

    pub well_formed : QueryIsWellFormed t
    well_formed = own_well_formed t are_right

    pub over : QueryIsOver schema t
    over = own_over t are_right
