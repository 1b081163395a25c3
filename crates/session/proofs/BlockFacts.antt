-- The first block of a query, and its rows.
use Rattle.std.proofs.Common.{◌≡◌, ◌≤◌, ◌<◌, ◌+◌, ℕ, length, map, All, inl, refl, sym, ap, ◌∙◌, subst, arith}
use Rattle.std.proofs.lemmas.List.{length-map}
use Rattle.std.proofs.lemmas.List.Elements.{All-contains, All-from_recursion}
use Rattle.std.specs.Prelude.{filter}
use Rattle.beas_core.specs.declared.query.Block.{Block}
use Rattle.beas_core.specs.Full.{choice_value, choices, full_of, full_of_block, meets}
use Rattle.beas_core.specs.Order.{row_cmp, row_cmp_total}
use Rattle.beas_core.specs.Sets.{IsInOrder}
use Rattle.beas_core.specs.Telling.{row_cmp_tells}
use Rattle.beas_core.specs.Trees.{QueryTree, Single, Either, Minus, blocks_of}
use Rattle.beas_core.specs.Types.{Row, TableRows}
use Rattle.beas_core.proofs.Sets.{Has, Has-append_left, Has-from_distinct, Has-from_map, Contains-from_has, IsInOrder-distinct, all_from}
use Rattle.session.specs.Grouping.{HasOutputs, first_block}

first_block_in : (t : QueryTree) → Has (blocks_of t) (first_block t)
first_block_in (Single block) = inl refl
first_block_in (Either l r) = Has-append_left (blocks_of l) (blocks_of r) (first_block l) (first_block_in l)
first_block_in (Minus l r) = Has-append_left (blocks_of l) (blocks_of r) (first_block l) (first_block_in l)

-- what is true of each block is true of the first
pub of_first : (P : Block → Type 0) (t : QueryTree) → All P (blocks_of t) → P (first_block t)
of_first P t all = All-contains P (blocks_of t) (first_block t) all (Contains-from_has (blocks_of t) (first_block t) (first_block_in t))

-- ---- the rows of a block

wide_row : (rows : TableRows) (block : Block) (row : Row) → Has (full_of_block rows block) row → length row ≡ length block.output
unfolding full_of_block
wide_row rows block row h =
    let d = Has-from_distinct row_cmp_total row_cmp_tells (map (λ choice. map (choice_value choice) block.output) (filter (meets block) (choices rows block.atoms))) row h in
    let m = Has-from_map (λ choice. map (choice_value choice) block.output) (filter (meets block) (choices rows block.atoms)) row d in
    ap length m.2 ∙ length-map block.output (choice_value m.0)

block_in_order : (rows : TableRows) (block : Block) → IsInOrder row_cmp (full_of_block rows block)
unfolding full_of_block
block_in_order rows block = IsInOrder-distinct row_cmp_total row_cmp_tells
    (map (λ choice. map (choice_value choice) block.output) (filter (meets block) (choices rows block.atoms)))

module _ (rows : TableRows) (keys items : ℕ) (query : QueryTree) (h : HasOutputs keys items query) where
  pub rows_are_wide : All (λ row. length row ≡ keys + items) (full_of rows query)
  rows_are_wide =
      subst (λ (t : QueryTree). All (λ row. length row ≡ keys + items) (full_of rows t)) (sym h.is_block)
      (All-from_recursion (λ (row : Row). length row ≡ keys + items) (full_of_block rows h.block)
      (all_from (λ (row : Row). length row ≡ keys + items) (full_of_block rows h.block) (λ row m. wide_row rows h.block row m ∙ h.outputs)))

  pub rows_in_order : IsInOrder row_cmp (full_of rows query)
  rows_in_order = subst (λ (t : QueryTree). IsInOrder row_cmp (full_of rows t)) (sym h.is_block) (block_in_order rows h.block)

  -- the block of the query is its first
  pub the_block : h.block ≡ first_block query
  the_block = sym (ap first_block h.is_block)

  pub keys_fit : keys ≤ length (first_block query).output
  keys_fit = let same = ap (λ (b : Block). length b.output) the_block in omega (arith, same, h.outputs)

  pub few_keys : keys < 65536
  few_keys = let few = h.few in omega arith
