-- The blocks of a tree, lent and joined.
use Rattle.std.proofs.Common.{◌≡◌, List, [], ◌∷◌, ◌++◌, refl, map, sym, ◌∙◌, ap, append_assoc}
use Rattle.std.proofs.lemmas.List.{map-append}
use Rattle.std.specs.Borrow.{Bor}
use Rattle.std.specs.List.{flat_map}
use Rattle.beas_core.specs.Trees.{QueryTree}
use Rattle.beas_core.specs.declared.query.Block.{Block}
use Rattle.sql_text.specs.declared.tree.BlockTree.{BlockTree}
use Rattle.sql_text.specs.Trees.{Tree}
use Rattle.name_resolution.specs.Binding.{blocks_of, with_blocks}

pub joins_both : (left right : Tree) (before between after : List Block) (left_query right_query : QueryTree)
    → ((front : List Block) (bind : BlockTree → Block) → before ≡ front ++ map bind (blocks_of right)
    → (between ≡ front) × (right_query ≡ with_blocks bind right))
    → ((front : List Block) (bind : BlockTree → Block) → between ≡ front ++ map bind (blocks_of left)
    → (after ≡ front) × (left_query ≡ with_blocks bind left))
    → (front : List Block) (bind : BlockTree → Block) → before ≡ front ++ map bind (blocks_of left ++ blocks_of right)
    → (after ≡ front) × (left_query ≡ with_blocks bind left) × (right_query ≡ with_blocks bind right)
joins_both left right before between after left_query right_query first second front bind is =
    let one = first (front ++ map bind (blocks_of left)) bind
    (is ∙ ap (λ bs. front ++ bs) (map-append bind (blocks_of left) (blocks_of right))
    ∙ sym (append_assoc front (map bind (blocks_of left)) (map bind (blocks_of right)))) in
    let two = second front bind one.0 in
    (two.0, two.1, one.1)

-- ---- lent blocks

pub lent_flat_map : {X Y : Type 0} (f : X → List Y) (xs : List (Bor X)) → flat_map (λ x. f x.now) xs ≡ flat_map f (map (λ x. x.now) xs)
lent_flat_map f [] = refl
lent_flat_map f (x ∷ xs) = ap (λ ys. f x.now ++ ys) (lent_flat_map f xs)

pub lent_map : {X Y : Type 0} (f : X → Y) (xs : List (Bor X)) → map (λ x. f x.now) xs ≡ map f (map (λ x. x.now) xs)
lent_map f [] = refl
lent_map f (x ∷ xs) = ap (λ ys. f x.now ∷ ys) (lent_map f xs)
