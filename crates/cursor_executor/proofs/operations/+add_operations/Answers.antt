use Rattle.std.proofs.Common.{rules, ◌≡◌, ◌+◌, ◌∙◌, length, ap, sym, arith}
use Rattle.std.proofs.lemmas.List.{length-append}
use Rattle.beas_core.specs.Guiding.{after}
use Rattle.beas_core.specs.Nodes.{query_tree}
use Rattle.beas_core.specs.Trees.{blocks_of}
use Rattle.cursor_executor.proofs.RunFacts.{some_block}
use Rattle.cursor_executor.proofs.operations.+add_operations.Goals as goal

pub add_operations-requires-in-Union : goal.add_operations-requires-in-Union
add_operations-requires-in-Union t c =
    let left = c.in-Union.left.value in
    let right = c.in-Union.right.value in
    let whole = sym c.query.view_is ∙ ap query_tree c.in-Union.is in
    let all : length (blocks_of c.args.query.now) ≡ length (blocks_of left) + length (blocks_of right)
    = ap (λ tree. length (blocks_of tree)) whole ∙ length-append (blocks_of left) (blocks_of right) in
    let next : c.in_ok-next-in-Union.next ≡ c.args.first + length (blocks_of left)
    = c.in_ok-next-in-Union.ensures.next ∙ ap (after c.args.first) c.deref.ensures in
    let same : length (blocks_of c.deref-in-Union.result.now) ≡ length (blocks_of right) = ap (λ tree. length (blocks_of tree)) c.deref-in-Union.ensures in
    let some = some_block left in
    let numbers = c.requires.numbers in
    let depth = c.requires.depth in
    (search rules, (omega (arith, all, next, same, numbers), omega (arith, next, some, depth)))

pub add_operations-requires-in-Except-2 : goal.add_operations-requires-in-Except-2
add_operations-requires-in-Except-2 t c =
    let left = c.in-Except.left.value in
    let right = c.in-Except.right.value in
    let whole = sym c.query.view_is ∙ ap query_tree c.in-Except.is in
    let all : length (blocks_of c.args.query.now) ≡ length (blocks_of left) + length (blocks_of right)
    = ap (λ tree. length (blocks_of tree)) whole ∙ length-append (blocks_of left) (blocks_of right) in
    let next : c.in_ok-next-in-Except.next ≡ c.args.first + length (blocks_of left)
    = c.in_ok-next-in-Except.ensures.next ∙ ap (after c.args.first) c.deref-in-Except.ensures in
    let same : length (blocks_of c.deref-in-Except-2.result.now) ≡ length (blocks_of right)
    = ap (λ tree. length (blocks_of tree)) c.deref-in-Except-2.ensures in
    let some = some_block left in
    let numbers = c.requires.numbers in
    let depth = c.requires.depth in
    (search rules, (omega (arith, all, next, same, numbers), omega (arith, next, some, depth)))
