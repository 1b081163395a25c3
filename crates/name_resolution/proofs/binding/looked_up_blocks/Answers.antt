use Rattle.std.proofs.Common.{◌≡◌, List, [], ◌++◌, map, sym, ◌∙◌, ap}
use Rattle.std.specs.Borrow.{Bor}
use Rattle.std.specs.List.{flat_map}
use Rattle.std.proofs.lemmas.Result.{err_from_is_err_and, IfOk-weaker}
use Rattle.beas_core.specs.declared.refusal.Refusal.{Refusal}
use Rattle.sql_text.specs.declared.tree.BlockTree.{BlockTree}
use Rattle.name_resolution.specs.Binding.{blocks_of}
use Rattle.name_resolution.specs.LookedUp.{looked_up}
use Rattle.name_resolution.specs.Refusing.{first, unknown_tables, repeated_aliases}
use Rattle.name_resolution.proofs.JoinedFacts.{lent_flat_map, lent_map}
use Rattle.name_resolution.proofs.FirstFacts.{err_first, last_call}
use Rattle.name_resolution.proofs.binding.looked_up_blocks.Goals as goal

-- the lent blocks are those of the tree
all_lent : (lent slice : List (Bor BlockTree)) (empty : List (Bor BlockTree)) (blocks : List BlockTree)
    → map (λ b. b.now) lent ≡ map (λ b. b.now) empty ++ blocks → empty ≡ [] → slice ≡ lent → map (λ b. b.now) slice ≡ blocks
all_lent lent slice empty blocks all none is = ap (map (λ (b : Bor BlockTree). b.now)) is ∙ all
    ∙ ap (λ bs. map (λ (b : Bor BlockTree). b.now) bs ++ blocks) none

refusals_of : (f : BlockTree → List Refusal) (slice : List (Bor BlockTree)) (blocks : List BlockTree) → map (λ b. b.now) slice ≡ blocks
    → flat_map (λ b. f b.now) slice ≡ flat_map f blocks
refusals_of f slice blocks is = lent_flat_map f slice ∙ ap (flat_map f) is

pub returns-in_err-want_all_tables-clause-refused : goal.returns-in_err-want_all_tables-clause-refused
returns-in_err-want_all_tables-clause-refused c =
    let p = err_from_is_err_and c.from_residual-in_err-want_all_tables.result c.from_residual-in_err-want_all_tables.ensures.1 in
    let lent = all_lent c.push_blocks.new.blocks.items c.deref.result.now c.new-blocks.result.items
    (blocks_of c.args.tree.now) c.in_ok-push_blocks.ensures c.new-blocks.ensures.items c.deref.ensures.value in
    rw (p.1, p.2) (err_first (Unit {0}) (Unit {0}) _ (flat_map (unknown_tables c.args.catalogue.now) (blocks_of c.args.tree.now)) (flat_map repeated_aliases
    (blocks_of c.args.tree.now))
    (rw (← refusals_of (unknown_tables c.args.catalogue.now) c.deref.result.now (blocks_of c.args.tree.now) lent) c.in_err-want_all_tables.ensures))

pub returns-clause-blocks : goal.returns-clause-blocks
returns-clause-blocks c =
    let lent = all_lent c.push_blocks.new.blocks.items c.deref-2.result.now c.new-blocks.result.items
    (blocks_of c.args.tree.now) c.in_ok-push_blocks.ensures c.new-blocks.ensures.items c.deref-2.ensures.value in
    IfOk-weaker c.look_up_all.result _ _ (λ found is. is ∙ lent_map (looked_up c.args.catalogue.now) c.deref-2.result.now
    ∙ ap (map (looked_up c.args.catalogue.now)) lent) c.look_up_all.ensures.blocks

pub returns-clause-refused : goal.returns-clause-refused
returns-clause-refused c =
    let lent = all_lent c.push_blocks.new.blocks.items c.deref.result.now c.new-blocks.result.items
    (blocks_of c.args.tree.now) c.in_ok-push_blocks.ensures c.new-blocks.ensures.items c.deref.ensures.value in
    let lent_again = all_lent c.push_blocks.new.blocks.items c.deref-2.result.now c.new-blocks.result.items
    (blocks_of c.args.tree.now) c.in_ok-push_blocks.ensures c.new-blocks.ensures.items c.deref-2.ensures.value in
    last_call _ c.look_up_all.result (flat_map (unknown_tables c.args.catalogue.now) (blocks_of c.args.tree.now)) (flat_map repeated_aliases
    (blocks_of c.args.tree.now))
    (ap first (sym (refusals_of (unknown_tables c.args.catalogue.now) c.deref.result.now (blocks_of c.args.tree.now) lent)) ∙ c.in_ok-want_all_tables.ensures)
    (rw (← refusals_of repeated_aliases c.deref-2.result.now (blocks_of c.args.tree.now) lent_again) c.look_up_all.ensures.repeated)
