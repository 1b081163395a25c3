use Rattle.std.proofs.Common.{◌≡◌, ◌<◌, ◌++◌, ◌∙◌, List, [], ◌∷◌, Some, ap, arith, get_or, length, set, subst, sym}
use Rattle.std.specs.Option.{option_map}
use Rattle.std.proofs.lemmas.List.{get_or-map, length-map}
use Rattle.beas_core.specs.declared.query.Block.{Block}
use Rattle.beas_core.specs.declared.schema.Access.{Access}
use Rattle.beas_core.specs.Guiding.{Uncovered, first_uncovered}
use Rattle.beas_core.specs.Shapes.{BlockIsWellFormed}
use Rattle.beas_core.specs.Trees.{blocks_of}
use Rattle.plan_builder.specs.Preparation.{atom_table, no_block}
use Rattle.partial_plan.specs.Scans.{sizes_of_tables}
use Rattle.partial_plan.specs.ScanPlans.{scan_of, tasks_with, with_scan}
use Rattle.partial_plan.proofs.ListFacts.{IsLacking, block_is_formed, is_lacking, new_listed}
use Rattle.partial_plan.proofs.lists.add_scan.Goals.{After-named_atom}
use Rattle.partial_plan.proofs.lists.add_scan.Goals as goal

pub bounds-blocks-at : goal.bounds-blocks-at
bounds-blocks-at c =
    let schema = c.args.catalogue.now in
    let sizes = sizes_of_tables c.args.tables.now in
    let query = c.args.query.now in
    let found : Uncovered = record { block = c.in-Some.block; why = c.in-Some.why } in
    let told : first_uncovered (tasks_with schema c.args.lists.now query) ≡ Some found =
    sym c.in_ok-block.ensures ∙ ap (option_map (λ f. record { block = f.0; why = f.1 })) c.in-Some.is in
    let f = is_lacking schema sizes query c.requires.well_formed c.args.lists.now found told in
    let long = length-map c.args.blocks.now (λ b. b.now) in
    omega (arith, f.block, ap length c.requires.blocks, long)

-- the block that lacks a constraint, and the atom that its reason names
module _ (c : After-named_atom) where
  abbrev found : Uncovered
  found = record { block = c.in-Some.block; why = c.in-Some.why }

  told : first_uncovered (tasks_with c.args.catalogue.now c.args.lists.now c.args.query.now) ≡ Some found
  told = sym c.in_ok-block.ensures ∙ ap (option_map (λ f. record { block = f.0; why = f.1 })) c.in-Some.is

  lacks : IsLacking c.args.catalogue.now (sizes_of_tables c.args.tables.now) c.args.query.now c.requires.well_formed c.args.lists.now found
  lacks = is_lacking c.args.catalogue.now (sizes_of_tables c.args.tables.now) c.args.query.now c.requires.well_formed c.args.lists.now found told

  same : c.index-blocks-at.result.now ≡ get_or (blocks_of c.args.query.now) c.in-Some.block no_block
  same =
      let long = length-map c.args.blocks.now (λ b. b.now) in
      let below = lacks.block in
      let inside : c.in-Some.block < length c.args.blocks.now = omega (arith, below, ap length c.requires.blocks, long) in
      ap (λ b. b.now) c.index-blocks-at.is
      ∙ sym (get_or-map (λ b. b.now) c.args.blocks.now c.in-Some.block c.index-blocks-at.result no_block inside)
      ∙ ap (λ (bs : List Block). get_or bs c.in-Some.block no_block) c.requires.blocks

pub scan_of-requires-clause-shape : goal.scan_of-requires-clause-shape
scan_of-requires-clause-shape c =
    subst BlockIsWellFormed (sym (same c)) (block_is_formed c.args.catalogue.now (sizes_of_tables c.args.tables.now) c.args.query.now
    c.requires.well_formed c.in-Some.block (lacks c).block)

pub scan_of-requires-clause-atom : goal.scan_of-requires-clause-atom
scan_of-requires-clause-atom c =
    let atom = (lacks c).atom in
    omega (arith, atom, c.named_atom.ensures, ap (λ (b : Block). length b.atoms) (same c))

pub scan_of-requires-clause-table : goal.scan_of-requires-clause-table
scan_of-requires-clause-table c =
    let listed = new_listed c.args.catalogue.now (sizes_of_tables c.args.tables.now) c.args.query.now c.requires.well_formed c.requires.over c.args.number
    c.args.lists.now (found c) (lacks c) in
    let table = ap (λ (b : Block). (atom_table b c.named_atom.result).0) (same c)
    ∙ ap (λ n. (atom_table (get_or (blocks_of c.args.query.now) c.in-Some.block no_block) n).0) c.named_atom.ensures in
    omega (arith, listed.table, table, c.requires.tables)

pub push_at-requires : goal.push_at-requires
push_at-requires c =
    let below = (lacks (goal.at.push_at-requires c).After-named_atom).block in
    let long = length-map c.args.blocks.now (λ b. b.now) in
    omega (arith, below, ap length c.requires.blocks, long, c.requires.lists)

pub returns-clause-lists : goal.returns-clause-lists
returns-clause-lists c =
    let at = (goal.at.returns-clause-lists c).After-named_atom in
    let sizes = sizes_of_tables c.args.tables.now in
    let scan = c.in_ok-scan.ensures ∙ ap (λ (b : Block). scan_of sizes b c.named_atom.result c.args.number) (same at)
    ∙ ap (λ n. scan_of sizes (get_or (blocks_of c.args.query.now) c.in-Some.block no_block) n c.args.number) c.named_atom.ensures in
    c.in_ok-push_at.ensures
    ∙ ap (λ (a : Access). set c.args.lists.now c.in-Some.block (get_or c.args.lists.now c.in-Some.block [] ++ a ∷ [])) scan
    ∙ sym (ap (with_scan sizes c.args.query.now c.args.number c.args.lists.now) (told at))
