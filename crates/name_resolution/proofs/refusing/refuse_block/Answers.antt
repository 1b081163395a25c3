use Rattle.std.proofs.Common.{List}
use Rattle.std.specs.List.{flat_map}
use Rattle.std.proofs.lemmas.List.Concat.{flat_map-append}
use Rattle.std.proofs.lemmas.Result.{err_from_is_err_and}
use Rattle.beas_core.specs.declared.refusal.Refusal.{Refusal}
use Rattle.name_resolution.specs.declared.meaning.Meaning.{Meaning}
use Rattle.name_resolution.specs.Refusing.{flaws, sides, places}
use Rattle.name_resolution.proofs.FirstFacts.{err_first, last_call}
use Rattle.name_resolution.proofs.refusing.refuse_block.Goals as goal

pub returns-in_err-refuse_items-in-OfMeaning : goal.returns-in_err-refuse_items-in-OfMeaning
unfolding places
returns-in_err-refuse_items-in-OfMeaning c =
    let p = err_from_is_err_and c.from_residual.result c.from_residual.ensures.1 in
    let refused : List Meaning → List Refusal = flat_map (flaws c.in-OfMeaning.flaw c.args.limits.now.text) in
    let block = c.args.block.now in
    rw (p.1, p.2, c.in-OfMeaning.is, flat_map-append (flaws c.in-OfMeaning.flaw c.args.limits.now.text) block.items (flat_map sides block.conditions))
    (err_first (Unit {0}) (Unit {0}) _ (refused block.items) (refused (flat_map sides block.conditions))
    (rw c.as_slice.ensures at c.in_err-refuse_items-in-OfMeaning.ensures))

pub returns-in_ok-refuse_items-in-OfMeaning : goal.returns-in_ok-refuse_items-in-OfMeaning
unfolding places
returns-in_ok-refuse_items-in-OfMeaning c =
    let refused : List Meaning → List Refusal = flat_map (flaws c.in-OfMeaning.flaw c.args.limits.now.text) in
    let block = c.args.block.now in
    rw (c.in-OfMeaning.is, flat_map-append (flaws c.in-OfMeaning.flaw c.args.limits.now.text) block.items (flat_map sides block.conditions))
    (last_call (Unit {0}) c.refuse_conditions.result (refused block.items) (refused (flat_map sides block.conditions))
    (rw c.as_slice.ensures at c.in_ok-refuse_items-in-OfMeaning.ensures)
    (rw c.as_slice-in-OfMeaning.ensures at c.refuse_conditions.ensures))
