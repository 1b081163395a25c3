use Rattle.std.proofs.Common.{◌∙◌, map, ap, subst, refl}
use Rattle.beas_core.specs.declared.query.Block.{Block}
use Rattle.sql_text.specs.declared.tree.ColumnRef.{ColumnRef}
use Rattle.name_resolution.specs.declared.meaning.Meaning.{Meaning}
use Rattle.binder.specs.AtOnce.{AddsSound, IsSoundOutput, found_over}
use Rattle.name_resolution.specs.LookedUp.{outputs}
use Rattle.name_resolution.specs.Meanings.{condition}
use Rattle.name_resolution.specs.Scopes.{told_by}
use Rattle.binder.proofs.AtOnceFacts.{of_some, sound_over}
use Rattle.binder.proofs.at_once.bound_over.Goals as goal

pub returns-then-branch : goal.returns-then-branch
returns-then-branch c = λ block same.
    let told : ColumnRef → Meaning = told_by c.args.names.now in
    let limits = c.args.limits.now in
    let out : IsSoundOutput limits told c.as_slice.result.now c.args.tree.now c.in-Some.output =
    of_some (IsSoundOutput limits told c.as_slice.result.now c.args.tree.now) _ c.in-Some.output c.in-Some.is c.in_ok-output.ensures in
    let empty : Block = record {
      atoms = c.args.atoms;
      equalities = c.new.result;
      constants = c.new-2.result;
      comparisons = c.new-3.result;
      output = c.in-Some.output;
    } in
    sound_over limits told c.args.atoms c.args.tree.now empty c.add_all_if_sound.new.block block out.0 out.1 refl c.new.ensures c.new-2.ensures
    c.new-3.ensures (out.2 ∙ ap (λ atoms. outputs (found_over told atoms c.args.tree.now)) c.as_slice.ensures)
    (subst (λ conds. AddsSound limits.text empty c.add_all_if_sound.new.block (map (condition told) conds)) c.as_slice-conditions.ensures
    (c.in_ok-add_all_if_sound.ensures c.if-branch.true)) same
