use Rattle.std.proofs.Common.{◌≤◌, length, arith}
use Rattle.std.proofs.lemmas.Result.{IfOk-weaker}
use Rattle.name_resolution.specs.Scopes.{told_by}
use Rattle.binder.proofs.AtOnceFacts.{output_plain}
use Rattle.binder.proofs.at_once.output_if_sound.Goals as goal

pub returns-then-not-tree : goal.returns-then-not-tree
returns-then-not-tree c =
    let references = c.as_slice-references.result.now in
    let few : length references ≤ c.args.limits.now.outputs = omega (arith, c.from.ensures, c.if-references-from.false) in
    IfOk-weaker c.places_if_sound.result _ _ (λ made so.
    output_plain c.args.limits.now (told_by c.args.names.now) c.args.atoms.now c.args.tree.now references made c.if-not-tree.true
    c.as_slice-references.ensures few so) c.places_if_sound.ensures
