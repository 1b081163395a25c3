use Rattle.std.proofs.lemmas.List.Elements.{All-contains}
use Rattle.beas_core.specs.Derivations.{access_in}
use Rattle.beas_core.specs.Shapes.{AccessIsWellFormed, width_of}
use Rattle.beas_core.proofs.Sets.{Contains-from_has}
use Rattle.beas_core.proofs.AnswerFacts.{answers_are_inside}
use Rattle.beas_laws.proofs.answers.law_answer.Goals as goal

pub returns : goal.returns
returns g c = λ guide fit sound.
    let block = c.args.block.now in
    let accesses = g.P.AccessPort.accesses c.args.port.now in
    let steps = c.args.steps.now in
    answers_are_inside (g.P.AccessPort.rows c.args.port.now) block c.requires.block accesses steps guide fit sound
    (λ s h. All-contains (λ t. AccessIsWellFormed (width_of block.atoms t.atom) (access_in accesses t.access)) steps s c.requires.accesses
    (Contains-from_has steps s h))
