use Rattle.std.proofs.Common.{◌≡◌, ◌≤◌, ◌<◌, ◌+◌, ◌++◌, ◌∙◌, List, ap, sym, subst, drop, length, take}
use Rattle.std.specs.List.{filter}
use Rattle.beas_core.specs.declared.plan.DStep.{DStep}
use Rattle.beas_core.specs.Types.{ClassSet}
use Rattle.beas_core.specs.Coverage.{atoms_of}
use Rattle.beas_core.specs.Derivations.{is_served_by, least_bound, serving_steps}
use Rattle.attribute_closure.specs.Uses.{as_use}
use Rattle.plan_builder.specs.Choices.{may_serve}
use Rattle.plan_builder.proofs.Turns.{front_stays, serve_served, serve_none, serve_taken, serve_end}
use Rattle.plan_builder.proofs.derivations.serve_atoms.Goals as goal
use Rattle.plan_builder.proofs.derivations.serve_atoms.Goals.{then-not-is_served_by+in-Some+in_ok-take_step, then-not-is_served_by+in_default, else-not-is_served_by}

pub loop-atom-preserved : goal.loop-atom-preserved
loop-atom-preserved c =
    let block = c.args.block.now in
    let accesses = c.args.accesses.now in
    let atom = c.loop-atom.atom in
    let here : atom < length block.atoms = subst (λ n. atom < n) c.len-atom-end.ensures c.loop-atom-test.true in
    let now = c.loop-atom.invariant in
    let first = c.len-first.result in
    let same = sym (c.is_served_by.ensures
    ∙ ap (λ xs. is_served_by block accesses (take first xs) atom) c.as_slice.ensures
    ∙ ap (λ xs. is_served_by block accesses xs atom) now.first) in
    let Stands = λ (xs : List DStep). (first ≤ length xs) × (take first xs ≡ c.args.steps.now) in
    let stands : Stands c.if-not-is_served_by.steps = elim c.if-not-is_served_by.branch [
      | then-not-is_served_by+in-Some+in_ok-take_step w ↦ subst Stands (sym (w.steps-is ∙ w.in_ok-take_step.ensures.steps))
          (front_stays first c.loop-atom.steps c.args.steps.now _ now.there now.first)
      | then-not-is_served_by+in_default w ↦ subst Stands (sym w.steps-is) (now.there, now.first)
      | else-not-is_served_by w ↦ subst Stands (sym w.steps-is) (now.there, now.first)
    ] in
    let Left = λ (xs : List DStep) (set : ClassSet).
    c.args.steps.now ++ serving_steps block accesses c.args.steps.now c.args.set.now (atoms_of block)
    ≡ xs ++ serving_steps block accesses c.args.steps.now set (drop (atom + 1) (atoms_of block)) in
    let joined : (xs : List DStep) (set : ClassSet) → c.if-not-is_served_by.steps ≡ xs → c.if-not-is_served_by.set ≡ set → Left xs set
    → Left c.if-not-is_served_by.steps c.if-not-is_served_by.set = λ xs set es et left.
    subst (λ ys. Left ys c.if-not-is_served_by.set) (sym es) (subst (λ other. Left xs other) (sym et) left) in
    record {
      there = stands.0;
      first = stands.1;
      left = elim c.if-not-is_served_by.branch [
        | then-not-is_served_by+in-Some+in_ok-take_step w ↦ (
            let out = same ∙ w.if-not-is_served_by.true in
            let best = ap (λ us. least_bound (filter (may_serve block c.loop-atom.set atom) us)) (sym c.requires.uses) ∙ sym w.in-Some.ensures in
            joined w.take_step.new.steps w.take_step.new.set w.steps-is w.set-is
            (serve_taken block accesses c.args.steps.now c.loop-atom.steps c.loop-atom.set atom here _ now.left (as_use w.in-Some.found) out best
            w.take_step.new.steps w.take_step.new.set w.in_ok-take_step.ensures.steps w.in_ok-take_step.ensures.set))
        | then-not-is_served_by+in_default w ↦ (
            let out = same ∙ w.if-not-is_served_by.true in
            let best = ap (λ us. least_bound (filter (may_serve block c.loop-atom.set atom) us)) (sym c.requires.uses) ∙ sym w.in_default.ensures in
            joined c.loop-atom.steps c.loop-atom.set w.steps-is w.set-is
            (serve_none block accesses c.args.steps.now c.loop-atom.steps c.loop-atom.set atom here _ now.left out best))
        | else-not-is_served_by w ↦ (
            let served = same ∙ w.if-not-is_served_by.false in
            joined c.loop-atom.steps c.loop-atom.set w.steps-is w.set-is
            (serve_served block accesses c.args.steps.now c.loop-atom.steps c.loop-atom.set atom here _ now.left served))
      ];
    }

pub returns : goal.returns
returns c =
    let all : length c.args.block.now.atoms ≤ c.loop-atom.atom = subst (λ n. n ≤ c.loop-atom.atom) c.len-atom-end.ensures c.loop-atom-test.false in
    sym (c.loop-atom.invariant.left ∙ serve_end c.args.block.now c.args.accesses.now c.args.steps.now c.loop-atom.steps c.loop-atom.set
    c.loop-atom.atom all)
