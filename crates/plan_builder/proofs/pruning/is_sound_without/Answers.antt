use Rattle.std.proofs.Common.{◌≡◌, ◌+◌, ◌∙◌, List, [], ap, map, sym, take, true}
use Rattle.std.proofs.lemmas.List.{take-map}
use Rattle.beas_core.specs.Types.{Use}
use Rattle.attribute_closure.specs.Uses.{as_use}
use Rattle.plan_builder.specs.Fronts.{IsFront}
use Rattle.plan_builder.specs.Trials.{keys_are_bound, uses_without}
use Rattle.plan_builder.proofs.DropTurns.{all_bound, open_left, unbound_key}
use Rattle.plan_builder.proofs.FrontFacts.{first_unbound, later_front, later_keys, served_of, uses_from}
use Rattle.plan_builder.proofs.pruning.is_sound_without.Goals.{After-open_place}
use Rattle.plan_builder.proofs.pruning.is_sound_without.Goals as goal

pub returns-then-not-take_uses-clause-sound : goal.returns-then-not-take_uses-clause-sound
returns-then-not-take_uses-clause-sound c = λ sound.
    let normal = c.args.block.now in
    let start = c.args.start.now in
    let us = map as_use c.args.uses.now in
    let first = sym (take-map as_use c.args.place c.args.uses.now) in
    let later = uses_from c.args.uses.now (c.args.place + 1) in
    let begun = c.in_ok-restart.ensures normal in
    let before = ap (λ s. keys_are_bound normal s (map as_use (take c.args.place c.args.uses.now))) (sym begun.set) ∙ sym c.take_uses.ensures.keys in
    unbound_key normal start (uses_without c.args.place us)
    (first_unbound normal start us c.args.place _ _ first later (before ∙ c.if-not-take_uses.true))

pub returns-then-not-take_uses-2-clause-sound : goal.returns-then-not-take_uses-2-clause-sound
returns-then-not-take_uses-2-clause-sound c = λ sound.
    let normal = c.args.block.now in
    let start = c.args.start.now in
    let us = map as_use c.args.uses.now in
    let first = sym (take-map as_use c.args.place c.args.uses.now) in
    let later = uses_from c.args.uses.now (c.args.place + 1) in
    let begun = c.in_ok-restart.ensures normal in
    let before = ap (λ s. keys_are_bound normal s (map as_use (take c.args.place c.args.uses.now))) (sym begun.set) ∙ sym c.take_uses.ensures.keys in
    let come = c.if-not-take_uses.ensures.front start [] begun in
    let keys = later_keys normal start us c.args.place _ _ first later c.take_uses.new.front.set.items c.take_uses-2.result
    (before ∙ c.if-not-take_uses.false) come.set c.take_uses-2.ensures.keys in
    unbound_key normal start (uses_without c.args.place us) (keys ∙ c.if-not-take_uses-2.true)

-- all keys are bound, and the front is that of the other uses
module _ (c : After-open_place) where
  abbrev us : List Use
  us = map as_use c.args.uses.now

  come : IsFront c.args.block.now c.args.start.now (map as_use (take c.args.place c.args.uses.now)) c.take_uses.new.front
  come = c.if-not-take_uses.ensures.front c.args.start.now [] (c.in_ok-restart.ensures c.args.block.now)

  bound : keys_are_bound c.args.block.now c.args.start.now (uses_without c.args.place us) ≡ true
  bound =
      let begun = c.in_ok-restart.ensures c.args.block.now in
      let before = ap (λ s. keys_are_bound c.args.block.now s (map as_use (take c.args.place c.args.uses.now))) (sym begun.set)
      ∙ sym c.take_uses.ensures.keys in
      later_keys c.args.block.now c.args.start.now us c.args.place _ _ (sym (take-map as_use c.args.place c.args.uses.now))
      (uses_from c.args.uses.now (c.args.place + 1)) c.take_uses.new.front.set.items c.take_uses-2.result
      (before ∙ c.if-not-take_uses.false) come.set c.take_uses-2.ensures.keys ∙ c.if-not-take_uses-2.false

  last : IsFront c.args.block.now c.args.start.now (uses_without c.args.place us) c.take_uses-2.new.front
  last = later_front c.args.block.now c.args.start.now us c.args.place _ _ (sym (take-map as_use c.args.place c.args.uses.now))
      (uses_from c.args.uses.now (c.args.place + 1)) c.take_uses-2.new.front
      (c.if-not-take_uses-2.ensures.front c.args.start.now (map as_use (take c.args.place c.args.uses.now)) come)

pub returns-in-Some-clause-sound : goal.returns-in-Some-clause-sound
returns-in-Some-clause-sound c = λ sound.
    let at = (goal.at.returns-in-Some-clause-sound c).After-open_place in
    open_left c.args.block.now c.args.start.now (uses_without c.args.place (us at)) c.deref.result.now (bound at)
    (c.deref.ensures.value ∙ (last at).set) c.in-Some._place (sym c.open_place.ensures ∙ c.in-Some.is)

pub returns-in-None-clause-sound : goal.returns-in-None-clause-sound
returns-in-None-clause-sound c = λ sound.
    let at = (goal.at.returns-in-None-clause-sound c).After-open_place in
    all_bound c.args.block.now c.args.start.now (uses_without c.args.place (us at)) c.deref.result.now (bound at)
    (c.deref.ensures.value ∙ (last at).set) true (sym c.open_place.ensures ∙ c.in-None.is)
    (sym c.if-not-is_served_besides.false ∙ c.is_served_besides.ensures (served_of c.args.block.now c.args.start.now (us at) sound))

pub returns-in-None-clause-front : goal.returns-in-None-clause-front
returns-in-None-clause-front c = last (goal.at.returns-in-None-clause-front c).After-open_place
