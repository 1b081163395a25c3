use Rattle.std.proofs.Common.{rules, ◌≤◌, ◌-◌, ◌^◌, sym, ◌∙◌, refl, subst}
use Rattle.labelled_list.specs.Labels.{ArePlaces, in_order}
use Rattle.labelled_list.proofs.SpreadFacts.{spread_fits, spread_rises, spread_sits}
use Rattle.labelled_list.proofs.labels.spread_around.Goals as goal

pub spread-requires-2-clause-fits : goal.spread-requires-2-clause-fits
spread-requires-2-clause-fits c =
    let s = c.roomy_stretch-stretch in
    let top : s.result.high ≤ 2 ^ 64 - 1 = search (rules, s.type_inv) in
    spread_fits s.result.low s.result.high c.even_step-step.result s.result.first c.args.at s.result.end s.ensures.before s.ensures.after
    s.ensures.is.open_between top c.even_step-step.ensures.fits

pub returns-clause-labelled : goal.returns-clause-labelled
returns-clause-labelled c =
    let slots = c.args.slots.now in
    let s = c.roomy_stretch-stretch in
    let top : s.result.high ≤ 2 ^ 64 - 1 = search (rules, s.type_inv) in
    let long = c.spread-2.ensures.same_length ∙ c.spread.ensures.same_length in
    record {
      places = subst (λ n. ArePlaces n slots) (sym long) c.requires.labelled.places;
      labels = spread_rises (in_order c.args.tuples.now.entries slots) (in_order c.spread.new.tuples.entries slots) (in_order c.spread-2.new.tuples.entries slots) c.args.at s.result c.even_step-step.result _
          c.requires.labelled.labels s.ensures.is s.ensures.before s.ensures.after (c.even_step-step.ensures.some s.ensures.room) c.even_step-step.ensures.fits top refl c.spread.ensures.spread c.spread-2.ensures.spread;
      few = c.requires.labelled.few;
    }

pub returns-clause-sits : goal.returns-clause-sits
returns-clause-sits c =
    let slots = c.args.slots.now in
    let s = c.roomy_stretch-stretch in
    let top : s.result.high ≤ 2 ^ 64 - 1 = search (rules, s.type_inv) in
    spread_sits (in_order c.args.tuples.now.entries slots) (in_order c.spread.new.tuples.entries slots) (in_order c.spread-2.new.tuples.entries slots) c.args.at s.result c.even_step-step.result _
    c.requires.labelled.labels s.ensures.is s.ensures.before s.ensures.after (c.even_step-step.ensures.some s.ensures.room) c.even_step-step.ensures.fits top refl c.spread.ensures.spread c.spread-2.ensures.spread
