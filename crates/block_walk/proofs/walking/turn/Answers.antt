use Rattle.std.proofs.Common.{rules, ◌≡◌, ◌<◌, ◌+◌, ◌++◌, ◌∷◌, ◌∙◌, [], ℕ, List, refl, ap, sym, subst, arith, length, inl}
use Rattle.std.specs.Option.{option_copied}
use Rattle.beas_core.proofs.Sets.{Has}
use Rattle.beas_core.specs.Types.{Row}
use Rattle.beas_core.specs.Valuations.{classes_in, output_row}
use Rattle.plan_ops.specs.Over.{set_of}
use Rattle.block_walk.specs.Worlds.{world, AgreesWith}
use Rattle.block_walk.specs.Routes.{route}
use Rattle.block_walk.specs.Stacks.{pending_in, pending_of}
use Rattle.block_walk.specs.declared.walking.Walk.{Walk}
use Rattle.block_walk.specs.Walks.{classes_at}
use Rattle.block_walk.specs.Turns.{probed, VisitCosts}
use Rattle.block_walk.proofs.LoopFacts.{at_below, at_pending, failed_spent, is_done, last_stands, on_err, part_tidy, popped_tidy, probed_one, same_stands, visited_stands}
use Rattle.block_walk.proofs.WalkFacts.{visited_work}
use Rattle.block_walk.proofs.WorldFacts.{classes_own}
use Rattle.block_walk.proofs.walking.turn.Goals as goal

pub visits-init : goal.visits-init
visits-init g c = record { tidy = c.requires.tidy; same = refl; stands = c.requires.stands; free = refl }

pub push_output-requires-clause-classes : goal.push_output-requires-clause-classes
push_output-requires-clause-classes g c =
    let w = world (g.P.AccessPort.rows c.args.port.now) (g.P.AccessPort.accesses c.args.port.now) in
    let r = route c.args.block.now (option_copied c.args.guide) c.args.plan.now in
    let walk = c.visits.walk in
    let is = c.visits.invariant in
    let at = pending_of c.pop.new.self.values.items c.in-Some.at in
    let items = c.in-Some.ensures.pending in
    subst (λ ss. classes_at walk.first ss (length ss) ≡ classes_in (set_of c.args.block.now (classes_at walk.first ss (length ss)))) (sym c.deref.ensures.value)
    (classes_own r walk is.tidy (length walk.stages.items) (omega arith))

pub push_output-requires-clause-wide : goal.push_output-requires-clause-wide
push_output-requires-clause-wide g c =
    let w = world (g.P.AccessPort.rows c.args.port.now) (g.P.AccessPort.accesses c.args.port.now) in
    let r = route c.args.block.now (option_copied c.args.guide) c.args.plan.now in
    let walk = c.visits.walk in
    let is = c.visits.invariant in
    let at = pending_of c.pop.new.self.values.items c.in-Some.at in
    let items = c.in-Some.ensures.pending in
    let here = at_pending walk (pending_in c.pop.new.self) at items in
    let l = is.tidy.pending at here in
    let few = is.tidy.few in
    let last = c.if-at-count.true in
    let whole : at.step ≡ length walk.stages.items = omega (arith, l, few, last) in
    let wide : length c.row.result.now ≡ length (classes_at walk.first walk.stages.items (length walk.stages.items)) =
    subst (λ n. length c.row.result.now ≡ length (classes_at walk.first walk.stages.items n)) whole
    (subst (λ (v : Row). length v ≡ length (classes_at walk.first walk.stages.items at.step)) (sym c.row.ensures) (is.tidy.wide at here)) in
    subst (λ ss. length c.row.result.now ≡ length (classes_at walk.first ss (length ss))) (sym c.deref.ensures.value) wide

pub returns-in_err-push_output-clause-spent : goal.returns-in_err-push_output-clause-spent
returns-in_err-push_output-clause-spent g c = on_err c.from_residual.result (inl c.visits.invariant.free)

pub visit-requires-clause-tidy : goal.visit-requires-clause-tidy
visit-requires-clause-tidy g c =
    let w = world (g.P.AccessPort.rows c.args.port.now) (g.P.AccessPort.accesses c.args.port.now) in
    let r = route c.args.block.now (option_copied c.args.guide) c.args.plan.now in
    let walk = c.visits.walk in
    let is = c.visits.invariant in
    let at = pending_of c.pop.new.self.values.items c.in-Some.at in
    let items = c.in-Some.ensures.pending in
    let popped : Walk = record { first = walk.first; stages = walk.stages; known = walk.known; pending = c.pop.new.self; key = walk.key; through = walk.through } in
    popped_tidy r walk popped at is.tidy c.in-Some.ensures.stack items

pub visit-requires-clause-agrees : goal.visit-requires-clause-agrees
visit-requires-clause-agrees g c =
    let w = world (g.P.AccessPort.rows c.args.port.now) (g.P.AccessPort.accesses c.args.port.now) in
    let r = route c.args.block.now (option_copied c.args.guide) c.args.plan.now in
    let walk = c.visits.walk in
    let is = c.visits.invariant in
    let at = pending_of c.pop.new.self.values.items c.in-Some.at in
    let items = c.in-Some.ensures.pending in
    let agree = subst (AgreesWith w r.steps) (sym is.same) c.requires.agrees in
    agree

pub visit-requires-clause-step : goal.visit-requires-clause-step
visit-requires-clause-step g c =
    let w = world (g.P.AccessPort.rows c.args.port.now) (g.P.AccessPort.accesses c.args.port.now) in
    let r = route c.args.block.now (option_copied c.args.guide) c.args.plan.now in
    let walk = c.visits.walk in
    let is = c.visits.invariant in
    let at = pending_of c.pop.new.self.values.items c.in-Some.at in
    let items = c.in-Some.ensures.pending in
    is.tidy.pending at (at_pending walk (pending_in c.pop.new.self) at items)

pub visit-requires-clause-below : goal.visit-requires-clause-below
visit-requires-clause-below g c =
    let w = world (g.P.AccessPort.rows c.args.port.now) (g.P.AccessPort.accesses c.args.port.now) in
    let r = route c.args.block.now (option_copied c.args.guide) c.args.plan.now in
    let walk = c.visits.walk in
    let is = c.visits.invariant in
    let at = pending_of c.pop.new.self.values.items c.in-Some.at in
    let items = c.in-Some.ensures.pending in
    let below = at_below r walk (pending_in c.pop.new.self) at is.tidy items c.if-at-count.false in
    below

pub visit-requires-clause-wide : goal.visit-requires-clause-wide
visit-requires-clause-wide g c =
    let w = world (g.P.AccessPort.rows c.args.port.now) (g.P.AccessPort.accesses c.args.port.now) in
    let r = route c.args.block.now (option_copied c.args.guide) c.args.plan.now in
    let walk = c.visits.walk in
    let is = c.visits.invariant in
    let at = pending_of c.pop.new.self.values.items c.in-Some.at in
    let items = c.in-Some.ensures.pending in
    is.tidy.wide at (at_pending walk (pending_in c.pop.new.self) at items)

pub visit-requires-clause-room : goal.visit-requires-clause-room
visit-requires-clause-room g c =
    let w = world (g.P.AccessPort.rows c.args.port.now) (g.P.AccessPort.accesses c.args.port.now) in
    let r = route c.args.block.now (option_copied c.args.guide) c.args.plan.now in
    let walk = c.visits.walk in
    let is = c.visits.invariant in
    let at = pending_of c.pop.new.self.values.items c.in-Some.at in
    let items = c.in-Some.ensures.pending in
    let below = at_below r walk (pending_in c.pop.new.self) at is.tidy items c.if-at-count.false in
    let small : length c.args.plan.now < 18446744073709551616 = search rules in
    omega (arith, below, small)

pub returns-in_err-reads-clause-spent : goal.returns-in_err-reads-clause-spent
returns-in_err-reads-clause-spent g c =
    let w = world (g.P.AccessPort.rows c.args.port.now) (g.P.AccessPort.accesses c.args.port.now) in
    let r = route c.args.block.now (option_copied c.args.guide) c.args.plan.now in
    let walk = c.visits.walk in
    let is = c.visits.invariant in
    let at = pending_of c.pop.new.self.values.items c.in-Some.at in
    let items = c.in-Some.ensures.pending in
    let popped : Walk = record { first = walk.first; stages = walk.stages; known = walk.known; pending = c.pop.new.self; key = walk.key; through = walk.through } in
    let agree = subst (AgreesWith w r.steps) (sym is.same) c.requires.agrees in
    let below = at_below r walk (pending_in c.pop.new.self) at is.tidy items c.if-at-count.false in
    on_err c.from_residual-in_err-reads.result (failed_spent w r at below walk c.args.walk.now popped is.tidy (is.stands w c.requires.sound agree) agree items refl is.same
    c.args.steps.now c.visits.steps c.visit.new.steps is.free c.in_err-reads.ensures.spent)

pub returns-in-Some-2-clause-stands : goal.returns-in-Some-2-clause-stands
returns-in-Some-2-clause-stands g c =
    let w = world (g.P.AccessPort.rows c.args.port.now) (g.P.AccessPort.accesses c.args.port.now) in
    let r = route c.args.block.now (option_copied c.args.guide) c.args.plan.now in
    let walk = c.visits.walk in
    let is = c.visits.invariant in
    let at = pending_of c.pop.new.self.values.items c.in-Some.at in
    let items = c.in-Some.ensures.pending in
    let popped : Walk = record { first = walk.first; stages = walk.stages; known = walk.known; pending = c.pop.new.self; key = walk.key; through = walk.through } in
    let agree = subst (AgreesWith w r.steps) (sym is.same) c.requires.agrees in
    let below = at_below r walk (pending_in c.pop.new.self) at is.tidy items c.if-at-count.false in
    visited_stands w r c.requires.sound at below walk popped c.visit.new.walk (probed c.in_ok-reads.field-0) c.in_ok-reads.ensures.visited
    c.in_ok-reads.ensures.tidy agree is.stands items refl refl

pub returns-in-Some-2-clause-turn : goal.returns-in-Some-2-clause-turn
returns-in-Some-2-clause-turn g c =
    let w = world (g.P.AccessPort.rows c.args.port.now) (g.P.AccessPort.accesses c.args.port.now) in
    let r = route c.args.block.now (option_copied c.args.guide) c.args.plan.now in
    let walk = c.visits.walk in
    let is = c.visits.invariant in
    let at = pending_of c.pop.new.self.values.items c.in-Some.at in
    let items = c.in-Some.ensures.pending in
    let popped : Walk = record { first = walk.first; stages = walk.stages; known = walk.known; pending = c.pop.new.self; key = walk.key; through = walk.through } in
    let agree = subst (AgreesWith w r.steps) (sym is.same) c.requires.agrees in
    let below = at_below r walk (pending_in c.pop.new.self) at is.tidy items c.if-at-count.false in
    let cost = subst (λ o. VisitCosts w r at o c.visits.steps c.visit.new.steps) c.in-Some-2.is c.in_ok-reads.ensures.cost in
    probed_one w r c.requires.sound at below walk popped c.visit.new.walk (probed c.in_ok-reads.field-0) c.in_ok-reads.ensures.visited
    c.in_ok-reads.ensures.tidy agree is.stands items refl refl is.tidy (ap probed c.in-Some-2.is) c.args.walk.now is.same c.in-Some-2.reads c.args.steps.now
    c.visit.new.steps cost.0 (cost.1 ∙ ap (λ n. n + c.in-Some-2.reads) is.free)

-- after an output
pub visits-preserved-in-Continue-1 : goal.visits-preserved-in-Continue-1
visits-preserved-in-Continue-1 g c =
    let w = world (g.P.AccessPort.rows c.args.port.now) (g.P.AccessPort.accesses c.args.port.now) in
    let r = route c.args.block.now (option_copied c.args.guide) c.args.plan.now in
    let walk = c.visits.walk in
    let is = c.visits.invariant in
    let at = pending_of c.pop.new.self.values.items c.in-Some.at in
    let items = c.in-Some.ensures.pending in
    let new : Walk = record {
      first = walk.first;
      stages = walk.stages;
      known = walk.known;
      pending = c.pop.new.self;
      key = walk.key;
      through = c.push_output.new.through;
    } in
    let Through : List ℕ → Row → Type 0 = λ classes row.
    new.through ≡ walk.through ++ output_row c.args.block.now (set_of c.args.block.now classes) row ∷ [] in
    let through : Through (classes_at walk.first walk.stages.items (length walk.stages.items)) at.row =
    subst (Through (classes_at walk.first walk.stages.items (length walk.stages.items))) c.row.ensures
    (subst (λ ss. Through (classes_at walk.first ss (length ss)) c.row.result.now) c.deref.ensures.value c.in_ok-push_output.ensures) in
    record {
      tidy = popped_tidy r walk new at is.tidy c.in-Some.ensures.stack items;
      same = is.same;
      stands = last_stands r at c.if-at-count.true walk new is.tidy is.stands items through refl;
      free = is.free;
    }

-- after a visit
pub visits-smaller : goal.visits-smaller
visits-smaller g c =
    let w = world (g.P.AccessPort.rows c.args.port.now) (g.P.AccessPort.accesses c.args.port.now) in
    let r = route c.args.block.now (option_copied c.args.guide) c.args.plan.now in
    let walk = c.visits.walk in
    let is = c.visits.invariant in
    let at = pending_of c.pop.new.self.values.items c.in-Some.at in
    let items = c.in-Some.ensures.pending in
    let below = at_below r walk (pending_in c.pop.new.self) at is.tidy items c.if-at-count.false in
    visited_work w r at below walk c.visit.new.walk (pending_in c.pop.new.self) walk.through items c.in_ok-reads.ensures.visited.goes_on

pub visits-preserved : goal.visits-preserved
visits-preserved g c =
    let w = world (g.P.AccessPort.rows c.args.port.now) (g.P.AccessPort.accesses c.args.port.now) in
    let r = route c.args.block.now (option_copied c.args.guide) c.args.plan.now in
    let walk = c.visits.walk in
    let is = c.visits.invariant in
    let at = pending_of c.pop.new.self.values.items c.in-Some.at in
    let items = c.in-Some.ensures.pending in
    let popped : Walk = record { first = walk.first; stages = walk.stages; known = walk.known; pending = c.pop.new.self; key = walk.key; through = walk.through } in
    let agree = subst (AgreesWith w r.steps) (sym is.same) c.requires.agrees in
    let below = at_below r walk (pending_in c.pop.new.self) at is.tidy items c.if-at-count.false in
    let cost = subst (λ o. VisitCosts w r at o c.visits.steps c.visit.new.steps) c.in_default-2.is c.in_ok-reads.ensures.cost in
    let visited = c.in_ok-reads.ensures.visited in
    record {
      tidy = c.in_ok-reads.ensures.tidy;
      same = visited.was_known (ap probed c.in_default-2.is) ∙ is.same;
      stands = visited_stands w r c.requires.sound at below walk popped c.visit.new.walk (probed c.in_ok-reads.field-0) visited
          c.in_ok-reads.ensures.tidy agree is.stands items refl refl;
      free = cost ∙ is.free;
    }

pub returns-clause-tidy : goal.returns-clause-tidy
returns-clause-tidy g c =
    let w = world (g.P.AccessPort.rows c.args.port.now) (g.P.AccessPort.accesses c.args.port.now) in
    let r = route c.args.block.now (option_copied c.args.guide) c.args.plan.now in
    let walk = c.visits.walk in
    let is = c.visits.invariant in
    let new : Walk = record { first = walk.first; stages = walk.stages; known = walk.known; pending = c.pop.new.self; key = walk.key; through = walk.through } in
    let gone : pending_in walk.pending ≡ [] = search rules in
    let none : pending_in c.pop.new.self ≡ [] = search rules in
    let same = none ∙ sym gone in
    part_tidy r walk new is.tidy c.pop.ensures.stack (λ p h. subst (λ ps. Has ps p) same h)

pub returns-clause-stands : goal.returns-clause-stands
returns-clause-stands g c =
    let w = world (g.P.AccessPort.rows c.args.port.now) (g.P.AccessPort.accesses c.args.port.now) in
    let r = route c.args.block.now (option_copied c.args.guide) c.args.plan.now in
    let walk = c.visits.walk in
    let is = c.visits.invariant in
    let new : Walk = record { first = walk.first; stages = walk.stages; known = walk.known; pending = c.pop.new.self; key = walk.key; through = walk.through } in
    let gone : pending_in walk.pending ≡ [] = search rules in
    let none : pending_in c.pop.new.self ≡ [] = search rules in
    let same = none ∙ sym gone in
    same_stands r walk new is.stands same refl refl

pub returns-clause-turn : goal.returns-clause-turn
returns-clause-turn g c =
    let w = world (g.P.AccessPort.rows c.args.port.now) (g.P.AccessPort.accesses c.args.port.now) in
    let r = route c.args.block.now (option_copied c.args.guide) c.args.plan.now in
    let walk = c.visits.walk in
    let is = c.visits.invariant in
    let new : Walk = record { first = walk.first; stages = walk.stages; known = walk.known; pending = c.pop.new.self; key = walk.key; through = walk.through } in
    let gone : pending_in walk.pending ≡ [] = search rules in
    let none : pending_in c.pop.new.self ≡ [] = search rules in
    let same = none ∙ sym gone in
    is_done r c.args.walk.now new (part_tidy r walk new is.tidy c.pop.ensures.stack (λ p h. subst (λ ps. Has ps p) same h))
    (same_stands r walk new is.stands same refl refl) is.same none c.args.steps.now c.visits.steps is.free
