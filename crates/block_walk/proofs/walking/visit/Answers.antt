use Rattle.std.proofs.Common.{◌≡◌, ◌∙◌, true, refl, ap, sym, subst, length, arith, ℕ}
use Rattle.std.specs.Option.{option_copied}
use Rattle.beas_core.specs.Types.{Row}
use Rattle.beas_core.specs.Coverage.{holds_classes, key_classes}
use Rattle.beas_core.specs.Derivations.{access_in}
use Rattle.block_walk.specs.Worlds.{world}
use Rattle.block_walk.specs.Routes.{route, step_at}
use Rattle.block_walk.specs.Stacks.{pending_of}
use Rattle.block_walk.specs.declared.walking.Walk.{Walk}
use Rattle.block_walk.specs.Turns.{probed}
use Rattle.block_walk.proofs.LoopFacts.{on_err}
use Rattle.block_walk.proofs.VisitFacts.{Outcome, access_is, found_cost, found_pairs, found_spent, is_begun, not_found_spent, outcome}
use Rattle.block_walk.proofs.WorldFacts.{classes_own, key_held, set_is}
use Rattle.block_walk.proofs.walking.visit.Given as given
use Rattle.block_walk.proofs.walking.visit.Goals as goal

pub begin_step-requires-clause-classes : goal.begin_step-requires-clause-classes
begin_step-requires-clause-classes g c =
    let r = route c.args.block.now (option_copied c.args.guide) c.args.plan.now in
    let old = c.args.walk.now in
    classes_own r old c.requires.tidy (length old.stages.items) (omega arith)

pub begin_step-requires-clause-key : goal.begin_step-requires-clause-key
begin_step-requires-clause-key g c =
    let w = world (g.P.AccessPort.rows c.args.port.now) (g.P.AccessPort.accesses c.args.port.now) in
    let r = route c.args.block.now (option_copied c.args.guide) c.args.plan.now in
    let old = c.args.walk.now in
    let step = step_at r c.args.at.step in
    subst (λ s. holds_classes s (key_classes c.args.block.now (record { atom = step.atom; access = access_in w.accesses step.access })) ≡ true)
    (sym (set_is w r old c.requires.tidy c.requires.agrees c.args.at.step c.requires.step)) (key_held w r c.requires.sound c.args.at.step c.requires.below)

pub entry_for-requires-clause-access : goal.entry_for-requires-clause-access
entry_for-requires-clause-access g c =
    let w = world (g.P.AccessPort.rows c.args.port.now) (g.P.AccessPort.accesses c.args.port.now) in
    let r = route c.args.block.now (option_copied c.args.guide) c.args.plan.now in
    let old = c.args.walk.now in
    let at = pending_of old.pending.values.items c.args.at in
    let s = c.index-stage.result.now in
    let begun = is_begun w r at old c.requires.tidy c.requires.agrees c.requires.below c.begin_step.new.stages.items c.in_ok-begin_step.ensures.begins s
    (sym c.index-stage.ensures) in
    access_is w r at s begun.serves

pub entry_for-requires-clause-stage : goal.entry_for-requires-clause-stage
entry_for-requires-clause-stage g c =
    let w = world (g.P.AccessPort.rows c.args.port.now) (g.P.AccessPort.accesses c.args.port.now) in
    let r = route c.args.block.now (option_copied c.args.guide) c.args.plan.now in
    let old = c.args.walk.now in
    let at = pending_of old.pending.values.items c.args.at in
    let s = c.index-stage.result.now in
    let begun = is_begun w r at old c.requires.tidy c.requires.agrees c.requires.below c.begin_step.new.stages.items c.in_ok-begin_step.ensures.begins s
    (sym c.index-stage.ensures) in
    begun.serves.stage

pub entry_for-requires-clause-wide : goal.entry_for-requires-clause-wide
entry_for-requires-clause-wide g c =
    let w = world (g.P.AccessPort.rows c.args.port.now) (g.P.AccessPort.accesses c.args.port.now) in
    let r = route c.args.block.now (option_copied c.args.guide) c.args.plan.now in
    let old = c.args.walk.now in
    let at = pending_of old.pending.values.items c.args.at in
    let s = c.index-stage.result.now in
    let begun = is_begun w r at old c.requires.tidy c.requires.agrees c.requires.below c.begin_step.new.stages.items c.in_ok-begin_step.ensures.begins s
    (sym c.index-stage.ensures) in
    c.requires.wide ∙ ap length (sym begun.at_step.from)

pub entry_for-requires-clause-kept : goal.entry_for-requires-clause-kept
entry_for-requires-clause-kept g c =
    let w = world (g.P.AccessPort.rows c.args.port.now) (g.P.AccessPort.accesses c.args.port.now) in
    let r = route c.args.block.now (option_copied c.args.guide) c.args.plan.now in
    let old = c.args.walk.now in
    let at = pending_of old.pending.values.items c.args.at in
    let s = c.index-stage.result.now in
    let begun = is_begun w r at old c.requires.tidy c.requires.agrees c.requires.below c.begin_step.new.stages.items c.in_ok-begin_step.ensures.begins s
    (sym c.index-stage.ensures) in
    begun.kept

pub returns-in_err-found-clause-spent : goal.returns-in_err-found-clause-spent
returns-in_err-found-clause-spent g c =
    let w = world (g.P.AccessPort.rows c.args.port.now) (g.P.AccessPort.accesses c.args.port.now) in
    let r = route c.args.block.now (option_copied c.args.guide) c.args.plan.now in
    let old = c.args.walk.now in
    let at = pending_of old.pending.values.items c.args.at in
    let s = c.index-stage.result.now in
    let begun = is_begun w r at old c.requires.tidy c.requires.agrees c.requires.below c.begin_step.new.stages.items c.in_ok-begin_step.ensures.begins s
    (sym c.index-stage.ensures) in
    on_err c.from_residual-in_err-found.result (not_found_spent w r at old s begun.serves c.args.steps.now c.entry_for.new.steps c.in_err-found.ensures.spent)

pub go_on-requires-clause-kept : goal.go_on-requires-clause-kept
go_on-requires-clause-kept g c =
    let finds = c.in_ok-found.ensures.found in
    c.in_ok-found.ensures.kept c.in_ok-found.found.place finds.there (ap (λ (k : ℕ × Row). k.0) finds.is_key)

pub go_on-requires-clause-pairs : goal.go_on-requires-clause-pairs
go_on-requires-clause-pairs g c =
    let w = world (g.P.AccessPort.rows c.args.port.now) (g.P.AccessPort.accesses c.args.port.now) in
    let r = route c.args.block.now (option_copied c.args.guide) c.args.plan.now in
    let old = c.args.walk.now in
    let at = pending_of old.pending.values.items c.args.at in
    let s = c.index-stage.result.now in
    let begun = is_begun w r at old c.requires.tidy c.requires.agrees c.requires.below c.begin_step.new.stages.items c.in_ok-begin_step.ensures.begins s
    (sym c.index-stage.ensures) in
    found_pairs w r at old c.requires.agrees c.requires.below s begun.serves c.in_ok-found.found c.entry_for.new.known c.args.steps.now c.entry_for.new.steps
    c.in_ok-found.ensures.found (c.requires.wide ∙ ap length (sym begun.at_step.from))

pub returns-in_err-go_on-clause-spent : goal.returns-in_err-go_on-clause-spent
returns-in_err-go_on-clause-spent g c =
    let w = world (g.P.AccessPort.rows c.args.port.now) (g.P.AccessPort.accesses c.args.port.now) in
    let r = route c.args.block.now (option_copied c.args.guide) c.args.plan.now in
    let old = c.args.walk.now in
    let at = pending_of old.pending.values.items c.args.at in
    let s = c.index-stage.result.now in
    let begun = is_begun w r at old c.requires.tidy c.requires.agrees c.requires.below c.begin_step.new.stages.items c.in_ok-begin_step.ensures.begins s
    (sym c.index-stage.ensures) in
    on_err c.from_residual-in_err-go_on.result
    (found_spent w r at old c.requires.agrees c.requires.below s begun.serves c.in_ok-found.found c.entry_for.new.known c.args.steps.now c.entry_for.new.steps
    c.in_ok-found.ensures.found)

visited : (g : given.Over) (c : goal.In_ok-go_on g)
    → Outcome (world (g.P.AccessPort.rows c.args.port.now) (g.P.AccessPort.accesses c.args.port.now))
    (route c.args.block.now (option_copied c.args.guide) c.args.plan.now) (pending_of c.args.walk.now.pending.values.items c.args.at)
    (probed c.in_ok-found.found.reads) c.args.walk.now (record {
      first = c.args.walk.now.first;
      stages = c.begin_step.new.stages;
      known = c.entry_for.new.known;
      pending = c.go_on.new.pending;
      key = c.entry_for.new.key;
      through = c.go_on.new.through;
    })
visited g c =
    let w = world (g.P.AccessPort.rows c.args.port.now) (g.P.AccessPort.accesses c.args.port.now) in
    let r = route c.args.block.now (option_copied c.args.guide) c.args.plan.now in
    let old = c.args.walk.now in
    let at = pending_of old.pending.values.items c.args.at in
    let s = c.index-stage.result.now in
    let begun = is_begun w r at old c.requires.tidy c.requires.agrees c.requires.below c.begin_step.new.stages.items c.in_ok-begin_step.ensures.begins s
    (sym c.index-stage.ensures) in
    let new : Walk = record {
      first = old.first;
      stages = c.begin_step.new.stages;
      known = c.entry_for.new.known;
      pending = c.go_on.new.pending;
      key = c.entry_for.new.key;
      through = c.go_on.new.through;
    } in
    outcome w r at old new c.requires.tidy c.requires.agrees s begun refl c.in_ok-found.found c.args.steps.now c.entry_for.new.steps c.in_ok-found.ensures.found
    c.in_ok-go_on.ensures.goes_on c.in_ok-found.ensures.known c.in_ok-found.ensures.kept c.in_ok-go_on.ensures.stack

pub returns-clause-tidy : goal.returns-clause-tidy
returns-clause-tidy g c = (visited g c).tidy

pub returns-clause-visited : goal.returns-clause-visited
returns-clause-visited g c = (visited g c).visited

pub returns-clause-cost : goal.returns-clause-cost
returns-clause-cost g c =
    let w = world (g.P.AccessPort.rows c.args.port.now) (g.P.AccessPort.accesses c.args.port.now) in
    let r = route c.args.block.now (option_copied c.args.guide) c.args.plan.now in
    let old = c.args.walk.now in
    let at = pending_of old.pending.values.items c.args.at in
    let s = c.index-stage.result.now in
    let begun = is_begun w r at old c.requires.tidy c.requires.agrees c.requires.below c.begin_step.new.stages.items c.in_ok-begin_step.ensures.begins s
    (sym c.index-stage.ensures) in
    found_cost w r at old c.requires.agrees c.requires.below s begun.serves c.in_ok-found.found c.entry_for.new.known c.args.steps.now c.entry_for.new.steps
    c.in_ok-found.ensures.found
