use Rattle.std.proofs.Common.{◌≡◌, true, length, sym, subst, arith}
use Rattle.beas_core.specs.Coverage.{holds_classes, key_classes}
use Rattle.beas_core.specs.Derivations.{access_in}
use Rattle.plan_ops.specs.Over.{set_of}
use Rattle.block_walk.specs.Walks.{Begins, IsMadeFor, classes_at}
use Rattle.block_walk.proofs.walking.begin_step.Goals as goal

pub begin_next-requires-clause-key : goal.begin_next-requires-clause-key
begin_next-requires-clause-key g c =
    let first = c.args.first.now in
    let step = c.args.step.now in
    let old = c.args.stages.now.items in
    let reach = c.requires.next in
    let past = c.if-number-len.false in
    let whole : c.args.number ≡ length old = omega (arith, reach, past) in
    subst (λ n. holds_classes (set_of c.args.block.now (classes_at first old n))
    (key_classes c.args.block.now (record { atom = step.atom; access = access_in (g.P.AccessPort.accesses c.args.port.now) step.access })) ≡ true)
    whole c.requires.key

pub returns-clause-there : goal.returns-clause-there
returns-clause-there g c =
    let reach = c.requires.next in
    let more = c.in_ok-begin_next.ensures.there in
    omega (arith, reach, more)

pub returns-clause-begins : goal.returns-clause-begins
returns-clause-begins g c =
    let step = c.args.step.now in
    let old = c.args.stages.now.items in
    let reach = c.requires.next in
    let past = c.if-number-len.false in
    let whole : c.args.number ≡ length old = omega (arith, reach, past) in
    subst (λ n. Begins (IsMadeFor c.args.block.now step.atom (access_in (g.P.AccessPort.accesses c.args.port.now) step.access)
    (classes_at c.args.first.now old (length old))) n old c.begin_next.new.stages.items) (sym whole) c.in_ok-begin_next.ensures.begins
