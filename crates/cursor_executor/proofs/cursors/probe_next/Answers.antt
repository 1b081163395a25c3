use Rattle.std.proofs.Common.{subst, arith}
use Rattle.block_walk.specs.Worlds.{world}
use Rattle.cursor_executor.specs.Turns.{Went}
use Rattle.cursor_executor.proofs.CursorFacts.{reads_few}
use Rattle.cursor_executor.proofs.cursors.probe_next.Goals as goal

pub overflow_add-reads : goal.overflow_add-reads
overflow_add-reads g c =
    let w = world (g.P.AccessPort.rows c.args.port.now) (g.P.AccessPort.accesses c.args.port.now) in
    let prepared = c.args.prepared.now in
    let small = c.recall_bound.ensures in
    let few = reads_few w prepared c.requires.fits in
    let made = subst (λ m. Went w prepared m c.args.course.now c.go.new.course c.args.steps.now c.go.new.steps) c.in-Some.is c.in_ok-made.ensures.went in
    let counts = c.requires.reads in
    let within = made.within in
    omega (arith, few, small, within, counts)
