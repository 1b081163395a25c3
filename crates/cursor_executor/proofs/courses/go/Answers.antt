use Rattle.std.proofs.Common.{sym, subst}
use Rattle.block_walk.specs.Worlds.{world}
use Rattle.cursor_executor.specs.Fetching.{AllAgree}
use Rattle.cursor_executor.proofs.courses.go.Goals as goal

pub carry_out-requires-clause-agrees : goal.carry_out-requires-clause-agrees
carry_out-requires-clause-agrees g c =
    let w = world (g.P.AccessPort.rows c.args.port.now) (g.P.AccessPort.accesses c.args.port.now) in
    subst (AllAgree w c.args.prepared.now) (sym c.operations.invariant.same) c.requires.agrees
