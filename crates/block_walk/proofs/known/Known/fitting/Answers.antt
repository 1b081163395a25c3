use Rattle.std.proofs.Common.{ℕ, List, Option, Bor, IfSome, sym, subst}
use Rattle.place_chains.specs.Fitting.{IsRun}
use Rattle.place_chains.specs.TupleOrder.{values_at}
use Rattle.block_walk.specs.Entries.{kept_of}
use Rattle.block_walk.proofs.known.Known.fitting.Goals.{in-Some, in-None}
use Rattle.block_walk.proofs.known.Known.fitting.Goals as goal

pub returns-clause-fits : goal.returns-clause-fits
returns-clause-fits c =
    let shared = c.args.shared.now in
    let tuples = kept_of c.args.self.now c.args.place in
    let values = values_at shared.0 c.args.row.now in
    let Runs : Option (Bor (List ℕ)) → Type 0 = λ o. IfSome o (λ numbers. IsRun shared.1 tuples values 0 numbers.now) in
    let run_is : Runs c.match-order.run =
    elim c.match-order.branch [
      | in-Some w ↦ subst Runs (sym w.run-is) w.run.ensures
      | in-None w ↦ subst Runs (sym w.run-is) tt
    ] in
    c.among.ensures.fits shared.1 tuples values c.count.ensures run_is
