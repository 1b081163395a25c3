use Rattle.std.proofs.Common.{None}
use Rattle.beas_core.proofs.KeptFacts.{answers_stay, probes_stay, reads_stay, stays_fit}
use Rattle.beas_laws.proofs.coverage.law_still_fits.Goals as goal

pub returns : goal.returns
returns c = λ rows other_rows prepared fits keeps kept.
    let few = c.args.accesses.now in
    let many = c.args.other.now in
    let plans = prepared.derivations in
    record {
      fits = stays_fit few many rows other_rows prepared keeps kept fits;
      answers = answers_stay rows other_rows prepared.guided 0 None prepared.query kept;
      probes = probes_stay few many prepared.guided plans keeps rows other_rows 0 None prepared.query fits.plan.plans kept;
      reads = reads_stay few many prepared.guided plans keeps rows other_rows 0 None prepared.query fits.plan.plans kept;
    }
