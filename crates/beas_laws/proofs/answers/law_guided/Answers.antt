use Rattle.std.proofs.Common.{Some}
use Rattle.beas_core.specs.Full.{full_of}
use Rattle.beas_core.specs.Queries.{answers}
use Rattle.beas_core.proofs.Sets.{Contains-from_has, Has-from_contains}
use Rattle.beas_core.proofs.GuidedLaw.{alike, guided_answers_are_full}
use Rattle.beas_laws.proofs.answers.law_guided.Goals as goal

pub returns : goal.returns
returns g c =
    let rows = g.P.AccessPort.rows c.args.port.now in
    let t = c.args.prepared.now.query in
    record {
      inside = λ guided n found row m.
          let both = alike rows guided n (Some found) t row (Has-from_contains found row m) in
          let own = answers rows guided n (Some found) t in (
            λ h. Contains-from_has (full_of rows t) row (both.0 (Has-from_contains own row h)),
            λ h. Contains-from_has own row (both.1 (Has-from_contains (full_of rows t) row h)),
          );
      alone = λ guided. guided_answers_are_full rows guided t;
    }
