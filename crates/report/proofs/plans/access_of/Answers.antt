use Rattle.std.proofs.Common.{◌∙◌, ap, sym}
use Rattle.std.specs.Prelude.{option_copied}
use Rattle.report.proofs.PlanFacts.{found_live, found_one, found_scan, found_table}
use Rattle.report.proofs.plans.access_of.Goals as goal

pub unreachable-requires : goal.unreachable-requires
unreachable-requires c =
    let first = rw (c.as_slice.ensures, c.accesses.ensures.accesses) at c.live_with_id.ensures in
    found_one c.args.catalogue.now.accesses c.args.scans.now c.args.id (sym first ∙ ap option_copied c.in-None.is)
    (sym c.scan_with_id.ensures ∙ ap option_copied c.in-None-scan_with_id.is) c.requires.live

pub returns-in-Some-clause-access : goal.returns-in-Some-clause-access
returns-in-Some-clause-access c =
    let first = rw (c.as_slice.ensures, c.accesses.ensures.accesses) at c.live_with_id.ensures in
    found_live c.args.catalogue.now.accesses c.args.scans.now c.args.id c.in-Some.access.now (sym first ∙ ap option_copied c.in-Some.is)

pub returns-in-Some-clause-table : goal.returns-in-Some-clause-table
returns-in-Some-clause-table c =
    rw (returns-in-Some-clause-access c)
    (found_table c.args.catalogue.now c.args.scans.now c.args.id c.accesses.ensures.sound c.requires.tables c.requires.live)

pub returns-in-Some-scan_with_id-clause-access : goal.returns-in-Some-scan_with_id-clause-access
returns-in-Some-scan_with_id-clause-access c =
    let first = rw (c.as_slice.ensures, c.accesses.ensures.accesses) at c.live_with_id.ensures in
    found_scan c.args.catalogue.now.accesses c.args.scans.now c.args.id c.in-Some-scan_with_id.access.now (sym first ∙ ap option_copied c.in-None.is)
    (sym c.scan_with_id.ensures ∙ ap option_copied c.in-Some-scan_with_id.is)

pub returns-in-Some-scan_with_id-clause-table : goal.returns-in-Some-scan_with_id-clause-table
returns-in-Some-scan_with_id-clause-table c =
    rw (returns-in-Some-scan_with_id-clause-access c)
    (found_table c.args.catalogue.now c.args.scans.now c.args.id c.accesses.ensures.sound c.requires.tables c.requires.live)
