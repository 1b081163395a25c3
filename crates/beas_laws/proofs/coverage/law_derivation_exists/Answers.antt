use Rattle.beas_core.proofs.DerivationsExist.{derivation_exists, derivation_only_if, reason_if_lacking, lacking_if_reason}
use Rattle.beas_laws.proofs.coverage.law_derivation_exists.Goals as goal

pub returns : goal.returns
returns c =
    let normal = c.args.normal.now in
    let accesses = c.args.accesses.now in
    let start = c.args.start.now in
    record {
      covered = (
        λ h. derivation_only_if normal accesses c.requires.ids c.requires.classes start c.requires.start h,
        λ h. derivation_exists normal accesses c.requires.classes start c.requires.start h,
      );
      lacking = (
        λ e. reason_if_lacking normal accesses c.requires.ids c.requires.classes start c.requires.start e,
        λ h. lacking_if_reason normal accesses c.requires.ids c.requires.classes start c.requires.start h,
      );
    }
