use Rattle.beas_core.proofs.ReasonFacts.{reason-covered, covered-reason, covered_in_words, covered_from_words}
use Rattle.beas_laws.proofs.coverage.law_reason.Goals as goal

pub returns : goal.returns
returns c =
    let normal = c.args.normal.now in
    let accesses = c.args.accesses.now in
    let set = c.args.set.now in
    record {
      none = (
        λ e. covered_in_words normal accesses set (reason-covered normal accesses set e),
        λ h. covered-reason normal accesses set (covered_from_words normal accesses set h),
      );
      covered = (λ e. covered_in_words normal accesses set e, λ h. covered_from_words normal accesses set h);
    }
