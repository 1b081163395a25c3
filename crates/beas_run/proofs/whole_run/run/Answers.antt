use Rattle.std.proofs.Common.{refl, ap, arith, length, ◌∙◌}
use Rattle.beas_run.proofs.CompleteFacts.{is_complete}
use Rattle.beas_run.proofs.SourcelessFacts.{ran_nothing, ran_script}
use Rattle.beas_run.proofs.SourceFacts.{is_made, none_named, same_length, same_script, with_none, without_one}
use Rattle.beas_run.proofs.whole_run.run.Goals as goal

pub run_over-requires-clause-short : goal.run_over-requires-clause-short
run_over-requires-clause-short g c = let fits = c.in-Ok.ensures.source.fits in let same = ap length c.as_str-text.ensures in omega arith

pub run_over-requires-clause-made : goal.run_over-requires-clause-made
run_over-requires-clause-made g c = is_made _ _ _ _ c.in-Ok.ensures.source.is c.as_str-text.ensures

pub returns-in-Ok : goal.returns-in-Ok
returns-in-Ok g c =
    let e = c.in-Ok.ensures.source in
    let same = c.as_str-text.ensures in
    let o = c.run_over.ensures.ran in
    let run = ran_script _ _ _ _ _ _ _ e.asked_is (same_length _ _ e.fits same) c.as_str-text.utf8 (same_script _ _ _ _ e.is same) e.loaded e.later refl o in
    record {
      ran = run;
      complete = is_complete _ _ _ _ run;
      err_unused = λ _. refl;
      out_unused = λ without. absurd (without_one _ o.statuses without);
      files_unused = λ none. c.run_over.ensures.unused (none_named _ _ e.asked_is none) ∙ c.source_of.ensures.unused none;
    }

pub returns-in-Err : goal.returns-in-Err
returns-in-Err g c =
    let told = c.say.ensures in
    let run = ran_nothing _ _ _ _ _ _ told c.in-Err.ensures.none in
    record {
      ran = run;
      complete = is_complete _ _ _ _ run;
      err_unused = λ with. absurd (with_none _ _ _ _ told with);
      out_unused = λ _. refl;
      files_unused = c.source_of.ensures.unused;
    }
