-- What a cursor's turns make of it.
use Rattle.std.proofs.Common.{◌≡◌, ◌≤◌, ℕ, Bool, true, false, List, [], length, get_or, Some, None, refl, ap, sym, ◌∙◌, subst, arith}
use Rattle.std.specs.List.{All}
use Rattle.beas_core.specs.declared.schema.Access.{Access}
use Rattle.beas_core.specs.declared.plan.Prepared.{Prepared}
use Rattle.beas_core.specs.Types.{Row, TableRows}
use Rattle.beas_core.specs.Fits.{Fits}
use Rattle.beas_core.specs.Full.{full_of}
use Rattle.beas_core.proofs.GuidedLaw.{guided_answers_are_full}
use Rattle.beas_core.proofs.QueryBounds.{few, shaped_query}
use Rattle.plan_ops.specs.Held.{PlanHolds}
use Rattle.plan_ops.proofs.TreeFacts.{all_hold}
use Rattle.block_walk.specs.Worlds.{World, world}
use Rattle.cursor_executor.specs.declared.courses.Course.{Course}
use Rattle.cursor_executor.specs.declared.cursors.Turn.TheVariants.{Probed, Done}
use Rattle.cursor_executor.specs.Fetching.{AllAgree, IsWorld, probed, reads_due, reads_fetched}
use Rattle.cursor_executor.specs.Courses.{IsCourse, IsKept, answer_of, fetched_by, left_of, seen_of}
use Rattle.cursor_executor.specs.Turns.{ProbedOne, TurnIs}
use Rattle.cursor_executor.proofs.CourseFacts.{all_counted, answers_stand, none_due}

-- the reads are at most the bound
pub reads_few : (w : World) (prepared : Prepared) → IsWorld w prepared → reads_due w prepared ≤ prepared.bound
reads_few w prepared world =
    let fits = world.fits.plan in
    let shaped = shaped_query prepared.query fits.well_formed.query in
    let both = few w.rows w.accesses prepared.guided prepared.derivations world.hold shaped.0 0 1 None prepared.query shaped.1 (omega arith) fits.plans
    fits.well_formed.guided in
    subst (λ n. reads_due w prepared ≤ n) (sym fits.bound) both.1

pub world_of : (rows : TableRows) (accesses : List Access) (prepared : Prepared) → Fits accesses rows prepared
    → All (PlanHolds rows accesses) prepared.derivations → IsWorld (world rows accesses) prepared
world_of rows accesses prepared fits held = record { fits = fits; hold = all_hold rows accesses prepared.derivations held }

-- ---- what is true of the fields

pub kept_going : (prepared : Prepared) (course : Course) (reads : ℕ) (whole : Bool) → IsCourse prepared course → reads ≡ reads_fetched (fetched_by course)
    → whole ≡ false → IsKept prepared course reads false whole
kept_going prepared course reads whole is counts e = record {
  stands = λ _. is;
  counts = λ _. counts;
  going = λ _. refl;
  ended = λ t. cc;
  answer = λ t. cc;
}

pub kept_failed : (prepared : Prepared) (course : Course) (reads : ℕ) (whole : Bool) → whole ≡ false → IsKept prepared course reads true whole
kept_failed prepared course reads whole e = record {
  stands = λ t. cc;
  counts = λ t. cc;
  going = λ t. cc;
  ended = λ t. cc;
  answer = λ t. cc;
}

-- ---- the end

module _ (w : World) (prepared : Prepared) (world : IsWorld w prepared) (old new : Course) (is : IsCourse prepared new)
    (agree : AllAgree w prepared (fetched_by old)) (same : fetched_by new ≡ fetched_by old) (left : left_of new ≡ []) (reads : ℕ)
    (counts : reads ≡ reads_fetched (fetched_by new)) where
  agrees : AllAgree w prepared (fetched_by new)
  agrees = subst (AllAgree w prepared) (sym same) agree

  pub done_answer : answer_of true new ≡ Some (full_of w.rows prepared.query)
  done_answer = ap (λ (s : List (List Row)). Some (get_or s 0 [])) (answers_stand w prepared world new is agrees left)
      ∙ ap Some (guided_answers_are_full w.rows prepared.guided prepared.query)

  pub done_reads : reads ≡ reads_due w prepared
  done_reads = counts ∙ all_counted w prepared world new is agrees left

  pub done_turn : (so_far : ℕ) → so_far ≡ reads_fetched (fetched_by old) → (failed whole : Bool) (before after : ℕ) → after ≡ before
      → TurnIs w Done (seen_of prepared old so_far failed whole) (seen_of prepared new reads false true) before after
  done_turn so_far counted failed whole before after free = record {
    going = refl;
    did = record {
      none_due = none_due w prepared world new is agrees left ∙ ap probed same;
      same = same;
      stay = counts ∙ ap reads_fetched same ∙ sym counted;
      reads_are = done_reads;
      answered = done_answer;
      cost = free;
    };
  }

  pub kept_done : IsKept prepared new reads false true
  kept_done = record {
    stands = λ _. is;
    counts = λ _. counts;
    going = λ _. refl;
    ended = λ _. left;
    answer = λ _. ap length (answers_stand w prepared world new is agrees left);
  }

-- a cursor that is whole
pub done_again : (w : World) (prepared : Prepared) → IsWorld w prepared → (course : Course) (reads : ℕ) (failed whole : Bool)
    → IsKept prepared course reads failed whole → failed ≡ false → whole ≡ true → AllAgree w prepared (fetched_by course) → (now : ℕ)
    → TurnIs w Done (seen_of prepared course reads failed whole) (seen_of prepared course reads failed whole) now now
done_again w prepared world course reads failed whole kept going e agree now =
    let counts = kept.counts going in
    subst (λ f. TurnIs w Done (seen_of prepared course reads failed whole) (seen_of prepared course reads f whole) now now) (sym going)
    (subst (λ b. TurnIs w Done (seen_of prepared course reads failed whole) (seen_of prepared course reads false b) now now) (sym e)
    (done_turn w prepared world course course (kept.stands going) agree refl (kept.ended e) reads counts reads counts failed whole now now refl))

-- ---- a probe

pub probed_turn : (w : World) (prepared : Prepared) (old new : Course) (reads made now before after : ℕ) (failed whole : Bool) → whole ≡ false
    → reads ≡ reads_fetched (fetched_by old) → now ≡ reads_fetched (fetched_by new)
    → ProbedOne w prepared made (fetched_by old) (fetched_by new) before after
    → TurnIs w Probed (seen_of prepared old reads failed whole) (seen_of prepared new now false whole) before after
probed_turn w prepared old new reads made now before after failed whole e counts counted p = record {
  going = refl;
  did = record {
    reads = made;
    made = p;
    raised = (let all = p.all_reads in omega (arith, all, counts, counted));
    unanswered = (ap (λ b. answer_of b old) e, ap (λ b. answer_of b new) e);
  };
}
