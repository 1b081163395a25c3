use Rattle.std.proofs.Common.{◌∙◌}
use Rattle.specialise.proofs.Masks.{no_candidate}
use Rattle.specialise.proofs.Tables.{bit_back, bit_from}
use Rattle.specialise.proofs.Tried.{place_left, place_pushed}
use Rattle.specialise.proofs.trial.Trial.places_in.Goals as goal
use Rattle.specialise.proofs.trial.Trial.places_in.Goals.{then-set-position-eq1+in_ok-push, else-set-position-eq1}

pub loop-position-preserved : goal.loop-position-preserved
loop-position-preserved c =
    let t = c.args.self.now in
    let items = c.as_slice-candidate-items.result.now in
    let is = c.as_slice-candidate-items.ensures ∙ t.candidates_are in
    let set = c.args.set in
    let n = c.loop-position.position in
    elim c.if-set-position-eq1.branch [
      | then-set-position-eq1+in_ok-push w ↦ w.places-is ∙ w.in_ok-push.ensures.ok
          ∙ place_pushed t.accesses.now t.block.now items is set n _ c.loop-position-test.true c.loop-position.places c.loop-position.invariant
          (bit_from set n w.if-set-position-eq1.true)
      | else-set-position-eq1 w ↦ w.places-is
          ∙ place_left t.accesses.now t.block.now items is set n no_candidate c.loop-position-test.true c.loop-position.places c.loop-position.invariant
          (λ e. w.if-set-position-eq1.false (bit_back set n e))
    ]
