use Rattle.std.proofs.Common.{◌++◌, ◌∙◌, [], sym, subst, take, map, append-nil}
use Rattle.beas_core.specs.Valuations.{output_row}
use Rattle.beas_core.proofs.Sets.{SameMembers}
use Rattle.place_chains.specs.TupleOrder.{values_at}
use Rattle.plan_ops.specs.Stages.{bound_with, next_by, set_before, use_at}
use Rattle.block_walk.specs.Entries.{kept_of}
use Rattle.block_walk.proofs.FittingFacts.{next_all, next_left, outputs_settled, outputs_taken}
use Rattle.block_walk.proofs.SameFacts.{same_equal}
use Rattle.block_walk.proofs.walking.push_outputs.Goals as goal

pub tuples-init : goal.tuples-init
tuples-init c =
    let normal = c.args.block.now in
    let stage = c.args.stage.now in
    let start = c.args.through.now in
    let tuples = kept_of c.args.known.now c.args.place in
    let out = output_row normal (bound_with normal (use_at stage) (set_before normal stage)) in
    record {
      fits = c.fitting-fitting.ensures.fits;
      through = subst (λ n. SameMembers start (start ++ map out (next_by normal (use_at stage) (set_before normal stage) c.args.row.now (take n tuples))))
          (sym c.fitting-fitting.ensures.first) (same_equal start (start ++ []) (sym (append-nil start)));
    }

-- the output of the tuple's valuation was added
pub tuples-preserved-else-stage : goal.tuples-preserved-else-stage
tuples-preserved-else-stage c =
    let stage = c.args.stage.now in
    let row = c.args.row.now in
    let tuples = kept_of c.args.known.now c.args.place in
    let was = c.tuples.invariant in
    let comes = c.in-Some.ensures stage.join.shared.1 tuples (values_at stage.join.shared.0 row) was.fits in
    record {
      fits = comes.4;
      through = outputs_taken c.args.block.now stage c.requires.stage row tuples c.requires.pairs c.tuples.fitting c.next.new.self c.in-Some.i comes
          c.tuple-tuple.result.now c.tuple-tuple.ensures (sym c.leads.ensures ∙ c.if-leads.true) c.args.through.now c.tuples.through
          c.push_output_once.new.through was.through c.in_ok-push_output_once.ensures;
    }

-- it was, and all others are the same
pub returns-then-stage : goal.returns-then-stage
returns-then-stage c =
    let stage = c.args.stage.now in
    let row = c.args.row.now in
    let tuples = kept_of c.args.known.now c.args.place in
    let was = c.tuples.invariant in
    let comes = c.in-Some.ensures stage.join.shared.1 tuples (values_at stage.join.shared.0 row) was.fits in
    outputs_settled c.args.block.now stage c.requires.stage row tuples c.requires.pairs c.tuples.fitting c.next.new.self c.in-Some.i comes
    c.tuple-tuple.result.now c.tuple-tuple.ensures (sym c.leads.ensures ∙ c.if-leads.true) c.args.through.now c.tuples.through
    c.push_output_once.new.through was.through c.in_ok-push_output_once.ensures c.if-stage.true

pub tuples-preserved : goal.tuples-preserved
tuples-preserved c =
    let normal = c.args.block.now in
    let stage = c.args.stage.now in
    let row = c.args.row.now in
    let out = output_row normal (bound_with normal (use_at stage) (set_before normal stage)) in
    let tuples = kept_of c.args.known.now c.args.place in
    let comes = c.in-Some.ensures stage.join.shared.1 tuples (values_at stage.join.shared.0 row) c.tuples.invariant.fits in
    record {
      fits = comes.4;
      through = subst (λ rows. SameMembers c.tuples.through (c.args.through.now ++ map out rows))
          (sym (next_left normal stage c.requires.stage row tuples c.requires.pairs c.tuples.fitting c.next.new.self c.in-Some.i comes
          c.tuple-tuple.result.now c.tuple-tuple.ensures (sym c.leads.ensures ∙ c.if-leads.false)))
          c.tuples.invariant.through;
    }

pub returns : goal.returns
returns c =
    let normal = c.args.block.now in
    let stage = c.args.stage.now in
    let row = c.args.row.now in
    let start = c.args.through.now in
    let tuples = kept_of c.args.known.now c.args.place in
    let out = output_row normal (bound_with normal (use_at stage) (set_before normal stage)) in
    let fits = c.tuples.invariant.fits in
    let none = (c.in_default.ensures stage.join.shared.1 tuples (values_at stage.join.shared.0 row) fits).0 in
    subst (λ rows. SameMembers c.tuples.through (start ++ map out rows))
    (next_all normal stage c.requires.stage row tuples c.requires.pairs c.tuples.fitting.from fits.from none) c.tuples.invariant.through
