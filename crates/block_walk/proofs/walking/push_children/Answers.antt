use Rattle.std.proofs.Common.{◌≡◌, ◌+◌, ◌++◌, ◌∷◌, ◌∙◌, [], List, ap, sym, subst, take, append-nil, append_assoc, refl, true, false}
use Rattle.std.proofs.lemmas.List.{map-append}
use Rattle.beas_core.specs.Types.{Row}
use Rattle.place_chains.specs.Fitting.{IsFitting}
use Rattle.place_chains.specs.TupleOrder.{values_at}
use Rattle.plan_ops.specs.Stages.{joined_row, leads_to, next_by, set_before, use_at}
use Rattle.block_walk.specs.Entries.{kept_of}
use Rattle.block_walk.specs.Kept.{Pending, pending_at}
use Rattle.block_walk.specs.Stacks.{pending_in, pending_of, row_of}
use Rattle.block_walk.specs.Walks.{children}
use Rattle.block_walk.proofs.FittingFacts.{next_all, next_left, next_taken}
use Rattle.block_walk.proofs.walking.push_children.Goals as goal

pub tuples-init : goal.tuples-init
tuples-init c =
    let stage = c.args.stage.now in
    let at = c.args.at in
    let start = pending_in c.args.pending.now in
    let tuples = kept_of c.args.known.now c.args.place in
    record {
      stack = c.requires.stack;
      inside = c.requires.inside;
      same = refl;
      fits = subst (λ v. IsFitting stage.join.shared.1 tuples (values_at stage.join.shared.0 v) c.fitting-fitting.result) c.row.ensures
          c.fitting-fitting.ensures.fits;
      pending = subst (λ n. start ≡ start ++ children (pending_of c.args.pending.now.values.items at)
          (next_by c.args.block.now (use_at stage) (set_before c.args.block.now stage) (row_of c.args.pending.now at) (take n tuples)))
          (sym c.fitting-fitting.ensures.first) (sym (append-nil start));
    }

-- the tuple's valuation was put on top
pub tuples-preserved-in-Continue-1 : goal.tuples-preserved-in-Continue-1
tuples-preserved-in-Continue-1 c =
    let normal = c.args.block.now in
    let stage = c.args.stage.now in
    let u = use_at stage in
    let set = set_before normal stage in
    let at = c.args.at in
    let row = row_of c.args.pending.now at in
    let f = joined_row normal u set row in
    let t = c.tuple-tuple.result.now in
    let tuples = kept_of c.args.known.now c.args.place in
    let start = pending_in c.args.pending.now in
    let is = pending_of c.args.pending.now.values.items at in
    let was = c.tuples.invariant in
    let old = c.tuples.fitting in
    let so_far = next_by normal u set row (take old.from tuples) in
    let comes = c.in-Some.ensures stage.join.shared.1 tuples (values_at stage.join.shared.0 row) was.fits in
    let led : leads_to normal u set row t ≡ true =
    sym (c.leads.ensures ∙ ap (λ (v : Row). leads_to normal u set v t) (c.row-in-Some.ensures ∙ was.same)) ∙ c.if-leads.true in
    let done = c.in_ok-push_child.ensures in
    record {
      stack = done.stack;
      inside = done.inside;
      same = done.same ∙ was.same;
      fits = comes.4;
      pending = done.pending
          ∙ ap (λ (v : Row). pending_in c.tuples.pending ++ pending_at (at.step + 1) (joined_row normal u set v t) ∷ []) was.same
          ∙ ap (λ (ps : List Pending). ps ++ pending_at (at.step + 1) (f t) ∷ []) was.pending
          ∙ append_assoc start (children is so_far) (pending_at (at.step + 1) (f t) ∷ [])
          ∙ ap (λ (ps : List Pending). start ++ ps) (sym (map-append (pending_at (at.step + 1)) so_far (f t ∷ [])))
          ∙ ap (λ (rows : List Row). start ++ children is rows)
          (sym (next_taken normal stage c.requires.stage row tuples c.requires.pairs old c.next.new.self c.in-Some.i comes t c.tuple-tuple.ensures led));
    }

pub tuples-preserved : goal.tuples-preserved
tuples-preserved c =
    let normal = c.args.block.now in
    let stage = c.args.stage.now in
    let row = row_of c.args.pending.now c.args.at in
    let t = c.tuple-tuple.result.now in
    let tuples = kept_of c.args.known.now c.args.place in
    let was = c.tuples.invariant in
    let comes = c.in-Some.ensures stage.join.shared.1 tuples (values_at stage.join.shared.0 row) was.fits in
    let led : leads_to normal (use_at stage) (set_before normal stage) row t ≡ false =
    sym (c.leads.ensures ∙ ap (λ (v : Row). leads_to normal (use_at stage) (set_before normal stage) v t) (c.row-in-Some.ensures ∙ was.same)) ∙ c.if-leads.false in
    record {
      stack = was.stack;
      inside = was.inside;
      same = was.same;
      fits = comes.4;
      pending = was.pending
          ∙ ap (λ (rows : List Row). pending_in c.args.pending.now ++ children (pending_of c.args.pending.now.values.items c.args.at) rows)
          (sym (next_left normal stage c.requires.stage row tuples c.requires.pairs c.tuples.fitting c.next.new.self c.in-Some.i comes t c.tuple-tuple.ensures led));
    }

pub returns-clause-pending : goal.returns-clause-pending
returns-clause-pending c =
    let normal = c.args.block.now in
    let stage = c.args.stage.now in
    let at = c.args.at in
    let row = row_of c.args.pending.now at in
    let tuples = kept_of c.args.known.now c.args.place in
    let was = c.tuples.invariant in
    let none = (c.in_default.ensures stage.join.shared.1 tuples (values_at stage.join.shared.0 row) was.fits).0 in
    was.pending ∙ ap (λ (rows : List Row). pending_in c.args.pending.now ++ children (pending_of c.args.pending.now.values.items at) rows)
    (next_all normal stage c.requires.stage row tuples c.requires.pairs c.tuples.fitting.from was.fits.from none)
