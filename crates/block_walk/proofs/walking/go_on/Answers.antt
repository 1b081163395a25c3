use Rattle.std.proofs.Common.{◌≡◌, ◌&&◌, ◌==◌, ◌+◌, ◌++◌, ◌∙◌, All, Bool, false, List, inl, inr, refl, ap, map, sym, subst, arith}
use Rattle.beas_core.specs.Types.{Row}
use Rattle.beas_core.specs.Valuations.{output_row}
use Rattle.beas_core.proofs.Sets.{SameMembers}
use Rattle.beas_core.proofs.MemberTests.{and_right}
use Rattle.plan_ops.specs.Stages.{IsPair, bound_with, next_by, set_before, use_at}
use Rattle.block_walk.specs.Entries.{entry_of, kept_of}
use Rattle.block_walk.specs.Stacks.{pending_in, pending_of, row_of}
use Rattle.block_walk.specs.Walks.{children}
use Rattle.block_walk.proofs.SievedFacts.{all_kept, below_differs, next_kept, outputs_kept}
use Rattle.block_walk.proofs.walking.go_on.Goals as goal

pub push_children-requires-clause-pairs : goal.push_children-requires-clause-pairs
push_children-requires-clause-pairs c =
    let stage = c.args.stage.now in
    let one = (c.args.at.step + 1 == c.args.count) && stage.sieve.one in
    all_kept (IsPair c.args.block.now stage (row_of c.args.pending.now c.args.at)) c.args.block.now stage.sieve one
    (entry_of c.args.known.now c.args.place).1 (kept_of c.args.known.now c.args.place) c.requires.kept c.requires.pairs

pub returns-then-at-count-clause-goes_on : goal.returns-then-at-count-clause-goes_on
returns-then-at-count-clause-goes_on c =
    let normal = c.args.block.now in
    let stage = c.args.stage.now in
    let row = row_of c.args.pending.now c.args.at in
    let tuples = (entry_of c.args.known.now c.args.place).1 in
    let kept = kept_of c.args.known.now c.args.place in
    let one = (c.args.at.step + 1 == c.args.count) && stage.sieve.one in
    let all : one ≡ false = ap (λ (b : Bool). b && stage.sieve.one) (below_differs (c.args.at.step + 1) c.args.count c.if-at-count.true) in
    inr (
      c.if-at-count.true,
      c.in_ok-push_children.ensures.pending
          ∙ ap (λ (rows : List Row). pending_in c.args.pending.now ++ children (pending_of c.args.pending.now.values.items c.args.at) rows)
          (next_kept normal stage c.requires.stage row tuples c.requires.pairs kept one c.requires.kept all),
      refl,
    )

pub push_outputs-requires-clause-pairs : goal.push_outputs-requires-clause-pairs
push_outputs-requires-clause-pairs c =
    let stage = c.args.stage.now in
    let one = (c.args.at.step + 1 == c.args.count) && stage.sieve.one in
    let kept = kept_of c.args.known.now c.args.place in
    subst (λ (v : Row). All (IsPair c.args.block.now stage v) kept) (sym c.row.ensures)
    (all_kept (IsPair c.args.block.now stage (row_of c.args.pending.now c.args.at)) c.args.block.now stage.sieve one
    (entry_of c.args.known.now c.args.place).1 kept c.requires.kept c.requires.pairs)

pub returns-clause-goes_on : goal.returns-clause-goes_on
returns-clause-goes_on c =
    let normal = c.args.block.now in
    let stage = c.args.stage.now in
    let row = row_of c.args.pending.now c.args.at in
    let tuples = (entry_of c.args.known.now c.args.place).1 in
    let kept = kept_of c.args.known.now c.args.place in
    let one = (c.args.at.step + 1 == c.args.count) && stage.sieve.one in
    let below = c.requires.below in
    let past = c.if-at-count.false in
    let out = output_row normal (bound_with normal (use_at stage) (set_before normal stage)) in
    inl (
      omega (arith, below, past),
      refl,
      outputs_kept normal stage c.requires.stage row tuples c.requires.pairs kept one c.requires.kept
          (λ e. and_right (c.args.at.step + 1 == c.args.count) stage.sieve.one e) c.push_outputs.new.through c.args.through.now
          (subst (λ (v : Row). SameMembers c.push_outputs.new.through
          (c.args.through.now ++ map out (next_by normal (use_at stage) (set_before normal stage) v kept))) c.row.ensures c.in_ok-push_outputs.ensures),
    )
