use Rattle.std.proofs.Common.{◌∙◌, ◌∷◌, [], ap, length, arith, length-append}
use Rattle.std.specs.Prelude.{◌++◌, remove}
use Rattle.update_guard.proofs.BoundFacts.{broken_where, whole_where, held_where}
use Rattle.update_guard.proofs.IndexFacts.{last_removed}
use Rattle.update_guard.proofs.making.put_index.Goals as goal

pub drop_at-requires : goal.drop_at-requires
drop_at-requires g c =
    let old = g.I.Indexes.seen c.args.indexes.now in
    let b = c.in_ok-needed.ensures.built in
    omega (arith, ap length b.added, c.len-end.ensures, length-append old (b.index ∷ []))

pub returns-then-needed-bound-clause-refused : goal.returns-then-needed-bound-clause-refused
returns-then-needed-bound-clause-refused g c =
    broken_where c.args.rows.now c.args.access c.in_ok-needed.needed c.in_ok-needed.ensures.greatest c.if-needed-bound.true

pub returns-then-needed-bound-clause-err : goal.returns-then-needed-bound-clause-err
returns-then-needed-bound-clause-err g c =
    let old = g.I.Indexes.seen c.args.indexes.now in
    let b = c.in_ok-needed.ensures.built in
    c.drop_at.ensures ∙ ap (λ xs. remove xs c.len-end.result) b.added ∙ ap (remove (old ++ b.index ∷ [])) c.len-end.ensures ∙ last_removed old b.index

pub returns-clause-refused : goal.returns-clause-refused
returns-clause-refused g c =
    whole_where c.args.rows.now c.args.access c.in_ok-needed.needed c.in_ok-needed.ensures.greatest c.if-needed-bound.false

pub returns-clause-index : goal.returns-clause-index
returns-clause-index g c =
    let b = c.in_ok-needed.ensures.built in
    record {
      index = b.index;
      added = b.added;
      access_is = b.access_is;
      index_is = b.index_is;
      holds = held_where c.args.rows.now c.args.access c.in_ok-needed.needed c.in_ok-needed.ensures.greatest c.if-needed-bound.false;
    }
