use Rattle.std.proofs.Common.{◌∙◌, arith}
use Rattle.std.proofs.lemmas.List.{length-set}
use Rattle.std.proofs.lemmas.List.Elements.{All-set}
use Rattle.version_store.specs.Held.{HasPart, IsOpen, cursor_of, held_of}
use Rattle.version_store.proofs.LoopFacts.{front-all, front-more, item-is, map-set}
use Rattle.version_store.proofs.freezing.freeze_for.Goals as goal

pub freeze_one-requires-clause-kept : goal.freeze_one-requires-clause-kept
freeze_one-requires-clause-kept g c =
    let guard = c.args.guard.now in
    item-is (IsOpen g.P.Part.table_of g.P.AccessPort.rows g.P.AccessPort.accesses (g.G.AccessPort.rows guard) (g.G.AccessPort.accesses guard))
    c.loop-place.place c.loop-place.queries.items c.index_mut.result.now c.index_mut.ensures.value
    (omega (arith, c.loop-place-test.true, c.len-place-end.ensures, c.loop-place.invariant.count)) c.loop-place.invariant.kept

pub returns-in_err-freeze_one-clause-kept : goal.returns-in_err-freeze_one-clause-kept
returns-in_err-freeze_one-clause-kept g c =
    let guard = c.args.guard.now in
    All-set (IsOpen g.P.Part.table_of g.P.AccessPort.rows g.P.AccessPort.accesses (g.G.AccessPort.rows guard) (g.G.AccessPort.accesses guard))
    c.loop-place.queries.items c.loop-place.place c.freeze_one.new.query c.freeze_one.ensures.kept c.loop-place.invariant.kept

pub returns-in_err-freeze_one-clause-held : goal.returns-in_err-freeze_one-clause-held
returns-in_err-freeze_one-clause-held g c =
    let guard = c.args.guard.now in
    map-set (held_of g.P.Part.table_of g.P.AccessPort.rows g.P.AccessPort.accesses (g.G.AccessPort.rows guard) (g.G.AccessPort.accesses guard))
    c.loop-place.queries.items c.args.queries.now.items c.loop-place.place c.freeze_one.new.query c.index_mut.result.now
    c.index_mut.ensures.value c.freeze_one.ensures.held c.loop-place.invariant.held

pub returns-in_err-freeze_one-clause-cursors : goal.returns-in_err-freeze_one-clause-cursors
returns-in_err-freeze_one-clause-cursors g c =
    map-set cursor_of c.loop-place.queries.items c.args.queries.now.items c.loop-place.place c.freeze_one.new.query c.index_mut.result.now
    c.index_mut.ensures.value c.freeze_one.ensures.cursor c.loop-place.invariant.cursors

pub loop-place-preserved : goal.loop-place-preserved
loop-place-preserved g c =
    let guard = c.args.guard.now in
    record {
      kept = All-set (IsOpen g.P.Part.table_of g.P.AccessPort.rows g.P.AccessPort.accesses (g.G.AccessPort.rows guard) (g.G.AccessPort.accesses guard))
          c.loop-place.queries.items c.loop-place.place c.freeze_one.new.query c.freeze_one.ensures.kept c.loop-place.invariant.kept;
      held = map-set (held_of g.P.Part.table_of g.P.AccessPort.rows g.P.AccessPort.accesses (g.G.AccessPort.rows guard) (g.G.AccessPort.accesses guard))
          c.loop-place.queries.items c.args.queries.now.items c.loop-place.place c.freeze_one.new.query c.index_mut.result.now
          c.index_mut.ensures.value c.freeze_one.ensures.held c.loop-place.invariant.held;
      cursors = map-set cursor_of c.loop-place.queries.items c.args.queries.now.items c.loop-place.place c.freeze_one.new.query
          c.index_mut.result.now c.index_mut.ensures.value c.freeze_one.ensures.cursor c.loop-place.invariant.cursors;
      count = length-set c.loop-place.queries.items c.loop-place.place c.freeze_one.new.query ∙ c.loop-place.invariant.count;
      frozen = front-more (HasPart g.P.Part.table_of c.args.table) c.loop-place.place c.loop-place.queries.items c.freeze_one.new.query
          (omega (arith, c.loop-place-test.true, c.len-place-end.ensures, c.loop-place.invariant.count)) c.loop-place.invariant.frozen
          c.in_ok-freeze_one.ensures.frozen;
    }

pub returns-clause-frozen : goal.returns-clause-frozen
returns-clause-frozen g c =
    front-all (HasPart g.P.Part.table_of c.args.table) c.loop-place.place c.loop-place.queries.items
    (omega (arith, c.loop-place-test.false, c.len-place-end.ensures, c.loop-place.invariant.count)) c.loop-place.invariant.frozen
