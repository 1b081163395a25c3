use Rattle.std.proofs.Common.{◌≡◌, length, map, take}
use Rattle.std.specs.Prelude.{All}
use Rattle.version_store.specs.Held.{HasPart, IsOpen, cursor_of, held_of}
use Rattle.version_store.proofs.freezing.freeze_for.Given as goal

abbrev pub invariant-loop-place : goal.invariant-loop-place
invariant-loop-place g l =
    let see = held_of g.P.Part.table_of g.P.AccessPort.rows g.P.AccessPort.accesses (g.G.AccessPort.rows l.guard) (g.G.AccessPort.accesses l.guard) in
    record {
      kept : All (IsOpen g.P.Part.table_of g.P.AccessPort.rows g.P.AccessPort.accesses (g.G.AccessPort.rows l.guard)
          (g.G.AccessPort.accesses l.guard)) l.queries.items;
      held : map see l.queries.items ≡ map see l.fn.queries.items;
      cursors : map cursor_of l.queries.items ≡ map cursor_of l.fn.queries.items;
      count : length l.queries.items ≡ length l.fn.queries.items;
      frozen : All (HasPart g.P.Part.table_of l.table) (take l.place l.queries.items);
    }
