use Rattle.std.proofs.Common.{sym, ◌∙◌, ap}
use Rattle.std.proofs.lemmas.List.{append-nil}
use Rattle.name_resolution.specs.Meanings.{columns_in}
use Rattle.name_resolution.specs.Scopes.{found_in, found_at}
use Rattle.name_resolution.proofs.ScopeFacts.{map_more}
use Rattle.name_resolution.proofs.scope.add_columns.Goals as goal

pub loop-place-init : goal.loop-place-init
unfolding columns_in
loop-place-init c = λ name before is. is ∙ ap found_in (sym (append-nil before))

pub loop-place-preserved : goal.loop-place-preserved
loop-place-preserved c = λ name before is.
    map_more (found_at c.loop-place.by_name)
    (found_at c.add_column.new.by_name) c.args.atom c.args.columns.now c.loop-place.place c.index-columns-place.result name before
    c.loop-place-test.true c.index-columns-place.is (c.loop-place.invariant name before is) (rw c.as_str.ensures at (c.in_ok-add_column.ensures name))
