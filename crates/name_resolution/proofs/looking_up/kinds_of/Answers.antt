use Rattle.std.proofs.Common.{◌+◌, take, map, ◌∙◌, sym, ap}
use Rattle.std.specs.List.{filter_map}
use Rattle.beas_core.specs.declared.schema.ColType.{ColType}
use Rattle.name_resolution.specs.declared.meaning.BoundColumn.{BoundColumn}
use Rattle.name_resolution.specs.LookedUp.{column_of}
use Rattle.name_resolution.proofs.PartFacts.{columns_to_one, columns_to_none, mapped_one, not_some}
use Rattle.name_resolution.proofs.looking_up.kinds_of.Goals as goal
use Rattle.name_resolution.proofs.looking_up.kinds_of.Goals.{in-Some+in_ok-push, in_default}

pub loop-item-preserved : goal.loop-item-preserved
loop-item-preserved c =
    let kind : BoundColumn → ColType = λ b. b.kind in
    elim c.match-column_of.branch [
      | in-Some+in_ok-push w ↦ w.kinds-is ∙ w.in_ok-push.ensures.ok
          ∙ mapped_one kind c.loop-item.kinds (filter_map column_of (take c.loop-item.item-index c.args.items.now))
          (filter_map column_of (take (c.loop-item.item-index + 1) c.args.items.now)) w.in-Some.column c.loop-item.invariant
          (columns_to_one c.args.items.now c.loop-item.item-index c.item-item.result w.in-Some.column c.loop-item-test.true c.item-item.is
          (sym c.column_of.ensures ∙ w.in-Some.is))
      | in_default w ↦ w.kinds-is ∙ c.loop-item.invariant
          ∙ sym (ap (map kind) (columns_to_none c.args.items.now c.loop-item.item-index c.item-item.result c.loop-item-test.true c.item-item.is
          (sym c.column_of.ensures ∙ not_some c.column_of.result w.in_default.not-Some)))
    ]
