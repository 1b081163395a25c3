use Rattle.std.proofs.Common.{rules, ◌≡◌, ◌<◌, ◌∙◌, length, get_or}
use Rattle.beas_core.specs.declared.query.Place.{Place}
use Rattle.beas_core.specs.Coverage.{place_class}
use Rattle.plan_ops.proofs.GuidedStarts.{equated_more}
use Rattle.plan_ops.proofs.starting.equate_output.Goals as goal

abbrev none : Place
none = record { atom = 0; column = record { 0 = 0 } }

pub loop-at-preserved : goal.loop-at-preserved
loop-at-preserved c =
    let block = c.args.block.now in
    let row = c.args.row.now in
    let inside : c.loop-at.at < length block.output = search rules in
    let within : c.loop-at.at < length row = search rules in
    let class : c.class_at-class.result ≡ place_class block (get_or block.output c.loop-at.at none) = search rules in
    let value : c.in_ok-copy.field-0 ≡ get_or row c.loop-at.at c.index-row-at.result = c.in_ok-copy.ensures ∙ c.index-row-at.is in
    equated_more block c.args.constants.now.items row c.loop-at.at none c.index-row-at.result inside within c.class_at-class.result
    c.in_ok-copy.field-0 class value c.loop-at.constants.items c.push.new.self.items c.loop-at.invariant c.in_ok-push.ensures.items
