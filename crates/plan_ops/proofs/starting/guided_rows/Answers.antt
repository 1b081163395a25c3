use Rattle.std.proofs.Common.{rules, ◌≡◌, ◌<◌, ◌∷◌, ◌++◌, ◌∙◌, ℕ, List, [], true, if◌then◌else◌, length, take, map, zip, All, ap, sym, subst}
use Rattle.std.proofs.Math.Seq.{take-append_seam}
use Rattle.beas_core.specs.Types.{Binding, Row}
use Rattle.beas_core.specs.Coverage.{output_classes, start_classes}
use Rattle.beas_core.specs.Valuations.{agrees, value_of}
use Rattle.plan_ops.specs.Places.{place_of, places_in}
use Rattle.plan_ops.specs.Started.{one_row}
use Rattle.plan_ops.proofs.BoundSets.{counted}
use Rattle.plan_ops.proofs.ConstantFacts.{classes_small}
use Rattle.plan_ops.proofs.GuidedStarts.{keys, start_set, start_of, start_keys, start_small, start_placed, started_more}
use Rattle.plan_ops.proofs.starting.guided_rows.Goals as goal

abbrev one_row_of : List Binding → List ℕ → List Row
one_row_of bs classes = if agrees bs then map (value_of bs) classes ∷ [] else []

pub push_constant_row-requires-clause-constants : goal.push_constant_row-requires-clause-constants
push_constant_row-requires-clause-constants c =
    let block = c.args.block.now in
    let row = c.answer-item.result in
    let wide = ap length c.answer-item.is ∙ c.requires.widths c.loop-answer.answer-index row c.loop-answer-test.true in
    let is = c.deref.ensures.value ∙ c.in_ok-equate_output.ensures
    ∙ ap (λ bs. bs ++ zip (output_classes block) c.as_slice.result.now) (c.truncate.ensures.items ∙ c.loop-answer.invariant.own)
    ∙ ap (λ r. start_of block r) c.as_slice.ensures in
    subst (All (λ (b : Binding). b.0 < block.count)) (sym is) (start_small block row wide c.requires.constants c.requires.ranges)

pub push_constant_row-requires-clause-places : goal.push_constant_row-requires-clause-places
push_constant_row-requires-clause-places c =
    let block = c.args.block.now in
    let row = c.answer-item.result in
    let wide = ap length c.answer-item.is ∙ c.requires.widths c.loop-answer.answer-index row c.loop-answer-test.true in
    let is = c.deref.ensures.value ∙ c.in_ok-equate_output.ensures
    ∙ ap (λ bs. bs ++ zip (output_classes block) c.as_slice.result.now) (c.truncate.ensures.items ∙ c.loop-answer.invariant.own)
    ∙ ap (λ r. start_of block r) c.as_slice.ensures in
    c.requires.places ∙ ap (places_in block.count) (sym (ap (map (λ (b : Binding). b.0)) is ∙ start_keys block row wide))

pub push_constant_row-requires-clause-classes : goal.push_constant_row-requires-clause-classes
push_constant_row-requires-clause-classes c =
    let block = c.args.block.now in
    subst (All (λ class. class < block.count)) (sym c.requires.classes)
    (classes_small (start_classes block true) block.count (ap length (sym (start_set block)) ∙ counted block (keys block)))

pub push_constant_row-requires-clause-equated : goal.push_constant_row-requires-clause-equated
push_constant_row-requires-clause-equated c =
    let block = c.args.block.now in
    let row = c.answer-item.result in
    let wide = ap length c.answer-item.is ∙ c.requires.widths c.loop-answer.answer-index row c.loop-answer-test.true in
    let is = c.deref.ensures.value ∙ c.in_ok-equate_output.ensures
    ∙ ap (λ bs. bs ++ zip (output_classes block) c.as_slice.result.now) (c.truncate.ensures.items ∙ c.loop-answer.invariant.own)
    ∙ ap (λ r. start_of block r) c.as_slice.ensures in
    subst (λ (bs : List Binding). All (λ class. place_of (map (λ (b : Binding). b.0) bs) class < length bs) c.args.classes.now) (sym is)
    (subst (All (λ class. place_of (map (λ (b : Binding). b.0) (start_of block row)) class < length (start_of block row))) (sym c.requires.classes)
    (start_placed block row wide))

pub loop-answer-preserved : goal.loop-answer-preserved
loop-answer-preserved c =
    let block = c.args.block.now in
    let row = c.answer-item.result in
    let set = start_classes block true in
    let items = c.in_ok-equate_output.ensures
    ∙ ap (λ bs. bs ++ zip (output_classes block) c.as_slice.result.now) (c.truncate.ensures.items ∙ c.loop-answer.invariant.own)
    ∙ ap (λ r. start_of block r) c.as_slice.ensures in
    let long : c.len-own.result ≡ length block.constants = search rules in
    let started = c.in_ok-push_constant_row.ensures
    ∙ ap (λ bs. c.loop-answer.rows.items ++ one_row_of bs c.args.classes.now) (c.deref.ensures.value ∙ items)
    ∙ ap (λ ks. c.loop-answer.rows.items ++ one_row_of (start_of block row) ks) c.requires.classes in
    record {
      own = ap (take c.len-own.result) items ∙ ap (λ n. take n (start_of block row)) long ∙ take-append_seam block.constants (zip (output_classes block) row);
      rows = started ∙ ap (λ rs. rs ++ one_row set (start_of block row)) c.loop-answer.invariant.rows
          ∙ started_more block set c.args.answers.now c.loop-answer.answer-index row c.loop-answer-test.true c.answer-item.is;
    }
