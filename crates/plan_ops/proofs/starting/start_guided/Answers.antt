use Rattle.std.proofs.Common.{◌≡◌, ◌<◌, ◌∙◌, true, Some, length, All, ap, sym, subst}
use Rattle.beas_core.specs.Types.{Row}
use Rattle.beas_core.specs.Order.{row_cmp}
use Rattle.beas_core.specs.Sets.{distinct}
use Rattle.beas_core.specs.Coverage.{start_classes}
use Rattle.beas_core.specs.Valuations.{classes_in, starts}
use Rattle.beas_core.specs.Extensions.{keep_met}
use Rattle.plan_ops.specs.Over.{set_of}
use Rattle.plan_ops.proofs.BoundSets.{counted, set_again}
use Rattle.plan_ops.proofs.GuidedStarts.{keys, keys_small, start_set, kept_starts, starts_wide, distinct_wide}
use Rattle.plan_ops.proofs.starting.start_guided.Goals as goal

pub first_positions-requires : goal.first_positions-requires
first_positions-requires c =
    let block = c.args.block.now in
    subst (All (λ class. class < block.count)) (sym (c.of-list.ensures ∙ c.deref.ensures.value ∙ c.in_ok-equated.ensures))
    (keys_small block c.requires.constants c.requires.ranges)

pub classes_of-requires-clause-classes : goal.classes_of-requires-clause-classes
classes_of-requires-clause-classes c =
    let block = c.args.block.now in
    subst (All (λ class. class < block.count)) (sym (c.of-list.ensures ∙ c.deref.ensures.value ∙ c.in_ok-equated.ensures))
    (keys_small block c.requires.constants c.requires.ranges)

pub guided_rows-requires-clause-classes : goal.guided_rows-requires-clause-classes
guided_rows-requires-clause-classes c =
    let block = c.args.block.now in
    c.as_slice.ensures ∙ c.in_ok-classes.ensures
    ∙ ap classes_in (ap (set_of block) (c.of-list.ensures ∙ c.deref.ensures.value ∙ c.in_ok-equated.ensures) ∙ start_set block)

pub keep-requires : goal.keep-requires
keep-requires c =
    let block = c.args.block.now in
    let set = start_classes block true in
    let classes = c.in_ok-classes.ensures ∙ ap classes_in (ap (set_of block) (c.of-list.ensures ∙ c.deref.ensures.value ∙ c.in_ok-equated.ensures) ∙ start_set block) in
    let wide = ap length (sym (start_set block)) ∙ counted block (keys block) in
    record {
      classes_are = classes ∙ ap classes_in (sym (ap (set_of block) classes ∙ set_again block set wide));
      widths = subst (λ ks. All (λ (row : Row). length row ≡ length ks) c.from_vec.result) (sym classes)
          (subst (All (λ (row : Row). length row ≡ length (classes_in set))) (sym (c.from_vec.ensures ∙ c.in_ok-rows.ensures))
          (starts_wide set (starts block (Some c.args.answers.now))));
    }

pub returns-clause-over : goal.returns-clause-over
returns-clause-over c =
    let block = c.args.block.now in
    let classes = c.keep.ensures.classes ∙ c.in_ok-classes.ensures
    ∙ ap classes_in (ap (set_of block) (c.of-list.ensures ∙ c.deref.ensures.value ∙ c.in_ok-equated.ensures) ∙ start_set block) in
    record {
      classes_are = classes;
      widths = subst (All (λ (row : Row). length row ≡ length c.keep.new.from.classes))
          (sym (c.from_vec-2.ensures ∙ c.sort_distinct.ensures ∙ ap (distinct row_cmp) c.into_vec.ensures))
          (distinct_wide (length c.keep.new.from.classes) c.keep.new.from.rows c.keep.ensures.over.widths);
    }

pub returns-clause-rows : goal.returns-clause-rows
returns-clause-rows c =
    let block = c.args.block.now in
    let set = start_classes block true in
    let classes = c.in_ok-classes.ensures ∙ ap classes_in (ap (set_of block) (c.of-list.ensures ∙ c.deref.ensures.value ∙ c.in_ok-equated.ensures) ∙ start_set block) in
    let wide = ap length (sym (start_set block)) ∙ counted block (keys block) in
    let ws = starts block (Some c.args.answers.now) in
    c.from_vec-2.ensures ∙ c.sort_distinct.ensures
    ∙ ap (distinct row_cmp) (c.into_vec.ensures ∙ c.keep.ensures.rows
    ∙ ap (λ s. keep_met block s c.from_vec.result) (ap (set_of block) classes ∙ set_again block set wide)
    ∙ ap (keep_met block set) (c.from_vec.ensures ∙ c.in_ok-rows.ensures)
    ∙ kept_starts block set ws)
