use Rattle.std.proofs.Common.{◌≡◌, ◌<◌, ◌∷◌, ◌++◌, [], ◌∙◌, ℕ, List, ap, sym, subst, length, map, All, if◌then◌else◌}
use Rattle.beas_core.specs.Types.{Binding, Row}
use Rattle.beas_core.specs.Valuations.{value_of, agrees, classes_in}
use Rattle.beas_core.specs.Extensions.{keep_met}
use Rattle.plan_ops.specs.Over.{set_of}
use Rattle.plan_ops.specs.Places.{place_of}
use Rattle.plan_ops.proofs.BoundSets.{counted, set_again}
use Rattle.plan_ops.proofs.ConstantFacts.{one_valued, classes_small, classes_placed, constants_small, one_wide}
use Rattle.plan_ops.proofs.starting.start.Goals as goal

abbrev firsts : List Binding → List ℕ
firsts cs = map (λ b. b.0) cs

pub first_positions-requires : goal.first_positions-requires
first_positions-requires c =
    let is = c.of_constants-list.ensures ∙ ap firsts c.as_slice-constants.ensures in
    subst (All (λ class. class < c.args.block.now.count)) (sym is) (constants_small c.args.block.now.count c.args.block.now.constants c.requires)

pub classes_of-requires-clause-classes : goal.classes_of-requires-clause-classes
classes_of-requires-clause-classes c =
    let is = c.of_constants-list.ensures ∙ ap firsts c.as_slice-constants.ensures in
    subst (All (λ class. class < c.args.block.now.count)) (sym is) (constants_small c.args.block.now.count c.args.block.now.constants c.requires)

pub push_constant_row-requires-clause-classes : goal.push_constant_row-requires-clause-classes
push_constant_row-requires-clause-classes c =
    let is = c.of_constants-list.ensures ∙ ap firsts c.as_slice-constants.ensures in
    let set = set_of c.args.block.now (firsts c.args.block.now.constants) in
    let classes = c.as_slice.ensures ∙ c.in_ok-classes.ensures ∙ ap (λ cs. classes_in (set_of c.args.block.now cs)) is in
    subst (All (λ class. class < c.args.block.now.count)) (sym classes)
    (classes_small set c.args.block.now.count (counted c.args.block.now (firsts c.args.block.now.constants)))

pub push_constant_row-requires-clause-equated : goal.push_constant_row-requires-clause-equated
push_constant_row-requires-clause-equated c =
    let is = c.of_constants-list.ensures ∙ ap firsts c.as_slice-constants.ensures in
    let classes = c.as_slice.ensures ∙ c.in_ok-classes.ensures ∙ ap (λ cs. classes_in (set_of c.args.block.now cs)) is in
    subst (λ (cs : List Binding). All (λ class. place_of (firsts cs) class < length cs) c.as_slice.result.now) (sym c.as_slice-constants.ensures)
    (subst (All (λ class. place_of (firsts c.args.block.now.constants) class < length c.args.block.now.constants)) (sym classes)
    (classes_placed c.args.block.now c.args.block.now.constants))

pub keep-requires : goal.keep-requires
keep-requires c =
    let is = c.of_constants-list.ensures ∙ ap firsts c.as_slice-constants.ensures in
    let set = set_of c.args.block.now (firsts c.args.block.now.constants) in
    let classes = c.in_ok-classes.ensures ∙ ap (λ cs. classes_in (set_of c.args.block.now cs)) is in
    let one = if agrees c.as_slice-constants.result.now then map (value_of c.as_slice-constants.result.now) c.as_slice.result.now ∷ [] else [] in
    let rows = c.from_vec.ensures ∙ c.in_ok-push_constant_row.ensures ∙ ap (λ (rs : List Row). rs ++ one) c.new-rows.ensures.items in
    record {
      classes_are = classes ∙ ap classes_in
          (sym (ap (set_of c.args.block.now) classes ∙ set_again c.args.block.now set (counted c.args.block.now (firsts c.args.block.now.constants))));
      widths = subst (λ ks. All (λ (row : Row). length row ≡ length ks) c.from_vec.result) c.as_slice.ensures
          (subst (All (λ (row : Row). length row ≡ length c.as_slice.result.now)) (sym rows)
          (one_wide (agrees c.as_slice-constants.result.now) (value_of c.as_slice-constants.result.now) c.as_slice.result.now));
    }

pub returns-clause-rows : goal.returns-clause-rows
returns-clause-rows c =
    let constants = c.args.block.now.constants in
    let is = c.of_constants-list.ensures ∙ ap firsts c.as_slice-constants.ensures in
    let set = set_of c.args.block.now (firsts constants) in
    let classes = c.in_ok-classes.ensures ∙ ap (λ cs. classes_in (set_of c.args.block.now cs)) is in
    let one = if agrees c.as_slice-constants.result.now then map (value_of c.as_slice-constants.result.now) c.as_slice.result.now ∷ [] else [] in
    let rows = c.from_vec.ensures ∙ c.in_ok-push_constant_row.ensures ∙ ap (λ (rs : List Row). rs ++ one) c.new-rows.ensures.items in
    c.keep.ensures.rows
    ∙ ap (λ s. keep_met c.args.block.now s c.from_vec.result)
    (ap (set_of c.args.block.now) classes ∙ set_again c.args.block.now set (counted c.args.block.now (firsts constants)))
    ∙ one_valued c.args.block.now set constants c.from_vec.result (rows
    ∙ ap (λ cs. if agrees cs then map (value_of cs) c.as_slice.result.now ∷ [] else []) c.as_slice-constants.ensures
    ∙ ap (λ ks. if agrees constants then map (value_of constants) ks ∷ [] else []) (c.as_slice.ensures ∙ classes))
