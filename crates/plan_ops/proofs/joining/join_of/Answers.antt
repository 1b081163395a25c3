use Rattle.std.proofs.lemmas.List.{length-append}
use Rattle.std.specs.List.{filter}
use Rattle.std.proofs.Common.{ltb, ◌≡◌, ◌-◌, ◌<◌, ◌≤◌, ◌++◌, ◌∙◌, false, ap, sym, subst, map, replicate, All, ◌+◌, length, arith}
use Rattle.beas_core.specs.Types.{Use}
use Rattle.beas_core.specs.declared.query.Place.{Place}
use Rattle.beas_core.specs.declared.schema.ColumnId.{ColumnId}
use Rattle.beas_core.specs.Coverage.{class_at, place_class}
use Rattle.beas_core.specs.Derivations.{member_classes}
use Rattle.beas_core.specs.Valuations.{classes_in}
use Rattle.plan_ops.specs.Joins.{checks_of, joined_classes}
use Rattle.plan_ops.specs.Matching.{IsShared}
use Rattle.plan_ops.specs.Over.{set_of}
use Rattle.plan_ops.specs.Places.{column_of, place_of, places_in}
use Rattle.plan_ops.proofs.BoundSets.{counted, set_again}
use Rattle.plan_ops.proofs.JoinFacts.{joined_length, joined_small, is_within, left_behind, with-append}
use Rattle.plan_ops.proofs.TableFacts.{places_of_classes}
use Rattle.plan_ops.proofs.joining.join_of.Goals as goal

pub first_positions-requires : goal.first_positions-requires
first_positions-requires c =
    let u : Use = record { atom = c.args.atom; access = c.args.access.now } in
    let is = c.with_columns-joined.ensures
    ∙ ap (λ cs. c.args.classes.now ++ map (class_at c.args.block.now c.args.atom) cs) (c.deref.ensures.value ∙ c.in_ok-columns.ensures) in
    subst (All (λ class. class < c.args.block.now.count)) (sym is) (joined_small c.args.block.now c.requires.ranges u c.args.classes.now c.requires.classes)

pub checks_of-requires-clause-classes : goal.checks_of-requires-clause-classes
checks_of-requires-clause-classes c =
    let u : Use = record { atom = c.args.atom; access = c.args.access.now } in
    let is = c.with_columns-joined.ensures
    ∙ ap (λ cs. c.args.classes.now ++ map (class_at c.args.block.now c.args.atom) cs) (c.deref.ensures.value ∙ c.in_ok-columns.ensures) in
    subst (All (λ class. class < c.args.block.now.count)) (sym is) (joined_small c.args.block.now c.requires.ranges u c.args.classes.now c.requires.classes)

pub of_checks-requires : goal.of_checks-requires
of_checks-requires c =
    let u : Use = record { atom = c.args.atom; access = c.args.access.now } in
    let normal = c.args.block.now in
    let is = c.with_columns-joined.ensures
    ∙ ap (λ cs. c.args.classes.now ++ map (class_at c.args.block.now c.args.atom) cs) (c.deref.ensures.value ∙ c.in_ok-columns.ensures) in
    let width = c.len-width.ensures ∙ ap length is in
    let whole = joined_length normal c.requires.ranges u c.args.classes.now c.requires.classes in
    let parts = length-append c.args.access.now.key c.args.access.now.fetched in
    let known : c.len-width.result - c.len.result ≡ length c.args.classes.now + length c.args.access.now.key =
    omega (arith, whole, parts, width, c.len.ensures) in
    let checks = c.in_ok-checks.ensures ∙ ap (λ n. checks_of n c.with_columns-joined.result) known
    ∙ ap (checks_of (length c.args.classes.now + length c.args.access.now.key)) is in
    subst (All (λ k. length c.args.classes.now ≤ k.0)) (sym (c.deref-3.ensures.value ∙ checks))
    (left_behind normal c.requires.ranges u c.args.classes.now c.requires.classes)

pub classes_of-requires-clause-classes : goal.classes_of-requires-clause-classes
classes_of-requires-clause-classes c =
    let u : Use = record { atom = c.args.atom; access = c.args.access.now } in
    let is = c.with_columns-joined.ensures
    ∙ ap (λ cs. c.args.classes.now ++ map (class_at c.args.block.now c.args.atom) cs) (c.deref.ensures.value ∙ c.in_ok-columns.ensures) in
    subst (All (λ class. class < c.args.block.now.count)) (sym is) (joined_small c.args.block.now c.requires.ranges u c.args.classes.now c.requires.classes)

pub of-requires-clause-after : goal.of-requires-clause-after
of-requires-clause-after c =
    let u : Use = record { atom = c.args.atom; access = c.args.access.now } in
    let normal = c.args.block.now in
    let joined = joined_classes normal u c.args.classes.now in
    let is = c.with_columns-joined.ensures
    ∙ ap (λ cs. c.args.classes.now ++ map (class_at c.args.block.now c.args.atom) cs) (c.deref.ensures.value ∙ c.in_ok-columns.ensures) in
    let classes = c.in_ok-bound.ensures ∙ ap (λ js. classes_in (set_of normal js)) is in
    let again = ap (set_of normal) classes ∙ set_again normal (set_of normal joined) (counted normal joined) in
    subst (λ cs. cs ≡ classes_in (set_of normal cs)) (sym c.as_slice-after.ensures) (classes ∙ ap classes_in (sym again))

pub returns : goal.returns
returns c =
    let u : Use = record { atom = c.args.atom; access = c.args.access.now } in
    let normal = c.args.block.now in
    let joined = joined_classes normal u c.args.classes.now in
    let is = c.with_columns-joined.ensures
    ∙ ap (λ cs. c.args.classes.now ++ map (class_at c.args.block.now c.args.atom) cs) (c.deref.ensures.value ∙ c.in_ok-columns.ensures) in
    let classes = c.in_ok-bound.ensures ∙ ap (λ js. classes_in (set_of normal js)) is in
    let width = c.len-width.ensures ∙ ap length is in
    let sources = c.positions_held-sources.ensures
    ∙ ap (λ n. filter (λ place. ltb place n) c.in_ok-places.places.items) width
    ∙ ap (filter (λ place. ltb place (length joined))) (c.in_ok-places.ensures ∙ ap (places_in normal.count) is)
    ∙ places_of_classes normal joined in
    let whole = joined_length normal c.requires.ranges u c.args.classes.now c.requires.classes in
    let parts = length-append c.args.access.now.key c.args.access.now.fetched in
    let known : c.len-width.result - c.len.result ≡ length c.args.classes.now + length c.args.access.now.key =
    omega (arith, whole, parts, width, c.len.ensures) in
    let checks = c.in_ok-checks.ensures ∙ ap (λ n. checks_of n c.with_columns-joined.result) known
    ∙ ap (checks_of (length c.args.classes.now + length c.args.access.now.key)) is in
    record {
      columns_are = c.in_ok-picked.ensures.tuple ∙ c.in_ok-columns.ensures;
      key_is = c.in_ok-picked.ensures.key
          ∙ ap (map (λ (k : ColumnId). column_of c.args.classes.now (class_at normal c.args.atom k))) c.as_slice.ensures;
      output_is = c.in_ok-picked.ensures.output
          ∙ ap (λ ks. map (λ (p : Place). column_of ks (place_class normal p)) normal.output) c.as_slice-after.ensures;
      classes_are = classes ∙ ap classes_in (with-append (replicate normal.count false) c.args.classes.now (member_classes normal u));
      sources_are = sources ∙ ap (map (place_of joined)) (sym classes);
      checks_are = checks;
      within = is_within normal c.requires.ranges u c.args.classes.now c.requires.classes _ sources checks;
      sharing = record {
        behind = subst (All (λ k. length c.args.classes.now ≤ k.0)) (sym checks)
            (left_behind normal c.requires.ranges u c.args.classes.now c.requires.classes);
        shared_are = subst (λ ks. IsShared (length c.args.classes.now) ks c.in_ok-shared.shared) c.deref-3.ensures.value c.in_ok-shared.ensures;
      };
    }
