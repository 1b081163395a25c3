use Rattle.std.proofs.Common.{◌≡◌, [], length, map, ap, sym, ◌∙◌, subst, arith}
use Rattle.std.specs.Prelude.{nat_eq, Some}
use Rattle.std.specs.Map.{values_of, lookup}
use Rattle.std.specs.Cmp.Lexicographic.{pointwise}
use Rattle.std.proofs.lemmas.List.{length-map}
use Rattle.beas_core.specs.Groups.{group_of}
use Rattle.access_index.proofs.Counting.{tuples_within}
use Rattle.access_index.proofs.Holding.{at_place, none_from}
use Rattle.access_index.specs.Index.{IsIndexOf}
use Rattle.labelled_list.specs.declared.coded.Coded.{Coded}
use Rattle.code_index.specs.Reading.{CodeIndex, IsInOrderFor, read, read_index, read_group, codes_at, codes_in}
use Rattle.code_index.proofs.GroupFacts.{length_group}
use Rattle.code_index.proofs.Ordering.{group_holds, group_within}
use Rattle.code_index.proofs.Steps.{found_group, no_group}
use Rattle.code_index.proofs.keyed.KeyedIndex.find.Goals as goal

pub overflow_cast-result : goal.overflow_cast-result
overflow_cast-result g c =
    let access = c.self.inside.access in
    let es = c.self.inside.groups.entries in
    let total = c.self.inside.total in
    let w = c.self.invariant.1 in
    let key = c.args.key.now in
    let g0 = c.index.result.now in
    let found : lookup (pointwise nat_eq key) es ≡ Some g0 = sym c.in-Some.ensures.value ∙ c.index.ensures in
    let b = group_holds access w.codes total es key w.in_order g0 found in
    omega (
      arith,
      c.recall_few_rows.ensures,
      ap (λ (x : CodeIndex). x.total) c.self.view_is,
      c.len.ensures,
      length_group w.codes g0,
      tuples_within (read_group w.codes g0) b.counted,
      group_within access w.codes total es key w.in_order g0 found,
    )

pub returns-in-None-clause-group : goal.returns-in-None-clause-group
returns-in-None-clause-group g c codes rows o known is =
    let access = c.self.inside.access in
    let es = c.self.inside.groups.entries in
    let total = c.self.inside.total in
    let key = c.args.key.now in
    let none = none_from (lookup (pointwise nat_eq key) es) c.in-None.ensures.found in
    subst (λ (x : CodeIndex). group_of rows x.access (read codes key) ≡ []) c.self.view_is
    (no_group access codes total es key (subst (IsInOrderFor codes) (sym c.self.view_is) o) known rows
    (subst (λ (x : CodeIndex). IsIndexOf (read_index codes x) rows) (sym c.self.view_is) is) none)

pub returns-in-Some-clause-len : goal.returns-in-Some-clause-len
returns-in-Some-clause-len g c =
    let es = c.self.inside.groups.entries in
    let g0 = c.index.result.now in
    let there = at_place (values_of es) c.in-Some.index g0 [] c.index.ensures in
    subst (λ (x : CodeIndex). c.len.result ≡ length (codes_at x c.in-Some.index)) c.self.view_is
    (c.len.ensures ∙ sym (length-map g0 (λ (k : Coded). k.codes)) ∙ ap (λ h. length (codes_in h)) (sym there))

pub returns-in-Some-clause-group : goal.returns-in-Some-clause-group
returns-in-Some-clause-group g c codes rows o known is =
    let access = c.self.inside.access in
    let es = c.self.inside.groups.entries in
    let total = c.self.inside.total in
    let key = c.args.key.now in
    let g0 = c.index.result.now in
    let there = at_place (values_of es) c.in-Some.index g0 [] c.index.ensures in
    let found = sym c.in-Some.ensures.value ∙ c.index.ensures in
    subst (λ (x : CodeIndex). map (read codes) (codes_at x c.in-Some.index) ≡ group_of rows x.access (read codes key)) c.self.view_is
    (ap (λ h. map (read codes) (codes_in h)) there
    ∙ found_group access codes total es key (subst (IsInOrderFor codes) (sym c.self.view_is) o) known rows
    (subst (λ (x : CodeIndex). IsIndexOf (read_index codes x) rows) (sym c.self.view_is) is) g0 found)

pub returns-in-Some-clause-some : goal.returns-in-Some-clause-some
returns-in-Some-clause-some g c =
    let access = c.self.inside.access in
    let es = c.self.inside.groups.entries in
    let w = c.self.invariant.1 in
    let key = c.args.key.now in
    let g0 = c.index.result.now in
    let found : lookup (pointwise nat_eq key) es ≡ Some g0 = sym c.in-Some.ensures.value ∙ c.index.ensures in
    let b = group_holds access w.codes c.self.inside.total es key w.in_order g0 found in
    omega (arith, c.len.ensures, length_group w.codes g0, b.some)
