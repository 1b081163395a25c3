use Rattle.std.proofs.Common.{◌≡◌, ◌≤◌, ◌++◌, ◌∷◌, List, ap, sym, ◌∙◌, subst, arith}
use Rattle.std.specs.Prelude.{nat_eq, Some}
use Rattle.std.specs.Map.{lookup}
use Rattle.std.specs.Cmp.Lexicographic.{pointwise}
use Rattle.indexmap.specs.IndexMap.{swap_remove_entry}
use Rattle.beas_core.specs.declared.value.Value.{Value}
use Rattle.beas_core.specs.Groups.{member_columns}
use Rattle.access_index.specs.Index.{IsIndexOf}
use Rattle.code_index.specs.Reading.{CodeIndex, IsInOrderFor, IsOrdered, Spells, read_index, pick}
use Rattle.code_index.proofs.Removing.{no_tuple, some_row, left_counted, left_without}
use Rattle.code_index.proofs.Steps.{Left, set_same, not_without, not_lacking}
use Rattle.code_index.proofs.keyed.KeyedIndex.remove.Given
use Rattle.code_index.proofs.keyed.KeyedIndex.remove.Goals.{After-count_down, After-swap_remove, In-Some-position_of}
use Rattle.code_index.proofs.keyed.KeyedIndex.remove.Goals as goal

pub returns-in-None-clause-rest : goal.returns-in-None-clause-rest
returns-in-None-clause-rest g c codes row front back o s is =
    let access = c.self.inside.access in
    let es = c.self.inside.groups.entries in
    let total = c.self.inside.total in
    let row_codes = c.args.words.now in
    let key_is = ap (λ cs. pick cs row_codes) c.as_slice.ensures in
    let o2 = subst (IsInOrderFor codes) (sym c.self.view_is) o in
    let s2 = subst (λ (x : CodeIndex). Spells codes (member_columns x.access) row_codes row) (sym c.self.view_is) s in
    let is2 = subst (λ (x : CodeIndex). IsIndexOf (read_index codes x) (front ++ row ∷ back)) (sym c.self.view_is) is in
    absurd (not_without access codes total es row_codes o2 row s2 front back is2
    (ap (λ j. lookup (pointwise nat_eq j) es) (sym key_is) ∙ sym c.in-None.ensures.value))

pub invariant_of-self-in-None-position_of : goal.invariant_of-self-in-None-position_of
invariant_of-self-in-None-position_of g c =
    let access = c.self.inside.access in
    let es = c.self.inside.groups.entries in
    let total = c.self.inside.total in
    let row_codes = c.args.words.now in
    let key = pick c.as_slice.result.now c.args.words.now in
    let g0 = c.in-Some.group.now in
    let found : lookup (pointwise nat_eq key) es ≡ Some g0 = sym c.in-Some.ensures.value in
    let kept = (c.get_mut.follows.holds g0).0 ∙ set_same (pointwise nat_eq key) es g0 found in
    (c.self.invariant.0, subst (λ xs. IsOrdered (record { access = access; total = total; groups = xs })) (sym kept) c.self.invariant.1)

pub returns-in-None-position_of-clause-in_order : goal.returns-in-None-position_of-clause-in_order
returns-in-None-position_of-clause-in_order g c codes o =
    let access = c.self.inside.access in
    let es = c.self.inside.groups.entries in
    let total = c.self.inside.total in
    let row_codes = c.args.words.now in
    let key = pick c.as_slice.result.now c.args.words.now in
    let g0 = c.in-Some.group.now in
    let found : lookup (pointwise nat_eq key) es ≡ Some g0 = sym c.in-Some.ensures.value in
    let kept = (c.get_mut.follows.holds g0).0 ∙ set_same (pointwise nat_eq key) es g0 found in
    subst (λ xs. IsInOrderFor codes (record { access = access; total = total; groups = xs })) (sym kept) (subst (IsInOrderFor codes) (sym c.self.view_is) o)

pub returns-in-None-position_of-clause-rest : goal.returns-in-None-position_of-clause-rest
returns-in-None-position_of-clause-rest g c codes row front back o s is =
    let access = c.self.inside.access in
    let es = c.self.inside.groups.entries in
    let total = c.self.inside.total in
    let row_codes = c.args.words.now in
    let key = pick c.as_slice.result.now c.args.words.now in
    let key_is = ap (λ cs. pick cs row_codes) c.as_slice.ensures in
    let g0 = c.in-Some.group.now in
    let found : lookup (pointwise nat_eq key) es ≡ Some g0 = sym c.in-Some.ensures.value in
    let o2 = subst (IsInOrderFor codes) (sym c.self.view_is) o in
    let s2 = subst (λ (x : CodeIndex). Spells codes (member_columns x.access) row_codes row) (sym c.self.view_is) s in
    let is2 = subst (λ (x : CodeIndex). IsIndexOf (read_index codes x) (front ++ row ∷ back)) (sym c.self.view_is) is in
    absurd (not_lacking access codes total es row_codes o2 row s2 front back is2 g0 (ap (λ j. lookup (pointwise nat_eq j) es) (sym key_is) ∙ found)
    c.in-None-position_of.ensures)

-- there is a row
least : (g : Given.Over) (c : In-Some-position_of g) → 1 ≤ c.self.inside.total
least g c =
    let s = c.self.inside in
    let row_codes = c.args.words.now in
    let key_is = ap (λ cs. pick cs row_codes) c.as_slice.ensures in
    some_row s.access s.total s.groups.entries row_codes c.args.self.now c.self.view_is c.self.invariant.1 (pick c.as_slice.result.now row_codes) key_is
    c.in-Some.group.now (sym c.in-Some.ensures.value) c.in-Some-position_of.at c.in-Some-position_of.ensures.0

pub overflow_sub-self : goal.overflow_sub-self
overflow_sub-self g c = least g (goal.at.overflow_sub-self g c).In-Some-position_of

pub overflow_sub-self-2 : goal.overflow_sub-self-2
overflow_sub-self-2 g c = least g (goal.at.overflow_sub-self-2 g c).In-Some-position_of

-- the tuple has another row, or the group another tuple
left_there : (g : Given.Over) (c : After-count_down g) (codes : List Value) → IsInOrderFor codes c.args.self.now
    → Left c.self.inside.access c.self.inside.total c.self.inside.groups.entries (c.get_mut.follows.lender c.count_down.new.group).entries c.args.words.now
    c.args.self.now codes
left_there g c =
    let s = c.self.inside in
    let row_codes = c.args.words.now in
    let key_is = ap (λ cs. pick cs row_codes) c.as_slice.ensures in
    let there = c.in-Some-position_of.ensures in
    let wrote = c.get_mut.follows.holds c.count_down.new.group in
    left_counted s.access s.total s.groups.entries row_codes c.args.self.now c.self.view_is c.self.invariant.1 (pick c.as_slice.result.now row_codes) key_is
    c.in-Some.group.now (sym c.in-Some.ensures.value) c.in-Some-position_of.at there.0 there.1 (c.get_mut.follows.lender c.count_down.new.group).entries
    c.count_down.new.group wrote.0 wrote.4 c.count_down.ensures.less c.count_down.ensures.known
    (omega (arith, c.if-max-gt1.true, c.max.ensures, c.len.ensures, c.count-rows.ensures no_tuple))

pub invariant_of-self-then-max-gt1 : goal.invariant_of-self-then-max-gt1
invariant_of-self-then-max-gt1 g c =
    let w = c.self.invariant.1 in
    let left = left_there g (goal.at.invariant_of-self-then-max-gt1 g c).After-count_down in
    (c.self.invariant.0, record { codes = w.codes; in_order = (left w.codes (subst (IsInOrderFor w.codes) c.self.view_is w.in_order)).in_order })

pub returns-then-max-gt1-clause-in_order : goal.returns-then-max-gt1-clause-in_order
returns-then-max-gt1-clause-in_order g c codes o =
    (left_there g (goal.at.returns-then-max-gt1-clause-in_order g c).After-count_down codes o).in_order

pub returns-then-max-gt1-clause-rest : goal.returns-then-max-gt1-clause-rest
returns-then-max-gt1-clause-rest g c codes row front back o s is =
    (left_there g (goal.at.returns-then-max-gt1-clause-rest g c).After-count_down codes o).rest row front back s is

-- the group goes with its last row
left_gone : (g : Given.Over) (c : After-swap_remove g) (codes : List Value) → IsInOrderFor codes c.args.self.now
    → Left c.self.inside.access c.self.inside.total c.self.inside.groups.entries c.swap_remove.new.self.entries c.args.words.now c.args.self.now codes
left_gone g c =
    let s = c.self.inside in
    let es = s.groups.entries in
    let row_codes = c.args.words.now in
    let key = pick c.as_slice.result.now c.args.words.now in
    let key_is = ap (λ cs. pick cs row_codes) c.as_slice.ensures in
    let g0 = c.in-Some.group.now in
    let found : lookup (pointwise nat_eq key) es ≡ Some g0 = sym c.in-Some.ensures.value in
    let there = c.in-Some-position_of.ensures in
    let kept = (c.get_mut.follows.holds g0).0 ∙ set_same (pointwise nat_eq key) es g0 found in
    let gone = c.swap_remove.ensures in
    let asked = c.as_slice-2.ensures ∙ sym c.as_slice.ensures in
    left_without s.access s.total es row_codes c.args.self.now c.self.view_is c.self.invariant.1 key key_is g0 found c.in-Some-position_of.at there.0 there.1
    c.swap_remove.new.self.entries (gone.entries ∙ (λ i. swap_remove_entry (pointwise nat_eq (pick (asked i) row_codes)) (kept i))) gone.unique
    (omega (arith, c.if-max-gt1.false, c.max.ensures, c.len.ensures, c.count-rows.ensures no_tuple))

pub invariant_of-self-2 : goal.invariant_of-self-2
invariant_of-self-2 g c =
    let w = c.self.invariant.1 in
    let left = left_gone g (goal.at.invariant_of-self-2 g c).After-swap_remove in
    (c.self.invariant.0, record { codes = w.codes; in_order = (left w.codes (subst (IsInOrderFor w.codes) c.self.view_is w.in_order)).in_order })

pub returns-clause-in_order : goal.returns-clause-in_order
returns-clause-in_order g c codes o = (left_gone g (goal.at.returns-clause-in_order g c).After-swap_remove codes o).in_order

pub returns-clause-rest : goal.returns-clause-rest
returns-clause-rest g c codes row front back o s is = (left_gone g (goal.at.returns-clause-rest g c).After-swap_remove codes o).rest row front back s is
