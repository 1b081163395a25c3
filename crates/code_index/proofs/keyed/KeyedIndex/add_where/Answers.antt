use Rattle.std.proofs.Common.{◌≡◌, length, ap, sym, ◌∙◌, subst, arith, true, false}
use Rattle.std.specs.Prelude.{nat_eq, Some, None}
use Rattle.std.specs.Map.{lookup, set_value}
use Rattle.std.specs.Cmp.Lexicographic.{pointwise}
use Rattle.indexmap.specs.IndexMap.{insert_entry}
use Rattle.indexmap.proofs.CallerLemmas.{insert_entry-new}
use Rattle.beas_core.specs.Groups.{member_columns}
use Rattle.blocked_list.proofs.Edits.{always_on_err}
use Rattle.code_index.specs.Reading.{CodeIndex, IsGroup, IsInOrderFor, IsOrdered, pick, read, read_group}
use Rattle.code_index.proofs.Ordering.{group_holds, group_within, known_group}
use Rattle.code_index.proofs.Steps.{Taken, set_same, take_found, take_new, found_holds, new_holds, left_alone}
use Rattle.code_index.proofs.keyed.KeyedIndex.add_where.Given
use Rattle.code_index.proofs.keyed.KeyedIndex.add_where.Goals.{In-Some, In_err-count_up, In_ok-count_up, In_ok-insert}
use Rattle.code_index.proofs.keyed.KeyedIndex.add_where.Goals as goal

-- the group of the row's key
module _ (g : Given.Over) (c : In-Some g) where
  there : lookup (pointwise nat_eq (pick c.as_slice.result.now c.args.row_codes.now)) c.self.inside.groups.entries ≡ Some c.in-Some.group.now
  there = sym c.in-Some.ensures.value

  in_order : IsInOrderFor c.args.codes.now (record { access = c.self.inside.access; total = c.self.inside.total; groups = c.self.inside.groups.entries })
  in_order = subst (IsInOrderFor c.args.codes.now) (sym c.self.view_is) c.requires.in_order

  holds : IsGroup (length (member_columns c.self.inside.access)) (length c.self.inside.access.key)
      (read c.args.codes.now (pick c.as_slice.result.now c.args.row_codes.now)) (read_group c.args.codes.now c.in-Some.group.now)
  holds = group_holds c.self.inside.access c.args.codes.now c.self.inside.total c.self.inside.groups.entries
      (pick c.as_slice.result.now c.args.row_codes.now) in_order c.in-Some.group.now there

  -- the entries where the group stays as it was
  unchanged : set_value (pointwise nat_eq (pick c.as_slice.result.now c.args.row_codes.now)) c.self.inside.groups.entries c.in-Some.group.now
      ≡ c.self.inside.groups.entries
  unchanged = set_same (pointwise nat_eq (pick c.as_slice.result.now c.args.row_codes.now)) c.self.inside.groups.entries c.in-Some.group.now there

pub invariant_of-self : goal.invariant_of-self
invariant_of-self g c =
    let s = c.self.inside in
    let same = (c.get_mut.follows.holds c.in-Some.group.now).0 ∙ unchanged g (goal.at.invariant_of-self g c).In-Some in
    (c.self.invariant.0, subst (λ xs. IsOrdered (record { access = s.access; total = s.total; groups = xs })) (sym same) c.self.invariant.1)

pub returns-then-not-may_come-clause-in_order : goal.returns-then-not-may_come-clause-in_order
returns-then-not-may_come-clause-in_order g c =
    let s = c.self.inside in
    let at = (goal.at.returns-then-not-may_come-clause-in_order g c).In-Some in
    let same = (c.get_mut.follows.holds c.in-Some.group.now).0 ∙ unchanged g at in
    subst (λ xs. IsInOrderFor c.args.codes.now (record { access = s.access; total = s.total; groups = xs })) (sym same) (in_order g at)

pub returns-then-not-may_come-clause-index : goal.returns-then-not-may_come-clause-index
returns-then-not-may_come-clause-index g c =
    let s = c.self.inside in
    let same = (c.get_mut.follows.holds c.in-Some.group.now).0 ∙ unchanged g (goal.at.returns-then-not-may_come-clause-index g c).In-Some in
    left_alone c.args.codes.now c.args.row_codes.now c.args.self.now _
    (ap (λ xs. record { access = s.access; total = s.total; groups = xs }) same ∙ c.self.view_is)

pub returns-then-not-may_come-clause-holds : goal.returns-then-not-may_come-clause-holds
returns-then-not-may_come-clause-holds g c bounded =
    let s = c.self.inside in
    let row_codes = c.args.row_codes.now in
    let key_is = ap (λ cs. pick cs row_codes) c.as_slice.ensures in
    found_holds s.access c.args.codes.now s.total s.groups.entries row_codes c.args.self.now c.self.view_is c.requires.in_order
    (pick c.as_slice.result.now row_codes) key_is c.in-Some.group.now (there g (goal.at.returns-then-not-may_come-clause-holds g c).In-Some)
    false (c.if-not-may_come.ensures.bound bounded)

pub count_up-requires-clause-ordered : goal.count_up-requires-clause-ordered
count_up-requires-clause-ordered g c = (holds g (goal.at.count_up-requires-clause-ordered g c).In-Some).ordered

pub count_up-requires-clause-counted : goal.count_up-requires-clause-counted
count_up-requires-clause-counted g c = (holds g (goal.at.count_up-requires-clause-counted g c).In-Some).counted

pub count_up-requires-clause-room : goal.count_up-requires-clause-room
count_up-requires-clause-room g c =
    let s = c.self.inside in
    let at = (goal.at.count_up-requires-clause-room g c).In-Some in
    let within = group_within s.access c.args.codes.now s.total s.groups.entries (pick c.as_slice.result.now c.args.row_codes.now) (in_order g at)
    c.in-Some.group.now (there g at) in
    omega (arith, c.requires.room, ap (λ (i : CodeIndex). i.total) c.self.view_is, within)

pub count_up-requires-clause-known : goal.count_up-requires-clause-known
count_up-requires-clause-known g c =
    let s = c.self.inside in
    let at = (goal.at.count_up-requires-clause-known g c).In-Some in
    known_group s.access c.args.codes.now s.total s.groups.entries (pick c.as_slice.result.now c.args.row_codes.now) (in_order g at)
    c.in-Some.group.now (there g at)

-- without memory the group stays as it was
stayed : (g : Given.Over) (c : In_err-count_up g) → set_value (pointwise nat_eq (pick c.as_slice.result.now c.args.row_codes.now)) c.self.inside.groups.entries
    c.in-Some.group.now ≡ c.self.inside.groups.entries → (c.get_mut.follows.lender c.count_up.new.group).entries ≡ c.self.inside.groups.entries
stayed g c unchanged =
    (c.get_mut.follows.holds c.count_up.new.group).0
    ∙ ap (set_value (pointwise nat_eq (pick c.as_slice.result.now c.args.row_codes.now)) c.self.inside.groups.entries) c.in_err-count_up.ensures.err ∙ unchanged

pub invariant_of-self-in_err-count_up : goal.invariant_of-self-in_err-count_up
invariant_of-self-in_err-count_up g c =
    let s = c.self.inside in
    let at = goal.at.invariant_of-self-in_err-count_up g c in
    let same = stayed g at.In_err-count_up (unchanged g at.In-Some) in
    (c.self.invariant.0, subst (λ xs. IsOrdered (record { access = s.access; total = s.total; groups = xs })) (sym same) c.self.invariant.1)

pub returns-in_err-count_up-clause-in_order : goal.returns-in_err-count_up-clause-in_order
returns-in_err-count_up-clause-in_order g c =
    let s = c.self.inside in
    let at = goal.at.returns-in_err-count_up-clause-in_order g c in
    let same = stayed g at.In_err-count_up (unchanged g at.In-Some) in
    subst (λ xs. IsInOrderFor c.args.codes.now (record { access = s.access; total = s.total; groups = xs })) (sym same) (in_order g at.In-Some)

pub returns-in_err-count_up-clause-err : goal.returns-in_err-count_up-clause-err
returns-in_err-count_up-clause-err g c =
    let s = c.self.inside in
    let at = goal.at.returns-in_err-count_up-clause-err g c in
    let same = stayed g at.In_err-count_up (unchanged g at.In-Some) in
    always_on_err c.from_residual.result (ap (λ xs. record { access = s.access; total = s.total; groups = xs }) same ∙ c.self.view_is)

-- the group with one row more
taken_there : (g : Given.Over) (c : In_ok-count_up g) → Taken c.self.inside.access c.args.codes.now c.self.inside.total c.self.inside.groups.entries
    (c.get_mut.follows.lender c.count_up.new.group).entries c.args.row_codes.now c.args.self.now
taken_there g c =
    let s = c.self.inside in
    let row_codes = c.args.row_codes.now in
    let key_is = ap (λ cs. pick cs row_codes) c.as_slice.ensures in
    let w = c.get_mut.follows.holds c.count_up.new.group in
    take_found s.access c.args.codes.now s.total s.groups.entries (c.get_mut.follows.lender c.count_up.new.group).entries row_codes c.args.self.now
    c.self.view_is c.requires.in_order c.requires.known (pick c.as_slice.result.now row_codes) key_is c.in-Some.group.now c.count_up.new.group
    (sym c.in-Some.ensures.value) w.0 w.4 c.in_ok-count_up.ensures.ok c.in_ok-count_up.ensures.known

pub invariant_of-self-in-Some : goal.invariant_of-self-in-Some
invariant_of-self-in-Some g c =
    let t = taken_there g (goal.at.invariant_of-self-in-Some g c).In_ok-count_up in
    (c.self.invariant.0, record { codes = c.args.codes.now; in_order = t.in_order })

pub returns-in-Some-clause-in_order : goal.returns-in-Some-clause-in_order
returns-in-Some-clause-in_order g c = (taken_there g (goal.at.returns-in-Some-clause-in_order g c).In_ok-count_up).in_order

pub returns-in-Some-clause-index : goal.returns-in-Some-clause-index
returns-in-Some-clause-index g c = (taken_there g (goal.at.returns-in-Some-clause-index g c).In_ok-count_up).ok

pub returns-in-Some-clause-holds : goal.returns-in-Some-clause-holds
returns-in-Some-clause-holds g c bounded =
    let s = c.self.inside in
    let row_codes = c.args.row_codes.now in
    let key_is = ap (λ cs. pick cs row_codes) c.as_slice.ensures in
    found_holds s.access c.args.codes.now s.total s.groups.entries row_codes c.args.self.now c.self.view_is c.requires.in_order
    (pick c.as_slice.result.now row_codes) key_is c.in-Some.group.now (there g (goal.at.returns-in-Some-clause-holds g c).In-Some)
    true (c.if-not-may_come.ensures.bound bounded)

pub returns-then-not-may_begin-clause-index : goal.returns-then-not-may_begin-clause-index
returns-then-not-may_begin-clause-index g c =
    let s = c.self.inside in
    let same : c.get_mut.follows.lender-at-none.entries ≡ s.groups.entries = λ i. (c.get_mut.follows.holds-at-none i).entries in
    left_alone c.args.codes.now c.args.row_codes.now c.args.self.now _
    (ap (λ xs. record { access = s.access; total = s.total; groups = xs }) same ∙ c.self.view_is)

pub returns-then-not-may_begin-clause-holds : goal.returns-then-not-may_begin-clause-holds
returns-then-not-may_begin-clause-holds g c bounded =
    let s = c.self.inside in
    let row_codes = c.args.row_codes.now in
    let key_is = ap (λ cs. pick cs row_codes) c.as_slice.ensures in
    new_holds s.access c.args.codes.now s.total s.groups.entries row_codes c.args.self.now c.self.view_is c.requires.in_order
    (pick c.as_slice.result.now row_codes) key_is (sym c.in_default.ensures.value) false (c.if-not-may_begin.ensures.bound bounded)

-- a group of its own
taken_anew : (g : Given.Over) (c : In_ok-insert g) → Taken c.self.inside.access c.args.codes.now c.self.inside.total c.self.inside.groups.entries
    c.insert.new.self.entries c.args.row_codes.now c.args.self.now
taken_anew g c =
    let s = c.self.inside in
    let row_codes = c.args.row_codes.now in
    let key = pick c.as_slice.result.now c.args.row_codes.now in
    let key_is = ap (λ cs. pick cs row_codes) c.as_slice.ensures in
    let absent : lookup (pointwise nat_eq key) s.groups.entries ≡ None = sym c.in_default.ensures.value in
    let m = c.in_ok-insert.ensures in
    let own = c.in_ok-key.ensures ∙ ap (λ cs. pick cs row_codes) (c.as_slice-2.ensures ∙ sym c.as_slice.ensures) in
    take_new s.access c.args.codes.now s.total s.groups.entries c.insert.new.self.entries row_codes c.args.self.now c.self.view_is
    c.requires.in_order c.requires.known key key_is c.in_ok-group.group c.in_ok-group.ensures
    (m.entries ∙ (λ i. insert_entry (pointwise nat_eq) (c.get_mut.follows.holds-at-none i).entries (own i) c.in_ok-group.group)
    ∙ insert_entry-new (pointwise nat_eq) s.groups key c.in_ok-group.group absent) m.unique

pub invariant_of-self-2 : goal.invariant_of-self-2
invariant_of-self-2 g c =
    let t = taken_anew g (goal.at.invariant_of-self-2 g c).In_ok-insert in
    (c.self.invariant.0, record { codes = c.args.codes.now; in_order = t.in_order })

pub returns-clause-in_order : goal.returns-clause-in_order
returns-clause-in_order g c = (taken_anew g (goal.at.returns-clause-in_order g c).In_ok-insert).in_order

pub returns-clause-index : goal.returns-clause-index
returns-clause-index g c = (taken_anew g (goal.at.returns-clause-index g c).In_ok-insert).ok

pub returns-clause-holds : goal.returns-clause-holds
returns-clause-holds g c bounded =
    let s = c.self.inside in
    let row_codes = c.args.row_codes.now in
    let key_is = ap (λ cs. pick cs row_codes) c.as_slice.ensures in
    new_holds s.access c.args.codes.now s.total s.groups.entries row_codes c.args.self.now c.self.view_is c.requires.in_order
    (pick c.as_slice.result.now row_codes) key_is (sym c.in_default.ensures.value) true (c.if-not-may_begin.ensures.bound bounded)
