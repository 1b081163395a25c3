-- One step from one valuation: what its places say is what the definitions say.
use Rattle.std.proofs.Common.{◌≡◌, ◌&&◌, ◌<◌, ◌+◌, ℕ, zero, suc, pos, Bool, true, false, cond, List, [], ◌∷◌, ◌++◌, length, get_or, All, Result, Ok, Err, refl, ap, sym, subst, ◌∙◌, arith}
use Rattle.std.specs.Result.{IfOk}
use Rattle.std.specs.List.{filter, zip}
use Rattle.std.proofs.lemmas.List.{length-map}
use Rattle.std.proofs.lemmas.Slice.Zip.{firsts-zip}
use Rattle.beas_core.specs.declared.value.Value.TheVariants.{Int}
use Rattle.beas_core.specs.declared.schema.Access.{Access}
use Rattle.beas_core.specs.declared.value.Value.{Value}
use Rattle.beas_core.specs.declared.query.Operand.TheVariants.{At, Fixed}
use Rattle.beas_core.specs.declared.query.Place.{Place}
use Rattle.beas_core.specs.declared.query.Comparison.{Comparison}
use Rattle.beas_core.specs.Order.{value_cmp}
use Rattle.beas_core.specs.Full.{sign_holds}
use Rattle.beas_core.specs.declared.plan.DStep.{DStep}
use Rattle.beas_core.specs.declared.plan.Normal.{Normal}
use Rattle.beas_core.specs.Types.{Row, ClassSet, Use}
use Rattle.beas_core.specs.Groups.{group_of, member_columns, project}
use Rattle.beas_core.specs.Coverage.{class_at, has, place_class, holds_classes, key_classes, output_classes}
use Rattle.beas_core.specs.Derivations.{access_in, member_classes}
use Rattle.beas_core.specs.Valuations.{agrees, as_bindings, classes_in, comparison_is_met, output_row, value_of}
use Rattle.beas_core.proofs.Sets.{Has, Has-map, Contains-from_has}
use Rattle.beas_core.specs.Extensions.{meets_bound}
use Rattle.beas_core.proofs.BindingFacts.{Has-classes_in, map_same, value-append_in, value_in_valuation}
use Rattle.beas_core.proofs.ClassSetFacts.{has-with_kept, length-with}
use Rattle.beas_core.proofs.MemberTests.{all_has, and_left}
use Rattle.beas_core.proofs.UseFacts.{same_number}
use Rattle.plan_ops.specs.declared.joining.Join.{Join}
use Rattle.plan_ops.specs.declared.stages.Stage.{Stage}
use Rattle.plan_ops.specs.Joins.{IsJoin, IsTuple, IsWithin, at_place, fits_by, joined_by, joined_classes}
use Rattle.place_chains.specs.TupleOrder.{values_at}
use Rattle.plan_ops.specs.Over.{set_of}
use Rattle.plan_ops.specs.Places.{place_of}
use Rattle.plan_ops.specs.Stages.{key_by, bound_with, joined_bindings, joined_row, leads_to, use_at, set_before, IsStage, IsPair}
use Rattle.plan_ops.proofs.BoundSets.{counted, set_again}
use Rattle.plan_ops.proofs.ExtendFacts.{fits_are, rows_are}
use Rattle.plan_ops.proofs.MatchFacts.{shared_agree}
use Rattle.plan_ops.proofs.MeetFacts.{fixed_side, left_open, pair_side, picked_values, right_open}
use Rattle.plan_ops.proofs.ProbeFacts.{group_tuples, group_begins}

pub if_ok : {X E : Type 0} {P Q : X → Type 0} (result : Result X E) → ((x : X) → P x → Q x) → IfOk result P → IfOk result Q
if_ok (Ok value) f h = f value h
if_ok (Err error) f h = h

-- tests of one row, by the filters that they make
pub one_test : {K : Type 0} (p q : K → Bool) (x : K) → filter p (x ∷ []) ≡ filter q (x ∷ []) → p x ≡ q x
one_test {K} p q x e = by (p x) (q x) e
  where
    by : (a b : Bool) → cond a (x ∷ []) [] ≡ cond b (x ∷ []) [] → a ≡ b
    by true true h = refl
    by true false h = cc
    by false true h = cc
    by false false h = refl

pub one_true : {K : Type 0} (q : K → Bool) (x : K) → x ∷ [] ≡ filter q (x ∷ []) → true ≡ q x
one_true {K} q x e = by (q x) e
  where
    by : (b : Bool) → x ∷ [] ≡ cond b (x ∷ []) [] → true ≡ b
    by true h = refl
    by false h = cc

one_access : (a : Access) → access_in (a ∷ []) a.id ≡ a
unfolding access_in
one_access a = let e = same_number a.id.0 a.id.0 refl in cc

-- a step over a list of this constraint alone
abbrev use_with : ℕ → Access → Use
use_with atom a = record { atom = atom; access = a }

pub record Joined (normal : Normal) (u : Use) (set : ClassSet) (join : Join) (v t : Row) : Type 0 where
  pub fits : fits_by join.checks.items v t ≡ agrees (joined_bindings normal u set v t)
  pub row : joined_by join.sources.items v t ≡ joined_row normal u set v t

module _ (normal : Normal) (atom : ℕ) (classes : List ℕ) (are : classes ≡ classes_in (set_of normal classes)) (join : Join) where
  abbrev before : ClassSet
  before = set_of normal classes

  abbrev Joins : Access → Type 0
  Joins a = IsJoin normal (use_with atom a) classes join → (v t : Row) → length v ≡ length classes → length t ≡ length (member_columns a)
      → holds_classes before (key_classes normal (use_with atom a)) ≡ true
      → ((j : ℕ) → j < length a.key → get_or t j (Int (pos 0)) ≡ get_or (key_by normal (use_with atom a) before v) j (Int (pos 0)))
      → Joined normal (use_with atom a) before join v t

  pub joined_over : (a : Access) → Joins a
  joined_over a =
      let s : DStep = record { atom = atom; access = a.id; adds = false } in
      subst Joins (one_access a) (λ is v t wide fit bound begins. record {
        fits = fits_are normal (a ∷ []) s classes are join is v t wide fit bound begins;
        row = rows_are normal (a ∷ []) s classes are join is v t wide fit bound begins;
      })

-- a step leaves the output of a valuation as it is, where all classes of the output are bound before it
pub output_kept : (normal : Normal) (u : Use) (set : ClassSet) (v t : Row) → holds_classes set (output_classes normal) ≡ true
    → length v ≡ length (classes_in set) → output_row normal (bound_with normal u set) (joined_row normal u set v t) ≡ output_row normal set v
output_kept normal u set v t held wide =
    let w = as_bindings set v in
    let more = zip (member_classes normal u) t in
    let after = bound_with normal u set in
    map_same (λ p. value_of (as_bindings after (joined_row normal u set v t)) (place_class normal p)) (λ p. value_of w (place_class normal p)) normal.output
    (λ p m.
    let c = place_class normal p in
    let h = all_has (has set) (output_classes normal) c held (Has-map (place_class normal) normal.output p m) in
    value_in_valuation after (w ++ more) c (has-with_kept (member_classes normal u) set c h)
    ∙ value-append_in w more c (subst (λ ks. Has ks c) (sym (firsts-zip (classes_in set) v wide)) (Has-classes_in set c h)))

-- the classes after a join are those of their set
pub join_classes : (normal : Normal) (u : Use) (classes : List ℕ) (join : Join) → IsJoin normal u classes join
    → join.classes ≡ classes_in (set_of normal join.classes)
join_classes normal u classes join is =
    let after = bound_with normal u (set_of normal classes) in
    let counted_after = length-with (member_classes normal u) (set_of normal classes) ∙ counted normal classes in
    is.classes_are ∙ ap classes_in (sym (ap (set_of normal) is.classes_are ∙ set_again normal after counted_after))

-- one row and one comparison
module _ (normal : Normal) (classes : List ℕ) (are : classes ≡ classes_in (set_of normal classes)) (v : Row) (wide : length v ≡ length classes)
    (c : Comparison) where
  abbrev met : Row → Bool
  met row = comparison_is_met normal (set_of normal classes) (as_bindings (set_of normal classes) row) c

  one_wide : All (λ row. length row ≡ length classes) (v ∷ [])
  one_wide zero d l = wide
  one_wide (suc k) d l = absurd (omega (arith, l))

  pub one_left_open : place_of classes (place_class normal c.left) ≡ length classes → true ≡ met v
  one_left_open e = one_true met v (left_open normal (set_of normal classes) classes are (v ∷ []) one_wide c e)

  pub one_right_open : (q : Place) → c.right ≡ At q → place_of classes (place_class normal q) ≡ length classes → true ≡ met v
  one_right_open q is e = one_true met v (right_open normal (set_of normal classes) classes are (v ∷ []) one_wide c q is e)

  pub one_fixed : (x : Value) → c.right ≡ Fixed x → place_of classes (place_class normal c.left) < length classes
      → sign_holds c.sign (value_cmp (get_or v (place_of classes (place_class normal c.left)) (Int (pos 0))) x) ≡ met v
  one_fixed x is l = one_test (λ row. sign_holds c.sign (value_cmp (get_or row (place_of classes (place_class normal c.left)) (Int (pos 0))) x)) met v
      (fixed_side normal (set_of normal classes) classes are (v ∷ []) one_wide c x is l)

  pub one_pair : (q : Place) → c.right ≡ At q → place_of classes (place_class normal c.left) < length classes
      → place_of classes (place_class normal q) < length classes
      → sign_holds c.sign (value_cmp (get_or v (place_of classes (place_class normal c.left)) (Int (pos 0)))
      (get_or v (place_of classes (place_class normal q)) (Int (pos 0)))) ≡ met v
  one_pair q is l k = one_test (λ row. sign_holds c.sign (value_cmp (get_or row (place_of classes (place_class normal c.left)) (Int (pos 0)))
      (get_or row (place_of classes (place_class normal q)) (Int (pos 0))))) met v
      (pair_side normal (set_of normal classes) classes are (v ∷ []) one_wide c q is l k)

module _ (normal : Normal) (stage : Stage) (is : IsStage normal stage) where
  abbrev u : Use
  u = use_at stage

  abbrev set : ClassSet
  set = set_before normal stage

  abbrev after : ClassSet
  after = bound_with normal u set

  pub set_after : set_of normal stage.join.classes ≡ after
  set_after = ap (set_of normal) is.join_is.classes_are ∙ set_again normal after (length-with (member_classes normal u) set ∙ counted normal stage.from.value)

  pub after_classes : stage.join.classes ≡ classes_in (set_of normal stage.join.classes)
  after_classes = is.join_is.classes_are ∙ ap classes_in (sym set_after)

  pub sources_counted : length stage.join.sources.items ≡ length stage.join.classes
  sources_counted = ap length is.join_is.sources_are ∙ length-map stage.join.classes (place_of (joined_classes normal u stage.from.value))

  pub key_made : (v : Row) → length v ≡ length stage.from.value → project stage.join.picked.1.0 v ≡ key_by normal u set v
  key_made v wide = ap (λ k. project k v) is.join_is.key_is
      ∙ picked_values set stage.from.value (class_at normal stage.atom) stage.access.value.key v is.from_are wide

  pub output_settled : stage.settled ≡ true → (v t : Row) → length v ≡ length stage.from.value
      → output_row normal after (joined_row normal u set v t) ≡ output_row normal set v
  output_settled e v t wide = output_kept normal u set v t (sym is.settled_is ∙ e) (wide ∙ ap length is.from_are)

  module _ (v t : Row) (pair : IsPair normal stage v t) where
    pub pair_within : IsWithin (length v + length t) stage.join
    pair_within = subst (λ n. IsWithin n stage.join)
        (ap (λ n. n + length (member_columns stage.access.value)) (sym pair.wide) ∙ ap (λ n. length v + n) (sym pair.found.wide)) is.join_is.within

    pub pair_joined : (fits_by stage.join.checks.items v t ≡ agrees (joined_bindings normal u set v t))
        × (joined_by stage.join.sources.items v t ≡ joined_row normal u set v t)
    pair_joined =
        let j = joined_over normal stage.atom stage.from.value is.from_are stage.join stage.access.value is.join_is v t pair.wide pair.found.wide is.key_held
        pair.found.begins in (j.fits, j.row)

    -- the comparisons are met by the joined row
    pub pair_met : meets_bound normal (set_of normal stage.join.classes) (joined_by stage.join.sources.items v t)
        ≡ meets_bound normal after (joined_row normal u set v t)
    pair_met = ap (λ s. meets_bound normal s (joined_by stage.join.sources.items v t)) set_after ∙ ap (meets_bound normal after) pair_joined.1

    pub not_led : fits_by stage.join.checks.items v t ≡ false → false ≡ leads_to normal u set v t
    not_led e = ap (λ b. b && meets_bound normal after (joined_row normal u set v t)) (sym e ∙ pair_joined.0)

    pub led : fits_by stage.join.checks.items v t ≡ true
        → meets_bound normal (set_of normal stage.join.classes) (joined_by stage.join.sources.items v t) ≡ leads_to normal u set v t
    led e = pair_met ∙ ap (λ b. b && meets_bound normal after (joined_row normal u set v t)) (sym e ∙ pair_joined.0)

    -- the values that a tuple shares with the valuation, where it leads on
    pub pair_shares : leads_to normal u set v t ≡ true → values_at stage.join.shared.1 t ≡ values_at stage.join.shared.0 v
    pair_shares e = shared_agree stage.join.checks.items stage.join.shared (length stage.from.value) is.join_is.sharing.shared_are is.join_is.sharing.behind v t pair.wide
        (pair_joined.0 ∙ and_left (agrees (joined_bindings normal u set v t)) (meets_bound normal after (joined_row normal u set v t)) e)

    pub output_made : project stage.join.picked.1.1 (joined_by stage.join.sources.items v t) ≡ output_row normal after (joined_row normal u set v t)
    output_made =
        let r = joined_by stage.join.sources.items v t in
        ap (λ cs. project cs r) is.join_is.output_is
        ∙ picked_values after stage.join.classes (place_class normal) normal.output r is.join_is.classes_are
        (length-map stage.join.sources.items (at_place v t) ∙ sources_counted)
        ∙ ap (output_row normal after) pair_joined.1

-- the members of a group are tuples that begin with its key
pub group_pairs : (rows : List Row) (normal : Normal) (stage : Stage) (v t : Row) → length v ≡ length stage.from.value
    → Has (group_of rows stage.access.value (key_by normal (use_at stage) (set_before normal stage) v)) t → IsPair normal stage v t
group_pairs rows normal stage v t wide h =
    let key = key_by normal (use_at stage) (set_before normal stage) v in
    let group = group_of rows stage.access.value key in
    let c = Contains-from_has group t h in
    let fit = subst (IsTuple (member_columns stage.access.value)) c.2 (group_tuples rows stage.access.value key c.0 t c.1) in record {
      wide = wide;
      found = record {
        wide = fit.wide;
        begins = λ j l. group_begins rows stage.access.value key t j (Int (pos 0)) (length-map stage.access.value.key (λ c. value_of (as_bindings (set_before normal stage) v) (class_at normal stage.atom c))) h l;
      };
    }
