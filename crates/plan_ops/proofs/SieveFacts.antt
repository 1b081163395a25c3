-- What a tuple tells by its own values: one that leads on passes its step's sieve, and where one tuple is enough all that pass lead on alike.
use Rattle.std.proofs.Common.{◌≡◌, ◌&&◌, ◌||◌, ◌==◌, ◌<◌, ◌+◌, ◌++◌, ◌∷◌, [], ℕ, zero, suc, pos, Bool, true, false, not, List, length, get_or, map, All, inl, inr, refl, ap, sym, subst, ◌∙◌, arith}
use Rattle.std.specs.List.{list_all, zip}
use Rattle.std.proofs.lemmas.Bool.{cases_lt, eqb-true}
use Rattle.std.proofs.lemmas.List.{get_or_default, length-map}
use Rattle.std.proofs.lemmas.Slice.Zip.{firsts-zip}
use Rattle.beas_core.specs.declared.value.Value.{Value}
use Rattle.beas_core.specs.declared.value.Value.TheVariants.{Int}
use Rattle.beas_core.specs.declared.schema.ColumnId.{ColumnId}
use Rattle.beas_core.specs.declared.query.Place.{Place}
use Rattle.beas_core.specs.declared.query.Operand.{Operand}
use Rattle.beas_core.specs.declared.query.Operand.TheVariants.{At, Fixed}
use Rattle.beas_core.specs.declared.query.Comparison.{Comparison}
use Rattle.beas_core.specs.declared.plan.Normal.{Normal}
use Rattle.beas_core.specs.Types.{Row, Binding, Bindings, ClassSet}
use Rattle.beas_core.specs.Order.{value_cmp}
use Rattle.beas_core.specs.Full.{comparison_holds, operand_value, sign_holds}
use Rattle.beas_core.specs.Groups.{member_columns}
use Rattle.beas_core.specs.Coverage.{class_at, has, place_class}
use Rattle.beas_core.specs.Derivations.{member_classes}
use Rattle.beas_core.specs.Valuations.{agrees, as_bindings, classes_in, comparison_is_bound, comparison_is_met, operand_is_bound, value_of}
use Rattle.beas_core.proofs.Sets.{Has, Has-append_right, Has-get_or, Has-map, Contains-from_has}
use Rattle.beas_core.specs.Extensions.{meets_bound}
use Rattle.beas_core.proofs.BindingFacts.{Has-classes_in, agreed, value-append_in, value_in_valuation}
use Rattle.beas_core.proofs.ClassSetFacts.{has-with_kept, has-with_new}
use Rattle.beas_core.proofs.ConsistencyFacts.{compared_alike}
use Rattle.beas_core.proofs.MemberTests.{all_by, all_has, and_both, and_left, and_right}
use Rattle.plan_ops.specs.declared.sieving.Own.{Own}
use Rattle.plan_ops.specs.declared.stages.Stage.{Stage}
use Rattle.plan_ops.specs.Joins.{fits_by}
use Rattle.plan_ops.specs.Sieves.{AreRest, IsOwn, IsRest, IsRight, IsSide, comparison_at, is_met_alone, is_plain, no_column, no_comparison, own_right, passes}
use Rattle.plan_ops.specs.Stages.{IsPair, IsStage, bound_with, joined_bindings, joined_row, leads_to, set_before, use_at}
use Rattle.plan_ops.specs.Over.{set_of}
use Rattle.plan_ops.specs.Places.{place_of}
use Rattle.plan_ops.proofs.BoundSets.{counted}
use Rattle.plan_ops.proofs.PlaceFacts.{bound_place}
use Rattle.plan_ops.proofs.RowFacts.{pair_joined}

-- what is true of all is true of each
pub all_member : {K : Type 0} (P : K → Type 0) (xs : List K) (x : K) → All P xs → Has xs x → P x
all_member P xs x all h = let c = Contains-from_has xs x h in subst P c.2 (all c.0 x c.1)

-- tests that are alike on the items of a list
all_alike : {K : Type 0} (p q : K → Bool) (xs : List K) → ((x : K) → Has xs x → p x ≡ q x) → list_all p xs ≡ list_all q xs
all_alike p q [] h = refl
all_alike p q (x ∷ xs) h = ap (λ b. b && list_all p xs) (h x (inl refl)) ∙ ap (λ b. q x && b) (all_alike p q xs (λ y k. h y (inr k)))

-- the binding that a tuple makes at a place
has_zip : (f : ColumnId → ℕ) (columns : List ColumnId) (t : Row) (k : ℕ) → k < length columns → k < length t
    → Has (zip (map f columns) t) (f (get_or columns k no_column), get_or t k (Int (pos 0)))
has_zip f [] t k l m = absurd (omega (arith, l))
has_zip f (c ∷ columns) [] k l m = absurd (omega (arith, m))
has_zip f (c ∷ columns) (x ∷ t) zero l m = inl refl
has_zip f (c ∷ columns) (x ∷ t) (suc k) l m = inr (has_zip f columns t k (omega (arith, l)) (omega (arith, m)))

-- a class that has a place among the classes of a set is in it
pub bound_there : (normal : Normal) (classes : List ℕ) → classes ≡ classes_in (set_of normal classes) → (class : ℕ)
    → place_of classes class < length classes → has (set_of normal classes) class ≡ true
bound_there normal classes are class l = bound_place (set_of normal classes) class (subst (λ cs. place_of cs class < length cs) are l)

-- a comparison that is listed, or bound before, is so where more are listed
pub rest_more : (normal : Normal) (set : ClassSet) (old new : List Own) (i : ℕ) → ((o : Own) → Has old o → Has new o)
    → IsRest normal set old i → IsRest normal set new i
rest_more normal set old new i stay (inl bound) = inl bound
rest_more normal set old new i stay (inr listed) = inr (listed.0, stay listed.0 listed.1, listed.2)

pub all_rest : (normal : Normal) (set : ClassSet) (old new : List Own) (n : ℕ) → ((o : Own) → Has old o → Has new o)
    → AreRest normal set old n → IsRest normal set new n → AreRest normal set new (n + 1)
all_rest normal set old new n stay rest here i l = elim (cases_lt i n) [
  | inl before ↦ rest_more normal set old new i stay (rest i before)
  | inr past ↦ subst (IsRest normal set new) (let same : n ≡ i = omega (arith, l, past) in same) here
]

no_checks : (checks : List (ℕ × ℕ)) → length checks ≡ 0 → checks ≡ []
no_checks [] e = refl
no_checks (c ∷ checks) e = absurd (omega (arith, e))

module _ (normal : Normal) (stage : Stage) (is : IsStage normal stage) (v t : Row) (pair : IsPair normal stage v t) where
  abbrev set : ClassSet
  set = set_before normal stage

  abbrev after : ClassSet
  after = bound_with normal (use_at stage) set

  abbrev columns : List ColumnId
  columns = member_columns stage.access.value

  abbrev bindings : Bindings
  bindings = joined_bindings normal (use_at stage) set v t

  abbrev value : Place → Value
  value p = value_of (as_bindings after (joined_row normal (use_at stage) set v t)) (place_class normal p)

  -- a tuple's value is that of its class, which is bound after the step
  side_bound : (class k : ℕ) → IsSide normal stage.atom columns class k → has after class ≡ true
  side_bound class k side =
      let n = counted normal stage.from.value in
      let here : Has (member_classes normal (use_at stage)) (class_at normal stage.atom (get_or columns k no_column)) =
      Has-map (class_at normal stage.atom) columns (get_or columns k no_column) (Has-get_or columns k no_column side.there) in
      has-with_new (member_classes normal (use_at stage)) set class (subst (Has (member_classes normal (use_at stage))) side.is here)
      (let c = side.counted in omega (arith, n, c))

  side_value : agrees bindings ≡ true → (class k : ℕ) → IsSide normal stage.atom columns class k
      → value_of (as_bindings after (joined_row normal (use_at stage) set v t)) class ≡ get_or t k (Int (pos 0))
  side_value agree class k side =
      let own = zip (member_classes normal (use_at stage)) t in
      let b : Binding = (class_at normal stage.atom (get_or columns k no_column), get_or t k (Int (pos 0))) in
      let wide = pair.found.wide in
      let there = side.there in
      let h : Has bindings b = Has-append_right (as_bindings set v) own b
      (has_zip (class_at normal stage.atom) columns t k there (omega (arith, wide, there))) in
      value_in_valuation after bindings class (side_bound class k side)
      ∙ ap (value_of bindings) (sym side.is) ∙ sym (agreed bindings b agree h)

  right_bound : (o : Operand) (k : ℕ) → IsRight normal stage.atom columns o k → operand_is_bound normal after o ≡ true
  right_bound (At p) k side = side_bound (place_class normal p) k side
  right_bound (Fixed x) k side = refl

  right_value : agrees bindings ≡ true → (o : Operand) (k : ℕ) → IsRight normal stage.atom columns o k → operand_value value o ≡ own_right t k o
  right_value agree (At p) k side = side_value agree (place_class normal p) k side
  right_value agree (Fixed x) k side = refl

  met_bound : (c : Comparison) → comparison_is_bound normal after c ≡ true
      → comparison_is_met normal after (as_bindings after (joined_row normal (use_at stage) set v t)) c ≡ comparison_holds value c
  met_bound c e = ap (λ b. not b || comparison_holds value c) e

  abbrev met : Comparison → Bool
  met c = comparison_is_met normal after (as_bindings after (joined_row normal (use_at stage) set v t)) c

  -- a comparison of a tuple's own values
  own_met : agrees bindings ≡ true → (o : Own) → IsOwn normal stage.atom columns o → met (comparison_at normal o.number) ≡ is_met_alone normal t o
  own_met agree o own =
      let c = comparison_at normal o.number in
      met_bound c (and_both (has after (place_class normal c.left)) (operand_is_bound normal after c.right)
      (side_bound (place_class normal c.left) o.left own.left) (right_bound c.right o.right own.right))
      ∙ ap (λ x. sign_holds c.sign (value_cmp x (operand_value value c.right)))
      (side_value agree (place_class normal c.left) o.left own.left)
      ∙ ap (λ x. sign_holds c.sign (value_cmp (get_or t o.left (Int (pos 0))) x))
      (right_value agree c.right o.right own.right)

  pub leads_pass : leads_to normal (use_at stage) set v t ≡ true → passes normal stage.sieve t ≡ true
  leads_pass led =
      let row = joined_row normal (use_at stage) set v t in
      let agree = and_left (agrees bindings) (meets_bound normal after row) led in
      let all = and_right (agrees bindings) (meets_bound normal after row) led in
      all_by (is_met_alone normal t) stage.sieve.own.items (λ o h.
      let own = all_member (IsOwn normal stage.atom columns) stage.sieve.own.items o is.sieve_is.own h in
      sym (own_met agree o own)
      ∙ all_has met normal.comparisons (comparison_at normal o.number) all (Has-get_or normal.comparisons o.number no_comparison own.there))

  -- a value that is bound before the step
  before_value : (class : ℕ) → has set class ≡ true
      → value_of (as_bindings after (joined_row normal (use_at stage) set v t)) class ≡ value_of (as_bindings set v) class
  before_value class h =
      let wide = pair.wide ∙ ap length is.from_are in
      value_in_valuation after bindings class (has-with_kept (member_classes normal (use_at stage)) set class h)
      ∙ value-append_in (as_bindings set v) (zip (member_classes normal (use_at stage)) t) class
      (subst (λ ks. Has ks class) (sym (firsts-zip (classes_in set) v wide)) (Has-classes_in set class h))

  before_right : (o : Operand) → operand_is_bound normal set o ≡ true
      → operand_value value o ≡ operand_value (λ p. value_of (as_bindings set v) (place_class normal p)) o
  before_right (At p) h = before_value (place_class normal p) h
  before_right (Fixed x) h = refl

  still_bound : (o : Operand) → operand_is_bound normal set o ≡ true → operand_is_bound normal after o ≡ true
  still_bound (At p) h = has-with_kept (member_classes normal (use_at stage)) set (place_class normal p) h
  still_bound (Fixed x) h = refl

  -- a comparison whose sides are bound before the step
  before_met : (c : Comparison) → comparison_is_bound normal set c ≡ true
      → met c ≡ comparison_holds (λ p. value_of (as_bindings set v) (place_class normal p)) c
  before_met c e =
      let left = and_left (has set (place_class normal c.left)) (operand_is_bound normal set c.right) e in
      let right = and_right (has set (place_class normal c.left)) (operand_is_bound normal set c.right) e in
      met_bound c (and_both (has after (place_class normal c.left)) (operand_is_bound normal after c.right)
      (has-with_kept (member_classes normal (use_at stage)) set (place_class normal c.left) left) (still_bound c.right right))
      ∙ compared_alike value (λ p. value_of (as_bindings set v) (place_class normal p)) c (before_value (place_class normal c.left) left)
      (before_right c.right right)

  agree_plain : stage.join.checks.items ≡ [] → agrees bindings ≡ true
  agree_plain none = sym (pair_joined normal stage is v t pair).0 ∙ ap (λ checks. fits_by checks v t) none

-- where one tuple is enough, no tuple is checked against a valuation, and the output is settled
module _ (normal : Normal) (stage : Stage) (is : IsStage normal stage) (one : stage.sieve.one ≡ true) where
  plain : is_plain stage.settled stage.join.checks.items ≡ true
  plain = (is.sieve_is.one one).0

  pub one_settled : stage.settled ≡ true
  one_settled = and_left stage.settled (length stage.join.checks.items == 0) plain

  one_unchecked : stage.join.checks.items ≡ []
  one_unchecked = no_checks stage.join.checks.items
      (eqb-true (length stage.join.checks.items) 0 (and_right stage.settled (length stage.join.checks.items == 0) plain))

  module _ (v s t : Row) (first : IsPair normal stage v s) (other : IsPair normal stage v t) (passed : passes normal stage.sieve s ≡ true)
      (passes_too : passes normal stage.sieve t ≡ true) where
    abbrev met_by : Row → Comparison → Bool
    met_by x c = comparison_is_met normal (bound_with normal (use_at stage) (set_before normal stage))
        (as_bindings (bound_with normal (use_at stage) (set_before normal stage)) (joined_row normal (use_at stage) (set_before normal stage) v x)) c

    rest_alike : (i : ℕ) → IsRest normal (set_before normal stage) stage.sieve.own.items i
        → met_by s (comparison_at normal i) ≡ met_by t (comparison_at normal i)
    rest_alike i (inl bound) = before_met normal stage is v s first (comparison_at normal i) bound
        ∙ sym (before_met normal stage is v t other (comparison_at normal i) bound)
    rest_alike i (inr listed) =
        let own = all_member (IsOwn normal stage.atom (member_columns stage.access.value)) stage.sieve.own.items listed.0 is.sieve_is.own listed.1 in
        ap (λ k. met_by s (comparison_at normal k)) (sym listed.2)
        ∙ own_met normal stage is v s first (agree_plain normal stage is v s first one_unchecked) listed.0 own
        ∙ all_has (is_met_alone normal s) stage.sieve.own.items listed.0 passed listed.1
        ∙ sym (all_has (is_met_alone normal t) stage.sieve.own.items listed.0 passes_too listed.1)
        ∙ sym (own_met normal stage is v t other (agree_plain normal stage is v t other one_unchecked) listed.0 own)
        ∙ ap (λ k. met_by t (comparison_at normal k)) listed.2

    all_met : (c : Comparison) → Has normal.comparisons c → met_by s c ≡ met_by t c
    all_met c h =
        let at = Contains-from_has normal.comparisons c h in
        let same : comparison_at normal at.0 ≡ c = get_or_default normal.comparisons at.0 no_comparison c at.1 ∙ at.2 in
        subst (λ (x : Comparison). met_by s x ≡ met_by t x) same (rest_alike at.0 ((is.sieve_is.one one).1 at.0 at.1))

    pub leads_alike : leads_to normal (use_at stage) (set_before normal stage) v s ≡ leads_to normal (use_at stage) (set_before normal stage) v t
    leads_alike =
        let u = use_at stage in
        let set = set_before normal stage in
        let after = bound_with normal u set in
        ap (λ b. b && meets_bound normal after (joined_row normal u set v s)) (agree_plain normal stage is v s first one_unchecked)
        ∙ all_alike (met_by s) (met_by t) normal.comparisons all_met
        ∙ ap (λ b. b && meets_bound normal after (joined_row normal u set v t)) (sym (agree_plain normal stage is v t other one_unchecked))
