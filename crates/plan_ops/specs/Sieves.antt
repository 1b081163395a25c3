-- Which tuples of a step are kept. A tuple that fails a comparison which needs no other value than its own makes no valuation, so it
-- isn't kept. A sieve lists such comparisons.
--     comparison_at normal i              the block's comparison with this number
--     own_right t k operand               the value of a right side: a fixed one, or that of the tuple at place k
--     is_met_alone normal t own           the tuple's own values meet a comparison that is listed
--     passes normal sieve t               they meet all that the sieve lists
--     sieved normal sieve one tuples      the tuples that are kept: those that pass, or only the first of them where one is enough
--     is_plain settled checks             no tuple changes the output of a valuation, and none is checked against it
--     IsSide normal atom columns class k  the tuple has the value of this class at place k
--     IsOwn normal atom columns own       the tuple has the value of each side of the comparison that isn't fixed
--     IsRest normal set own i             the comparison with this number is listed, or its sides are bound before the step
--     AreRest normal set own count        so it is of each of the first `count` comparisons
--     IsSieve ..                          the comparisons that are listed are such; and where one tuple is said to be enough, the step is
--                                         plain, and no comparison is left that is neither listed nor bound before
use Rattle.std.specs.Prelude.{◌≡◌, ◌==◌, ◌<◌, ◌&&◌, ◌⊎◌, if◌then◌else◌, ℕ, pos, Bool, true, List, length, filter, take, slice_index_or, All, IsTrue}
use Rattle.std.specs.List.{list_all}
use Rattle.beas_core.specs.declared.value.Value.{Value}
use Rattle.beas_core.specs.declared.value.Value.TheVariants.{Int}
use Rattle.beas_core.specs.declared.schema.ColumnId.{ColumnId}
use Rattle.beas_core.specs.declared.query.Comparison.{Comparison}
use Rattle.beas_core.specs.declared.query.Operand.{Operand}
use Rattle.beas_core.specs.declared.query.Operand.TheVariants.{At, Fixed}
use Rattle.beas_core.specs.declared.query.Sign.TheVariants.{Equal}
use Rattle.beas_core.specs.declared.plan.Normal.{Normal}
use Rattle.beas_core.specs.Types.{Row, ClassSet}
use Rattle.beas_core.specs.Order.{value_cmp}
use Rattle.beas_core.specs.Full.{sign_holds}
use Rattle.beas_core.specs.Coverage.{class_at, place_class}
use Rattle.beas_core.specs.Valuations.{comparison_is_bound}
use Rattle.beas_core.proofs.Sets.{Has}
use Rattle.plan_ops.specs.declared.sieving.Own.{Own}
use Rattle.plan_ops.specs.declared.sieving.Sieve.{Sieve}

abbrev pub no_column : ColumnId
no_column = record { 0 = 0 }

abbrev pub no_comparison : Comparison
no_comparison = record { left = record { atom = 0; column = no_column }; sign = Equal; right = Fixed (Int (pos 0)) }

abbrev pub comparison_at : Normal → ℕ → Comparison
comparison_at normal i = slice_index_or normal.comparisons i no_comparison

abbrev pub own_right : Row → ℕ → Operand → Value
own_right t k (At place) = slice_index_or t k (Int (pos 0))
own_right t k (Fixed value) = value

abbrev pub is_met_alone : Normal → Row → Own → Bool
is_met_alone normal t own =
    sign_holds (comparison_at normal own.number).sign
    (value_cmp (slice_index_or t own.left (Int (pos 0))) (own_right t own.right (comparison_at normal own.number).right))

abbrev pub passes : Normal → Sieve → Row → Bool
passes normal sieve t = list_all (is_met_alone normal t) sieve.own.items

abbrev pub sieved : Normal → Sieve → Bool → List Row → List Row
sieved normal sieve one tuples = if one then take 1 (filter (passes normal sieve) tuples) else filter (passes normal sieve) tuples

-- ---- what is worked out once for a step

abbrev pub is_plain : Bool → List (ℕ × ℕ) → Bool
is_plain settled checks = settled && (length checks == 0)

pub record IsSide (normal : Normal) (atom : ℕ) (columns : List ColumnId) (class k : ℕ) : Type 0 where
  pub there : k < length columns
  pub is : class_at normal atom (slice_index_or columns k no_column) ≡ class
  pub counted : class < normal.count

abbrev pub IsRight : Normal → ℕ → List ColumnId → Operand → ℕ → Type 0
IsRight normal atom columns (At place) k = IsSide normal atom columns (place_class normal place) k
IsRight normal atom columns (Fixed value) k = IsTrue true

pub record IsOwn (normal : Normal) (atom : ℕ) (columns : List ColumnId) (own : Own) : Type 0 where
  pub there : own.number < length normal.comparisons
  pub left : IsSide normal atom columns (place_class normal (comparison_at normal own.number).left) own.left
  pub right : IsRight normal atom columns (comparison_at normal own.number).right own.right

abbrev pub IsRest : Normal → ClassSet → List Own → ℕ → Type 0
IsRest normal set own i = (comparison_is_bound normal set (comparison_at normal i) ≡ true) ⊎ ((o : Own) × (Has own o) × (o.number ≡ i))

abbrev pub AreRest : Normal → ClassSet → List Own → ℕ → Type 0
AreRest normal set own count = (i : ℕ) → i < count → IsRest normal set own i

pub record IsSieve (normal : Normal) (set : ClassSet) (atom : ℕ) (columns : List ColumnId) (plain : Bool) (sieve : Sieve) : Type 0 where
  pub own : All (IsOwn normal atom columns) sieve.own.items
  pub one : sieve.one ≡ true → (plain ≡ true) × AreRest normal set sieve.own.items (length normal.comparisons)
