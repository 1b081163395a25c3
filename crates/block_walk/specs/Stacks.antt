-- The valuations that a walk has yet to visit, the next one last.
--     pending_of values m        a stacked valuation as it is read, with its values among these
--     row_of stack m             its values
--     pending_in stack           all valuations of a stack, as they are read
--     IsInside values m          its values are there
--     StandBetween from ms end   the values of these valuations stand one behind another from one position to another
--     IsStack stack              the values of all its valuations stand so among its values
use Rattle.std.specs.Prelude.{ℕ, ◌+◌, ◌≤◌, List, [], ◌∷◌, length, map}
use Rattle.beas_core.specs.declared.value.Value.{Value}
use Rattle.beas_core.specs.Types.{Row}
use Rattle.block_walk.specs.declared.stack.StackedValuation.{StackedValuation}
use Rattle.block_walk.specs.declared.stack.Stack.{Stack}
use Rattle.block_walk.specs.Kept.{Pending, pending_at, part}

abbrev pub pending_of : List Value → StackedValuation → Pending
pending_of values m = pending_at m.step (part values m.from m.width)

abbrev pub row_of : Stack → StackedValuation → Row
row_of stack m = part stack.values.items m.from m.width

abbrev pub pending_in : Stack → List Pending
pending_in stack = map (pending_of stack.values.items) stack.valuations.items

abbrev pub IsInside : List Value → StackedValuation → Type 0
IsInside values m = m.from + m.width ≤ length values

abbrev pub StandBetween : ℕ → List StackedValuation → ℕ → Type 0
StandBetween from [] end = from ≤ end
StandBetween from (m ∷ valuations) end = (from ≤ m.from) × StandBetween (m.from + m.width) valuations end

pub record IsStack (stack : Stack) : Type 0 where
  pub order : StandBetween 0 stack.valuations.items (length stack.values.items)
