-- What a program gives as numbers.
use Rattle.std.specs.Prelude.{ℕ, ◌==◌, not, Bool, Option, None, Some, if◌then◌else◌}

abbrev pub is_set : ℕ → Bool
is_set flag = not (flag == 0)

abbrev pub budget_of : ℕ → ℕ → Option ℕ
budget_of has_budget budget = if has_budget == 0 then None else Some budget
