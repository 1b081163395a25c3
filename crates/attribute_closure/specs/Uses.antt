-- A use of a constraint, as code holds it and as definitions speak of it.
use Rattle.std.specs.Prelude.{ℕ, List, [], slice_index_or}
use Rattle.beas_core.specs.Types.{Use}
use Rattle.attribute_closure.specs.declared.uses.UseAt.{UseAt}

abbrev pub as_use : UseAt → Use
as_use u = record { atom = u.atom; access = u.access.now }

-- one that fetches nothing, for numbers that no use has
abbrev pub no_use : Use
no_use = record { atom = 0; access = record { id = record { 0 = 0 }; name = []; table = record { 0 = 0 }; key = []; fetched = []; bound = 0 } }

abbrev pub use_at : List Use → ℕ → Use
use_at us number = slice_index_or us number no_use
