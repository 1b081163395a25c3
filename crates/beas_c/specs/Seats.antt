-- What a seat owns.
use Rattle.std.specs.Prelude.{Option, None, Some}
use Rattle.std.specs.Ptr.{Ptr}
use Rattle.std.specs.Box.Ownership.{box_owns}
use Rattle.std.specs.contracts.impls.GlobalAllocator.TheImpl.{ghosts}
use Rattle.beas_c.specs.contracts.held.Held.{the_row}
use Rattle.beas_c.specs.declared.held.Held.{Held}
use base.Fml.{Fml, ftrue}
use mir.Syntax.{Ty}

-- the right to free a block of `Global`, which is one value
abbrev pub may_free : Ty → Ptr → Fml
may_free = ghosts.dealloc_token (record { memory = record { seal = tt } })

-- nothing; or what lies at the pointer, and the right to free its block
abbrev pub seat_owns : Ptr → Option Held → Fml
seat_owns at None = ftrue
seat_owns at (Some held) = box_owns may_free the_row at held
