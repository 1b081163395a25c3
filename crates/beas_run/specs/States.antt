-- What the turns of a script go over, from one to the next: a database, and the queries that sessions have opened over it.
--     State
--     state_of session            that of a session, where no query is open
--     state_after state turns     the state after these turns
use Rattle.std.specs.Prelude.{List, [], fold}
use Rattle.session.specs.declared.session.Session.{Session}
use Rattle.session.specs.Applying.{database_of}
use Rattle.desk_model.specs.Desks.{State as DeskState}
use Rattle.desk_model.specs.Pieces.{DeskTurn}

abbrev pub State : Type 0
State = DeskState

abbrev pub state_of : Session → State
state_of session = record { db = database_of session; queries = [] }

abbrev pub state_after : State → List DeskTurn → State
state_after state turns = fold (λ before t. t.effect.state) state turns
