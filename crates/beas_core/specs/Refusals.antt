-- The number of a refusal, as reports print it.
use Rattle.std.specs.Prelude.{ℕ}
use Rattle.beas_core.specs.declared.refusal.Refusal.{Refusal}
use Rattle.beas_core.specs.declared.refusal.Refusal.TheVariants.{Syntax, TooDeep, TableExists, UnknownTable, UnknownColumn, Ambiguous, DuplicateName, MixedTypes, WrongType, ShapeMismatch, BadLimit, AlreadyBroken, BreaksBound, WrongWidth, NumberRange, Unreadable, BadField, RecordWidth, HeaderMismatch, NotCovered, TooLarge, OverBudget, TooMany, NeedsDistinct, FileTooLong, UnknownAccess, TextTooLong, NotGrouped, SumOfText, TooManyCandidates, BadSession, SessionBusy, SessionIdle}

abbrev pub number_of : Refusal → ℕ
number_of Syntax = 1
number_of TooDeep = 2
number_of (TableExists _) = 3
number_of (UnknownTable _) = 4
number_of (UnknownColumn _ _) = 5
number_of (Ambiguous _) = 6
number_of (DuplicateName _) = 7
number_of (MixedTypes _ _) = 8
number_of (WrongType _ _) = 8
number_of (ShapeMismatch _) = 9
number_of (BadLimit _) = 10
number_of (AlreadyBroken _ _) = 11
number_of (BreaksBound _ _ _) = 12
number_of (WrongWidth _ _ _) = 13
number_of (NumberRange _ _) = 14
number_of (Unreadable _) = 15
number_of (BadField _ _) = 16
number_of (RecordWidth _ _ _) = 17
number_of HeaderMismatch = 18
number_of (NotCovered _ _ _) = 19
number_of TooLarge = 20
number_of (OverBudget _ _) = 21
number_of (TooMany _ _) = 22
number_of NeedsDistinct = 23
number_of (FileTooLong _) = 24
number_of (UnknownAccess _) = 25
number_of (TextTooLong _) = 26
number_of (NotGrouped _) = 27
number_of (SumOfText _) = 28
number_of (TooManyCandidates _) = 29
number_of (BadSession _) = 30
number_of (SessionBusy _) = 31
number_of (SessionIdle _) = 32
