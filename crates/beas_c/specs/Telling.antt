-- What a call of C tells of the last report, by its status. A closed database is refused.
--     Tells found status old new                  what was found is told; BEAS_ABSENT where there is none
--     HasTold part held status old new            this part of what is held is told
--     HasToldWide ..                              the same in two halves; HasToldSum of a number with a sign
--     HasCopied text held status ..               a text's bytes are at the front, where there is room, and its length is told
--     MayCopy part held status ..                 the same, or memory ran out where there is such a text; MayCopySome of what was found
--     kind_of report                              the number of its kind
--     type_of cell                                the number of its type
--     name_of which pair                          the name of the key, which is 0, or that of the other column
use Rattle.std.specs.Prelude.{◌≡◌, ◌+◌, ◌*◌, ◌^◌, ◌<◌, ◌≤◌, ◌⊎◌, ◌++◌, ℕ, ℤ, pos, List, drop, length, Option, None, Some, ◌==◌, if◌then◌else◌}
use Rattle.std.specs.Int.{int_div_euclid, int_rem_euclid}
use Rattle.aggregate.specs.declared.cell.Cell.{Cell}
use Rattle.aggregate.specs.declared.cell.Cell.TheVariants.{Plain, Count, Sum}
use Rattle.beas_core.specs.declared.value.Value.TheVariants.{Int, Str}
use Rattle.beas_library.specs.declared.engine.Engine.{Engine}
use Rattle.report.specs.declared.reports.Report.{Report}
use Rattle.report.specs.declared.reports.Report.TheVariants.{Done, Changed, Greatest, Pairs, Explained, Answered, Grouped, Specialised, Opened, Probed, Refused}
use Rattle.beas_c.specs.declared.held.Held.{Held}
use Rattle.beas_c.specs.Statuses.{absent, closed, done, no_memory, no_room}

abbrev pub kind_of : Option Report → ℤ
kind_of None = pos 0
kind_of (Some Done) = pos 1
kind_of (Some (Changed rows)) = pos 2
kind_of (Some (Greatest most)) = pos 3
kind_of (Some (Pairs found)) = pos 4
kind_of (Some (Explained bound plan)) = pos 5
kind_of (Some (Answered bound plan header rows reads)) = pos 6
kind_of (Some (Grouped bound plan header rows reads)) = pos 7
kind_of (Some (Specialised places)) = pos 8
kind_of (Some (Opened session bound)) = pos 9
kind_of (Some (Probed session)) = pos 10
kind_of (Some (Refused why)) = pos 11

-- ---- a number

abbrev pub Tells : {X : Type 0} → Option X → ℤ → X → X → Type 0
Tells None status old new = (status ≡ absent) × (new ≡ old)
Tells (Some x) status old new = (status ≡ done) × (new ≡ x)

abbrev pub HasTold : {X : Type 0} → (Engine → Option X) → Option Held → ℤ → X → X → Type 0
HasTold part None status old new = (status ≡ closed) × (new ≡ old)
HasTold part (Some held) status old new = Tells (part held.engine) status old new

-- the lower 64 bits, and those above them
abbrev pub TellsWide : Option ℕ → ℤ → ℕ × ℕ → ℕ × ℕ → Type 0
TellsWide None status old new = (status ≡ absent) × (new ≡ old)
TellsWide (Some number) status old new = (status ≡ done) × (number ≡ new.1 * 2 ^ 64 + new.0)

abbrev pub HasToldWide : (Engine → Option ℕ) → Option Held → ℤ → ℕ × ℕ → ℕ × ℕ → Type 0
HasToldWide part None status old new = (status ≡ closed) × (new ≡ old)
HasToldWide part (Some held) status old new = TellsWide (part held.engine) status old new

abbrev pub IsSplit : ℤ → ℕ → ℤ → Type 0
IsSplit sum low high = (high ≡ int_div_euclid sum (pos (2 ^ 64))) × (pos low ≡ int_rem_euclid sum (pos (2 ^ 64)))

abbrev pub TellsSum : Option ℤ → ℤ → ℕ × ℤ → ℕ × ℤ → Type 0
TellsSum None status old new = (status ≡ absent) × (new ≡ old)
TellsSum (Some sum) status old new = (status ≡ done) × IsSplit sum new.0 new.1

abbrev pub HasToldSum : (Engine → Option ℤ) → Option Held → ℤ → ℕ × ℤ → ℕ × ℤ → Type 0
HasToldSum part None status old new = (status ≡ closed) × (new ≡ old)
HasToldSum part (Some held) status old new = TellsSum (part held.engine) status old new

-- ---- a text

-- what is behind it is as it was; without room nothing is written, and its length is told all the same
pub record Copies (text : List ℕ) (status : ℤ) (old new : List ℕ) (length_new : ℕ) : Type 0 where
  pub told : length_new ≡ length text
  pub copied : ((status ≡ done) × (length text ≤ length old) × (new ≡ text ++ drop (length text) old))
      ⊎ ((status ≡ no_room) × (length old < length text) × (new ≡ old))

abbrev pub CopiesSome : Option (List ℕ) → ℤ → List ℕ → List ℕ → ℕ → ℕ → Type 0
CopiesSome None status old new length_old length_new = (status ≡ absent) × (new ≡ old) × (length_new ≡ length_old)
CopiesSome (Some text) status old new length_old length_new = Copies text status old new length_new

abbrev pub HasCopied : (Engine → Option (List ℕ)) → Option Held → ℤ → List ℕ → List ℕ → ℕ → ℕ → Type 0
HasCopied part None status old new length_old length_new = (status ≡ closed) × (new ≡ old) × (length_new ≡ length_old)
HasCopied part (Some held) status old new length_old length_new = CopiesSome (part held.engine) status old new length_old length_new

abbrev pub MayCopySome : Option (List ℕ) → ℤ → List ℕ → List ℕ → ℕ → ℕ → Type 0
MayCopySome None status old new length_old length_new = (status ≡ absent) × (new ≡ old) × (length_new ≡ length_old)
MayCopySome (Some text) status old new length_old length_new =
    Copies text status old new length_new ⊎ ((status ≡ no_memory) × (new ≡ old) × (length_new ≡ length_old))

abbrev pub MayCopy : (Engine → Option (List ℕ)) → Option Held → ℤ → List ℕ → List ℕ → ℕ → ℕ → Type 0
MayCopy part None status old new length_old length_new = (status ≡ closed) × (new ≡ old) × (length_new ≡ length_old)
MayCopy part (Some held) status old new length_old length_new = MayCopySome (part held.engine) status old new length_old length_new

-- ---- an answer, and pairs

abbrev pub type_of : Cell → ℤ
type_of (Plain (Int number)) = pos 1
type_of (Plain (Str text)) = pos 2
type_of (Count count) = pos 3
type_of (Sum sum) = pos 4

abbrev pub name_of : ℕ → List ℕ × List ℕ × ℕ → List ℕ
name_of which pair = if which == 0 then pair.0 else pair.1
