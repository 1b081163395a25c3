-- Files that the program handed over.
--     Handed               their names and bytes, and how many loads there were
--     seen_of handed       as the engine sees them: the load of a name that is there never fails, and any other always does
use Rattle.std.specs.Prelude.{◌-◌, ◌^◌, ℕ, true, List, Option, None, Some}
use Rattle.outside.specs.declared.shelf.Entry.{Entry}
use Rattle.outside.specs.Contents.{content_of}
use Rattle.outside.specs.Seen.{Seen}

pub record Handed : Type 0 where
  pub shelf : List Entry
  pub loads : ℕ

-- of a name that isn't there the count of faults stands at its last value
abbrev pub faults_by : Option (List ℕ) → ℕ
faults_by None = 2 ^ 64 - 1
faults_by (Some bytes) = 0

abbrev pub seen_of : Handed → Seen
seen_of handed = record {
  told = true;
  content = content_of handed.shelf;
  faults = λ name. faults_by (content_of handed.shelf name);
  taken = 0;
  loads = handed.loads;
}
