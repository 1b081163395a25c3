-- What is known of files, and of a sink, at a moment.
--     Seen                     of files: their contents, where they are told, and counts
--     IsLater before after     contents stay, and no count falls
--     Sent                     of a sink: the bytes that it took, where they are told, and counts
--     IsLaterSink ..           what is told stays told, and the count doesn't fall
use Rattle.std.specs.Prelude.{◌≡◌, ◌≤◌, ℕ, Bool, List, Option}
use Rattle.outside.specs.Counts.{NoneFell}

pub record Seen : Type 0 where
  -- whether contents are told
  pub told : Bool
  -- the bytes of each name, or none, where contents are told
  pub content : List ℕ → Option (List ℕ)
  -- how many loads of each name failed; a kind that doesn't tell may have one count for all names
  pub faults : List ℕ → ℕ
  -- how many bytes were taken; a kind that tells its contents may leave it at 0
  pub taken : ℕ
  -- how many loads there were, of all names and whatever they gave
  pub loads : ℕ

pub record IsLater (before after : Seen) : Type 0 where
  pub told : after.told ≡ before.told
  pub content : after.content ≡ before.content
  pub faults : NoneFell before.faults after.faults
  pub taken : before.taken ≤ after.taken

pub record Sent : Type 0 where
  -- whether the bytes are told
  pub told : Bool
  -- the bytes taken so far, where they are told
  pub bytes : List ℕ
  -- how many puts failed
  pub faults : ℕ
  -- how many there were, whatever they gave
  pub puts : ℕ

pub record IsLaterSink (before after : Sent) : Type 0 where
  pub told : after.told ≡ before.told
  pub faults : before.faults ≤ after.faults
