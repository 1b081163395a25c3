-- What one turn does for an open query.
--     MakesProbe query old new next before after    exactly one probe of the query was made, which hadn't been made, and it counted its share
--     IsAnswered query old new next before after    all its probes had been made: it is answered, and counted nothing
--     Goes turn query old new next before after     a turn of its cursor, from `old` to `new`, made of the open query what `next` is, by one of
--                                                   these two; `before` and `after` are the counts of reads
use Rattle.std.specs.Prelude.{◌≡◌, ◌+◌, ◌<◌, ◌≤◌, ℕ, length, Contains, Some}
use Rattle.beas_core.specs.Queries.{BlockProbe}
use Rattle.block_walk.specs.Turns.{Fetches}
use Rattle.cursor_executor.specs.declared.cursors.Turn.{Turn}
use Rattle.cursor_executor.specs.declared.cursors.Turn.TheVariants.{Probed, Done}
use Rattle.cursor_executor.specs.Fetching.{Seen, probed}
use Rattle.desk_model.specs.OpenQueries.{OpenQuery, answer_of, probes_of, reads_of, share_of}

pub record MakesProbe (query : OpenQuery) (old new : Seen) (next : OpenQuery) (before after : ℕ) : Type 0 where
  pub made : ℕ
  pub was : query.made ≡ Some made
  pub due : made < length (probes_of query)
  pub probe : BlockProbe
  pub wanted : Contains (probes_of query) probe
  pub not_made : Contains (probed old.fetched) probe → ⊥
  -- it is made now, and no other
  pub makes : Fetches BlockProbe probe (probed old.fetched) (probed new.fetched)
  pub is : next ≡ record query { made = Some (made + 1) }
  pub reads : new.reads ≡ old.reads + share_of query probe
  pub steps : after ≡ before + share_of query probe

pub record IsAnswered (query : OpenQuery) (old new : Seen) (next : OpenQuery) (before after : ℕ) : Type 0 where
  pub made : ℕ
  pub was : query.made ≡ Some made
  pub none_due : length (probes_of query) ≤ made
  pub is : next ≡ query
  pub answer : new.answer ≡ Some (answer_of query)
  pub reads : new.reads ≡ reads_of query
  pub same : new.reads ≡ old.reads
  pub steps : after ≡ before

abbrev pub Goes : Turn → OpenQuery → Seen → Seen → OpenQuery → ℕ → ℕ → Type 0
Goes Probed query old new next before after = MakesProbe query old new next before after
Goes Done query old new next before after = IsAnswered query old new next before after
