use Rattle.std.proofs.Common.{length}
use Rattle.indexmap.specs.IndexMap.{values}
use Rattle.access_index.proofs.Indexing.{IsGreatestUpTo}
use Rattle.access_index.proofs.index.AccessIndex.greatest.Given as goal

abbrev pub invariant-loop-i : goal.invariant-loop-i
invariant-loop-i l = IsGreatestUpTo (length l.self-inside.access.key) (values l.self-inside.buckets) l.i l.best
