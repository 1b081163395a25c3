use Rattle.std.proofs.Common.{◌≡◌, ◌<◌, length, map, take}
use Rattle.std.specs.Prelude.{All}
use Rattle.catalogue.specs.Schema.{accesses_on}
use Rattle.word_index.specs.Parts.{access_at}
use Rattle.word_index.proofs.freezing.places_on.Given as goal

-- the places of the table's first constraints
abbrev pub invariant-loop-k : goal.invariant-loop-k
invariant-loop-k l = record {
  within : All (λ place. place < length l.catalogue.accesses) l.places.items;
  on : map (access_at l.catalogue.accesses) l.places.items ≡ take l.k (accesses_on l.catalogue.accesses l.fn.table);
}
