-- How places lie in buckets. The bucket of a place is the upper half of the product of its hash and the number of buckets.
--     bucket hash count                the bucket of a hash among so many; the remainder leaves that of a hash of 64 bits as it is
--     hashes_of links                  the hash of each place
--     buckets_of count links           the bucket of each place, among so many; its last place is that of `IsLast`
--     AllLeadBack links                each place leads to one before it, or to none
--     AreHeads count heads links end   of each bucket the last place before `end` is known
--     AreLinked count links end        each place before `end` leads to the last one before it in its bucket
--     IsChained heads links            both hold of all places, and there are no fewer buckets than places
use Rattle.std.specs.Prelude.{◌<◌, ◌≤◌, ◌*◌, ◌/◌, ◌%◌, ℕ, List, Option, None, IfSome, length, map, slice_index_or}
use Rattle.place_chains.specs.declared.links.Link.{Link}
use Rattle.place_chains.specs.Chains.{IsLast}

unfoldable pub bucket : ℕ → ℕ → ℕ
bucket hash count = hash * count / 18446744073709551616 % count

abbrev pub hashes_of : List Link → List ℕ
hashes_of links = map (λ link. link.hash) links

abbrev pub buckets_of : ℕ → List Link → List ℕ
buckets_of count links = map (λ link. bucket link.hash count) links

pub record AllLeadBack (links : List Link) : Type 0 where
  pub back : (i : ℕ) (d : Link) → i < length links → IfSome (slice_index_or links i d).earlier (λ place. place < i)

pub record AreHeads (count : ℕ) (heads : List (Option ℕ)) (links : List Link) (end : ℕ) : Type 0 where
  pub last : (b : ℕ) → b < count → IsLast b (buckets_of count links) end (slice_index_or heads b None)

pub record AreLinked (count : ℕ) (links : List Link) (end : ℕ) : Type 0 where
  pub last : (i : ℕ) (d : Link) → i < end
      → IsLast (bucket (slice_index_or links i d).hash count) (buckets_of count links) i (slice_index_or links i d).earlier

pub record IsChained (heads : List (Option ℕ)) (links : List Link) : Type 0 where
  pub few : length links ≤ length heads
  pub heads_are : AreHeads (length heads) heads links (length links)
  pub linked : AreLinked (length heads) links (length links)
