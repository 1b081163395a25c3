-- What sets of candidates are tried by.
--     mask_where test found           the positions of the candidates that pass a test
--     Tells gives test                what a call gives of a candidate is whether it passes a test
--     Rule                            a use of a constraint: where a set holds its key, it holds what it gives
--     IsLeastUnder rules start mask   the least set that holds the start and what each rule gives whose key it holds
--     IsFilled rules table            the entry of each set holds what the rules give whose key it is, and nothing that a closed set above it lacks
--     IsTable rules table             the entry of each set holds what all rules give whose key it holds, and nothing that a closed set above it lacks
--     IsClosedTable rules table       the entry of each set is the least set that holds it and what the rules give
--     reached table mask              a set with its entry, and where that is a larger set the entry of the larger one
--     United table mask count all     the least that holds the entry of a set, and those of the sets that lack one of its first positions
--     Server                          a use that holds its atom's needed columns: it serves where a set holds its key, unless one of the candidates whose
--                                     column it lacks has a constant
--     all_serve start mask servers    each atom has a server, where the start's candidates have constants and the mask is what they cover
--     classes_in accesses block mask  the candidates at a mask's positions
--     first_from accesses block size position held
--                                     the first set that makes the block covered, of those with so many candidates from a position on and all
--                                     that are held
use Rattle.std.specs.Prelude.{◌≡◌, ◌<◌, ◌+◌, ◌*◌, ◌/◌, ◌%◌, ◌^◌, ◌&&◌, if◌then◌else◌, ◌==◌, bit_and, bit_or, bit_xor, Bool, not, ℕ, List, [], ◌∷◌, ◌++◌, length, map, drop, filter, find, slice_index_or, slice_set, IsTrue, Contains, Option}
use Rattle.std.specs.Int.{bit_at}
use Rattle.std.specs.List.{list_any, list_all}
use Rattle.beas_core.specs.declared.schema.ColumnId.{ColumnId}
use Rattle.beas_core.specs.declared.schema.Access.{Access}
use Rattle.beas_core.specs.declared.query.Block.{Block}
use Rattle.beas_core.specs.declared.plan.Normal.{Normal}
use Rattle.beas_core.specs.Types.{ClassSet, Use}
use Rattle.beas_core.specs.Groups.{has_column, member_columns}
use Rattle.beas_core.specs.Classes.{normal_of}
use Rattle.beas_core.specs.Coverage.{has, class_at, uses, holds_needed, atoms_of}
use Rattle.specialise.specs.declared.candidates.Candidate.{Candidate}
use Rattle.specialise.specs.declared.rules.Rule.{Rule}
use Rattle.specialise.specs.declared.servers.Server.{Server}
use Rattle.specialise.specs.Specialised.{candidates, first_place, is_covered_with, sublists}

-- a class that is asked for, and that the covered set lacks
abbrev pub is_open : ClassSet → ClassSet → ℕ → Bool
is_open cover asked class = not (has cover class) && has asked class

abbrev pub candidate_of : Block → ℕ → Candidate
candidate_of block class = record { class = class; place = first_place block class }

-- ---- masks: sets of positions in the list of the candidates, of which the first is the lowest bit

abbrev pub within : ℕ → ℕ → Bool
within mask other = bit_and mask other == mask

abbrev pub apart : ℕ → ℕ → Bool
apart mask other = bit_and mask other == 0

abbrev pub with_first : Bool → ℕ → ℕ
with_first b rest = (if b then 1 else 0) + 2 * rest

-- the positions of the candidates that pass a test
abbrev pub mask_where : (Candidate → Bool) → List Candidate → ℕ
mask_where p [] = 0
mask_where p (c ∷ cs) = with_first (p c) (mask_where p cs)

-- where a call gives a truth value of a candidate, that is what the test says
abbrev pub Tells : (Candidate → Bool → Type 0) → (Candidate → Bool) → Type 0
Tells gives test = (c : Candidate) (b : Bool) → gives c b → b ≡ test c

-- the classes at a mask's positions
abbrev pub classes_at : ℕ → List ℕ → List ℕ
classes_at mask [] = []
classes_at mask (c ∷ cs) = if mask % 2 == 1 then c ∷ classes_at (mask / 2) cs else classes_at (mask / 2) cs

abbrev pub classes_in : List Access → Block → ℕ → List ℕ
classes_in accesses block mask = classes_at mask (candidates accesses block)

-- a candidate whose class some columns of an atom have
abbrev pub is_among : Normal → ℕ → List ColumnId → Candidate → Bool
is_among normal atom columns c = list_any (λ column. class_at normal atom column == c.class) columns

-- ---- what constants cover

abbrev pub rule_of : Normal → List Candidate → Use → Rule
rule_of normal found u = record {
  key = mask_where (is_among normal u.atom u.access.key) found;
  gives = mask_where (is_among normal u.atom u.access.fetched) found;
}

abbrev pub found_in : List Access → Block → List Candidate
found_in accesses block = map (candidate_of block) (candidates accesses block)

abbrev pub rules_of : List Access → Block → List Rule
rules_of accesses block = map (rule_of (normal_of block) (found_in accesses block)) (uses (normal_of block) accesses)

abbrev pub IsClosedUnder : List Rule → ℕ → Type 0
IsClosedUnder rules mask = (r : Rule) → Contains rules r → IsTrue (within r.key mask) → IsTrue (within r.gives mask)

pub record IsLeastUnder (rules : List Rule) (start mask : ℕ) : Type 0 where
  pub from_start : IsTrue (within start mask)
  pub closed : IsClosedUnder rules mask
  pub least : (other : ℕ) → IsTrue (within start other) → IsClosedUnder rules other → IsTrue (within mask other)

abbrev pub entry_at : List ℕ → ℕ → ℕ
entry_at table mask = slice_index_or table mask 0

abbrev pub with_rule : List ℕ → Rule → List ℕ
with_rule table r = slice_set table r.key (bit_or (entry_at table r.key) r.gives)

-- no entry holds more than the rules can give
abbrev pub HoldsNoMore : List Rule → List ℕ → Type 0
HoldsNoMore rules table = (mask other : ℕ) → mask < length table → IsTrue (within mask other) → IsClosedUnder rules other
    → IsTrue (within (entry_at table mask) other)

pub record IsFilled (rules : List Rule) (table : List ℕ) : Type 0 where
  pub own : (r : Rule) → Contains rules r → IsTrue (within r.gives (entry_at table r.key))
  pub no_more : HoldsNoMore rules table

pub record IsTable (rules : List Rule) (table : List ℕ) : Type 0 where
  pub all : (r : Rule) (mask : ℕ) → Contains rules r → mask < length table → IsTrue (within r.key mask) → IsTrue (within r.gives (entry_at table mask))
  pub no_more : HoldsNoMore rules table

abbrev pub IsClosedTable : List Rule → List ℕ → Type 0
IsClosedTable rules table = (mask : ℕ) → mask < length table → IsLeastUnder rules mask (entry_at table mask)

-- a set with its entry, and where that is a larger set the entry of the larger one
abbrev pub reached : List ℕ → ℕ → ℕ
reached table mask = if bit_or mask (entry_at table mask) == mask then mask else entry_at table (bit_or mask (entry_at table mask))

pub record United (table : List ℕ) (mask count all : ℕ) : Type 0 where
  pub own : IsTrue (within (entry_at table mask) all)
  pub each : (i : ℕ) → i < count → bit_at mask i ≡ 1 → IsTrue (within (entry_at table (bit_xor mask (2 ^ i))) all)
  pub least : (other : ℕ) → IsTrue (within (entry_at table mask) other)
      → ((i : ℕ) → i < count → bit_at mask i ≡ 1 → IsTrue (within (entry_at table (bit_xor mask (2 ^ i))) other)) → IsTrue (within all other)

-- ---- what serves an atom

-- the candidates on the use's atom whose column its constraint lacks
abbrev pub lacks : Use → Candidate → Bool
lacks u c = (c.place.atom == u.atom) && not (has_column (member_columns u.access) c.place.column)

abbrev pub server_of : Normal → List Candidate → Use → Server
server_of normal found u = record { key = mask_where (is_among normal u.atom u.access.key) found; loses = mask_where (lacks u) found }

abbrev pub servers_on : Normal → List Candidate → List Use → ℕ → List Server
servers_on normal found us atom = map (server_of normal found) (filter (λ u. (u.atom == atom) && holds_needed normal u) us)

abbrev pub servers_of : List Access → Block → List (List Server)
servers_of accesses block = map (servers_on (normal_of block) (found_in accesses block) (uses (normal_of block) accesses)) (atoms_of (normal_of block))

abbrev pub serves_now : ℕ → ℕ → Server → Bool
serves_now start mask s = within s.key mask && apart s.loses start

abbrev pub some_serves : ℕ → ℕ → List Server → Bool
some_serves start mask servers = list_any (serves_now start mask) servers

abbrev pub all_serve : ℕ → ℕ → List (List Server) → Bool
all_serve start mask servers = list_all (some_serves start mask) servers

-- ---- sets that are tried

abbrev pub first_from : List Access → Block → ℕ → ℕ → ℕ → Option (List ℕ)
first_from accesses block size position held =
    find (is_covered_with accesses block)
    (map (λ set. classes_in accesses block held ++ set) (sublists size (drop position (candidates accesses block))))
