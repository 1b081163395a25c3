-- What a query answers, and how many reads it takes: over its tree, whose blocks are numbered from left to right. `guided` says of each block whether
-- it is guided (Guiding), `plans` has the derivation of each, n is the number of a tree's first block, and `guide` are the answers of the
-- tree's guide, none where it has none. In a query without EXCEPT no block has a guide. The steps' constraints are found by id in one
-- list, in which no two may have one id.
--     answers rows guided n guide t                     its answers: a guided block gives those alone that stand in its guide's answers
--     size_of accesses guided plans n b t               how many rows it answers at most, where its guide has at most b answers
--     announced_in accesses guided plans n b t          how many reads it takes at most
--     probes_in rows accesses guided plans n guide t    its probes, each with its block and its step: block by block, step by step, keys in order
--     reads_in rows accesses guided plans n guide t     for each probe the greater of 1 and the size of its group, summed
-- and of a query as a whole, which has no guide:
--     query_answers, query_size, query_bound, query_probes, query_reads
use Rattle.std.specs.Prelude.{◌+◌, if◌then◌else◌, Bool, false, ℕ, List, [], ◌++◌, map, filter, sum_by, slice_index_or, Some, None}
use Rattle.std.specs.List.{list_any}
use Rattle.beas_core.specs.declared.schema.Access.{Access}
use Rattle.beas_core.specs.declared.plan.Derivation.{Derivation}
use Rattle.beas_core.specs.Types.{Row, TableRows, Guide}
use Rattle.beas_core.specs.Groups.{same_row}
use Rattle.beas_core.specs.Full.{full_of_block, set_union, set_difference}
use Rattle.beas_core.specs.Trees.{QueryTree, Single, Either, Minus}
use Rattle.beas_core.specs.Classes.{normal_of}
use Rattle.beas_core.specs.Numbers.{announced_from, last_size}
use Rattle.beas_core.specs.Reads.{Probe, probes, probe_reads, access_of_step}
use Rattle.beas_core.specs.Guiding.{after}

abbrev pub is_guided : List Bool → ℕ → Bool
is_guided guided n = slice_index_or guided n false

-- the derivation of block n
abbrev pub plan_of : List Derivation → ℕ → Derivation
plan_of plans n = slice_index_or plans n (record { steps = [] })

-- what guides a block: its guide's answers where it is guided, and nothing where it starts alone
abbrev pub guide_of : List Bool → ℕ → Guide → Guide
guide_of guided n guide = if is_guided guided n then guide else None

-- the rows that stand in the guide, all of them where there is none
abbrev pub inside : Guide → List Row → List Row
inside None found = found
inside (Some answers) found = filter (λ row. list_any (same_row row) answers) found

-- ---- answers

abbrev pub answers : TableRows → List Bool → ℕ → Guide → QueryTree → List Row
answers rows guided n guide (Single block) = inside (guide_of guided n guide) (full_of_block rows block)
answers rows guided n guide (Either l r) = set_union (answers rows guided n guide l) (answers rows guided (after n l) guide r)
answers rows guided n guide (Minus l r) =
    set_difference (answers rows guided n guide l) (answers rows guided (after n l) (Some (answers rows guided n guide l)) r)

-- ---- the announced number

-- how many valuations stand before the first step of a block at most: as many as its guide has answers, one where it starts alone
abbrev pub start_size : List Bool → ℕ → ℕ → ℕ
start_size guided n b = if is_guided guided n then b else 1

abbrev pub size_of : List Access → List Bool → List Derivation → ℕ → ℕ → QueryTree → ℕ
size_of accesses guided plans n b (Single block) = last_size accesses (start_size guided n b) (plan_of plans n).steps
size_of accesses guided plans n b (Either l r) = size_of accesses guided plans n b l + size_of accesses guided plans (after n l) b r
size_of accesses guided plans n b (Minus l r) = size_of accesses guided plans n b l

abbrev pub announced_in : List Access → List Bool → List Derivation → ℕ → ℕ → QueryTree → ℕ
announced_in accesses guided plans n b (Single block) = announced_from accesses (start_size guided n b) (plan_of plans n).steps
announced_in accesses guided plans n b (Either l r) =
    announced_in accesses guided plans n b l + announced_in accesses guided plans (after n l) b r
announced_in accesses guided plans n b (Minus l r) =
    announced_in accesses guided plans n b l + announced_in accesses guided plans (after n l) (size_of accesses guided plans n b l) r

-- ---- probes and reads

pub record BlockProbe : Type 0 where
  pub block : ℕ
  pub probe : Probe

abbrev pub probes_in : TableRows → List Access → List Bool → List Derivation → ℕ → Guide → QueryTree → List BlockProbe
probes_in rows accesses guided plans n guide (Single block) =
    map (λ p. record { block = n; probe = p }) (probes rows (normal_of block) accesses (guide_of guided n guide) (plan_of plans n).steps)
probes_in rows accesses guided plans n guide (Either l r) =
    probes_in rows accesses guided plans n guide l ++ probes_in rows accesses guided plans (after n l) guide r
probes_in rows accesses guided plans n guide (Minus l r) =
    probes_in rows accesses guided plans n guide l
    ++ probes_in rows accesses guided plans (after n l) (Some (answers rows guided n guide l)) r

-- what one of them counts
abbrev pub reads_at : TableRows → List Access → List Derivation → BlockProbe → ℕ
reads_at rows accesses plans p = probe_reads rows (access_of_step accesses (plan_of plans p.block).steps p.probe.step) p.probe.key

abbrev pub reads_in : TableRows → List Access → List Bool → List Derivation → ℕ → Guide → QueryTree → ℕ
reads_in rows accesses guided plans n guide t = sum_by (reads_at rows accesses plans) (probes_in rows accesses guided plans n guide t)

-- ---- of a query as a whole

abbrev pub query_answers : TableRows → List Bool → QueryTree → List Row
query_answers rows guided t = answers rows guided 0 None t

abbrev pub query_size : List Access → List Bool → List Derivation → QueryTree → ℕ
query_size accesses guided plans t = size_of accesses guided plans 0 1 t

abbrev pub query_bound : List Access → List Bool → List Derivation → QueryTree → ℕ
query_bound accesses guided plans t = announced_in accesses guided plans 0 1 t

abbrev pub query_probes : TableRows → List Access → List Bool → List Derivation → QueryTree → List BlockProbe
query_probes rows accesses guided plans t = probes_in rows accesses guided plans 0 None t

abbrev pub query_reads : TableRows → List Access → List Bool → List Derivation → QueryTree → ℕ
query_reads rows accesses guided plans t = reads_in rows accesses guided plans 0 None t
