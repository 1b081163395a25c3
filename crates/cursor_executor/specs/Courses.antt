-- How far the operations of a query have run, between two probes.
--     fetched_by course           what it has fetched: of the finished blocks, which are numbered from 0 on, and of the block that is under way
--     left_of course              the operations that are left
--     IsCourse prepared course    in every world that agrees with what the finished blocks fetched, the operations that are left make the
--                                 probes that are left and leave the query's answers; a block that is under way stands at its walk
--     HasTurned w r reads ..      a turn of a block's walk, which was begun where it wasn't yet
use Rattle.std.specs.Prelude.{◌≡◌, ◌+◌, false, true, Bool, if◌then◌else◌, ℕ, List, [], ◌∷◌, ◌++◌, length, map, drop, slice_index_or, Option, Some, None}
use Rattle.beas_core.specs.declared.plan.Prepared.{Prepared}
use Rattle.beas_core.specs.Types.{Row}
use Rattle.beas_core.specs.Queries.{BlockProbe, query_answers}
use Rattle.block_walk.specs.declared.walking.Walk.{Walk}
use Rattle.block_walk.specs.Worlds.{World, Fetched}
use Rattle.block_walk.specs.Routes.{Route}
use Rattle.block_walk.specs.Walks.{IsTidy, Stands, fetched_in}
use Rattle.block_walk.specs.Turns as walk
use Rattle.cursor_executor.specs.declared.courses.Course.{Course}
use Rattle.cursor_executor.specs.declared.operations.Operation.{Operation}
use Rattle.cursor_executor.specs.declared.operations.Operation.TheVariants.{Block, Unite, Subtract}
use Rattle.cursor_executor.specs.Fetching.{BlockFetched, AllAgree, IsWorld, probed, probes_due, reads_fetched, Seen}
use Rattle.cursor_executor.specs.Operations.{Runs, guide_at, route_at}

-- ---- what was fetched

abbrev pub of_block : ℕ → List Fetched → List BlockFetched
of_block n fetched = map (λ f. record { block = n; pair = f }) fetched

abbrev pub finished_from : ℕ → List Walk → List BlockFetched
finished_from n [] = []
finished_from n (walk ∷ walks) = of_block n (fetched_in walk) ++ finished_from (n + 1) walks

abbrev pub walk_fetched : Option Walk → List Fetched
walk_fetched None = []
walk_fetched (Some walk) = fetched_in walk

abbrev pub fetched_by : Course → List BlockFetched
fetched_by course = finished_from 0 course.finished ++ of_block (length course.finished) (walk_fetched course.walk)

-- ---- where it stands

abbrev pub left_of : Course → List Operation
left_of course = drop course.position course.operations

pub record Remains (w : World) (prepared : Prepared) (finished : List Walk) (operations : List Operation) (stack : List (List Row)) : Type 0 where
  pub later : List BlockProbe
  pub probes : probes_due w prepared ≡ probed (finished_from 0 finished) ++ later
  pub runs : Runs w prepared (length finished) operations stack later (query_answers w.rows prepared.guided prepared.query)

abbrev pub RemainsInAll : Prepared → List Walk → List Operation → List (List Row) → Type 0
RemainsInAll prepared finished operations stack =
    (w : World) → IsWorld w prepared → AllAgree w prepared (finished_from 0 finished) → Remains w prepared finished operations stack

-- a walk that has begun stands on its route
abbrev pub StandsOn : Route → Option Walk → Type 0
StandsOn r None = Unit {0}
StandsOn r (Some walk) = IsTidy r walk × Stands r walk

-- a block's walk after a turn, which is begun where it wasn't
pub record HasTurned (w : World) (r : Route) (reads : Option ℕ) (old new : Option Walk) (before after : ℕ) : Type 0 where
  pub found : Walk
  pub is : new ≡ Some found
  pub tidy : IsTidy r found
  pub stands : Stands r found
  pub turn : walk.TurnIs w r reads (walk_fetched old) found before after

-- only a block can be under way
abbrev pub WalkStands : Prepared → ℕ → List Operation → List (List Row) → Option Walk → Type 0
WalkStands prepared n [] stack walk = walk ≡ None
WalkStands prepared n (Block guide ∷ operations) stack walk = StandsOn (route_at prepared n (guide_at stack guide)) walk
WalkStands prepared n (Unite ∷ operations) stack walk = walk ≡ None
WalkStands prepared n (Subtract ∷ operations) stack walk = walk ≡ None

pub record IsCourse (prepared : Prepared) (course : Course) : Type 0 where
  pub remains : RemainsInAll prepared course.finished (left_of course) course.stack.items
  pub walk : WalkStands prepared (length course.finished) (left_of course) course.stack.items course.walk

-- ---- a cursor round it

abbrev pub answer_of : Bool → Course → Option (List Row)
answer_of whole course = if whole then Some (slice_index_or course.stack.items 0 []) else None

abbrev pub seen_of : Prepared → Course → ℕ → Bool → Bool → Seen
seen_of prepared course reads failed whole =
    record { prepared = prepared; fetched = fetched_by course; reads = reads; failed = failed; answer = answer_of whole course }

pub record IsKept (prepared : Prepared) (course : Course) (reads : ℕ) (failed whole : Bool) : Type 0 where
  pub stands : failed ≡ false → IsCourse prepared course
  pub counts : failed ≡ false → reads ≡ reads_fetched (fetched_by course)
  pub going : whole ≡ true → failed ≡ false
  pub ended : whole ≡ true → left_of course ≡ []
  pub answer : whole ≡ true → length course.stack.items ≡ 1
