-- What carrying out an operation makes of a course.
use Rattle.std.proofs.Common.{◌≡◌, ◌+◌, ◌<◌, ◌≤◌, ◌⊎◌, ◌^◌, ℕ, suc, List, [], ◌∷◌, ◌++◌, length, map, drop, max, sum_by, Option, Some, None, inl, inr, refl, ap, sym, ◌∙◌, subst, arith, append_assoc, length-append}
use Rattle.std.specs.List.{slice_get}
use Rattle.std.proofs.lemmas.List.{append-nil, map-append, length-map, drop_more}
use Rattle.std.proofs.lemmas.List.Sums.{sum_by-append}
use Rattle.std.proofs.lemmas.Option.{slice_get_within, get_or_from_slice_get}
use Rattle.beas_core.specs.declared.schema.Access.{Access}
use Rattle.beas_core.specs.declared.plan.Prepared.{Prepared}
use Rattle.beas_core.specs.Types.{Row, Guide}
use Rattle.beas_core.specs.Full.{set_union, set_difference}
use Rattle.beas_core.specs.Reads.{Probe, probe_reads}
use Rattle.beas_core.specs.Queries.{BlockProbe, query_answers}
use Rattle.beas_core.proofs.Sets.{Has, Has-map, Has-from_map, Has-append_left, Has-append_right, Has-append_cases, Has-from_contains, Contains-from_has}
use Rattle.beas_core.proofs.ReadFacts.{sum_mapped}
use Rattle.block_walk.specs.declared.walking.Walk.{Walk}
use Rattle.block_walk.specs.Worlds.{World, Fetched, made, Agrees, AgreesWith}
use Rattle.block_walk.specs.Routes.{Route, IsSoundIn, all_probes}
use Rattle.block_walk.specs.Walks.{IsTidy, Stands, fetched_in}
use Rattle.block_walk.specs.Turns as walk
use Rattle.block_walk.proofs.SumFacts.{same_sums}
use Rattle.cursor_executor.specs.declared.courses.Course.{Course}
use Rattle.cursor_executor.specs.declared.operations.Operation.{Operation}
use Rattle.cursor_executor.specs.declared.operations.Operation.TheVariants.{Block, Unite, Subtract}
use Rattle.cursor_executor.specs.Fetching.{BlockFetched, probe_of, probed, steps_of, AllAgree, IsWorld, probes_due, reads_due, reads_fetched, share_of}
use Rattle.cursor_executor.specs.Operations.{operations_in, guide_at, route_at, block_probes, block_rows, BlockFits, LastTwo, IsJoined, Runs}
use Rattle.cursor_executor.specs.Courses.{of_block, finished_from, walk_fetched, fetched_by, left_of, Remains, RemainsInAll, StandsOn, WalkStands, IsCourse}
use Rattle.cursor_executor.specs.Turns.{IsDue, ProbedOne, QuerySpent}
use Rattle.cursor_executor.proofs.RunFacts.{runs_query}

-- ---- lists of what was fetched

-- the operation at a place begins what is left
pub at_place : (operations : List Operation) (place : ℕ) (operation : Operation) → slice_get operations place ≡ Some operation
    → drop place operations ≡ operation ∷ drop (place + 1) operations
at_place operations place operation e =
    drop_more operations place operation (slice_get_within operations place operation e)
    ∙ ap (λ x. x ∷ drop (place + 1) operations) (get_or_from_slice_get operations place operation operation e)

pub finished_more : (i : ℕ) (walks : List Walk) (walk : Walk)
    → finished_from i (walks ++ walk ∷ []) ≡ finished_from i walks ++ of_block (i + length walks) (fetched_in walk)
finished_more i [] walk = append-nil (of_block i (fetched_in walk)) ∙ ap (λ k. of_block k (fetched_in walk)) (same i)
  where
    same : (i : ℕ) → i ≡ i + 0
    same i = omega arith
finished_more i (first ∷ walks) walk =
    let own = of_block i (fetched_in first) in
    ap (λ fs. own ++ fs) (finished_more (i + 1) walks walk
    ∙ ap (λ k. finished_from (i + 1) walks ++ of_block k (fetched_in walk)) (moved i (length walks)))
    ∙ sym (append_assoc own (finished_from (i + 1) walks) (of_block (i + length (first ∷ walks)) (fetched_in walk)))
  where
    moved : (i m : ℕ) → (i + 1) + m ≡ i + suc m
    moved i m = omega arith

abbrev probe_at : ℕ → Probe → BlockProbe
probe_at n p = record { block = n; probe = p }

abbrev pair_at : ℕ → Fetched → BlockFetched
pair_at n f = record { block = n; pair = f }

pub probed_block : (n : ℕ) (fetched : List Fetched) → probed (of_block n fetched) ≡ map (probe_at n) (made fetched)
probed_block n [] = refl
probed_block n (f ∷ fetched) = ap (λ ps. probe_at n f.probe ∷ ps) (probed_block n fetched)

probed_more : (xs ys : List BlockFetched) → probed (xs ++ ys) ≡ probed xs ++ probed ys
probed_more xs ys = map-append probe_of xs ys

-- a finished block has a lower number
lower : (i : ℕ) (walks : List Walk) (f : BlockFetched) → Has (finished_from i walks) f → f.block < i + length walks
lower i [] f h = absurd h
lower i (walk ∷ walks) f h = elim (Has-append_cases (of_block i (fetched_in walk)) (finished_from (i + 1) walks) f h) [
  | inl own ↦ (
      let m = Has-from_map (pair_at i) (fetched_in walk) f own in
      let e = ap (λ (x : BlockFetched). x.block) m.2 in
      omega (arith, e))
  | inr later ↦ (
      let l = lower (i + 1) walks f later in
      omega (arith, l))
]

counted_block : (n : ℕ) (fetched : List Fetched) → reads_fetched (of_block n fetched) ≡ walk.fetched_reads fetched
counted_block n fetched = sum_mapped (λ (f : BlockFetched). max 1 (length f.pair.tuples)) (pair_at n) fetched

counted_more : (xs ys : List BlockFetched) → reads_fetched (xs ++ ys) ≡ reads_fetched xs + reads_fetched ys
counted_more xs ys = sum_by-append (λ (f : BlockFetched). max 1 (length f.pair.tuples)) xs ys

module _ (w : World) (prepared : Prepared) where
  agree_left : (xs ys : List BlockFetched) → AllAgree w prepared (xs ++ ys) → AllAgree w prepared xs
  agree_left xs ys h f c = h f (Contains-from_has (xs ++ ys) f (Has-append_left xs ys f (Has-from_contains xs f c)))

  agree_right : (xs ys : List BlockFetched) → AllAgree w prepared (xs ++ ys) → AllAgree w prepared ys
  agree_right xs ys h f c = h f (Contains-from_has (xs ++ ys) f (Has-append_right xs ys f (Has-from_contains ys f c)))

  agree_block : (n : ℕ) (fetched : List Fetched) → AllAgree w prepared (of_block n fetched) → AgreesWith w (steps_of prepared n) fetched
  agree_block n fetched h f c =
      h (pair_at n f) (Contains-from_has (of_block n fetched) (pair_at n f) (Has-map (pair_at n) fetched f (Has-from_contains fetched f c)))

  -- what was fetched counted as the world counts it
  counted_as : (fs : List BlockFetched) → AllAgree w prepared fs → reads_fetched fs ≡ sum_by (share_of w prepared) (probed fs)
  counted_as fs agree = same_sums (λ (f : BlockFetched). max 1 (length f.pair.tuples)) (share_of w prepared) probe_of fs (λ f m.
      let a = agree f (Contains-from_has fs f m) in
      sym (ap (λ (c : Access). probe_reads w.rows c f.pair.probe.key) a.access ∙ ap (λ (ts : List Row). max 1 (length ts)) a.tuples))

-- ---- courses

-- where no block is under way
pub idle_stands : (prepared : Prepared) (os : List Operation) (k : ℕ) (stack : List (List Row)) → WalkStands prepared k os stack None
idle_stands prepared [] k stack = refl
idle_stands prepared (Block guide ∷ os) k stack = tt
idle_stands prepared (Unite ∷ os) k stack = refl
idle_stands prepared (Subtract ∷ os) k stack = refl

-- before the first operation
pub first_course : (prepared : Prepared) → prepared.bound < 2 ^ 128 → (course : Course)
    → course.operations ≡ operations_in prepared.guided 0 0 None prepared.query → course.position ≡ 0 → course.stack.items ≡ [] → course.finished ≡ []
    → course.walk ≡ None → IsCourse prepared course
first_course prepared small course operations place stack finished idle =
    let left : left_of course ≡ operations_in prepared.guided 0 0 None prepared.query = ap (λ k. drop k course.operations) place ∙ operations in record {
      remains = subst (λ ws. RemainsInAll prepared ws (left_of course) course.stack.items) (sym finished)
          (subst (λ os. RemainsInAll prepared [] os course.stack.items) (sym left)
          (subst (RemainsInAll prepared [] (operations_in prepared.guided 0 0 None prepared.query)) (sym stack)
          (λ w world agree. record { later = probes_due w prepared; probes = refl; runs = runs_query w prepared world small })));
      walk = subst (WalkStands prepared (length course.finished) (left_of course) course.stack.items) (sym idle)
          (idle_stands prepared (left_of course) (length course.finished) course.stack.items);
    }

pub first_fetched : (course : Course) → course.finished ≡ [] → course.walk ≡ None → fetched_by course ≡ []
first_fetched course finished idle = ap (λ ws. finished_from 0 ws ++ of_block (length ws) (walk_fetched course.walk)) finished
    ∙ ap (λ u. of_block 0 (walk_fetched u)) idle

-- the answers that are joined stand for the last two
module _ (prepared : Prepared) (old new : Course) (is : IsCourse prepared old) (operations : new.operations ≡ old.operations)
    (next : new.position ≡ old.position + 1) (finished : new.finished ≡ old.finished) (under_way : new.walk ≡ old.walk) (rest : List Operation)
    (rest_is : rest ≡ drop (old.position + 1) old.operations) where
  abbrev n : ℕ
  n = length old.finished

  left_new : left_of new ≡ rest
  left_new = ap (λ os. drop new.position os) operations ∙ ap (λ k. drop k old.operations) next ∙ sym rest_is

  fetched_same : fetched_by new ≡ fetched_by old
  fetched_same =
      ap (λ ws. finished_from 0 ws ++ of_block (length ws) (walk_fetched new.walk)) finished
      ∙ ap (λ u. finished_from 0 old.finished ++ of_block n (walk_fetched u)) under_way

  module _ (idle : old.walk ≡ None) (run : (w : World) → IsWorld w prepared → (later : List BlockProbe) → (rows : List Row)
      → Runs w prepared n (left_of old) old.stack.items later rows → Runs w prepared n rest new.stack.items later rows) where
    moved_remains : RemainsInAll prepared new.finished (left_of new) new.stack.items
    moved_remains w world agree =
        let before = is.remains w world (subst (λ ws. AllAgree w prepared (finished_from 0 ws)) finished agree) in
        subst (λ ws. Remains w prepared ws (left_of new) new.stack.items) (sym finished)
        (subst (λ os. Remains w prepared old.finished os new.stack.items) (sym left_new)
        (record {
          later = before.later;
          probes = before.probes;
          runs = run w world before.later (query_answers w.rows prepared.guided prepared.query) before.runs;
        }))

    pub moved_course : IsCourse prepared new
    moved_course = record {
      remains = moved_remains;
      walk = subst (WalkStands prepared (length new.finished) (left_of new) new.stack.items) (sym (under_way ∙ idle))
          (idle_stands prepared (left_of new) (length new.finished) new.stack.items);
    }

-- where answers are joined, two stand
pub two_stand : (prepared : Prepared) (old : Course) → IsCourse prepared old → (w : World) → IsWorld w prepared → AllAgree w prepared (fetched_by old)
    → (slice_get old.operations old.position ≡ Some Unite) ⊎ (slice_get old.operations old.position ≡ Some Subtract) → LastTwo old.stack.items
two_stand prepared old is w world agree at =
    let rows = query_answers w.rows prepared.guided prepared.query in
    let before = is.remains w world (agree_left w prepared (finished_from 0 old.finished) (of_block (length old.finished) (walk_fetched old.walk)) agree) in
    elim at [
      | inl e ↦ (subst (λ os. Runs w prepared (length old.finished) os old.stack.items before.later rows)
          (at_place old.operations old.position Unite e) before.runs).0
      | inr e ↦ (subst (λ os. Runs w prepared (length old.finished) os old.stack.items before.later rows)
          (at_place old.operations old.position Subtract e) before.runs).0
    ]

-- the last two answers are united, or subtracted
module _ (prepared : Prepared) (old new : Course) (is : IsCourse prepared old) (operations : new.operations ≡ old.operations)
    (next : new.position ≡ old.position + 1) (finished : new.finished ≡ old.finished) (under_way : new.walk ≡ old.walk) where
  abbrev rest : List Operation
  rest = drop (old.position + 1) old.operations

  pub united_course : slice_get old.operations old.position ≡ Some Unite → IsJoined set_union old.stack.items new.stack.items → IsCourse prepared new
  united_course at joined =
      let left = at_place old.operations old.position Unite at in
      moved_course prepared old new is operations next finished under_way rest refl
      (subst (λ os. WalkStands prepared (length old.finished) os old.stack.items old.walk) left is.walk)
      (λ w world later rows run.
      let ran = subst (λ os. Runs w prepared (length old.finished) os old.stack.items later rows) left run in
      subst (λ stack. Runs w prepared (length old.finished) rest stack later rows) (sym (joined ran.0)) ran.1)

  pub subtracted_course : slice_get old.operations old.position ≡ Some Subtract → IsJoined set_difference old.stack.items new.stack.items
      → IsCourse prepared new
  subtracted_course at joined =
      let left = at_place old.operations old.position Subtract at in
      moved_course prepared old new is operations next finished under_way rest refl
      (subst (λ os. WalkStands prepared (length old.finished) os old.stack.items old.walk) left is.walk)
      (λ w world later rows run.
      let ran = subst (λ os. Runs w prepared (length old.finished) os old.stack.items later rows) left run in
      subst (λ stack. Runs w prepared (length old.finished) rest stack later rows) (sym (joined ran.0)) ran.1)

  pub joined_fetched : fetched_by new ≡ fetched_by old
  joined_fetched = fetched_same prepared old new is operations next finished under_way rest refl

-- ---- a block

module _ (prepared : Prepared) (old : Course) (is : IsCourse prepared old) (place : Option ℕ)
    (at : slice_get old.operations old.position ≡ Some (Block place)) where
  abbrev number : ℕ
  number = length old.finished

  abbrev guide : Guide
  guide = guide_at old.stack.items place

  abbrev r : Route
  r = route_at prepared number guide

  abbrev further : List Operation
  further = drop (old.position + 1) old.operations

  abbrev us : List Fetched
  us = walk_fetched old.walk

  abbrev front : List BlockFetched
  front = finished_from 0 old.finished

  left_is : left_of old ≡ Block place ∷ further
  left_is = at_place old.operations old.position (Block place) at

  pub standing : StandsOn r old.walk
  standing = subst (λ os. WalkStands prepared number os old.stack.items old.walk) left_is is.walk

  -- in one world
  module _ (w : World) (world : IsWorld w prepared) (agree_front : AllAgree w prepared front) where
    before : Remains w prepared old.finished (left_of old) old.stack.items
    before = is.remains w world agree_front

    run : Runs w prepared number (Block place ∷ further) old.stack.items before.later (query_answers w.rows prepared.guided prepared.query)
    run = subst (λ os. Runs w prepared number os old.stack.items before.later (query_answers w.rows prepared.guided prepared.query)) left_is before.runs

    pub block : BlockFits w prepared number guide
    block = run.0

    abbrev later : List BlockProbe
    later = run.1.0

    probes_are : probes_due w prepared ≡ probed front ++ (block_probes w prepared number guide ++ later)
    probes_are = before.probes ∙ ap (λ ps. probed front ++ ps) run.1.1.0

  module _ (w : World) (world : IsWorld w prepared) (agree : AllAgree w prepared (fetched_by old)) where
    pub agree_front : AllAgree w prepared front
    agree_front = agree_left w prepared front (of_block number us) agree

    pub agree_walk : AgreesWith w r.steps us
    agree_walk = agree_block w prepared number us (agree_right w prepared front (of_block number us) agree)

    abbrev own : List BlockProbe
    own = block_probes w prepared number guide

    abbrev after_it : List BlockProbe
    after_it = later w world agree_front

    all_are : probes_due w prepared ≡ probed front ++ (own ++ after_it)
    all_are = probes_are w world agree_front

    lift_due : (p : Probe) → walk.IsDue w r us p → IsDue w prepared (fetched_by old) (probe_at number p)
    lift_due p due = record {
      wanted = Contains-from_has (probes_due w prepared) (probe_at number p) (subst (λ ps. Has ps (probe_at number p)) (sym all_are)
          (Has-append_right (probed front) (own ++ after_it) (probe_at number p) (Has-append_left own after_it (probe_at number p)
          (Has-map (probe_at number) (all_probes w r) p (Has-from_contains (all_probes w r) p due.wanted)))));
      not_made = λ c. elim (Has-append_cases (probed front) (probed (of_block number us)) (probe_at number p)
          (subst (λ ps. Has ps (probe_at number p)) (probed_more front (of_block number us))
          (Has-from_contains (probed (fetched_by old)) (probe_at number p) c))) [
            | inl h ↦ (
                let m = Has-from_map probe_of front (probe_at number p) h in
                let l = lower 0 old.finished m.0 m.1 in
                let e = ap (λ (x : BlockProbe). x.block) m.2 in
                absurd (omega (arith, l, e)))
            | inr h ↦ (
                let m = Has-from_map (probe_at number) (made us) (probe_at number p) (subst (λ ps. Has ps (probe_at number p)) (probed_block number us) h) in
                let e = ap (λ (x : BlockProbe). x.probe) m.2 in
                due.not_made (Contains-from_has (made us) p (subst (Has (made us)) (sym e) m.1)))
          ];
    }

    lift_fewer : length us < length (all_probes w r) → length (fetched_by old) < length (probes_due w prepared)
    lift_fewer less =
        let a = length-append front (of_block number us) in
        let b = length-map us (pair_at number) in
        let c = ap length all_are ∙ length-append (probed front) (own ++ after_it) in
        let d = length-append own after_it in
        let e = length-map front probe_of in
        let f = length-map (all_probes w r) (probe_at number) in
        omega (arith, less, a, b, c, d, e, f)

    lift_within : (p : Probe) → walk.IsWithin w r us p → reads_fetched (fetched_by old) + share_of w prepared (probe_at number p) ≤ reads_due w prepared
    lift_within p within =
        let share = share_of w prepared in
        let a = ap (sum_by share) all_are ∙ sum_by-append share (probed front) (own ++ after_it) in
        let b = sum_by-append share own after_it in
        let c = sum_mapped share (probe_at number) (all_probes w r) in
        let d = counted_as w prepared front agree_front in
        let e = counted_more front (of_block number us) in
        let f = counted_block number us in
        omega (arith, within, a, b, c, d, e, f)

    pub lift_spent : (spent now : ℕ) → walk.SpentOnce w r us spent now → QuerySpent w prepared (fetched_by old) spent now
    lift_spent spent now once = elim once [
      | inl free ↦ inl free
      | inr s ↦ inr (record {
        probe = probe_at number s.probe;
        due = lift_due s.probe s.due;
        fewer = lift_fewer s.fewer;
        within = lift_within s.probe s.within;
        cost = s.cost;
      })
    ]

    module _ (reads spent now : ℕ) (found : List Fetched) (p : walk.ProbedOne w r reads us found spent now) where
      abbrev all : List BlockFetched
      all = front ++ of_block number found

      lift_agree : AllAgree w prepared all
      lift_agree f c = elim (Has-append_cases front (of_block number found) f (Has-from_contains all f c)) [
        | inl h ↦ agree_front f (Contains-from_has front f h)
        | inr h ↦ (
            let m = Has-from_map (pair_at number) found f h in
            subst (λ (x : BlockFetched). Agrees w (steps_of prepared x.block) x.pair) (sym m.2) (p.agree m.0 (Contains-from_has found m.0 m.1)))
      ]

      lift_others : (f : BlockFetched) → Has (of_block number found) f → (f ≡ pair_at number p.one) ⊎ (Has (of_block number us) f)
      lift_others f h =
          let m = Has-from_map (pair_at number) found f h in
          elim (p.fetches.others m.0 (Contains-from_has found m.0 m.1)) [
            | inl e ↦ inl (m.2 ∙ ap (pair_at number) e)
            | inr c ↦ inr (subst (Has (of_block number us)) (sym m.2) (Has-map (pair_at number) us m.0 (Has-from_contains us m.0 c)))
          ]

      lift_stay : (f : BlockFetched) → Has (of_block number us) f → Has (of_block number found) f
      lift_stay f h =
          let m = Has-from_map (pair_at number) us f h in
          subst (Has (of_block number found)) (sym m.2)
          (Has-map (pair_at number) found m.0 (Has-from_contains found m.0 (p.fetches.stay m.0 (Contains-from_has us m.0 m.1))))

      lift_fetches : walk.Fetches BlockFetched (pair_at number p.one) (fetched_by old) all
      lift_fetches = record {
        stands = Contains-from_has all (pair_at number p.one) (Has-append_right front (of_block number found) (pair_at number p.one)
            (Has-map (pair_at number) found p.one (Has-from_contains found p.one p.fetches.stands)));
        others = λ f c. elim (Has-append_cases front (of_block number found) f (Has-from_contains all f c)) [
          | inl h ↦ inr (Contains-from_has (fetched_by old) f (Has-append_left front (of_block number us) f h))
          | inr h ↦ elim (lift_others f h) [
            | inl e ↦ inl e
            | inr k ↦ inr (Contains-from_has (fetched_by old) f (Has-append_right front (of_block number us) f k))
          ]
        ];
        stay = λ f c. Contains-from_has all f (elim (Has-append_cases front (of_block number us) f (Has-from_contains (fetched_by old) f c)) [
          | inl h ↦ Has-append_left front (of_block number found) f h
          | inr h ↦ Has-append_right front (of_block number found) f (lift_stay f h)
        ]);
        count = (
            let a = length-append front (of_block number found) in
            let b = length-append front (of_block number us) in
            let c = length-map found (pair_at number) in
            let d = length-map us (pair_at number) in
            let e = p.fetches.count in
            omega (arith, a, b, c, d, e));
      }

      lift_reads : reads_fetched all ≡ reads_fetched (fetched_by old) + reads
      lift_reads =
          let a = counted_more front (of_block number found) in
          let b = counted_more front (of_block number us) in
          let c = counted_block number found in
          let d = counted_block number us in
          let e = p.all_reads in
          omega (arith, a, b, c, d, e)

      pub lift_probed : ProbedOne w prepared reads (fetched_by old) all spent now
      lift_probed = record {
        one = pair_at number p.one;
        due = lift_due p.one.probe p.due;
        agrees = p.agrees;
        fetches = lift_fetches;
        agree = lift_agree;
        fewer = lift_fewer p.fewer;
        reads_are = p.reads_are;
        all_reads = lift_reads;
        within = (
            let within = lift_within p.one.probe p.within in
            let e = p.reads_are in
            omega (arith, within, e));
        cost = p.cost;
      }

  -- its walk goes on
  module _ (found : Walk) (tidy : IsTidy r found) (stands : Stands r found) (new : Course) (operations : new.operations ≡ old.operations)
      (same_place : new.position ≡ old.position) (stack : new.stack.items ≡ old.stack.items) (finished : new.finished ≡ old.finished)
      (under_way : new.walk ≡ Some found) where
    left_stays : left_of new ≡ left_of old
    left_stays = ap (λ os. drop new.position os) operations ∙ ap (λ k. drop k old.operations) same_place

    pub going_fetched : fetched_by new ≡ front ++ of_block number (fetched_in found)
    going_fetched =
        ap (λ ws. finished_from 0 ws ++ of_block (length ws) (walk_fetched new.walk)) finished
        ∙ ap (λ u. front ++ of_block number (walk_fetched u)) under_way

    pub going_course : IsCourse prepared new
    going_course = record {
      remains = subst (λ ws. RemainsInAll prepared ws (left_of new) new.stack.items) (sym finished)
          (subst (λ os. RemainsInAll prepared old.finished os new.stack.items) (sym left_stays)
          (subst (RemainsInAll prepared old.finished (left_of old)) (sym stack) is.remains));
      walk = subst (λ ws. WalkStands prepared (length ws) (left_of new) new.stack.items new.walk) (sym finished)
          (subst (λ os. WalkStands prepared number os new.stack.items new.walk) (sym (left_stays ∙ left_is))
          (subst (λ (s : List (List Row)). StandsOn (route_at prepared number (guide_at s place)) new.walk) (sym stack)
          (subst (StandsOn r) (sym under_way) (tidy, stands))));
    }

  -- its walk has ended, and it is answered
  module _ (found : Walk) (same : fetched_in found ≡ us)
      (all_made : (v : World) → IsSoundIn v r → AgreesWith v r.steps us → all_probes v r ≡ made us) (rows : List Row)
      (answered : (v : World) → IsSoundIn v r → AgreesWith v r.steps (fetched_in found) → rows ≡ block_rows v prepared number guide)
      (new : Course) (operations : new.operations ≡ old.operations) (next : new.position ≡ old.position + 1)
      (stack : new.stack.items ≡ old.stack.items ++ rows ∷ []) (finished : new.finished ≡ old.finished ++ found ∷ []) (idle : new.walk ≡ None) where
    left_further : left_of new ≡ further
    left_further = ap (λ os. drop new.position os) operations ∙ ap (λ k. drop k old.operations) next

    all_finished : finished_from 0 (old.finished ++ found ∷ []) ≡ front ++ of_block number us
    all_finished = finished_more 0 old.finished found ∙ ap (λ k. front ++ of_block k (fetched_in found)) (zero_plus number)
        ∙ ap (λ fs. front ++ of_block number fs) same
      where
        zero_plus : (m : ℕ) → 0 + m ≡ m
        zero_plus m = omega arith

    pub ended_fetched : fetched_by new ≡ fetched_by old
    ended_fetched =
        ap (λ u. finished_from 0 new.finished ++ of_block (length new.finished) (walk_fetched u)) idle
        ∙ append-nil (finished_from 0 new.finished) ∙ ap (finished_from 0) finished ∙ all_finished

    module _ (w : World) (world : IsWorld w prepared) (agree : AllAgree w prepared (front ++ of_block number us)) where
      here : AllAgree w prepared front
      here = agree_left w prepared front (of_block number us) agree

      walked : AgreesWith w r.steps us
      walked = agree_block w prepared number us (agree_right w prepared front (of_block number us) agree)

      fits : BlockFits w prepared number guide
      fits = block w world here

      own_made : block_probes w prepared number guide ≡ probed (of_block number us)
      own_made = ap (map (probe_at number)) (all_made w fits.sound walked) ∙ sym (probed_block number us)

      rows_are : rows ≡ block_rows w prepared number guide
      rows_are = answered w fits.sound (subst (AgreesWith w r.steps) (sym same) walked)

      ended_remains : Remains w prepared (old.finished ++ found ∷ []) further (old.stack.items ++ rows ∷ [])
      ended_remains = record {
        later = later w world here;
        probes = probes_are w world here
            ∙ sym (append_assoc (probed front) (block_probes w prepared number guide) (later w world here))
            ∙ ap (λ ps. (probed front ++ ps) ++ later w world here) own_made
            ∙ ap (λ ps. ps ++ later w world here) (sym (probed_more front (of_block number us)) ∙ ap probed (sym all_finished));
        runs = subst (λ k. Runs w prepared k further (old.stack.items ++ rows ∷ []) (later w world here) (query_answers w.rows prepared.guided prepared.query))
            (sym (length-append old.finished (found ∷ [])))
            (subst (λ found_rows. Runs w prepared (number + 1) further (old.stack.items ++ found_rows ∷ []) (later w world here)
            (query_answers w.rows prepared.guided prepared.query)) (sym rows_are) (run w world here).1.1.1);
      }

    pub ended_course : IsCourse prepared new
    ended_course = record {
      remains = subst (λ ws. RemainsInAll prepared ws (left_of new) new.stack.items) (sym finished)
          (subst (λ os. RemainsInAll prepared (old.finished ++ found ∷ []) os new.stack.items) (sym left_further)
          (subst (RemainsInAll prepared (old.finished ++ found ∷ []) further) (sym stack)
          (λ w world agree. ended_remains w world (subst (AllAgree w prepared) all_finished agree))));
      walk = subst (WalkStands prepared (length new.finished) (left_of new) new.stack.items) (sym idle)
          (idle_stands prepared (left_of new) (length new.finished) new.stack.items);
    }

-- ---- the end

module _ (w : World) (prepared : Prepared) (world : IsWorld w prepared) (course : Course) (is : IsCourse prepared course)
    (agree : AllAgree w prepared (fetched_by course)) (left : left_of course ≡ []) where
  abbrev front_all : List BlockFetched
  front_all = finished_from 0 course.finished

  abbrev found_rows : List Row
  found_rows = query_answers w.rows prepared.guided prepared.query

  last : Remains w prepared course.finished (left_of course) course.stack.items
  last = is.remains w world (agree_left w prepared front_all (of_block (length course.finished) (walk_fetched course.walk)) agree)

  ran : Runs w prepared (length course.finished) [] course.stack.items last.later found_rows
  ran = subst (λ os. Runs w prepared (length course.finished) os course.stack.items last.later found_rows) left last.runs

  no_walk : course.walk ≡ None
  no_walk = subst (λ os. WalkStands prepared (length course.finished) os course.stack.items course.walk) left is.walk

  all_fetched : fetched_by course ≡ front_all
  all_fetched = ap (λ u. front_all ++ of_block (length course.finished) (walk_fetched u)) no_walk ∙ append-nil front_all

  pub none_due : probes_due w prepared ≡ probed (fetched_by course)
  none_due = last.probes ∙ ap (λ ps. probed front_all ++ ps) ran.1 ∙ append-nil (probed front_all) ∙ ap probed (sym all_fetched)

  pub all_counted : reads_fetched (fetched_by course) ≡ reads_due w prepared
  all_counted = counted_as w prepared (fetched_by course) agree ∙ ap (sum_by (share_of w prepared)) (sym none_due)

  pub answers_stand : course.stack.items ≡ found_rows ∷ []
  answers_stand = ran.0
