-- What is bounded after each front of a list of steps: the valuations by `last_size`, the reads by `announced_from`.
--     Ready            what is known before further steps are taken
--     sizes            the valuations after steps
--     reads_room       the reads of a front, and what the next step may read, are within the announced number
use Rattle.std.proofs.Common.{◌≡◌, ◌==◌, ◌≤◌, ◌+◌, ◌*◌, ℕ, Bool, true, nat_lt, List, [], ◌∷◌, ◌++◌, length, inl, inr, refl, ap, sym, ◌∙◌, subst, arith}
use Rattle.std.specs.List.{list_all}
use Rattle.std.specs.Option.{is_some}
use Rattle.std.proofs.lemmas.List.{append_assoc}
use Rattle.std.proofs.Math.Nat.{mul-le-mul_left}
use Rattle.std.proofs.lemmas.Bool.{eqb-true}
use Rattle.beas_core.specs.declared.schema.TableId.{TableId}
use Rattle.beas_core.specs.declared.schema.Access.{Access}
use Rattle.beas_core.specs.declared.plan.DStep.{DStep}
use Rattle.beas_core.specs.declared.plan.Normal.{Normal}
use Rattle.beas_core.specs.Types.{TableRows, Guide, ClassSet, Bindings}
use Rattle.beas_core.specs.Groups.{Holds}
use Rattle.beas_core.specs.Coverage.{start_classes, ClassesInRange, ConstantsInRange}
use Rattle.beas_core.specs.Derivations.{access_in, table_of, member_classes, use_of, bound_by, bound_after, each_step, is_on_table, key_is_bound, adds_rightly, steps_are_sound}
use Rattle.beas_core.specs.Fits.{StepsHold}
use Rattle.beas_core.specs.Reads.{reads_of}
use Rattle.beas_core.specs.Numbers.{size_after, announced_from, last_size}
use Rattle.beas_core.specs.Valuations.{with_row_for, ways, starts, valued_rows, valuations}
use Rattle.beas_core.proofs.Sets.{Has, Has-append_left, Has-append_right, Has-from_contains, Contains-from_has}
use Rattle.beas_core.specs.Extensions.{extensions, keep_met}
use Rattle.beas_core.specs.Fronts.{FrontsAreBounded, FrontsExtend}
use Rattle.beas_core.specs.StepReads.{reads_at, reads_from}
use Rattle.beas_core.specs.Guides.{GuideFits, BlockStart, StartFits}
use Rattle.beas_core.proofs.MemberTests.{and_left, and_right, and_both, all_has, all_by}
use Rattle.beas_core.proofs.ClassSetFacts.{length-with}
use Rattle.beas_core.proofs.BindingFacts.{Binds}
use Rattle.beas_core.proofs.SoundDerivations.{bound-append}
use Rattle.beas_core.proofs.SoundParts.{step_parts, steps_from}
use Rattle.beas_core.proofs.StartFacts.{start_counted, start_binds, start_few}
use Rattle.beas_core.proofs.StepExtends.{binds_more, step_is}
use Rattle.beas_core.proofs.StepSizes.{step_count, step_reads_count}
use Rattle.beas_core.proofs.ReadFacts.{reads_by_step}

pub table_from_test : (normal : Normal) (accesses : List Access) (s : DStep) → is_on_table normal accesses s ≡ true
    → table_of normal s.atom ≡ (access_in accesses s.access).table
table_from_test normal accesses s h =
    let e = eqb-true (table_of normal s.atom).0 (access_in accesses s.access).table.0
    (and_right (nat_lt s.atom (length normal.atoms)) ((table_of normal s.atom).0 == (access_in accesses s.access).table.0) h) in
    let made : ℕ → TableId = λ n. record { 0 = n } in
    ap made e

module _ (rows : TableRows) (normal : Normal) (accesses : List Access) where
  pub ways-append : (xs ys : List DStep) (found : List Bindings) → ways rows normal accesses found (xs ++ ys) ≡ ways rows normal accesses
      (ways rows normal accesses found xs) ys
  ways-append [] ys found = refl
  ways-append (x ∷ xs) ys found = ways-append xs ys (with_row_for rows normal accesses found x)

  -- what is known before further steps are taken
  pub record Ready (steps : List DStep) (set : ClassSet) (found : List Bindings) : Type 0 where
    pub counted : length set ≡ normal.count
    pub binds : (w : Bindings) → Has found w → Binds set w
    pub tables : list_all (is_on_table normal accesses) steps ≡ true
    pub keys : each_step normal accesses (key_is_bound normal accesses) set steps ≡ true

  -- and that each step's constraint holds
  pub record AreHeld (steps : List DStep) (set : ClassSet) : Type 0 where
    pub adds : each_step normal accesses (adds_rightly normal accesses) set steps ≡ true
    pub holds : (s : DStep) → Has steps s → Holds (rows (access_in accesses s.access).table) (access_in accesses s.access)
    pub bounds : (s : DStep) → Has steps s → 1 ≤ (access_in accesses s.access).bound

  pub head_keyed : (s : DStep) (steps : List DStep) (set : ClassSet) (found : List Bindings) → Ready (s ∷ steps) set found
      → key_is_bound normal accesses set s ≡ true
  head_keyed s steps set found r = and_left (key_is_bound normal accesses set s)
      (each_step normal accesses (key_is_bound normal accesses) (bound_by normal accesses set s) steps) r.keys

  pub head_table : (s : DStep) (steps : List DStep) (set : ClassSet) (found : List Bindings) → Ready (s ∷ steps) set found
      → table_of normal s.atom ≡ (access_in accesses s.access).table
  head_table s steps set found r = table_from_test normal accesses s
      (and_left (is_on_table normal accesses s) (list_all (is_on_table normal accesses) steps) r.tables)

  module _ (ranges : ClassesInRange normal) where
    next : (s : DStep) (steps : List DStep) (set : ClassSet) (found : List Bindings) → Ready (s ∷ steps) set found
        → Ready steps (bound_by normal accesses set s) (with_row_for rows normal accesses found s)
    next s steps set found r = record {
      counted = length-with (member_classes normal (use_of accesses s)) set ∙ r.counted;
      binds = binds_more rows normal accesses s set r.counted ranges found r.binds (head_table s steps set found r);
      tables = and_right (is_on_table normal accesses s) (list_all (is_on_table normal accesses) steps) r.tables;
      keys = and_right (key_is_bound normal accesses set s) (each_step normal accesses (key_is_bound normal accesses) (bound_by normal accesses set s) steps)
          r.keys;
    }

    -- what is known still after some of the steps
    pub ready_after : (done later : List DStep) (set : ClassSet) (found : List Bindings) → Ready (done ++ later) set found
        → Ready later (bound_after normal accesses set done) (ways rows normal accesses found done)
    ready_after [] later set found r = r
    ready_after (s ∷ done) later set found r = ready_after done later (bound_by normal accesses set s) (with_row_for rows normal accesses found s)
        (next s (done ++ later) set found r)

    held_later : (s : DStep) (steps : List DStep) (set : ClassSet) → AreHeld (s ∷ steps) set → AreHeld steps (bound_by normal accesses set s)
    held_later s steps set h = record {
      adds = and_right (adds_rightly normal accesses set s) (each_step normal accesses (adds_rightly normal accesses) (bound_by normal accesses set s) steps)
          h.adds;
      holds = λ t m. h.holds t (inr m);
      bounds = λ t m. h.bounds t (inr m);
    }

    -- the valuations after some of the steps
    pub sizes : (done later : List DStep) (b : ℕ) (set : ClassSet) (found : List Bindings) → Ready (done ++ later) set found → AreHeld (done ++ later) set
        → length (valued_rows normal set found) ≤ b
        → length (valued_rows normal (bound_after normal accesses set done) (ways rows normal accesses found done)) ≤ last_size accesses b done
    sizes [] later b set found r h few = few
    sizes (s ∷ done) later b set found r h few =
        let rightly = and_left (adds_rightly normal accesses set s) (each_step normal accesses (adds_rightly normal accesses) (bound_by normal accesses set s)
        (done ++ later)) h.adds in
        sizes done later (size_after accesses b s) (bound_by normal accesses set s) (with_row_for rows normal accesses found s)
        (next s (done ++ later) set found r) (held_later s (done ++ later) set h)
        (step_count rows normal accesses s set r.counted ranges found r.binds (head_table s (done ++ later) set found r)
        (head_keyed s (done ++ later) set found r) b (h.holds s (inl refl)) rightly few)

-- the announced number of a front and of what comes after it
pub announced-append : (accesses : List Access) (xs ys : List DStep) (b : ℕ) → announced_from accesses b (xs ++ ys)
    ≡ announced_from accesses b xs + announced_from accesses
    (last_size accesses b xs) ys
announced-append accesses [] ys b = omega arith
announced-append accesses (x ∷ xs) ys b = let e = announced-append accesses xs ys (size_after accesses b x) in omega (arith, e)

pub last_size-append : (accesses : List Access) (xs ys : List DStep) (b : ℕ) → last_size accesses b (xs ++ ys) ≡ last_size accesses (last_size accesses b xs) ys
last_size-append accesses [] ys b = refl
last_size-append accesses (x ∷ xs) ys b = last_size-append accesses xs ys (size_after accesses b x)

-- fronts pass what steps are asked one by one
module _ (normal : Normal) (accesses : List Access) where
  each_front : (p : ClassSet → DStep → Bool) (xs ys : List DStep) (set : ClassSet) → each_step normal accesses p set (xs ++ ys) ≡ true
      → each_step normal accesses p set xs ≡ true
  each_front p [] ys set h = refl
  each_front p (x ∷ xs) ys set h =
      and_both (p set x) (each_step normal accesses p (bound_by normal accesses set x) xs)
      (and_left (p set x) (each_step normal accesses p (bound_by normal accesses set x) (xs ++ ys)) h)
      (each_front p xs ys (bound_by normal accesses set x) (and_right (p set x) (each_step normal accesses p (bound_by normal accesses set x) (xs ++ ys)) h))

  each_at : (p : ClassSet → DStep → Bool) (done later : List DStep) (s : DStep) (set : ClassSet) → each_step normal accesses p set (done ++ s ∷ later) ≡ true
      → p (bound_after normal accesses set done) s ≡ true
  each_at p [] later s set h = and_left (p set s) (each_step normal accesses p (bound_by normal accesses set s) later) h
  each_at p (x ∷ done) later s set h =
      each_at p done later s (bound_by normal accesses set x)
      (and_right (p set x) (each_step normal accesses p (bound_by normal accesses set x) (done ++ s ∷ later)) h)

  pub front_sound : (start : ClassSet) (xs ys : List DStep) → steps_are_sound normal accesses start (xs ++ ys) ≡ true
      → steps_are_sound normal accesses start xs ≡ true
  front_sound start xs ys h =
      let p = step_parts normal accesses start (xs ++ ys) h in
      steps_from normal accesses start xs (record {
        tables = all_by (is_on_table normal accesses) xs (λ s m. all_has (is_on_table normal accesses) (xs ++ ys) s p.tables (Has-append_left xs ys s m));
        keys = each_front (key_is_bound normal accesses) xs ys start p.keys;
        adds = each_front (adds_rightly normal accesses) xs ys start p.adds;
      })

  -- what is known of the step after a front
  pub record NextStep (start : ClassSet) (done : List DStep) (s : DStep) : Type 0 where
    pub on_table : is_on_table normal accesses s ≡ true
    pub table : table_of normal s.atom ≡ (access_in accesses s.access).table
    pub key : key_is_bound normal accesses (bound_after normal accesses start done) s ≡ true
    pub adds : adds_rightly normal accesses (bound_after normal accesses start done) s ≡ true

  pub next_step : (start : ClassSet) (done later : List DStep) (s : DStep) → steps_are_sound normal accesses start (done ++ s ∷ later) ≡ true
      → NextStep start done s
  next_step start done later s h =
      let p = step_parts normal accesses start (done ++ s ∷ later) h in
      let here = all_has (is_on_table normal accesses) (done ++ s ∷ later) s p.tables (Has-append_right done (s ∷ later) s (inl refl)) in
      record {
        on_table = here;
        table = table_from_test normal accesses s here;
        key = each_at (key_is_bound normal accesses) done later s start p.keys;
        adds = each_at (adds_rightly normal accesses) done later s start p.adds;
      }

module _ (rows : TableRows) (normal : Normal) (accesses : List Access) (guide : Guide) (ranges : ClassesInRange normal) (inside : ConstantsInRange normal)
    (fit : GuideFits normal guide) where
  abbrev start : ClassSet
  start = start_classes normal (is_some guide)

  abbrev before_all : List Bindings
  before_all = starts normal guide

  ready : (steps : List DStep) → steps_are_sound normal accesses start steps ≡ true → Ready rows normal accesses steps start before_all
  ready steps h =
      let p = step_parts normal accesses start steps h in
      record { counted = start_counted normal (is_some guide); binds = start_binds normal ranges inside guide fit; tables = p.tables; keys = p.keys }

  -- the classes after a front are as many as the normal form counts, and each way binds them
  pub front_counted : (done later : List DStep) → steps_are_sound normal accesses (start_classes normal (is_some guide)) (done ++ later) ≡ true
      → length (bound_after normal accesses (start_classes normal (is_some guide)) done) ≡ normal.count
  front_counted done later h = (ready_after rows normal accesses ranges done later start before_all (ready (done ++ later) h)).counted

  pub front_binds : (done later : List DStep) → steps_are_sound normal accesses (start_classes normal (is_some guide)) (done ++ later) ≡ true
      → (w : Bindings) → Has (ways rows normal accesses (starts normal guide) done) w
      → Binds (bound_after normal accesses (start_classes normal (is_some guide)) done) w
  front_binds done later h = (ready_after rows normal accesses ranges done later start before_all (ready (done ++ later) h)).binds

  -- the valuations after one step more
  pub next_valuations : (done later : List DStep) (s : DStep) → steps_are_sound normal accesses (start_classes normal (is_some guide))
      (done ++ s ∷ later) ≡ true
      → valuations rows normal accesses guide (done ++ s ∷ [])
      ≡ keep_met normal (bound_by normal accesses (bound_after normal accesses (start_classes normal (is_some guide)) done) s)
      (extensions rows normal accesses s (bound_after normal accesses (start_classes normal (is_some guide)) done) (valuations rows normal accesses guide done))
  unfolding valuations
  next_valuations done later s h =
      let n = next_step normal accesses start done later s h in
      ap (λ set. valued_rows normal set (ways rows normal accesses before_all (done ++ s ∷ []))) (bound-append normal accesses done (s ∷ []) start)
      ∙ ap (valued_rows normal (bound_by normal accesses (bound_after normal accesses start done) s))
      (ways-append rows normal accesses done (s ∷ []) before_all)
      ∙ step_is rows normal accesses s (bound_after normal accesses start done) (front_counted done (s ∷ later) h) ranges
      (ways rows normal accesses before_all done) (front_binds done (s ∷ later) h) n.table n.key

  module _ (b : ℕ) (few : length (starts normal guide) ≤ b) where
    held : (steps : List DStep) → steps_are_sound normal accesses start steps ≡ true → StepsHold rows accesses steps → AreHeld rows normal accesses steps start
    held steps h hold =
        let p = step_parts normal accesses start steps h in
        record { adds = p.adds; holds = λ s m. (hold s (Contains-from_has steps s m)).0; bounds = λ s m. (hold s (Contains-from_has steps s m)).1 }

    pub valuations_few : (done later : List DStep) → steps_are_sound normal accesses (start_classes normal (is_some guide)) (done ++ later) ≡ true
        → StepsHold rows accesses (done ++ later)
        → length (valuations rows normal accesses guide done) ≤ last_size accesses b done
    unfolding valuations
    valuations_few done later h hold =
        let s = start_few normal start before_all in
        sizes rows normal accesses ranges done later b start before_all (ready (done ++ later) h) (held (done ++ later) h hold) (omega arith)

    -- what one step may read after those that are done
    pub next_reads_few : (done later : List DStep) (s : DStep) → StepsHold rows accesses (done ++ s ∷ later)
        → reads_at rows normal accesses guide done s ≤ length (valuations rows normal accesses guide done) * (access_in accesses s.access).bound
    next_reads_few done later s hold =
        let h = hold s (Contains-from_has (done ++ s ∷ later) s (Has-append_right done (s ∷ later) s (inl refl))) in
        step_reads_count rows normal accesses s (bound_after normal accesses start done) (valuations rows normal accesses guide done) h.0 h.1

    reads_within : (later done : List DStep) → steps_are_sound normal accesses start (done ++ later) ≡ true → StepsHold rows accesses (done ++ later)
        → reads_from rows normal accesses guide done later ≤ announced_from accesses (last_size accesses b done) later
    reads_within [] done h hold = omega arith
    reads_within (s ∷ later) done h hold =
        let same = append_assoc done (s ∷ []) later in
        let rest = reads_within later (done ++ s ∷ []) (subst (λ all. steps_are_sound normal accesses start all ≡ true) (sym same) h)
        (subst (StepsHold rows accesses) (sym same) hold) in
        let size = last_size-append accesses done (s ∷ []) b in
        let here = next_reads_few done later s hold in
        let product = mul-le-mul_left (access_in accesses s.access).bound (valuations_few done (s ∷ later) h hold) in
        let later_size = ap (λ n. announced_from accesses n later) size in
        omega (arith, rest, later_size, here, product)

    pub reads_few : (steps : List DStep) → steps_are_sound normal accesses (start_classes normal (is_some guide)) steps ≡ true → StepsHold rows accesses steps
        → reads_of rows normal accesses guide steps ≤ announced_from accesses b steps
    reads_few steps h hold =
        let e = reads_by_step rows normal accesses guide steps in
        let l = reads_within steps [] h hold in
        omega (arith, e, l)

    -- the reads so far, and what the next step may read, are within the announced number
    pub reads_room : (done later : List DStep) (s : DStep) → steps_are_sound normal accesses (start_classes normal (is_some guide)) (done ++ s ∷ later) ≡ true
        → StepsHold rows accesses (done ++ s ∷ later)
        → reads_of rows normal accesses guide done + length (valuations rows normal accesses guide done) * (access_in accesses s.access).bound ≤ announced_from
        accesses b (done ++ s ∷ later)
    reads_room done later s h hold =
        let front = reads_few done (front_sound normal accesses start done (s ∷ later) h)
        (λ t m. hold t (Contains-from_has (done ++ s ∷ later) t (Has-append_left done (s ∷ later) t (Has-from_contains done t m)))) in
        let product = mul-le-mul_left (access_in accesses s.access).bound (valuations_few done (s ∷ later) h hold) in
        let whole = announced-append accesses done (s ∷ later) b in
        omega (arith, front, product, whole)

module _ (rows : TableRows) (normal : Normal) (accesses : List Access) (ranges : ClassesInRange normal) (inside : ConstantsInRange normal)
    (steps : List DStep) where
  pub fronts_bounded : StepsHold rows accesses steps → (start : BlockStart) → StartFits normal start
      → steps_are_sound normal accesses (start_classes normal (is_some start.guide)) steps ≡ true
      → FrontsAreBounded rows normal accesses start steps
  fronts_bounded hold from fit sound =
      let start = start_classes normal (is_some from.guide) in
      record {
        valuations_are = λ done later e. valuations_few rows normal accesses from.guide ranges inside fit.guide from.size fit.size done later
            (subst (λ all. steps_are_sound normal accesses start all ≡ true) e sound) (subst (StepsHold rows accesses) e hold);
        room = λ done later next e.
            subst (λ all. reads_of rows normal accesses from.guide done + length
            (valuations rows normal accesses from.guide done) * (access_in accesses next.access).bound ≤ announced_from accesses from.size all) (sym e)
            (reads_room rows normal accesses from.guide ranges inside fit.guide from.size fit.size done later next
            (subst (λ all. steps_are_sound normal accesses start all ≡ true) e sound) (subst (StepsHold rows accesses) e hold));
        reads_are = reads_few rows normal accesses from.guide ranges inside fit.guide from.size fit.size steps sound hold;
      }

  pub fronts_extend : (guide : Guide) → GuideFits normal guide → steps_are_sound normal accesses (start_classes normal (is_some guide)) steps ≡ true
      → FrontsExtend rows normal accesses guide steps
  fronts_extend guide fit sound = record {
    step = λ done later next e. next_valuations rows normal accesses guide ranges inside fit done later next
        (subst (λ all. steps_are_sound normal accesses (start_classes normal (is_some guide)) all ≡ true) e sound);
  }
