-- How a cursor comes to the answer of a query, turn by turn.
use Rattle.std.proofs.Common.{◌≡◌, ◌≤◌, ◌<◌, ◌+◌, ◌-◌, ◌∙◌, ℕ, true, false, List, [], length, Option, None, Some, inl, inr, ap, sym, subst, refl, arith}
use Rattle.std.specs.Prelude.{IsTrue, is_some}
use Rattle.beas_core.specs.declared.plan.Prepared.{Prepared}
use Rattle.beas_core.specs.Fits.{Fits}
use Rattle.beas_core.specs.Full.{full_of}
use Rattle.beas_core.proofs.Sets.{Has-from_contains}
use Rattle.block_walk.specs.Worlds.{World}
use Rattle.cursor_executor.specs.Fetching.{AllAgree, Seen, probes_due, reads_due, reads_fetched}
use Rattle.beas_core.specs.Types.{Row}
use Rattle.cursor_executor.specs.declared.cursors.Turn.{Turn}
use Rattle.cursor_executor.specs.declared.cursors.Turn.TheVariants.{Probed, Done}
use Rattle.cursor_executor.specs.Turns.{QuerySpent, TurnIs}

-- what a turn did, by what it says
pub probed_by : (w : World) (turn : Turn) (old new : Seen) (s t : ℕ) → TurnIs w turn old new s t → turn ≡ Probed → TurnIs w Probed old new s t
probed_by w turn old new s t did is = subst (λ (said : Turn). TurnIs w said old new s t) is did

pub done_by : (w : World) (turn : Turn) (old new : Seen) (s t : ℕ) → TurnIs w turn old new s t → turn ≡ Done → TurnIs w Done old new s t
done_by w turn old new s t did is = subst (λ (said : Turn). TurnIs w said old new s t) is did

pub same_rows : (rows full : List Row) (answer : Option (List Row)) → Some rows ≡ answer → answer ≡ Some full → rows ≡ full
same_rows rows full answer own is = let same : Some rows ≡ Some full = own ∙ is in cc

-- so it stands between two turns. It was begun over this query where s reads were counted, and t are counted now
pub record OnTheWay (w : World) (prepared : Prepared) (cursor : Seen) (s t : ℕ) : Type 0 where
  pub is : cursor.prepared ≡ prepared
  pub agrees : AllAgree w cursor.prepared cursor.fetched
  pub reads : cursor.reads ≡ reads_fetched cursor.fetched
  pub steps : t ≡ s + cursor.reads
  pub within : cursor.reads ≤ reads_due w prepared

-- how many probes are left
abbrev pub probes_left : World → Prepared → Seen → ℕ
probes_left w prepared cursor = length (probes_due w prepared) - length cursor.fetched

abbrev pub new_cursor : Prepared → Seen
new_cursor prepared = record { prepared = prepared; fetched = []; reads = 0; failed = false; answer = None }

pub begun : (w : World) (prepared : Prepared) (cursor : Seen) (s : ℕ) → cursor ≡ new_cursor prepared → OnTheWay w prepared cursor s s
begun w prepared cursor s is = subst (λ (c : Seen). OnTheWay w prepared c s s) (sym is) (record {
  is = refl;
  agrees = λ f m. absurd (Has-from_contains [] f m);
  reads = refl;
  steps = omega arith;
  within = omega arith;
})

module _ (w : World) (prepared : Prepared) (cursor : Seen) (s t : ℕ) (way : OnTheWay w prepared cursor s t) where
  pub fits_on : Fits w.accesses w.rows prepared → Fits w.accesses w.rows cursor.prepared
  fits_on fits = subst (Fits w.accesses w.rows) (sym way.is) fits

  pub within_bound : (made reads : ℕ) → reads ≡ made → made ≤ cursor.prepared.bound → reads ≤ prepared.bound
  within_bound made reads own few =
      let bound : cursor.prepared.bound ≡ prepared.bound = ap (λ (p : Prepared). p.bound) way.is in
      omega (arith, own, few, bound)

  module _ (new : Seen) (u : ℕ) (same : new.prepared ≡ cursor.prepared) where
    -- a probe was made
    pub goes_on : TurnIs w Probed cursor new t u → OnTheWay w prepared new s u
    goes_on turn =
        let made = turn.did.made in
        let raised = turn.did.raised in
        let all = made.all_reads in
        let cost = made.cost in
        let before = way.reads in
        let counted = way.steps in
        let few = made.within in
        let due : reads_due w cursor.prepared ≡ reads_due w prepared = ap (reads_due w) way.is in
        record {
          is = same ∙ way.is;
          agrees = subst (λ (p : Prepared). AllAgree w p new.fetched) (sym same) made.agree;
          reads = omega (arith, raised, all, before);
          steps = omega (arith, raised, cost, counted);
          within = omega (arith, raised, before, few, due);
        }

    pub fewer_left : TurnIs w Probed cursor new t u → probes_left w prepared new < probes_left w prepared cursor
    fewer_left turn =
        let made = turn.did.made in
        let less = made.fewer in
        let more = made.fetches.count in
        let due : length (probes_due w cursor.prepared) ≡ length (probes_due w prepared) = ap (λ p. length (probes_due w p)) way.is in
        omega (arith, less, more, due)

    -- the answer is there
    module _ (turn : TurnIs w Done cursor new t u) where
      pub has_answer : IsTrue (is_some new.answer)
      has_answer = ap is_some turn.did.answered

      pub answer_is : new.answer ≡ Some (full_of w.rows prepared.query)
      answer_is = turn.did.answered ∙ ap (λ (p : Prepared). Some (full_of w.rows p.query)) way.is

      pub reads_are : new.reads ≡ reads_due w prepared
      reads_are = turn.did.reads_are ∙ ap (reads_due w) way.is

      pub all_counted : u ≡ s + reads_due w prepared
      all_counted =
          let cost = turn.did.cost in
          let stay = turn.did.stay in
          let counted = way.steps in
          let due = reads_are in
          omega (arith, cost, stay, counted, due)

      pub at_most_counted : u ≤ s + reads_due w prepared
      at_most_counted = let all = all_counted in omega (arith, all)

      pub no_fewer_counted : s ≤ u
      no_fewer_counted = let all = all_counted in omega (arith, all)

  -- out of memory
  module _ (u : ℕ) where
    pub spent_within : QuerySpent w cursor.prepared cursor.fetched t u → u ≤ s + reads_due w prepared
    spent_within (inl same_steps) =
        let counted = way.steps in
        let few = way.within in
        omega (arith, same_steps, counted, few)
    spent_within (inr spent) =
        let counted = way.steps in
        let few = spent.within in
        let cost = spent.cost in
        let before = way.reads in
        let due : reads_due w cursor.prepared ≡ reads_due w prepared = ap (reads_due w) way.is in
        omega (arith, counted, few, cost, before, due)

    pub spent_more : QuerySpent w cursor.prepared cursor.fetched t u → s ≤ u
    spent_more (inl same_steps) = let counted = way.steps in omega (arith, same_steps, counted)
    spent_more (inr spent) =
        let counted = way.steps in
        let cost = spent.cost in
        omega (arith, counted, cost)
