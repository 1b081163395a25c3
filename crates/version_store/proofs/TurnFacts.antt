-- What a turn of its cursor makes of an open query.
use Rattle.std.proofs.Common.{◌≡◌, ◌+◌, ◌∙◌, ℕ, Bool, true, false, List, length, map, Some, None, Result, Ok, Err, inl, inr, refl, ap, sym, subst, arith}
use Rattle.std.specs.Prelude.{if◌then◌else◌, Contains, IfOk, IsErr, OnErr, OnOk}
use Rattle.std.proofs.lemmas.List.{length-map}
use Rattle.beas_core.specs.declared.errors.NoMemory.{NoMemory}
use Rattle.beas_core.specs.declared.plan.Prepared.{Prepared}
use Rattle.beas_core.specs.Fits.{Fits}
use Rattle.beas_core.specs.Full.{full_of}
use Rattle.beas_core.proofs.Sets.{Contains-from_has, Has-from_contains, Has-from_map, Has-map}
use Rattle.block_walk.specs.Turns.{Fetches}
use Rattle.block_walk.specs.Worlds.{World}
use Rattle.cursor_executor.specs.declared.cursors.Turn.{Turn}
use Rattle.cursor_executor.specs.declared.cursors.Turn.TheVariants.{Probed, Done}
use Rattle.cursor_executor.specs.Fetching.{AllAgree, BlockFetched, Seen, probe_of, probes_due, reads_due}
use Rattle.cursor_executor.specs.Turns.{TurnIs}
use Rattle.desk_model.specs.OpenQueries.{OpenQuery}
use Rattle.version_store.specs.Held.{IsKept, held}
use Rattle.version_store.specs.Turns.{Goes}
use Rattle.version_store.proofs.WorldFacts.{answer_is, probes_are, reads_are, share_is}

-- what is fetched for one pair more is probed for one probe more
contains-map : {A B : Type 0} (f : A → B) (xs : List A) (x : A) → Contains xs x → Contains (map f xs) (f x)
contains-map f xs x m = Contains-from_has (map f xs) (f x) (Has-map f xs x (Has-from_contains xs x m))

fetches_map : {A B : Type 0} (f : A → B) (one : A) (old new : List A) → Fetches A one old new → Fetches B (f one) (map f old) (map f new)
fetches_map f one old new h = record {
  stands = contains-map f new one h.stands;
  others = λ b m.
      let found = Has-from_map f new b (Has-from_contains (map f new) b m) in
      elim (h.others found.0 (Contains-from_has new found.0 found.1)) [
        | inl same ↦ inl (found.2 ∙ ap f same)
        | inr before ↦ inr (subst (Contains (map f old)) (sym found.2) (contains-map f old found.0 before))
      ];
  stay = λ b m.
      let found = Has-from_map f old b (Has-from_contains (map f old) b m) in
      subst (Contains (map f new)) (sym found.2) (contains-map f new found.0 (h.stay found.0 (Contains-from_has old found.0 found.1)));
  count = length-map new f ∙ h.count ∙ ap (λ n. n + 1) (sym (length-map old f));
}

module _ (w : World) (old new : Seen) (kept : IsKept w old) (prepared : new.prepared ≡ old.prepared) where
  fits_still : Fits w.accesses w.rows new.prepared
  fits_still = subst (Fits w.accesses w.rows) (sym prepared) kept.fits

  -- what failed is kept whatever it fetched
  pub kept_failed : new.failed ≡ true → IsKept w new
  kept_failed failed = record {
    fits = fits_still;
    agrees = λ going. absurd (let no : true ≡ false = sym failed ∙ going in cc);
    asked = λ going. absurd (let no : true ≡ false = sym failed ∙ going in cc);
  }

  kept_with : AllAgree w old.prepared new.fetched
      → ((f : BlockFetched) → Contains new.fetched f → Contains (probes_due w old.prepared) (probe_of f)) → IsKept w new
  kept_with agree asked = record {
    fits = fits_still;
    agrees = λ going. subst (λ (p : Prepared). AllAgree w p new.fetched) (sym prepared) agree;
    asked = λ going f m. subst (λ (p : Prepared). Contains (probes_due w p) (probe_of f)) (sym prepared) (asked f m);
  }

  kept_turn : (turn : Turn) (s t : ℕ) → old.failed ≡ false → TurnIs w turn old new s t → IsKept w new
  kept_turn Probed s t going h =
      let made = h.did.made in
      kept_with made.agree (λ f m. elim (made.fetches.others f m) [
        | inl one ↦ subst (λ (x : BlockFetched). Contains (probes_due w old.prepared) (probe_of x)) (sym one) made.due.wanted
        | inr before ↦ kept.asked going f before
      ])
  kept_turn Done s t going h =
      kept_with (subst (AllAgree w old.prepared) (sym h.did.same) (kept.agrees going))
      (λ f m. kept.asked going f (subst (λ fs. Contains fs f) h.did.same m))

  pub kept_after : (r : Result Turn NoMemory) (s t : ℕ) → IfOk r (λ turn. old.failed ≡ false)
      → IfOk r (λ turn. TurnIs w turn old new s t) → OnErr r (new.failed ≡ true) → IsKept w new
  kept_after (Ok turn) s t going h failed = kept_turn turn s t going h
  kept_after (Err e) s t going h failed = kept_failed failed

  -- ---- what becomes of the open query
  module _ (session : ℕ) (plan : List ℕ) where
    abbrev q : OpenQuery
    q = held w session old plan

    pub sees_still : held w session new plan ≡ record q { made = (held w session new plan).made }
    sees_still = ap (λ (p : Prepared). held w session (record new { prepared = p }) plan) prepared

    goes_turn : (turn : Turn) (s t : ℕ) → old.failed ≡ false → TurnIs w turn old new s t → Goes turn q old new (held w session new plan) s t
    goes_turn Probed s t going h =
        let made = h.did.made in
        let probe = probe_of made.one in
        let share = made.reads_are ∙ sym (share_is w old kept session plan probe made.due.wanted) in
        let fewer = made.fewer in
        let count = ap length (probes_are w old kept session plan) in
        let one : (held w session new plan).made ≡ Some (length old.fetched + 1) =
        ap (λ b. if b then None else Some (length new.fetched)) h.going ∙ ap (λ n. Some n) made.fetches.count in
        record {
          made = length old.fetched;
          was = ap (λ b. if b then None else Some (length old.fetched)) going;
          due = omega (arith, fewer, count);
          probe = probe;
          wanted = subst (λ ps. Contains ps probe) (sym (probes_are w old kept session plan)) made.due.wanted;
          not_made = made.due.not_made;
          makes = fetches_map probe_of made.one old.fetched new.fetched made.fetches;
          is = sees_still ∙ ap (λ m. let r : OpenQuery = record q { made = m } in r) one;
          reads = h.did.raised ∙ ap (λ n. old.reads + n) share;
          steps = made.cost ∙ ap (λ n. s + n) share;
        }
    goes_turn Done s t going h =
        let whole : length (probes_due w old.prepared) ≡ length old.fetched = ap length h.did.none_due ∙ length-map old.fetched probe_of in
        let count = ap length (probes_are w old kept session plan) in
        let one : (held w session new plan).made ≡ q.made =
        ap (λ b. if b then None else Some (length new.fetched)) (h.going ∙ sym going)
        ∙ ap (λ fs. if old.failed then None else Some (length fs)) h.did.same in
        record {
          made = length old.fetched;
          was = ap (λ b. if b then None else Some (length old.fetched)) going;
          none_due = omega (arith, whole, count);
          is = sees_still ∙ ap (λ m. let r : OpenQuery = record q { made = m } in r) one;
          answer = h.did.answered ∙ ap (λ rows. Some rows) (sym (answer_is w old kept session plan));
          reads = h.did.reads_are ∙ sym (reads_are w old kept session plan);
          same = h.did.stay;
          steps = h.did.cost;
        }

    pub goes_after : (r : Result Turn NoMemory) (s t : ℕ) → IfOk r (λ turn. old.failed ≡ false) → IfOk r (λ turn. TurnIs w turn old new s t)
        → IfOk r (λ turn. Goes turn q old new (held w session new plan) s t)
    goes_after (Ok turn) s t going h = goes_turn turn s t going h
    goes_after (Err e) s t going h = tt

    pub lost_after : {T : Type 0} (r : Result T NoMemory) → OnErr r (new.failed ≡ true) → OnErr r (held w session new plan ≡ record q { made = None })
    lost_after (Ok done) failed = tt
    lost_after (Err e) failed =
        sees_still ∙ ap (λ m. let r : OpenQuery = record q { made = m } in r) (ap (λ b. if b then None else Some (length new.fetched)) failed)

-- a turn that went well began with a cursor that hadn't failed
pub was_going : (r : Result Turn NoMemory) (failed : Bool) → (failed ≡ true → IsErr r) → IfOk r (λ turn. failed ≡ false)
was_going (Ok turn) true h = let e = h refl in cc
was_going (Ok turn) false h = refl
was_going (Err e) failed h = tt
