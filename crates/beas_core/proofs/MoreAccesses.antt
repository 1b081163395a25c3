-- A derivation stays sound over constraints that agree on its steps, so with more constraints live.
use Rattle.std.proofs.Common.{◌≡◌, ◌==◌, ◌&&◌, ◌||◌, ℕ, Bool, true, false, not, cond, nat_lt, get_or, List, [], ◌∷◌, length, inl, inr, refl, ap, sym, ◌∙◌, subst}
use Rattle.std.specs.List.{list_any, All, Contains}
use Rattle.std.proofs.lemmas.Bool.{eqb-true}
use Rattle.std.proofs.lemmas.List.Elements.{All-contains, All-from_recursion}
use Rattle.beas_core.specs.declared.schema.AccessId.{AccessId}
use Rattle.beas_core.specs.declared.schema.Access.{Access}
use Rattle.beas_core.specs.declared.plan.DStep.{DStep}
use Rattle.beas_core.specs.declared.plan.Normal.{Normal}
use Rattle.beas_core.specs.declared.plan.Derivation.{Derivation}
use Rattle.beas_core.specs.Types.{ClassSet}
use Rattle.beas_core.specs.Shapes.{EachIdOnce}
use Rattle.beas_core.specs.Coverage.{with_classes, key_classes, holds_classes, holds_needed, needed_places, is_open, atoms_of}
use Rattle.beas_core.specs.Derivations.{access_in, is_live, table_of, member_classes, use_of, adds_class, bound_by, bound_after, each_step, is_on_table, key_is_bound, adds_rightly, is_served_by, IsSound}
use Rattle.beas_core.specs.Fits.{KeepsConstraints}
use Rattle.beas_core.proofs.Accesses.{access_in-first, access_in-rest, access_in-member}
use Rattle.beas_core.proofs.Sets.{Has, Has-from_contains, Contains-from_has, all_from}
use Rattle.beas_core.proofs.MemberTests.{and_left, and_right, and_both, any_has, any_by, all_has, all_by}
use Rattle.beas_core.proofs.SoundParts.{sound_parts, sound_from}
use Rattle.beas_core.proofs.UseFacts.{same_number, found_by_id}

-- a live id finds a constraint with this id
pub live_id : (accesses : List Access) (id : AccessId) → is_live accesses id ≡ true → (access_in accesses id).id ≡ id
live_id [] id h = cc
live_id (a ∷ accesses) id h = by (a.id.0 == id.0) refl h (live_id accesses id)
  where
    by : (b : Bool) → (a.id.0 == id.0) ≡ b → (b || is_live accesses id) ≡ true → (is_live accesses id ≡ true → (access_in accesses id).id ≡ id)
        → (access_in (a ∷ accesses) id).id ≡ id
    by true e l rest = let made : ℕ → AccessId = λ n. record { 0 = n } in ap (λ c. c.id) (access_in-first a accesses id e) ∙ ap made (eqb-true a.id.0 id.0 e)
    by false e l rest = ap (λ c. c.id) (access_in-rest a accesses id e) ∙ rest l

All-map-to : {A : Type 0} (P Q : A → Type 0) → ((x : A) → P x → Q x) → (xs : List A) → All P xs → All Q xs
All-map-to P Q f xs h = λ i d lt. f (get_or xs i d) (h i d lt)

module _ (normal : Normal) (few many : List Access) where
  -- both lists give these steps the same constraints
  abbrev pub Agree : List DStep → Type 0
  Agree steps = (s : DStep) → Has steps s → access_in many s.access ≡ access_in few s.access

  pub bound_agrees : (steps : List DStep) (set : ClassSet) → Agree steps → bound_after normal many set steps ≡ bound_after normal few set steps
  bound_agrees [] set same = refl
  bound_agrees (s ∷ steps) set same =
      let later = bound_agrees steps (bound_by normal many set s) (λ t m. same t (inr m)) in
      later ∙ ap (λ a. bound_after normal few (with_classes set (member_classes normal (record { atom = s.atom; access = a }))) steps) (same s (inl refl))

  each_agrees : (p q : ClassSet → DStep → Bool) (steps : List DStep) (set : ClassSet) → Agree steps
      → ((set : ClassSet) (s : DStep) → access_in many s.access ≡ access_in few s.access → q set s ≡ p set s)
      → each_step normal few p set steps ≡ true → each_step normal many q set steps ≡ true
  each_agrees p q [] set same alike h = refl
  each_agrees p q (s ∷ steps) set same alike h =
      let e = same s (inl refl) in
      let there = ap (λ a. with_classes set (member_classes normal (record { atom = s.atom; access = a }))) e in
      let here = alike set s e ∙ and_left (p set s) (each_step normal few p (bound_by normal few set s) steps) h in
      let rest = and_right (p set s) (each_step normal few p (bound_by normal few set s) steps) h in
      and_both (q set s) (each_step normal many q (bound_by normal many set s) steps) here
      (subst (λ x. each_step normal many q x steps ≡ true) (sym there) (each_agrees p q steps (bound_by normal few set s) (λ t m. same t (inr m)) alike rest))

  -- so a derivation that is sound over one list is sound over the other
  pub agreeing_sound : (start : ClassSet) (steps : List DStep) → Agree steps → All (λ s. is_live many s.access ≡ true) steps
      → IsSound normal few start steps → IsSound normal many start steps
  agreeing_sound start steps same live sound =
      let p = sound_parts normal few start steps sound.sound in
      record {
        live = live;
        sound = sound_from normal many start steps (record {
          each = record {
            tables = all_by (is_on_table normal many) steps (λ s m. on_table s (same s m) ∙ all_has (is_on_table normal few) steps s p.each.tables m);
            keys = each_agrees (key_is_bound normal few) (key_is_bound normal many) steps start same
                (λ set s e. ap (λ a. holds_classes set (key_classes normal (record { atom = s.atom; access = a }))) e) p.each.keys;
            adds = each_agrees (adds_rightly normal few) (adds_rightly normal many) steps start same
                (λ set s e. ap (λ a. cond s.adds (adds_class normal set (record { atom = s.atom; access = a }))
                (not (adds_class normal set (record { atom = s.atom; access = a })))) e) p.each.adds;
          };
          needed = subst (λ set. not (list_any (is_open normal set) (needed_places normal)) ≡ true) (sym (bound_agrees steps start same)) p.needed;
          served = all_by (is_served_by normal many steps) (atoms_of normal) (λ n m.
              let r = any_has (λ s. (s.atom == n) && holds_needed normal (use_of few s)) steps
              (all_has (is_served_by normal few steps) (atoms_of normal) n p.served m) in
              any_by (λ s. (s.atom == n) && holds_needed normal (use_of many s)) steps r.0 r.1
              (ap (λ a. (r.0.atom == n) && holds_needed normal (record { atom = r.0.atom; access = a })) (same r.0 r.1) ∙ r.2));
        });
      }
    where
      on_table : (s : DStep) → access_in many s.access ≡ access_in few s.access → is_on_table normal many s ≡ is_on_table normal few s
      on_table s e = ap (λ a. nat_lt s.atom (length normal.atoms) && ((table_of normal s.atom).0 == a.table.0)) e

module _ (few many : List Access) (once : EachIdOnce many) (within : (access : Access) → Contains few access → Contains many access) where
  still_there : (id : AccessId) → is_live few id ≡ true → Has many (access_in few id) × ((access_in few id).id ≡ id)
  still_there id h = (
    Has-from_contains many (access_in few id) (within (access_in few id) (Contains-from_has few (access_in few id) (access_in-member few id h))),
    live_id few id h,
  )

  pub same_access : (id : AccessId) → is_live few id ≡ true → access_in many id ≡ access_in few id
  same_access id h = let r = still_there id h in ap (access_in many) (sym r.1) ∙ found_by_id many once (access_in few id) r.0

  pub still_live : (id : AccessId) → is_live few id ≡ true → is_live many id ≡ true
  still_live id h =
      let r = still_there id h in
      any_by (λ a. a.id.0 == id.0) many (access_in few id) r.0 (same_number (access_in few id).id.0 id.0 (ap (λ i. i.0) r.1))

  -- a derivation stays sound with more constraints live
  pub stays_sound : (normal : Normal) (start : ClassSet) (steps : List DStep) → IsSound normal few start steps → IsSound normal many start steps
  stays_sound normal start steps sound =
      let live : (s : DStep) → Has steps s → is_live few s.access ≡ true = λ s m. All-contains (λ t. is_live few t.access ≡ true) steps s sound.live
      (Contains-from_has steps s m) in
      agreeing_sound normal few many start steps (λ s m. same_access s.access (live s m))
      (All-from_recursion (λ s. is_live many s.access ≡ true) steps
      (all_from (λ s. is_live many s.access ≡ true) steps (λ s m. still_live s.access (live s m)))) sound

  pub keeps_more : (plans : List Derivation) → All (λ plan. All (λ s. is_live few s.access ≡ true) plan.steps) plans → KeepsConstraints few many plans
  keeps_more plans live = All-map-to (λ plan. All (λ s. is_live few s.access ≡ true) plan.steps)
      (λ plan. All (λ s. (is_live many s.access ≡ true) × (access_in many s.access ≡ access_in few s.access)) plan.steps)
      (λ plan all. All-map-to (λ s. is_live few s.access ≡ true) (λ s. (is_live many s.access ≡ true) × (access_in many s.access ≡ access_in few s.access))
      (λ s h. (still_live s.access h, same_access s.access h)) plan.steps all) plans live
