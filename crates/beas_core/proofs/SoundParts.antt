-- The parts of the tests that make a list of steps sound.
use Rattle.std.proofs.Common.{◌≡◌, ◌&&◌, Bool, true, not, List}
use Rattle.std.specs.List.{list_any, list_all}
use Rattle.beas_core.specs.declared.schema.Access.{Access}
use Rattle.beas_core.specs.declared.plan.DStep.{DStep}
use Rattle.beas_core.specs.declared.plan.Normal.{Normal}
use Rattle.beas_core.specs.Types.{ClassSet}
use Rattle.beas_core.specs.Coverage.{needed_places, is_open, atoms_of}
use Rattle.beas_core.specs.Derivations.{bound_after, each_step, is_on_table, key_is_bound, adds_rightly, is_served_by, steps_are_sound, is_sound}
use Rattle.beas_core.proofs.MemberTests.{and_left, and_right, and_both}

module _ (normal : Normal) (accesses : List Access) (start : ClassSet) (steps : List DStep) where
  -- what fronts of the steps have too
  pub record StepParts : Type 0 where
    pub tables : list_all (is_on_table normal accesses) steps ≡ true
    pub keys : each_step normal accesses (key_is_bound normal accesses) start steps ≡ true
    pub adds : each_step normal accesses (adds_rightly normal accesses) start steps ≡ true

  pub record SoundParts : Type 0 where
    pub each : StepParts
    pub needed : not (list_any (is_open normal (bound_after normal accesses start steps)) (needed_places normal)) ≡ true
    pub served : list_all (is_served_by normal accesses steps) (atoms_of normal) ≡ true

  abbrev tables : Bool
  tables = list_all (is_on_table normal accesses) steps

  abbrev keys : Bool
  keys = each_step normal accesses (key_is_bound normal accesses) start steps

  abbrev adds : Bool
  adds = each_step normal accesses (adds_rightly normal accesses) start steps

  abbrev needed : Bool
  needed = not (list_any (is_open normal (bound_after normal accesses start steps)) (needed_places normal))

  abbrev served : Bool
  served = list_all (is_served_by normal accesses steps) (atoms_of normal)

  pub step_parts : steps_are_sound normal accesses start steps ≡ true → StepParts
  step_parts h =
      let two = and_left (tables && keys) adds h in
      record { tables = and_left tables keys two; keys = and_right tables keys two; adds = and_right (tables && keys) adds h }

  pub sound_parts : is_sound normal accesses start steps ≡ true → SoundParts
  sound_parts h =
      let three = tables && keys && adds in
      let four = and_left (three && needed) served h in
      record { each = step_parts (and_left three needed four); needed = and_right three needed four; served = and_right (three && needed) served h }

  pub steps_from : StepParts → steps_are_sound normal accesses start steps ≡ true
  steps_from p = and_both (tables && keys) adds (and_both tables keys p.tables p.keys) p.adds

  pub sound_from : SoundParts → is_sound normal accesses start steps ≡ true
  sound_from p = and_both (tables && keys && adds && needed) served (and_both (tables && keys && adds) needed (steps_from p.each) p.needed) p.served
