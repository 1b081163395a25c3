use Rattle.std.proofs.Common.{[], refl}
use Rattle.std.specs.Option.{is_some}
use Rattle.std.specs.List.{flat_map}
use Rattle.beas_core.specs.Coverage.{start_classes}
use Rattle.beas_core.specs.Valuations.{valuations}
use Rattle.beas_core.specs.Reads.{probes}
use Rattle.beas_core.proofs.Sets.{Has-from_contains, Contains-from_has}
use Rattle.beas_core.proofs.FrontBounds.{fronts_extend}
use Rattle.block_walk.specs.Descents.{reached, wanted}
use Rattle.block_walk.proofs.DescentFacts.{reached_there, reached_back, wanted_there, wanted_back}
use Rattle.block_walk.proofs.laws.law_walk.Goals as goal

pub returns : goal.returns
returns g c = λ guide fit sound.
    let rows = g.P.AccessPort.rows c.args.port.now in
    let accesses = g.P.AccessPort.accesses c.args.port.now in
    let normal = c.args.normal.now in
    let steps = c.args.steps.now in
    let extend = fronts_extend rows normal accesses c.requires.classes c.requires.constants steps guide fit sound in
    let start = valuations rows normal accesses guide [] in
    let set = start_classes normal (is_some guide) in (
      λ y. (
        λ h. Contains-from_has (flat_map (reached rows normal accesses steps set) start) y
            (reached_there rows normal accesses guide steps extend steps [] refl y (Has-from_contains (valuations rows normal accesses guide steps) y h)),
        λ h. Contains-from_has (valuations rows normal accesses guide steps) y
            (reached_back rows normal accesses guide steps extend steps [] refl y
            (Has-from_contains (flat_map (reached rows normal accesses steps set) start) y h)),
      ),
      λ p. (
        λ h. Contains-from_has (flat_map (wanted rows normal accesses 0 steps set) start) p
            (wanted_there rows normal accesses guide steps extend steps [] refl p (Has-from_contains (probes rows normal accesses guide steps) p h)),
        λ h. Contains-from_has (probes rows normal accesses guide steps) p
            (wanted_back rows normal accesses guide steps extend steps [] refl p
            (Has-from_contains (flat_map (wanted rows normal accesses 0 steps set) start) p h)),
      ),
    )
