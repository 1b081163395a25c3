use Rattle.std.proofs.Common.{take, map}
use Rattle.name_resolution.specs.Meanings.{condition}
use Rattle.name_resolution.specs.Scopes.{told_by}
use Rattle.binder.specs.AtOnce.{AddsSound}
use Rattle.binder.proofs.at_once.add_all_if_sound.Given as goal

abbrev pub invariant-loop-cond : goal.invariant-loop-cond
invariant-loop-cond l = AddsSound l.limit l.initial.block l.block (map (condition (told_by l.names)) (take l.cond-index l.conditions))
