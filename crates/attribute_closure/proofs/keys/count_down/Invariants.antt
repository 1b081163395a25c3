use Rattle.std.proofs.Common.{take}
use Rattle.attribute_closure.specs.Keys.{CountedDown}
use Rattle.attribute_closure.proofs.keys.count_down.Given as goal

abbrev pub invariant-loop-number : goal.invariant-loop-number
invariant-loop-number l = CountedDown (take l.number-index l.numbers) l.initial.missing l.missing l.initial.ready l.ready
