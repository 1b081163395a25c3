use Rattle.std.proofs.Common.{◌≡◌, ◌<◌, ◌+◌, ◌^◌, ◌++◌, drop}
use Rattle.beas_core.specs.Numbers.{announced_from, last_size}
use Rattle.report.specs.Plans.{steps_text}
use Rattle.report.proofs.plans.push_steps.Given as goal

-- the lines so far and then those of the steps left are the whole, and what is left costs a number of 128 bits
abbrev pub invariant-loop-place : goal.invariant-loop-place
invariant-loop-place l =
    (l.text ++ steps_text l.catalogue (l.catalogue.accesses ++ l.scans) l.block (l.place + 1) l.size (drop l.place l.steps)
    ≡ l.fn.text ++ steps_text l.catalogue (l.catalogue.accesses ++ l.scans) l.block 1 l.start l.steps)
    × (announced_from (l.catalogue.accesses ++ l.scans) l.size (drop l.place l.steps) < 2 ^ 128)
    × (last_size (l.catalogue.accesses ++ l.scans) l.size (drop l.place l.steps) ≡ last_size (l.catalogue.accesses ++ l.scans) l.start l.steps)
