use Rattle.std.proofs.Common.{◌≡◌, ◌++◌, drop}
use Rattle.std.specs.Prelude.{codes, map}
use Rattle.std.specs.List.{flat_map}
use Rattle.report.specs.Texts.{literal_text}
use Rattle.report.proofs.literals.literals.Given as goal

-- what is written and then the values left is the whole
abbrev pub invariant-loop-value : goal.invariant-loop-value
invariant-loop-value l = l.text ++ flat_map (λ y. codes ", " ++ y) (map literal_text (drop l.value-index l.after))
    ≡ l.initial.text ++ flat_map (λ y. codes ", " ++ y) (map literal_text l.after)
