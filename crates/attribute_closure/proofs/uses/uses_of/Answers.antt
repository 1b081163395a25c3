use Rattle.std.proofs.Common.{◌≡◌, ℕ, ◌∙◌, ap, take, length, refl, arith}
use Rattle.std.specs.List.{flat_map, enumerate_from}
use Rattle.attribute_closure.proofs.Listed.{uses_on, uses_step, uses_of_all}
use Rattle.attribute_closure.proofs.uses.uses_of.Goals as goal

pub loop-number-preserved : goal.loop-number-preserved
loop-number-preserved c =
    uses_step c.args.accesses.now c.args.block.now.atoms c.as_slice-atom-items.result.now c.loop-number.number
    (record { table = record { 0 = 0 }; width = 0 }) _ _ _ c.as_slice-atom-items.ensures c.loop-number-test.true
    c.loop-number.invariant c.in_ok-push_uses.ensures refl

pub returns : goal.returns
returns c =
    let same = ap length c.as_slice-atom-items.ensures in
    let whole : c.loop-number.number ≡ length c.args.block.now.atoms = omega arith in
    c.loop-number.invariant
    ∙ ap (λ (n : ℕ). flat_map (uses_on c.args.accesses.now) (take n (enumerate_from 0 c.args.block.now.atoms))) whole
    ∙ uses_of_all c.args.block.now c.args.accesses.now
