use Rattle.std.proofs.Common.{◌≡◌, ℕ, ◌∙◌, ap, take, length, refl, arith}
use Rattle.std.specs.List.{flat_map, enumerate_from}
use Rattle.attribute_closure.proofs.Listed.{uses_on, uses_step, uses_of_all}
use Rattle.attribute_closure.proofs.uses.uses_within.Goals as goal

pub loop-number-preserved : goal.loop-number-preserved
loop-number-preserved c =
    let now = c.loop-number.invariant in
    let put = c.in_ok-count.ensures in
    record {
      uses = uses_step c.args.accesses.now c.args.block.now.atoms c.as_slice-atom-items.result.now c.loop-number.number
          (record { table = record { 0 = 0 }; width = 0 }) _ _ _ c.as_slice-atom-items.ensures c.loop-number-test.true now.uses put.uses refl;
      within = omega (arith, put.len, put.within);
      len = put.len ∙ now.len;
    }

pub returns-clause-uses : goal.returns-clause-uses
returns-clause-uses c =
    let same = ap length c.as_slice-atom-items.ensures in
    let whole : c.loop-number.number ≡ length c.args.block.now.atoms = omega arith in
    c.loop-number.invariant.uses
    ∙ ap (λ (n : ℕ). flat_map (uses_on c.args.accesses.now) (take n (enumerate_from 0 c.args.block.now.atoms))) whole
    ∙ uses_of_all c.args.block.now c.args.accesses.now
