use Rattle.std.proofs.Common.{◌<◌, ◌+◌, ◌∙◌, ap, sym, arith, get_or, length, length-set}
use Rattle.beas_core.specs.declared.query.Atom.{Atom}
use Rattle.normal_form.proofs.Offsets.{offset_step, offset_written}
use Rattle.normal_form.proofs.places.Places.of.Goals as goal

pub loop-number-preserved : goal.loop-number-preserved
loop-number-preserved c =
    let atoms = c.args.atoms.now in
    let number = c.loop-number.number in
    let now = c.loop-number.invariant in
    let none : Atom = record { table = record { 0 = 0 }; width = 0 } in
    let inside : number < length c.loop-number.offsets = omega (arith, c.loop-number-test.true, c.requires.few, now.long) in
    record {
      offsets = offset_written atoms c.loop-number.offsets number c.loop-number.count inside now.count now.offsets;
      long = length-set c.loop-number.offsets number c.loop-number.count ∙ now.long;
      count = ap (λ n. n + (get_or atoms number none).width) now.count ∙ sym (offset_step atoms number none c.loop-number-test.true);
    }
