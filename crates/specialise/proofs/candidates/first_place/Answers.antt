use Rattle.std.proofs.Common.{◌<◌, ◌≤◌, arith, ap, length, get_or, subst, sym}
use Rattle.beas_core.specs.declared.query.Atom.{Atom}
use Rattle.specialise.proofs.Places.{place_more, place_there, place_none}
use Rattle.specialise.proofs.candidates.first_place.Goals as goal

abbrev none : Atom
none = record { table = record { 0 = 0 }; width = 0 }

pub returns-in-Some : goal.returns-in-Some
returns-in-Some c =
    let items = c.as_slice-declared-items.result.now in
    let same = c.as_slice-declared-items.ensures in
    let n = c.loop-number.number in
    sym (place_there c.args.block.now c.args.normal.now c.requires.normal c.args.class n none (subst (λ xs. n < length xs) same c.loop-number-test.true)
    (get_or items n none).width (ap (λ xs. (get_or xs n none).width) same) c.in-Some.column (sym c.in-Some.ensures) c.loop-number.invariant)

pub loop-number-preserved : goal.loop-number-preserved
loop-number-preserved c =
    let items = c.as_slice-declared-items.result.now in
    let same = c.as_slice-declared-items.ensures in
    let n = c.loop-number.number in
    place_more c.args.block.now c.args.normal.now c.requires.normal c.args.class n none (subst (λ xs. n < length xs) same c.loop-number-test.true)
    (get_or items n none).width (ap (λ xs. (get_or xs n none).width) same) (sym c.in_default.ensures) c.loop-number.invariant

pub returns : goal.returns
returns c =
    let same = ap length c.as_slice-declared-items.ensures in
    sym (place_none c.args.block.now c.args.normal.now c.requires.normal c.args.class c.loop-number.number
    (subst (λ k. k ≤ c.loop-number.number) same c.loop-number-test.false) (omega arith) c.loop-number.invariant)
