use Rattle.std.proofs.Common.{◌<◌, ◌+◌, ◌^◌, ◌∙◌, bit_or, arith, ap, length, pow_mono, subst, sym}
use Rattle.std.specs.Option.{option_map}
use Rattle.std.proofs.lemmas.Grind.{common_steps}
use Rattle.specialise.specs.Trials.{classes_in}
use Rattle.specialise.proofs.Masks.{more_below}
use Rattle.specialise.proofs.Tried.{counted, bit_is, none_left, with_it, without_it}
use Rattle.specialise.proofs.trial.Trial.+try_sets.Goals as goal

pub covers-requires-clause-held : goal.covers-requires-clause-held
covers-requires-clause-held t c = omega (arith, c.requires.held, pow_mono c.requires.position)

pub returns-then-len-position : goal.returns-then-len-position
returns-then-len-position t c =
    let s = c.args.self.now in
    none_left s.accesses.now s.block.now c.args.size c.args.position c.args.held c.len.result
    (c.len.ensures ∙ counted s.accesses.now s.block.now s.candidates s.candidates_are) c.if-len-position.true

pub try_sets-requires : goal.try_sets-requires
try_sets-requires t c =
    let s = c.args.self.now in
    let position = c.args.position in
    let inside : position < length s.candidates =
    omega (arith, c.requires.position, c.if-size-eq0.false, c.if-len-position.false, c.len.ensures) in
    let bit = bit_is position (omega (arith, inside, s.few)) in (
      grind (arith, common_steps),
      (
        c.requires.shape,
        (
          omega (arith, inside),
          subst (λ m. bit_or c.args.held m < 2 ^ (position + 1)) (sym bit) (more_below position c.args.held c.requires.held),
        ),
      ),
    )

pub returns-in-Some : goal.returns-in-Some
returns-in-Some t c =
    let s = c.args.self.now in
    let position = c.args.position in
    let inside : position < length s.candidates =
    omega (arith, c.requires.position, c.if-size-eq0.false, c.if-len-position.false, c.len.ensures) in
    let all = counted s.accesses.now s.block.now s.candidates s.candidates_are in
    with_it s.accesses.now s.block.now c.args.size position c.args.held _ c.if-size-eq0.false c.requires.held (subst (λ n. position < n) all inside)
    (ap (bit_or c.args.held) (bit_is position (omega (arith, inside, s.few)))) (classes_in s.accesses.now s.block.now c.in-Some.set) c.in-Some.ensures

pub returns : goal.returns
returns t c =
    let s = c.args.self.now in
    let position = c.args.position in
    let inside : position < length s.candidates =
    omega (arith, c.requires.position, c.if-size-eq0.false, c.if-len-position.false, c.len.ensures) in
    let all = counted s.accesses.now s.block.now s.candidates s.candidates_are in
    without_it s.accesses.now s.block.now c.args.size position c.args.held _ c.if-size-eq0.false c.requires.held (subst (λ n. position < n) all inside)
    (ap (bit_or c.args.held) (bit_is position (omega (arith, inside, s.few))))
    (option_map (classes_in s.accesses.now s.block.now) c.try_sets-2.result) c.in_default.ensures c.try_sets-2.ensures
