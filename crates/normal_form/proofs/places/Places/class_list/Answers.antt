use Rattle.std.proofs.Common.{◌≡◌, ◌≤◌, ◌+◌, ◌-◌, ◌∙◌, ap, sym, arith, length, take, drop}
use Rattle.normal_form.specs.Places.{offset}
use Rattle.normal_form.proofs.Offsets.{window}
use Rattle.normal_form.proofs.places.Places.class_list.Goals as goal

pub returns : goal.returns
returns c =
    let atoms = c.args.self.now.atoms.now in
    let classes = c.args.classes.now in
    let first = c.first_of-first.ensures.first in
    let long : c.first_of-first.result + c.from.result - c.first_of-first.result ≡ c.args.width = omega (arith, c.from.ensures) in
    let within : offset atoms c.args.atom + c.args.width ≤ length classes =
    omega (arith, first, c.first_of-first.ensures.within, c.requires.width, c.requires.full) in
    c.from_vec.ensures ∙ c.in_ok-from_slice.ensures.items
    ∙ ap (λ n. take n (drop c.first_of-first.result classes)) long
    ∙ ap (λ n. take c.args.width (drop n classes)) first
    ∙ sym (window classes (offset atoms c.args.atom) c.args.width within)
