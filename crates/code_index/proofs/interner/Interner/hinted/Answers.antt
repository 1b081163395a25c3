use Rattle.std.proofs.Common.{◌≡◌, ◌∙◌, SFits, ap, rules, sym, subst, to_z, w64}
use Rattle.std.specs.Prelude.{Some, slice_get}
use Rattle.std.proofs.lemmas.Int.{to_z-of_z}
use Rattle.beas_core.specs.declared.value.Value.TheVariants.{Int}
use Rattle.code_index.specs.Codes.{code_of}
use Rattle.code_index.proofs.CodeFacts.{are_distinct, code_at, same_laws}
use Rattle.code_index.proofs.interner.Interner.hinted.Goals as goal

pub returns-in-Int : goal.returns-in-Int
returns-in-Int c =
    let keys = c.self.inside.values.keys in
    let place = c.in_ok-place.place in
    let integer = c.args.integer in
    let fits : SFits w64 c.in-Int.there = search rules in
    let same : c.in-Int.there ≡ integer =
    sym (to_z-of_z w64 c.in-Int.there fits) ∙ ap (to_z w64) c.if-there-integer.true ∙ to_z-of_z w64 integer c.ranges.integer in
    let found : slice_get keys place ≡ Some (Int integer) = sym c.in_ok-there.ensures.key ∙ ap Some (c.in-Int.is ∙ ap Int same) in
    subst (λ codes. code_of codes (Int integer) ≡ Some place) c.self.view_is
    (code_at keys (Int integer) (Int integer) place (are_distinct keys c.self.invariant) found (same_laws.refl (Int integer)))
