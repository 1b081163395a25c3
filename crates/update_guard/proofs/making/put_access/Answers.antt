use Rattle.std.proofs.Common.{◌≡◌, ◌∙◌, ◌-◌, ◌∷◌, [], ap, length, arith, length-append}
use Rattle.std.specs.Prelude.{◌++◌, remove}
use Rattle.update_guard.proofs.IndexFacts.{last_removed}
use Rattle.update_guard.proofs.making.put_access.Goals as goal

pub returns-in-Err-clause-without : goal.returns-in-Err-clause-without
returns-in-Err-clause-without g c front last is =
    let at : c.len.result - 1 ≡ length front = omega (arith, c.len.ensures, ap length is, length-append front (last ∷ [])) in
    c.drop_at.ensures ∙ ap (λ xs. remove xs (c.len.result - 1)) is ∙ ap (remove (front ++ last ∷ [])) at ∙ last_removed front last
