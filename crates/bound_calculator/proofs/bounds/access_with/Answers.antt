use Rattle.std.proofs.Common.{◌≡◌, ◌<◌, ℕ, nat_cmp, Equal, length, sym, ◌∙◌, rules, arith}
use Rattle.std.proofs.lemmas.Bool.Decides.{nat_tests}
use Rattle.std.proofs.lemmas.List.Sorted.{answers_always}
use Rattle.bound_calculator.proofs.AccessById.{found_at}
use Rattle.bound_calculator.proofs.bounds.access_with.Goals as goal

same : (a b : ℕ) → nat_cmp a b ≡ Equal → a ≡ b
same a b h = grind (arith, nat_tests)

pub returns-in-Ok : goal.returns-in-Ok
returns-in-Ok c =
    let h = c.in-Ok.ensures.position (λ a. a.id.0) (answers_always _ _ _ (λ f a r g called. search rules)) in
    let below : c.in-Ok.at < length c.args.accesses.now = search rules in
    c.index-accesses-at.is ∙ sym (found_at c.args.accesses.now c.args.id c.in-Ok.at c.index-accesses-at.result c.requires below
    (same _ _ (h c.index-accesses-at.result)))
