use Rattle.std.proofs.Common.{◌≡◌, ◌++◌, ◌∙◌, ap, arith, drop, length, sym, take}
use Rattle.std.proofs.Math.Seq.{take-append_seam}
use Rattle.beas_core.specs.Derivations.{with_use}
use Rattle.attribute_closure.specs.Uses.{as_use}
use Rattle.plan_builder.proofs.FrontFacts.{set_more}
use Rattle.plan_builder.proofs.fronts.take_use.Goals as goal

pub returns-clause-front : goal.returns-clause-front
returns-clause-front c =
    let u = as_use c.args.found.now in
    let was = c.args.front.now.set in
    let now = c.add_use.new.set in
    let kept = c.add_use.auto.set in
    let long = c.deref_mut.ensures.len in
    let same : was.len ≡ length now = omega (arith, kept, long) in
    let grown = ap (λ n. take n (now ++ drop (length now) was.items)) same ∙ take-append_seam now (drop (length now) was.items) ∙ c.add_use.ensures
    ∙ ap (λ s. with_use c.args.block.now s u) c.deref_mut.ensures.value in
    λ start done front. record {
      set = grown ∙ ap (λ s. with_use c.args.block.now s u) front.set ∙ sym (set_more c.args.block.now start done u);
      sizes = c.sizes_with-front.ensures start done (c.deref.ensures.value ∙ front.set) front.sizes;
    }
