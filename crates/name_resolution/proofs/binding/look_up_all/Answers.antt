use Rattle.std.proofs.Common.{map, take, sym, ◌∙◌, ap, ◌++◌, ◌∷◌, [], arith}
use Rattle.std.proofs.lemmas.Result.{err_from_is_err_and}
use Rattle.std.proofs.lemmas.List.{map_more}
use Rattle.name_resolution.specs.LookedUp.{looked_up}
use Rattle.name_resolution.specs.Refusing.{repeated_aliases}
use Rattle.name_resolution.proofs.FirstFacts.{from_start, next_ok, err_next, at_end}
use Rattle.name_resolution.proofs.binding.look_up_all.Goals as goal

pub loop-block-init : goal.loop-block-init
loop-block-init c = record { so_far = c.in_ok-all.ensures.items; once = from_start (λ b. repeated_aliases b.now) c.args.blocks.now }

pub returns-in_err-look_up-clause-repeated : goal.returns-in_err-look_up-clause-repeated
returns-in_err-look_up-clause-repeated c = let p = err_from_is_err_and c.from_residual-in_err-look_up.result c.from_residual-in_err-look_up.ensures.1 in rw (p.1, p.2)
    (err_next (Unit {0}) (Unit {0}) _ (λ b. repeated_aliases b.now) c.args.blocks.now c.loop-block.block-index c.block-item.result c.loop-block.invariant.once
    c.loop-block-test.true c.block-item.is c.in_err-look_up.ensures.repeated)

pub loop-block-preserved : goal.loop-block-preserved
loop-block-preserved c = record {
  so_far = c.in_ok-push.ensures.items ∙ ap (λ found. found ++ c.in_ok-look_up.field-0 ∷ []) c.loop-block.invariant.so_far
      ∙ ap (λ found. map (λ b. looked_up c.args.catalogue.now b.now) (take c.loop-block.block-index c.args.blocks.now) ++ found ∷ [])
      (c.in_ok-look_up.ensures.block ∙ ap (λ b. looked_up c.args.catalogue.now b.now) c.block-item.is)
      ∙ sym (map_more (λ b. looked_up c.args.catalogue.now b.now) c.args.blocks.now c.loop-block.block-index c.block-item.result c.loop-block-test.true);
  once = sym (next_ok (λ b. repeated_aliases b.now) c.args.blocks.now c.loop-block.block-index c.block-item.result c.loop-block-test.true c.block-item.is
      c.in_ok-look_up.ensures.repeated)
      ∙ c.loop-block.invariant.once;
}

pub returns-clause-repeated : goal.returns-clause-repeated
returns-clause-repeated c = sym c.loop-block.invariant.once ∙ at_end (λ b. repeated_aliases b.now) c.args.blocks.now c.loop-block.block-index (omega arith)
