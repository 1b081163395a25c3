use Rattle.std.proofs.Common.{◌∙◌, ◌++◌, ◌∷◌, [], ap, sym, map}
use Rattle.std.specs.List.{filter}
use Rattle.specialise.specs.Trials.{candidate_of, is_open}
use Rattle.specialise.proofs.Lists.{filter_range}
use Rattle.specialise.proofs.candidates.open_candidates.Goals as goal

pub loop-class-preserved : goal.loop-class-preserved
loop-class-preserved c =
    let test = is_open c.args.cover.now c.args.asked.now in
    let made = candidate_of c.args.block.now in
    let n = c.loop-class.class in
    c.in_ok-push_open.ensures ∙ ap (λ found. found ++ map made (filter test (n ∷ []))) c.loop-class.invariant ∙ sym (filter_range test made n)
