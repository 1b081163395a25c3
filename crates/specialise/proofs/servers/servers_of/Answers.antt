use Rattle.std.proofs.Common.{◌∙◌, ◌++◌, ◌∷◌, [], ap, sym, map}
use Rattle.std.specs.List.{range_with_len}
use Rattle.attribute_closure.specs.Uses.{as_use}
use Rattle.specialise.specs.Trials.{servers_on}
use Rattle.specialise.proofs.Lists.{map_range}
use Rattle.specialise.proofs.servers.servers_of.Goals as goal

pub loop-number-preserved : goal.loop-number-preserved
loop-number-preserved c =
    let made = servers_on c.args.block.now c.args.candidates.now (map as_use c.args.found.now) in
    let n = c.loop-number.number in
    c.in_ok-push.ensures.ok ∙ ap (λ servers. servers ++ c.in_ok-servers_on.field-0 ∷ []) c.loop-number.invariant
    ∙ ap (λ list. map made (range_with_len 0 n) ++ list ∷ []) c.in_ok-servers_on.ensures ∙ sym (map_range made n)
