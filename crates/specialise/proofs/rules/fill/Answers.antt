use Rattle.std.proofs.Common.{◌≤◌, ◌^◌, ◌∙◌, ap, fold, length, subst, sym}
use Rattle.std.proofs.lemmas.List.{length-replicate}
use Rattle.specialise.specs.Trials.{IsFilled, with_rule}
use Rattle.specialise.proofs.Filled.{entries_small, key_below, rules_to}
use Rattle.specialise.proofs.Masks.{pow_few}
use Rattle.specialise.proofs.Tables.{filled}
use Rattle.specialise.proofs.rules.fill.Goals as goal

pub add_rules-requires-clause-sets : goal.add_rules-requires-clause-sets
add_rules-requires-clause-sets c = ap length c.requires.empty ∙ length-replicate (2 ^ length c.args.candidates.now) 0

pub close-requires-clause-few : goal.close-requires-clause-few
close-requires-clause-few c =
    let n = 2 ^ length c.args.candidates.now in
    subst (λ k. k ≤ 65536) (sym (c.spread.auto.table ∙ c.add_rules.auto.table ∙ ap length c.requires.empty ∙ length-replicate n 0))
    (pow_few (length c.args.candidates.now) c.requires.few)

pub close-requires-clause-sets : goal.close-requires-clause-sets
close-requires-clause-sets c =
    let n = 2 ^ length c.args.candidates.now in
    (length c.args.candidates.now, c.spread.auto.table ∙ c.add_rules.auto.table ∙ ap length c.requires.empty ∙ length-replicate n 0)

pub close-requires-clause-entries : goal.close-requires-clause-entries
close-requires-clause-entries c =
    let n = 2 ^ length c.args.candidates.now in
    let rules = rules_to c.args.block.now c.args.candidates.now c.args.found.now in
    entries_small c.args.block.now c.args.candidates.now c.spread.new.table c.args.found.now
    (c.spread.auto.table ∙ c.add_rules.auto.table ∙ ap length c.requires.empty ∙ length-replicate n 0)
    (c.spread.ensures rules (subst (IsFilled rules) (sym (c.add_rules.ensures ∙ ap (λ t. fold with_rule t rules) c.requires.empty))
    (filled rules n (key_below c.args.block.now c.args.candidates.now c.args.found.now) (length-replicate n 0))))

pub returns : goal.returns
returns c =
    let n = 2 ^ length c.args.candidates.now in
    let rules = rules_to c.args.block.now c.args.candidates.now c.args.found.now in
    c.close.ensures rules
    (c.spread.ensures rules (subst (IsFilled rules) (sym (c.add_rules.ensures ∙ ap (λ t. fold with_rule t rules) c.requires.empty))
    (filled rules n (key_below c.args.block.now c.args.candidates.now c.args.found.now) (length-replicate n 0))))
