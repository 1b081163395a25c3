use Rattle.std.proofs.Common.{◌<◌, ◌^◌, ◌∙◌, List, length, subst, sym}
use Rattle.std.proofs.lemmas.List.{get_or_default}
use Rattle.specialise.specs.declared.candidates.Candidate.{Candidate}
use Rattle.specialise.specs.Trials.{IsLeastUnder, rules_of}
use Rattle.specialise.proofs.Serving.{covers_is}
use Rattle.specialise.proofs.trial.Trial.covers.Goals as goal

pub returns : goal.returns
returns c =
    let t = c.args.self.now in
    let held = c.args.held in
    let set = c.index-set.result.now in
    let inside = subst (λ n. held < n) (sym t.sets) c.requires.held in
    let least = subst (IsLeastUnder (rules_of t.accesses.now t.block.now) held)
    (get_or_default t.table.items held 0 set inside ∙ sym c.index-set.ensures) (t.table_is held inside) in
    covers_is t.accesses.now t.block.now c.requires.shape held
    (subst (λ (cs : List Candidate). held < 2 ^ length cs) t.candidates_are c.requires.held) set least c.as_slice.result.now
    (c.as_slice.ensures ∙ t.servers_are) c.all_serve.result c.all_serve.ensures
