use Rattle.std.proofs.Common.{◌∙◌, ap, map, sym}
use Rattle.std.specs.List.{find, list_all}
use Rattle.beas_core.specs.Coverage.{is_open, needed_places}
use Rattle.attribute_closure.specs.Uses.{as_use}
use Rattle.plan_builder.proofs.CandidateFacts.{covers, covers_not}
use Rattle.plan_builder.proofs.candidates.Candidates.cover.Goals as goal

pub returns-in-None : goal.returns-in-None
returns-in-None c = λ accesses same.
    covers c.args.block.now accesses (map as_use c.args.self.now.keys.uses) same c.args.self.now.keys.set.items c.args.self.now.served.items
    c.requires.are.served c.all_true.result (c.all_true.ensures ∙ ap (list_all (λ b. b)) c.deref-in-None.ensures.value)
    (ap (λ s. find (is_open c.args.block.now s) (needed_places c.args.block.now)) (sym c.deref.ensures.value) ∙ sym c.open_place.ensures ∙ c.in-None.is)

pub returns-in-Some : goal.returns-in-Some
returns-in-Some c = λ accesses same.
    covers_not c.args.block.now accesses c.args.self.now.keys.set.items c.in-Some._place
    (ap (λ s. find (is_open c.args.block.now s) (needed_places c.args.block.now)) (sym c.deref.ensures.value) ∙ sym c.open_place.ensures ∙ c.in-Some.is)
