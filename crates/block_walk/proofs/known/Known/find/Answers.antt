use Rattle.std.proofs.Common.{◌≡◌, true, false, length, subst}
use Rattle.place_chains.specs.Chains.{IsLast}
use Rattle.place_chains.specs.Hashing.{hash_of}
use Rattle.block_walk.proofs.KnownFacts.{Searched, kept_key, kept_none, kept_there, searched_first, searched_more}
use Rattle.block_walk.proofs.known.Known.find.Goals as goal

pub places-init : goal.places-init
places-init c = searched_first c.args.self.now c.requires.known c.args.step c.args.key.now c.latest-at.result
    (subst (λ h. IsLast h c.args.self.now.chains (length c.args.self.now.chains) c.latest-at.result) c.requires.hash c.latest-at.ensures)

pub places-preserved : goal.places-preserved
places-preserved c =
    let known = c.args.self.now in
    let step = c.args.step in
    let key = c.args.key.now in
    let at_place = subst (Searched known (hash_of step key) (step, key)) c.in-Some.is c.places.invariant in
    searched_more known c.requires.known step key c.in-Some.place at_place (λ e. let t : false ≡ true = c.if-is_at.ensures.1 e in cc) c.earlier-at.result c.earlier-at.ensures

pub returns-clause-there : goal.returns-clause-there
returns-clause-there c = kept_there c.args.self.now c.requires.known c.args.step c.args.key.now c.get.result c.get.ensures

pub returns-clause-key : goal.returns-clause-key
returns-clause-key c = kept_key c.args.self.now c.requires.known c.args.step c.args.key.now c.get.result c.get.ensures

pub returns-clause-none : goal.returns-clause-none
returns-clause-none c =
    let known = c.args.self.now in
    let step = c.args.step in
    let key = c.args.key.now in
    kept_none known c.requires.known step key (subst (Searched known (hash_of step key) (step, key)) c.in_default.is c.places.invariant)
    c.get.result c.get.ensures
