use Rattle.std.proofs.Common.{◌∙◌, take, ap, sym}
use Rattle.seeded_hash.specs.declared.hasher.TheConstants.{FIXED_FACTOR}
use Rattle.seeded_hash.specs.Mixing.{mixed}
use Rattle.place_chains.specs.Hashing.{hash_of, number_of}
use Rattle.place_chains.proofs.HashFacts.{hash_more}
use Rattle.place_chains.proofs.hashing.hash_of.Goals as goal

pub loop-value-init : goal.loop-value-init
unfolding hash_of
loop-value-init c = c.mixed-hash.ensures

pub loop-value-preserved : goal.loop-value-preserved
loop-value-preserved c =
    let more = hash_more c.args.step c.args.key.now c.loop-value.value-index c.value-item.result c.loop-value-test.true in
    c.mixed-hash-in-loop-value.ensures
    ∙ ap (λ s. mixed FIXED_FACTOR s c.number_of.result) c.loop-value.invariant
    ∙ ap (mixed FIXED_FACTOR (hash_of c.args.step (take c.loop-value.value-index c.args.key.now))) (c.number_of.ensures ∙ ap number_of c.value-item.is)
    ∙ sym more
