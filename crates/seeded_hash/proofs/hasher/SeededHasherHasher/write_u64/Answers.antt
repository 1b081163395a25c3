use mathlib.Core.Path.{ap, sym, ◌∙◌}
use Rattle.std.specs.Hash.{le_bytes}
use Rattle.std.proofs.lemmas.Nat.{from_le_bytes-to_le_bytes_8}
use Rattle.seeded_hash.specs.Mixing.{mixed}
use Rattle.seeded_hash.proofs.hasher.SeededHasherHasher.write_u64.Goals as goal

pub returns : goal.returns
unfolding le_bytes
returns c =
    let s = c.args.self.now in
    c.mix.ensures
    ∙ ap (λ w. record s { state = mixed s.factor s.state w }) (sym (from_le_bytes-to_le_bytes_8 c.args.input c.ranges.input.fits))
