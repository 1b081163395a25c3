use Rattle.std.proofs.Common.{◌≡◌, ◌<◌, ◌+◌, ◌*◌, ◌/◌, ◌%◌, ◌∙◌, ℕ, ap, arith}
use Rattle.access_index.specs.Index.{start_at}
use Rattle.access_index.proofs.start.GroupStart.pack.Goals as goal

parts : (bucket from : ℕ) → from < 4294967296 → start_at (bucket * 4294967296 + from) ≡ record { bucket = bucket; from = from }
parts bucket from l =
    let first : (bucket * 4294967296 + from) / 4294967296 ≡ bucket = omega arith in
    let second : (bucket * 4294967296 + from) % 4294967296 ≡ from = omega arith in λ i. record { bucket = first i; from = second i }

pub returns : goal.returns
returns c =
    let fits : c.args.self.from < 4294967296 = omega arith in
    let same : c.from.result * 4294967296 + c.from-2.result ≡ c.args.self.bucket * 4294967296 + c.args.self.from =
    omega (arith, c.from.ensures, c.from-2.ensures) in
    ap start_at same ∙ parts c.args.self.bucket c.args.self.from fits
