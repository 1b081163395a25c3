use Rattle.std.proofs.Common.{◌<◌, arith}
use Rattle.sql_tokens.proofs.ByteKinds.{kind_at}
use Rattle.sql_tokens.proofs.runs.kind_of.Goals as goal

pub returns : goal.returns
returns c =
    let low : c.args.byte < 256 = omega (arith, c.ranges.byte.fits) in
    kind_at c.args.byte low
