use Rattle.std.proofs.Common.{rules, refl, arith}
use Rattle.real_streams.proofs.TakenFacts.{consumes_none}
use Rattle.real_streams.proofs.real_files.ReadCounts.read_whole.Goals as goal

pub pieces-init : goal.pieces-init
pieces-init g c = record {
  fits = rw c.new-bytes.ensures.items (omega arith);
  some = search rules;
  counted = rw c.new-bytes.ensures.items (omega arith);
  range = omega arith;
  faults = refl;
  consumed = rw c.new-bytes.ensures.items (consumes_none (g.S.Read.remaining c.args.source.now));
}
