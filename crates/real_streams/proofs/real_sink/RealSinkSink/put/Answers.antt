use Rattle.std.proofs.Common.{arith}
use Rattle.real_streams.proofs.GivenFacts.{gave_more}
use Rattle.real_streams.proofs.real_sink.RealSinkSink.put.Goals as goal

pub parts-preserved : goal.parts-preserved
parts-preserved g c = record {
  faults = omega (arith, c.in-Ok.ensures.no_fault);
  range = omega arith;
  puts = omega (arith, c.in-Ok.ensures.puts);
  gave = gave_more (g.W.Write.contents c.args.self.now.writer) (g.W.Write.contents c.parts.self.writer) (g.W.Write.contents c.write_part.new.self.writer)
      c.args.bytes.now c.parts.rest.now c.in-Ok.count c.parts.invariant.gave c.in-Ok.ensures.sent;
}
