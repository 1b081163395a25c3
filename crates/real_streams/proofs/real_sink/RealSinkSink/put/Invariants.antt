use Rattle.std.proofs.Common.{◌≡◌, ◌-◌, ◌^◌, ◌≤◌}
use Rattle.outside.specs.Counts.{raised}
use Rattle.real_streams.proofs.GivenFacts.{GaveFront}
use Rattle.real_streams.proofs.real_sink.RealSinkSink.put.Given as goal

abbrev pub invariant-parts : goal.invariant-parts
invariant-parts g l = record {
  faults : l.self.faults ≡ l.fn.self.faults;
  range : l.fn.self.faults ≤ 2 ^ 64 - 1;
  puts : l.self.puts ≡ raised 1 l.fn.self.puts;
  gave : GaveFront (g.W.Write.contents l.fn.self.writer) (g.W.Write.contents l.self.writer) l.bytes l.rest;
}
