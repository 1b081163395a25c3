use Rattle.std.proofs.Common.{◌≡◌}
use Rattle.attribute_closure.specs.Keys.{KeysAreCounted}
use Rattle.attribute_closure.proofs.Sets.{front_of}
use Rattle.attribute_closure.proofs.keys.Keys.add_set.Given as goal

abbrev pub invariant-loop-class : goal.invariant-loop-class
invariant-loop-class l = record {
  counted : KeysAreCounted l.block l.self;
  set : l.self.set.items ≡ front_of l.class l.more;
  uses : l.self.uses ≡ l.initial.self.uses;
}
