use Rattle.std.proofs.Common.{refl}
use Rattle.std.specs.Option.{option_copied}
use Rattle.block_walk.specs.declared.walking.Walk.{Walk}
use Rattle.block_walk.proofs.StartFacts.{first_stands, first_tidy}
use Rattle.block_walk.proofs.walking.begin.Goals as goal

pub returns-clause-tidy : goal.returns-clause-tidy
returns-clause-tidy c =
    let walk : Walk = record {
      first = c.in_ok-from.from.classes;
      stages = c.new.result;
      known = c.in_ok-new.field-0;
      pending = c.in_ok-pending.pending;
      key = c.new-3.result;
      through = c.new-4.result;
    } in
    first_tidy c.args.block.now (option_copied c.args.guide) c.in_ok-from.from c.in_ok-from.ensures.over c.in_ok-from.ensures.rows walk
    refl c.new.ensures.items c.in_ok-new.ensures.known c.in_ok-new.ensures.empty c.in_ok-pending.ensures.stack c.in_ok-pending.ensures.pending c.new-4.ensures

pub returns-clause-stands : goal.returns-clause-stands
returns-clause-stands c =
    let walk : Walk = record {
      first = c.in_ok-from.from.classes;
      stages = c.new.result;
      known = c.in_ok-new.field-0;
      pending = c.in_ok-pending.pending;
      key = c.new-3.result;
      through = c.new-4.result;
    } in
    first_stands c.args.block.now (option_copied c.args.guide) c.in_ok-from.from c.in_ok-from.ensures.over c.in_ok-from.ensures.rows walk
    refl c.new.ensures.items c.in_ok-new.ensures.known c.in_ok-new.ensures.empty c.in_ok-pending.ensures.stack c.in_ok-pending.ensures.pending c.new-4.ensures
    c.requires.classes c.requires.constants c.requires.fits
