use Rattle.std.proofs.Common.{◌≡◌, ◌∙◌, false, subst, sym}
use Rattle.version_store.specs.Held.{has_part}
use Rattle.version_store.proofs.FreezingFacts.{apart_still, held_with_part, kept_with_part}
use Rattle.version_store.proofs.freezing.freeze_one.Goals as goal

pub returns-in_ok-push-clause-kept : goal.returns-in_ok-push-clause-kept
returns-in_ok-push-clause-kept g c =
    let table = g.P.Part.table_of in
    let guard = c.args.guard.now in
    let old = c.args.query.now in
    let none : has_part table old.parts.items c.args.table ≡ false =
    subst (λ parts. has_part table parts c.args.table ≡ false) c.deref.ensures.value (sym c.has_part.ensures ∙ c.if-not-has_part.true) in
    record {
      header = c.requires.kept.header;
      apart = apart_still table c.in_ok-part.part old.parts.items c.push.new.self.items c.in_ok-push.ensures.items c.args.table c.in_ok-part.ensures.table
          none c.requires.kept.apart;
      kept = kept_with_part table g.P.AccessPort.rows g.P.AccessPort.accesses (g.G.AccessPort.rows guard) (g.G.AccessPort.accesses guard)
          (g.met.G.Freezes.once guard) c.in_ok-part.part c.in_ok-part.ensures.part old.parts.items c.push.new.self.items c.in_ok-push.ensures.items
          old.cursor c.requires.kept.kept;
    }

pub returns-in_ok-push-clause-held : goal.returns-in_ok-push-clause-held
returns-in_ok-push-clause-held g c =
    let guard = c.args.guard.now in
    let old = c.args.query.now in
    held_with_part g.P.Part.table_of g.P.AccessPort.rows g.P.AccessPort.accesses (g.G.AccessPort.rows guard) (g.G.AccessPort.accesses guard)
    (g.met.G.Freezes.once guard) c.in_ok-part.part c.in_ok-part.ensures.part old.parts.items c.push.new.self.items c.in_ok-push.ensures.items
    old.cursor c.requires.kept.kept old.session old.plan
