use Rattle.std.proofs.Common.{◌∙◌, sym}
use Rattle.desk_model.proofs.KeptFacts.{at_part, at_store, holds_at, holds_in_store}
use Rattle.version_store.proofs.port.KeptPortAccessPort.access.Goals as goal

pub access-requires : goal.access-requires
access-requires g c =
    let table = g.P.Part.table_of in
    let rows = g.P.AccessPort.rows in
    let accesses = g.P.AccessPort.accesses in
    let on_table = g.met.P.Part.on_table in
    let parts = c.args.self.now.parts.now in
    let own = g.G.AccessPort.accesses c.args.self.now.guard.now in
    let other = g.G.AccessPort.rows c.args.self.now.guard.now in
    (at_part table rows accesses on_table parts own other c.args.id c.in-Some.place c.index-self-place.result c.args.self.now.apart (sym c.part_with.ensures ∙ c.in-Some.is)).live

pub access-requires-in-None : goal.access-requires-in-None
access-requires-in-None g c =
    let table = g.P.Part.table_of in
    let rows = g.P.AccessPort.rows in
    let accesses = g.P.AccessPort.accesses in
    let on_table = g.met.P.Part.on_table in
    let parts = c.args.self.now.parts.now in
    let own = g.G.AccessPort.accesses c.args.self.now.guard.now in
    let other = g.G.AccessPort.rows c.args.self.now.guard.now in
    (at_store table rows accesses on_table parts own other c.args.id c.args.self.now.once c.requires (sym c.part_with.ensures ∙ c.in-None.is)).live

pub returns-in-Some-clause-access : goal.returns-in-Some-clause-access
returns-in-Some-clause-access g c =
    let table = g.P.Part.table_of in
    let rows = g.P.AccessPort.rows in
    let accesses = g.P.AccessPort.accesses in
    let on_table = g.met.P.Part.on_table in
    let parts = c.args.self.now.parts.now in
    let own = g.G.AccessPort.accesses c.args.self.now.guard.now in
    let other = g.G.AccessPort.rows c.args.self.now.guard.now in
    c.access.ensures.access
    ∙ sym (at_part table rows accesses on_table parts own other c.args.id c.in-Some.place c.index-self-place.result c.args.self.now.apart (sym c.part_with.ensures ∙ c.in-Some.is)).access

pub returns-in-Some-clause-holds : goal.returns-in-Some-clause-holds
returns-in-Some-clause-holds g c =
    let table = g.P.Part.table_of in
    let rows = g.P.AccessPort.rows in
    let accesses = g.P.AccessPort.accesses in
    let on_table = g.met.P.Part.on_table in
    let parts = c.args.self.now.parts.now in
    let own = g.G.AccessPort.accesses c.args.self.now.guard.now in
    let other = g.G.AccessPort.rows c.args.self.now.guard.now in
    holds_at table rows accesses on_table parts own other c.args.id _ c.access.result.now (at_part table rows accesses on_table parts own other c.args.id c.in-Some.place c.index-self-place.result c.args.self.now.apart (sym c.part_with.ensures ∙ c.in-Some.is)) c.access.ensures.access c.access.ensures.holds

pub returns-in-None-clause-access : goal.returns-in-None-clause-access
returns-in-None-clause-access g c =
    let table = g.P.Part.table_of in
    let rows = g.P.AccessPort.rows in
    let accesses = g.P.AccessPort.accesses in
    let on_table = g.met.P.Part.on_table in
    let parts = c.args.self.now.parts.now in
    let own = g.G.AccessPort.accesses c.args.self.now.guard.now in
    let other = g.G.AccessPort.rows c.args.self.now.guard.now in
    c.access-in-None.ensures.access ∙ sym (at_store table rows accesses on_table parts own other c.args.id c.args.self.now.once c.requires (sym c.part_with.ensures ∙ c.in-None.is)).access

pub returns-in-None-clause-holds : goal.returns-in-None-clause-holds
returns-in-None-clause-holds g c =
    let table = g.P.Part.table_of in
    let rows = g.P.AccessPort.rows in
    let accesses = g.P.AccessPort.accesses in
    let on_table = g.met.P.Part.on_table in
    let parts = c.args.self.now.parts.now in
    let own = g.G.AccessPort.accesses c.args.self.now.guard.now in
    let other = g.G.AccessPort.rows c.args.self.now.guard.now in
    holds_in_store table rows accesses on_table parts own other c.args.id c.access-in-None.result.now (at_store table rows accesses on_table parts own other c.args.id c.args.self.now.once c.requires (sym c.part_with.ensures ∙ c.in-None.is)) c.access-in-None.ensures.access c.access-in-None.ensures.holds

pub returns-in-Some-clause-bound : goal.returns-in-Some-clause-bound
returns-in-Some-clause-bound g c = c.access.ensures.bound

pub returns-in-None-clause-bound : goal.returns-in-None-clause-bound
returns-in-None-clause-bound g c = c.access-in-None.ensures.bound
