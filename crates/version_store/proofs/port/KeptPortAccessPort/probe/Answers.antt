use Rattle.std.proofs.Common.{◌≤◌, ◌∙◌, ap, sym, subst, length}
use Rattle.beas_core.specs.declared.schema.Access.{Access}
use Rattle.desk_model.specs.Kept.{chosen, has_id, StandsWith}
use Rattle.desk_model.proofs.KeptFacts.{at_part, at_store, group_at, group_in_store, chosen_at, chosen_none, stands_from, stands_in_store, place_some, place_none}
use Rattle.version_store.proofs.port.KeptPortAccessPort.probe.Goals as goal

pub probe-requires-clause-live : goal.probe-requires-clause-live
probe-requires-clause-live g c =
    let table = g.P.Part.table_of in
    let rows = g.P.AccessPort.rows in
    let accesses = g.P.AccessPort.accesses in
    let on_table = g.met.P.Part.on_table in
    let parts = c.args.self.now.parts.now in
    let own = g.G.AccessPort.accesses c.args.self.now.guard.now in
    let other = g.G.AccessPort.rows c.args.self.now.guard.now in
    let found = sym c.part_with.ensures ∙ c.in-Some.is in
    let h = at_part table rows accesses on_table parts own other c.args.id c.in-Some.place c.index-self-place.result c.args.self.now.apart found in
    h.live

pub probe-requires-clause-width : goal.probe-requires-clause-width
probe-requires-clause-width g c =
    let table = g.P.Part.table_of in
    let rows = g.P.AccessPort.rows in
    let accesses = g.P.AccessPort.accesses in
    let on_table = g.met.P.Part.on_table in
    let parts = c.args.self.now.parts.now in
    let own = g.G.AccessPort.accesses c.args.self.now.guard.now in
    let other = g.G.AccessPort.rows c.args.self.now.guard.now in
    let found = sym c.part_with.ensures ∙ c.in-Some.is in
    let h = at_part table rows accesses on_table parts own other c.args.id c.in-Some.place c.index-self-place.result c.args.self.now.apart found in
    c.requires.width
    ∙ ap (λ (a : Access). length a.key) h.access

pub returns-in-Some-clause-members : goal.returns-in-Some-clause-members
returns-in-Some-clause-members g c =
    let table = g.P.Part.table_of in
    let rows = g.P.AccessPort.rows in
    let accesses = g.P.AccessPort.accesses in
    let on_table = g.met.P.Part.on_table in
    let parts = c.args.self.now.parts.now in
    let own = g.G.AccessPort.accesses c.args.self.now.guard.now in
    let other = g.G.AccessPort.rows c.args.self.now.guard.now in
    let found = sym c.part_with.ensures ∙ c.in-Some.is in
    let h = at_part table rows accesses on_table parts own other c.args.id c.in-Some.place c.index-self-place.result c.args.self.now.apart found in
    ap (λ i. chosen accesses (λ p. g.P.AccessPort.members p c.probe.result) parts (g.G.AccessPort.members c.args.self.now.guard.now c.probe.result) i) c.probe.ensures.access
    ∙ chosen_at table rows accesses on_table (λ p. g.P.AccessPort.members p c.probe.result) parts (g.G.AccessPort.members c.args.self.now.guard.now c.probe.result) c.args.id c.in-Some.place c.index-self-place.result found
    ∙ c.probe.ensures.members
    ∙ group_at table rows accesses on_table parts own other c.args.id _ c.args.key.now h

pub returns-in-Some-clause-len : goal.returns-in-Some-clause-len
returns-in-Some-clause-len g c =
    let table = g.P.Part.table_of in
    let rows = g.P.AccessPort.rows in
    let accesses = g.P.AccessPort.accesses in
    let on_table = g.met.P.Part.on_table in
    let parts = c.args.self.now.parts.now in
    let own = g.G.AccessPort.accesses c.args.self.now.guard.now in
    let other = g.G.AccessPort.rows c.args.self.now.guard.now in
    let found = sym c.part_with.ensures ∙ c.in-Some.is in
    let h = at_part table rows accesses on_table parts own other c.args.id c.in-Some.place c.index-self-place.result c.args.self.now.apart found in
    c.probe.ensures.len
    ∙ ap length (sym (ap (λ i. chosen accesses (λ p. g.P.AccessPort.members p c.probe.result) parts (g.G.AccessPort.members c.args.self.now.guard.now c.probe.result) i) c.probe.ensures.access
    ∙ chosen_at table rows accesses on_table (λ p. g.P.AccessPort.members p c.probe.result) parts (g.G.AccessPort.members c.args.self.now.guard.now c.probe.result) c.args.id c.in-Some.place c.index-self-place.result found))

pub returns-in-Some-clause-stands : goal.returns-in-Some-clause-stands
returns-in-Some-clause-stands g c =
    let table = g.P.Part.table_of in
    let rows = g.P.AccessPort.rows in
    let accesses = g.P.AccessPort.accesses in
    let on_table = g.met.P.Part.on_table in
    let parts = c.args.self.now.parts.now in
    let own = g.G.AccessPort.accesses c.args.self.now.guard.now in
    let other = g.G.AccessPort.rows c.args.self.now.guard.now in
    let found = sym c.part_with.ensures ∙ c.in-Some.is in
    let h = at_part table rows accesses on_table parts own other c.args.id c.in-Some.place c.index-self-place.result c.args.self.now.apart found in
    subst (λ i. StandsWith accesses (λ p. g.P.AccessPort.stands p c.probe.result) parts (g.G.AccessPort.stands c.args.self.now.guard.now c.probe.result) i) (sym c.probe.ensures.access) (stands_from table rows accesses on_table (λ p. g.P.AccessPort.stands p c.probe.result) parts (g.G.AccessPort.stands c.args.self.now.guard.now c.probe.result) c.args.id c.in-Some.place c.index-self-place.result (place_some (has_id accesses c.args.id) parts c.in-Some.place found).0 (place_some (has_id accesses c.args.id) parts c.in-Some.place found).1 c.probe.ensures.stands)

pub returns-in-Some-clause-bounded : goal.returns-in-Some-clause-bounded
returns-in-Some-clause-bounded g c =
    let table = g.P.Part.table_of in
    let rows = g.P.AccessPort.rows in
    let accesses = g.P.AccessPort.accesses in
    let on_table = g.met.P.Part.on_table in
    let parts = c.args.self.now.parts.now in
    let own = g.G.AccessPort.accesses c.args.self.now.guard.now in
    let other = g.G.AccessPort.rows c.args.self.now.guard.now in
    let found = sym c.part_with.ensures ∙ c.in-Some.is in
    let h = at_part table rows accesses on_table parts own other c.args.id c.in-Some.place c.index-self-place.result c.args.self.now.apart found in
    subst (λ (a : Access). c.probe.result.len ≤ a.bound) (sym h.access) c.probe.ensures.bounded

pub probe-requires-in-None-clause-live : goal.probe-requires-in-None-clause-live
probe-requires-in-None-clause-live g c =
    let table = g.P.Part.table_of in
    let rows = g.P.AccessPort.rows in
    let accesses = g.P.AccessPort.accesses in
    let on_table = g.met.P.Part.on_table in
    let parts = c.args.self.now.parts.now in
    let own = g.G.AccessPort.accesses c.args.self.now.guard.now in
    let other = g.G.AccessPort.rows c.args.self.now.guard.now in
    let found = sym c.part_with.ensures ∙ c.in-None.is in
    let h = at_store table rows accesses on_table parts own other c.args.id c.args.self.now.once c.requires.live found in
    h.live

pub probe-requires-in-None-clause-width : goal.probe-requires-in-None-clause-width
probe-requires-in-None-clause-width g c =
    let table = g.P.Part.table_of in
    let rows = g.P.AccessPort.rows in
    let accesses = g.P.AccessPort.accesses in
    let on_table = g.met.P.Part.on_table in
    let parts = c.args.self.now.parts.now in
    let own = g.G.AccessPort.accesses c.args.self.now.guard.now in
    let other = g.G.AccessPort.rows c.args.self.now.guard.now in
    let found = sym c.part_with.ensures ∙ c.in-None.is in
    let h = at_store table rows accesses on_table parts own other c.args.id c.args.self.now.once c.requires.live found in
    c.requires.width
    ∙ ap (λ (a : Access). length a.key) h.access

pub returns-in-None-clause-members : goal.returns-in-None-clause-members
returns-in-None-clause-members g c =
    let table = g.P.Part.table_of in
    let rows = g.P.AccessPort.rows in
    let accesses = g.P.AccessPort.accesses in
    let on_table = g.met.P.Part.on_table in
    let parts = c.args.self.now.parts.now in
    let own = g.G.AccessPort.accesses c.args.self.now.guard.now in
    let other = g.G.AccessPort.rows c.args.self.now.guard.now in
    let found = sym c.part_with.ensures ∙ c.in-None.is in
    let h = at_store table rows accesses on_table parts own other c.args.id c.args.self.now.once c.requires.live found in
    ap (λ i. chosen accesses (λ p. g.P.AccessPort.members p c.probe-in-None.result) parts (g.G.AccessPort.members c.args.self.now.guard.now c.probe-in-None.result) i) c.probe-in-None.ensures.access
    ∙ chosen_none table rows accesses on_table (λ p. g.P.AccessPort.members p c.probe-in-None.result) parts (g.G.AccessPort.members c.args.self.now.guard.now c.probe-in-None.result) c.args.id found
    ∙ c.probe-in-None.ensures.members
    ∙ group_in_store table rows accesses on_table parts own other c.args.id c.args.key.now h

pub returns-in-None-clause-len : goal.returns-in-None-clause-len
returns-in-None-clause-len g c =
    let table = g.P.Part.table_of in
    let rows = g.P.AccessPort.rows in
    let accesses = g.P.AccessPort.accesses in
    let on_table = g.met.P.Part.on_table in
    let parts = c.args.self.now.parts.now in
    let own = g.G.AccessPort.accesses c.args.self.now.guard.now in
    let other = g.G.AccessPort.rows c.args.self.now.guard.now in
    let found = sym c.part_with.ensures ∙ c.in-None.is in
    let h = at_store table rows accesses on_table parts own other c.args.id c.args.self.now.once c.requires.live found in
    c.probe-in-None.ensures.len
    ∙ ap length (sym (ap (λ i. chosen accesses (λ p. g.P.AccessPort.members p c.probe-in-None.result) parts (g.G.AccessPort.members c.args.self.now.guard.now c.probe-in-None.result) i) c.probe-in-None.ensures.access
    ∙ chosen_none table rows accesses on_table (λ p. g.P.AccessPort.members p c.probe-in-None.result) parts (g.G.AccessPort.members c.args.self.now.guard.now c.probe-in-None.result) c.args.id found))

pub returns-in-None-clause-stands : goal.returns-in-None-clause-stands
returns-in-None-clause-stands g c =
    let table = g.P.Part.table_of in
    let rows = g.P.AccessPort.rows in
    let accesses = g.P.AccessPort.accesses in
    let on_table = g.met.P.Part.on_table in
    let parts = c.args.self.now.parts.now in
    let own = g.G.AccessPort.accesses c.args.self.now.guard.now in
    let other = g.G.AccessPort.rows c.args.self.now.guard.now in
    let found = sym c.part_with.ensures ∙ c.in-None.is in
    let h = at_store table rows accesses on_table parts own other c.args.id c.args.self.now.once c.requires.live found in
    subst (λ i. StandsWith accesses (λ p. g.P.AccessPort.stands p c.probe-in-None.result) parts (g.G.AccessPort.stands c.args.self.now.guard.now c.probe-in-None.result) i) (sym c.probe-in-None.ensures.access) (stands_in_store table rows accesses on_table (λ p. g.P.AccessPort.stands p c.probe-in-None.result) parts (g.G.AccessPort.stands c.args.self.now.guard.now c.probe-in-None.result) c.args.id (place_none (has_id accesses c.args.id) parts found) c.probe-in-None.ensures.stands)

pub returns-in-None-clause-bounded : goal.returns-in-None-clause-bounded
returns-in-None-clause-bounded g c =
    let table = g.P.Part.table_of in
    let rows = g.P.AccessPort.rows in
    let accesses = g.P.AccessPort.accesses in
    let on_table = g.met.P.Part.on_table in
    let parts = c.args.self.now.parts.now in
    let own = g.G.AccessPort.accesses c.args.self.now.guard.now in
    let other = g.G.AccessPort.rows c.args.self.now.guard.now in
    let found = sym c.part_with.ensures ∙ c.in-None.is in
    let h = at_store table rows accesses on_table parts own other c.args.id c.args.self.now.once c.requires.live found in
    subst (λ (a : Access). c.probe-in-None.result.len ≤ a.bound) (sym h.access) c.probe-in-None.ensures.bounded
