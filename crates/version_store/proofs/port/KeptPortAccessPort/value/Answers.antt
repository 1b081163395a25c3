use Rattle.std.proofs.Common.{◌≡◌, ◌∙◌, sym, subst, position, Some, None, true}
use Rattle.beas_core.specs.declared.schema.Access.{Access}
use Rattle.beas_core.specs.Groups.{has_column, member_columns}
use Rattle.desk_model.specs.Kept.{has_id}
use Rattle.desk_model.proofs.KeptFacts.{at_part, at_store, chosen_at, chosen_none, stands_to, stands_of_store, place_some, place_none, value-at, value-in_store}
use Rattle.version_store.proofs.port.KeptPortAccessPort.value.Goals as goal

pub value-requires-clause-live : goal.value-requires-clause-live
value-requires-clause-live g c =
    let table = g.P.Part.table_of in
    let rows = g.P.AccessPort.rows in
    let accesses = g.P.AccessPort.accesses in
    let on_table = g.met.P.Part.on_table in
    let parts = c.args.self.now.parts.now in
    let own = g.G.AccessPort.accesses c.args.self.now.guard.now in
    let other = g.G.AccessPort.rows c.args.self.now.guard.now in
    let found = subst (λ i. position (has_id accesses i) parts ≡ Some c.in-Some.place) c.access.ensures (sym c.part_with.ensures ∙ c.in-Some.is) in
    let h = at_part table rows accesses on_table parts own other c.args.hits.now.access c.in-Some.place c.index-self-place.result c.args.self.now.apart found in
    h.live

pub value-requires-clause-stands : goal.value-requires-clause-stands
value-requires-clause-stands g c =
    let table = g.P.Part.table_of in
    let rows = g.P.AccessPort.rows in
    let accesses = g.P.AccessPort.accesses in
    let on_table = g.met.P.Part.on_table in
    let parts = c.args.self.now.parts.now in
    let own = g.G.AccessPort.accesses c.args.self.now.guard.now in
    let other = g.G.AccessPort.rows c.args.self.now.guard.now in
    let found = subst (λ i. position (has_id accesses i) parts ≡ Some c.in-Some.place) c.access.ensures (sym c.part_with.ensures ∙ c.in-Some.is) in
    let h = at_part table rows accesses on_table parts own other c.args.hits.now.access c.in-Some.place c.index-self-place.result c.args.self.now.apart found in
    stands_to table rows accesses on_table (λ p. g.P.AccessPort.stands p c.args.hits.now) parts (g.G.AccessPort.stands c.args.self.now.guard.now c.args.hits.now) c.args.hits.now.access c.in-Some.place c.index-self-place.result (place_some (has_id accesses c.args.hits.now.access) parts c.in-Some.place found).0 (place_some (has_id accesses c.args.hits.now.access) parts c.in-Some.place found).1 c.requires.stands

pub value-requires-clause-column : goal.value-requires-clause-column
value-requires-clause-column g c =
    let table = g.P.Part.table_of in
    let rows = g.P.AccessPort.rows in
    let accesses = g.P.AccessPort.accesses in
    let on_table = g.met.P.Part.on_table in
    let parts = c.args.self.now.parts.now in
    let own = g.G.AccessPort.accesses c.args.self.now.guard.now in
    let other = g.G.AccessPort.rows c.args.self.now.guard.now in
    let found = subst (λ i. position (has_id accesses i) parts ≡ Some c.in-Some.place) c.access.ensures (sym c.part_with.ensures ∙ c.in-Some.is) in
    let h = at_part table rows accesses on_table parts own other c.args.hits.now.access c.in-Some.place c.index-self-place.result c.args.self.now.apart found in
    subst (λ (a : Access). has_column (member_columns a) c.args.column ≡ true) h.access c.requires.column

pub returns-in-Some : goal.returns-in-Some
returns-in-Some g c =
    let table = g.P.Part.table_of in
    let rows = g.P.AccessPort.rows in
    let accesses = g.P.AccessPort.accesses in
    let on_table = g.met.P.Part.on_table in
    let parts = c.args.self.now.parts.now in
    let own = g.G.AccessPort.accesses c.args.self.now.guard.now in
    let other = g.G.AccessPort.rows c.args.self.now.guard.now in
    let found = subst (λ i. position (has_id accesses i) parts ≡ Some c.in-Some.place) c.access.ensures (sym c.part_with.ensures ∙ c.in-Some.is) in
    let h = at_part table rows accesses on_table parts own other c.args.hits.now.access c.in-Some.place c.index-self-place.result c.args.self.now.apart found in
    value-at table rows accesses on_table parts own other c.args.hits.now.access _ c.value.result.now c.args.i c.args.column _ _ h (chosen_at table rows accesses on_table (λ p. g.P.AccessPort.members p c.args.hits.now) parts (g.G.AccessPort.members c.args.self.now.guard.now c.args.hits.now) c.args.hits.now.access c.in-Some.place c.index-self-place.result found) c.value.ensures

pub value-requires-in-None-clause-live : goal.value-requires-in-None-clause-live
value-requires-in-None-clause-live g c =
    let table = g.P.Part.table_of in
    let rows = g.P.AccessPort.rows in
    let accesses = g.P.AccessPort.accesses in
    let on_table = g.met.P.Part.on_table in
    let parts = c.args.self.now.parts.now in
    let own = g.G.AccessPort.accesses c.args.self.now.guard.now in
    let other = g.G.AccessPort.rows c.args.self.now.guard.now in
    let found = subst (λ i. position (has_id accesses i) parts ≡ None) c.access.ensures (sym c.part_with.ensures ∙ c.in-None.is) in
    let h = at_store table rows accesses on_table parts own other c.args.hits.now.access c.args.self.now.once c.requires.live found in
    h.live

pub value-requires-in-None-clause-stands : goal.value-requires-in-None-clause-stands
value-requires-in-None-clause-stands g c =
    let table = g.P.Part.table_of in
    let rows = g.P.AccessPort.rows in
    let accesses = g.P.AccessPort.accesses in
    let on_table = g.met.P.Part.on_table in
    let parts = c.args.self.now.parts.now in
    let own = g.G.AccessPort.accesses c.args.self.now.guard.now in
    let other = g.G.AccessPort.rows c.args.self.now.guard.now in
    let found = subst (λ i. position (has_id accesses i) parts ≡ None) c.access.ensures (sym c.part_with.ensures ∙ c.in-None.is) in
    let h = at_store table rows accesses on_table parts own other c.args.hits.now.access c.args.self.now.once c.requires.live found in
    stands_of_store table rows accesses on_table (λ p. g.P.AccessPort.stands p c.args.hits.now) parts (g.G.AccessPort.stands c.args.self.now.guard.now c.args.hits.now) c.args.hits.now.access (place_none (has_id accesses c.args.hits.now.access) parts found) c.requires.stands

pub value-requires-in-None-clause-column : goal.value-requires-in-None-clause-column
value-requires-in-None-clause-column g c =
    let table = g.P.Part.table_of in
    let rows = g.P.AccessPort.rows in
    let accesses = g.P.AccessPort.accesses in
    let on_table = g.met.P.Part.on_table in
    let parts = c.args.self.now.parts.now in
    let own = g.G.AccessPort.accesses c.args.self.now.guard.now in
    let other = g.G.AccessPort.rows c.args.self.now.guard.now in
    let found = subst (λ i. position (has_id accesses i) parts ≡ None) c.access.ensures (sym c.part_with.ensures ∙ c.in-None.is) in
    let h = at_store table rows accesses on_table parts own other c.args.hits.now.access c.args.self.now.once c.requires.live found in
    subst (λ (a : Access). has_column (member_columns a) c.args.column ≡ true) h.access c.requires.column

pub returns-in-None : goal.returns-in-None
returns-in-None g c =
    let table = g.P.Part.table_of in
    let rows = g.P.AccessPort.rows in
    let accesses = g.P.AccessPort.accesses in
    let on_table = g.met.P.Part.on_table in
    let parts = c.args.self.now.parts.now in
    let own = g.G.AccessPort.accesses c.args.self.now.guard.now in
    let other = g.G.AccessPort.rows c.args.self.now.guard.now in
    let found = subst (λ i. position (has_id accesses i) parts ≡ None) c.access.ensures (sym c.part_with.ensures ∙ c.in-None.is) in
    let h = at_store table rows accesses on_table parts own other c.args.hits.now.access c.args.self.now.once c.requires.live found in
    value-in_store table rows accesses on_table parts own other c.args.hits.now.access c.value-in-None.result.now c.args.i c.args.column _ _ h (chosen_none table rows accesses on_table (λ p. g.P.AccessPort.members p c.args.hits.now) parts (g.G.AccessPort.members c.args.self.now.guard.now c.args.hits.now) c.args.hits.now.access found) c.value-in-None.ensures
