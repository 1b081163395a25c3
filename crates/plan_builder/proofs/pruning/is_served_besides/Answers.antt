use Rattle.std.proofs.Common.{ℕ, ◌+◌, ◌<◌, ◌||◌, ◌∙◌, List, ap, arith, drop, get_or, length, map, sym, take}
use Rattle.std.proofs.lemmas.List.{length-map, take-map}
use Rattle.beas_core.proofs.MemberTests.{or_left}
use Rattle.attribute_closure.specs.declared.uses.UseAt.{UseAt}
use Rattle.attribute_closure.specs.Uses.{as_use}
use Rattle.plan_builder.specs.Plans.{served_among}
use Rattle.plan_builder.proofs.FrontFacts.{at_use, served_besides, served_outside, uses_from}
use Rattle.plan_builder.proofs.pruning.is_served_besides.Goals as goal

within : (uses : List UseAt) (place : ℕ) → place < length uses → place < length (map as_use uses)
within uses place there = omega (arith, there, length-map uses as_use)

pub returns-then-from-len : goal.returns-then-from-len
returns-then-from-len c =
    let item = c.index-uses-place.result in
    let past = c.if-from-len.true in
    let own = ap (λ (u : UseAt). u.atom) c.index-uses-place.is in
    let atom = c.from.ensures in
    let count = c.len.ensures in
    λ all. served_outside c.args.block.now (map as_use c.args.uses.now) c.args.place (as_use item)
    (at_use c.args.uses.now c.args.place item c.index-uses-place.is) (within c.args.uses.now c.args.place c.requires) all (omega (arith, past, own, atom, count))

pub returns-then-is_served_among : goal.returns-then-is_served_among
returns-then-is_served_among c =
    let us = map as_use c.args.uses.now in
    let item = c.index-uses-place.result in
    let inside = c.if-from-len.false in
    let own = ap (λ (u : UseAt). u.atom) c.index-uses-place.is in
    let atom = c.from.ensures in
    let count = c.len.ensures in
    let first = c.is_served_among.ensures ∙ ap (λ n. served_among c.args.block.now n (map as_use (take c.args.place c.args.uses.now))) (sym own)
    ∙ ap (served_among c.args.block.now item.atom) (sym (take-map as_use c.args.place c.args.uses.now)) in
    let yes = c.if-is_served_among.true in
    λ all. served_besides c.args.block.now us c.args.place (as_use item) (at_use c.args.uses.now c.args.place item c.index-uses-place.is)
    (within c.args.uses.now c.args.place c.requires) all c.is_served_among.result (omega (arith, inside, own, atom, count))
    (yes ∙ sym (or_left (served_among c.args.block.now item.atom (take c.args.place us))
    (served_among c.args.block.now item.atom (drop (c.args.place + 1) us)) (sym first ∙ yes)))

pub returns-else-is_served_among : goal.returns-else-is_served_among
returns-else-is_served_among c =
    let us = map as_use c.args.uses.now in
    let item = c.index-uses-place.result in
    let inside = c.if-from-len.false in
    let own = ap (λ (u : UseAt). u.atom) c.index-uses-place.is in
    let atom = c.from.ensures in
    let count = c.len.ensures in
    let first = c.is_served_among.ensures ∙ ap (λ n. served_among c.args.block.now n (map as_use (take c.args.place c.args.uses.now))) (sym own)
    ∙ ap (served_among c.args.block.now item.atom) (sym (take-map as_use c.args.place c.args.uses.now)) in
    let later = c.is_served_among-else-is_served_among.ensures
    ∙ ap (served_among c.args.block.now (get_or c.args.uses.now c.args.place item).atom) (uses_from c.args.uses.now (c.args.place + 1))
    ∙ ap (λ n. served_among c.args.block.now n (drop (c.args.place + 1) us)) (sym own) in
    let no = c.if-is_served_among.false in
    λ all. served_besides c.args.block.now us c.args.place (as_use item) (at_use c.args.uses.now c.args.place item c.index-uses-place.is)
    (within c.args.uses.now c.args.place c.requires) all c.is_served_among-else-is_served_among.result (omega (arith, inside, own, atom, count))
    (later ∙ sym (ap (λ a. a || served_among c.args.block.now item.atom (drop (c.args.place + 1) us)) (sym first ∙ no)))
