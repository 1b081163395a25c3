use Rattle.std.proofs.Common.{◌++◌, ◌∷◌, ◌∙◌, [], ap, sym, get_or, take, append_assoc, arith}
use Rattle.beas_core.specs.Groups.{value_in}
use Rattle.block_walk.proofs.FetchedFacts.{copied_more, tuple_at}
use Rattle.block_walk.proofs.fetching.push_tuple.Goals as goal

pub loop-at-preserved : goal.loop-at-preserved
loop-at-preserved g c =
    let accesses = g.P.AccessPort.accesses c.args.port.now in
    let members = g.P.AccessPort.members c.args.port.now in
    let tuple = get_or (members c.args.hits.now) c.args.i [] in
    let columns = c.args.columns.now in
    let is = tuple_at accesses (g.P.AccessPort.stands c.args.port.now) members c.args.hits.now c.requires.hits columns c.requires.columns c.args.i
    c.requires.member in
    let j = c.loop-at.at in
    let at = get_or columns j (record { 0 = 0 }) in
    let len = c.loop-at.invariant.len in
    let long = c.in_ok-push_copy.ensures.len in
    let same = c.in_ok-push_copy.ensures.room in
    let room = c.loop-at.invariant.room in record {
      items = c.in_ok-push_copy.ensures.items
          ∙ ap (λ v. c.loop-at.values.items ++ v ∷ []) (c.value.ensures ∙ ap (λ cs. value_in cs tuple at) (sym c.requires.columns))
          ∙ ap (λ vs. vs ++ value_in columns tuple at ∷ []) c.loop-at.invariant.items
          ∙ append_assoc c.args.values.now.items (take j tuple) (value_in columns tuple at ∷ [])
          ∙ ap (λ vs. c.args.values.now.items ++ vs) (copied_more columns tuple is j (record { 0 = 0 }) (omega arith));
      len = omega (arith, len, long);
      room = omega (arith, same, room);
    }
