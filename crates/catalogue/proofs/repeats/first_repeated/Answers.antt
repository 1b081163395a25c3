use Rattle.std.proofs.Common.{◌≡◌, ◌∙◌, ◌<◌, ◌≤◌, [], take, map, length, get_or, ap, sym, Some, is_some, true, false, arith}
use Rattle.std.specs.List.{list_any}
use Rattle.std.specs.Str.{bytes_eq}
use Rattle.std.proofs.lemmas.List.{get_or-map, length-map}
use Rattle.std.proofs.lemmas.Map.Text.{hash_map_updates_str}
use Rattle.indexmap.specs.IndexMap.{get_by}
use Rattle.catalogue.proofs.RepeatFacts.{repeated_step, seen_more, some_of, repeated_end}
use Rattle.catalogue.proofs.repeats.first_repeated.Goals as goal

pub returns-then-is_some : goal.returns-then-is_some
returns-then-is_some g c =
    let names = map g.T.Named.name_of c.args.items.now in
    let i = c.loop-item.item-index in
    let within : i < length names = simp length-map (omega arith) in
    let here : get_or names i [] ≡ c.name-name.result.now =
    get_or-map g.T.Named.name_of c.args.items.now i c.item-item.result [] (omega arith) ∙ ap g.T.Named.name_of (sym c.item-item.is) ∙ sym c.name-name.ensures in
    let stood : true ≡ list_any (bytes_eq c.name-name.result.now) (take i names) =
    sym c.if-is_some.true ∙ c.is_some.ensures ∙ ap is_some c.in_ok-insert.ensures.old ∙ c.loop-item.invariant.seen c.as_str.result.now
    ∙ ap (λ n. list_any (bytes_eq n) (take i names)) c.as_str.ensures in
    sym (c.loop-item.invariant.none ∙ repeated_step names i c.name-name.result.now true within here stood)

pub loop-item-preserved : goal.loop-item-preserved
loop-item-preserved g c =
    let names = map g.T.Named.name_of c.args.items.now in
    let i = c.loop-item.item-index in
    let within : i < length names = simp length-map (omega arith) in
    let here : get_or names i [] ≡ c.as_str.result.now =
    get_or-map g.T.Named.name_of c.args.items.now i c.item-item.result [] (omega arith) ∙ ap g.T.Named.name_of (sym c.item-item.is)
    ∙ sym c.name-name.ensures ∙ sym c.as_str.ensures in
    let stood : false ≡ list_any (bytes_eq c.as_str.result.now) (take i names) =
    sym c.if-is_some.false ∙ c.is_some.ensures ∙ ap is_some c.in_ok-insert.ensures.old ∙ c.loop-item.invariant.seen c.as_str.result.now in
    record {
      seen = λ q.
          ap is_some (hash_map_updates_str c.as_str.result.now c.loop-item.seen c.insert.new.self (Some tt) c.in_ok-insert.ensures.updates q)
          ∙ some_of (bytes_eq c.as_str.result.now q) tt (get_by (λ k. bytes_eq q k.now) c.loop-item.seen)
          ∙ seen_more names i c.as_str.result.now q _ within here (c.loop-item.invariant.seen q);
      none = c.loop-item.invariant.none ∙ repeated_step names i c.as_str.result.now false within here stood;
    }

pub returns : goal.returns
returns g c =
    let names = map g.T.Named.name_of c.args.items.now in
    let past : length names ≤ c.loop-item.item-index = simp length-map (omega arith) in
    sym (c.loop-item.invariant.none ∙ repeated_end names c.loop-item.item-index past)
