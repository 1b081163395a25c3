use Rattle.std.proofs.Common.{◌≡◌, ◌∙◌, ◌<◌, ◌+◌, ◌++◌, ◌∷◌, [], List, take, length, get_or, set, ap, sym, subst, arith, Option, None, length-set, length-take}
use Rattle.std.specs.Prelude.{option_map, Err}
use Rattle.std.specs.Option.{option_or}
use Rattle.std.proofs.lemmas.List.{get_or-set_same, set-get_or, take_all}
use Rattle.beas_core.specs.declared.refusal.Refusal.{Refusal}
use Rattle.beas_core.specs.Types.{Row}
use Rattle.catalogue.specs.Schema.{accesses_on}
use Rattle.catalogue.specs.Refusing.{broken, breaks_bound}
use Rattle.beas_core.specs.Results.{IsRefusedAs}
use Rattle.catalogue.proofs.ListFacts.{none_from_map}
use Rattle.update_guard.specs.Guarding.{IndexesOf}
use Rattle.catalogue.specs.Stored.{HoldOver}
use Rattle.update_guard.proofs.BoundFacts.{hold_after}
use Rattle.update_guard.proofs.InsertFacts.{refused_head, refusals_from, one_more, bound_step, bound_end, room_of}
use Rattle.update_guard.proofs.inserting.add_each.Goals as goal

pub put_row-requires-clause-room : goal.put_row-requires-clause-room
put_row-requires-clause-room g c =
    let k = c.requires.known in
    room_of c.args.catalogue.now.accesses k.rows c.args.table.0 k.own (take c.loop-i.i c.args.rows.now) 1 (length c.args.rows.now)
    (g.I.Indexes.seen c.loop-i.indexes) k.live k.few (omega (arith, c.loop-i-test.true, length-take c.loop-i.i c.args.rows.now))
    (c.loop-i.invariant.added k.rows k.own k.live k.is)

pub returns-in-Err-clause-refused : goal.returns-in-Err-clause-refused
returns-in-Err-clause-refused g c all live is hold =
    let accesses = c.args.catalogue.now.accesses in
    let own = get_or all c.args.table.0 [] in
    let rows = c.args.rows.now in
    let mine = accesses_on accesses c.args.table in
    let now = set all c.args.table.0 (own ++ take c.loop-i.i rows) in
    let whole : IndexesOf accesses (set all c.args.table.0 own) (g.I.Indexes.seen c.args.indexes.now) = subst (λ a. IndexesOf accesses a (g.I.Indexes.seen c.args.indexes.now))
    (sym (set-get_or all c.args.table.0 [])) is in
    let indexed = c.loop-i.invariant.added all own live whole in
    let held = c.loop-i.invariant.holds all live is hold in
    let long : c.args.table.0 < length now = omega (arith, live, length-set all c.args.table.0 (own ++ take c.loop-i.i rows)) in
    let told = c.in-Err.ensures.refused now long indexed held in
    let read : get_or now c.args.table.0 [] ≡ own ++ take c.loop-i.i rows = get_or-set_same all c.args.table.0 (own ++ take c.loop-i.i rows) [] live in
    let R : Option Refusal → Type 0 = λ r. IsRefusedAs {A = Unit {0}} (Err c.in-Err.why) r in
    subst R (sym (c.loop-i.invariant.refused all live is hold ∙ bound_step mine own rows c.loop-i.i c.index-rows-i.result c.loop-i-test.true c.index-rows-i.is))
    (refused_head (Unit {0}) c.in-Err.why (option_map (breaks_bound (c.loop-i.i + 1, c.index-rows-i.result))
    (broken mine ((own ++ take c.loop-i.i rows) ++ c.index-rows-i.result ∷ []))) (refusals_from mine own rows (c.loop-i.i + 1))
    (subst (λ xs. R (option_map (breaks_bound (c.loop-i.i + 1, c.index-rows-i.result)) (broken mine (xs ++ c.index-rows-i.result ∷ [])))) read told))

pub returns-in-Err-clause-err : goal.returns-in-Err-clause-err
returns-in-Err-clause-err g c all front live is =
    c.remove_rows.ensures.taken all front live (c.in-Err.ensures.err all (front ++ take c.loop-i.i c.args.rows.now) live
    (c.loop-i.invariant.added all front live is))

pub loop-i-preserved : goal.loop-i-preserved
loop-i-preserved g c =
    let accesses = c.args.catalogue.now.accesses in
    let rows = c.args.rows.now in
    let mine = accesses_on accesses c.args.table in
    let none : (all : List (List Row)) → c.args.table.0 < length all → IndexesOf accesses all (g.I.Indexes.seen c.args.indexes.now) → HoldOver accesses all
    → broken mine ((get_or all c.args.table.0 [] ++ take c.loop-i.i rows) ++ c.index-rows-i.result ∷ []) ≡ None =
    λ all live is hold.
    let own = get_or all c.args.table.0 [] in
    let now = set all c.args.table.0 (own ++ take c.loop-i.i rows) in
    let whole : IndexesOf accesses (set all c.args.table.0 own) (g.I.Indexes.seen c.args.indexes.now) = subst (λ a. IndexesOf accesses a (g.I.Indexes.seen c.args.indexes.now))
    (sym (set-get_or all c.args.table.0 [])) is in
    let long : c.args.table.0 < length now = omega (arith, live, length-set all c.args.table.0 (own ++ take c.loop-i.i rows)) in
    let told = c.in-Ok.ensures.refused now long (c.loop-i.invariant.added all own live whole) (c.loop-i.invariant.holds all live is hold) in
    ap (λ xs. broken mine (xs ++ c.index-rows-i.result ∷ [])) (sym (get_or-set_same all c.args.table.0 (own ++ take c.loop-i.i rows) [] live))
    ∙ none_from_map (breaks_bound (c.loop-i.i + 1, c.index-rows-i.result)) (broken mine (get_or now c.args.table.0 [] ++ c.index-rows-i.result ∷ [])) told in
    record {
      long = omega (arith, c.put_row.ensures.len, c.loop-i.invariant.long);
      added = λ all front live is.
          subst (λ own. IndexesOf accesses (set all c.args.table.0 own) (g.I.Indexes.seen c.put_row.new.indexes))
          (one_more front rows c.loop-i.i c.index-rows-i.result c.loop-i-test.true c.index-rows-i.is)
          (c.in-Ok.ensures.added all (front ++ take c.loop-i.i rows) live (c.loop-i.invariant.added all front live is));
      holds = λ all live is hold.
          let own = get_or all c.args.table.0 [] in
          hold_after accesses all c.args.table (own ++ take (c.loop-i.i + 1) rows) hold live
          (ap (broken mine) (sym (one_more own rows c.loop-i.i c.index-rows-i.result c.loop-i-test.true c.index-rows-i.is)) ∙ none all live is hold);
      refused = λ all live is hold.
          let own = get_or all c.args.table.0 [] in
          c.loop-i.invariant.refused all live is hold ∙ bound_step mine own rows c.loop-i.i c.index-rows-i.result c.loop-i-test.true c.index-rows-i.is
          ∙ ap (λ b. option_or (option_map (breaks_bound (c.loop-i.i + 1, c.index-rows-i.result)) b) (refusals_from mine own rows (c.loop-i.i + 1)))
          (none all live is hold);
    }

pub returns-clause-refused : goal.returns-clause-refused
returns-clause-refused g c all live is hold =
    c.loop-i.invariant.refused all live is hold
    ∙ bound_end (accesses_on c.args.catalogue.now.accesses c.args.table) (get_or all c.args.table.0 []) c.args.rows.now c.loop-i.i
    (omega (arith, c.loop-i-test.false))

pub returns-clause-added : goal.returns-clause-added
returns-clause-added g c all front live is =
    subst (λ xs. IndexesOf c.args.catalogue.now.accesses (set all c.args.table.0 (front ++ xs)) (g.I.Indexes.seen c.loop-i.indexes))
    (take_all c.loop-i.i c.args.rows.now (omega (arith, c.loop-i-test.false)))
    (c.loop-i.invariant.added all front live is)

pub returns-clause-hold : goal.returns-clause-hold
returns-clause-hold g c all live is hold =
    subst (λ xs. HoldOver c.args.catalogue.now.accesses (set all c.args.table.0 (get_or all c.args.table.0 [] ++ xs)))
    (take_all c.loop-i.i c.args.rows.now (omega (arith, c.loop-i-test.false)))
    (c.loop-i.invariant.holds all live is hold)
