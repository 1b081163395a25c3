use Rattle.std.proofs.Common.{◌∙◌, ◌++◌, [], List, length, get_or, set, sym, subst, arith, append-nil}
use Rattle.std.proofs.lemmas.Result.{on_ok_weaker, on_err_weaker}
use Rattle.beas_core.specs.Types.{Row}
use Rattle.catalogue.specs.Schema.{accesses_on}
use Rattle.update_guard.specs.Guarding.{IndexesOf}
use Rattle.update_guard.proofs.BoundFacts.{hold_after, none_of, none_refused}
use Rattle.update_guard.proofs.InsertFacts.{room_of, LeftBy, as_before}
use Rattle.update_guard.proofs.inserting.add_rows.Goals as goal

pub add_all-requires-clause-room : goal.add_all-requires-clause-room
add_all-requires-clause-room g c =
    let k = c.requires.known in
    let accesses = c.args.catalogue.now.accesses in
    let n = length c.args.rows.now in
    room_of accesses k.rows c.args.table.0 k.own [] n n (g.I.Indexes.seen c.args.indexes.now) k.live k.few (omega arith)
    (subst (λ (own : List Row). IndexesOf accesses (set k.rows c.args.table.0 own) (g.I.Indexes.seen c.args.indexes.now)) (sym (append-nil k.own)) k.is)

pub returns-then-branch-clause-refused : goal.returns-then-branch-clause-refused
returns-then-branch-clause-refused g c all live is hold =
    let mine = accesses_on c.args.catalogue.now.accesses c.args.table in
    let none = none_of _ (c.in_ok-add_all.ensures.broken all live is hold ∙ c.if-branch.true) in
    none_refused mine (get_or all c.args.table.0 []) c.args.rows.now none

pub returns-then-branch-clause-added : goal.returns-then-branch-clause-added
returns-then-branch-clause-added g c =
    subst (LeftBy c.args.catalogue.now.accesses c.args.table.0 c.args.rows.now (g.I.Indexes.seen c.args.indexes.now) (g.I.Indexes.seen c.add_all.new.indexes))
    c.if-branch.true c.in_ok-add_all.ensures.indexed

pub returns-then-branch-clause-hold : goal.returns-then-branch-clause-hold
returns-then-branch-clause-hold g c all live is hold =
    let none = none_of _ (c.in_ok-add_all.ensures.broken all live is hold ∙ c.if-branch.true) in
    hold_after c.args.catalogue.now.accesses all c.args.table (get_or all c.args.table.0 [] ++ c.args.rows.now) hold live none

pub add_each-requires-2-clause-known : goal.add_each-requires-2-clause-known
add_each-requires-2-clause-known g c =
    let k = c.requires.known in
    let left = subst (LeftBy c.args.catalogue.now.accesses c.args.table.0 c.args.rows.now (g.I.Indexes.seen c.args.indexes.now) (g.I.Indexes.seen c.add_all.new.indexes))
    c.if-branch.false c.in_ok-add_all.ensures.indexed in
    record { rows = k.rows; own = k.own; live = k.live; is = left k.rows k.own k.live k.is; few = k.few }

pub returns-clause-refused : goal.returns-clause-refused
returns-clause-refused g c all live is hold =
    let accesses = c.args.catalogue.now.accesses in
    let old = (g.I.Indexes.seen c.args.indexes.now) in
    let new = (g.I.Indexes.seen c.add_all.new.indexes) in
    let left = subst (LeftBy accesses c.args.table.0 c.args.rows.now old new) c.if-branch.false c.in_ok-add_all.ensures.indexed in
    c.add_each-2.ensures.refused all live (as_before accesses c.args.table.0 c.args.rows.now old new all left live is) hold

pub returns-clause-added : goal.returns-clause-added
returns-clause-added g c =
    let left = subst (LeftBy c.args.catalogue.now.accesses c.args.table.0 c.args.rows.now (g.I.Indexes.seen c.args.indexes.now) (g.I.Indexes.seen c.add_all.new.indexes))
    c.if-branch.false c.in_ok-add_all.ensures.indexed in
    on_ok_weaker c.add_each-2.result (λ added all front live is. added all front live (left all front live is)) c.add_each-2.ensures.added

pub returns-clause-hold : goal.returns-clause-hold
returns-clause-hold g c =
    let accesses = c.args.catalogue.now.accesses in
    let old = (g.I.Indexes.seen c.args.indexes.now) in
    let new = (g.I.Indexes.seen c.add_all.new.indexes) in
    let left = subst (LeftBy accesses c.args.table.0 c.args.rows.now old new) c.if-branch.false c.in_ok-add_all.ensures.indexed in
    on_ok_weaker c.add_each-2.result
    (λ holds all live is hold. holds all live (as_before accesses c.args.table.0 c.args.rows.now old new all left live is) hold) c.add_each-2.ensures.hold

pub returns-clause-err : goal.returns-clause-err
returns-clause-err g c =
    let left = subst (LeftBy c.args.catalogue.now.accesses c.args.table.0 c.args.rows.now (g.I.Indexes.seen c.args.indexes.now) (g.I.Indexes.seen c.add_all.new.indexes))
    c.if-branch.false c.in_ok-add_all.ensures.indexed in
    on_err_weaker c.add_each-2.result (λ kept all front live is. kept all front live (left all front live is)) c.add_each-2.ensures.err
