use Rattle.std.proofs.lemmas.Map.Text.{btree_map_updates_str}
use Rattle.std.proofs.lemmas.Result.{on_ok_weaker}
use Rattle.name_resolution.specs.declared.scope.Scope.{Scope}
use Rattle.name_resolution.proofs.ScopeFacts.{scope_more}
use Rattle.name_resolution.proofs.scope.Scope.add.Goals as goal

pub returns : goal.returns
returns c =
    let new : Scope = record { atoms = c.insert.new.self; columns = c.add_columns.new.by_name } in
    on_ok_weaker c.add_columns.result (λ added sources count was fresh.
    scope_more c.args.self.now new sources c.args.atom c.args.alias c.args.columns
    (λ name. btree_map_updates_str c.args.alias.now c.args.self.now.atoms c.insert.new.self _ c.in_ok-insert.ensures.updates name) added count was fresh)
    c.add_columns.ensures
