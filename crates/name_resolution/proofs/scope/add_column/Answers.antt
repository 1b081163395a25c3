use Rattle.std.proofs.Common.{◌∙◌, ap, cond, Some}
use Rattle.std.proofs.lemmas.Map.Text.{btree_map_updates_str}
use Rattle.std.specs.Str.{bytes_eq}
use Rattle.name_resolution.specs.Scopes.{found_at, one_more}
use Rattle.name_resolution.proofs.scope.add_column.Goals as goal

pub returns : goal.returns
returns c = λ name.
    btree_map_updates_str c.args.name.now c.args.by_name.now c.insert.new.self _ c.in_ok-insert.ensures.updates name
    ∙ ap (λ more. cond (bytes_eq c.args.name.now name) (Some more) (found_at c.args.by_name.now name))
    (c.one_more-more.ensures ∙ ap (λ found. one_more found c.args.column) (c.copied.ensures ∙ c.get.ensures.value))
