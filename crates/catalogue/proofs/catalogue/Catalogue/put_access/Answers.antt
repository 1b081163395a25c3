use Rattle.std.proofs.Common.{◌≡◌, ◌∙◌, ◌++◌, ◌∷◌, [], ap, sym, subst, map, cond, set, get_or, Some, ℕ, List}
use Rattle.std.specs.Str.{bytes_eq}
use Rattle.indexmap.specs.IndexMap.{get_by_text}
use Rattle.catalogue.specs.Schema.{Schema}
use Rattle.catalogue.specs.Kept.{MayMakeAccess, Ids}
use Rattle.catalogue.proofs.Keeping.{kept_with_access}
use Rattle.catalogue.proofs.catalogue.Catalogue.put_access.Goals as goal

pub invariant_of-self-2 : goal.invariant_of-self-2
invariant_of-self-2 c =
    let before : Schema = record { tables = c.self.inside.tables.items; accesses = c.self.inside.accesses; created = c.self.inside.created } in
    let inner = λ (ids : Ids). ids.items in
    let lists : map inner c.push_in.new.lists.items ≡ set (map inner c.self.inside.by_table.items) c.args.access.table.0
    (get_or (map inner c.self.inside.by_table.items) c.args.access.table.0 [] ++ c.args.access.id ∷ []) =
    c.push_in.ensures ∙ ap (λ ls. set ls c.args.access.table.0 (get_or ls c.args.access.table.0 [] ++ c.args.access.id ∷ [])) c.reserve_in.ensures.same in
    let names : (q : List ℕ) → get_by_text c.put.new.self.numbers q
    ≡ cond (bytes_eq c.args.access.name q) (Some c.args.access.id.0) (get_by_text c.self.inside.access_ids.numbers q) =
    λ q. c.put.ensures q
    ∙ ap (λ n. cond (bytes_eq n q) (Some c.args.access.id.0) (get_by_text c.prepare.new.self.numbers q)) c.in_ok-key.ensures.copy
    ∙ ap (cond (bytes_eq c.args.access.name q) (Some c.args.access.id.0)) (c.in_ok-key.ensures.same q) in
    rw (c.in_ok-push.ensures.ok, lists)
    (kept_with_access before c.args.access (get_by_text c.self.inside.table_numbers.numbers) (get_by_text c.self.inside.access_ids.numbers)
    (get_by_text c.put.new.self.numbers) (map inner c.self.inside.by_table.items)
    (subst (λ s. MayMakeAccess s c.args.access) (sym c.self.view_is) c.requires) c.self.invariant names)
