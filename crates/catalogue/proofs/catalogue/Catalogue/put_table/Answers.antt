use Rattle.std.proofs.Common.{◌≡◌, ◌∙◌, ◌++◌, ◌∷◌, [], ap, sym, subst, map, cond, Some, length, ℕ, List}
use Rattle.std.specs.Str.{bytes_eq}
use Rattle.std.proofs.lemmas.List.{map-append}
use Rattle.indexmap.specs.IndexMap.{get_by_text}
use Rattle.catalogue.specs.declared.tables.TableSchema.{TableSchema}
use Rattle.catalogue.specs.Schema.{Schema}
use Rattle.catalogue.specs.Kept.{MayMakeTable, Ids}
use Rattle.catalogue.proofs.Keeping.{kept_with_table}
use Rattle.catalogue.proofs.catalogue.Catalogue.put_table.Goals as goal

pub invariant_of-self-2 : goal.invariant_of-self-2
invariant_of-self-2 c =
    let table : TableSchema = record { name = c.args.name; columns = c.args.columns } in
    let before : Schema = record { tables = c.self.inside.tables.items; accesses = c.self.inside.accesses; created = c.self.inside.created } in
    let inner = λ (ids : Ids). ids.items in
    let tables : c.push_in_room.new.items.items ≡ c.self.inside.tables.items ++ table ∷ [] =
    c.push_in_room.ensures ∙ ap (λ ts. ts ++ table ∷ []) c.in_ok-reserve.ensures.items in
    let lists : map inner c.push_in_room-2.new.items.items ≡ map inner c.self.inside.by_table.items ++ [] ∷ [] =
    ap (map inner) (c.push_in_room-2.ensures ∙ ap (λ ls. ls ++ c.new.result ∷ []) c.in_ok-reserve-2.ensures.items)
    ∙ map-append inner c.self.inside.by_table.items (c.new.result ∷ [])
    ∙ ap (λ ids. map inner c.self.inside.by_table.items ++ ids ∷ []) c.new.ensures.items in
    let names : (q : List ℕ) → get_by_text c.put.new.self.numbers q
    ≡ cond (bytes_eq c.args.name q) (Some (length c.self.inside.tables.items)) (get_by_text c.self.inside.table_numbers.numbers q) =
    λ q. c.put.ensures q
    ∙ ap (λ n. cond (bytes_eq n q) (Some c.len-id.result) (get_by_text c.prepare.new.self.numbers q)) c.in_ok-key.ensures.copy
    ∙ ap (λ n. cond (bytes_eq c.args.name q) (Some n) (get_by_text c.prepare.new.self.numbers q)) (c.len-id.ensures ∙ c.self.inside.tables.ok.0)
    ∙ ap (cond (bytes_eq c.args.name q) (Some (length c.self.inside.tables.items))) (c.in_ok-key.ensures.same q) in
    rw (tables, lists)
    (kept_with_table before table (get_by_text c.self.inside.table_numbers.numbers) (get_by_text c.put.new.self.numbers)
    (get_by_text c.self.inside.access_ids.numbers) (map inner c.self.inside.by_table.items)
    (subst (λ s. MayMakeTable s table) (sym c.self.view_is) c.requires) c.self.invariant names)
