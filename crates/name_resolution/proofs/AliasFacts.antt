-- The first alias of a block's items that stands among those before it.
--     OnceBelow items i       none of those before place i does
use Rattle.std.proofs.Common.{◌≡◌, ℕ, ◌+◌, ◌<◌, ◌≤◌, ◌||◌, List, [], ◌∷◌, ◌++◌, length, take, get_or, refl, ap, arith, sym, ◌∙◌, cond, Bool, true, false, map, Option, Some, None}
use Rattle.std.specs.Prelude.{option_map}
use Rattle.std.specs.List.{list_any}
use Rattle.std.specs.Option.{option_to_list}
use Rattle.std.specs.Str.{bytes_eq}
use Rattle.std.specs.Cmp.Lexicographic.{nat_list_eq_equiv}
use Rattle.std.proofs.lemmas.List.{length-take-le, map_more, take-map, get_or-map, length-map}
use Rattle.beas_core.specs.declared.refusal.Refusal.{Refusal}
use Rattle.beas_core.specs.declared.refusal.Refusal.TheVariants.{DuplicateName}
use Rattle.sql_text.specs.declared.tree.FromItem.{FromItem}
use Rattle.catalogue.specs.Refusing.{first_repeated, repeated_name}
use Rattle.catalogue.specs.Schema.{Schema}
use Rattle.catalogue.proofs.RepeatFacts.{repeated_from, repeated_step, repeated_end}
use Rattle.beas_core.specs.declared.schema.Column.{Column}
use Rattle.name_resolution.specs.Meanings.{Source, sources, columns_named}
use Rattle.name_resolution.specs.Refusing.{repeated_among, first}

abbrev aliases_in : List FromItem → List (List ℕ)
aliases_in items = map (λ item. item.alias) items

pub record OnceBelow (items : List FromItem) (i : ℕ) : Type 0 where
  pub once : first_repeated (aliases_in items) ≡ repeated_from (aliases_in items) i

pub once_at_first : (items : List FromItem) → OnceBelow items 0
once_at_first items = record { once = refl }

first_of : (why : Option Refusal) → first (option_to_list why) ≡ why
first_of None = refl
first_of (Some why) = refl

among : (items : List FromItem) → first (repeated_among items) ≡ option_map DuplicateName (first_repeated (aliases_in items))
unfolding repeated_among
among items = first_of (repeated_name (aliases_in items))

aliases_are : (schema : Schema) (items : List FromItem) (name : List ℕ)
    → list_any (λ s. bytes_eq s.alias name) (sources schema items) ≡ list_any (bytes_eq name) (aliases_in items)
aliases_are schema [] name = refl
aliases_are schema (item ∷ items) name =
    ap (λ b. b || list_any (λ s. bytes_eq s.alias name) (sources schema items)) (nat_list_eq_equiv.symm item.alias name)
    ∙ ap (λ b. bytes_eq name item.alias || b) (aliases_are schema items name)

seen_before : (schema : Schema) (items : List FromItem) (i : ℕ) (name : List ℕ)
    → list_any (λ s. bytes_eq s.alias name) (sources schema (take i items)) ≡ list_any (bytes_eq name) (take i (aliases_in items))
seen_before schema items i name =
    aliases_are schema (take i items) name ∙ ap (list_any (bytes_eq name)) (sym (take-map (λ (item : FromItem). item.alias) i items))

alias_below : (items : List FromItem) (i : ℕ) → i < length items → i < length (aliases_in items)
alias_below items i below = rw (length-map items (λ (item : FromItem). item.alias)) below

alias_at : (items : List FromItem) (i : ℕ) (item : FromItem) → i < length items → item ≡ get_or items i item
    → get_or (aliases_in items) i [] ≡ item.alias
alias_at items i item below is =
    get_or-map (λ (item : FromItem). item.alias) items i item [] below ∙ sym (ap (λ (item : FromItem). item.alias) is)

one_further : (schema : Schema) (items : List FromItem) (i : ℕ) (item : FromItem) (stood : Bool) → i < length items → item ≡ get_or items i item
    → list_any (λ s. bytes_eq s.alias item.alias) (sources schema (take i items)) ≡ stood → OnceBelow items i
    → first_repeated (aliases_in items) ≡ cond stood (Some item.alias) (repeated_from (aliases_in items) (i + 1))
one_further schema items i item stood below is seen so_far =
    so_far.once
    ∙ repeated_step (aliases_in items) i item.alias stood (alias_below items i below) (alias_at items i item below is)
    (sym seen ∙ seen_before schema items i item.alias)

pub repeated_here : (schema : Schema) (items : List FromItem) (i : ℕ) (item : FromItem) → i < length items → item ≡ get_or items i item
    → list_any (λ s. bytes_eq s.alias item.alias) (sources schema (take i items)) ≡ true → OnceBelow items i
    → first (repeated_among items) ≡ Some (DuplicateName item.alias)
repeated_here schema items i item below is seen so_far =
    among items ∙ ap (option_map DuplicateName) (one_further schema items i item true below is seen so_far)

pub fresh_here : (schema : Schema) (items : List FromItem) (i : ℕ) (item : FromItem) → i < length items → item ≡ get_or items i item
    → list_any (λ s. bytes_eq s.alias item.alias) (sources schema (take i items)) ≡ false → OnceBelow items i → OnceBelow items (i + 1)
fresh_here schema items i item below is fresh so_far = record { once = one_further schema items i item false below is fresh so_far }

pub none_repeated : (items : List FromItem) (n : ℕ) → OnceBelow items n → length items ≤ n → first (repeated_among items) ≡ None
none_repeated items n so_far all =
    among items ∙ ap (option_map DuplicateName)
    (so_far.once ∙ repeated_end (aliases_in items) n (rw (length-map items (λ (item : FromItem). item.alias)) all))

pub sources_to : (schema : Schema) (items : List FromItem) (i : ℕ) (item : FromItem) (alias : List ℕ) (columns : List Column) → i < length items
    → item ≡ get_or items i item
    → alias ≡ item.alias → columns ≡ columns_named schema item.table
    → sources schema (take i items) ++ record { alias = alias; columns = columns } ∷ [] ≡ sources schema (take (i + 1) items)
sources_to schema items i item alias columns below is named has =
    let source : List ℕ → List Column → Source = λ a cs. record { alias = a; columns = cs } in
    let of_item : FromItem → Source = λ item. record { alias = item.alias; columns = columns_named schema item.table } in
    ap (λ a. sources schema (take i items) ++ source a columns ∷ []) named ∙ ap (λ cs. sources schema (take i items) ++ source item.alias cs ∷ []) has
    ∙ ap (λ (item : FromItem). sources schema (take i items) ++ of_item item ∷ []) is
    ∙ sym (map_more of_item items i item below)

pub count_to : (schema : Schema) (items : List FromItem) (i : ℕ) → i < length items → length (sources schema (take i items)) ≡ i
count_to schema items i below = length-map (take i items) _ ∙ length-take-le i items (omega arith)
