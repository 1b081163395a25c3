use Rattle.std.proofs.Common.{sym, ◌∙◌, ap, None}
use Rattle.std.specs.Option.{option_map_or}
use Rattle.name_resolution.specs.Meanings.{columns_in}
use Rattle.name_resolution.specs.Scopes.{found_in, found_at, found_among}
use Rattle.name_resolution.proofs.scope.Scope.find.Goals as goal

pub returns-in-Some-get : goal.returns-in-Some-get
returns-in-Some-get c =
    let name = c.args.reference.now.column in
    c.find_in.ensures ∙ ap (λ n. found_in (columns_in c.in-Some-get.atom.now.atom n c.in-Some-get.atom.now.columns.now)) c.as_str-in-Some-get.ensures
    ∙ sym (ap (λ t. found_among (found_at c.args.self.now.columns) (found_at c.args.self.now.atoms) t name) c.in-Some.is
    ∙ ap (λ o. option_map_or (λ a. found_in (columns_in a.atom name a.columns.now)) o None)
    (ap (found_at c.args.self.now.atoms) (sym c.as_str.ensures) ∙ sym c.in-Some-get.ensures.value))
