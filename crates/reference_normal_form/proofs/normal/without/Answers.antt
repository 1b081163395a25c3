use Rattle.std.proofs.Common.{not, ap, ◌∙◌}
use Rattle.std.specs.List.{filter}
use Rattle.reference_normal_form.specs.Joined.{has_place}
use Rattle.reference_normal_form.proofs.Joins.{without_joined}
use Rattle.reference_normal_form.proofs.normal.without.Goals as goal

pub returns : goal.returns
returns c =
    c.in_ok-others.ensures
    ∙ ap (λ js. filter (λ q. not (has_place js q)) c.args.places.now) (c.as_slice.ensures ∙ c.in_ok-joined.ensures)
    ∙ without_joined c.args.equalities.now c.args.place c.args.places.now
