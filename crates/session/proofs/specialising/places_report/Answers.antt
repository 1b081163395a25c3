use Rattle.std.proofs.Common.{◌∙◌, ap, sym}
use Rattle.std.specs.Option.{option_map}
use Rattle.std.specs.Prelude.{map}
use Rattle.report.specs.declared.reports.Report.TheVariants.{Specialised}
use Rattle.session.specs.Effects.{named_place}
use Rattle.session.proofs.StoreFacts.{schema_is_catalogue}
use Rattle.session.proofs.specialising.places_report.Goals as goal

pub returns : goal.returns
returns c =
    ap Specialised c.in_ok-places.ensures
    ∙ ap (λ s. Specialised (option_map (map (named_place s c.args.block.now)) c.args.places.now)) (sym (schema_is_catalogue c.args.store.now))
