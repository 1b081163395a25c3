use Rattle.std.proofs.Common.{map}
use Rattle.name_resolution.specs.Meanings.{sources}
use Rattle.name_resolution.specs.Scopes.{source_of}
use Rattle.name_resolution.proofs.FewFacts.{few_names}
use Rattle.name_resolution.proofs.names.names_of_block.Goals as goal

pub returns-then-items-le-FEW-clause-names : goal.returns-then-items-le-FEW-clause-names
returns-then-items-le-FEW-clause-names c = λ ref.
    few_names (map source_of c.in_ok-atoms_in_order.field-0.items) (sources c.args.catalogue.now c.args.items.now) ref c.in_ok-atoms_in_order.ensures.sources
