use Rattle.std.proofs.Common.{◌∙◌, ap}
use Rattle.clap.specs.Matches.{found_of}
use Rattle.command_line.specs.Arguments.{is_from_arguments}
use Rattle.command_line.proofs.Parsed.{is_given-found}
use Rattle.command_line.proofs.reading.is_given.Goals as goal

pub returns : goal.returns
returns c = c.is_from_arguments.ensures ∙ ap is_from_arguments c.value_source.ensures ∙ is_given-found (found_of c.args.matches.now) c.args.name.now
