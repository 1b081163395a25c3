use Rattle.std.specs.Prelude.{Ok}
use Rattle.std.proofs.Common.{◌∙◌, ap}
use Rattle.beas_core.proofs.Sets.{Contains-from_has}
use Rattle.desk_model.specs.Pieces.{seen_turns}
use Rattle.desk_model.specs.PlainScripts.{statement_turns}
use Rattle.desk_model.proofs.PlainFacts.{plain_script, seen_beside}
use Rattle.desk_model.proofs.laws.law_plain_script.Goals as goal

pub returns : goal.returns
returns c = λ s state readings outcomes sound idle formed.
    let same = plain_script s readings (λ statement m. formed statement (Contains-from_has readings (Ok statement) m)) state outcomes idle sound in
    (same, ap seen_turns same ∙ seen_beside state.queries (statement_turns s state.db readings outcomes))
