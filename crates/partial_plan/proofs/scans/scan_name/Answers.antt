use Rattle.std.proofs.Common.{◌≡◌, true, subst, sym}
use Rattle.beas_core.specs.Spelling.{is_name}
use Rattle.partial_plan.proofs.PreparingFacts.{scan_is_name}
use Rattle.partial_plan.proofs.scans.scan_name.Goals as goal

pub from_text-requires : goal.from_text-requires
from_text-requires c = subst (λ t. is_name t ≡ true) (sym c.in_ok-from_str.ensures) scan_is_name
