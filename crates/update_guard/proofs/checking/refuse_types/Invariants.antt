use Rattle.std.proofs.Common.{◌≡◌, take, is_some}
use Rattle.std.specs.Prelude.{find, All}
use Rattle.std.specs.List.{enumerate_from}
use Rattle.catalogue.specs.Database.{RowFits}
use Rattle.catalogue.specs.Refusing.{misfit}
use Rattle.update_guard.proofs.ScanFacts.{scan_from}
use Rattle.update_guard.proofs.checking.refuse_types.Given as goal

abbrev pub invariant-loop-i : goal.invariant-loop-i
invariant-loop-i l = record {
  none : find (λ r. is_some (misfit l.columns r.1)) (enumerate_from 1 l.rows) ≡ scan_from (λ r. is_some (misfit l.columns r.1)) 1 l.rows l.i;
  fit : All (RowFits l.columns) (take l.i l.rows);
}
