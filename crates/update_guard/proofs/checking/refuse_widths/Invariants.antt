use Rattle.std.proofs.Common.{◌≡◌, ◌==◌, take, length, not}
use Rattle.std.specs.Prelude.{find, All}
use Rattle.std.specs.List.{enumerate_from}
use Rattle.update_guard.proofs.ScanFacts.{scan_from}
use Rattle.update_guard.proofs.checking.refuse_widths.Given as goal

abbrev pub invariant-loop-i : goal.invariant-loop-i
invariant-loop-i l = record {
  none : find (λ r. not (length r.1 == length l.columns)) (enumerate_from 1 l.rows) ≡ scan_from (λ r. not (length r.1 == length l.columns)) 1 l.rows l.i;
  wide : All (λ row. length row ≡ length l.columns) (take l.i l.rows);
}
