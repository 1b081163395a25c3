use Rattle.std.proofs.Common.{◌≡◌, sym, ap, [], true, Result, Ok, Err, OnOk}
use Rattle.std.proofs.lemmas.Bool.{false≢true}
use Rattle.outside.specs.Seen.{Sent}
use Rattle.beas_run.specs.Audiences.{unshown}
use Rattle.beas_run.proofs.audience.WriterAudience.TheImpl.Goals as goal

any_answer : {A E P : Type 0} (r : Result A E) → P → OnOk r P
any_answer (Ok a) p = p
any_answer (Err e) p = tt

-- a writer shows what stands on the output
shows : ((sent : Sent) → sent ≡ unshown) → ⊥
shows none = false≢true (sym (ap (λ (s : Sent). s.told) (none (record { told = true; bytes = []; faults = 0; puts = 0 }))))

pub take-tells : goal.take-tells
take-tells g c = record {
  took = any_answer c.result (λ reports taken. tt);
  whole = c.ensures.whole;
  part = c.ensures.part;
  unsent = c.ensures.unsent;
  out = c.ensures.out;
  put = c.ensures.put;
  put_fault = c.ensures.put_fault;
  put_once = c.ensures.put_once;
  unused = λ none. absurd (shows none);
}
