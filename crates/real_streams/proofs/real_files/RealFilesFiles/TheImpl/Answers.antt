use Rattle.std.proofs.Common.{◌≡◌, ℕ, List, Result, Ok, Err, Some, None, true, false, IfOk, refl, arith}
use Rattle.outside.specs.declared.files.FilesError.{FilesError}
use Rattle.real_streams.proofs.real_files.RealFilesFiles.TheImpl.Goals as goal

-- what isn't told is never told wrongly
untold : (r : Result (List ℕ) FilesError) → IfOk r (λ bytes. false ≡ true → None ≡ Some bytes)
untold (Ok bytes) = λ told. cc
untold (Err why) = tt

pub read-tells : goal.read-tells
read-tells g c = record {
  later = record { told = refl; content = refl; faults = λ name. c.ensures.rise; taken = c.ensures.least };
  counted = c.ensures.loads;
  ok = untold c.result;
  fits = c.ensures.fits;
  failed = λ failed. omega (arith, c.ensures.failed failed);
  limit = c.ensures.limit;
  too_long = λ l long told. cc;
  too_many_taken = λ l long untold. omega (arith, c.ensures.all_taken l long);
}
