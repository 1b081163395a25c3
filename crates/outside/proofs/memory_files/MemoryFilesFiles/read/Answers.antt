use Rattle.std.proofs.Common.{◌≡◌}
use Rattle.outside.specs.declared.files.FilesError.TheVariants.{Failed}
use Rattle.outside.proofs.Contents.{rose_after}
use Rattle.outside.proofs.memory_files.MemoryFilesFiles.read.Goals as goal

pub returns-in-Err-Failed-clause-rose : goal.returns-in-Err-Failed-clause-rose
returns-in-Err-Failed-clause-rose c = λ failed.
    let is : c.fail.result ≡ Failed = cc in
    rose_after c.args.self.now.failed c.fail.new.self.failed c.args.name.now (c.fail.ensures.failed is)
