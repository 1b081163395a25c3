use Rattle.std.proofs.Common.{◌≡◌, take, true}
use Rattle.std.specs.List.{list_all}
use Rattle.beas_core.specs.Spelling.{continues_word}
use Rattle.beas_core.proofs.spelling.all_continue.Given as goal

abbrev pub invariant-loop-byte : goal.invariant-loop-byte
invariant-loop-byte l = list_all continues_word (take l.byte-index l.text) ≡ true
