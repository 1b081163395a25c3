use Rattle.std.proofs.Common.{◌≡◌, take, true}
use Rattle.std.specs.List.{list_all}
use Rattle.beas_core.specs.FoldedWords.{goes_on_folded}
use Rattle.beas_core.proofs.folded_names.all_go_on.Given as goal

abbrev pub invariant-loop-byte : goal.invariant-loop-byte
invariant-loop-byte l = list_all goes_on_folded (take l.byte-index l.text) ≡ true
