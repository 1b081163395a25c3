use Rattle.std.proofs.Common.{◌∙◌, ◌+◌, ◌%◌, ◌<◌, ap, refl, subst, List, ℕ}
use Rattle.std.specs.Prelude.{slice_index}
use Rattle.beas_core.specs.Spelling.{reserved_words}
use Rattle.beas_core.proofs.FoldedFacts.{by_look}
use Rattle.beas_core.proofs.folded_names.is_reserved.Goals as goal

pub returns : goal.returns
unfolding reserved_words
returns c =
    let read = c.first_byte-first.ensures ∙ ap (λ (t : List ℕ). slice_index t 0) c.as_bytes.ensures.value in
    c.is_in_list.ensures ∙ by_look _ _ c.args.word.now refl (c.from.ensures ∙ ap (λ n. (n + 159) % 256) read) (subst (λ n. n < 256) read c.first_byte-first.type_inv)
