use Rattle.std.proofs.Common.{◌≡◌, sym, ◌∙◌, ap, subst, true}
use Rattle.beas_core.specs.Spelling.{is_word, is_reserved, is_name}
use Rattle.beas_core.proofs.Identifiers.{is_name-folded}
use Rattle.beas_core.proofs.names.Name.of.Goals as goal

pub from_text-requires : goal.from_text-requires
from_text-requires c =
    let word = sym (ap is_word c.as_bytes.ensures.value) ∙ sym c.is_a_word.ensures ∙ c.if-not-is_a_word.false in
    let free = sym (ap is_reserved (c.as_str.ensures.value ∙ c.in_ok-folded.ensures.ok)) ∙ sym c.is_reserved.ensures ∙ c.if-is_reserved.false in
    subst (λ t. is_name t ≡ true) (sym (c.from_string.ensures ∙ c.in_ok-folded.ensures.ok)) (is_name-folded c.args.text.now word free)
