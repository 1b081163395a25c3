use Rattle.std.proofs.Common.{sym, ap, ◌∙◌, arith}
use Rattle.std.proofs.lemmas.Bool.Decides.{nat_tests}
use Rattle.std.specs.Str.{all_ascii_digits}
use Rattle.name_resolution.proofs.Digits.{unread}
use Rattle.name_resolution.proofs.literals.signed_number.Goals as goal

pub returns-in-Err : goal.returns-in-Err
returns-in-Err c = sym (unread c.args.negative c.args.digits.now c.parse.result _ c.parse.ensures.value.0 (sym
    (ap all_ascii_digits c.as_bytes.ensures.value) ∙ sym c.all_digits.ensures ∙ c.if-not-all_digits.false) (grind (arith, nat_tests)) c.in-Err.is)
