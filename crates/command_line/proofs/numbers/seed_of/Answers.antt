use Rattle.std.proofs.Common.{◌-◌, ◌^◌, ◌∙◌, refl, sym, ap}
use Rattle.std.specs.Char.{is_ascii_digit}
use Rattle.std.specs.List.{list_all}
use Rattle.command_line.proofs.Decimals.{number_read}
use Rattle.command_line.proofs.numbers.seed_of.Goals as goal

pub returns : goal.returns
returns c =
    let digits = sym (ap (list_all is_ascii_digit) c.as_bytes.ensures.value) ∙ sym c.all_digits.ensures ∙ c.if-not-all_digits.false in
    c.ok.ensures.value ∙ number_read 32 (2 ^ 32 - 1) c.args.text.now c.parse.result refl c.parse.ensures.value.0 digits
