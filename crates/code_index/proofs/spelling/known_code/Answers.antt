use Rattle.std.proofs.Common.{◌∙◌, ap, sym}
use Rattle.std.specs.Prelude.{pos}
use Rattle.std.proofs.Math.ListN.{get_or-eq_default}
use Rattle.beas_core.specs.declared.value.Value.TheVariants.{Int}
use Rattle.code_index.specs.Codes.{code_of}
use Rattle.code_index.proofs.spelling.known_code.Goals as goal

pub returns-in-Some : goal.returns-in-Some
returns-in-Some c = c.code.ensures ∙ ap (code_of c.args.codes.now) (c.in-Some.ensures.lookup.3.1 (Int (pos 0)))

pub returns-in-None : goal.returns-in-None
returns-in-None c =
    c.code-in-None.ensures ∙ ap (code_of c.args.codes.now) (sym (get_or-eq_default c.args.row.now (Int (pos 0)) c.in-None.ensures.lookup.3))
