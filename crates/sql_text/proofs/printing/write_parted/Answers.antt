use Rattle.std.proofs.Common.{◌∙◌, sym, refl}
use Rattle.sql_text.specs.Between.{lexeme_between}
use Rattle.sql_text.proofs.Written.{one_more, parts_done, parted_first, parted_nil}
use Rattle.sql_text.proofs.printing.write_parted.Goals as goal

pub returns-in_default : goal.returns-in_default
returns-in_default g c = parted_nil (lexeme_between c.args.between) g.T.Part.lexemes c.args.writer.now c.args.parts.now c.as_slice.result.now c.as_slice.ensures
    c.in_default.ensures.cases

pub loop-part-preserved : goal.loop-part-preserved
loop-part-preserved g c =
    sym (one_more (lexeme_between c.args.between) g.T.Part.lexemes c.loop-part.writer c.write-in-loop-part.new.writer c.in-Some.rest.now c.loop-part.part-index
    c.part-item.result c.part-item.is c.loop-part-test.true (rw (c.in_ok-write-2.ensures, c.in_ok-write_between.ensures) refl)) ∙ c.loop-part.invariant

pub returns : goal.returns
returns g c =
    sym (parts_done (lexeme_between c.args.between) g.T.Part.lexemes c.loop-part.writer c.in-Some.rest.now c.loop-part.part-index c.loop-part-test.false)
    ∙ c.loop-part.invariant
    ∙ parted_first (lexeme_between c.args.between) g.T.Part.lexemes c.args.writer.now c.write.new.writer c.args.parts.now c.in-Some.rest.now c.in-Some.first.now
    (sym c.as_slice.ensures ∙ c.in-Some.ensures.cases.0) c.in_ok-write.ensures
