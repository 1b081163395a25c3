use Rattle.std.proofs.Common.{◌∙◌, sym, subst, arith, length-set}
use Rattle.std.specs.Prelude.{pos}
use Rattle.std.proofs.lemmas.List.{get_or_default, length-replicate}
use Rattle.beas_core.specs.declared.value.Value.TheVariants.{Int}
use Rattle.code_index.specs.Spelling.{HasCode, IsCodeOf}
use Rattle.code_index.proofs.SpellingFacts.{found_code, no_code, all_coded_at, coded, coded_next}
use Rattle.code_index.proofs.key.known_codes.Goals as goal

pub loop-i-init : goal.loop-i-init
loop-i-init g c = record { len = length-replicate g.row.N 0; right = λ j l. absurd (omega (arith, l)) }

pub returns-in-None : goal.returns-in-None
returns-in-None g c all =
    let value = c.index-key-i.result in
    no_code c.args.codes.now value (sym c.code.ensures ∙ c.in-None.is)
    (subst (HasCode c.args.codes.now) (sym c.index-key-i.is) (all_coded_at c.args.codes.now c.args.key.now c.loop-i.i value all c.loop-i-test.true))

pub loop-i-preserved : goal.loop-i-preserved
loop-i-preserved g c =
    let codes = c.args.codes.now in
    let key = c.args.key.now in
    let value = c.index-key-i.result in
    let here = c.index-key-i.is ∙ get_or_default key c.loop-i.i value (Int (pos 0)) c.loop-i-test.true in
    record {
      len = length-set c.loop-i.key_codes c.loop-i.i c.in-Some.code ∙ c.loop-i.invariant.len;
      right = coded_next codes key c.loop-i.key_codes c.loop-i.i c.in-Some.code (omega (arith, c.loop-i-test.true, c.requires, c.loop-i.invariant.len))
          (subst (IsCodeOf codes c.in-Some.code) here (found_code codes value c.in-Some.code (sym c.code.ensures ∙ c.in-Some.is))) c.loop-i.invariant.right;
    }

pub returns : goal.returns
returns g c =
    coded c.args.codes.now c.args.key.now c.loop-i.key_codes (omega (arith, c.requires, c.loop-i.invariant.len))
    (λ j l. c.loop-i.invariant.right j (omega (arith, l, c.loop-i-test.false)))
