use Rattle.std.proofs.Common.{◌++◌, rules, ◌∙◌, ap, sym}
use Rattle.std.proofs.lemmas.Result.{IfOk-equal}
use Rattle.sql_tokens.proofs.Doubling.{doubled_turn, doubled_end}
use Rattle.sql_tokens.proofs.quoting.push_doubled.Goals as goal

pub loop-front-preserved : goal.loop-front-preserved
loop-front-preserved c = record {
  text = search rules;
  written = rw (c.in_ok-push_str-2.ensures.ok, c.in_ok-push_str.ensures.ok)
      (doubled_turn _ _ _ _ _ _ c.split_once.ensures.cases c.in-Some.is c.loop-front.invariant.written);
}

pub returns : goal.returns
returns c = record {
  ok = IfOk-equal _ _ _ _ c.push_str-2.ensures.ok
      (ap (λ ys. c.loop-front.text ++ ys) (sym (doubled_end _ _ c.split_once.ensures.cases c.in_default.is)) ∙ c.loop-front.invariant.written);
}
