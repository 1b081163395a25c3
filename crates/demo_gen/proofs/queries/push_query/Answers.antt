use Rattle.std.proofs.lemmas.Result.{IfOk-equal}
use Rattle.demo_gen.specs.Demo.{query_text}
use Rattle.demo_gen.proofs.Written.{query_line}
use Rattle.demo_gen.proofs.queries.push_query.Goals as goal

pub returns : goal.returns
unfolding query_text
returns c =
    IfOk-equal _ _ _ _ c.push_str-8.ensures.ok (rw (
      c.in_ok-push_str-7.ensures.ok,
      c.in_ok-push_str-6.ensures.ok,
      c.in_ok-push_str-5.ensures.ok,
      c.in_ok-push_str-4.ensures.ok,
      c.in_ok-push_str-3.ensures.ok,
      c.in_ok-push_str-2.ensures.ok,
      c.in_ok-push_str.ensures.ok,
      c.format-3.ensures.text,
      c.format-2.ensures.text,
      c.format.ensures.text,
    ) (query_line c.args.text.now _ _ _ _ _ _ _ _))
