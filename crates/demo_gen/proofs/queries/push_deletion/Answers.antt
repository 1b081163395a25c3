use Rattle.std.proofs.lemmas.Result.{IfOk-equal}
use Rattle.demo_gen.specs.Demo.{delete_text}
use Rattle.demo_gen.proofs.Written.{deletion_line}
use Rattle.demo_gen.proofs.queries.push_deletion.Goals as goal

pub returns : goal.returns
unfolding delete_text
returns c =
    IfOk-equal _ _ _ _ c.push_str-3.ensures.ok
    (rw (c.in_ok-push_str-2.ensures.ok, c.in_ok-push_str.ensures.ok, c.format.ensures.text) (deletion_line c.args.text.now _ _ _))
