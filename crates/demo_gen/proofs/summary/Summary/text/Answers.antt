use Rattle.demo_gen.proofs.Totals.{totals_line}
use Rattle.demo_gen.proofs.summary.Summary.text.Goals as goal

pub returns : goal.returns
returns c =
    totals_line _ c.args.self.now _ _ _ _ _ _ _ _ _ _ _ _ _ _ _ _ c.self.view_is
    c.format.ensures.text c.format-2.ensures.text c.format-3.ensures.text c.format-4.ensures.text c.format-5.ensures.text
    c.in_ok-text.ensures c.in_ok-push_str.ensures.ok c.in_ok-push_str-2.ensures.ok c.in_ok-push_str-3.ensures.ok
    c.in_ok-push_str-4.ensures.ok c.in_ok-push_str-5.ensures.ok c.in_ok-push_str-6.ensures.ok c.in_ok-push_str-7.ensures.ok
    c.in_ok-push_str-8.ensures.ok c.in_ok-push_str-9.ensures.ok c.in_ok-push_str-10.ensures.ok
