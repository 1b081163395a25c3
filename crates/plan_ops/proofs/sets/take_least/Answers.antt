use Rattle.std.proofs.Common.{sym}
use Rattle.plan_ops.proofs.MergeFacts.{taken_left, taken_right, taken_both}
use Rattle.plan_ops.proofs.sets.take_least.Goals as goal

pub returns-in-Less-clause-taken : goal.returns-in-Less-clause-taken
returns-in-Less-clause-taken c =
    taken_left c.pop_front.result c.args.left.now.items c.args.right.now.items c.pop_front.new.self.items (sym c.in-Less.ensures)
    c.pop_front.ensures.items c.pop_front.ensures.rest c.requires.left c.requires.right

pub returns-in-Greater-clause-taken : goal.returns-in-Greater-clause-taken
returns-in-Greater-clause-taken c =
    taken_right c.pop_front-in-Greater.result c.args.left.now.items c.args.right.now.items c.pop_front-in-Greater.new.self.items (sym c.in-Greater.ensures)
    c.pop_front-in-Greater.ensures.items c.pop_front-in-Greater.ensures.rest c.requires.left c.requires.right

pub returns-in-Equal-clause-taken : goal.returns-in-Equal-clause-taken
returns-in-Equal-clause-taken c =
    taken_both c.pop_front-in-Equal.result c.pop_front-same.result c.args.left.now.items c.args.right.now.items c.pop_front-in-Equal.new.self.items
    c.pop_front-same.new.self.items (sym c.in-Equal.ensures) c.pop_front-in-Equal.ensures.items c.pop_front-in-Equal.ensures.rest
    c.pop_front-same.ensures.items c.pop_front-same.ensures.rest c.requires.left c.requires.right
