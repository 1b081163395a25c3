use Rattle.std.proofs.Common.{◌≡◌, Some, None, refl, arith}
use Rattle.outside.proofs.Contents.{place_of, content_set_other, content_pushed}
use Rattle.outside.proofs.shelf.Shelf.add.Goals as goal

pub returns-in-Some-clause-others : goal.returns-in-Some-clause-others
returns-in-Some-clause-others c =
    let is : Some c.in-Some.place ≡ place_of c.self.inside.entries.items c.args.name = grind arith in
    λ other differs.
    let kept = content_set_other c.self.inside.entries.items c.args.name other (record { name = c.args.name; bytes = c.args.bytes }) c.in-Some.place is refl
    differs in
    cc

pub returns-in_ok-push-in-None-clause-added : goal.returns-in_ok-push-in-None-clause-added
returns-in_ok-push-in-None-clause-added c =
    let is : None ≡ place_of c.self.inside.entries.items c.args.name = grind arith in
    rw c.in_ok-push-in-None.ensures.items
    (content_pushed c.self.inside.entries.items c.args.name (record { name = c.args.name; bytes = c.args.bytes }) is refl)
