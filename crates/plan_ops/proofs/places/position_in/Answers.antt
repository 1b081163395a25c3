use Rattle.std.proofs.Common.{subst}
use Rattle.std.specs.List.Sorted.{IsBinarySearchResult}
use Rattle.std.specs.Ordering.{nat_cmp}
use Rattle.plan_ops.proofs.PlaceFacts.{found_place, no_place}
use Rattle.plan_ops.proofs.places.position_in.Goals as goal

pub returns-in-Ok : goal.returns-in-Ok
returns-in-Ok c = found_place c.args.classes.now c.args.class c.in-Ok.at c.requires
    (subst (IsBinarySearchResult (λ y. nat_cmp y c.args.class) c.args.classes.now) c.in-Ok.is c.binary_search.ensures.position)

pub returns-in-Err : goal.returns-in-Err
returns-in-Err c = no_place c.args.classes.now c.args.class c.in-Err.field-0 c.requires
    (subst (IsBinarySearchResult (λ y. nat_cmp y c.args.class) c.args.classes.now) c.in-Err.is c.binary_search.ensures.position)
