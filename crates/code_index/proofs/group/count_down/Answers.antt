use Rattle.std.proofs.Common.{get_or, [], sym, subst, refl, arith}
use Rattle.access_index.specs.Buckets.{IsOneMore}
use Rattle.blocked_list.proofs.Joined.{all_set, all_at}
use Rattle.labelled_list.specs.declared.coded.Coded.{Coded}
use Rattle.code_index.specs.Reading.{read, read_group, AllKnown, AllCodesKnown}
use Rattle.code_index.proofs.GroupFacts.{group_lowered, group_taken, member_counted}
use Rattle.code_index.proofs.group.count_down.Goals as goal

pub returns-then-count-gt1-clause-less : goal.returns-then-count-gt1-clause-less
returns-then-count-gt1-clause-less c codes d o a =
    let g = c.args.group.now in
    subst (λ new. IsOneMore (read_group codes new) (read_group codes g) (read codes (get_or g c.args.at d).codes)) (sym (c.recount.ensures d))
    (group_lowered codes g c.args.at d o a c.requires.within _ refl (omega (arith, c.if-count-gt1.true))
    (omega (arith, c.if-count-gt1.true, c.count-count.ensures d)))

pub returns-else-count-gt1-clause-less : goal.returns-else-count-gt1-clause-less
returns-else-count-gt1-clause-less c codes d o a =
    let g = c.args.group.now in
    subst (λ new. IsOneMore (read_group codes new) (read_group codes g) (read codes (get_or g c.args.at d).codes)) (sym c.remove.ensures)
    (group_taken codes g c.args.at d o a c.requires.within
    (omega (arith, c.if-count-gt1.false, member_counted codes g c.args.at d a c.requires.within, c.count-count.ensures d)))

pub returns-then-count-gt1-clause-known : goal.returns-then-count-gt1-clause-known
returns-then-count-gt1-clause-known c codes k =
    let g = c.args.group.now in
    let d : Coded = record { codes = []; count = 0 } in
    subst (AllCodesKnown codes) (sym (c.recount.ensures d))
    (all_set (λ (x : Coded). AllKnown codes x.codes) g c.args.at _ k (all_at (λ (x : Coded). AllKnown codes x.codes) g c.args.at d c.requires.within k))
