use Rattle.std.proofs.Common.{◌∙◌, sym}
use Rattle.std.specs.Prelude.{nat_eq}
use Rattle.std.specs.Cmp.Lexicographic.{pointwise, nat_list_eq_equiv}
use Rattle.indexmap.specs.IndexMap.{insert_entry}
use Rattle.code_index.proofs.CopyFacts.{one_entry_more}
use Rattle.code_index.proofs.keyed.copy_groups.Goals as goal

pub loop-i-preserved : goal.loop-i-preserved
loop-i-preserved g c =
    let entries = c.args.groups.now.entries in
    let key = c.in-Some.key.now in
    let group = c.in-Some.group.now in
    c.in_ok-put_copy.ensures ∙ (λ j. insert_entry (pointwise nat_eq) (c.loop-i.invariant j) (c.in_ok-copy-2.ensures j) group)
    ∙ one_entry_more nat_list_eq_equiv entries c.loop-i.i key group (sym c.in-Some.ensures.entry) c.len-i-end.ensures.unique
