use Rattle.normal_form.proofs.Used.{normal_from}
use Rattle.normal_form.proofs.normal_over.Goals as goal

pub returns : goal.returns
returns c =
    normal_from c.args.block.now c.requires.block c.args.places.now.atoms.now c.requires.atoms c.as_slice.result.now c.as_slice.ensures
    c.write_labels.new.labels c.number_classes-count.new.labels c.write_labels.ensures c.number_classes-count.ensures.numbers
    c.args.places.now.count c.args.places.now.counted c.args.used.now c.note_block.new.used c.requires.used c.note_block.ensures
    c.as_slice-2.result.now c.as_slice-2.ensures _ _ _ _ _ _ _
    c.in_ok-copy.ensures c.in_ok-class_lists.ensures c.number_classes-count.ensures.count c.in_ok-constants_at.ensures c.in_ok-used_lists.ensures
    c.in_ok-copy-2.ensures c.in_ok-copy-3.ensures
