use Rattle.std.proofs.Common.{◌≡◌, ◌+◌, ◌∙◌, ap, sym, refl, arith}
use Rattle.std.specs.Prelude.{vec_len, vec_capacity}
use Rattle.normal_form.specs.Places.{offset, place_number, place_at}
use Rattle.normal_form.proofs.Used.{pushed, used_more_true, used_more_false}
use Rattle.normal_form.proofs.places.Places.used_list.Goals as goal
use Rattle.normal_form.proofs.places.Places.used_list.Goals.{then-used-first, else-used-first}

pub loop-number-preserved : goal.loop-number-preserved
loop-number-preserved c =
    let atoms = c.args.self.now.atoms.now in
    let now = c.loop-number.invariant in
    let at : c.first_of-first.result + c.from-in-loop-number.result ≡ place_number atoms (place_at c.args.atom c.loop-number.number) =
    ap (λ n. n + c.from-in-loop-number.result) c.first_of-first.ensures.first ∙ ap (λ n. offset atoms c.args.atom + n) c.from-in-loop-number.ensures in
    elim c.if-used-first.branch [
      | then-used-first w ↦ (
          let list = ap vec_len w.list-is ∙ w.push_reserved.ensures.len in
          record {
            items = ap (λ v. v.items) w.list-is ∙ pushed _ _ _ _ _ w.push_reserved.ensures.items now.items refl
                ∙ sym (used_more_true atoms c.args.used.now c.args.atom c.loop-number.number (c.first_of-first.result + c.from-in-loop-number.result) at
                w.if-used-first.true);
            len = let k = now.len in omega (arith, list, k);
            room = ap vec_capacity w.list-is ∙ w.push_reserved.ensures.capacity ∙ now.room;
          })
      | else-used-first w ↦ (
          let list = ap vec_len w.list-is in
          record {
            items = ap (λ v. v.items) w.list-is ∙ now.items
                ∙ sym (used_more_false atoms c.args.used.now c.args.atom c.loop-number.number (c.first_of-first.result + c.from-in-loop-number.result) at
                w.if-used-first.false);
            len = let k = now.len in omega (arith, list, k);
            room = ap vec_capacity w.list-is ∙ now.room;
          })
    ]
