use Rattle.std.proofs.Common.{◌≡◌, ◌+◌, ℕ, ap, ◌∙◌, length, arith}
use Rattle.beas_core.specs.declared.query.Atom.{Atom}
use Rattle.normal_form.specs.Places.{class_list}
use Rattle.normal_form.proofs.Used.{listed_more, listed_all}
use Rattle.normal_form.proofs.places.Places.class_lists.Goals as goal

pub loop-atom-preserved : goal.loop-atom-preserved
loop-atom-preserved c = record {
  items = listed_more (λ (a : ℕ × Atom). class_list c.args.self.now.atoms.now c.args.classes.now a.0 a.1.width) c.args.self.now.atoms.now c.loop-atom.atom
      _ _ _ c.loop-atom-test.true c.push_reserved.ensures.items c.loop-atom.invariant.items c.in_ok-class_list.ensures;
  len = c.push_reserved.ensures.len ∙ ap (λ n. n + 1) c.loop-atom.invariant.len;
  room = c.push_reserved.ensures.capacity ∙ c.loop-atom.invariant.room;
}

pub returns : goal.returns
returns c =
    let whole : c.loop-atom.atom ≡ length c.args.self.now.atoms.now = omega arith in
    c.from_vec.ensures ∙ listed_all (λ (a : ℕ × Atom). class_list c.args.self.now.atoms.now c.args.classes.now a.0 a.1.width) c.args.self.now.atoms.now
    c.loop-atom.atom _ whole c.loop-atom.invariant.items
