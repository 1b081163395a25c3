use Rattle.std.proofs.Common.{◌∙◌, length, refl, inr, ap}
use Rattle.block_walk.specs.Walks.{classes_at}
use Rattle.block_walk.proofs.walking.begin_next.Goals as goal

pub returns-clause-begins : goal.returns-clause-begins
returns-clause-begins g c =
    let made = c.in_ok-stage.ensures in
    inr (
      c.in_ok-stage.stage,
      refl,
      c.in_ok-push.ensures.items,
      record {
        stage = made.stage;
        atom = made.atom;
        access = made.access ∙ c.access-access.ensures.access;
        from = made.from ∙ c.classes_so_far-classes.ensures ∙ ap (λ ss. classes_at c.args.first.now ss (length ss)) c.as_slice.ensures.value;
      },
    )
