use Rattle.std.proofs.Common.{◌≡◌, ◌∷◌, [], Bool, true, subst, sym}
use Rattle.std.specs.Prelude.{IfOk}
use Rattle.name_resolution.specs.declared.meaning.Condition.{Condition}
use Rattle.name_resolution.specs.LookedUp.{ConditionIsSmall}
use Rattle.name_resolution.specs.Scopes.{told_by}
use Rattle.binder.specs.AtOnce.{AddsSound}
use Rattle.binder.proofs.AtOnceFacts.{condition_small}
use Rattle.binder.proofs.at_once.look_up_and_add.Goals as goal

pub add_if_sound-requires : goal.add_if_sound-requires
add_if_sound-requires c =
    subst ConditionIsSmall (sym c.in_ok-condition.ensures) (condition_small (told_by c.args.names.now) c.requires c.args.cond.now)

pub returns : goal.returns
returns c =
    subst (λ (one : Condition). IfOk c.add_if_sound.result (λ (sound : Bool). sound ≡ true
    → AddsSound c.args.limit c.args.block.now c.add_if_sound.new.block (one ∷ []))) c.in_ok-condition.ensures c.add_if_sound.ensures
