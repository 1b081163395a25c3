use Rattle.beas_core.specs.Classes.{normal_of}
use Rattle.beas_core.proofs.ClassFacts.{is_joined_from_linked, linked_from_is_joined, class_from_linked, linked_from_class, has_place, classes_in_range, constants_in_range}
use Rattle.beas_core.proofs.ClassNumbers.{first_place}
use Rattle.beas_laws.proofs.classes.law_classes.Goals as goal

pub returns : goal.returns
unfolding normal_of
returns c =
    let block = c.args.block.now in
    record {
      computed = λ p q. (λ h. linked_from_is_joined block.equalities p q h, λ h. is_joined_from_linked block.equalities p q h);
      numbered = λ p q a b. (λ e. linked_from_class block p q (has_place block.atoms p a) (has_place block.atoms q b) e, λ h. class_from_linked block p q h);
      first = λ class below. first_place block class below;
      classes = classes_in_range block c.requires;
      constants = constants_in_range block c.requires;
    }
