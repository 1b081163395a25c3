-- What is known of the parts of a query's tree when they are answered, from what the code has read.
use Rattle.std.proofs.Common.{◌≡◌, ◌+◌, ◌<◌, ◌^◌, ◌∙◌, ℕ, Bool, List, length, get_or, Some, ap, sym, subst}
use Rattle.std.specs.Option.{is_some}
use Rattle.beas_core.specs.declared.schema.Access.{Access}
use Rattle.beas_core.specs.declared.query.Block.{Block}
use Rattle.beas_core.specs.declared.plan.DStep.{DStep}
use Rattle.beas_core.specs.declared.plan.Normal.{Normal}
use Rattle.beas_core.specs.declared.plan.Derivation.{Derivation}
use Rattle.beas_core.specs.declared.plan.Prepared.{Prepared}
use Rattle.beas_core.specs.Types.{Row, TableRows, Guide}
use Rattle.beas_core.specs.Trees.{QueryTree, Single, Either, Minus}
use Rattle.beas_core.specs.Coverage.{ClassesInRange, ConstantsInRange, start_classes}
use Rattle.beas_core.specs.Derivations.{IsSound}
use Rattle.beas_core.specs.Numbers.{announced_from}
use Rattle.beas_core.specs.Valuations.{starts, answers_of}
use Rattle.beas_core.specs.Reads.{reads_of}
use Rattle.beas_core.specs.Fits.{StepsHold}
use Rattle.beas_core.specs.Guiding.{after}
use Rattle.beas_core.specs.Queries.{plan_of, guide_of, answers, reads_in}
use Rattle.beas_core.specs.Guides.{GuideFits}
use Rattle.plan_ops.specs.Asked.{TreeFits}
use Rattle.plan_ops.proofs.TreeFacts.{block_is, union_left, union_right, except_left, except_right}

-- a block may be answered by what was read of it, and what it answers is the answer of the tree that it is
pub record IsAsked (rows : TableRows) (accesses : List Access) (prepared : Prepared) (first : ℕ) (guide : Guide) (tree : QueryTree) (reads : ℕ)
    (normal : Normal) (steps : List DStep) (own : Guide) : Type 0 where
  pub classes : ClassesInRange normal
  pub constants : ConstantsInRange normal
  pub fits : GuideFits normal own
  pub sound : IsSound normal accesses (start_classes normal (is_some own)) steps
  pub holds : StepsHold rows accesses steps
  pub room : reads + announced_from accesses (length (starts normal own)) steps < 2 ^ 128
  pub rows_are : answers_of rows normal accesses own steps ≡ answers rows prepared.guided first guide tree
  pub reads_are : reads_of rows normal accesses own steps ≡ reads_in rows accesses prepared.guided prepared.derivations first guide tree

module _ (rows : TableRows) {accesses : List Access} {prepared : Prepared} {first : ℕ} {guide : Guide} {tree : QueryTree} {reads : ℕ}
    (fits : TreeFits accesses prepared first guide tree reads) (hold : (n : ℕ) → StepsHold rows accesses (plan_of prepared.derivations n).steps) where
  read_as : (t : QueryTree) → tree ≡ t → TreeFits accesses prepared first guide t reads
  read_as t whole = subst (λ t. TreeFits accesses prepared first guide t reads) whole fits

  pub asked_block : (block : Block) (whole : tree ≡ Single block)
      {normals : List Normal} (normals_are : normals ≡ prepared.normals) {normal : Normal} (normal_is : normal ≡ get_or normals first normal)
      {plans : List Derivation} (plans_are : plans ≡ prepared.derivations) {plan : Derivation} (plan_is : plan ≡ get_or plans first plan)
      {steps : List DStep} (steps_are : steps ≡ (get_or plans first plan).steps)
      {flags : List Bool} (flags_are : flags ≡ prepared.guided) {own : Guide} (own_is : own ≡ guide_of flags first guide)
      → IsAsked rows accesses prepared first guide tree reads normal steps own
  asked_block block whole {normals} normals_are {normal} normal_is {plans} plans_are {plan} plan_is {steps} steps_are {flags} flags_are {own} own_is =
      let is = block_is rows accesses prepared hold first guide block reads (read_as (Single block) whole)
      normal (normal_is ∙ ap (λ (ns : List Normal). get_or ns first normal) normals_are)
      plan (plan_is ∙ ap (λ (ps : List Derivation). get_or ps first plan) plans_are)
      steps (steps_are ∙ ap (λ (p : Derivation). p.steps) (sym plan_is))
      own (own_is ∙ ap (λ (bs : List Bool). guide_of bs first guide) flags_are) in record {
        classes = is.classes;
        constants = is.constants;
        fits = is.fits;
        sound = is.sound;
        holds = is.holds;
        room = is.room;
        rows_are = is.rows_are ∙ ap (answers rows prepared.guided first guide) (sym whole);
        reads_are = is.reads_are ∙ ap (reads_in rows accesses prepared.guided prepared.derivations first guide) (sym whole);
      }

  -- the left part is l, whatever the code calls it, and the right one r
  module _ (l r : QueryTree) {left : QueryTree} (left_is : left ≡ l) where
    pub asked_union_left : tree ≡ Either l r → TreeFits accesses prepared first guide left reads
    asked_union_left whole = subst (λ t. TreeFits accesses prepared first guide t reads) (sym left_is)
        (union_left rows accesses prepared hold first guide l r reads (read_as (Either l r) whole))

    pub asked_except_left : tree ≡ Minus l r → TreeFits accesses prepared first guide left reads
    asked_except_left whole = subst (λ t. TreeFits accesses prepared first guide t reads) (sym left_is)
        (except_left rows accesses prepared hold first guide l r reads (read_as (Minus l r) whole))

    module _ {right : QueryTree} (right_is : right ≡ r) {next : ℕ} (next_is : next ≡ after first left) {now : ℕ}
        (now_is : now ≡ reads + reads_in rows accesses prepared.guided prepared.derivations first guide left) where
      next_of : next ≡ after first l
      next_of = next_is ∙ ap (after first) left_is

      now_of : now ≡ reads + reads_in rows accesses prepared.guided prepared.derivations first guide l
      now_of = now_is ∙ ap (λ t. reads + reads_in rows accesses prepared.guided prepared.derivations first guide t) left_is

      pub asked_union_right : tree ≡ Either l r → TreeFits accesses prepared next guide right now
      asked_union_right whole = subst (λ t. TreeFits accesses prepared next guide t now) (sym right_is)
          (union_right rows accesses prepared hold first guide l r reads next next_of now now_of (read_as (Either l r) whole))

      pub asked_except_right : {found : List Row} → found ≡ answers rows prepared.guided first guide left → tree ≡ Minus l r
          → TreeFits accesses prepared next (Some found) right now
      asked_except_right {found} found_is whole =
          let asked = except_right rows accesses prepared hold first guide l r reads next next_of now now_of (read_as (Minus l r) whole) in
          let found_of = found_is ∙ ap (answers rows prepared.guided first guide) left_is in
          subst (λ t. TreeFits accesses prepared next (Some found) t now) (sym right_is)
          (subst (λ (f : List Row). TreeFits accesses prepared next (Some f) r now) (sym found_of) asked)
