-- The box of a `Held`, as the calls of `Box::into_raw` and `Box::from_raw` take it: its value's type and its allocator at the layouts that a call passes.
use Rattle.std.proofs.Common.{◌≡◌, [], ◌∷◌, refl}
use Rattle.std.specs.Prelude.{Option, None, Some, IsSome}
use seplogic.Ra.Ura.{Ura}
use mir.Raw.{raw as bare}
use prog.Model.{Model}
use prog.Wired.{Wired}
use types.Logic.{Logic, sem}
use types.Kit.{raw, ◌$◌, ◌∵◌, !, qed, keep, join, show, done}
use contract.BorrowLft.{◌⊑◌}
use contract.Monad.{fact}
use contract.Running.{Running}
use mir.Syntax.{Dict, impl, method, no_args, tnil, tcons, dnil}
use base.Logic.{sep, emp, emp∗, comm∗, via}
use base.Fml.{ftrue, fsep}
use denote.Exit.{no}
use denote.RattleType.{RattleType}
use denote.Laws.{Lawful}
use denote.Param.{arg, layout}
use denote.Param.Laws.{Laws, arg_laws}
use denote.Param.Glue.{Met, signature, spent}
use denote.Param.NoDrop.{glues}
use denote.Steps.{nothing}
use denote.Triple.Carry.{beside, spared}
use denote.Triple.Spec.{Spec, triple_of}
use denote.Triple.Table.{run_framed, widened}
use Rattle.std.specs.contracts.alloc.Global as heap
use Rattle.std.proofs.alloc.Global.TheLaws as heap_laws
use Rattle.std.specs.contracts.boxed.Box as box
use Rattle.std.proofs.boxed.Box.TheLaws as box_laws
use Rattle.std.specs.contracts.impls.GlobalAllocator.TheImpl.{ghosts}
use Rattle.beas_c.specs.contracts.held.Held as held
use Rattle.beas_c.specs.declared.held.Held.{Held}
use Rattle.beas_c.proofs.held.Held.TheLaws as held_laws
use Rattle.beas_c.specs.contracts.beas_c++held++Held+Destruct.drop as dropped
use Rattle.beas_c.proofs.beas_c++held++Held+Destruct.drop.Symbol as drops
use Rattle.beas_c.proofs.beas_c++held++Held+Destruct.drop.Met.{met as drop_met}
use Rattle.beas_c.proofs.Destruct++none.drop.Symbol as none
use Rattle.beas_c.proofs.Destruct++none.drop.Code as none_code

abbrev pub Boxed : RattleType
Boxed = box.the_row held.the_row heap.the_row ghosts

pub Boxed_lawful : {M : Type 1} {𝓤 : Ura M} (𝓛 : Logic 𝓤) → Lawful 𝓛 Boxed
Boxed_lawful 𝓛 = (box_laws.the_field_loose held.the_row heap.the_row ghosts held_laws.the_row_laws heap_laws.the_row_laws).lawful 𝓛

abbrev pub T : RattleType
T = arg (bare (layout held.the_row)) no held.the_row

abbrev pub T_laws : Laws T
T_laws = arg_laws (bare (layout held.the_row)) no held.the_row held_laws.the_row_laws refl

abbrev pub A : RattleType
A = arg (bare (layout heap.the_row)) no heap.the_row

abbrev pub A_laws : Laws A
A_laws = arg_laws (bare (layout heap.the_row)) no heap.the_row heap_laws.the_row_laws refl

-- the allocator's handle needs no drop
abbrev pub A_drop : Dict
A_drop = impl ("beas_c::Destruct++none::drop" ∷ []) (tcons (layout A) tnil) dnil

-- a `Held` is let go by its own drop
abbrev pub T_drop : Dict
T_drop = impl ("beas_c::beas_c++held++Held+Destruct::drop" ∷ []) tnil dnil

-- what is there, where something is
pub there : (held : Option Held) → IsSome held → (x : Held) × (held ≡ Some x)
there None some_held = cc
there (Some x) some_held = (x, refl)

module _ {M : Type 1} (𝓤 : Ura M) (𝓛 : Logic 𝓤) (𝓜 : Model 𝓤 𝓛.H) (𝓡 : Running 𝓤 𝓛.H 𝓜) where
  pub A_glue : Wired 𝓡.env none.code → Met 𝓛 𝓜 𝓡 𝓡.env A A_drop
  unfolding none_code.code
  A_glue wired = glues "beas_c::Destruct++none::drop" 𝓡.env wired A A_laws M 𝓤 𝓛 𝓜 𝓡

  -- the drop's own theorem, at a lifetime more, with nothing said of what is let go
  pub T_glue : Wired 𝓡.env drops.code → Met 𝓛 𝓜 𝓡 𝓡.env T T_drop
  T_glue wired =
      let k = method T_drop 0 no_args in let run = 𝓡.run (𝓡.env k) in let framed = run_framed 𝓤 𝓛.H 𝓜 𝓡 (𝓡.env k) in let own = dropped.spec 𝓛 𝓜.mem 𝓡.returns in
      let said : Spec 𝓤 (signature T) = λ κs a. record { ghost = Unit {0}; requires = λ _. sep 𝓤 (fact 𝓤 (κs.0 ⊑ T.lives)) (emp 𝓤); ensures = λ g r. (own tt (a.0, tt)).ensures g r } in
      beside 𝓛 (signature T) run framed said (spent 𝓛 T) (λ κs a x. x) (λ κs a x. emp 𝓤)
      (λ κs a x. via 𝓤 (sep 𝓤 (emp 𝓤) ((said κs a).requires x)) (emp∗ 𝓤 ((said κs a).requires x)) (comm∗ 𝓤 (emp 𝓤) ((said κs a).requires x)))
      (λ κs a x r. qed 𝓛 (raw ((said κs a).ensures x r) ∷ raw (emp 𝓤) ∷ []) ∵ keep ! [] $ show ! (λ (ws : Unit {0} × Unit {0}). sep 𝓤 (sem 𝓛 (fsep ftrue ftrue)) (emp 𝓤)) (tt, tt) $ nothing ! $ nothing ! $ nothing ! $ join ! $ done !)
      (spared 𝓛 dropped.signature run framed 1 (T.lives, tt) own
      (widened 𝓤 𝓛.H (triple_of 𝓛 dropped.signature own) 𝓜 𝓡 𝓡.env (𝓡.env drops.name) (𝓡.env k) (drops.as_method 𝓡.env wired k refl) (drop_met 𝓤 𝓛 𝓜 𝓡 wired)))
