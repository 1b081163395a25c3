-- Refusals of a grouped statement's items, one rule after the other.
use Rattle.std.proofs.Common.{◌≡◌, ℕ, List, refl, ap, sym, subst, Option, Some, None, Result}
use Rattle.std.specs.Option.{option_map, option_or}
use Rattle.beas_core.specs.declared.errors.Fail.{Fail}
use Rattle.beas_core.specs.declared.errors.Fail.TheVariants.{NoMemory, Refused}
use Rattle.beas_core.specs.declared.refusal.Refusal.{Refusal}
use Rattle.beas_core.specs.Results.{IsRefusedAs}
use Rattle.sql_text.specs.declared.tree.GroupItem.{GroupItem}
use Rattle.sql_text.specs.Grouping.{column_in}
use Rattle.session.specs.Grouping.{PlacedItem, name_in}
use Rattle.session.proofs.CarryFacts.{failed}

-- the first item that breaks a rule is the one that is refused
pub refused_item : (why : List ℕ → Refusal) (found : Option PlacedItem) (item : GroupItem) → Some item ≡ option_map (λ i. i.0) found
    → option_map (λ i. why (name_in i)) found ≡ Some (why (column_in item).column)
refused_item why None item e = cc
refused_item why (Some i) item e = let same : item ≡ i.0 = cc in ap (λ x. Some (why (column_in x).column)) (sym same)

pub refused_none : (why : List ℕ → Refusal) (found : Option PlacedItem) → None ≡ option_map (λ i. i.0) found
    → option_map (λ i. why (name_in i)) found ≡ None
refused_none why None e = refl
refused_none why (Some i) e = cc

-- the first rule's refusal, or else the second's
pub refused_first : (T U : Type 0) (one other : Option Refusal) (x : Fail) → IsRefusedAs (failed T x) one → IsRefusedAs (failed U x) (option_or one other)
refused_first T U one other NoMemory h = tt
refused_first T U one other (Refused why) h = ap (λ o. option_or o other) h

pub refused_second : {T : Type 0} (one other : Option Refusal) (r : Result T Fail) → one ≡ None → IsRefusedAs r other → IsRefusedAs r (option_or one other)
refused_second one other r none h = subst (λ o. IsRefusedAs r (option_or o other)) (sym none) h
