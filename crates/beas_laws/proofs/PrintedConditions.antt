-- The lexemes of conditions spell them again, without a trace of parentheses.
use Rattle.std.proofs.Common.{◌≡◌, ℕ, List, [], ◌∷◌, ◌++◌, refl, sym, ap, subst, ◌∙◌, append_assoc}
use Rattle.std.specs.Prelude.{codes, map}
use Rattle.std.specs.List.{AllByRecursion as Each}
use Rattle.std.proofs.lemmas.List.{append-nil, map-append}
use Rattle.beas_core.specs.declared.query.Sign.{Sign}
use Rattle.sql_text.specs.declared.tree.Cond.{Cond}
use Rattle.sql_text.specs.declared.tree.Cond.TheVariants.{Compare, Between}
use Rattle.sql_text.specs.Canonical.{Lexeme, keyword, sign, parts_with, sign_text, condition_of, where_of, side_of, ref_of}
use Rattle.sql_text.specs.Symbols.{Symbol, mark}
use Rattle.sql_text.specs.Grammar.{IsSign, equal, differs, not_equal, less, at_most, more, at_least, IsCondition, comparison, range, parentheses, IsConditions, last_condition, conjunction, IsWhere, no_where, where_}
use Rattle.sql_text.specs.Words.{AND, BETWEEN, CLOSE}
use Rattle.beas_laws.proofs.Clean.{symbol, IsMarkText, equal_mark, differs_mark, less_mark, at_most_mark, more_mark, at_least_mark, none, sign_then, clean-append}
use Rattle.beas_laws.proofs.Lexicals.{IsLexical, AreLexical, front, back}
use Rattle.beas_laws.proofs.PrintedParts.{Again, clean-keyword, ref-again, side-again}

pub each-append : {X : Type 0} (P : X → Type 0) (xs ys : List X) → Each P xs → Each P ys → Each P (xs ++ ys)
each-append P [] ys h k = k
each-append P (x ∷ xs) ys h k = (h.0, each-append P xs ys h.1 k)

sign-again : {b : List Symbol} {s : Sign} → IsSign b s → IsSign (mark (sign_text s) ∷ []) s
sign-again equal = equal
sign-again differs = differs
sign-again not_equal = differs
sign-again less = less
sign-again at_most = at_most
sign-again more = more
sign-again at_least = at_least

sign-clean : {b : List Symbol} {s : Sign} → IsSign b s → IsMarkText (sign_text s)
sign-clean equal = equal_mark
sign-clean differs = differs_mark
sign-clean not_equal = differs_mark
sign-clean less = less_mark
sign-clean at_most = at_most_mark
sign-clean more = more_mark
sign-clean at_least = at_least_mark

-- one condition, without parentheses
abbrev IsAlone : List Symbol → Cond → Type 0
IsAlone symbols condition = IsCondition symbols (condition ∷ [])

abbrev pub ConditionAgain : Cond → Type 0
ConditionAgain condition = Again IsAlone condition_of condition

compared : (xs ys : List Lexeme) (text : List ℕ) → map symbol (xs ++ sign text ∷ ys) ≡ (map symbol xs ++ mark text ∷ []) ++ map symbol ys
compared xs ys text = map-append symbol xs (sign text ∷ ys) ∙ sym (append_assoc (map symbol xs) (mark text ∷ []) (map symbol ys))

ranged : (xs ys zs : List Lexeme) → map symbol ((xs ++ keyword (codes "BETWEEN") ∷ ys) ++ keyword (codes "AND") ∷ zs)
    ≡ (map symbol xs ++ BETWEEN ∷ map symbol ys) ++ AND ∷ map symbol zs
ranged xs ys zs =
    map-append symbol (xs ++ keyword (codes "BETWEEN") ∷ ys) (keyword (codes "AND") ∷ zs)
    ∙ ap (λ a. a ++ AND ∷ map symbol zs) (map-append symbol xs (keyword (codes "BETWEEN") ∷ ys))

mutual
  condition-again : (a : List Symbol) (cs : List Cond) → IsCondition a cs → AreLexical a → Each ConditionAgain cs
  condition-again a cs (comparison {a = x} {b = y} {c = z} {left = left} {right = right} {sign = by} l s r e) h =
      let ahead = front IsLexical (x ++ y) z h in
      let left_again = side-again x left l (front IsLexical x y ahead) in
      let right_again = side-again z right r (back IsLexical (x ++ y) z h) in (
        record {
          spelled = subst (λ t. IsAlone t (Compare left by right)) (sym (compared (side_of left) (side_of right) (sign_text by)))
              (comparison left_again.spelled (sign-again s) right_again.spelled e);
          clean = clean-append left_again.clean (sign_then (sign-clean s) right_again.clean);
        },
        tt,
      )
  condition-again a cs (range {a = x} {b = y} {c = z} {value = value} {low = low} {high = high} v l r) h =
      let ahead = front IsLexical (x ++ BETWEEN ∷ y) (AND ∷ z) h in
      let value_again = ref-again x value v (front IsLexical x (BETWEEN ∷ y) ahead) in
      let low_again = side-again y low l (back IsLexical x (BETWEEN ∷ y) ahead).1 in
      let high_again = side-again z high r (back IsLexical (x ++ BETWEEN ∷ y) (AND ∷ z) h).1 in (
        record {
          spelled = subst (λ t. IsAlone t (Between value low high)) (sym (ranged (ref_of value) (side_of low) (side_of high)))
              (range value_again.spelled low_again.spelled high_again.spelled);
          clean = clean-append (clean-append value_again.clean (clean-keyword (codes "BETWEEN") refl low_again.clean))
              (clean-keyword (codes "AND") refl high_again.clean);
        },
        tt,
      )
  condition-again a cs (parentheses {a = inner} c) h = conditions-again inner cs c (front IsLexical inner (CLOSE ∷ []) h.1)

  pub conditions-again : (a : List Symbol) (cs : List Cond) → IsConditions a cs → AreLexical a → Each ConditionAgain cs
  conditions-again a cs (last_condition c) h = condition-again a cs c h
  conditions-again a cs (conjunction {a = x} {b = y} {cs = ds} {ds = es} c d) h =
      each-append ConditionAgain ds es (condition-again x ds c (front IsLexical x (AND ∷ y) h)) (conditions-again y es d (back IsLexical x (AND ∷ y) h).1)

pub where-again : (a : List Symbol) (cs : List Cond) → IsWhere a cs → AreLexical a → Each ConditionAgain cs
where-again a cs no_where h = tt
where-again a cs (where_ {a = b} c) h = conditions-again b cs c h.1

joined_again : (c : Cond) (cs : List Cond) → ConditionAgain c → Each ConditionAgain cs
    → Again IsConditions (parts_with (keyword (codes "AND")) condition_of) (c ∷ cs)
joined_again c [] h hs = record {
  spelled = last_condition (subst (λ ls. IsAlone (map symbol ls) c) (sym (append-nil (condition_of c))) h.spelled);
  clean = clean-append h.clean none;
}
joined_again c (d ∷ ds) h hs =
    let others : Again IsConditions (parts_with (keyword (codes "AND")) condition_of) (d ∷ ds) = joined_again d ds hs.0 hs.1 in
    record {
      spelled = subst (λ a. IsConditions a (c ∷ d ∷ ds)) (sym
          (map-append symbol (condition_of c) (keyword (codes "AND") ∷ parts_with (keyword (codes "AND")) condition_of (d ∷ ds))))
          (conjunction h.spelled others.spelled);
      clean = clean-append h.clean (clean-keyword (codes "AND") refl others.clean);
    }

pub where_again : (cs : List Cond) → Each ConditionAgain cs → Again IsWhere where_of cs
where_again [] h = record { spelled = no_where; clean = none }
where_again (c ∷ cs) h = let again = joined_again c cs h.0 h.1 in
    record { spelled = where_ again.spelled; clean = clean-keyword (codes "WHERE") refl again.clean }
