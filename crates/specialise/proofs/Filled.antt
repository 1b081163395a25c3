-- The rules of a block: their keys are entries of the table, and no entry passes the whole set.
use Rattle.std.proofs.Common.{◌≡◌, ◌<◌, ◌^◌, ℕ, List, length, map, fold, ap, sym, ◌∙◌, subst}
use Rattle.std.specs.List.{All}
use Rattle.beas_core.specs.declared.schema.Access.{Access}
use Rattle.beas_core.specs.declared.query.Block.{Block}
use Rattle.beas_core.specs.declared.plan.Normal.{Normal}
use Rattle.beas_core.specs.Types.{Use}
use Rattle.beas_core.specs.Classes.{normal_of}
use Rattle.beas_core.specs.Coverage.{uses}
use Rattle.beas_core.proofs.Sets.{Has, Has-from_map}
use Rattle.attribute_closure.specs.Uses.{as_use}
use Rattle.attribute_closure.specs.declared.uses.UseAt.{UseAt}
use Rattle.specialise.specs.declared.candidates.Candidate.{Candidate}
use Rattle.specialise.specs.declared.rules.Rule.{Rule}
use Rattle.specialise.specs.Trials.{IsTable, found_in, is_among, rule_of, rules_of, with_rule}
use Rattle.specialise.proofs.Masks.{mask_below}
use Rattle.specialise.proofs.Tables.{entries_all, length-filled}

module _ (normal : Normal) (found : List Candidate) where
  abbrev pub rules_to : List UseAt → List Rule
  rules_to us = map (rule_of normal found) (map as_use us)

  pub key_below : (us : List UseAt) (r : Rule) → Has (rules_to us) r → r.key < 2 ^ length found
  key_below us r h =
      let u = Has-from_map (rule_of normal found) (map as_use us) r h in
      subst (λ (x : Rule). x.key < 2 ^ length found) (sym u.2) (mask_below (is_among normal u.0.atom u.0.access.key) found)

  pub key_inside : (old table : List ℕ) (us : List UseAt) → table ≡ fold with_rule old (rules_to us) → length old ≡ 2 ^ length found
      → (r : Rule) (u : Use) → r ≡ rule_of normal found u → r.key < length table
  key_inside old table us et eo r u er =
      subst (λ n. r.key < n) (sym (ap length et ∙ length-filled (rules_to us) old ∙ eo))
      (subst (λ (x : Rule). x.key < 2 ^ length found) (sym er) (mask_below (is_among normal u.atom u.access.key) found))

  pub entries_small : (table : List ℕ) (us : List UseAt) → length table ≡ 2 ^ length found → IsTable (rules_to us) table
      → All (λ entry. entry < length table) table
  entries_small table us e is = entries_all (rules_to us) table (length found) e (λ r m.
      let u = Has-from_map (rule_of normal found) (map as_use us) r m in
      subst (λ (x : Rule). x.gives < 2 ^ length found) (sym u.2) (mask_below (is_among normal u.0.atom u.0.access.fetched) found)) is

-- the rules of a block, as the code has them
pub rules_are : (accesses : List Access) (block : Block) (normal : Normal) (found : List Candidate) (us : List UseAt) → normal ≡ normal_of block
    → found ≡ found_in accesses block → map as_use us ≡ uses normal accesses → rules_to normal found us ≡ rules_of accesses block
rules_are accesses block normal found us en ef eu =
    ap (map (rule_of normal found)) eu ∙ ap (λ (cs : List Candidate). map (rule_of normal cs) (uses normal accesses)) ef
    ∙ ap (λ (n : Normal). map (rule_of n (found_in accesses block)) (uses n accesses)) en
