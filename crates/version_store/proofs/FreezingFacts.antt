-- A part that is made of a table as it is changes nothing for an open query.
use Rattle.std.proofs.Common.{◌≡◌, ◌≢◌, ◌==◌, ◌<◌, ◌++◌, ◌∙◌, ℕ, true, false, List, [], ◌∷◌, length, get_or, ap, sym, subst}
use Rattle.std.proofs.lemmas.Bool.{eq-eqb}
use Rattle.std.proofs.lemmas.List.Folds.{list_any_at}
use Rattle.std.proofs.lemmas.List.Quantifiers.{all_pairs_push}
use Rattle.beas_core.specs.declared.schema.Access.{Access}
use Rattle.beas_core.specs.declared.schema.TableId.{TableId}
use Rattle.beas_core.specs.Shapes.{EachIdOnce}
use Rattle.beas_core.specs.Types.{TableRows}
use Rattle.block_walk.specs.Worlds.{World}
use Rattle.cursor_executor.specs.Fetching.{Seen}
use Rattle.desk_model.specs.Kept.{AreApart}
use Rattle.desk_model.specs.Frames.{KeepsTable, SameForQuery}
use Rattle.desk_model.proofs.PartFacts.{part_keeps}
use Rattle.version_store.specs.Held.{IsKept, has_part, held, world_of}
use Rattle.version_store.proofs.WorldFacts.{held_still, kept_still}

module _ {P : Type 0} (table : P → TableId) (rows : P → TableRows) (accesses : P → List Access) (other : TableRows) (own : List Access) where
  abbrev see : List P → World
  see parts = world_of table rows accesses other own parts

  module _ (once : EachIdOnce own) (part : P) (is : KeepsTable table rows accesses own other part) (old new : List P) (more : new ≡ old ++ part ∷ [])
      (cursor : Seen) (kept : IsKept (see old) cursor) where
    same : SameForQuery (see old).accesses (see (old ++ part ∷ [])).accesses (see old).rows (see (old ++ part ∷ [])).rows cursor.prepared.query
    same = λ i d l j e k. part_keeps table rows accesses own other once part is old _

    pub kept_with_part : IsKept (see new) cursor
    kept_with_part = subst (λ parts. IsKept (see parts) cursor) (sym more) (kept_still (see old) (see (old ++ part ∷ [])) cursor kept same)

    pub held_with_part : (session : ℕ) (plan : List ℕ) → held (see new) session cursor plan ≡ held (see old) session cursor plan
    held_with_part session plan =
        ap (λ parts. held (see parts) session cursor plan) more ∙ held_still (see old) (see (old ++ part ∷ [])) cursor kept same session plan

module _ {P : Type 0} (table : P → TableId) (part : P) (old new : List P) (more : new ≡ old ++ part ∷ []) (t : TableId) (on : table part ≡ t) where
  pub apart_still : has_part table old t ≡ false → AreApart table old → AreApart table new
  apart_still none apart =
      subst (AreApart table) (sym more) (all_pairs_push (λ p q. (table p).0 ≢ (table q).0) old part apart
      (λ k d below same. different k d below (same ∙ ap (λ (x : TableId). x.0) on)))
    where
      different : (k : ℕ) (d : P) → k < length old → (table (get_or old k d)).0 ≡ t.0 → ⊥
      different k d below same =
          let there = list_any_at (λ p. (table p).0 == t.0) old k d below (eq-eqb (table (get_or old k d)).0 t.0 same) in
          let no : true ≡ false = sym there ∙ none in cc
