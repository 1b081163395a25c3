-- What a guard keeps stays true when rows come and go.
use Rattle.std.proofs.Common.{◌≡◌, ◌∙◌, ◌<◌, ◌≤◌, ◌+◌, ℕ, Bool, not, List, [], ◌++◌, length, get_or, set, ap, refl, sym, subst, arith, inl, inr, length-append}
use Rattle.std.specs.Prelude.{All, filter, Result, Ok, Err, OnOk, OnErr}
use Rattle.std.proofs.lemmas.Bool.{cases_eq}
use Rattle.std.proofs.lemmas.List.{get_or-set_same, get_or-set_other, set-get_or}
use Rattle.std.proofs.lemmas.List.Elements.{All-append, All-filter}
use Rattle.std.proofs.lemmas.List.Filters.{length-filter_both}
use Rattle.beas_core.specs.declared.schema.Access.{Access}
use Rattle.beas_core.specs.declared.schema.TableId.{TableId}
use Rattle.beas_core.specs.Types.{Row}
use Rattle.beas_core.specs.Groups.{Holds}
use Rattle.access_index.specs.Index.{Index}
use Rattle.catalogue.specs.Schema.{Schema, columns_at}
use Rattle.catalogue.specs.Database.{RowFits}
use Rattle.update_guard.specs.Guarding.{IndexesOf, IsGuarded}
use Rattle.catalogue.specs.Stored.{HoldOver}
use Rattle.access_index.proofs.FewerRows.{Holds-filter}
use Rattle.update_guard.proofs.GuardFacts.{guarded_with_rows}

-- after an insert, refused or not
pub after_insert : {A E : Type 0} (r : Result A E) (schema : Schema) (rows : List (List Row)) (old new : List Index) (id : TableId) (added store : List Row)
    → IsGuarded schema rows old → id.0 < length rows
    → All (RowFits (columns_at schema id)) added
    → OnOk r (store ≡ get_or rows id.0 [] ++ added) → OnOk r (length (get_or rows id.0 []) + length added ≤ 16777216)
    → OnOk r (IndexesOf schema.accesses (set rows id.0 (get_or rows id.0 [] ++ added)) new)
    → OnOk r (HoldOver schema.accesses (set rows id.0 (get_or rows id.0 [] ++ added)))
    → OnErr r (store ≡ get_or rows id.0 []) → OnErr r (IndexesOf schema.accesses (set rows id.0 (get_or rows id.0 [])) new)
    → IsGuarded schema (set rows id.0 store) new
after_insert (Ok x) schema rows old new id added store g live fit is few indexed hold same stay =
    subst (λ s. IsGuarded schema (set rows id.0 s) new) (sym is)
    (guarded_with_rows schema rows old new id (get_or rows id.0 [] ++ added) g live (omega (arith, few, length-append (get_or rows id.0 []) added))
    (All-append (RowFits (columns_at schema id)) (get_or rows id.0 []) added (g.fits id.0 live) fit) indexed hold)
after_insert (Err x) schema rows old new id added store g live fit is few indexed hold same stay =
    subst (λ s. IsGuarded schema (set rows id.0 s) new) (sym same)
    (guarded_with_rows schema rows old new id (get_or rows id.0 []) g live (g.few id.0 [] live) (g.fits id.0 live) stay
    (subst (λ rs. HoldOver schema.accesses rs) (sym (set-get_or rows id.0 [])) g.hold))

hold_filtered : (accesses : List Access) (rows : List (List Row)) (table : ℕ) (p : Row → Bool) → table < length rows → HoldOver accesses rows
    → HoldOver accesses (set rows table (filter p (get_or rows table [])))
hold_filtered accesses rows table p live hold i d l = elim (cases_eq (get_or accesses i d).table.0 table) [
  | inl s ↦ subst (λ (rs : List Row). Holds rs (get_or accesses i d))
      (sym (ap (λ t. get_or (set rows table (filter p (get_or rows table []))) t []) s ∙ get_or-set_same rows table (filter p (get_or rows table [])) [] live))
      (Holds-filter p (get_or rows table []) (get_or accesses i d) (subst (λ (t : ℕ). Holds (get_or rows t []) (get_or accesses i d)) s (hold i d l)))
  | inr n ↦ subst (λ (rs : List Row). Holds rs (get_or accesses i d))
      (sym (get_or-set_other rows table (get_or accesses i d).table.0 (filter p (get_or rows table [])) [] n)) (hold i d l)
]

-- after rows were filtered
pub after_filter : (schema : Schema) (rows : List (List Row)) (old new : List Index) (id : TableId) (p : Row → Bool) → IsGuarded schema rows old
    → id.0 < length rows
    → IndexesOf schema.accesses (set rows id.0 (filter p (get_or rows id.0 []))) new → IsGuarded schema (set rows id.0 (filter p (get_or rows id.0 []))) new
after_filter schema rows old new id p g live indexed =
    guarded_with_rows schema rows old new id (filter p (get_or rows id.0 [])) g live
    (omega (arith, g.few id.0 [] live, length-filter_both p (λ x. not (p x)) (λ x. refl) (get_or rows id.0 [])))
    (All-filter p (RowFits (columns_at schema id)) (get_or rows id.0 []) (g.fits id.0 live)) indexed (hold_filtered schema.accesses rows id.0 p live g.hold)
