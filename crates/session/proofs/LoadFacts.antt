-- Rows that fit their table's columns are refused for their number or for a bound alone.
use Rattle.std.proofs.Common.{◌≡◌, ◌∙◌, ◌+◌, ◌==◌, ℕ, Bool, true, false, cond, not, ◌&&◌, List, [], ◌∷◌, length, refl, ap, All, Some, None}
use Rattle.std.specs.Prelude.{find, option_map, unwrap_or}
use Rattle.std.specs.List.{enumerate_from, list_all, zip}
use Rattle.std.specs.Option.{is_some, option_or}
use Rattle.std.proofs.lemmas.Bool.{eq-eqb}
use Rattle.std.proofs.lemmas.List.Elements.{All-head, All-tail}
use Rattle.beas_core.specs.declared.limits.Limits.{Limits}
use Rattle.beas_core.specs.declared.refusal.Refusal.TheVariants.{WrongType, WrongWidth}
use Rattle.beas_core.specs.declared.schema.Column.{Column}
use Rattle.beas_core.specs.declared.schema.TableId.{TableId}
use Rattle.beas_core.specs.declared.value.Value.{Value}
use Rattle.beas_core.specs.Types.{Row}
use Rattle.catalogue.specs.Database.{Database, RowFits, has_kind, schema_of}
use Rattle.catalogue.specs.Refusing.{insert_refusal, misfit, wrong_type, wrong_width}
use Rattle.catalogue.specs.Schema.{columns_at}
use Rattle.session.specs.Effects.{load_refusal}

none_fails : {X : Type 0} (p : X → Bool) (xs : List X) → list_all p xs ≡ true → find (λ x. not (p x)) xs ≡ None
none_fails p [] t = refl
none_fails {X} p (x ∷ xs) t = by (p x) t (none_fails p xs)
  where
    by : (b : Bool) → (b && list_all p xs) ≡ true → (list_all p xs ≡ true → find (λ y. not (p y)) xs ≡ None)
        → cond (not b) (Some x) (find (λ y. not (p y)) xs) ≡ None
    by true h rest = rest h
    by false h rest = cc

module _ (columns : List Column) where
  widths_fit : (n : ℕ) (rows : List Row) → All (RowFits columns) rows
      → find (λ r. not (length r.1 == length columns)) (enumerate_from n rows) ≡ None
  widths_fit n [] fit = refl
  widths_fit n (row ∷ rows) fit =
      ap (λ b. cond (not b) (Some (n, row)) (find (λ (r : ℕ × Row). not (length r.1 == length columns)) (enumerate_from (n + 1) rows)))
      (eq-eqb (length row) (length columns) (All-head (RowFits columns) row rows fit).width)
      ∙ widths_fit (n + 1) rows (All-tail (RowFits columns) row rows fit)

  no_misfit : (row : Row) → RowFits columns row → misfit columns row ≡ None
  no_misfit row fits =
      ap (option_map (λ (p : Column × Value). p.0.name)) (none_fails (λ (p : Column × Value). has_kind p.0.kind p.1) (zip columns row) fits.types)

  types_fit : (n : ℕ) (rows : List Row) → All (RowFits columns) rows
      → find (λ r. is_some (misfit columns r.1)) (enumerate_from n rows) ≡ None
  types_fit n [] fit = refl
  types_fit n (row ∷ rows) fit =
      ap (λ o. cond (is_some o) (Some (n, row)) (find (λ (r : ℕ × Row). is_some (misfit columns r.1)) (enumerate_from (n + 1) rows)))
      (no_misfit row (All-head (RowFits columns) row rows fit))
      ∙ types_fit (n + 1) rows (All-tail (RowFits columns) row rows fit)

  width_fits : (rows : List Row) → All (RowFits columns) rows → wrong_width columns rows ≡ None
  width_fits rows fit = ap (option_map (λ (r : ℕ × Row). WrongWidth r.0 (length r.1) (length columns))) (widths_fit 1 rows fit)

  type_fits : (rows : List Row) → All (RowFits columns) rows → wrong_type columns rows ≡ None
  type_fits rows fit = ap (option_map (λ (r : ℕ × Row). WrongType r.0 (unwrap_or (misfit columns r.1) []))) (types_fit 1 rows fit)

pub refused_by_load : (limits : Limits) (db : Database) (id : TableId) (rows : List Row) → All (RowFits (columns_at (schema_of db) id)) rows
    → insert_refusal limits db id rows ≡ load_refusal limits db id rows
refused_by_load limits db id rows fit =
    let columns = columns_at (schema_of db) id in
    ap (λ w. option_or w (option_or (wrong_type columns rows) (load_refusal limits db id rows))) (width_fits columns rows fit)
    ∙ ap (λ w. option_or w (load_refusal limits db id rows)) (type_fits columns rows fit)
