-- An update changes one table at most.
use Rattle.std.proofs.Common.{◌≡◌, ◌≢◌, ◌++◌, ◌∙◌, ℕ, zero, suc, Bool, true, false, not, List, [], ◌∷◌, get_or, refl, ap, sym, subst}
use Rattle.std.specs.Prelude.{filter}
use Rattle.std.proofs.lemmas.List.{get_or-set_other}
use Rattle.beas_core.specs.declared.schema.Access.{Access}
use Rattle.beas_core.specs.declared.schema.AccessId.{AccessId}
use Rattle.beas_core.specs.declared.schema.TableId.{TableId}
use Rattle.beas_core.specs.Derivations.{access_in, is_live}
use Rattle.beas_core.specs.Shapes.{EachIdOnce}
use Rattle.beas_core.proofs.Accesses.{access_in-append, access_in-member, is_live-append, is_live-member}
use Rattle.beas_core.proofs.Sets.{Has-filter, Has-from_filter, Contains-from_has}
use Rattle.catalogue.specs.Database.{Database, Table, empty_table, rows_at}
use Rattle.catalogue.specs.Schema.{access_has_name}
use Rattle.beas_core.proofs.MoreAccesses.{live_id}
use Rattle.beas_core.proofs.UseFacts.{found_by_id}
use Rattle.desk_model.specs.Frames.{SameOn, Update, NewTable, ReplacedRows, NewAccess, DroppedAccess, updated, IsUntouched}

-- a live constraint that passes a filter is live there, and the same
pub passed : (q : Access → Bool) (own : List Access) (id : AccessId) → EachIdOnce own → is_live own id ≡ true → q (access_in own id) ≡ true
    → (is_live (filter q own) id ≡ true) × (access_in (filter q own) id ≡ access_in own id)
passed q own id once live passes =
    let there = Has-filter q own (access_in own id) (access_in-member own id live) passes in
    let alive : is_live (filter q own) id ≡ true =
    subst (λ i. is_live (filter q own) i ≡ true) (live_id own id live) (is_live-member (filter q own) (access_in own id) there) in
    let one = Has-from_filter q own (access_in (filter q own) id) (access_in-member (filter q own) id alive) in (
      alive,
      sym (found_by_id own once (access_in (filter q own) id) one.0)
          ∙ ap (access_in own) (live_id (filter q own) id alive),
    )

not_named : (c : Bool) (m n : ℕ) → (c ≡ true → m ≢ n) → m ≡ n → not c ≡ true
not_named true m n other same = absurd (other refl same)
not_named false m n other same = refl

-- a table that is made has no rows, as little as a table that isn't there
rows_with_table : (tables : List Table) (made : Table) (k : ℕ) → made.rows ≡ []
    → (get_or (tables ++ made ∷ []) k empty_table).rows ≡ (get_or tables k empty_table).rows
rows_with_table [] made zero none = none
rows_with_table [] made (suc k) none = refl
rows_with_table (table ∷ tables) made zero none = refl
rows_with_table (table ∷ tables) made (suc k) none = rows_with_table tables made k none

pub untouched_stays : (db : Database) (update : Update) (t : TableId) → EachIdOnce db.accesses → IsUntouched db update t
    → SameOn db.accesses (updated db update).accesses (rows_at db) (rows_at (updated db update)) t
untouched_stays db (NewTable name columns) t once free = record {
  rows = rows_with_table db.tables (record { name = name; columns = columns; rows = [] }) t.0 refl;
  constraints = λ id live on. (live, refl);
}
untouched_stays db (ReplacedRows table rows) t once free = record {
  rows = ap (λ (found : Table). found.rows) (get_or-set_other db.tables table.0 t.0 _ empty_table (λ same. free (sym same)));
  constraints = λ id live on. (live, refl);
}
untouched_stays db (NewAccess access) t once free = record {
  rows = refl;
  constraints = λ id live on. (is_live-append db.accesses (access ∷ []) id live, access_in-append db.accesses (access ∷ []) id live);
}
untouched_stays db (DroppedAccess name) t once free = record {
  rows = refl;
  constraints = λ id live on. passed (λ a. not (access_has_name name a)) db.accesses id once live
      (not_named (access_has_name name (access_in db.accesses id)) (access_in db.accesses id).table.0 t.0
      (free (access_in db.accesses id) (Contains-from_has db.accesses (access_in db.accesses id) (access_in-member db.accesses id live))) on);
}
