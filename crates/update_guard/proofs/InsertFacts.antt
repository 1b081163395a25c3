-- Rows put into the indexes of their table one after another.
use Rattle.std.proofs.Common.{◌≡◌, ◌∙◌, ◌<◌, ◌≤◌, ◌+◌, ◌^◌, ℕ, suc, Bool, false, List, [], ◌∷◌, ◌++◌, map, take, drop, length, get_or, set, ap, sym, subst, arith, inl, inr, Option, None, add-one, length-append, append_assoc, true≢false}
use Rattle.std.specs.Prelude.{option_map, All, Result, Ok, Err, OnErr, if◌then◌else◌}
use Rattle.std.specs.List.{enumerate_from}
use Rattle.std.specs.Option.{option_or}
use Rattle.std.specs.Result.{IsErr, IsErrAnd}
use Rattle.std.proofs.Math.Seq.{drop-cons, take-suc}
use Rattle.std.proofs.Math.ListN.{drop_of_length-le}
use Rattle.std.proofs.lemmas.Bool.{cases_eq}
use Rattle.std.proofs.lemmas.List.{get_or-set_same, get_or-set_other, set-get_or}
use Rattle.std.proofs.lemmas.List.FromFn.{get_or-enumerate_from, length-enumerate_from}
use Rattle.beas_core.specs.declared.errors.Fail.{Fail}
use Rattle.beas_core.specs.declared.errors.Fail.TheVariants.{NoMemory, Refused}
use Rattle.beas_core.specs.declared.refusal.Refusal.{Refusal}
use Rattle.beas_core.specs.declared.schema.Access.{Access}
use Rattle.beas_core.specs.Types.{Row}
use Rattle.access_index.specs.Index.{Index}
use Rattle.catalogue.specs.Refusing.{broken, breaks_bound, first_of}
use Rattle.beas_core.specs.Results.{IsRefusedAs}
use Rattle.update_guard.specs.Guarding.{IndexesOf}
use Rattle.update_guard.specs.Indexing.{no_access}

pub always_err : {A E Q : Type 0} (r : Result A E) → Q → OnErr r Q
always_err (Ok x) q = tt
always_err (Err x) q = q

pub refused_head : (A : Type 0) (why : Fail) (first rest : Option Refusal) → IsRefusedAs {A = A} (Err why) first
    → IsRefusedAs {A = A} (Err why) (option_or first rest)
refused_head A NoMemory first rest r = tt
refused_head A (Refused why) first rest r = ap (λ f. option_or f rest) r

-- the refusal of a row after those before it
abbrev pub refusal_at : List Access → List Row → List Row → ℕ × Row → Option Refusal
refusal_at accesses own rows r = option_map (breaks_bound r) (broken accesses (own ++ take r.0 rows))

abbrev pub refusals_from : List Access → List Row → List Row → ℕ → Option Refusal
refusals_from accesses own rows i = first_of (map (refusal_at accesses own rows) (drop i (enumerate_from 1 rows)))

pub one_more : (own rows : List Row) (i : ℕ) (row : Row) → i < length rows → row ≡ get_or rows i row
    → (own ++ take i rows) ++ row ∷ [] ≡ own ++ take (i + 1) rows
one_more own rows i row h is =
    append_assoc own (take i rows) (row ∷ []) ∙ ap (λ x. own ++ (take i rows ++ x ∷ [])) is
    ∙ ap (λ xs. own ++ xs) (sym (take-suc rows i row h)) ∙ ap (λ j. own ++ take j rows) (sym (add-one i))

pub bound_step : (accesses : List Access) (own rows : List Row) (i : ℕ) (row : Row) → i < length rows → row ≡ get_or rows i row
    → refusals_from accesses own rows i ≡ option_or (option_map (breaks_bound (i + 1, row)) (broken accesses ((own ++ take i rows) ++ row ∷ [])))
    (refusals_from accesses own rows (i + 1))
bound_step accesses own rows i row h is =
    let long : i < length (enumerate_from 1 rows) = rw (length-enumerate_from 1 rows) h in
    let n : 1 + i ≡ i + 1 = omega arith in
    let F = refusal_at accesses own rows in
    ap (λ es. first_of (map F es)) (drop-cons (enumerate_from 1 rows) i (0, row) long)
    ∙ ap (λ e. option_or (F e) (first_of (map F (drop (suc i) (enumerate_from 1 rows)))))
    (get_or-enumerate_from 1 rows i (0, row) h ∙ ap (λ m. (m, get_or rows i row)) n ∙ ap (λ (x : Row). (i + 1, x)) (sym is))
    ∙ ap (λ own'. option_or (option_map (breaks_bound (i + 1, row)) (broken accesses own')) (first_of (map F (drop (suc i) (enumerate_from 1 rows)))))
    (sym (one_more own rows i row h is))
    ∙ ap (λ j. option_or (option_map (breaks_bound (i + 1, row)) (broken accesses ((own ++ take i rows) ++ row ∷ []))) (refusals_from accesses own rows j))
    (sym (add-one i))

pub bound_end : (accesses : List Access) (own rows : List Row) (i : ℕ) → length rows ≤ i → refusals_from accesses own rows i ≡ None
bound_end accesses own rows i h =
    let long : length (enumerate_from 1 rows) ≤ i = rw (length-enumerate_from 1 rows) h in
    ap (λ es. first_of (map (refusal_at accesses own rows) es)) (drop_of_length-le (enumerate_from 1 rows) long)

-- there is room for more rows in each index
pub room_of : (accesses : List Access) (rows : List (List Row)) (table : ℕ) (own added : List Row) (count more : ℕ) (indexes : List Index)
    → table < length rows
    → ((i : ℕ) → length (get_or (set rows table own) i []) + more < 2 ^ 32) → length added + count ≤ more
    → IndexesOf accesses (set rows table (own ++ added)) indexes
    → All (λ x. x.total + count < 2 ^ 32) indexes
room_of accesses rows table own added count more indexes live few fits is k d l =
    let o = is.each k d no_access (omega (arith, l, is.count)) in
    let a = get_or accesses k no_access in
    elim (cases_eq a.table.0 table) [
      | inl s ↦
          let read : length (get_or (set rows table (own ++ added)) a.table.0 []) ≡ length own + length added =
          ap (λ t. length (get_or (set rows table (own ++ added)) t [])) s ∙ ap length (get_or-set_same rows table (own ++ added) [] live)
          ∙ length-append own added in
          let bound = few table in
          let same : length (get_or (set rows table own) table []) ≡ length own = ap length (get_or-set_same rows table own [] live) in
          omega (arith, o.index_is.total_is, read, bound, same, fits)
      | inr n ↦
          let read : length (get_or (set rows table (own ++ added)) a.table.0 [])
          ≡ length (get_or rows a.table.0 []) = ap length (get_or-set_other rows table a.table.0 (own ++ added) [] n) in
          let same : length (get_or (set rows table own) a.table.0 [])
          ≡ length (get_or rows a.table.0 []) = ap length (get_or-set_other rows table a.table.0 own [] n) in
          omega (arith, o.index_is.total_is, read, same, few a.table.0, fits)
    ]

-- an error is the same refusal whatever the call would have answered
pub refused_alike : (A B : Type 0) (why : Fail) (r : Option Refusal) → IsRefusedAs {A = A} (Err why) r → IsRefusedAs {A = B} (Err why) r
refused_alike A B NoMemory r h = tt
refused_alike A B (Refused why) r h = h

-- a refusal that is handed on
pub refused_on : (A B : Type 0) (r : Result B Fail) (why : Fail) (o : Option Refusal) → IsErr r × IsErrAnd r (λ e. e ≡ why)
    → IsRefusedAs {A = A} (Err why) o → IsRefusedAs {A = B} r o
refused_on A B (Ok x) why o y h = absurd (true≢false (sym y.0))
refused_on A B (Err e) why o y h = subst (λ (w : Fail). IsRefusedAs {A = B} (Err w) o) (sym y.1) (refused_alike A B why o h)

-- what is left where rows are to go in together, by whether they did
abbrev pub LeftBy : List Access → ℕ → List Row → List Index → List Index → Bool → Type 0
LeftBy accesses table added old new all =
    (rows : List (List Row)) (front : List Row) → table < length rows → IndexesOf accesses (set rows table front) old
    → IndexesOf accesses (set rows table (if all then front ++ added else front)) new

-- where they didn't, the indexes are still those of all rows
pub as_before : (accesses : List Access) (table : ℕ) (added : List Row) (old new : List Index) (rows : List (List Row))
    → LeftBy accesses table added old new false → table < length rows → IndexesOf accesses rows old → IndexesOf accesses rows new
as_before accesses table added old new rows left live is =
    let same = set-get_or rows table [] in
    subst (λ all. IndexesOf accesses all new) same (left rows (get_or rows table []) live (subst (λ all. IndexesOf accesses all old) (sym same) is))
