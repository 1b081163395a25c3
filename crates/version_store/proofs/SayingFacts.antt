-- What a statement leaves of the open queries, and what it does at a desk.
use Rattle.std.proofs.Common.{◌≡◌, ◌<◌, ◌==◌, ◌∙◌, ℕ, Bool, true, false, List, [], ◌∷◌, length, map, get_or, Result, Ok, Err, inl, inr, refl, ap, sym, subst, arith}
use Rattle.std.specs.Prelude.{◌⊎◌, All, IfOk, OnErr, OnOk}
use Rattle.std.specs.List.{list_any}
use Rattle.std.proofs.lemmas.Bool.{eq-eqb}
use Rattle.std.proofs.lemmas.List.{get_or-map, length-map}
use Rattle.std.proofs.lemmas.List.Elements.{All-cons, All-head, All-tail}
use Rattle.std.proofs.lemmas.List.Folds.{list_any_at}
use Rattle.beas_core.specs.declared.plan.Prepared.{Prepared}
use Rattle.beas_core.specs.declared.query.Atom.{Atom}
use Rattle.beas_core.specs.declared.query.Block.{Block}
use Rattle.beas_core.specs.declared.schema.TableId.{TableId}
use Rattle.beas_core.specs.Classes.{normal_of}
use Rattle.beas_core.specs.Fits.{PreparedIsWellFormed}
use Rattle.beas_core.specs.Shapes.{EachIdOnce}
use Rattle.beas_core.specs.Trees.{blocks_of}
use Rattle.block_walk.specs.Worlds.{World}
use Rattle.catalogue.specs.Database.{Database, rows_at, schema_of}
use Rattle.catalogue.specs.Schema.{SchemaIsSound}
use Rattle.desk_model.specs.Frames.{SameForQuery, SameOn}
use Rattle.desk_model.proofs.PartFacts.{parts_keep}
use Rattle.version_store.specs.Held.{HasPart, cursor_of, has_atom, has_part, names}
use Rattle.version_store.proofs.WorldFacts.{held_still, kept_still}
use Rattle.outside.specs.Seen.{Seen as Files}
use Rattle.beas_core.specs.declared.errors.NoMemory.{NoMemory}
use Rattle.report.specs.declared.reports.Report.{Report}
use Rattle.session.specs.declared.loading.LoadOutcome.{LoadOutcome}
use Rattle.session.specs.Applying.{IsApplied, MayLoad}
use Rattle.session.specs.Effects.{Action, Does, Loads, Settings, action_of}
use Rattle.session.specs.Statements.{StatementIsWellFormed}
use Rattle.session.specs.Turns.{turn_of}
use Rattle.sql_text.specs.declared.tree.Statement.{Statement}
use Rattle.desk_model.specs.Changes.{changes}
use Rattle.desk_model.specs.Desks.{OneEach, State}
use Rattle.desk_model.proofs.ChangeFacts.{keeps}
use Rattle.desk_model.proofs.SoundFacts.{stays_sound}
use Rattle.version_store.proofs.ChangedFacts.{once_in}
use Rattle.version_store.specs.Stored.{AreCounted, AreKept, IsOpenAt, Open, constraints_in, held_at, rows_in, table_in, world_at}

-- ---- a query names the table of each of its atoms

atoms_named : (atoms : List Atom) (j : ℕ) (e : Atom) → j < length atoms
    → list_any (λ a. a.table.0 == (get_or atoms j e).table.0) atoms ≡ true
atoms_named atoms j e below =
    list_any_at (λ (a : Atom). a.table.0 == (get_or atoms j e).table.0) atoms j e below
    (eq-eqb (get_or atoms j e).table.0 (get_or atoms j e).table.0 refl)

normal_has : (block : Block) (t : TableId) → list_any (λ a. a.table.0 == t.0) block.atoms ≡ true → has_atom t (normal_of block) ≡ true
unfolding normal_of
normal_has block t there = there

named : (prepared : Prepared) → PreparedIsWellFormed prepared → (i : ℕ) (d : Block) → i < length (blocks_of prepared.query) → (j : ℕ) (e : Atom)
    → j < length (get_or (blocks_of prepared.query) i d).atoms
    → names prepared (get_or (get_or (blocks_of prepared.query) i d).atoms j e).table ≡ true
named prepared formed i d below j e within =
    let blocks = blocks_of prepared.query in
    let block = get_or blocks i d in
    let t = (get_or block.atoms j e).table in
    ap (λ ns. list_any (has_atom t) ns) formed.normals
    ∙ list_any_at (has_atom t) (map normal_of blocks) i (normal_of d) (omega (arith, below, length-map blocks normal_of))
    (ap (has_atom t) (get_or-map normal_of blocks i d (normal_of d) below) ∙ normal_has block t (atoms_named block.atoms j e within))

-- ---- a query whose changed tables are kept sees what it saw

module _ (old new : Database) (once : EachIdOnce old.accesses) (still : EachIdOnce new.accesses) (changed : TableId → Bool)
    (unchanged : (t : TableId) → changed t ≡ false → SameOn old.accesses new.accesses (rows_at old) (rows_at new) t) where
  module _ (query : Open) (is : IsOpenAt old query) (frozen : (t : TableId) → changed t ≡ true → HasPart table_in t query) where
    abbrev w : World
    w = world_at old query

    abbrev v : World
    v = world_at new query

    same_there : (t : TableId) → names query.cursor.prepared t ≡ true → SameOn w.accesses v.accesses w.rows v.rows t
    same_there t named = parts_keep table_in rows_in constraints_in query.parts.items old.accesses new.accesses (rows_at old) (rows_at new) t once still
        (by (changed t) refl)
      where
        by : (b : Bool) → changed t ≡ b
            → (has_part table_in query.parts.items t ≡ true) ⊎ SameOn old.accesses new.accesses (rows_at old) (rows_at new) t
        by true e = inl (frozen t e named)
        by false e = inr (unchanged t e)

    same : SameForQuery w.accesses v.accesses w.rows v.rows query.cursor.prepared.query
    same = λ i d below j e within. same_there _ (named query.cursor.prepared is.kept.fits.plan.well_formed i d below j e within)

    pub open_still : IsOpenAt new query
    open_still = record { header = is.header; apart = is.apart; kept = kept_still w v query.cursor is.kept same }

    pub see_still : held_at new query ≡ held_at old query
    see_still = held_still w v query.cursor is.kept same query.session query.plan

  pub open_after : (queries : List Open) → All (IsOpenAt old) queries → ((t : TableId) → changed t ≡ true → All (HasPart table_in t) queries)
      → All (IsOpenAt new) queries
  open_after queries all frozen = λ i d below. open_still (get_or queries i d) (all i d below) (λ t e. frozen t e i d below)

  pub see_after : (queries : List Open) → All (IsOpenAt old) queries → ((t : TableId) → changed t ≡ true → All (HasPart table_in t) queries)
      → map (held_at new) queries ≡ map (held_at old) queries
  see_after [] all frozen = refl
  see_after (query ∷ queries) all frozen =
      ap (λ q. q ∷ map (held_at new) queries) (see_still query (All-head (IsOpenAt old) query queries all)
      (λ t e. All-head (HasPart table_in t) query queries (frozen t e)))
      ∙ ap (λ qs. held_at old query ∷ qs) (see_after queries (All-tail (IsOpenAt old) query queries all)
      (λ t e. All-tail (HasPart table_in t) query queries (frozen t e)))

-- ---- what is true of what is seen, and of the cursors, stays true

both_stay : {X Y Z : Type 0} (R : Y → Z → Type 0) (f g : X → Y) (h : X → Z) (xs ys : List X) → map g ys ≡ map f xs → map h ys ≡ map h xs
    → All (λ x. R (f x) (h x)) xs → All (λ y. R (g y) (h y)) ys
both_stay R f g h xs [] same alike all = λ i d below. absurd (omega (arith, below))
both_stay R f g h [] (y ∷ ys) same alike all = absurd (let n = ap length same in omega (arith, n))
both_stay R f g h (x ∷ xs) (y ∷ ys) same alike all =
    let one : g y ≡ f x = cc in
    let other : h y ≡ h x = cc in
    let more : map g ys ≡ map f xs = cc in
    let others : map h ys ≡ map h xs = cc in
    All-cons (λ z. R (g z) (h z)) y ys
    (subst (λ a. R a (h y)) (sym one) (subst (R (f x)) (sym other) (All-head (λ z. R (f z) (h z)) x xs all)))
    (both_stay R f g h xs ys more others (All-tail (λ z. R (f z) (h z)) x xs all))

pub kept_after : (old new : Database) (before after : List Open) → AreKept old before → SchemaIsSound (schema_of new) → All (IsOpenAt new) after
    → map (held_at new) after ≡ map (held_at old) before → map cursor_of after ≡ map cursor_of before → AreKept new after
kept_after old new before after kept sound is_open see cursors = record {
  sound = sound;
  one_each = subst (λ queries. let s : State = record { db = new; queries = queries } in OneEach s) (sym see) kept.one_each;
  open_queries = is_open;
  counts = both_stay AreCounted (held_at old) (held_at new) cursor_of before after see cursors kept.counts;
}

pub on_ok : {T E : Type 0} (r : Result T E) (P Q : Type 0) → (P → Q) → OnOk r P → OnOk r Q
on_ok (Ok x) P Q f p = f p
on_ok (Err e) P Q f p = tt

-- ---- a statement

module _ (s : Settings) (db : Database) (statement : Statement) (formed : StatementIsWellFormed statement) (sound : SchemaIsSound (schema_of db))
    (queries : List Open) (is_open : All (IsOpenAt db) queries)
    (frozen : (t : TableId) → changes (schema_of db) statement t ≡ true → All (HasPart table_in t) queries) where
  -- of the database after it
  pub record Leaves (new : Database) : Type 0 where
    pub sound_after : SchemaIsSound (schema_of new)
    pub still_open : All (IsOpenAt new) queries
    pub held : map (held_at new) queries ≡ map (held_at db) queries

  leaves_by : (new : Database) (outcome : LoadOutcome) → new ≡ (turn_of (action_of s db statement) outcome).effect.db → Leaves new
  leaves_by new outcome is =
      let once = once_in (schema_of db) sound in
      let sound_after = subst (λ (d : Database). SchemaIsSound (schema_of d)) (sym is) (stays_sound db sound s statement outcome formed).stays in
      let stays : (t : TableId) → changes (schema_of db) statement t ≡ false → SameOn db.accesses new.accesses (rows_at db) (rows_at new) t = λ t none.
      subst (λ (d : Database). SameOn db.accesses d.accesses (rows_at db) (rows_at d) t) (sym is) (keeps db t once s statement outcome none).same in
      record {
        sound_after = sound_after;
        still_open = open_after db new once (once_in (schema_of new) sound_after) (changes (schema_of db) statement) stays queries is_open frozen;
        held = see_after db new once (once_in (schema_of new) sound_after) (changes (schema_of db) statement) stays queries is_open frozen;
      }

  pub statement_leaves : (new : Database) (limit a b : ℕ) (x y : Files) (r : Result Report NoMemory)
      → IfOk r (λ given. IsApplied limit (action_of s db statement) given new a b x y) → OnErr r (new ≡ db)
      → Leaves new
  statement_leaves new limit a b x y (Ok given) applied unchanged = leaves_by new applied.outcome applied.db_is
  statement_leaves new limit a b x y (Err e) applied unchanged =
      subst Leaves (sym unchanged) (record { sound_after = sound; still_open = is_open; held = refl })

-- ---- a call that didn't come to it

pub none_loaded : (action : Action) (x : Files) → MayLoad action x x
none_loaded (Does effect) x = refl
none_loaded (Loads name effect) x = inl refl
