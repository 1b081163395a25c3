-- What parts keep of a store, whatever becomes of it.
use Rattle.std.proofs.Common.{◌≡◌, ◌==◌, ◌||◌, ◌∙◌, ◌++◌, append_assoc, ℕ, Bool, true, false, not, List, [], ◌∷◌, ◌⊎◌, inl, inr, flat_map, refl, ap, sym, subst}
use Rattle.std.specs.Prelude.{if◌then◌else◌, filter}
use Rattle.std.specs.List.{list_any}
use Rattle.std.proofs.lemmas.Bool.{eqb-true, eq-eqb}
use Rattle.beas_core.specs.declared.schema.Access.{Access}
use Rattle.beas_core.specs.declared.schema.AccessId.{AccessId}
use Rattle.beas_core.specs.declared.schema.TableId.{TableId}
use Rattle.beas_core.specs.Types.{TableRows}
use Rattle.beas_core.specs.Derivations.{access_in, is_live}
use Rattle.beas_core.specs.Shapes.{EachIdOnce}
use Rattle.beas_core.proofs.Accesses.{access_in-append, is_live-append}
use Rattle.desk_model.specs.Kept.{rows_with, is_frozen, accesses_with}
use Rattle.desk_model.proofs.KeptFacts.{access_in-skip, is_live-skip, kept_of_store}
use Rattle.desk_model.specs.Frames.{SameOn, KeepsTable}
use Rattle.desk_model.proofs.UpdateFacts.{passed}

not_true : (b : Bool) → not b ≡ true → b ≡ false
not_true true h = cc
not_true false h = refl

module _ {P : Type 0} (table : P → TableId) (rows : P → TableRows) (accesses : P → List Access) where
  abbrev front : List P → List Access
  front parts = flat_map accesses parts

  abbrev left : List P → List Access → List Access
  left parts own = filter (λ a. not (is_frozen table parts a)) own

  abbrev has_part : List P → TableId → Bool
  has_part parts t = list_any (λ p. (table p).0 == t.0) parts

  -- ---- rows

  rows-frozen : (parts : List P) (old new : TableRows) (t : TableId) → has_part parts t ≡ true
      → rows_with table rows parts new t ≡ rows_with table rows parts old t
  rows-frozen [] old new t has = cc
  rows-frozen (part ∷ parts) old new t has = by ((table part).0 == t.0) has (rows-frozen parts old new t)
    where
      by : (b : Bool) → (b || has_part parts t) ≡ true
          → (has_part parts t ≡ true → rows_with table rows parts new t ≡ rows_with table rows parts old t)
          → (if b then rows part t else rows_with table rows parts new t) ≡ (if b then rows part t else rows_with table rows parts old t)
      by true h later = refl
      by false h later = later h

  rows-same : (parts : List P) (old new : TableRows) (t : TableId) → new t ≡ old t
      → rows_with table rows parts new t ≡ rows_with table rows parts old t
  rows-same [] old new t same = same
  rows-same (part ∷ parts) old new t same =
      ap (λ found. if (table part).0 == t.0 then rows part t else found) (rows-same parts old new t same)

  -- a constraint of the front of the parts, or a live one of the store on a table that has none
  record InStore (parts : List P) (own : List Access) (id : AccessId) : Type 0 where
    none : is_live (front parts) id ≡ false
    access : access_in (accesses_with table accesses parts own) id ≡ access_in own id
    live : is_live own id ≡ true
    free : is_frozen table parts (access_in own id) ≡ false

  where_it_is : (parts : List P) (own : List Access) (id : AccessId) → EachIdOnce own → is_live (accesses_with table accesses parts own) id ≡ true
      → (is_live (front parts) id ≡ true) ⊎ InStore parts own id
  where_it_is parts own id once live = by (is_live (front parts) id) refl
    where
      by : (b : Bool) → is_live (front parts) id ≡ b → (is_live (front parts) id ≡ true) ⊎ InStore parts own id
      by true e = inl e
      by false e =
          let there = sym (is_live-skip (front parts) (left parts own) id e) ∙ live in
          let k = kept_of_store (λ a. not (is_frozen table parts a)) own id once there in
          inr (record {
            none = e;
            access = access_in-skip (front parts) (left parts own) id e ∙ k.access;
            live = k.live;
            free = not_true (is_frozen table parts (access_in own id)) k.passes;
          })

  -- and there it stands, where no part has it
  in_left : (parts : List P) (own : List Access) (id : AccessId) → EachIdOnce own → is_live (front parts) id ≡ false → is_live own id ≡ true
      → is_frozen table parts (access_in own id) ≡ false
      → (is_live (accesses_with table accesses parts own) id ≡ true) × (access_in (accesses_with table accesses parts own) id ≡ access_in own id)
  in_left parts own id once none live free =
      let f = passed (λ a. not (is_frozen table parts a)) own id once live (ap not free) in (
        is_live-skip (front parts) (left parts own) id none ∙ f.0,
        access_in-skip (front parts) (left parts own) id none ∙ f.1,
      )

  -- ---- whatever becomes of the store

  pub parts_keep : (parts : List P) (few many : List Access) (old new : TableRows) (t : TableId) → EachIdOnce few → EachIdOnce many
      → (has_part parts t ≡ true) ⊎ SameOn few many old new t
      → SameOn (accesses_with table accesses parts few) (accesses_with table accesses parts many)
      (rows_with table rows parts old) (rows_with table rows parts new) t
  parts_keep parts few many old new t once_few once_many kept = record {
    rows = elim kept [ inl has ↦ rows-frozen parts old new t has | inr same ↦ rows-same parts old new t same.rows ];
    constraints = λ id live on. elim (where_it_is parts few id once_few live) [
      | inl here ↦ (
        is_live-append (front parts) (left parts many) id here,
        access_in-append (front parts) (left parts many) id here ∙ sym (access_in-append (front parts) (left parts few) id here),
      )
      | inr store ↦
          let there : (access_in few id).table.0 ≡ t.0 = ap (λ (a : Access). a.table.0) (sym store.access) ∙ on in
          let free : has_part parts t ≡ false = subst (λ k. list_any (λ p. (table p).0 == k) parts ≡ false) there store.free in
          by_store id store there free kept
    ];
  }
    where
      by_store : (id : AccessId) → InStore parts few id → (access_in few id).table.0 ≡ t.0 → has_part parts t ≡ false
          → (has_part parts t ≡ true) ⊎ SameOn few many old new t
          → (is_live (accesses_with table accesses parts many) id ≡ true)
          × (access_in (accesses_with table accesses parts many) id ≡ access_in (accesses_with table accesses parts few) id)
      by_store id store there free (inl has) = absurd (let no : true ≡ false = sym has ∙ free in cc)
      by_store id store there free (inr same) =
          let s = same.constraints id store.live there in
          let f = in_left parts many id once_many store.none s.0 (subst (λ a. is_frozen table parts a ≡ false) (sym s.1) store.free) in
          (f.0, f.1 ∙ s.1 ∙ sym store.access)

  -- ---- a part that is made of a table as it is

  front-more : (parts : List P) (part : P) → front (parts ++ part ∷ []) ≡ front parts ++ (accesses part ++ [])
  front-more [] part = refl
  front-more (p ∷ parts) part =
      ap (λ more. accesses p ++ more) (front-more parts part) ∙ sym (append_assoc (accesses p) (front parts) (accesses part ++ []))

  frozen-more : (parts : List P) (part : P) (a : Access) → is_frozen table (parts ++ part ∷ []) a
      ≡ (is_frozen table parts a || ((table part).0 == a.table.0 || false))
  frozen-more [] part a = refl
  frozen-more (p ∷ parts) part a = ap (λ b. (table p).0 == a.table.0 || b) (frozen-more parts part a) ∙ by ((table p).0 == a.table.0)
    where
      by : (b : Bool) → (b || (is_frozen table parts a || ((table part).0 == a.table.0 || false)))
          ≡ ((b || is_frozen table parts a) || ((table part).0 == a.table.0 || false))
      by true = refl
      by false = refl

  module _ (own : List Access) (other : TableRows) (once : EachIdOnce own) (part : P) (is : KeepsTable table rows accesses own other part) where
    rows-more : (parts : List P) (t : TableId) → rows_with table rows (parts ++ part ∷ []) other t ≡ rows_with table rows parts other t
    rows-more [] t = by ((table part).0 == t.0) refl
      where
        by : (b : Bool) → ((table part).0 == t.0) ≡ b → (if b then rows part t else other t) ≡ other t
        by true e =
            let made : ℕ → TableId = λ n. record { 0 = n } in
            let same : table part ≡ t = ap made (eqb-true (table part).0 t.0 e) in
            subst (λ id. rows part id ≡ other id) same is.rows_are
        by false e = refl
    rows-more (p ∷ parts) t = ap (λ found. if (table p).0 == t.0 then rows p t else found) (rows-more parts t)

    abbrev on_it : Access → Bool
    on_it a = a.table.0 == (table part).0

    abbrev mine : List Access
    mine = accesses part ++ []

    mine_are : mine ≡ filter on_it own
    mine_are = append_nil (accesses part) ∙ is.accesses_are
      where
        append_nil : (xs : List Access) → xs ++ [] ≡ xs
        append_nil [] = refl
        append_nil (x ∷ xs) = ap (λ ys. x ∷ ys) (append_nil xs)

    still : (parts : List P) (id : AccessId) → is_live (accesses_with table accesses parts own) id ≡ true
        → (is_live (accesses_with table accesses (parts ++ part ∷ []) own) id ≡ true)
        × (access_in (accesses_with table accesses (parts ++ part ∷ []) own) id ≡ access_in (accesses_with table accesses parts own) id)
    still parts id live =
        let more = parts ++ part ∷ [] in
        let whole : accesses_with table accesses more own ≡ front parts ++ (mine ++ left more own) =
        ap (λ xs. xs ++ left more own) (front-more parts part) ∙ append_assoc (front parts) mine (left more own) in
        elim (where_it_is parts own id once live) [
          | inl here ↦ (
            ap (λ xs. is_live xs id) whole ∙ is_live-append (front parts) (mine ++ left more own) id here,
            ap (λ xs. access_in xs id) whole ∙ access_in-append (front parts) (mine ++ left more own) id here
                ∙ sym (access_in-append (front parts) (left parts own) id here),
          )
          | inr store ↦ by_table parts id store whole (on_it (access_in own id)) refl
        ]
      where
        by_table : (parts : List P) (id : AccessId) → InStore parts own id
            → accesses_with table accesses (parts ++ part ∷ []) own ≡ front parts ++ (mine ++ left (parts ++ part ∷ []) own)
            → (b : Bool) → on_it (access_in own id) ≡ b
            → (is_live (accesses_with table accesses (parts ++ part ∷ []) own) id ≡ true)
            × (access_in (accesses_with table accesses (parts ++ part ∷ []) own) id ≡ access_in (accesses_with table accesses parts own) id)
        by_table parts id store whole true e =
            let more = parts ++ part ∷ [] in
            let f = passed on_it own id once store.live e in
            let there : is_live mine id ≡ true = ap (λ xs. is_live xs id) mine_are ∙ f.0 in (
              ap (λ xs. is_live xs id) whole ∙ is_live-skip (front parts) (mine ++ left more own) id store.none
                  ∙ is_live-append mine (left more own) id there,
              ap (λ xs. access_in xs id) whole ∙ access_in-skip (front parts) (mine ++ left more own) id store.none
                  ∙ access_in-append mine (left more own) id there ∙ ap (λ xs. access_in xs id) mine_are ∙ f.1 ∙ sym store.access,
            )
        by_table parts id store whole false e =
            let more = parts ++ part ∷ [] in
            let absent : is_live mine id ≡ false = not_there id e (is_live mine id) refl in
            let free : is_frozen table more (access_in own id) ≡ false =
            frozen-more parts part (access_in own id)
            ∙ ap (λ b. b || ((table part).0 == (access_in own id).table.0 || false)) store.free
            ∙ ap (λ b. b || false) (flipped (table part).0 (access_in own id).table.0 e) in
            let f = passed (λ a. not (is_frozen table more a)) own id once store.live (ap not free) in (
              ap (λ xs. is_live xs id) whole ∙ is_live-skip (front parts) (mine ++ left more own) id store.none
                  ∙ is_live-skip mine (left more own) id absent ∙ f.0,
              ap (λ xs. access_in xs id) whole ∙ access_in-skip (front parts) (mine ++ left more own) id store.none
                  ∙ access_in-skip mine (left more own) id absent ∙ f.1 ∙ sym store.access,
            )
          where
            flipped : (m n : ℕ) → (n == m) ≡ false → (m == n) ≡ false
            flipped m n e = by (m == n) refl
              where
                by : (b : Bool) → (m == n) ≡ b → b ≡ false
                by true h = let same = eqb-true m n h in let other : (n == m) ≡ true = eq-eqb n m (sym same) in cc
                by false h = refl

            not_there : (id : AccessId) → on_it (access_in own id) ≡ false → (b : Bool) → is_live mine id ≡ b → b ≡ false
            not_there id e true h =
                let k = kept_of_store on_it own id once (ap (λ xs. is_live xs id) (sym mine_are) ∙ h) in let p = k.passes in cc
            not_there id e false h = refl

    pub part_keeps : (parts : List P) (t : TableId)
        → SameOn (accesses_with table accesses parts own) (accesses_with table accesses (parts ++ part ∷ []) own)
        (rows_with table rows parts other) (rows_with table rows (parts ++ part ∷ []) other) t
    part_keeps parts t = record { rows = rows-more parts t; constraints = λ id live on. still parts id live }
