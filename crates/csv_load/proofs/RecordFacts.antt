-- The records of a text: each takes some of it, so that there are no more records and fields than bytes, and a read
-- takes the first of them.
use Rattle.std.proofs.Common.{Bor, ◌≡◌, ◌≤◌, ◌<◌, ◌+◌, ℕ, zero, suc, Bool, true, false, cond, List, [], ◌∷◌, ◌++◌, length, Option, Some, None, ◌⊎◌, inl, inr, refl, ap, sym, ◌∙◌, subst, arith, length-append, add-one}
use Rattle.std.specs.Prelude.{unwrap_or, IsSome, not, ◌==◌, ◌&&◌, option_map}
use Rattle.std.specs.Bool.{MatchBool}
use Rattle.csv.specs.declared.parser.Config.{Config}
use Rattle.csv.specs.declared.parser.State.{State}
use Rattle.csv.specs.declared.parser.State.TheVariants as st
use Rattle.csv.specs.declared.parser.Action.{Action}
use Rattle.csv.specs.declared.parser.Action.TheVariants as act
use Rattle.csv.specs.declared.reader.Reader.{Reader}
use Rattle.csv.specs.Machine.{Read, ends_at_end, field_after, fields_after, is_end, next_record, step}
use Rattle.csv.specs.declared.error.ErrorKind.{ErrorKind}
use Rattle.csv.specs.declared.error.ErrorKind.TheVariants as kind
use Rattle.csv.specs.Reading.{ExplainsRead, NextIs, ReadRecord, ReadsNext, buffered_of, default_config, has_failed, is_flexible, pending_of, records_from, records_next, source_of, stops_reader, strip_bom}
use Rattle.csv_load.specs.CsvRows.{Record, records_of}
use Rattle.csv_load.specs.Reading.{IsPlainSetup, bytes_left, left_of, weight}

-- what a record takes of a text of so many bytes, where so many of its fields stand already
record Takes (before size : ℕ) (p : Read) : Type 0 where
  some : before + 1 ≤ length p.0
  rest : ((length p.2 < size) × (length p.0 + length p.2 ≤ before + size)) ⊎ ((p.2 ≡ []) × (p.1 ≡ st.StartRecord) × (length p.0 ≤ before + size + 1))

one_more : (fields : List (List ℕ)) (field : List ℕ) → length (fields ++ field ∷ []) ≡ length fields + 1
one_more fields field = length-append fields (field ∷ [])

ended : (a : Action) (fields : List (List ℕ)) (field : List ℕ) → is_end a ≡ true → length (fields_after a fields field) ≡ length fields + 1
ended act.EndRecord fields field e = one_more fields field
ended act.Skip fields field e = cc
ended act.Copy fields field e = cc
ended act.EndField fields field e = cc

after_at_least : (a : Action) (fields : List (List ℕ)) (field : List ℕ) → length fields ≤ length (fields_after a fields field)
after_at_least act.EndRecord fields field = omega (arith, one_more fields field)
after_at_least act.Skip fields field = omega arith
after_at_least act.Copy fields field = omega arith
after_at_least act.EndField fields field = omega (arith, one_more fields field)

after_at_most : (a : Action) (fields : List (List ℕ)) (field : List ℕ) → length (fields_after a fields field) ≤ length fields + 1
after_at_most act.EndRecord fields field = omega (arith, one_more fields field)
after_at_most act.Skip fields field = omega arith
after_at_most act.Copy fields field = omega arith
after_at_most act.EndField fields field = omega (arith, one_more fields field)

same_read : (p q : Read) → Some p ≡ Some q → p ≡ q
same_read p q e = cc

takes_more : (n m size : ℕ) (p : Read) → n ≤ m → m ≤ n + 1 → Takes m size p → Takes n (size + 1) p
takes_more n m size p l h t = record {
  some = omega (arith, t.some);
  rest = elim t.rest [ inl r ↦ inl (omega (arith, r.0), omega (arith, r.1)) | inr r ↦ inr (r.0, r.1, omega (arith, r.2)) ];
}

next_takes : (cfg : Config) (s : State) (fields : List (List ℕ)) (field xs : List ℕ) (p : Read) → next_record cfg s fields field xs ≡ Some p
    → Takes (length fields) (length xs) p
unfolding next_record
next_takes cfg s fields field [] p e = by (ends_at_end s) e
  where
    by : (b : Bool) → cond b (Some (fields ++ field ∷ [], st.StartRecord, [])) None ≡ Some p → Takes (length fields) 0 p
    by true h = subst (Takes (length fields) 0) (same_read (fields ++ field ∷ [], st.StartRecord, []) p h)
        record { some = omega (arith, one_more fields field); rest = inr (refl, refl, omega (arith, one_more fields field)) }
    by false h = cc
next_takes cfg s fields field (c ∷ rest) p e =
    by (is_end (step cfg s c).1) refl e (next_takes cfg (step cfg s c).0 (fields_after (step cfg s c).1 fields field) (field_after (step cfg s c).1 c field)
    rest p)
  where
    by : (b : Bool) → is_end (step cfg s c).1 ≡ b
        → cond b (Some (fields_after (step cfg s c).1 fields field, (step cfg s c).0, rest))
        (next_record cfg (step cfg s c).0 (fields_after (step cfg s c).1 fields field) (field_after (step cfg s c).1 c field) rest) ≡ Some p
        → (next_record cfg (step cfg s c).0 (fields_after (step cfg s c).1 fields field) (field_after (step cfg s c).1 c field) rest ≡ Some p
        → Takes (length (fields_after (step cfg s c).1 fields field)) (length rest) p)
        → Takes (length fields) (length (c ∷ rest)) p
    by true d h more =
        let n = ended (step cfg s c).1 fields field d in
        subst (Takes (length fields) (length (c ∷ rest))) (same_read (fields_after (step cfg s c).1 fields field, (step cfg s c).0, rest) p h)
        record { some = omega (arith, n); rest = inl (omega arith, omega (arith, n)) }
    by false d h more =
        let t = more h in
        subst (λ size. Takes (length fields) size p) (add-one (length rest))
        (takes_more (length fields) (length (fields_after (step cfg s c).1 fields field)) (length rest) p
        (after_at_least (step cfg s c).1 fields field) (after_at_most (step cfg s c).1 fields field) t)

none_at_end : (cfg : Config) (n : ℕ) → records_from cfg n st.StartRecord [] ≡ []
unfolding records_from next_record
none_at_end cfg zero = refl
none_at_end cfg (suc n) = refl

-- any number of turns that is more than the bytes serves
enough : (cfg : Config) (n m : ℕ) (s : State) (xs : List ℕ) → length xs < n → length xs < m → records_from cfg n s xs ≡ records_from cfg m s xs
unfolding records_from
enough cfg zero m s xs l h = absurd (omega (arith, l))
enough cfg (suc n) zero s xs l h = absurd (omega (arith, h))
enough cfg (suc n) (suc m) s xs l h = by (next_record cfg s [] [] xs) refl (λ p. enough cfg n m p.1 p.2)
  where
    by : (o : Option Read) → next_record cfg s [] [] xs ≡ o
        → ((p : Read) → length p.2 < n → length p.2 < m → records_from cfg n p.1 p.2 ≡ records_from cfg m p.1 p.2)
        → records_next (records_from cfg n) o ≡ records_next (records_from cfg m) o
    by None e more = refl
    by (Some p) e more = ap (λ t. p.0 ∷ t) (elim (next_takes cfg s [] [] xs p e).rest [
      | inl r ↦ more p (omega (arith, r.0)) (omega (arith, r.0))
      | inr r ↦ let k = none_at_end cfg n in let j = none_at_end cfg m in cc
    ])

-- records and fields are at most one more than bytes
weight_fits : (cfg : Config) (n : ℕ) (s : State) (xs : List ℕ) → weight (records_from cfg n s xs) ≤ length xs + 1
unfolding records_from
weight_fits cfg zero s xs = omega arith
weight_fits cfg (suc n) s xs = by (next_record cfg s [] [] xs) refl (λ p. weight_fits cfg n p.1 p.2)
  where
    by : (o : Option Read) → next_record cfg s [] [] xs ≡ o → ((p : Read) → weight (records_from cfg n p.1 p.2) ≤ length p.2 + 1)
        → weight (records_next (records_from cfg n) o) ≤ length xs + 1
    by None e more = omega arith
    by (Some p) e more =
        let t = next_takes cfg s [] [] xs p e in
        let some = t.some in
        elim t.rest [
          | inl r ↦ let w = more p in omega (arith, r.1)
          | inr r ↦
              let none : records_from cfg n p.1 p.2 ≡ [] = let k = none_at_end cfg n in cc in
              let w = ap weight none in
              omega (arith, r.2)
        ]

strip_bom-le : (xs : List ℕ) → length (strip_bom xs) ≤ length xs
unfolding strip_bom
strip_bom-le [] = omega arith
strip_bom-le (a ∷ []) = omega arith
strip_bom-le (a ∷ b ∷ []) = omega arith
strip_bom-le (a ∷ b ∷ c ∷ rest) = by ((a == 0xEF) && (b == 0xBB) && (c == 0xBF))
  where
    by : (t : Bool) → length (cond t rest (a ∷ b ∷ c ∷ rest)) ≤ length (a ∷ b ∷ c ∷ rest)
    by true = omega arith
    by false = omega arith

pub records_fit : (text : List ℕ) → weight (records_of text) ≤ length text + 1
unfolding records_of
records_fit text = let w = weight_fits default_config (length (strip_bom text) + 1) st.StartRecord (strip_bom text) in omega (arith, strip_bom-le text)

-- a read
rest_is : (xs : List ℕ) (p : Read) → Takes 0 (length xs) p
    → records_from default_config (length xs) p.1 p.2 ≡ records_from default_config (length p.2 + 1) p.1 p.2
rest_is xs p t = elim t.rest [
  | inl r ↦ enough default_config (length xs) (length p.2 + 1) p.1 p.2 r.0 (omega arith)
  | inr r ↦ let k = none_at_end default_config (length xs) in let j = none_at_end default_config (length p.2 + 1) in cc
]

first_of : (s s2 : State) (xs : List ℕ) (after : Option (List ℕ)) (fields : Record) → ReadsNext default_config s (Some xs) after true fields s2
    → records_from default_config (length xs + 1) s xs ≡ fields ∷ records_from default_config (length (unwrap_or after []) + 1) s2 (unwrap_or after [])
unfolding records_from
first_of s s2 xs None fields h = absurd h
first_of s s2 xs (Some ys) fields h =
    ap (λ n. records_from default_config n s xs) (add-one (length xs)) ∙ by (next_record default_config s [] [] xs) refl h
  where
    by : (o : Option Read) → next_record default_config s [] [] xs ≡ o → NextIs o true fields s2 ys
        → records_from default_config (suc (length xs)) s xs ≡ fields ∷ records_from default_config (length ys + 1) s2 ys
    by None e n = cc
    by (Some p) e n =
        let t = next_takes default_config s [] [] xs p e in
        let more = rest_is xs p t in
        let st2 = n.2 in
        let ys2 = n.3 in
        let f = n.1 in
        cc

none_of : (s s2 : State) (xs : List ℕ) (after : Option (List ℕ)) (fields : Record) → ReadsNext default_config s (Some xs) after false fields s2
    → records_from default_config (length xs + 1) s xs ≡ []
unfolding records_from
none_of s s2 xs None fields h = absurd h
none_of s s2 xs (Some ys) fields h =
    ap (λ n. records_from default_config n s xs) (add-one (length xs)) ∙ by (next_record default_config s [] [] xs) h
  where
    by : (o : Option Read) → NextIs o false fields s2 ys → records_next (records_from default_config (length xs)) o ≡ []
    by None n = refl
    by (Some p) n = let e = n.0 in cc

known : (o : Option (List ℕ)) → IsSome o → o ≡ Some (unwrap_or o [])
known None h = cc
known (Some xs) h = refl

abbrev rest_of : Bor (List ℕ) → Option (List ℕ)
rest_of r = Some r.now

source_known : (reader : Reader (Bor (List ℕ))) → has_failed reader ≡ false → source_of rest_of reader ≡ Some (bytes_left reader)
source_known reader h = known (source_of rest_of reader) (by (has_failed reader) h (not reader.bom_checked && (reader.at == 0) && (reader.filled == 0)))
  where
    by : (f : Bool) → f ≡ false → (b : Bool)
        → IsSome (cond f None (cond b (option_map strip_bom (rest_of reader.rdr)) (buffered_of (rest_of reader.rdr) reader)))
    by true e b = cc
    by false e true = refl
    by false e false = refl

pending_is : (reader : Reader (Bor (List ℕ))) → reader.bom_checked ≡ true → pending_of (rest_of reader.rdr) reader ≡ source_of rest_of reader
pending_is reader h = by reader.bom_checked h
  where
    by : (b : Bool) → b ≡ true
        → cond (has_failed reader) None (buffered_of (rest_of reader.rdr) reader)
        ≡ cond (has_failed reader) None (cond (not b && (reader.at == 0) && (reader.filled == 0)) (option_map strip_bom (rest_of reader.rdr))
        (buffered_of (rest_of reader.rdr) reader))
    by true e = refl
    by false e = cc

left_live : (reader : Reader (Bor (List ℕ))) → has_failed reader ≡ false
    → left_of reader ≡ records_from default_config (length (bytes_left reader) + 1) reader.state (bytes_left reader)
unfolding left_of
left_live reader h = ap (λ b. cond b [] (records_from default_config (length (bytes_left reader) + 1) reader.state (bytes_left reader))) h

pub left_failed : (reader : Reader (Bor (List ℕ))) → has_failed reader ≡ true → left_of reader ≡ []
unfolding left_of
left_failed reader h = ap (λ b. cond b [] (records_from default_config (length (bytes_left reader) + 1) reader.state (bytes_left reader))) h

pub left_after : (old new : Reader (Bor (List ℕ))) (found : Bool) (fields : Record) → IsPlainSetup old → has_failed old ≡ false → has_failed new ≡ false
    → ReadRecord rest_of old new found fields → MatchBool found (left_of old ≡ fields ∷ left_of new) (left_of old ≡ [])
left_after old new found fields plain live alive read = by found read.0
  where
    told : (b : Bool) → ReadsNext old.config old.state (source_of rest_of old) (pending_of (rest_of new.rdr) new) b fields new.state
        → ReadsNext default_config old.state (Some (bytes_left old)) (source_of rest_of new) b fields new.state
    told b h =
        subst (λ o. ReadsNext default_config old.state (Some (bytes_left old)) o b fields new.state) (pending_is new read.1)
        (subst (λ o. ReadsNext default_config old.state o (pending_of (rest_of new.rdr) new) b fields new.state) (source_known old live)
        (subst (λ cfg. ReadsNext cfg old.state (source_of rest_of old) (pending_of (rest_of new.rdr) new) b fields new.state) plain.config h))

    by : (b : Bool) → ReadsNext old.config old.state (source_of rest_of old) (pending_of (rest_of new.rdr) new) b fields new.state
        → MatchBool b (left_of old ≡ fields ∷ left_of new) (left_of old ≡ [])
    by true h =
        left_live old live
        ∙ first_of old.state new.state (bytes_left old) (source_of rest_of new) fields (told true h)
        ∙ ap (λ t. fields ∷ t) (sym (left_live new alive))
    by false h = left_live old live ∙ none_of old.state new.state (bytes_left old) (source_of rest_of new) fields (told false h)

pub left_at_first : (reader : Reader (Bor (List ℕ))) (text : List ℕ) → has_failed reader ≡ false → reader.state ≡ st.StartRecord
    → source_of rest_of reader ≡ Some (strip_bom text) → left_of reader ≡ records_of text
unfolding records_of
left_at_first reader text live start source =
    let left : bytes_left reader ≡ strip_bom text = ap (λ o. unwrap_or o []) source in
    left_live reader live ∙ ap (λ s. records_from default_config (length (bytes_left reader) + 1) s (bytes_left reader)) start
    ∙ ap (λ xs. records_from default_config (length xs + 1) st.StartRecord xs) left

-- a reader of a text fails for nothing but the text itself or memory, and is then done
pub failure_stops : (old new : Reader (Bor (List ℕ))) (why : ErrorKind) → is_flexible old ≡ true → ExplainsRead rest_of old new false why
    → stops_reader why ≡ true
failure_stops old new (kind.Io e) f h = refl
failure_stops old new kind.OutOfMemory f h = refl
failure_stops old new (kind.UnequalLengths pos expected len) f h = let n = h.0 in cc
failure_stops old new (kind.Utf8 pos err) f h = let n = h.0 in cc
failure_stops old new (kind.Serialize text) f h = absurd h
failure_stops old new (kind.Deserialize pos err) f h = absurd h
