-- A script without `@` names no session.
use Rattle.std.proofs.Common.{◌≡◌, ◌≢◌, ◌-◌, ◌++◌, ◌||◌, ◌∙◌, ap, subst, sym, refl, ℕ, zero, suc, Bool, true, false, cond, List, [], ◌∷◌, arith, codes, drop, length, take}
use Rattle.std.specs.Prelude.{◌==◌, All, nat_lt, slice_range}
use Rattle.std.specs.List.{onto_first, slice_split}
use Rattle.std.proofs.lemmas.Bool.{false≢true}
use Rattle.std.proofs.lemmas.List.Elements.{All-cons, All-filter, All-nil, All-weaker}
use Rattle.sql_tokens.specs.declared.token.Token.{Token}
use Rattle.sql_tokens.specs.declared.token.TokenKind.{TokenKind}
use Rattle.sql_tokens.specs.declared.token.TokenKind.TheVariants.{Word, Number, Quoted, Mark, Bad}
use Rattle.sql_tokens.specs.Pieces.{is_semicolon}
use Rattle.sql_tokens.specs.Spans.{IsSpelled, Spells}
use Rattle.sql_tokens.specs.Tokens.{tokens_of}
use Rattle.sql_tokens.proofs.Spans.{tokens_of-spelled}
use Rattle.sql_text.specs.Symbols.{mark, symbol_of, symbols}
use Rattle.piece_reader.specs.Sayings.{BeginsWithAt}
use Rattle.beas_run.specs.NoSessions.{NamesNoSession}
use Rattle.beas_run.specs.Readings.{pieces}

-- ---- bytes

abbrev pub Unmarked : List ℕ → Type 0
Unmarked [] = Unit {0}
Unmarked (byte ∷ bytes) = (byte ≢ 64) × Unmarked bytes

abbrev pub has_mark : List ℕ → Bool
has_mark [] = false
has_mark (byte ∷ bytes) = (byte == 64) || has_mark bytes

pub unmarked : (bytes : List ℕ) → has_mark bytes ≡ false → Unmarked bytes
unmarked [] none = tt
unmarked (byte ∷ bytes) none = by (byte == 64) refl none (unmarked bytes)
  where
    by : (b : Bool) → (byte == 64) ≡ b → (b || has_mark bytes) ≡ false → (has_mark bytes ≡ false → Unmarked bytes) → (byte ≢ 64) × Unmarked bytes
    by true is e rest = absurd (false≢true (sym e))
    by false is e rest = (λ same. false≢true (sym is ∙ ap (λ n. n == 64) same), rest e)

pub unmarked-append : (xs ys : List ℕ) → Unmarked xs → Unmarked ys → Unmarked (xs ++ ys)
unmarked-append [] ys first rest = rest
unmarked-append (x ∷ xs) ys first rest = (first.0, unmarked-append xs ys first.1 rest)

unmarked-drop : (n : ℕ) (xs : List ℕ) → Unmarked xs → Unmarked (drop n xs)
unmarked-drop zero xs none = none
unmarked-drop (suc n) [] none = tt
unmarked-drop (suc n) (x ∷ xs) none = unmarked-drop n xs none.1

unmarked-take : (n : ℕ) (xs : List ℕ) → Unmarked xs → Unmarked (take n xs)
unmarked-take zero xs none = tt
unmarked-take (suc n) [] none = tt
unmarked-take (suc n) (x ∷ xs) none = (none.0, unmarked-take n xs none.1)

-- ---- its tokens

abbrev IsAt : Token → Type 0
IsAt token = (token.kind ≡ Mark) × (token.text ≡ codes "@")

spelled_otherwise : (spelling : List ℕ) (kind : TokenKind) (text : List ℕ) → Unmarked spelling → Spells spelling kind text
    → kind ≡ Mark → text ≡ codes "@" → ⊥
spelled_otherwise spelling Word text none spells is at = cc
spelled_otherwise spelling Number text none spells is at = cc
spelled_otherwise spelling Quoted text none spells is at = cc
spelled_otherwise spelling Bad text none spells is at = cc
spelled_otherwise spelling Mark text none spells is at =
    let e : spelling ≡ codes "@" = sym spells ∙ at in
    let bytes : Unmarked (codes "@") = subst Unmarked e none in
    bytes.0 refl

no_token : (source : List ℕ) → Unmarked source → All (λ token. IsAt token → ⊥) (tokens_of source)
no_token source none =
    All-weaker (IsSpelled source) (λ token. IsAt token → ⊥)
    (λ token spells is.
    let length = token.to - token.from in
    spelled_otherwise (slice_range source token.from token.to) token.kind token.text
    (unmarked-take length (drop token.from source) (unmarked-drop token.from source none)) spells is.0 is.1)
    (tokens_of source) (tokens_of-spelled source)

-- ---- its pieces

module _ (P : Token → Type 0) where
  abbrev AllIn : List (List Token) → Type 0
  AllIn parts = All (λ part. All P part) parts

  put_first : (x : Token) (parts : List (List Token)) → P x → AllIn parts → AllIn (onto_first x parts)
  put_first x [] own h =
      All-cons (λ part. All P part) (x ∷ []) [] (All-cons P x [] own (All-nil P)) (All-nil (λ part. All P part))
  put_first x (part ∷ parts) own h =
      All-cons (λ part. All P part) (x ∷ part) parts (All-cons P x part own (h 0 part (omega arith)))
      (λ k d below. h (suc k) d (omega (arith, below)))

  in_parts : (p : Token → Bool) (tokens : List Token) → All P tokens → AllIn (slice_split p tokens)
  in_parts p [] h = All-cons (λ part. All P part) [] [] (All-nil P) (All-nil (λ part. All P part))
  in_parts p (x ∷ xs) h = by (p x) (in_parts p xs (λ k d below. h (suc k) d (omega (arith, below))))
    where
      by : (b : Bool) → AllIn (slice_split p xs) → AllIn (cond b ([] ∷ slice_split p xs) (onto_first x (slice_split p xs)))
      by true rest = All-cons (λ part. All P part) [] (slice_split p xs) (All-nil P) rest
      by false rest = put_first x (slice_split p xs) (h 0 x (omega arith)) rest

is_at : (kind : TokenKind) (text : List ℕ) → symbol_of kind text ≡ mark (codes "@") → (kind ≡ Mark) × (text ≡ codes "@")
is_at Word text e = cc
is_at Number text e = cc
is_at Quoted text e = cc
is_at Bad text e = cc
is_at Mark text e = (refl, cc)

no_beginning : (part : List Token) → All (λ token. IsAt token → ⊥) part → BeginsWithAt (symbols part) → ⊥
no_beginning [] none begins = let e = begins.1 in cc
no_beginning (token ∷ tokens) none begins =
    let e = begins.1 in
    let first : symbol_of token.kind token.text ≡ mark (codes "@") = cc in
    none 0 token (omega arith) (is_at token.kind token.text first)

pub names_none : (script : List ℕ) → Unmarked script → NamesNoSession script
names_none script none =
    let parts = slice_split is_semicolon (tokens_of script) in
    All-weaker (λ part. All (λ token. IsAt token → ⊥) part) (λ part. BeginsWithAt (symbols part) → ⊥) no_beginning (pieces script)
    (All-filter (λ statement. nat_lt 0 (length statement)) (λ part. All (λ token. IsAt token → ⊥) part) parts
    (in_parts (λ token. IsAt token → ⊥) is_semicolon (tokens_of script) (no_token script none)))
