-- The first piece from a place of a script on.
use Rattle.std.proofs.Common.{◌≡◌, ◌≢◌, ℕ, zero, suc, ◌+◌, ◌-◌, ◌<◌, ◌≤◌, ◌⊎◌, Bool, true, false, List, [], ◌∷◌, ◌++◌, length, get_or, drop, take, refl, sym, ap, subst, ◌∙◌, inl, inr, arith, length-append, length-drop, append-nil}
use Rattle.std.specs.Prelude.{◌==◌, ◌&&◌, All, IsUtf8, codes, filter, nat_lt, not, bytes_eq, if◌then◌else◌, OnErr, Result, Ok, Err}
use Rattle.std.specs.List.{slice_split}
use Rattle.std.proofs.lemmas.Bool.{cases_Bool, cases_lt, and_parts, eqb-true, false≢true, le-ltb, lt-ltb, ltb-true}
use Rattle.std.proofs.lemmas.List.{drop-drop}
use Rattle.std.proofs.lemmas.List.Splits.{slice_split_at, slice_split_none}
use Rattle.std.proofs.lemmas.Slice.Eq.{bytes_eq-Decides}
use Rattle.std.proofs.lemmas.Str.{IsCharBoundary-after_ascii}
use Rattle.sql_tokens.specs.declared.token.Token.{Token}
use Rattle.sql_tokens.specs.declared.token.TokenKind.{TokenKind}
use Rattle.sql_tokens.specs.declared.token.TokenKind.TheVariants.{Word, Number, Quoted, Mark, Bad}
use Rattle.sql_tokens.specs.Cuts.{IsAtToken, StandsAt}
use Rattle.sql_tokens.specs.Pieces.{AreFirst, EndsAtSemicolon, EndsWithScript, FirstPieceIs, is_mark, is_semicolon, statements_of, tokens_past}
use Rattle.sql_tokens.specs.Tokens.{lead, tokens_from}
use Rattle.sql_tokens.specs.Tokens.Lead.{Lexeme}
use Rattle.sql_tokens.proofs.Leads.{first_at}
use Rattle.sql_tokens.proofs.Spans.{Fits, fits, length-tokens_from}
use Rattle.sql_tokens.proofs.Steps.{tokens_from-lexeme, tokens_past-end, tokens_past-none}

-- ---- a semicolon stands where its byte stands

lead-semicolon : (bs : List ℕ) → 0 < length bs → get_or bs 0 0 ≡ 59 → lead bs ≡ Lexeme Mark 1 (codes ";")
unfolding lead
lead-semicolon [] l q = absurd (omega arith)
lead-semicolon (b ∷ rest) l q = rw q refl

tokens_past-semicolon :
    (s : List ℕ) (at : ℕ) → at < length s → get_or s at 0 ≡ 59 →
    tokens_past at s ≡ record { kind = Mark; from = at; to = at + 1; text = codes ";" } ∷ tokens_past (at + 1) s
tokens_past-semicolon s at l q =
    let some : 0 < length (drop at s) = omega (arith, length-drop at s) in
    let token : Token = record { kind = Mark; from = at; to = at + 1; text = codes ";" } in
    tokens_from-lexeme at 1 Mark (codes ";") (drop at s) some (omega arith) (lead-semicolon (drop at s) some (first_at s at ∙ q))
    ∙ ap (λ (rest : List ℕ). token ∷ tokens_from (at + 1) 0 rest) (drop-drop 1 at s)

fits_drop : (bs : List ℕ) → 0 < length bs → Fits bs (lead bs)
fits_drop [] l = absurd (omega arith)
fits_drop (b ∷ rest) l = fits b rest

mark_kind : (kind : TokenKind) → is_mark kind ≡ true → kind ≡ Mark
mark_kind Mark e = refl
mark_kind Word e = cc
mark_kind Number e = cc
mark_kind Quoted e = cc
mark_kind Bad e = cc

-- what a semicolon begins with
begins_semicolon : (bs : List ℕ) (len : ℕ) → 0 < length bs → 0 < len → codes ";" ≡ take len bs → get_or bs 0 0 ≡ 59
begins_semicolon [] len l some e = absurd (omega arith)
begins_semicolon (b ∷ rest) zero l some e = absurd (omega arith)
begins_semicolon (b ∷ rest) (suc n) l some e = let first : 59 ≡ b = cc in sym first

pub no_semicolon : (s : List ℕ) (at : ℕ) (t : Token) → at < length s → StandsAt s at t → get_or s at 0 ≢ 59 → is_semicolon t ≡ false
no_semicolon s at t l h other =
    elim (cases_Bool (is_semicolon t)) [
      | inl e ↦
          (let parts = and_parts (is_mark t.kind) (bytes_eq t.text (codes ";")) e in
          let text : t.text ≡ codes ";" = (bytes_eq-Decides t.text (codes ";")).0 parts.1 in
          let some : 0 < length (drop at s) = omega (arith, length-drop at s) in
          let fit : Fits (drop at s) (Lexeme t.kind (t.to - at) t.text) = subst (Fits (drop at s)) h.is (fits_drop (drop at s) some) in
          let spelled : Fits (drop at s) (Lexeme Mark (t.to - at) t.text) =
          subst (λ (kind : TokenKind). Fits (drop at s) (Lexeme kind (t.to - at) t.text)) (mark_kind t.kind parts.0) fit in
          absurd (other (sym (first_at s at) ∙ begins_semicolon (drop at s) (t.to - at) some spelled.0 (sym text ∙ spelled.2))))
      | inr e ↦ e
    ]

-- where a piece goes on, and where it has ended
abbrev pub goes_on : ℕ → List ℕ → Bool
goes_on place s = nat_lt place (length s) && not (get_or s place 0 == 59)

pub going_on : (s : List ℕ) (place : ℕ) → goes_on place s ≡ true → (place < length s) × (get_or s place 0 ≢ 59)
going_on s place e =
    let parts = and_parts (nat_lt place (length s)) (not (get_or s place 0 == 59)) e in
    (ltb-true place (length s) parts.0, λ same. false≢true (let no : not (get_or s place 0 == 59) ≡ false = rw same refl in sym no ∙ parts.1))

gone_on : (s : List ℕ) (place : ℕ) → goes_on place s ≡ false → place < length s → get_or s place 0 ≡ 59
gone_on s place e l =
    elim (cases_Bool (get_or s place 0 == 59)) [
      | inl same ↦ eqb-true (get_or s place 0) 59 same
      | inr other ↦ absurd (false≢true (let yes : goes_on place s ≡ true = rw (lt-ltb place (length s) l) (rw other refl) in sym e ∙ yes))
    ]

-- the next piece begins after a semicolon
ends_at_semicolon :
    (s : List ℕ) (at place : ℕ) (tokens : List Token) → IsUtf8 s → at ≤ place → place < length s → get_or s place 0 ≡ 59 →
    All (λ token. is_semicolon token ≡ false) tokens → tokens ++ tokens_past place s ≡ tokens_past at s →
    FirstPieceIs s at tokens (place + 1)
ends_at_semicolon s at place tokens u order l q whole known = record {
  whole = whole;
  ends = inl (record {
    semicolon = record { kind = Mark; from = place; to = place + 1; text = codes ";" };
    is = refl;
    cut = sym known ∙ ap (λ (more : List Token). tokens ++ more) (tokens_past-semicolon s place l q);
  });
  more = λ _. omega (arith, order);
  within = omega (arith, l);
  cut = IsCharBoundary-after_ascii s place u l (omega (arith, q));
}

-- or none is left
ends_with_script :
    (s : List ℕ) (at place : ℕ) (tokens : List Token) → at ≤ place → IsAtToken s place → length s ≤ place →
    All (λ token. is_semicolon token ≡ false) tokens → tokens ++ tokens_past place s ≡ tokens_past at s →
    FirstPieceIs s at tokens place
ends_with_script s at place tokens order h l whole known = record {
  whole = whole;
  ends = inr (record {
    last = omega (arith, l, h.within);
    all = sym known ∙ sym (tokens_past-none s place tokens l);
  });
  more = λ some. omega (arith, some, l);
  within = h.within;
  cut = h.cut;
}

-- where the next piece begins, where this one has ended at a place
abbrev pub after : ℕ → List ℕ → ℕ
after place s = if nat_lt place (length s) then place + 1 else place

pub first_piece :
    (s : List ℕ) (at place : ℕ) (tokens : List Token) → IsUtf8 s → at ≤ place → IsAtToken s place → goes_on place s ≡ false →
    All (λ token. is_semicolon token ≡ false) tokens → tokens ++ tokens_past place s ≡ tokens_past at s →
    FirstPieceIs s at tokens (after place s)
first_piece s at place tokens u order h test whole known =
    elim (cases_lt place (length s)) [
      | inl l ↦ rw (lt-ltb place (length s) l) (ends_at_semicolon s at place tokens u order l (gone_on s place test l) whole known)
      | inr l ↦ rw (le-ltb place (length s) l) (ends_with_script s at place tokens order h l whole known)
    ]

-- ---- the statements

abbrev kept : List (List Token) → List (List Token)
kept parts = filter (λ statement. nat_lt 0 (length statement)) parts

kept-cons : (part : List Token) (parts : List (List Token)) → kept (part ∷ parts) ≡ kept (part ∷ []) ++ kept parts
kept-cons part parts = elim (cases_Bool (nat_lt 0 (length part))) [ inl e ↦ rw e refl | inr e ↦ rw e refl ]

cut_off :
    (s : List ℕ) (at : ℕ) (tokens : List Token) (next : ℕ) → All (λ token. is_semicolon token ≡ false) tokens →
    EndsAtSemicolon s at tokens next ⊎ EndsWithScript s at tokens next →
    statements_of (tokens_past at s) ≡ kept (tokens ∷ []) ++ statements_of (tokens_past next s)
cut_off s at tokens next whole (inl h) =
    ap statements_of h.cut
    ∙ ap kept (slice_split_at is_semicolon tokens h.semicolon (tokens_past next s) whole h.is)
    ∙ kept-cons tokens (slice_split is_semicolon (tokens_past next s))
cut_off s at tokens next whole (inr h) =
    let past : length s ≤ next = omega (arith, h.last) in
    ap statements_of h.all
    ∙ ap kept (slice_split_none is_semicolon tokens whole)
    ∙ sym (append-nil (kept (tokens ∷ [])))
    ∙ ap (λ (more : List Token). kept (tokens ∷ []) ++ statements_of more) (sym (tokens_past-end s next past))

pub none_cut_off :
    (s : List ℕ) (at : ℕ) (tokens : List Token) (next : ℕ) → FirstPieceIs s at tokens next → tokens ≡ [] →
    statements_of (tokens_past at s) ≡ statements_of (tokens_past next s)
none_cut_off s at tokens next h none =
    cut_off s at tokens next h.whole h.ends
    ∙ ap (λ (ts : List Token). kept (ts ∷ []) ++ statements_of (tokens_past next s)) none

pub one_cut_off :
    (s : List ℕ) (at : ℕ) (tokens : List Token) (next : ℕ) → FirstPieceIs s at tokens next → 0 < length tokens →
    statements_of (tokens_past at s) ≡ tokens ∷ statements_of (tokens_past next s)
one_cut_off s at tokens next h some =
    let one : kept (tokens ∷ []) ≡ tokens ∷ [] = rw (lt-ltb 0 (length tokens) some) refl in
    cut_off s at tokens next h.whole h.ends
    ∙ ap (λ (parts : List (List Token)). parts ++ statements_of (tokens_past next s)) one

pub few_cut_off :
    (s : List ℕ) (at place : ℕ) (tokens : List Token) → tokens ++ tokens_past place s ≡ tokens_past at s → length tokens ≤ length s
few_cut_off s at place tokens known =
    let all : length (tokens ++ tokens_past place s) ≡ length (tokens_past at s) = ap length known in
    omega (arith, all, length-append tokens (tokens_past place s), length-tokens_from at 0 (drop at s), length-drop at s)

-- what stands in the list where memory runs out
pub first_on_error :
    {A E : Type 0} (s : List ℕ) (at place : ℕ) (tokens found : List Token) (result : Result A E) → found ≡ tokens →
    tokens ++ tokens_past place s ≡ tokens_past at s → OnErr result (AreFirst s at found)
first_on_error s at place tokens found (Ok next) e known = tt
first_on_error s at place tokens found (Err none) e known =
    (tokens_past place s, sym known ∙ ap (λ (ts : List Token). ts ++ tokens_past place s) (sym e))
