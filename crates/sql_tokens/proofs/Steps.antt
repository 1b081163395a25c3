-- The tokens of a script, one after another.
use Rattle.std.proofs.Common.{◌≡◌, ◌≢◌, ℕ, zero, suc, ◌+◌, ◌-◌, ◌<◌, ◌≤◌, true, false, List, [], ◌∷◌, ◌++◌, length, get_or, drop, refl, sym, ap, ◌∙◌, subst, inl, inr, arith, add-zero, append_assoc, length-drop}
use Rattle.std.specs.Prelude.{IsUtf8, IsCharBoundary, codes, eqb, take_while}
use Rattle.std.specs.List.{prefix_len, starts_with}
use Rattle.std.specs.Char.{is_ascii_whitespace}
use Rattle.std.proofs.lemmas.Bool.{cases_Bool, cases_lt, false≢true, and_parts, eqb-true, not-false}
use Rattle.std.proofs.lemmas.Bool.Decides.{nat_tests}
use Rattle.std.proofs.lemmas.List.{append-nil, drop_all, drop-drop, get_or-drop, length-take-le}
use Rattle.std.proofs.lemmas.List.Sums.{prefix_len-drop_yes, prefix_len-le-length, prefix_len_passes, prefix_len_stops}
use Rattle.std.proofs.lemmas.Str.{IsCharBoundary-before_ascii, IsCharBoundary-end}
use Rattle.sql_tokens.specs.declared.token.Token.{Token}
use Rattle.sql_tokens.specs.declared.token.TokenKind.{TokenKind}
use Rattle.sql_tokens.specs.Tokens.{lead, Lead, tokens_from, first_then, is_in_line}
use Rattle.sql_tokens.specs.Tokens.Lead.{Gap, Lexeme}
use Rattle.sql_tokens.specs.Cuts.{StandsAt}
use Rattle.sql_tokens.specs.Pieces.{tokens_past}
use Rattle.sql_tokens.proofs.Leads.{lead-blank, lead-comment, first_at, run-cut}

-- bytes that belong to what stands before have no tokens of their own
tokens_from-skip : (at n : ℕ) (bs : List ℕ) → tokens_from at n bs ≡ tokens_from (at + n) 0 (drop n bs)
unfolding tokens_from
tokens_from-skip at zero bs = ap (λ (k : ℕ). tokens_from k 0 bs) (sym (add-zero at))
tokens_from-skip at (suc n) [] = refl
tokens_from-skip at (suc n) (b ∷ bs) =
    let place : at + 1 + n ≡ at + suc n = omega arith in
    tokens_from-skip (at + 1) n bs ∙ ap (λ (k : ℕ). tokens_from k 0 (drop n bs)) place

tokens_from-cons :
    (at : ℕ) (b : ℕ) (rest : List ℕ) →
    tokens_from at 0 (b ∷ rest) ≡ first_then (lead (b ∷ rest)) at (λ len. tokens_from (at + 1) (len - 1) rest)
unfolding tokens_from
tokens_from-cons at b rest = refl

rest_after :
    (at len b : ℕ) (rest : List ℕ) → 0 < len →
    tokens_from (at + 1) (len - 1) rest ≡ tokens_from (at + len) 0 (drop len (b ∷ rest))
rest_after at zero b rest l = absurd (omega arith)
rest_after at (suc m) b rest l =
    let less : suc m - 1 ≡ m = omega arith in
    let place : at + 1 + m ≡ at + suc m = omega arith in
    ap (λ (k : ℕ). tokens_from (at + 1) k rest) less ∙ tokens_from-skip (at + 1) m rest
    ∙ ap (λ (k : ℕ). tokens_from k 0 (drop m rest)) place

tokens_from-gap :
    (at len : ℕ) (bs : List ℕ) → 0 < length bs → 0 < len → lead bs ≡ Gap len →
    tokens_from at 0 bs ≡ tokens_from (at + len) 0 (drop len bs)
tokens_from-gap at len [] l some e = absurd (omega arith)
tokens_from-gap at len (b ∷ rest) l some e =
    tokens_from-cons at b rest
    ∙ ap (λ (first : Lead). first_then first at (λ k. tokens_from (at + 1) (k - 1) rest)) e
    ∙ rest_after at len b rest some

pub tokens_from-lexeme :
    (at len : ℕ) (kind : TokenKind) (text bs : List ℕ) → 0 < length bs → 0 < len → lead bs ≡ Lexeme kind len text →
    tokens_from at 0 bs
    ≡ record { kind = kind; from = at; to = at + len; text = text } ∷ tokens_from (at + len) 0 (drop len bs)
tokens_from-lexeme at len kind text [] l some e = absurd (omega arith)
tokens_from-lexeme at len kind text (b ∷ rest) l some e =
    tokens_from-cons at b rest
    ∙ ap (λ (first : Lead). first_then first at (λ k. tokens_from (at + 1) (k - 1) rest)) e
    ∙ ap (λ (more : List Token). record { kind = kind; from = at; to = at + len; text = text } ∷ more)
    (rest_after at len b rest some)

-- the same at a place of the script
tokens_past-gap :
    (s : List ℕ) (at to : ℕ) → lead (drop at s) ≡ Gap (to - at) → at < to → to ≤ length s → tokens_past at s ≡ tokens_past to s
tokens_past-gap s at to e some within =
    let place : at + (to - at) ≡ to = omega arith in
    tokens_from-gap at (to - at) (drop at s) (omega (arith, length-drop at s)) (omega arith) e
    ∙ ap (tokens_from (at + (to - at)) 0) (drop-drop (to - at) at s)
    ∙ ap (λ (k : ℕ). tokens_past k s) place

same_token :
    (t : Token) (at : ℕ) → t.from ≡ at → record { kind = t.kind; from = at; to = t.to; text = t.text } ≡ t
same_token t at e =
    let with_from : ℕ → Token = λ from. record { kind = t.kind; from = from; to = t.to; text = t.text } in
    ap with_from (sym e)

pub tokens_past-token : (s : List ℕ) (at : ℕ) (t : Token) → StandsAt s at t → tokens_past at s ≡ t ∷ tokens_past t.to s
tokens_past-token s at t h =
    let place : at + (t.to - at) ≡ t.to = omega (arith, h.some) in
    tokens_from-lexeme at (t.to - at) t.kind t.text (drop at s)
    (omega (arith, length-drop at s, h.some, h.within)) (omega (arith, h.some)) h.is
    ∙ ap (λ (rest : List ℕ). record { kind = t.kind; from = at; to = at + (t.to - at); text = t.text } ∷ tokens_from (at + (t.to - at)) 0 rest)
    (drop-drop (t.to - at) at s)
    ∙ ap (λ (k : ℕ). record { kind = t.kind; from = at; to = k; text = t.text } ∷ tokens_past k s) place
    ∙ ap (λ (v : Token). v ∷ tokens_past t.to s) (same_token t at h.from)

-- one token more
pub more_tokens :
    (s : List ℕ) (all tokens : List Token) (at to : ℕ) (t : Token) → StandsAt s at t → tokens_past t.to s ≡ tokens_past to s →
    tokens ++ tokens_past at s ≡ all → (tokens ++ t ∷ []) ++ tokens_past to s ≡ all
more_tokens s all tokens at to t h gaps known =
    append_assoc tokens (t ∷ []) (tokens_past to s)
    ∙ ap (λ (rest : List Token). tokens ++ t ∷ rest) (sym gaps)
    ∙ ap (λ (rest : List Token). tokens ++ rest) (sym (tokens_past-token s at t h))
    ∙ known

blank-ascii : (b : ℕ) → is_ascii_whitespace b ≡ true → b < 128
blank-ascii b e = grind (arith, nat_tests)

-- a run of white space
tokens_from-blanks :
    (at : ℕ) (bs : List ℕ) →
    tokens_from at 0 bs ≡ tokens_from (at + prefix_len is_ascii_whitespace bs) 0 (drop (prefix_len is_ascii_whitespace bs) bs)
tokens_from-blanks at [] = ap (λ (k : ℕ). tokens_from k 0 []) (sym (add-zero at))
tokens_from-blanks at (b ∷ rest) =
    let P : ℕ → Type 0 = λ n. tokens_from at 0 (b ∷ rest) ≡ tokens_from (at + n) 0 (drop n (b ∷ rest)) in
    elim (cases_Bool (is_ascii_whitespace b)) [
      | inl e ↦
          (let n = prefix_len is_ascii_whitespace rest in
          let size : suc n ≡ prefix_len is_ascii_whitespace (b ∷ rest) = rw e (omega arith) in
          let place : at + 1 + n ≡ at + suc n = omega arith in
          subst P size
          (tokens_from-gap at 1 (b ∷ rest) (omega arith) (omega arith) (lead-blank (b ∷ rest) (omega arith) e)
          ∙ tokens_from-blanks (at + 1) rest
          ∙ ap (λ (k : ℕ). tokens_from k 0 (drop n rest)) place))
      | inr e ↦
          (let size : 0 ≡ prefix_len is_ascii_whitespace (b ∷ rest) = rw e refl in
          subst P size (ap (λ (k : ℕ). tokens_from k 0 (b ∷ rest)) (sym (add-zero at))))
    ]

-- where the white space from a place on has ended
pub record IsPastBlanks (s : List ℕ) (at to : ℕ) : Type 0 where
  pub tokens : tokens_past at s ≡ tokens_past to s
  pub order : at ≤ to
  pub within : to ≤ length s
  pub cut : IsCharBoundary s to
  pub ink : to < length s → is_ascii_whitespace (get_or s to 0) ≡ false

pub past_blanks :
    (s : List ℕ) (at to : ℕ) → IsUtf8 s → at ≤ length s → IsCharBoundary s at → to ≡ at + prefix_len is_ascii_whitespace (drop at s) →
    IsPastBlanks s at to
past_blanks s at to u l c r =
    let n = prefix_len is_ascii_whitespace (drop at s) in
    let size : n ≤ length s - at = omega (arith, prefix_len-le-length is_ascii_whitespace (drop at s), length-drop at s) in
    record {
      tokens = tokens_from-blanks at (drop at s) ∙ ap (tokens_from (at + n) 0) (drop-drop n at s)
          ∙ ap (λ (k : ℕ). tokens_past k s) (sym r);
      order = omega (arith, r);
      within = omega (arith, r, size);
      cut = elim (cases_lt at to) [
        | inl m ↦
            (let first : is_ascii_whitespace (get_or (drop at s) 0 0) ≡ true =
            prefix_len_passes is_ascii_whitespace (drop at s) 0 0 (omega (arith, r, m)) in
            run-cut is_ascii_whitespace blank-ascii s at to u (omega (arith, r, size, m)) (sym (ap is_ascii_whitespace (first_at s at)) ∙ first) r)
        | inr m ↦ (let same : at ≡ to = omega (arith, r, m) in subst (λ (k : ℕ). IsCharBoundary s k) same c)
      ];
      ink = λ more.
          let stops : is_ascii_whitespace (get_or (drop at s) n 0) ≡ false =
          prefix_len_stops is_ascii_whitespace (drop at s) 0 (omega (arith, r, length-drop at s, more)) in
          let here : get_or (drop at s) n 0 ≡ get_or s to 0 = get_or-drop at s n 0 ∙ ap (λ (k : ℕ). get_or s k 0) (sym r) in
          sym (ap is_ascii_whitespace here) ∙ stops;
    }

begins-dash : (bs : List ℕ) → starts_with eqb bs (codes "--") ≡ true → get_or bs 0 0 ≡ 45
begins-dash [] e = absurd (false≢true e)
begins-dash (b ∷ bs) e = sym (eqb-true 45 b (and_parts (eqb 45 b) _ e).0)

-- a comment goes up to the end of its line or of the script
pub line-cut : (s : List ℕ) (at to : ℕ) → at ≤ length s → to ≡ at + prefix_len is_in_line (drop at s) → IsCharBoundary s to
line-cut s at to l r =
    let n = prefix_len is_in_line (drop at s) in
    let size : n ≤ length s - at = omega (arith, prefix_len-le-length is_in_line (drop at s), length-drop at s) in
    elim (cases_lt to (length s)) [
      | inl m ↦
          (let stops : is_in_line (get_or (drop at s) n 0) ≡ false =
          prefix_len_stops is_in_line (drop at s) 0 (omega (arith, r, length-drop at s, m)) in
          let here : get_or (drop at s) n 0 ≡ get_or s to 0 = get_or-drop at s n 0 ∙ ap (λ (k : ℕ). get_or s k 0) (sym r) in
          let feed : get_or (drop at s) n 0 ≡ 10 = eqb-true (get_or (drop at s) n 0) 10 (not-false (eqb (get_or (drop at s) n 0) 10) stops) in
          IsCharBoundary-before_ascii s to m (omega (arith, here, feed)))
      | inr m ↦
          (let end : length s ≡ to = omega (arith, r, size, m) in
          subst (λ (k : ℕ). IsCharBoundary s k) end (IsCharBoundary-end s))
    ]

tokens_past-comment :
    (s : List ℕ) (at to : ℕ) → at < length s → is_ascii_whitespace (get_or s at 0) ≡ false →
    starts_with eqb (drop at s) (codes "--") ≡ true → to ≡ at + prefix_len is_in_line (drop at s) → tokens_past at s ≡ tokens_past to s
tokens_past-comment s at to l ink comment r =
    let n = prefix_len is_in_line (drop at s) in
    let first : is_ascii_whitespace (get_or (drop at s) 0 0) ≡ false = ap is_ascii_whitespace (first_at s at) ∙ ink in
    let dash : get_or s at 0 ≡ 45 = sym (first_at s at) ∙ begins-dash (drop at s) comment in
    let in_line : is_in_line (get_or s at 0) ≡ true = rw dash refl in
    let size : n ≤ length (drop at s) = prefix_len-le-length is_in_line (drop at s) in
    let len : length (take_while is_in_line (drop at s)) ≡ to - at = length-take-le n (drop at s) size ∙ omega (arith, r) in
    tokens_past-gap s at to (lead-comment (drop at s) (omega (arith, length-drop at s)) first comment ∙ ap Gap len)
    (omega (arith, r, prefix_len-drop_yes is_in_line s at 0 l in_line)) (omega (arith, r, size, length-drop at s))

-- a comment, and then white space
pub past_comment :
    (s : List ℕ) (at mid line to : ℕ) → IsUtf8 s → IsPastBlanks s at mid → mid < length s →
    starts_with eqb (drop mid s) (codes "--") ≡ true → line ≡ mid + prefix_len is_in_line (drop mid s) → line ≤ length s →
    to ≡ line + prefix_len is_ascii_whitespace (drop line s) → IsPastBlanks s at to
past_comment s at mid line to u h l comment r within t =
    let then = past_blanks s line to u within (line-cut s mid line h.within r) t in
    record {
      tokens = h.tokens ∙ tokens_past-comment s mid line l (h.ink l) comment r ∙ then.tokens;
      order = omega (arith, h.order, r, then.order);
      within = then.within;
      cut = then.cut;
      ink = then.ink;
    }

-- past the end no token stands
pub tokens_past-end : (s : List ℕ) (at : ℕ) → length s ≤ at → tokens_past at s ≡ []
unfolding tokens_from
tokens_past-end s at l = ap (λ (bs : List ℕ). tokens_from at 0 bs) (drop_all at s l)

pub tokens_past-none : (s : List ℕ) (at : ℕ) (tokens : List Token) → length s ≤ at → tokens ≡ tokens ++ tokens_past at s
tokens_past-none s at tokens l = sym (append-nil tokens) ∙ ap (λ (more : List Token). tokens ++ more) (sym (tokens_past-end s at l))
