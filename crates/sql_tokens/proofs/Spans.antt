-- Tokens stand in order, are spelled as they say, and are no more than the bytes.
use Rattle.std.proofs.Common.{◌≡◌, ℕ, zero, suc, ◌+◌, ◌-◌, ◌<◌, ◌≤◌, true, false, List, [], ◌∷◌, ◌++◌, length, take, drop, refl, sym, ap, subst, ◌∙◌, inl, inr, arith, length-append, append_assoc, zero-add, le_refl, rules}
use Rattle.std.specs.Prelude.{Bool, All, Option, Some, None, codes, eqb, find, map, nat_lt, slice_range, take_while, option_map}
use Rattle.std.specs.Char.{is_ascii_whitespace, is_ascii_digit, to_ascii_lowercase}
use Rattle.std.specs.List.{starts_with, prefix_len, AllByRecursion}
use Rattle.std.proofs.lemmas.Bool.{false≢true, cond_both, cases_Bool, eqb-true, and_parts}
use Rattle.std.proofs.lemmas.List.{take_at, take-append-drop, drop-drop, length-take-le, take_all}
use Rattle.std.proofs.lemmas.List.Elements.{All-nil, All-cons}
use Rattle.std.proofs.lemmas.List.Sums.{prefix_len-le-length}
use Rattle.sql_tokens.specs.declared.token.Token.{Token}
use Rattle.sql_tokens.specs.declared.token.TokenKind.{TokenKind}
use Rattle.sql_tokens.specs.declared.token.TokenKind.TheVariants.{Word, Number, Mark, Bad}
use Rattle.beas_core.specs.Spelling.{begins_word, continues_word}
use Rattle.sql_tokens.specs.Tokens.{lead, Lead, plain, word, quoted_or_bad, in_quotes, with_quotes_doubled, quoted_text, mark_or_bad, marks, is_in_line, continues_char, quote, longest_word, tokens_from, tokens_of, first_then}
use Rattle.sql_tokens.specs.Tokens.Lead.{Gap, Lexeme}
use Rattle.sql_tokens.specs.Spans.{AreInOrder, Spells, IsSpelled}
use Rattle.sql_tokens.proofs.Leads.{word_from_begins, lead-blank, lead-comment, lead-word, lead-number, lead-quoted, lead-mark}

-- what the bytes begin with takes some of them, and a token is spelled by those
abbrev pub Fits : List ℕ → Lead → Type 0
Fits bytes (Gap len) = (0 < len) × (len ≤ length bytes)
Fits bytes (Lexeme kind len text) = (0 < len) × (len ≤ length bytes) × Spells (take len bytes) kind text

-- a run of bytes of one class from the first on
record IsFront (spelling bytes : List ℕ) : Type 0 where
  some : 0 < length spelling
  within : length spelling ≤ length bytes
  is : take (length spelling) bytes ≡ spelling

front-run : (p : ℕ → Bool) (b : ℕ) (rest : List ℕ) → p b ≡ true → IsFront (take_while p (b ∷ rest)) (b ∷ rest)
front-run p b rest e =
    let n = prefix_len p (b ∷ rest) in
    let one : n ≡ 1 + prefix_len p rest = rw e refl in
    let within : n ≤ length (b ∷ rest) = prefix_len-le-length p (b ∷ rest) in
    let size : length (take n (b ∷ rest)) ≡ n = length-take-le n (b ∷ rest) within in
    record {
      some = omega (arith, size, one);
      within = omega (arith, size, within);
      is = ap (λ (k : ℕ). take k (b ∷ rest)) size;
    }

fits-plain :
    (kind : TokenKind) (spelling bytes : List ℕ) → IsFront spelling bytes → Spells spelling kind spelling →
    Fits bytes (plain kind spelling)
fits-plain kind spelling bytes h s =
    (h.some, h.within, subst (λ (xs : List ℕ). Spells xs kind spelling) (sym h.is) s)

fits-word : (spelling bytes : List ℕ) → IsFront spelling bytes → Fits bytes (word spelling)
fits-word spelling bytes h =
    cond_both (nat_lt longest_word (length spelling)) (plain Bad spelling)
    (Lexeme Word (length spelling) (map to_ascii_lowercase spelling)) (Fits bytes)
    (λ e. fits-plain Bad spelling bytes h refl)
    (λ e. (h.some, h.within, ap (map to_ascii_lowercase) (sym h.is)))

front-append : (xs ys bytes : List ℕ) → bytes ≡ xs ++ ys → 0 < length xs → IsFront xs bytes
front-append xs ys bytes e some = record {
  some = some;
  within = omega (arith, ap length e, length-append xs ys);
  is = ap (take (length xs)) e ∙ take_at xs ys (length xs) refl;
}

option_map-some :
    (f : List ℕ → List ℕ) (o : Option (List ℕ)) (text : List ℕ) → option_map f o ≡ Some text →
    (more : List ℕ) × (o ≡ Some more) × (text ≡ f more)
option_map-some f None text e = absurd (cc)
option_map-some f (Some more) text e = let same : f more ≡ text = cc in (more, refl, sym same)

doubled-other : (a : ℕ) (text : List ℕ) → eqb a quote ≡ false → with_quotes_doubled (a ∷ text) ≡ a ∷ with_quotes_doubled text
doubled-other a text e = rw e refl

-- a text between quotes is spelled by what stands there
quoted-front :
    (bytes text : List ℕ) → quoted_text bytes ≡ Some text → (more : List ℕ) × (bytes ≡ with_quotes_doubled text ++ quote ∷ more)
quoted-front [] text e = absurd (cc)
quoted-front (a ∷ []) text e =
    elim (cases_Bool (eqb a quote)) [
      | inl y ↦
          (let none : Some [] ≡ Some text = sym (let k : quoted_text (a ∷ []) ≡ Some [] = rw y refl in k) ∙ e in
          let empty : [] ≡ text = cc in
          ([], ap (λ (b : ℕ). b ∷ []) (eqb-true a quote y) ∙ ap (λ (t : List ℕ). with_quotes_doubled t ++ quote ∷ []) empty))
      | inr y ↦ absurd (let k : quoted_text (a ∷ []) ≡ None = rw y refl in cc)
    ]
quoted-front (a ∷ b ∷ bytes) text e =
    elim (cases_Bool (eqb a quote)) [
      | inl y ↦ elim (cases_Bool (eqb b quote)) [
        | inl z ↦
            (let k : quoted_text (a ∷ b ∷ bytes) ≡ option_map (λ t. quote ∷ t) (quoted_text bytes) = rw y (rw z refl) in
            let inner = option_map-some (λ t. quote ∷ t) (quoted_text bytes) text (sym k ∙ e) in
            let rest = quoted-front bytes inner.0 inner.1 in (
              rest.0,
              ap (λ (x : ℕ). x ∷ b ∷ bytes) (eqb-true a quote y) ∙ ap (λ (x : ℕ). quote ∷ x ∷ bytes) (eqb-true b quote z)
                  ∙ ap (λ (xs : List ℕ). quote ∷ quote ∷ xs) rest.1 ∙ ap (λ (t : List ℕ). with_quotes_doubled t ++ quote ∷ rest.0) (sym inner.2),
            ))
        | inr z ↦
            (let k : quoted_text (a ∷ b ∷ bytes) ≡ Some [] = rw y (rw z refl) in
            let none : Some [] ≡ Some text = sym k ∙ e in
            let empty : [] ≡ text = cc in (
              b ∷ bytes,
              ap (λ (x : ℕ). x ∷ b ∷ bytes) (eqb-true a quote y) ∙ ap (λ (t : List ℕ). with_quotes_doubled t ++ quote ∷ b ∷ bytes) empty,
            ))
      ]
      | inr y ↦
          (let k : quoted_text (a ∷ b ∷ bytes) ≡ option_map (λ t. a ∷ t) (quoted_text (b ∷ bytes)) = rw y refl in
          let inner = option_map-some (λ t. a ∷ t) (quoted_text (b ∷ bytes)) text (sym k ∙ e) in
          let rest = quoted-front (b ∷ bytes) inner.0 inner.1 in
          let one : with_quotes_doubled (a ∷ inner.0) ≡ a ∷ with_quotes_doubled inner.0 = doubled-other a inner.0 y in (
            rest.0,
            ap (λ (xs : List ℕ). a ∷ xs) rest.1 ∙ ap (λ (xs : List ℕ). xs ++ quote ∷ rest.0) (sym one)
                ∙ ap (λ (t : List ℕ). with_quotes_doubled t ++ quote ∷ rest.0) (sym inner.2),
          ))
    ]

find-some :
    (p : List ℕ → Bool) (Q : List ℕ → Type 0) (xs : List (List ℕ)) (x : List ℕ) → AllByRecursion Q xs → find p xs ≡ Some x →
    (p x ≡ true) × Q x
find-some p Q [] x h e = absurd (cc)
find-some p Q (y ∷ ys) x h e =
    elim (cases_Bool (p y)) [
      | inl t ↦
          (let k : find p (y ∷ ys) ≡ Some y = rw t refl in
          let both : Some y ≡ Some x = sym k ∙ e in
          let same : y ≡ x = cc in
          (ap p (sym same) ∙ t, subst Q same h.0))
      | inr t ↦ (let k : find p (y ∷ ys) ≡ find p ys = rw t refl in find-some p Q ys x h.1 (sym k ∙ e))
    ]

starts-front : (mark bytes : List ℕ) → starts_with eqb bytes mark ≡ true → (more : List ℕ) × (bytes ≡ mark ++ more)
starts-front [] bytes e = (bytes, refl)
starts-front (m ∷ ms) [] e = absurd (false≢true e)
starts-front (m ∷ ms) (b ∷ bytes) e =
    let parts = and_parts (eqb m b) (starts_with eqb bytes ms) e in
    let more = starts-front ms bytes parts.1 in
    (more.0, ap (λ (x : ℕ). x ∷ bytes) (sym (eqb-true m b parts.0)) ∙ ap (λ (xs : List ℕ). m ∷ xs) more.1)

marks-some : AllByRecursion (λ mark. 0 < length mark) marks
marks-some = search rules

fits-quoted :
    (b : ℕ) (rest : List ℕ) (o : Option (List ℕ)) → b ≡ quote → quoted_text rest ≡ o → Fits (b ∷ rest) (quoted_or_bad (b ∷ rest) o)
fits-quoted b rest None q e =
    fits-plain Bad (b ∷ rest) (b ∷ rest) (record {
      some = omega arith;
      within = le_refl (length (b ∷ rest));
      is = take_all (length (b ∷ rest)) (b ∷ rest) (le_refl (length (b ∷ rest)));
    }) refl
fits-quoted b rest (Some text) q e =
    let more = quoted-front rest text e in
    let whole : b ∷ rest ≡ in_quotes text ++ more.0 =
    ap (λ (x : ℕ). x ∷ rest) q
    ∙ ap (λ (xs : List ℕ). quote ∷ xs) (more.1 ∙ sym (append_assoc (with_quotes_doubled text) (quote ∷ []) more.0)) in
    let front = front-append (in_quotes text) more.0 (b ∷ rest) whole (omega arith) in
    (front.some, front.within, front.is)

fits-mark :
    (b : ℕ) (rest : List ℕ) (o : Option (List ℕ)) → find (starts_with eqb (b ∷ rest)) marks ≡ o →
    Fits (b ∷ rest) (mark_or_bad (b ∷ take_while continues_char rest) o)
fits-mark b rest None e =
    let n = prefix_len continues_char rest in
    fits-plain Bad (b ∷ take n rest) (b ∷ rest)
    (front-append (b ∷ take n rest) (drop n rest) (b ∷ rest)
    (ap (λ (xs : List ℕ). b ∷ xs) (sym (take-append-drop n rest))) (omega arith)) refl
fits-mark b rest (Some mark) e =
    let found = find-some (starts_with eqb (b ∷ rest)) (λ m. 0 < length m) marks mark marks-some e in
    let more = starts-front mark (b ∷ rest) found.0 in
    fits-plain Mark mark (b ∷ rest) (front-append mark more.0 (b ∷ rest) more.1 found.1) refl

fits-comment :
    (b : ℕ) (rest : List ℕ) → starts_with eqb (b ∷ rest) (codes "--") ≡ true →
    Fits (b ∷ rest) (Gap (length (take_while is_in_line (b ∷ rest))))
fits-comment b rest e =
    let dash : b ≡ 45 = sym (eqb-true 45 b (and_parts (eqb 45 b) (starts_with eqb rest (codes "-")) e).0) in
    let in_line : is_in_line b ≡ true = rw dash refl in
    let front = front-run is_in_line b rest in_line in
    (front.some, front.within)

pub fits : (b : ℕ) (rest : List ℕ) → Fits (b ∷ rest) (lead (b ∷ rest))
fits b rest =
    let some : 0 < length (b ∷ rest) = omega arith in
    elim (cases_Bool (is_ascii_whitespace b)) [
      | inl w ↦ subst (Fits (b ∷ rest)) (sym (lead-blank (b ∷ rest) some w)) (omega arith, omega arith)
      | inr w ↦ elim (cases_Bool (starts_with eqb (b ∷ rest) (codes "--"))) [
        | inl c ↦ subst (Fits (b ∷ rest)) (sym (lead-comment (b ∷ rest) some w c)) (fits-comment b rest c)
        | inr c ↦ elim (cases_Bool (begins_word b)) [
          | inl h ↦ subst (Fits (b ∷ rest)) (sym (lead-word (b ∷ rest) some w c h))
              (fits-word (take_while continues_word (b ∷ rest)) (b ∷ rest) (front-run continues_word b rest (word_from_begins b h)))
          | inr h ↦ elim (cases_Bool (is_ascii_digit b)) [
            | inl d ↦ subst (Fits (b ∷ rest)) (sym (lead-number (b ∷ rest) some w c h d))
                (fits-plain Number (take_while is_ascii_digit (b ∷ rest)) (b ∷ rest) (front-run is_ascii_digit b rest d) refl)
            | inr d ↦ elim (cases_Bool (eqb b quote)) [
              | inl q ↦ subst (Fits (b ∷ rest)) (sym (lead-quoted (b ∷ rest) some (eqb-true b quote q)))
                  (fits-quoted b rest (quoted_text rest) (eqb-true b quote q) refl)
              | inr q ↦ subst (Fits (b ∷ rest)) (sym (lead-mark (b ∷ rest) some w c h d q))
                  (fits-mark b rest (find (starts_with eqb (b ∷ rest)) marks) refl)
            ]
          ]
        ]
      ]
    ]

-- tokens stand in order
lower : (low from : ℕ) (tokens : List Token) (end : ℕ) → low ≤ from → AreInOrder from tokens end → AreInOrder low tokens end
lower low from [] end l h = omega (arith, h)
lower low from (token ∷ tokens) end l h = (omega (arith, h.0), h.1, h.2)

order-first :
    (at end : ℕ) (bytes : List ℕ) (first : Lead) (after : ℕ → List Token) → Fits bytes first →
    ((len : ℕ) → 0 < len → len ≤ length bytes → AreInOrder (at + len) (after len) end) → AreInOrder at (first_then first at after) end
order-first at end bytes (Gap len) after h rest = lower at (at + len) (after len) end (omega arith) (rest len h.0 h.1)
order-first at end bytes (Lexeme kind len text) after h rest = (le_refl at, omega (arith, h.0), rest len h.0 h.1)

order :
    (at skip : ℕ) (bytes : List ℕ) → skip ≤ length bytes → AreInOrder (at + skip) (tokens_from at skip bytes) (at + length bytes)
unfolding tokens_from
order at skip [] l = omega arith
order at (suc skip) (byte ∷ rest) l =
    let from : at + 1 + skip ≡ at + suc skip = omega arith in
    let end : at + 1 + length rest ≡ at + suc (length rest) = omega arith in
    subst (λ (k : ℕ). AreInOrder k (tokens_from (at + 1) skip rest) (at + suc (length rest))) from
    (subst (λ (k : ℕ). AreInOrder (at + 1 + skip) (tokens_from (at + 1) skip rest) k) end (order (at + 1) skip rest (omega arith)))
order at zero (byte ∷ rest) l =
    let end : at + 1 + length rest ≡ at + suc (length rest) = omega arith in
    let here : at ≡ at + 0 = omega arith in
    let tokens = first_then (lead (byte ∷ rest)) at (λ len. tokens_from (at + 1) (len - 1) rest) in
    subst (λ (k : ℕ). AreInOrder k tokens (at + suc (length rest))) here
    (order-first at (at + suc (length rest)) (byte ∷ rest) (lead (byte ∷ rest)) (λ len. tokens_from (at + 1) (len - 1) rest)
    (fits byte rest)
    (λ len some within.
    let from : at + 1 + (len - 1) ≡ at + len = omega arith in
    subst (λ (k : ℕ). AreInOrder k (tokens_from (at + 1) (len - 1) rest) (at + suc (length rest))) from
    (subst (λ (k : ℕ). AreInOrder (at + 1 + (len - 1)) (tokens_from (at + 1) (len - 1) rest) k) end
    (order (at + 1) (len - 1) rest (omega arith)))))

pub tokens_of-in_order : (source : List ℕ) → AreInOrder 0 (tokens_of source) (length source)
tokens_of-in_order source =
    subst (λ (k : ℕ). AreInOrder 0 (tokens_of source) k) (zero-add (length source)) (order 0 0 source (omega arith))

-- tokens are spelled as they say
spelled-first :
    (source : List ℕ) (at : ℕ) (bytes : List ℕ) (first : Lead) (after : ℕ → List Token) → drop at source ≡ bytes → Fits bytes first →
    ((len : ℕ) → 0 < len → All (IsSpelled source) (after len)) → All (IsSpelled source) (first_then first at after)
spelled-first source at bytes (Gap len) after e h rest = rest len h.0
spelled-first source at bytes (Lexeme kind len text) after e h rest =
    let size : len ≡ at + len - at = omega arith in
    let spelling : take len bytes ≡ slice_range source at (at + len) =
    ap (take len) (sym e) ∙ ap (λ (k : ℕ). take k (drop at source)) size in
    All-cons (IsSpelled source) (record { kind = kind; from = at; to = at + len; text = text }) (after len)
    (subst (λ (xs : List ℕ). Spells xs kind text) spelling h.2) (rest len h.0)

spelled :
    (source : List ℕ) (at skip : ℕ) (bytes : List ℕ) → drop at source ≡ bytes → All (IsSpelled source) (tokens_from at skip bytes)
unfolding tokens_from
spelled source at skip [] e = All-nil (IsSpelled source)
spelled source at (suc skip) (byte ∷ rest) e =
    spelled source (at + 1) skip rest (sym (drop-drop 1 at source) ∙ ap (drop 1) e)
spelled source at zero (byte ∷ rest) e =
    spelled-first source at (byte ∷ rest) (lead (byte ∷ rest)) (λ len. tokens_from (at + 1) (len - 1) rest) e (fits byte rest)
    (λ len some. spelled source (at + 1) (len - 1) rest (sym (drop-drop 1 at source) ∙ ap (drop 1) e))

pub tokens_of-spelled : (source : List ℕ) → All (IsSpelled source) (tokens_of source)
tokens_of-spelled source = spelled source 0 0 source refl

pub length-tokens_from : (at skip : ℕ) (bytes : List ℕ) → length (tokens_from at skip bytes) ≤ length bytes
unfolding tokens_from
length-tokens_from at skip [] = omega arith
length-tokens_from at (suc skip) (byte ∷ rest) = omega (arith, length-tokens_from (at + 1) skip rest)
length-tokens_from at zero (byte ∷ rest) =
    elim (lead (byte ∷ rest)) as (λ first. length (first_then first at (λ len. tokens_from (at + 1) (len - 1) rest)) ≤ suc (length rest)) [
      | Gap len ↦ omega (arith, length-tokens_from (at + 1) (len - 1) rest)
      | Lexeme kind len text ↦ omega (arith, length-tokens_from (at + 1) (len - 1) rest)
    ]

pub length-tokens_of : (source : List ℕ) → length (tokens_of source) ≤ length source
length-tokens_of source = length-tokens_from 0 0 source
