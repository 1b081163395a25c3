-- What a text begins with, by cases.
use Rattle.std.proofs.Common.{◌≡◌, ℕ, suc, ◌+◌, ◌-◌, ◌<◌, ◌≤◌, ◌≢◌, Bool, true, false, List, [], ◌∷◌, length, get_or, take, drop, refl, sym, ap, ◌∙◌, subst, inl, inr, arith, length-drop, length-append, le_refl, add-zero}
use Rattle.std.specs.Prelude.{codes, eqb, Some, None, find, map, take_while, IsAscii, IsCharBoundary, IsUtf8, slice_range}
use Rattle.std.specs.List.{starts_with, prefix_len}
use Rattle.std.specs.Char.{is_ascii_whitespace, is_ascii_digit, to_ascii_lowercase}
use Rattle.std.proofs.Math.ListN.{get_or-map}
use Rattle.std.proofs.lemmas.List.{get_or-drop, get_or-take, get_or_past, length-take-le, drop-drop, take_rest}
use Rattle.std.proofs.lemmas.Bool.{cases_lt, lt-ltb, le-ltb, ne_eqb}
use Rattle.std.proofs.lemmas.Bool.Decides.{nat_tests}
use Rattle.std.proofs.lemmas.Str.{IsCharBoundary-after_ascii, IsCharBoundary-end}
use Rattle.std.proofs.lemmas.Str.Ascii.{lowercase_ascii}
use Rattle.std.proofs.lemmas.List.Sums.{prefix_len-drop_yes, prefix_len-le-length, prefix_len_passes, prefix_len_stops}
use Rattle.sql_tokens.specs.declared.token.Token.{Token}
use Rattle.sql_tokens.specs.declared.token.TokenKind.{TokenKind}
use Rattle.sql_tokens.specs.declared.token.TokenKind.TheVariants.{Word, Number, Quoted, Mark, Bad}
use Rattle.beas_core.specs.Spelling.{begins_word, continues_word}
use Rattle.sql_tokens.specs.Tokens.{lead, plain, word, quoted_or_bad, in_quotes, with_quotes_doubled, quoted_text, mark_or_bad, marks, is_in_line, continues_char, quote, longest_word}
use Rattle.sql_tokens.specs.Tokens.Lead.{Gap, Lexeme}
use Rattle.sql_tokens.specs.Cuts.{BeginsToken, StandsAt, byte_kind}
use Rattle.sql_tokens.proofs.ByteKinds.{by_kind, is_lone, lone-found, lone-low}

pub lead-blank : (bs : List ℕ) → 0 < length bs → is_ascii_whitespace (get_or bs 0 0) ≡ true → lead bs ≡ Gap 1
unfolding lead
lead-blank [] l e = absurd (omega arith)
lead-blank (b ∷ rest) l e = rw e refl

pub lead-comment :
    (bs : List ℕ) → 0 < length bs → is_ascii_whitespace (get_or bs 0 0) ≡ false → starts_with eqb bs (codes "--") ≡ true →
    lead bs ≡ Gap (length (take_while is_in_line bs))
unfolding lead
lead-comment [] l w e = absurd (omega arith)
lead-comment (b ∷ rest) l w e = rw w (rw e refl)

pub lead-word :
    (bs : List ℕ) → 0 < length bs → is_ascii_whitespace (get_or bs 0 0) ≡ false → starts_with eqb bs (codes "--") ≡ false →
    begins_word (get_or bs 0 0) ≡ true → lead bs ≡ word (take_while continues_word bs)
unfolding lead
lead-word [] l w e h = absurd (omega arith)
lead-word (b ∷ rest) l w e h = rw w (rw e (rw h refl))

pub lead-number :
    (bs : List ℕ) → 0 < length bs → is_ascii_whitespace (get_or bs 0 0) ≡ false → starts_with eqb bs (codes "--") ≡ false →
    begins_word (get_or bs 0 0) ≡ false → is_ascii_digit (get_or bs 0 0) ≡ true →
    lead bs ≡ plain Number (take_while is_ascii_digit bs)
unfolding lead
lead-number [] l w e h d = absurd (omega arith)
lead-number (b ∷ rest) l w e h d = rw w (rw e (rw h (rw d refl)))

pub lead-quoted :
    (bs : List ℕ) → 0 < length bs → get_or bs 0 0 ≡ quote → lead bs ≡ quoted_or_bad bs (quoted_text (drop 1 bs))
unfolding lead
lead-quoted [] l q = absurd (omega arith)
lead-quoted (b ∷ rest) l q = rw q refl

pub lead-mark :
    (bs : List ℕ) → 0 < length bs → is_ascii_whitespace (get_or bs 0 0) ≡ false → starts_with eqb bs (codes "--") ≡ false →
    begins_word (get_or bs 0 0) ≡ false → is_ascii_digit (get_or bs 0 0) ≡ false → eqb (get_or bs 0 0) quote ≡ false →
    lead bs ≡ mark_or_bad (get_or bs 0 0 ∷ take_while continues_char (drop 1 bs)) (find (starts_with eqb bs) marks)
unfolding lead
lead-mark [] l w e h d q = absurd (omega arith)
lead-mark (b ∷ rest) l w e h d q = rw w (rw e (rw h (rw d (rw q refl))))

-- the classes of words and digits are ASCII, and apart
pub word-ascii : (b : ℕ) → continues_word b ≡ true → b < 128
word-ascii b h = grind (arith, nat_tests)

pub digit-ascii : (b : ℕ) → is_ascii_digit b ≡ true → b < 128
digit-ascii b h = grind (arith, nat_tests)

pub word_from_begins : (b : ℕ) → begins_word b ≡ true → continues_word b ≡ true
word_from_begins b h = rw h refl

pub digit-no_word : (b : ℕ) → is_ascii_digit b ≡ true → begins_word b ≡ false
digit-no_word b h = grind (arith, nat_tests)

pub first_at : (s : List ℕ) (at : ℕ) → get_or (drop at s) 0 0 ≡ get_or s at 0
first_at s at = get_or-drop at s 0 0 ∙ ap (λ (k : ℕ). get_or s k 0) (add-zero at)

-- a run of ASCII bytes
pub run-some :
    (p : ℕ → Bool) (s : List ℕ) (at to : ℕ) → at < length s → p (get_or s at 0) ≡ true →
    to ≡ at + prefix_len p (drop at s) → at < to
run-some p s at to l e t = omega (arith, t, prefix_len-drop_yes p s at 0 l e)

pub run-cut :
    (p : ℕ → Bool) (ascii : (b : ℕ) → p b ≡ true → b < 128) (s : List ℕ) (at to : ℕ) → IsUtf8 s → at < length s →
    p (get_or s at 0) ≡ true → to ≡ at + prefix_len p (drop at s) → IsCharBoundary s to
run-cut p ascii s at to u l e t =
    let n = prefix_len p (drop at s) in
    let some : at < to = run-some p s at to l e t in
    let within : n ≤ length s - at = omega (arith, prefix_len-le-length p (drop at s), length-drop at s) in
    let passes : p (get_or (drop at s) (n - 1) 0) ≡ true = prefix_len_passes p (drop at s) (n - 1) 0 (omega arith) in
    let place : at + (n - 1) ≡ to - 1 = omega arith in
    let here : get_or (drop at s) (n - 1) 0 ≡ get_or s (to - 1) 0 =
    get_or-drop at s (n - 1) 0 ∙ ap (λ (k : ℕ). get_or s k 0) place in
    let low : get_or s (to - 1) 0 < 128 = ascii _ (subst (λ (b : ℕ). p b ≡ true) here passes) in
    let cut : IsCharBoundary s (to - 1 + 1) = IsCharBoundary-after_ascii s (to - 1) u (omega arith) low in
    let back : to - 1 + 1 ≡ to = omega arith in
    subst (IsCharBoundary s) back cut

-- a token whose text is its spelling
pub stands-plain :
    (s : List ℕ) (at to : ℕ) (kind : TokenKind) (t : Token) → lead (drop at s) ≡ plain kind (slice_range s at to) →
    t ≡ record { kind = kind; from = at; to = to; text = slice_range s at to } → at < to → to ≤ length s →
    IsCharBoundary s to → StandsAt s at t
stands-plain s at to kind t is e some within cut =
    let size : length (slice_range s at to) ≡ to - at =
    length-take-le (to - at) (drop at s) (omega (arith, length-drop at s)) in
    let Q : Token → Type 0 = λ u. StandsAt s at u in
    subst Q (sym e) (record {
      is = is ∙ ap (λ (n : ℕ). Lexeme kind n (slice_range s at to)) size;
      from = refl;
      some = some;
      within = within;
      cut = cut;
    })

-- the spelling of a run
pub run-spelling :
    (p : ℕ → Bool) (s : List ℕ) (at to : ℕ) → to ≡ at + prefix_len p (drop at s) →
    take_while p (drop at s) ≡ slice_range s at to
run-spelling p s at to t =
    let n : prefix_len p (drop at s) ≡ to - at = omega (arith, t) in
    ap (λ (k : ℕ). take k (drop at s)) n

pub stands-number :
    (s : List ℕ) (at to : ℕ) (t : Token) → IsUtf8 s → BeginsToken s at → is_ascii_digit (get_or s at 0) ≡ true →
    to ≡ at + prefix_len is_ascii_digit (drop at s) → to ≤ length s →
    t ≡ record { kind = Number; from = at; to = to; text = slice_range s at to } → StandsAt s at t
stands-number s at to t u b d r within e =
    let f = first_at s at in
    let is : lead (drop at s) ≡ plain Number (take_while is_ascii_digit (drop at s)) =
    lead-number (drop at s) (omega (arith, length-drop at s, b.within)) (ap is_ascii_whitespace f ∙ b.ink) b.no_comment
    (ap begins_word f ∙ digit-no_word (get_or s at 0) d) (ap is_ascii_digit f ∙ d) in
    stands-plain s at to Number t (is ∙ ap (plain Number) (run-spelling is_ascii_digit s at to r)) e
    (run-some is_ascii_digit s at to b.within d r) within (run-cut is_ascii_digit digit-ascii s at to u b.within d r)

length-spelling :
    (s : List ℕ) (at to : ℕ) → to ≤ length s → length (slice_range s at to) ≡ to - at
length-spelling s at to within = length-take-le (to - at) (drop at s) (omega (arith, length-drop at s))

word-long : (spelling : List ℕ) → longest_word < length spelling → word spelling ≡ plain Bad spelling
word-long spelling l = rw (lt-ltb longest_word (length spelling) l) refl

word-short :
    (spelling : List ℕ) → length spelling ≤ longest_word →
    word spelling ≡ Lexeme Word (length spelling) (map to_ascii_lowercase spelling)
word-short spelling l = rw (le-ltb longest_word (length spelling) l) refl

lead-word_at :
    (s : List ℕ) (at to : ℕ) → BeginsToken s at → begins_word (get_or s at 0) ≡ true →
    to ≡ at + prefix_len continues_word (drop at s) → lead (drop at s) ≡ word (slice_range s at to)
lead-word_at s at to b h r =
    lead-word (drop at s) (omega (arith, length-drop at s, b.within)) (ap is_ascii_whitespace (first_at s at) ∙ b.ink) b.no_comment
    (ap begins_word (first_at s at) ∙ h) ∙ ap word (run-spelling continues_word s at to r)

pub word-cut :
    (s : List ℕ) (at to : ℕ) → IsUtf8 s → BeginsToken s at → begins_word (get_or s at 0) ≡ true →
    to ≡ at + prefix_len continues_word (drop at s) → IsCharBoundary s to
word-cut s at to u b h r = run-cut continues_word word-ascii s at to u b.within (word_from_begins (get_or s at 0) h) r

-- a word goes on after its first byte
pub word-run :
    (s : List ℕ) (at to : ℕ) → at < length s → begins_word (get_or s at 0) ≡ true →
    to ≡ at + 1 + prefix_len continues_word (drop (at + 1) s) → to ≡ at + prefix_len continues_word (drop at s)
word-run s at to l h r =
    omega (arith, r, prefix_len-drop_yes continues_word s at 0 l (word_from_begins (get_or s at 0) h))

-- a word is ASCII, and so is it in small letters
pub word-is_ascii : (s : List ℕ) (at to : ℕ) → to ≤ length s → to ≡ at + prefix_len continues_word (drop at s) → IsAscii (slice_range s at to)
word-is_ascii s at to within r = λ i.
    let size = length-spelling s at to within in
    elim (cases_lt i (to - at)) [
      | inl l ↦
          (let passes : continues_word (get_or (drop at s) i 0) ≡ true = prefix_len_passes continues_word (drop at s) i 0 (omega (arith, r, l)) in
          let here : get_or (slice_range s at to) i 0 ≡ get_or (drop at s) i 0 = get_or-take (to - at) (drop at s) i 0 l in
          subst (λ (b : ℕ). b < 128) (sym here) (word-ascii (get_or (drop at s) i 0) passes))
      | inr l ↦
          (let none : get_or (slice_range s at to) i 0 ≡ 0 = get_or_past (slice_range s at to) i 0 (omega (arith, size, l)) in
          subst (λ (b : ℕ). b < 128) (sym none) (omega arith))
    ]

pub small-ascii : (bs : List ℕ) → IsAscii bs → IsAscii (map to_ascii_lowercase bs)
small-ascii bs h = λ i.
    subst (λ (b : ℕ). b < 128) (sym (get_or-map to_ascii_lowercase bs i 0)) (lowercase_ascii (get_or bs i 0) (h i))

pub stands-long_word :
    (s : List ℕ) (at to : ℕ) (t : Token) → IsUtf8 s → BeginsToken s at → begins_word (get_or s at 0) ≡ true →
    to ≡ at + prefix_len continues_word (drop at s) → to ≤ length s → longest_word < to - at →
    t ≡ record { kind = Bad; from = at; to = to; text = slice_range s at to } → StandsAt s at t
stands-long_word s at to t u b h r within long e =
    let size = length-spelling s at to within in
    let over : longest_word < length (slice_range s at to) = omega (arith, size) in
    stands-plain s at to Bad t (lead-word_at s at to b h r ∙ word-long (slice_range s at to) over) e
    (run-some continues_word s at to b.within (word_from_begins (get_or s at 0) h) r) within (word-cut s at to u b h r)

pub stands-word :
    (s : List ℕ) (at to : ℕ) (t : Token) → IsUtf8 s → BeginsToken s at → begins_word (get_or s at 0) ≡ true →
    to ≡ at + prefix_len continues_word (drop at s) → to ≤ length s → to - at ≤ longest_word →
    t ≡ record { kind = Word; from = at; to = to; text = map to_ascii_lowercase (slice_range s at to) } → StandsAt s at t
stands-word s at to t u b h r within short e =
    let spelling = slice_range s at to in
    let size = length-spelling s at to within in
    let fits : length spelling ≤ longest_word = omega (arith, size) in
    let Q : Token → Type 0 = λ v. StandsAt s at v in
    subst Q (sym e) (record {
      is = lead-word_at s at to b h r ∙ word-short spelling fits
          ∙ ap (λ (n : ℕ). Lexeme Word n (map to_ascii_lowercase spelling)) size;
      from = refl;
      some = run-some continues_word s at to b.within (word_from_begins (get_or s at 0) h) r;
      within = within;
      cut = word-cut s at to u b h r;
    })

lead-quoted_at :
    (s : List ℕ) (at : ℕ) → at < length s → get_or s at 0 ≡ quote →
    lead (drop at s) ≡ quoted_or_bad (drop at s) (quoted_text (drop (at + 1) s))
lead-quoted_at s at l q =
    lead-quoted (drop at s) (omega (arith, length-drop at s)) (first_at s at ∙ q)
    ∙ ap (λ (rest : List ℕ). quoted_or_bad (drop at s) (quoted_text rest)) (drop-drop 1 at s)

pub stands-quoted :
    (s : List ℕ) (at to : ℕ) (text : List ℕ) (t : Token) → at < length s → get_or s at 0 ≡ quote →
    quoted_text (drop (at + 1) s) ≡ Some text → to ≡ at + 1 + length (with_quotes_doubled text) + 1 → to ≤ length s →
    IsCharBoundary s to → t ≡ record { kind = Quoted; from = at; to = to; text = text } → StandsAt s at t
stands-quoted s at to text t l q known r within cut e =
    let size : length (in_quotes text) ≡ to - at =
    omega (arith, length-append (with_quotes_doubled text) (quote ∷ []), r) in
    let Q : Token → Type 0 = λ v. StandsAt s at v in
    subst Q (sym e) (record {
      is = lead-quoted_at s at l q ∙ ap (quoted_or_bad (drop at s)) known ∙ ap (λ (n : ℕ). Lexeme Quoted n text) size;
      from = refl;
      some = omega (arith, r);
      within = within;
      cut = cut;
    })

pub stands-unclosed :
    (s : List ℕ) (at : ℕ) (t : Token) → at < length s → get_or s at 0 ≡ quote → quoted_text (drop (at + 1) s) ≡ None →
    t ≡ record { kind = Bad; from = at; to = length s; text = slice_range s at (length s) } → StandsAt s at t
stands-unclosed s at t l q known e =
    let whole : drop at s ≡ slice_range s at (length s) = sym (take_rest s at) in
    stands-plain s at (length s) Bad t
    (lead-quoted_at s at l q ∙ ap (quoted_or_bad (drop at s)) known ∙ ap (plain Bad) whole) e l (le_refl (length s))
    (IsCharBoundary-end s)

lead-mark_at :
    (s : List ℕ) (at : ℕ) → BeginsToken s at → begins_word (get_or s at 0) ≡ false → is_ascii_digit (get_or s at 0) ≡ false →
    get_or s at 0 ≢ quote →
    lead (drop at s) ≡ mark_or_bad (get_or (drop at s) 0 0 ∷ take_while continues_char (drop 1 (drop at s))) (find (starts_with eqb (drop at s)) marks)
lead-mark_at s at b h d q =
    let f = first_at s at in
    lead-mark (drop at s) (omega (arith, length-drop at s, b.within)) (ap is_ascii_whitespace f ∙ b.ink) b.no_comment
    (ap begins_word f ∙ h) (ap is_ascii_digit f ∙ d) (ap (λ (k : ℕ). eqb k quote) f ∙ ne_eqb (get_or s at 0) quote q)

pub stands-mark :
    (s : List ℕ) (at to : ℕ) (t : Token) → BeginsToken s at → begins_word (get_or s at 0) ≡ false →
    is_ascii_digit (get_or s at 0) ≡ false → get_or s at 0 ≢ quote → at < to → to ≤ length s → IsCharBoundary s to →
    find (starts_with eqb (drop at s)) marks ≡ Some (slice_range s at to) →
    t ≡ record { kind = Mark; from = at; to = to; text = slice_range s at to } → StandsAt s at t
stands-mark s at to t b h d q some within cut known e =
    stands-plain s at to Mark t
    (lead-mark_at s at b h d q
    ∙ ap (mark_or_bad (get_or (drop at s) 0 0 ∷ take_while continues_char (drop 1 (drop at s)))) known)
    e some within cut

-- a mark of one byte with which no longer one begins
pub lone-cut : (s : List ℕ) (at : ℕ) → IsUtf8 s → at < length s → is_lone (get_or s at 0) ≡ true → IsCharBoundary s (at + 1)
lone-cut s at u l m = IsCharBoundary-after_ascii s at u l (lone-low (get_or s at 0) m).0

pub stands-lone :
    (s : List ℕ) (at : ℕ) (t : Token) → IsUtf8 s → BeginsToken s at → byte_kind (get_or s at 0) ≡ 1 →
    t ≡ record { kind = Mark; from = at; to = at + 1; text = slice_range s at (at + 1) } → StandsAt s at t
stands-lone s at t u b k e =
    let is = (by_kind (get_or s at 0)).lone k in
    let m : is_lone (get_or s at 0) ≡ true = is.2 in
    let one : 1 ≡ at + 1 - at = omega arith in
    let found : find (starts_with eqb (drop at s)) marks ≡ Some (take 1 (drop at s)) =
    lone-found (drop at s) (omega (arith, length-drop at s, b.within)) (ap is_lone (first_at s at) ∙ m) in
    stands-mark s at (at + 1) t b is.0 is.1 (lone-low (get_or s at 0) m).1 (omega arith) (omega (arith, b.within))
    (lone-cut s at u b.within m) (found ∙ ap (λ (k : ℕ). Some (take k (drop at s))) one) e

no_continuation : (b : ℕ) → continues_char b ≡ false → 128 ≤ b → 192 ≤ b
no_continuation b h l = grind (arith, nat_tests)

take_first :
    (bs rest : List ℕ) (n : ℕ) → 0 < length bs → drop 1 bs ≡ rest → get_or bs 0 0 ∷ take n rest ≡ take (suc n) bs
take_first [] rest n l e = absurd (omega arith)
take_first (b ∷ bs) rest n l e = ap (λ (xs : List ℕ). b ∷ take n xs) (sym e)

-- a character of one or several bytes ends where no byte continues it
pub char-cut :
    (s : List ℕ) (from to : ℕ) → from ≤ length s → to ≡ from + prefix_len continues_char (drop from s) → IsCharBoundary s to
char-cut s from to l r =
    let n = prefix_len continues_char (drop from s) in
    let within : to ≤ length s = omega (arith, r, prefix_len-le-length continues_char (drop from s), length-drop from s) in (
      within,
      λ more high.
          let stops : continues_char (get_or (drop from s) n 0) ≡ false =
          prefix_len_stops continues_char (drop from s) 0 (omega (arith, r, length-drop from s, more)) in
          let here : get_or (drop from s) n 0 ≡ get_or s to 0 = get_or-drop from s n 0 ∙ ap (λ (k : ℕ). get_or s k 0) (sym r) in
          no_continuation (get_or s to 0) (sym (ap continues_char here) ∙ stops) high,
    )

pub stands-bad_char :
    (s : List ℕ) (at to : ℕ) (t : Token) → BeginsToken s at → begins_word (get_or s at 0) ≡ false →
    is_ascii_digit (get_or s at 0) ≡ false → get_or s at 0 ≢ quote →
    to ≡ at + 1 + prefix_len continues_char (drop (at + 1) s) →
    find (starts_with eqb (drop at s)) marks ≡ None →
    t ≡ record { kind = Bad; from = at; to = to; text = slice_range s at to } → StandsAt s at t
stands-bad_char s at to t b h d q r known e =
    let n = prefix_len continues_char (drop (at + 1) s) in
    let cut = char-cut s (at + 1) to (omega (arith, b.within)) r in
    let rest : drop 1 (drop at s) ≡ drop (at + 1) s = drop-drop 1 at s in
    let size : to - at ≡ suc n = omega (arith, r) in
    let spelling : get_or (drop at s) 0 0 ∷ take_while continues_char (drop 1 (drop at s)) ≡ slice_range s at to =
    ap (λ (xs : List ℕ). get_or (drop at s) 0 0 ∷ take_while continues_char xs) rest
    ∙ take_first (drop at s) (drop (at + 1) s) n (omega (arith, length-drop at s, b.within)) rest
    ∙ ap (λ (k : ℕ). take k (drop at s)) (sym size) in
    stands-plain s at to Bad t
    (lead-mark_at s at b h d q
    ∙ ap (mark_or_bad (get_or (drop at s) 0 0 ∷ take_while continues_char (drop 1 (drop at s)))) known
    ∙ ap (plain Bad) spelling)
    e (omega (arith, r)) cut.0 cut
