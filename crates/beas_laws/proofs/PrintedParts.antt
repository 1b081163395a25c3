-- The lexemes of names, columns, literals and references spell them again.
use Rattle.std.proofs.Common.{◌≡◌, ℕ, Bool, true, false, List, [], ◌∷◌, ◌++◌, length, get_or, refl, sym, ap, subst, ◌∙◌, inl, inr}
use Rattle.std.specs.Prelude.{codes, bytes_eq, eqb, map, not, nat_le, ◌&&◌}
use Rattle.std.specs.List.{list_all, AllByRecursion as Each}
use Rattle.std.specs.Char.{is_ascii_digit}
use Rattle.std.proofs.lemmas.Bool.{and_parts, cases_Bool, leb-true}
use Rattle.std.proofs.lemmas.List.{append-nil, map-append}
use Rattle.beas_core.specs.declared.schema.Column.{Column}
use Rattle.beas_core.specs.Spelling.{begins_word, continues_word}
use Rattle.sql_tokens.specs.Tokens.{longest_word}
use Rattle.sql_text.specs.declared.tree.Literal.{Literal}
use Rattle.sql_text.specs.declared.tree.Literal.TheVariants.{Number}
use Rattle.sql_text.specs.declared.tree.ColumnRef.{ColumnRef}
use Rattle.sql_text.specs.declared.tree.Side.{Side}
use Rattle.sql_text.specs.Canonical.{Lexeme, keyword, name, sign, comma_list, names_of, in_parentheses, column_of, literal_of, tuple_of, ref_of, side_of}
use Rattle.sql_text.specs.Symbols.{Symbol, number}
use Rattle.sql_text.specs.Grammar.{Commas, last, comma, IsId, id, IsMaybeIds, no_ids, ids, IsColumn, integer, int, text, significant_digits, IsLiteral, plain, positive, negative, between_quotes, IsTuple, tuple, IsRef, bare, dotted, IsSide, placed, written}
use Rattle.sql_text.specs.Words.{CLOSE, COMMA, MINUS, OPEN}
use Rattle.beas_laws.proofs.Clean.{symbol, open_mark, close_mark, comma_mark, point_mark, AreClean, none, keyword_then, name_then, digits_then, minus_then, content_then, sign_then, clean-append}
use Rattle.beas_laws.proofs.Lexicals.{IsWordText, IsDigitText, IsLexical, AreLexical, front, back}

-- the lexemes of a part spell it again
pub record Again {X : Type 0} (Spelled : List Symbol → X → Type 0) (part : X → List Lexeme) (x : X) : Type 0 where
  pub spelled : Spelled (map symbol (part x)) x
  pub clean : AreClean (part x)

abbrev is_word_text : List ℕ → Bool
is_word_text spelling = begins_word (get_or spelling 0 0) && (list_all continues_word spelling && nat_le (length spelling) longest_word)

word-text : (spelling : List ℕ) → is_word_text spelling ≡ true → IsWordText spelling
word-text spelling e =
    let parts = and_parts (begins_word (get_or spelling 0 0)) (list_all continues_word spelling && nat_le (length spelling) longest_word) e in
    let others = and_parts (list_all continues_word spelling) (nat_le (length spelling) longest_word) parts.1 in
    record { first = parts.0; each = others.0; short = leb-true (length spelling) longest_word others.1 }

-- a word of the grammar
pub clean-keyword : {rest : List Lexeme} (spelling : List ℕ) → is_word_text spelling ≡ true → AreClean rest → AreClean (keyword spelling ∷ rest)
clean-keyword spelling e c = keyword_then (word-text spelling e) c

pub closed : (xs : List Lexeme) → map symbol (xs ++ sign (codes ")") ∷ []) ≡ map symbol xs ++ CLOSE ∷ []
closed xs = map-append symbol xs (sign (codes ")") ∷ [])

pub clean-closed : {xs : List Lexeme} → AreClean xs → AreClean (in_parentheses xs)
clean-closed c = sign_then open_mark (clean-append c (sign_then close_mark none))

-- ---- lists
each_again : {X : Type 0} {Spelled : List Symbol → X → Type 0} {part : X → List Lexeme}
    → ((a : List Symbol) (x : X) → Spelled a x → AreLexical a → Again Spelled part x)
    → {a : List Symbol} {xs : List X} → Commas Spelled a xs → AreLexical a → Each (Again Spelled part) xs
each_again f (last {a} {x} s) l = (f a x s l, tt)
each_again f (comma {a} {b} {x} s t) l = (f a x s (front IsLexical a (COMMA ∷ b) l), each_again f t (back IsLexical a (COMMA ∷ b) l).1)

pub listed_again : {X : Type 0} {Spelled : List Symbol → X → Type 0} {part : X → List Lexeme} (x : X) (xs : List X) → Again Spelled part x
    → Each (Again Spelled part) xs → Again (Commas Spelled) (comma_list part) (x ∷ xs)
listed_again {Spelled = Spelled} {part = part} x [] h hs = record {
  spelled = last (subst (λ ls. Spelled (map symbol ls) x) (sym (append-nil (part x))) h.spelled);
  clean = clean-append h.clean none;
}
listed_again {Spelled = Spelled} {part = part} x (y ∷ ys) h hs =
    let more : Again (Commas Spelled) (comma_list part) (y ∷ ys) = listed_again y ys hs.0 hs.1 in
    record {
      spelled = subst (λ a. Commas Spelled a (x ∷ y ∷ ys)) (sym (map-append symbol (part x) (sign (codes ",") ∷ comma_list part (y ∷ ys))))
          (comma h.spelled more.spelled);
      clean = clean-append h.clean (sign_then comma_mark more.clean);
    }

pub commas-again : {X : Type 0} {Spelled : List Symbol → X → Type 0} {part : X → List Lexeme}
    → ((a : List Symbol) (x : X) → Spelled a x → AreLexical a → Again Spelled part x)
    → {a : List Symbol} {xs : List X} → Commas Spelled a xs → AreLexical a → Again (Commas Spelled) (comma_list part) xs
commas-again f (last {a} {x} s) l = listed_again x [] (f a x s l) tt
commas-again f (comma {a} {b} {x} {xs} s t) l =
    listed_again x xs (f a x s (front IsLexical a (COMMA ∷ b) l)) (each_again f t (back IsLexical a (COMMA ∷ b) l).1)

-- ---- names and columns
pub id-again : (a : List Symbol) (n : List ℕ) → IsId a n → AreLexical a → Again IsId (λ m. name m ∷ []) n
id-again a n (id r) l = record { spelled = id r; clean = name_then l.0 none }

pub ids-again : {a : List Symbol} {ns : List (List ℕ)} → Commas IsId a ns → AreLexical a → Again (Commas IsId) names_of ns
ids-again h l = commas-again id-again h l

pub maybe_ids-again : {a : List Symbol} {ns : List (List ℕ)} → IsMaybeIds a ns → AreLexical a → Again IsMaybeIds names_of ns
maybe_ids-again no_ids l = record { spelled = no_ids; clean = none }
maybe_ids-again (ids h) l = let again = ids-again h l in record { spelled = ids again.spelled; clean = again.clean }

pub column-again : (a : List Symbol) (c : Column) → IsColumn a c → AreLexical a → Again IsColumn column_of c
column-again a c (integer (id r)) l = record { spelled = integer (id r); clean = name_then l.0 (clean-keyword (codes "INTEGER") refl none) }
column-again a c (int (id r)) l = record { spelled = integer (id r); clean = name_then l.0 (clean-keyword (codes "INTEGER") refl none) }
column-again a c (text (id r)) l = record { spelled = text (id r); clean = name_then l.0 (clean-keyword (codes "TEXT") refl none) }

-- ---- literals
trimmed-step : (d e : ℕ) (ds : List ℕ) → eqb d 48 ≡ true → significant_digits (d ∷ e ∷ ds) ≡ significant_digits (e ∷ ds)
trimmed-step d e ds h = rw h refl

trimmed-kept : (d e : ℕ) (ds : List ℕ) → eqb d 48 ≡ false → significant_digits (d ∷ e ∷ ds) ≡ d ∷ e ∷ ds
trimmed-kept d e ds h = rw h refl

trimmed-twice : (ds : List ℕ) → significant_digits (significant_digits ds) ≡ significant_digits ds
trimmed-twice [] = refl
trimmed-twice (d ∷ []) = refl
trimmed-twice (d ∷ e ∷ ds) =
    elim (cases_Bool (eqb d 48)) [
      | inl h ↦ ap significant_digits (trimmed-step d e ds h) ∙ trimmed-twice (e ∷ ds) ∙ sym (trimmed-step d e ds h)
      | inr h ↦ ap significant_digits (trimmed-kept d e ds h)
    ]

trimmed-digits : (ds : List ℕ) → IsDigitText ds → IsDigitText (significant_digits ds)
trimmed-digits [] h = h
trimmed-digits (d ∷ []) h = h
trimmed-digits (d ∷ e ∷ ds) h =
    let parts = and_parts (is_ascii_digit d) (list_all is_ascii_digit (e ∷ ds)) h.each in
    let others = and_parts (is_ascii_digit e) (list_all is_ascii_digit ds) parts.1 in
    elim (cases_Bool (eqb d 48)) [
      | inl z ↦ subst IsDigitText (sym (trimmed-step d e ds z)) (trimmed-digits (e ∷ ds) (record { first = others.0; each = parts.1 }))
      | inr z ↦ subst IsDigitText (sym (trimmed-kept d e ds z)) h
    ]

unsigned-again : (ds : List ℕ) → IsDigitText ds → Again IsLiteral literal_of (Number false (significant_digits ds))
unsigned-again ds h = record {
  spelled = subst (λ t. IsLiteral (number (significant_digits ds) ∷ []) (Number false t)) (trimmed-twice ds) (plain {d = significant_digits ds});
  clean = digits_then (trimmed-digits ds h) none;
}

minus-again : (ds : List ℕ) (zero : Bool) → bytes_eq (significant_digits ds) (codes "0") ≡ zero → IsDigitText ds
    → Again IsLiteral literal_of (Number (not zero) (significant_digits ds))
minus-again ds true e h = unsigned-again ds h
minus-again ds false e h = record {
  spelled = subst (λ z. IsLiteral (MINUS ∷ number (significant_digits ds) ∷ []) (Number (not z) (significant_digits ds))) e
      (subst (λ t. IsLiteral (MINUS ∷ number (significant_digits ds) ∷ []) (Number (not (bytes_eq t (codes "0"))) t)) (trimmed-twice ds)
      (negative {d = significant_digits ds}));
  clean = minus_then (trimmed-digits ds h) none;
}

pub literal-again : (a : List Symbol) (x : Literal) → IsLiteral a x → AreLexical a → Again IsLiteral literal_of x
literal-again a x (plain {d}) l = unsigned-again d l.0
literal-again a x (positive {d}) l = unsigned-again d l.1.0
literal-again a x (negative {d}) l = minus-again d (bytes_eq (significant_digits d) (codes "0")) refl l.1.0
literal-again a x between_quotes l = record { spelled = between_quotes; clean = content_then none }

pub tuple-again : (a : List Symbol) (xs : List Literal) → IsTuple a xs → AreLexical a → Again IsTuple tuple_of xs
tuple-again a xs (tuple {a = inner} h) l =
    let again : Again (Commas IsLiteral) (comma_list literal_of) xs = commas-again literal-again h (front IsLexical inner (CLOSE ∷ []) l.1) in
    record {
      spelled = subst (λ b. IsTuple (OPEN ∷ b) xs) (sym (closed (comma_list literal_of xs))) (tuple again.spelled);
      clean = clean-closed again.clean;
    }

-- ---- references and sides
pub ref-again : (a : List Symbol) (r : ColumnRef) → IsRef a r → AreLexical a → Again IsRef ref_of r
ref-again a r (bare (id q)) l = record { spelled = bare (id q); clean = name_then l.0 none }
ref-again a r (dotted (id p) (id q)) l = record { spelled = dotted (id p) (id q); clean = name_then l.0 (sign_then point_mark (name_then l.1.1.0 none)) }

pub side-again : (a : List Symbol) (s : Side) → IsSide a s → AreLexical a → Again IsSide side_of s
side-again a s (placed {r = r} h) l = let again = ref-again a r h l in record { spelled = placed again.spelled; clean = again.clean }
side-again a s (written {l = x} h) l = let again = literal-again a x h l in record { spelled = written again.spelled; clean = again.clean }
