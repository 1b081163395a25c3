-- What is spelled is read, whatever follows that doesn't go on with it.
use Rattle.std.proofs.Common.{◌≡◌, ℕ, zero, suc, ◌<◌, ◌≤◌, Bool, true, false, List, [], ◌∷◌, ◌++◌, length, Option, Some, refl, sym, ap, ◌∙◌, append_assoc, arith, length-append}
use Rattle.std.specs.Prelude.{codes, bytes_eq, ◌&&◌}
use Rattle.std.proofs.lemmas.Bool.{false≢true}
use Rattle.std.proofs.lemmas.Slice.Eq.{bytes_eq-Decides}
use Rattle.beas_core.specs.declared.schema.Column.{Column}
use Rattle.beas_core.specs.declared.query.Sign.{Sign}
use Rattle.sql_text.specs.declared.tree.Literal.{Literal}
use Rattle.sql_text.specs.declared.tree.ColumnRef.{ColumnRef}
use Rattle.sql_text.specs.declared.tree.Side.{Side}
use Rattle.sql_text.specs.declared.tree.Cond.{Cond}
use Rattle.sql_text.specs.declared.tree.Cond.TheVariants.{Compare, Between}
use Rattle.beas_core.specs.Spelling.{is_reserved, is_name}
use Rattle.beas_core.proofs.Identifiers.{name_facts}
use Rattle.sql_text.specs.Symbols.{Symbol, word, mark}
use Rattle.sql_text.specs.Grammar.{Commas, last, comma, IsId, id, IsMaybeIds, no_ids, ids, IsColumn, integer, int, text, IsLiteral, plain, positive, negative, between_quotes, IsTuple, tuple, IsRef, bare, dotted, IsSide, placed, written, IsSign, equal, differs, not_equal, less, at_most, more, at_least, is_literal, IsCondition, comparison, range, parentheses}
use Rattle.sql_text.specs.Words.{AND, BETWEEN, INT, INTEGER, TEXT, OPEN, CLOSE, COMMA, DOT}
use Rattle.token_reader.specs.Reading.{starts, rest_of, starts_id, read_id, read_number, read_quoted, starts_quoted, sign_of, read_sign}
use Rattle.sql_parser.specs.Reading.{read_commas, read_list, then_close, read_maybe_ids, read_kind, read_column, read_signed, read_literal, read_tuple, read_ref, read_side, read_range, read_comparison, read_simple, read_condition, read_conditions}

-- an identifier is none of the words of the grammar
pub id_is_no_word : (w n : List ℕ) → is_reserved w ≡ true → is_name n ≡ true → bytes_eq w n ≡ false
id_is_no_word w n r h =
    let go : (b : Bool) → bytes_eq w n ≡ b → b ≡ false = λ b. elim b as (λ b. bytes_eq w n ≡ b → b ≡ false) [
      | true ↦ λ e. absurd (false≢true (sym (name_facts n h).free ∙ ap is_reserved (sym ((bytes_eq-Decides w n).0 e)) ∙ r))
      | false ↦ λ e. refl
    ] in
    go (bytes_eq w n) refl

pub no_word : (w n : List ℕ) (rest : List Symbol) → is_reserved w ≡ true → is_name n ≡ true → starts (word w) (word n ∷ rest) ≡ false
unfolding starts
no_word w n rest r h = id_is_no_word w n r h

pub id-reads : {a : List Symbol} {n : List ℕ} → IsId a n → (rest : List Symbol) → read_id (a ++ rest) ≡ Some (n, rest)
unfolding read_id
id-reads (id h) rest = rw h refl

pub id-starts : {a : List Symbol} {n : List ℕ} → IsId a n → (rest : List Symbol) → starts_id (a ++ rest) ≡ true
unfolding starts_id
id-starts (id h) rest = rw h refl

pub id-some : {a : List Symbol} {n : List ℕ} → IsId a n → 0 < length a
id-some (id h) = omega arith

pub id-no_word : {a : List Symbol} {n : List ℕ} → IsId a n → (w : List ℕ) (rest : List Symbol) → is_reserved w ≡ true → starts (word w) (a ++ rest) ≡ false
id-no_word (id h) w rest r = no_word w _ rest r h

pub id-no_mark : {a : List Symbol} {n : List ℕ} → IsId a n → (m : List ℕ) (rest : List Symbol) → starts (mark m) (a ++ rest) ≡ false
unfolding starts
id-no_mark (id h) m rest = refl

-- ---- lists

module _ {X : Type 0} (Spelled : List Symbol → X → Type 0) (read : List Symbol → Option (X × List Symbol)) (Ends : List Symbol → Type 0)
    (reads : (a : List Symbol) (x : X) → Spelled a x → (rest : List Symbol) → Ends rest → read (a ++ rest) ≡ Some (x, rest))
    (some : (a : List Symbol) (x : X) → Spelled a x → 0 < length a)
    (before : (rest : List Symbol) → Ends (COMMA ∷ rest)) where
  commas-reads : (n : ℕ) (a : List Symbol) (xs : List X) → Commas Spelled a xs → length a ≤ n → (rest : List Symbol) → Ends rest → starts COMMA rest ≡ false
      → read_commas read n (a ++ rest) ≡ Some (xs, rest)
  unfolding read_commas starts rest_of
  commas-reads zero a xs (last h) le rest ends stop = absurd (omega (arith, some _ _ h))
  commas-reads zero c ys (comma {a} {b} h hs) le rest ends stop = absurd (omega (arith, length-append a (COMMA ∷ b)))
  commas-reads (suc n) a xs (last h) le rest ends stop = rw (reads _ _ h rest ends, stop) refl
  commas-reads (suc n) c ys (comma {a} {b} {x} {xs} h hs) le rest ends stop =
      let fits : length b ≤ n = omega (arith, length-append a (COMMA ∷ b)) in
      ap (read_commas read (suc n)) (append_assoc a (COMMA ∷ b) rest)
      ∙ rw (reads _ _ h (COMMA ∷ (b ++ rest)) (before (b ++ rest)), commas-reads n b xs hs fits rest ends stop) refl

  commas-some : (a : List Symbol) (xs : List X) → Commas Spelled a xs → 0 < length a
  commas-some a xs (last h) = some _ _ h
  commas-some c ys (comma {a} {b} h hs) = omega (arith, length-append a (COMMA ∷ b))

  pub list-reads : (a : List Symbol) (xs : List X) → Commas Spelled a xs → (rest : List Symbol) → Ends rest → starts COMMA rest ≡ false
      → read_list read (a ++ rest) ≡ Some (xs, rest)
  list-reads a xs h rest ends stop = commas-reads (length (a ++ rest)) a xs h (omega (arith, length-append a rest)) rest ends stop

  -- what no item begins with, no list begins with
  pub commas-start : (s : Symbol) → ((a : List Symbol) (x : X) → Spelled a x → (rest : List Symbol) → starts s (a ++ rest) ≡ false)
      → (a : List Symbol) (xs : List X) → Commas Spelled a xs → (rest : List Symbol) → starts s (a ++ rest) ≡ false
  commas-start s never a xs (last h) rest = never _ _ h rest
  commas-start s never c ys (comma {a} {b} h hs) rest = rw (append_assoc a (COMMA ∷ b) rest) (never _ _ h (COMMA ∷ (b ++ rest)))

-- what follows plays no part
abbrev pub Any : List Symbol → Type 0
Any rest = Unit {0}

pub ids-reads : {a : List Symbol} {ns : List (List ℕ)} → Commas IsId a ns → (rest : List Symbol) → starts COMMA rest ≡ false
    → read_list read_id (a ++ rest) ≡ Some (ns, rest)
ids-reads h rest stop = list-reads IsId read_id Any (λ _ _ i rest _. id-reads i rest) (λ _ _ i. id-some i) (λ _. tt) _ _ h rest tt stop

pub no-comma_id : (a : List Symbol) (ns : List (List ℕ)) → Commas IsId a ns → (m : List ℕ) (rest : List Symbol) → starts (mark m) (a ++ rest) ≡ false
no-comma_id a ns h m rest = commas-start IsId read_id Any (λ _ _ i rest _. id-reads i rest) (λ _ _ i. id-some i) (λ _. tt) (mark m)
    (λ _ _ i rest. id-no_mark i m rest) a ns h rest

pub closed-reads : {X : Type 0} (read : Option (X × List Symbol)) (x : X) (rest : List Symbol) → read ≡ Some (x, CLOSE ∷ rest) → then_close read
    ≡ Some (x, rest)
unfolding then_close starts rest_of
closed-reads read x rest e = rw e refl

pub maybe_ids-reads : {a : List Symbol} {ns : List (List ℕ)} → IsMaybeIds a ns → (rest : List Symbol)
    → read_maybe_ids (a ++ CLOSE ∷ rest) ≡ Some (ns, CLOSE ∷ rest)
unfolding read_maybe_ids starts
maybe_ids-reads no_ids rest = refl
maybe_ids-reads (ids {a} {ns} h) rest = rw (no-comma_id a ns h (codes ")") (CLOSE ∷ rest), ids-reads h (CLOSE ∷ rest) refl) refl

pub column-reads : {a : List Symbol} {c : Column} → IsColumn a c → (rest : List Symbol) → read_column (a ++ rest) ≡ Some (c, rest)
unfolding read_column read_kind starts rest_of
column-reads (integer {a} i) rest = ap read_column (append_assoc a (INTEGER ∷ []) rest) ∙ rw (id-reads i (INTEGER ∷ rest)) refl
column-reads (int {a} i) rest = ap read_column (append_assoc a (INT ∷ []) rest) ∙ rw (id-reads i (INT ∷ rest)) refl
column-reads (text {a} i) rest = ap read_column (append_assoc a (TEXT ∷ []) rest) ∙ rw (id-reads i (TEXT ∷ rest)) refl

column-some : {a : List Symbol} {c : Column} → IsColumn a c → 0 < length a
column-some (integer {a} i) = omega (arith, length-append a (INTEGER ∷ []))
column-some (int {a} i) = omega (arith, length-append a (INT ∷ []))
column-some (text {a} i) = omega (arith, length-append a (TEXT ∷ []))

pub columns-read : {a : List Symbol} {cs : List Column} → Commas IsColumn a cs → (rest : List Symbol) → starts COMMA rest ≡ false
    → read_list read_column (a ++ rest) ≡ Some (cs, rest)
columns-read h rest stop = list-reads IsColumn read_column Any (λ _ _ i rest _. column-reads i rest) (λ _ _ i. column-some i) (λ _. tt) _ _ h rest tt stop

pub literal-reads : {a : List Symbol} {l : Literal} → IsLiteral a l → (rest : List Symbol) → read_literal (a ++ rest) ≡ Some (l, rest)
unfolding read_literal starts rest_of starts_quoted read_signed read_number read_quoted
literal-reads plain rest = refl
literal-reads positive rest = refl
literal-reads negative rest = refl
literal-reads between_quotes rest = refl

literal-some : {a : List Symbol} {l : Literal} → IsLiteral a l → 0 < length a
literal-some plain = omega arith
literal-some positive = omega arith
literal-some negative = omega arith
literal-some between_quotes = omega arith

pub tuple-reads : {a : List Symbol} {ls : List Literal} → IsTuple a ls → (rest : List Symbol) → read_tuple (a ++ rest) ≡ Some (ls, rest)
unfolding read_tuple starts rest_of
tuple-reads (tuple {a} {ls} h) rest =
    ap (λ t. read_tuple (OPEN ∷ t)) (append_assoc a (CLOSE ∷ []) rest)
    ∙ closed-reads (read_list read_literal (a ++ CLOSE ∷ rest)) ls rest
    (list-reads IsLiteral read_literal Any (λ _ _ i rest _. literal-reads i rest) (λ _ _ i. literal-some i) (λ _. tt) a ls h (CLOSE ∷ rest) tt refl)

tuple-some : {a : List Symbol} {ls : List Literal} → IsTuple a ls → 0 < length a
tuple-some (tuple {a} h) = omega arith

pub tuples-read : {a : List Symbol} {rows : List (List Literal)} → Commas IsTuple a rows → (rest : List Symbol) → starts COMMA rest ≡ false
    → read_list read_tuple (a ++ rest) ≡ Some (rows, rest)
tuples-read h rest stop = list-reads IsTuple read_tuple Any (λ _ _ i rest _. tuple-reads i rest) (λ _ _ i. tuple-some i) (λ _. tt) _ _ h rest tt stop

-- ---- refs and sides

abbrev pub NoDot : List Symbol → Type 0
NoDot rest = starts DOT rest ≡ false

pub ref-reads : {a : List Symbol} {r : ColumnRef} → IsRef a r → (rest : List Symbol) → NoDot rest → read_ref (a ++ rest) ≡ Some (r, rest)
unfolding read_ref starts rest_of
ref-reads (bare i) rest stop = rw (id-reads i rest, stop) refl
ref-reads (dotted {a} {b} i j) rest stop = ap read_ref (append_assoc a (DOT ∷ b) rest) ∙ rw (id-reads i (DOT ∷ (b ++ rest)), id-reads j rest) refl

pub ref-some : {a : List Symbol} {r : ColumnRef} → IsRef a r → 0 < length a
ref-some (bare i) = id-some i
ref-some (dotted {a} {b} i j) = omega (arith, length-append a (DOT ∷ b))

ref-starts : {a : List Symbol} {r : ColumnRef} → IsRef a r → (rest : List Symbol) → starts_id (a ++ rest) ≡ true
ref-starts (bare i) rest = id-starts i rest
ref-starts (dotted {a} {b} i j) rest = rw (append_assoc a (DOT ∷ b) rest) (id-starts i (DOT ∷ (b ++ rest)))

pub ref-no_word : {a : List Symbol} {r : ColumnRef} → IsRef a r → (w : List ℕ) (rest : List Symbol) → is_reserved w ≡ true → starts (word w) (a ++ rest) ≡ false
ref-no_word (bare i) w rest r = id-no_word i w rest r
ref-no_word (dotted {a} {b} i j) w rest r = rw (append_assoc a (DOT ∷ b) rest) (id-no_word i w (DOT ∷ (b ++ rest)) r)

pub ref-no_mark : {a : List Symbol} {r : ColumnRef} → IsRef a r → (m : List ℕ) (rest : List Symbol) → starts (mark m) (a ++ rest) ≡ false
ref-no_mark (bare i) m rest = id-no_mark i m rest
ref-no_mark (dotted {a} {b} i j) m rest = rw (append_assoc a (DOT ∷ b) rest) (id-no_mark i m (DOT ∷ (b ++ rest)))

literal-starts : {a : List Symbol} {l : Literal} → IsLiteral a l → (rest : List Symbol) → starts_id (a ++ rest) ≡ false
unfolding starts_id
literal-starts plain rest = refl
literal-starts positive rest = refl
literal-starts negative rest = refl
literal-starts between_quotes rest = refl

literal-no_open : {a : List Symbol} {l : Literal} → IsLiteral a l → (rest : List Symbol) → starts OPEN (a ++ rest) ≡ false
unfolding starts
literal-no_open plain rest = refl
literal-no_open positive rest = refl
literal-no_open negative rest = refl
literal-no_open between_quotes rest = refl

side-reads : {a : List Symbol} {s : Side} → IsSide a s → (rest : List Symbol) → NoDot rest → read_side (a ++ rest) ≡ Some (s, rest)
unfolding read_side
side-reads (placed r) rest stop = rw (ref-starts r rest, ref-reads r rest stop) refl
side-reads (written l) rest stop = rw (literal-starts l rest, literal-reads l rest) refl

side-some : {a : List Symbol} {s : Side} → IsSide a s → 0 < length a
side-some (placed r) = ref-some r
side-some (written l) = literal-some l

pub side-no_open : {a : List Symbol} {s : Side} → IsSide a s → (rest : List Symbol) → starts OPEN (a ++ rest) ≡ false
side-no_open (placed r) rest = ref-no_mark r (codes "(") rest
side-no_open (written l) rest = literal-no_open l rest

-- ---- conditions

sign-reads : {a : List Symbol} {s : Sign} → IsSign a s → (rest : List Symbol) → read_sign (a ++ rest) ≡ Some (s, rest)
unfolding read_sign sign_of
sign-reads equal rest = refl
sign-reads differs rest = refl
sign-reads not_equal rest = refl
sign-reads less rest = refl
sign-reads at_most rest = refl
sign-reads more rest = refl
sign-reads at_least rest = refl

sign-no_dot : {a : List Symbol} {s : Sign} → IsSign a s → (rest : List Symbol) → (starts DOT (a ++ rest) ≡ false) × (starts BETWEEN (a ++ rest) ≡ false)
unfolding starts
sign-no_dot equal rest = (refl, refl)
sign-no_dot differs rest = (refl, refl)
sign-no_dot not_equal rest = (refl, refl)
sign-no_dot less rest = (refl, refl)
sign-no_dot at_most rest = (refl, refl)
sign-no_dot more rest = (refl, refl)
sign-no_dot at_least rest = (refl, refl)

pub three : (a b c rest : List Symbol) → (a ++ b ++ c) ++ rest ≡ a ++ (b ++ (c ++ rest))
three a b c rest = simp append_assoc

pub simple-compare : {a b c : List Symbol} {left right : Side} {sign : Sign} (l : IsSide a left) (s : IsSign b sign) (r : IsSide c right)
    → (is_literal left && is_literal right) ≡ false → (rest : List Symbol) → NoDot rest
    → read_simple ((a ++ b ++ c) ++ rest) ≡ Some (Compare left sign right, rest)
unfolding read_simple read_comparison
simple-compare {a} {b} {c} l s r some rest stop =
    ap read_simple (three a b c rest)
    ∙ rw (side-reads l (b ++ (c ++ rest)) (sign-no_dot s (c ++ rest)).0, (sign-no_dot s (c ++ rest)).1, sign-reads s (c ++ rest), side-reads r rest stop, some)
    refl

pub simple-range : {a b c : List Symbol} {value : ColumnRef} {low high : Side} → IsRef a value → IsSide b low → IsSide c high → (rest : List Symbol)
    → NoDot rest → read_simple ((a ++ BETWEEN ∷ b ++ AND ∷ c) ++ rest) ≡ Some (Between value low high, rest)
unfolding read_simple read_range starts rest_of
simple-range {a} {b} {c} r l h rest stop =
    ap read_simple (three a (BETWEEN ∷ b) (AND ∷ c) rest)
    ∙ rw (side-reads (placed r) (BETWEEN ∷ (b ++ (AND ∷ (c ++ rest)))) refl, side-reads l (AND ∷ (c ++ rest)) refl, side-reads h rest stop) refl

pub condition-simple : (n : ℕ) (tokens : List Symbol) (c : Cond) (rest : List Symbol) → starts OPEN tokens ≡ false → read_simple tokens ≡ Some (c, rest)
    → read_condition (read_conditions n) tokens ≡ Some (c ∷ [], rest)
unfolding read_condition
condition-simple n tokens c rest shut e = rw (shut, e) refl

pub condition-some : {a : List Symbol} {cs : List Cond} → IsCondition a cs → 0 < length a
condition-some (comparison {a} {b} {c} l s r e) = omega (arith, length-append (a ++ b) c, length-append a b, side-some l)
condition-some (range {a} {b} {c} r l h) = omega (arith, length-append (a ++ BETWEEN ∷ b) (AND ∷ c), length-append a (BETWEEN ∷ b))
condition-some (parentheses h) = omega arith
