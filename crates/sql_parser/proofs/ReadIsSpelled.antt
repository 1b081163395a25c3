-- What is read is spelled so, each token of it.
use Rattle.std.proofs.Common.{◌≡◌, ℕ, zero, suc, Bool, true, false, cond, List, [], ◌∷◌, ◌++◌, length, Option, Some, None, refl, sym, ap, subst, inl, inr, ◌∙◌, append_assoc}
use Rattle.std.specs.Prelude.{codes, bytes_eq, ◌&&◌, ◌⊎◌}
use Rattle.std.proofs.lemmas.Bool.{false≢true}
use Rattle.std.proofs.lemmas.Slice.Eq.{bytes_eq-Decides}
use Rattle.beas_core.specs.declared.schema.Column.{Column}
use Rattle.beas_core.specs.declared.query.Sign.{Sign}
use Rattle.sql_text.specs.declared.tree.Literal.{Literal}
use Rattle.sql_text.specs.declared.tree.ColumnRef.{ColumnRef}
use Rattle.sql_text.specs.declared.tree.Side.{Side}
use Rattle.sql_text.specs.declared.tree.Cond.{Cond}
use Rattle.sql_text.specs.declared.tree.Cond.TheVariants.{Compare, Between}
use Rattle.beas_core.specs.declared.schema.ColType.{ColType}
use Rattle.beas_core.specs.declared.schema.ColType.TheVariants.{Integer, Words as Texts}
use Rattle.sql_text.specs.declared.tree.Literal.TheVariants.{Words}
use Rattle.sql_text.specs.declared.tree.Side.TheVariants.{Column as Placed, Fixed}
use Rattle.beas_core.specs.declared.query.Sign.TheVariants.{Equal, Differs, Less, AtMost, More, AtLeast}
use Rattle.beas_core.specs.Spelling.{is_name}
use Rattle.sql_text.specs.Symbols.{Symbol, word, number, quoted, mark}
use Rattle.sql_text.specs.Grammar.{Commas, last, comma, IsId, id, IsMaybeIds, no_ids, ids, IsColumn, integer, int, text, IsLiteral, plain, positive, negative, between_quotes, IsTuple, tuple, IsRef, bare, dotted, IsSide, placed, written, IsSign, equal, differs, not_equal, less, at_most, more, at_least, is_literal, signed_literal, IsCondition, comparison, range, parentheses, IsConditions, last_condition, conjunction}
use Rattle.sql_text.specs.Words.{AND, BETWEEN, INT, INTEGER, TEXT, OPEN, CLOSE, COMMA, DOT, PLUS, MINUS}
use Rattle.token_reader.specs.Reading.{◌>>=◌, same, expect, starts, rest_of, begins_with, after_all, starts_id, read_id, read_number, read_quoted, starts_quoted, sign_of, read_sign}
use Rattle.sql_parser.specs.Reading.{read_commas, read_list, then_close, read_maybe_ids, read_kind, read_column, read_signed, read_literal, read_tuple, read_ref, read_side, read_range, read_comparison, read_simple, read_condition, read_conditions}

-- what was taken from the front of the tokens
pub record Took {X : Type 0} (Spelled : List Symbol → X → Type 0) (tokens : List Symbol) (x : X) (rest : List Symbol) : Type 0 where
  pub front : List Symbol
  pub parts : tokens ≡ front ++ rest
  pub spelled : Spelled front x

pub then_parts : {tokens rest : List Symbol} (a b after : List Symbol) → tokens ≡ a ++ rest → rest ≡ b ++ after → tokens ≡ (a ++ b) ++ after
then_parts a b after e f = e ∙ ap (λ r. a ++ r) f ∙ sym (append_assoc a b after)

abbrev pub or_else : {A : Type 0} → A → Option A → A
or_else other (Some x) = x
or_else other None = other

-- what was read, and the rest
abbrev pub read_as : {X : Type 0} → X → List Symbol → Option (X × List Symbol)
read_as x rest = Some (x, rest)

abbrev pub found : {A : Type 0} → A → Option A
found x = Some x

pub some_is : {A : Type 0} (x y : A) → found x ≡ found y → x ≡ y
some_is x y e = ap (or_else x) e

pub none_is : {A : Type 0} (y : A) → None ≡ found y → ⊥
none_is y e = cc

pub bind-inv : {A B : Type 0} (r : Option A) (f : A → Option B) (y : B) → (r >>= f) ≡ Some y → (x : A) × (r ≡ Some x) × (f x ≡ Some y)
bind-inv (Some x) f y e = (x, refl, e)
bind-inv None f y e = absurd (none_is y e)

pub pick-inv : {A : Type 0} (b : Bool) (x y z : A) → cond b x y ≡ z → ((b ≡ true) × (x ≡ z)) ⊎ ((b ≡ false) × (y ≡ z))
pick-inv true x y z e = inl (refl, e)
pick-inv false x y z e = inr (refl, e)

pub took_as : {X : Type 0} {Spelled : List Symbol → X → Type 0} {tokens : List Symbol} {x y : X} {r s : List Symbol} → Took Spelled tokens x r
    → read_as x r ≡ read_as y s → Took Spelled tokens y s
took_as {X} {Spelled} {tokens} {x} {y} {r} {s} t e = subst (λ (p : X × List Symbol). Took Spelled tokens p.0 p.1) (some_is (x, r) (y, s) e) t

pub same-inv : (s t : Symbol) → same s t ≡ true → s ≡ t
same-inv (word a) (word b) e = ap word ((bytes_eq-Decides a b).0 e)
same-inv (mark a) (mark b) e = ap mark ((bytes_eq-Decides a b).0 e)
same-inv _ _ e = absurd (false≢true e)

pub starts-inv : (s : Symbol) (tokens : List Symbol) → starts s tokens ≡ true → tokens ≡ s ∷ rest_of tokens
unfolding starts rest_of
starts-inv s [] e = absurd (false≢true e)
starts-inv s (t ∷ rest) e = ap (λ u. u ∷ rest) (sym (same-inv s t e))

pub begins-inv : (words tokens : List Symbol) → begins_with words tokens ≡ true → tokens ≡ words ++ after_all words tokens
unfolding begins_with after_all
begins-inv [] tokens e = refl
begins-inv (w ∷ ws) tokens e =
    elim (pick-inv (starts w tokens) (begins_with ws (rest_of tokens)) false true e) [
      | inl k ↦ starts-inv w tokens k.0 ∙ ap (λ r. w ∷ r) (begins-inv ws (rest_of tokens) k.1)
      | inr k ↦ absurd (false≢true k.1)
    ]

pub expect-inv : (s : Symbol) (tokens rest : List Symbol) → expect s tokens ≡ Some rest → tokens ≡ s ∷ rest
expect-inv s tokens rest e =
    elim (pick-inv (starts s tokens) (Some (rest_of tokens)) None (Some rest) e) [
      | inl t ↦ starts-inv s tokens t.0 ∙ ap (λ r. s ∷ r) (some_is (rest_of tokens) rest t.1)
      | inr f ↦ absurd (none_is rest f.1)
    ]

pub closed-inv : {X : Type 0} (read : Option (X × List Symbol)) (x : X) (rest : List Symbol) → then_close read ≡ Some (x, rest) → read ≡ Some (x, CLOSE ∷ rest)
unfolding then_close
closed-inv {X} read x rest e =
    let a = bind-inv read _ (x, rest) e in
    let b = bind-inv (expect CLOSE a.0.1) _ (x, rest) a.2 in
    let k = some_is (a.0.0, b.0) (x, rest) b.2 in
    let t = expect-inv CLOSE a.0.1 b.0 b.1 in
    a.1 ∙ ap (λ r. Some (a.0.0, r)) t ∙ ap (λ (p : X × List Symbol). Some (p.0, CLOSE ∷ p.1)) k

-- ---- names, numbers, texts

pub id-spelled : (tokens : List Symbol) (n : List ℕ) (rest : List Symbol) → read_id tokens ≡ Some (n, rest) → Took IsId tokens n rest
unfolding read_id
id-spelled (word m ∷ r) n rest e =
    elim (pick-inv (is_name m) (Some (m, r)) None (Some (n, rest)) e) [
      | inl t ↦ took_as (record { front = word m ∷ []; parts = refl; spelled = id t.0 }) t.1
      | inr f ↦ absurd (none_is (n, rest) f.1)
    ]
id-spelled _ n rest e = absurd (none_is (n, rest) e)

pub number-inv : (tokens : List Symbol) (n : List ℕ) (rest : List Symbol) → read_number tokens ≡ Some (n, rest) → tokens ≡ number n ∷ rest
unfolding read_number
number-inv (number m ∷ r) n rest e = ap (λ (p : List ℕ × List Symbol). number p.0 ∷ p.1) (some_is (m, r) (n, rest) e)
number-inv _ n rest e = absurd (none_is (n, rest) e)

pub quoted-inv : (tokens : List Symbol) (n : List ℕ) (rest : List Symbol) → read_quoted tokens ≡ Some (n, rest) → tokens ≡ quoted n ∷ rest
unfolding read_quoted
quoted-inv (quoted m ∷ r) n rest e = ap (λ (p : List ℕ × List Symbol). quoted p.0 ∷ p.1) (some_is (m, r) (n, rest) e)
quoted-inv _ n rest e = absurd (none_is (n, rest) e)

-- ---- lists

module _ {X : Type 0} (Spelled : List Symbol → X → Type 0) (read : List Symbol → Option (X × List Symbol))
    (spelled : (tokens : List Symbol) (x : X) (rest : List Symbol) → read tokens ≡ Some (x, rest) → Took Spelled tokens x rest) where
  pub commas-spelled : (n : ℕ) (tokens : List Symbol) (xs : List X) (rest : List Symbol) → read_commas read n tokens ≡ Some (xs, rest)
      → Took (Commas Spelled) tokens xs rest
  unfolding read_commas
  commas-spelled zero tokens xs rest e = absurd (none_is (xs, rest) e)
  commas-spelled (suc n) tokens xs rest e =
      let a = bind-inv (read tokens) _ (xs, rest) e in
      let t = spelled tokens a.0.0 a.0.1 a.1 in
      elim (pick-inv (starts COMMA a.0.1) (read_commas read n (rest_of a.0.1) >>= λ q. Some (a.0.0 ∷ q.0, q.1)) (Some (a.0.0 ∷ [], a.0.1)) (Some (xs, rest))
      a.2) [
        | inl c ↦
            let b = bind-inv (read_commas read n (rest_of a.0.1)) _ (xs, rest) c.1 in
            let u = commas-spelled n (rest_of a.0.1) b.0.0 b.0.1 b.1 in
            took_as (record {
              front = t.front ++ COMMA ∷ u.front;
              parts = then_parts t.front (COMMA ∷ u.front) b.0.1 t.parts (starts-inv COMMA a.0.1 c.0 ∙ ap (λ r. COMMA ∷ r) u.parts);
              spelled = comma t.spelled u.spelled;
            }) b.2
        | inr c ↦ took_as (record { front = t.front; parts = t.parts; spelled = last t.spelled }) c.1
      ]

pub ids-spelled : (tokens : List Symbol) (ns : List (List ℕ)) (rest : List Symbol) → read_list read_id tokens ≡ Some (ns, rest)
    → Took (Commas IsId) tokens ns rest
ids-spelled tokens ns rest e = commas-spelled IsId read_id id-spelled (length tokens) tokens ns rest e

pub maybe_ids-spelled : (tokens : List Symbol) (ns : List (List ℕ)) (rest : List Symbol) → read_maybe_ids tokens ≡ Some (ns, rest)
    → Took IsMaybeIds tokens ns rest
unfolding read_maybe_ids
maybe_ids-spelled tokens ns rest e =
    elim (pick-inv (starts CLOSE tokens) (Some ([], tokens)) (read_list read_id tokens) (Some (ns, rest)) e) [
      | inl c ↦ took_as (record { front = []; parts = refl; spelled = no_ids }) c.1
      | inr c ↦ let t = ids-spelled tokens ns rest c.1 in record { front = t.front; parts = t.parts; spelled = ids t.spelled }
    ]

column-made : {tokens : List Symbol} {n : List ℕ} {next rest : List Symbol} {kind : ColType × List Symbol} {c : Column} → Took IsId tokens n next
    → (s : Symbol) (k : ColType) → starts s next ≡ true → ((a : List Symbol) → IsId a n → IsColumn (a ++ s ∷ []) (record { name = n; kind = k }))
    → read_as k (rest_of next) ≡ Some kind → read_as (record { name = n; kind = kind.0 }) kind.1 ≡ read_as c rest → Took IsColumn tokens c rest
column-made {tokens} {n} {next} {rest} {kind} {c} i s k t make e f =
    let e2 = some_is (k, rest_of next) kind e in
    took_as (record {
      front = i.front ++ s ∷ [];
      parts = then_parts i.front (s ∷ []) (rest_of next) i.parts (starts-inv s next t);
      spelled = make i.front i.spelled;
    }) (ap (λ (p : ColType × List Symbol). Some (record { name = n; kind = p.0 }, p.1)) e2 ∙ f)

pub column-spelled : (tokens : List Symbol) (c : Column) (rest : List Symbol) → read_column tokens ≡ Some (c, rest) → Took IsColumn tokens c rest
unfolding read_column read_kind
column-spelled tokens c rest e =
    let a = bind-inv (read_id tokens) _ (c, rest) e in
    let i = id-spelled tokens a.0.0 a.0.1 a.1 in
    let b = bind-inv (read_kind a.0.1) _ (c, rest) a.2 in
    elim (pick-inv (starts INTEGER a.0.1) (Some (Integer, rest_of a.0.1))
    (cond (starts INT a.0.1) (Some (Integer, rest_of a.0.1)) (cond (starts TEXT a.0.1) (Some (Texts, rest_of a.0.1)) None)) (Some b.0) b.1) [
      | inl k ↦ column-made i INTEGER Integer k.0 (λ _ h. integer h) k.1 b.2
      | inr k ↦ elim (pick-inv (starts INT a.0.1) (Some (Integer, rest_of a.0.1))
          (cond (starts TEXT a.0.1) (Some (Texts, rest_of a.0.1)) None) (Some b.0) k.1) [
            | inl k ↦ column-made i INT Integer k.0 (λ _ h. int h) k.1 b.2
            | inr k ↦ elim (pick-inv (starts TEXT a.0.1) (Some (Texts, rest_of a.0.1)) None (Some b.0) k.1) [
              | inl k ↦ column-made i TEXT Texts k.0 (λ _ h. text h) k.1 b.2
              | inr k ↦ absurd (none_is b.0 k.1)
            ]
          ]
    ]

-- ---- literals, refs, sides

signed-spelled : (minus : Bool) (tokens : List Symbol) (l : Literal) (rest : List Symbol) → read_signed minus tokens ≡ Some (l, rest)
    → (d : List ℕ) × (tokens ≡ number d ∷ rest) × (l ≡ signed_literal minus d)
unfolding read_signed
signed-spelled minus tokens l rest e =
    let a = bind-inv (read_number tokens) _ (l, rest) e in
    let k = some_is (signed_literal minus a.0.0, a.0.1) (l, rest) a.2 in
    (a.0.0, number-inv tokens a.0.0 a.0.1 a.1 ∙ ap (λ (p : Literal × List Symbol). number a.0.0 ∷ p.1) k, sym (ap (λ (p : Literal × List Symbol). p.0) k))

literal-made : (tokens front : List Symbol) (l m : Literal) (rest : List Symbol) → tokens ≡ front ++ rest → IsLiteral front m → l ≡ m
    → Took IsLiteral tokens l rest
literal-made tokens front l m rest e h k = record { front = front; parts = e; spelled = subst (λ n. IsLiteral front n) (sym k) h }

pub literal-spelled : (tokens : List Symbol) (l : Literal) (rest : List Symbol) → read_literal tokens ≡ Some (l, rest) → Took IsLiteral tokens l rest
unfolding read_literal
literal-spelled tokens l rest e =
    elim (pick-inv (starts_quoted tokens) (read_quoted tokens >>= λ p. Some (Words p.0, p.1))
    (cond (starts MINUS tokens) (read_signed true (rest_of tokens))
    (cond (starts PLUS tokens) (read_signed false (rest_of tokens)) (read_signed false tokens))) (Some (l, rest)) e) [
      | inl q ↦
          let a = bind-inv (read_quoted tokens) _ (l, rest) q.1 in
          took_as (record { front = quoted a.0.0 ∷ []; parts = quoted-inv tokens a.0.0 a.0.1 a.1; spelled = between_quotes }) a.2
      | inr q ↦ elim (pick-inv (starts MINUS tokens) (read_signed true (rest_of tokens))
          (cond (starts PLUS tokens) (read_signed false (rest_of tokens)) (read_signed false tokens)) (Some (l, rest)) q.1) [
            | inl m ↦
                let s = signed-spelled true (rest_of tokens) l rest m.1 in
                literal-made tokens (MINUS ∷ number s.0 ∷ []) l (signed_literal true s.0) rest
                (starts-inv MINUS tokens m.0 ∙ ap (λ r. MINUS ∷ r) s.1) negative s.2
            | inr m ↦ elim (pick-inv (starts PLUS tokens) (read_signed false (rest_of tokens)) (read_signed false tokens) (Some (l, rest)) m.1) [
              | inl p ↦
                  let s = signed-spelled false (rest_of tokens) l rest p.1 in
                  literal-made tokens (PLUS ∷ number s.0 ∷ []) l (signed_literal false s.0) rest
                  (starts-inv PLUS tokens p.0 ∙ ap (λ r. PLUS ∷ r) s.1) positive s.2
              | inr p ↦
                  let s = signed-spelled false tokens l rest p.1 in
                  literal-made tokens (number s.0 ∷ []) l (signed_literal false s.0) rest s.1 plain s.2
            ]
          ]
    ]

pub tuple-spelled : (tokens : List Symbol) (ls : List Literal) (rest : List Symbol) → read_tuple tokens ≡ Some (ls, rest) → Took IsTuple tokens ls rest
unfolding read_tuple
tuple-spelled tokens ls rest e =
    let a = bind-inv (expect OPEN tokens) _ (ls, rest) e in
    let c = closed-inv (read_list read_literal a.0) ls rest a.2 in
    let t = commas-spelled IsLiteral read_literal literal-spelled (length a.0) a.0 ls (CLOSE ∷ rest) c in
    record {
      front = OPEN ∷ t.front ++ CLOSE ∷ [];
      parts = expect-inv OPEN tokens a.0 a.1 ∙ ap (λ r. OPEN ∷ r) (t.parts ∙ sym (append_assoc t.front (CLOSE ∷ []) rest));
      spelled = tuple t.spelled;
    }

pub ref-spelled : (tokens : List Symbol) (r : ColumnRef) (rest : List Symbol) → read_ref tokens ≡ Some (r, rest) → Took IsRef tokens r rest
unfolding read_ref
ref-spelled tokens r rest e =
    let a = bind-inv (read_id tokens) _ (r, rest) e in
    let i = id-spelled tokens a.0.0 a.0.1 a.1 in
    elim (pick-inv (starts DOT a.0.1) (read_id (rest_of a.0.1) >>= λ p. Some (record { table = Some a.0.0; column = p.0 }, p.1))
    (Some (record { table = None; column = a.0.0 }, a.0.1)) (Some (r, rest)) a.2) [
      | inl d ↦
          let b = bind-inv (read_id (rest_of a.0.1)) _ (r, rest) d.1 in
          let j = id-spelled (rest_of a.0.1) b.0.0 b.0.1 b.1 in
          took_as (record {
            front = i.front ++ DOT ∷ j.front;
            parts = then_parts i.front (DOT ∷ j.front) b.0.1 i.parts (starts-inv DOT a.0.1 d.0 ∙ ap (λ t. DOT ∷ t) j.parts);
            spelled = dotted i.spelled j.spelled;
          }) b.2
      | inr d ↦ took_as (record { front = i.front; parts = i.parts; spelled = bare i.spelled }) d.1
    ]

pub side-spelled : (tokens : List Symbol) (s : Side) (rest : List Symbol) → read_side tokens ≡ Some (s, rest) → Took IsSide tokens s rest
unfolding read_side
side-spelled tokens s rest e =
    elim (pick-inv (starts_id tokens) (read_ref tokens >>= λ p. Some (Placed p.0, p.1))
    (read_literal tokens >>= λ p. Some (Fixed p.0, p.1)) (Some (s, rest)) e) [
      | inl c ↦
          let a = bind-inv (read_ref tokens) _ (s, rest) c.1 in
          let t = ref-spelled tokens a.0.0 a.0.1 a.1 in
          took_as (record { front = t.front; parts = t.parts; spelled = placed t.spelled }) a.2
      | inr c ↦
          let a = bind-inv (read_literal tokens) _ (s, rest) c.1 in
          let t = literal-spelled tokens a.0.0 a.0.1 a.1 in
          took_as (record { front = t.front; parts = t.parts; spelled = written t.spelled }) a.2
    ]

-- ---- conditions

sign-made : (m wanted : List ℕ) (s : Sign) (t : Sign) → bytes_eq wanted m ≡ true → found t ≡ Some s → IsSign (mark wanted ∷ []) t → IsSign (mark m ∷ []) s
sign-made m wanted s t e f h = subst (λ u. IsSign (mark m ∷ []) u) (some_is t s f) (subst (λ u. IsSign (mark u ∷ []) t) ((bytes_eq-Decides wanted m).0 e) h)

sign_of-spelled : (m : List ℕ) (s : Sign) → sign_of m ≡ Some s → IsSign (mark m ∷ []) s
unfolding sign_of
sign_of-spelled m s e =
    elim (pick-inv (bytes_eq (codes "=") m) (Some Equal) _ (Some s) e) [
      | inl c ↦ sign-made m (codes "=") s Equal c.0 c.1 equal
      | inr c ↦ elim (pick-inv (bytes_eq (codes "<>") m) (Some Differs) _ (Some s) c.1) [
        | inl c ↦ sign-made m (codes "<>") s Differs c.0 c.1 differs
        | inr c ↦ elim (pick-inv (bytes_eq (codes "!=") m) (Some Differs) _ (Some s) c.1) [
          | inl c ↦ sign-made m (codes "!=") s Differs c.0 c.1 not_equal
          | inr c ↦ elim (pick-inv (bytes_eq (codes "<") m) (Some Less) _ (Some s) c.1) [
            | inl c ↦ sign-made m (codes "<") s Less c.0 c.1 less
            | inr c ↦ elim (pick-inv (bytes_eq (codes "<=") m) (Some AtMost) _ (Some s) c.1) [
              | inl c ↦ sign-made m (codes "<=") s AtMost c.0 c.1 at_most
              | inr c ↦ elim (pick-inv (bytes_eq (codes ">") m) (Some More) _ (Some s) c.1) [
                | inl c ↦ sign-made m (codes ">") s More c.0 c.1 more
                | inr c ↦ elim (pick-inv (bytes_eq (codes ">=") m) (Some AtLeast) None (Some s) c.1) [
                  | inl c ↦ sign-made m (codes ">=") s AtLeast c.0 c.1 at_least
                  | inr c ↦ absurd (none_is s c.1)
                ]
              ]
            ]
          ]
        ]
      ]
    ]

sign-spelled : (tokens : List Symbol) (s : Sign) (rest : List Symbol) → read_sign tokens ≡ Some (s, rest) → Took IsSign tokens s rest
unfolding read_sign
sign-spelled (mark m ∷ r) s rest e =
    let a = bind-inv (sign_of m) _ (s, rest) e in
    took_as (record { front = mark m ∷ []; parts = refl; spelled = sign_of-spelled m a.0 a.1 }) a.2
sign-spelled _ s rest e = absurd (none_is (s, rest) e)

-- one condition, without parentheses around it
abbrev pub IsOne : List Symbol → Cond → Type 0
IsOne a c = IsCondition a (c ∷ [])

comparison-spelled : (front tokens : List Symbol) (left : Side) (c : Cond) (rest : List Symbol) → IsSide front left
    → read_comparison left tokens ≡ Some (c, rest) → Took (λ a c. IsOne (front ++ a) c) tokens c rest
unfolding read_comparison
comparison-spelled front tokens left c rest l e =
    let a = bind-inv (read_sign tokens) _ (c, rest) e in
    let s = sign-spelled tokens a.0.0 a.0.1 a.1 in
    let b = bind-inv (read_side a.0.1) _ (c, rest) a.2 in
    let r = side-spelled a.0.1 b.0.0 b.0.1 b.1 in
    elim (pick-inv (is_literal left && is_literal b.0.0) None (Some (Compare left a.0.0 b.0.0, b.0.1)) (Some (c, rest)) b.2) [
      | inl n ↦ absurd (none_is (c, rest) n.1)
      | inr n ↦
          took_as (record {
            front = s.front ++ r.front;
            parts = then_parts s.front r.front b.0.1 s.parts r.parts;
            spelled = subst (λ u. IsOne u (Compare left a.0.0 b.0.0)) (append_assoc front s.front r.front) (comparison l s.spelled r.spelled n.0);
          }) n.1
    ]

range-spelled : (front tokens : List Symbol) (value : Side) (c : Cond) (rest : List Symbol) → IsSide front value → read_range value tokens ≡ Some (c, rest)
    → Took (λ a c. IsOne (front ++ BETWEEN ∷ a) c) tokens c rest
unfolding read_range
range-spelled front tokens (Placed value) c rest (placed v) e =
    let a = bind-inv (read_side tokens) _ (c, rest) e in
    let l = side-spelled tokens a.0.0 a.0.1 a.1 in
    let n = bind-inv (expect AND a.0.1) _ (c, rest) a.2 in
    let b = bind-inv (read_side n.0) _ (c, rest) n.2 in
    let h = side-spelled n.0 b.0.0 b.0.1 b.1 in
    took_as (record {
      front = l.front ++ AND ∷ h.front;
      parts = then_parts l.front (AND ∷ h.front) b.0.1 l.parts (expect-inv AND a.0.1 n.0 n.1 ∙ ap (λ t. AND ∷ t) h.parts);
      spelled = subst (λ u. IsOne u (Between value a.0.0 b.0.0)) (append_assoc front (BETWEEN ∷ l.front) (AND ∷ h.front)) (range v l.spelled h.spelled);
    }) b.2
range-spelled front tokens (Fixed value) c rest v e = absurd (none_is (c, rest) e)

simple-spelled : (tokens : List Symbol) (c : Cond) (rest : List Symbol) → read_simple tokens ≡ Some (c, rest) → Took IsOne tokens c rest
unfolding read_simple
simple-spelled tokens c rest e =
    let a = bind-inv (read_side tokens) _ (c, rest) e in
    let l = side-spelled tokens a.0.0 a.0.1 a.1 in
    elim (pick-inv (starts BETWEEN a.0.1) (read_range a.0.0 (rest_of a.0.1)) (read_comparison a.0.0 a.0.1) (Some (c, rest)) a.2) [
      | inl k ↦
          let t = range-spelled l.front (rest_of a.0.1) a.0.0 c rest l.spelled k.1 in
          record {
            front = l.front ++ BETWEEN ∷ t.front;
            parts = then_parts l.front (BETWEEN ∷ t.front) rest l.parts
                (starts-inv BETWEEN a.0.1 k.0 ∙ ap (λ r. BETWEEN ∷ r) t.parts);
            spelled = t.spelled;
          }
      | inr k ↦
          let t = comparison-spelled l.front a.0.1 a.0.0 c rest l.spelled k.1 in
          record { front = l.front ++ t.front; parts = then_parts l.front t.front rest l.parts t.parts; spelled = t.spelled }
    ]

-- a reader of conditions reads what is spelled
abbrev Reads : (List Symbol → Option (List Cond × List Symbol)) → Type 0
Reads read = (tokens : List Symbol) (cs : List Cond) (rest : List Symbol) → read tokens ≡ Some (cs, rest) → Took IsConditions tokens cs rest

condition-spelled : (between : List Symbol → Option (List Cond × List Symbol)) → Reads between → (tokens : List Symbol) (cs : List Cond) (rest : List Symbol)
    → read_condition between tokens ≡ Some (cs, rest) → Took IsCondition tokens cs rest
unfolding read_condition
condition-spelled between reads tokens cs rest e =
    elim (pick-inv (starts OPEN tokens) (then_close (between (rest_of tokens))) (read_simple tokens >>= λ p. Some (p.0 ∷ [], p.1)) (Some (cs, rest)) e) [
      | inl o ↦
          let c = closed-inv (between (rest_of tokens)) cs rest o.1 in
          let t = reads (rest_of tokens) cs (CLOSE ∷ rest) c in
          record {
            front = OPEN ∷ t.front ++ CLOSE ∷ [];
            parts = starts-inv OPEN tokens o.0 ∙ ap (λ r. OPEN ∷ r) (t.parts ∙ sym (append_assoc t.front (CLOSE ∷ []) rest));
            spelled = parentheses t.spelled;
          }
      | inr o ↦
          let a = bind-inv (read_simple tokens) _ (cs, rest) o.1 in
          let t = simple-spelled tokens a.0.0 a.0.1 a.1 in
          took_as (record { front = t.front; parts = t.parts; spelled = t.spelled }) a.2
    ]

pub conditions-spelled : (n : ℕ) (tokens : List Symbol) (cs : List Cond) (rest : List Symbol) → read_conditions n tokens ≡ Some (cs, rest)
    → Took IsConditions tokens cs rest
unfolding read_conditions
conditions-spelled zero tokens cs rest e = absurd (none_is (cs, rest) e)
conditions-spelled (suc n) tokens cs rest e =
    let a = bind-inv (read_condition (read_conditions n) tokens) _ (cs, rest) e in
    let t = condition-spelled (read_conditions n) (conditions-spelled n) tokens a.0.0 a.0.1 a.1 in
    elim (pick-inv (starts AND a.0.1) (read_conditions n (rest_of a.0.1) >>= λ q. Some (a.0.0 ++ q.0, q.1)) (Some a.0) (Some (cs, rest)) a.2) [
      | inl k ↦
          let b = bind-inv (read_conditions n (rest_of a.0.1)) _ (cs, rest) k.1 in
          let u = conditions-spelled n (rest_of a.0.1) b.0.0 b.0.1 b.1 in
          took_as (record {
            front = t.front ++ AND ∷ u.front;
            parts = then_parts t.front (AND ∷ u.front) b.0.1 t.parts (starts-inv AND a.0.1 k.0 ∙ ap (λ r. AND ∷ r) u.parts);
            spelled = conjunction t.spelled u.spelled;
          }) b.2
      | inr k ↦ took_as (record { front = t.front; parts = t.parts; spelled = last_condition t.spelled }) k.1
    ]
