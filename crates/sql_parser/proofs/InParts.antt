-- Conditions and constraints, as they are read in parts.
use Rattle.std.proofs.Common.{◌≡◌, Bool, true, false, List, [], ◌∷◌, ◌++◌, Option, Some, None, Result, Ok, Err, refl, sym, ◌∙◌}
use Rattle.std.specs.Prelude.{◌&&◌, if◌then◌else◌, ℕ}
use Rattle.sql_text.specs.declared.tree.ColumnRef.{ColumnRef}
use Rattle.beas_core.specs.declared.query.Sign.{Sign}
use Rattle.sql_text.specs.declared.tree.Cond.{Cond}
use Rattle.sql_text.specs.declared.tree.Cond.TheVariants.{Compare, Between}
use Rattle.sql_text.specs.declared.tree.Side.{Side}
use Rattle.sql_text.specs.declared.tree.Side.TheVariants.{Column as Placed}
use Rattle.sql_text.specs.declared.tree.Statement.{Statement}
use Rattle.sql_text.specs.declared.tree.Statement.TheVariants.{CreateAccess}
use Rattle.sql_text.specs.Grammar.{is_literal}
use Rattle.sql_text.specs.Symbols.{Symbol}
use Rattle.sql_text.specs.Words.{AND, ON, LIMIT}
use Rattle.token_reader.specs.declared.reader.ReadError.{ReadError}
use Rattle.token_reader.specs.declared.reader.ReadError.TheVariants as errors
use Rattle.token_reader.specs.Reading.{◌>>=◌, GivesWithRest, expect, read_id, read_number, read_sign}
use Rattle.sql_parser.specs.Alone.{alone}
use Rattle.sql_parser.specs.Reading.{Adds, after, read_side, read_ends, read_range, read_sign_and_side, read_comparison, read_key, read_fetched, read_access_names, read_key_and_fetched, read_limit, read_access_shape, read_create_access}

bind-bind : {A B C : Type 0} (m : Option A) (f : A → Option B) (g : B → Option C) → ((m >>= f) >>= g) ≡ (m >>= λ a. f a >>= g)
bind-bind (Some a) f g = refl
bind-bind None f g = refl

bind-same : {A B : Type 0} (m : Option A) (f g : A → Option B) → ((a : A) → f a ≡ g a) → (m >>= f) ≡ (m >>= g)
bind-same (Some a) f g same = same a
bind-same None f g same = refl

one : {B C D : Type 0} (m : Option B) (g : B → C) (h : C → Option D) → ((m >>= λ b. Some (g b)) >>= h) ≡ (m >>= λ b. h (g b))
one (Some b) g h = refl
one None g h = refl

two : {A B C D : Type 0} (m : Option A) (f : A → Option B) (g : A → B → C) (h : C → Option D)
    → ((m >>= λ a. f a >>= λ b. Some (g a b)) >>= h) ≡ (m >>= λ a. f a >>= λ b. h (g a b))
two (Some a) f g h = one (f a) (g a) h
two None f g h = refl

three : {A R B C D : Type 0} (m : Option A) (f : A → Option R) (r : R → Option B) (g : A → B → C) (h : C → Option D)
    → ((m >>= λ a. f a >>= λ x. r x >>= λ b. Some (g a b)) >>= h) ≡ (m >>= λ a. f a >>= λ x. r x >>= λ b. h (g a b))
three (Some a) f r g h = two (f a) r (λ x b. g a b) h
three None f r g h = refl

range-in-parts : (value : ColumnRef) (tokens : List Symbol) → read_range (Placed value) tokens
    ≡ (read_ends tokens >>= λ p. Some (Between value p.0.0 p.0.1, p.1))
unfolding read_range read_ends
range-in-parts value tokens = sym (three (read_side tokens) (λ p. expect AND p.1) read_side (λ p q. ((p.0, q.0), q.1))
    (λ p. Some (Between value p.0.0 p.0.1, p.1)))

comparison-in-parts : (left : Side) (tokens : List Symbol) → read_comparison left tokens
    ≡ (read_sign_and_side tokens >>= λ p. if is_literal left && is_literal p.0.1 then None else Some (Compare left p.0.0 p.0.1, p.1))
unfolding read_comparison read_sign_and_side
comparison-in-parts left tokens = sym (two (read_sign tokens) (λ p. read_side p.1) (λ p q. ((p.0, q.0), q.1))
    (λ p. if is_literal left && is_literal p.0.1 then None else Some (Compare left p.0.0 p.0.1, p.1)))

pub range-fails : (value : ColumnRef) (front : List Cond) (tokens : List Symbol) → read_ends tokens ≡ None
    → after front (alone (read_range (Placed value) tokens)) ≡ None
unfolding after
range-fails value front tokens e = rw (range-in-parts value tokens, e) refl

pub range-found : (value : ColumnRef) (front : List Cond) (tokens rest : List Symbol) (low high : Side) → read_ends tokens ≡ Some ((low, high), rest)
    → after front (alone (read_range (Placed value) tokens)) ≡ Some (front ++ Between value low high ∷ [], rest)
unfolding after
range-found value front tokens rest low high e = rw (range-in-parts value tokens, e) refl

pub comparison-fails : (left : Side) (front : List Cond) (tokens : List Symbol) → read_sign_and_side tokens ≡ None
    → after front (alone (read_comparison left tokens)) ≡ None
unfolding after
comparison-fails left front tokens e = rw (comparison-in-parts left tokens, e) refl

-- a comparison that is made unless a test fails
abbrev pub made : Bool → Cond → Result Cond ReadError
made b c = if b then Err errors.Syntax else Ok c

refused : (e : ReadError) (b : Bool) (c : Cond) (front : List Cond) (rest : List Symbol) → Err e ≡ made b c
    → Adds {X = Unit {0}} (Err e) front rest (after front (alone (if b then None else Some (c, rest))))
unfolding after
refused errors.Syntax true c front rest h = refl
refused errors.Syntax false c front rest h = absurd cc
refused errors.NoMemory b c front rest h = tt

accepted : (d : Cond) (b : Bool) (c : Cond) (front : List Cond) (rest : List Symbol) → Ok d ≡ made b c
    → after front (alone (if b then None else Some (c, rest))) ≡ Some (front ++ d ∷ [], rest)
unfolding after
accepted d true c front rest h = absurd cc
accepted d false c front rest h =
    let same : d ≡ c = cc in
    rw same refl

module _ (left right : Side) (sign : Sign) (front : List Cond) (tokens rest : List Symbol) (e : read_sign_and_side tokens ≡ Some ((sign, right), rest)) where
  pub comparison-refused : (why : ReadError) → Err why ≡ made (is_literal left && is_literal right) (Compare left sign right)
      → Adds {X = Unit {0}} (Err why) front rest (after front (alone (read_comparison left tokens)))
  comparison-refused why h = rw (comparison-in-parts left tokens, e) (refused why (is_literal left && is_literal right) (Compare left sign right) front rest h)

  pub comparison-found : (made_one : Cond) → Ok made_one ≡ made (is_literal left && is_literal right) (Compare left sign right)
      → after front (alone (read_comparison left tokens)) ≡ Some (front ++ made_one ∷ [], rest)
  comparison-found made_one h =
      rw (comparison-in-parts left tokens, e) (accepted made_one (is_literal left && is_literal right) (Compare left sign right) front rest h)

-- a part that fails, where the whole fails with it
pub part_fails : {X Y : Type 0} (e : ReadError) (new : Y) (rest : List Symbol) (part : Option (X × List Symbol)) (whole : Option (Y × List Symbol))
    → GivesWithRest {X = X} (Err e) rest part → (part ≡ None → whole ≡ None) → Adds {X = Unit {0}} (Err e) new rest whole
part_fails errors.Syntax new rest part whole h f = f h
part_fails errors.NoMemory new rest part whole h f = tt

-- ---- constraints

abbrev pub created : (List ℕ × List ℕ) → ((List (List ℕ) × List (List ℕ)) × List ℕ) → Statement
created names shape =
    CreateAccess (record { name = names.0; table = names.1; key = shape.0.0; fetched = shape.0.1; limit = shape.1 })

abbrev access : (List ℕ × List ℕ) → ((List (List ℕ) × List (List ℕ)) × List ℕ) → List Symbol → Option (Statement × List Symbol)
access names shape rest = Some (created names shape, rest)

shape-in-parts : (names : List ℕ × List ℕ) (tokens : List Symbol)
    → (read_key tokens >>= λ k. read_fetched k.1 >>= λ f. expect LIMIT f.1 >>= λ r. read_number r >>= λ l. access names ((k.0, f.0), l.0) l.1)
    ≡ (read_access_shape tokens >>= λ q. access names q.0 q.1)
unfolding read_access_shape read_key_and_fetched read_limit
shape-in-parts names tokens = sym (
    two (read_key_and_fetched tokens) (λ c. read_limit c.1) (λ c l. ((c.0, l.0), l.1)) (λ q. access names q.0 q.1)
    ∙ two (read_key tokens) (λ k. read_fetched k.1) (λ k f. ((k.0, f.0), f.1)) (λ c. read_limit c.1 >>= λ l. access names (c.0, l.0) l.1)
    ∙ bind-same (read_key tokens) (λ k. read_fetched k.1 >>= λ f. read_limit f.1 >>= λ l. access names ((k.0, f.0), l.0) l.1)
    (λ k. read_fetched k.1 >>= λ f. expect LIMIT f.1 >>= λ r. read_number r >>= λ l. access names ((k.0, f.0), l.0) l.1)
    (λ k. bind-same (read_fetched k.1) (λ f. read_limit f.1 >>= λ l. access names ((k.0, f.0), l.0) l.1)
    (λ f. expect LIMIT f.1 >>= λ r. read_number r >>= λ l. access names ((k.0, f.0), l.0) l.1)
    (λ f. bind-bind (expect LIMIT f.1) read_number (λ l. access names ((k.0, f.0), l.0) l.1))))

create_access-in-parts : (tokens : List Symbol) → read_create_access tokens
    ≡ (read_access_names tokens >>= λ p. read_access_shape p.1 >>= λ q. access p.0 q.0 q.1)
unfolding read_create_access read_access_names
create_access-in-parts tokens =
    sym (three (read_id tokens) (λ p. expect ON p.1) read_id (λ p q. ((p.0, q.0), q.1))
    (λ p. read_key p.1 >>= λ k. read_fetched k.1 >>= λ f. expect LIMIT f.1 >>= λ r. read_number r >>= λ l. access p.0 ((k.0, f.0), l.0) l.1))
    ∙ bind-same (read_access_names tokens)
    (λ p. read_key p.1 >>= λ k. read_fetched k.1 >>= λ f. expect LIMIT f.1 >>= λ r. read_number r >>= λ l. access p.0 ((k.0, f.0), l.0) l.1)
    (λ p. read_access_shape p.1 >>= λ q. access p.0 q.0 q.1)
    (λ p. shape-in-parts p.0 p.1)

pub access-without_names : (tokens : List Symbol) → read_access_names tokens ≡ None → read_create_access tokens ≡ None
access-without_names tokens e = rw (create_access-in-parts tokens, e) refl

module _ (tokens rest : List Symbol) (names : List ℕ × List ℕ) (e : read_access_names tokens ≡ Some (names, rest)) where
  pub access-without_shape : read_access_shape rest ≡ None → read_create_access tokens ≡ None
  access-without_shape f = rw (create_access-in-parts tokens, e, f) refl

  pub access-found : (shape : (List (List ℕ) × List (List ℕ)) × List ℕ) (end : List Symbol) → read_access_shape rest ≡ Some (shape, end)
      → read_create_access tokens ≡ Some (created names shape, end)
  access-found shape end f = rw (create_access-in-parts tokens, e, f) refl
