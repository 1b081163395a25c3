-- What a single load is tied to.
use Rattle.std.proofs.Common.{◌≡◌, ◌≢◌, ◌+◌, ◌*◌, ◌≤◌, ◌&&◌, ℕ, Bool, true, false, cond, zero, suc, List, [], ◌∷◌, All, refl, sym, ◌∙◌, subst, arith}
use Rattle.std.proofs.Math.Bool.{and-true, and-false}
use Rattle.std.proofs.lemmas.Slice.Eq.{bytes_eq-Decides}
use Rattle.std.specs.Str.{bytes_eq}
use Rattle.outside.specs.Counts.{RoseBy, Rose}
use Rattle.outside.specs.Seen.{IsLater, Seen}
use Rattle.session.specs.declared.loading.LoadOutcome.{LoadOutcome}
use Rattle.session.specs.Ties.{AreTied, GaveContent, LoadFits, LoadIsShort, is_failed, is_too_long}
use Rattle.session.specs.Turns.{FileLoad}

-- a count that didn't fall rose by nothing
rose_by_none : (n m : ℕ) → n ≤ m → RoseBy 0 n m
rose_by_none n m l = omega (arith, l)

all_one : {X : Type 0} (P : X → Type 0) (x : X) → P x → All P (x ∷ [])
all_one P x p zero d below = p
all_one P x p (suc i) d below = absurd (omega (arith, below))

pub tied_none : (limit : ℕ) (before after : Seen) → IsLater before after → AreTied limit [] before after
tied_none limit before after later = record {
  contents = λ h i d l. absurd (omega (arith, l));
  short = λ i d l. absurd (omega (arith, l));
  failed = λ name. rose_by_none (before.faults name) (after.faults name) (later.faults name);
  too_long = λ h. omega (arith, later.taken);
}

-- where a test is passed, a count rose
rose_if : (b : Bool) (n m : ℕ) → n ≤ m → ((b ≡ true) → Rose n m) → RoseBy (0 + cond b 1 0) n m
rose_if true n m l rose = rose refl
rose_if false n m l rose = rose_by_none n m l

never : (b : Bool) (n m : ℕ) → (b && false) ≡ true → Rose n m
never b n m e = absurd (let bad : false ≡ true = sym (and-false b) ∙ e in cc)

faults_rose : (name other : List ℕ) (o : LoadOutcome) (before after : Seen) → IsLater before after
    → ((is_failed o ≡ true) → Rose (before.faults name) (after.faults name))
    → RoseBy (0 + cond (bytes_eq name other && is_failed o) 1 0) (before.faults other) (after.faults other)
faults_rose name other o before after later rose =
    rose_if (bytes_eq name other && is_failed o) (before.faults other) (after.faults other) (later.faults other) (λ e. by (is_failed o) e rose)
  where
    by : (b : Bool) → (bytes_eq name other && b) ≡ true → ((b ≡ true) → Rose (before.faults name) (after.faults name))
        → Rose (before.faults other) (after.faults other)
    by true e f =
        let P : List ℕ → Type 0 = λ n. Rose (before.faults n) (after.faults n) in
        subst P ((bytes_eq-Decides name other).0 (sym (and-true (bytes_eq name other)) ∙ e)) (f refl)
    by false e f = never (bytes_eq name other) (before.faults other) (after.faults other) e

bytes_rose : (limit : ℕ) (b : Bool) (n m : ℕ) → n ≤ m → ((b ≡ true) → RoseBy (limit + 1) n m) → RoseBy ((limit + 1) * (0 + cond b 1 0)) n m
bytes_rose limit true n m l rose = omega (arith, rose refl)
bytes_rose limit false n m l rose = omega (arith, l)

pub tied_one : (limit : ℕ) (name : List ℕ) (o : LoadOutcome) (before after : Seen) → IsLater before after
    → ((before.told ≡ true) → LoadFits limit (before.content name) o) → LoadIsShort limit o
    → ((is_failed o ≡ true) → Rose (before.faults name) (after.faults name))
    → ((is_too_long o ≡ true) → (before.told ≢ true) → RoseBy (limit + 1) before.taken after.taken)
    → AreTied limit (record { name = name; outcome = o } ∷ []) before after
tied_one limit name o before after later fits short failed taken = record {
  contents = λ h. all_one (GaveContent limit before) (record { name = name; outcome = o }) (fits h);
  short = all_one (λ (l : FileLoad). LoadIsShort limit l.outcome) (record { name = name; outcome = o }) short;
  failed = λ other. faults_rose name other o before after later failed;
  too_long = λ h. bytes_rose limit (is_too_long o) before.taken after.taken later.taken (λ e. taken e h);
}
