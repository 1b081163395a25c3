-- The ties of loads, one after another, and seen from earlier or later.
use Rattle.std.proofs.Common.{◌≡◌, ◌≤◌, ◌+◌, ◌*◌, ◌++◌, ◌&&◌, ◌∙◌, sym, subst, refl, ℕ, zero, suc, List, [], Option, cond, arith}
use Rattle.std.specs.Prelude.{All, bytes_eq}
use Rattle.std.proofs.lemmas.List.Elements.{All-append, All-nil}
use Rattle.std.proofs.lemmas.List.Sums.{sum_by-append}
use Rattle.std.proofs.Math.Nat.{mul-suc, add-suc}
use Rattle.outside.specs.Counts.{RoseBy}
use Rattle.session.specs.Ties.{AreTied, GaveContent, LoadFits, LoadIsShort, failures, bytes_past, is_failed, is_too_long}
use Rattle.outside.specs.Seen.{Seen, IsLater, Sent, IsLaterSink}
use Rattle.session.specs.Turns.{FileLoad}

-- ---- counts that rose

rose_twice : (m n k a b c : ℕ) → k ≡ m + n → RoseBy m a b → RoseBy n b c → RoseBy k a c
rose_twice m n k a b c e first second = omega arith

rose_later : (n a b c : ℕ) → RoseBy n a b → b ≤ c → RoseBy n a c
rose_later n a b c rose le = omega arith

mul_over : (k m n : ℕ) → k * (m + n) ≡ k * m + k * n
mul_over k m zero = omega arith
mul_over k m (suc n) = let h = mul_over k m n in rw (add-suc, mul-suc k (m + n), mul-suc k n) (omega arith)

failures-append : (name : List ℕ) (first second : List FileLoad) → failures name (first ++ second) ≡ failures name first + failures name second
failures-append name first second = sum_by-append (λ r. cond (bytes_eq r.name name && is_failed r.outcome) 1 0) first second

past-append : (limit : ℕ) (first second : List FileLoad) → bytes_past limit (first ++ second) ≡ bytes_past limit first + bytes_past limit second
past-append limit first second = rw (sum_by-append (λ r. cond (is_too_long r.outcome) 1 0) first second) (mul_over (limit + 1) _ _)

-- ---- moments

pub same_later : (a : Seen) → IsLater a a
same_later a = record { told = refl; content = refl; faults = λ name. omega arith; taken = omega arith }

pub sink_later : (a : Sent) → IsLaterSink a a
sink_later a = record { told = refl; faults = omega arith }

pub sink_later_twice : (a b c : Sent) → IsLaterSink a b → IsLaterSink b c → IsLaterSink a c
sink_later_twice a b c first second = record {
  told = second.told ∙ first.told;
  faults = let f = first.faults in let s = second.faults in omega arith;
}

pub later_twice : (a b c : Seen) → IsLater a b → IsLater b c → IsLater a c
later_twice a b c first second = record {
  told = second.told ∙ first.told;
  content = second.content ∙ first.content;
  faults = λ name. let f = first.faults name in let s = second.faults name in omega arith;
  taken = let f = first.taken in let s = second.taken in omega arith;
}

contents_from : (limit : ℕ) (a b : Seen) (reads : List FileLoad) → b.content ≡ a.content → All (GaveContent limit b) reads → All (GaveContent limit a) reads
contents_from limit a b reads e h =
    let P : (List ℕ → Option (List ℕ)) → Type 0 = λ content. All (λ r. LoadFits limit (content r.name) r.outcome) reads in
    subst P e h

pub tied_none : (limit : ℕ) (a b : Seen) → IsLater a b → AreTied limit [] a b
tied_none limit a b later = record {
  contents = λ _. All-nil (GaveContent limit a);
  short = All-nil (λ r. LoadIsShort limit r.outcome);
  failed = λ name. let f = later.faults name in omega arith;
  too_long = λ _. let t = later.taken in omega arith;
}

pub tied_twice : (limit : ℕ) (first second : List FileLoad) (a b c : Seen) → IsLater a b → AreTied limit first a b → AreTied limit second b c
    → AreTied limit (first ++ second) a c
tied_twice limit first second a b c later one two = record {
  contents = λ told. All-append (GaveContent limit a) first second (one.contents told)
      (contents_from limit a b second later.content (two.contents (later.told ∙ told)));
  short = All-append (λ r. LoadIsShort limit r.outcome) first second one.short two.short;
  failed = λ name. rose_twice _ _ _ _ _ _ (failures-append name first second) (one.failed name) (two.failed name);
  too_long = λ untold. rose_twice _ _ _ _ _ _ (past-append limit first second) (one.too_long untold) (two.too_long (λ told. untold (sym later.told ∙ told)));
}

pub tied_later : (limit : ℕ) (reads : List FileLoad) (a b c : Seen) → AreTied limit reads a b → IsLater b c → AreTied limit reads a c
tied_later limit reads a b c tied later = record {
  contents = tied.contents;
  short = tied.short;
  failed = λ name. rose_later _ _ _ _ (tied.failed name) (later.faults name);
  too_long = λ untold. rose_later _ _ _ _ (tied.too_long untold) later.taken;
}
