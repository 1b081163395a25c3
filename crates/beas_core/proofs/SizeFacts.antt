-- More valuations at the start never lessen what is announced.
use Rattle.std.proofs.Common.{◌*◌, ◌≤◌, ℕ, Bool, true, false, cond, List, [], ◌∷◌, arith}
use Rattle.std.proofs.Math.Nat.{mul-le-mul_left}
use Rattle.beas_core.specs.declared.schema.Access.{Access}
use Rattle.beas_core.specs.declared.plan.DStep.{DStep}
use Rattle.beas_core.specs.declared.plan.Derivation.{Derivation}
use Rattle.beas_core.specs.Derivations.{access_in}
use Rattle.beas_core.specs.Trees.{QueryTree, Single, Either, Minus}
use Rattle.beas_core.specs.Numbers.{size_after, announced_from, last_size}
use Rattle.beas_core.specs.Guiding.{after}
use Rattle.beas_core.specs.Queries.{is_guided, plan_of, start_size, size_of, announced_in}

times : (n b c : ℕ) → b ≤ c → b * n ≤ c * n
times n b c h = let p = mul-le-mul_left n h in omega (arith, p)

pub size_after_more : (accesses : List Access) (s : DStep) (b c : ℕ) → b ≤ c → size_after accesses b s ≤ size_after accesses c s
size_after_more accesses s b c h = by s.adds
  where
    by : (adds : Bool) → cond adds (b * (access_in accesses s.access).bound) b ≤ cond adds (c * (access_in accesses s.access).bound) c
    by true = times (access_in accesses s.access).bound b c h
    by false = h

pub last_size_more : (accesses : List Access) (steps : List DStep) (b c : ℕ) → b ≤ c → last_size accesses b steps ≤ last_size accesses c steps
last_size_more accesses [] b c h = h
last_size_more accesses (s ∷ steps) b c h =
    last_size_more accesses steps (size_after accesses b s) (size_after accesses c s) (size_after_more accesses s b c h)

pub announced_from_more : (accesses : List Access) (steps : List DStep) (b c : ℕ) → b ≤ c → announced_from accesses b steps ≤ announced_from accesses c steps
announced_from_more accesses [] b c h = omega arith
announced_from_more accesses (s ∷ steps) b c h =
    let rest = announced_from_more accesses steps (size_after accesses b s) (size_after accesses c s) (size_after_more accesses s b c h) in
    let here = times (access_in accesses s.access).bound b c h in
    omega (arith, rest, here)

start_more : (flag : Bool) (b c : ℕ) → b ≤ c → cond flag b 1 ≤ cond flag c 1
start_more true b c h = h
start_more false b c h = omega arith

module _ (accesses : List Access) (guided : List Bool) (plans : List Derivation) where
  pub size_more : (n b c : ℕ) (t : QueryTree) → b ≤ c → size_of accesses guided plans n b t ≤ size_of accesses guided plans n c t
  size_more n b c (Single block) h = last_size_more accesses (plan_of plans n).steps (start_size guided n b) (start_size guided n c)
      (start_more (is_guided guided n) b c h)
  size_more n b c (Either l r) h =
      let left = size_more n b c l h in
      let right = size_more (after n l) b c r h in
      omega (arith, left, right)
  size_more n b c (Minus l r) h = size_more n b c l h

  pub announced_more : (n b c : ℕ) (t : QueryTree) → b ≤ c → announced_in accesses guided plans n b t ≤ announced_in accesses guided plans n c t
  announced_more n b c (Single block) h = announced_from_more accesses (plan_of plans n).steps (start_size guided n b) (start_size guided n c)
      (start_more (is_guided guided n) b c h)
  announced_more n b c (Either l r) h =
      let left = announced_more n b c l h in
      let right = announced_more (after n l) b c r h in
      omega (arith, left, right)
  announced_more n b c (Minus l r) h =
      let left = announced_more n b c l h in
      let right = announced_more (after n l) (size_of accesses guided plans n b l) (size_of accesses guided plans n c l) r (size_more n b c l h) in
      omega (arith, left, right)
