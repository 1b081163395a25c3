-- Tables of what rules give, entry by entry.
use Rattle.std.proofs.Common.{◌≡◌, ◌==◌, ◌<◌, ◌≤◌, ◌+◌, ◌-◌, ◌*◌, ◌/◌, ◌%◌, ◌^◌, bit_and, bit_or, bit_xor, ℕ, zero, suc, Bool, true, false, cond, List, [], ◌∷◌, length, fold, replicate, inl, inr, refl, ap, sym, ◌∙◌, subst, arith, length-set, get_or-set_same, get_or-set_other}
use Rattle.std.specs.Int.{bit_at}
use Rattle.std.specs.List.{All, Contains, slice_set}
use Rattle.std.proofs.lemmas.Bool.{eqb-true}
use Rattle.std.proofs.lemmas.Nat.{le_or_l, or_lt, pow_below}
use Rattle.std.proofs.lemmas.Nat.Bits.{shr_and_one}
use Rattle.std.proofs.lemmas.List.Elements.{All-from_recursion}
use Rattle.beas_core.proofs.Sets.{Has, Has-from_contains, Contains-from_has, all_from}
use Rattle.beas_core.proofs.MemberTests.{which}
use Rattle.beas_core.proofs.UseFacts.{same_number}
use Rattle.specialise.specs.declared.rules.Rule.{Rule}
use Rattle.specialise.specs.Trials.{within, entry_at, reached, with_rule, HoldsNoMore, IsClosedTable, IsClosedUnder, IsFilled, IsLeastUnder, IsTable, United}
use Rattle.specialise.proofs.Masks.{at_has, below_full, full_below, missing, none_within, or_within, pow_few, still_within, within_chain, within_itself, within_left, within_right, without, without_less, without_within}

never : (b : Bool) → b ≡ true → b ≡ false → ⊥
never b p q = cc

-- ---- an entry that grows

module _ (table : List ℕ) (i v : ℕ) (l : i < length table) (grows : within (entry_at table i) v ≡ true) where
  abbrev put : List ℕ
  put = slice_set table i v

  here : (k : ℕ) → k ≡ i → entry_at put k ≡ v
  here k e = subst (λ n. entry_at put n ≡ v) (sym e) (get_or-set_same table i v 0 l)

  there : (k : ℕ) → (k ≡ i → ⊥) → entry_at put k ≡ entry_at table k
  there k ne = get_or-set_other table i k v 0 ne

  pub put_more : (k : ℕ) → within (entry_at table k) (entry_at put k) ≡ true
  put_more k = elim (which (k == i)) [
    | inl t ↦ (
        let e = eqb-true k i t in
        subst (λ n. within (entry_at table k) n ≡ true) (sym (here k e)) (subst (λ n. within (entry_at table n) v ≡ true) (sym e) grows))
    | inr f ↦ subst (λ n. within (entry_at table k) n ≡ true) (sym (there k (λ e. never (k == i) (same_number k i e) f))) (within_itself (entry_at table k))
  ]

  pub put_no_more : (rules : List Rule) → HoldsNoMore rules table
      → ((other : ℕ) → within i other ≡ true → IsClosedUnder rules other → within v other ≡ true) → HoldsNoMore rules put
  put_no_more rules no_more own k other below w closed = elim (which (k == i)) [
    | inl t ↦ (
        let e = eqb-true k i t in
        subst (λ n. within n other ≡ true) (sym (here k e)) (own other (subst (λ n. within n other ≡ true) e w) closed))
    | inr f ↦ subst (λ n. within n other ≡ true) (sym (there k (λ e. never (k == i) (same_number k i e) f)))
        (no_more k other (subst (λ n. k < n) (length-set table i v) below) w closed)
  ]

-- ---- rules that are added to their keys' entries

pub length-filled : (rs : List Rule) (table : List ℕ) → length (fold with_rule table rs) ≡ length table
length-filled [] table = refl
length-filled (r ∷ rs) table = length-filled rs (with_rule table r) ∙ length-set table r.key (bit_or (entry_at table r.key) r.gives)

abbrev AreBelow : List Rule → ℕ → Type 0
AreBelow rs n = (r : Rule) → Has rs r → r.key < n

rule_grows : (table : List ℕ) (r : Rule) → within (entry_at table r.key) (bit_or (entry_at table r.key) r.gives) ≡ true
rule_grows table r = within_left (entry_at table r.key) r.gives (entry_at table r.key) (within_itself (entry_at table r.key))

filled_more : (rs : List Rule) (table : List ℕ) → AreBelow rs (length table) → (k : ℕ) → within (entry_at table k) (entry_at (fold with_rule table rs) k) ≡ true
filled_more [] table below k = within_itself (entry_at table k)
filled_more (r ∷ rs) table below k =
    let next = with_rule table r in
    let same = length-set table r.key (bit_or (entry_at table r.key) r.gives) in
    within_chain (entry_at table k) (entry_at next k) (entry_at (fold with_rule next rs) k)
    (put_more table r.key (bit_or (entry_at table r.key) r.gives) (below r (inl refl)) (rule_grows table r) k)
    (filled_more rs next (λ x m. subst (λ n. x.key < n) (sym same) (below x (inr m))) k)

filled_own : (rs : List Rule) (table : List ℕ) → AreBelow rs (length table) → (r : Rule) → Has rs r
    → within r.gives (entry_at (fold with_rule table rs) r.key) ≡ true
filled_own [] table below r h = absurd h
filled_own (x ∷ rs) table below r (inr m) =
    let same = length-set table x.key (bit_or (entry_at table x.key) x.gives) in
    filled_own rs (with_rule table x) (λ y k. subst (λ n. y.key < n) (sym same) (below y (inr k))) r m
filled_own (x ∷ rs) table below r (inl e) =
    let next = with_rule table x in
    let v = bit_or (entry_at table x.key) x.gives in
    let same = length-set table x.key v in
    let put : within x.gives (entry_at next x.key) ≡ true = subst (λ n. within x.gives n ≡ true) (sym (get_or-set_same table x.key v 0 (below x (inl refl))))
    (within_right (entry_at table x.key) x.gives x.gives (within_itself x.gives)) in
    subst (λ (y : Rule). within y.gives (entry_at (fold with_rule next rs) y.key) ≡ true) (sym e)
    (within_chain x.gives (entry_at next x.key) (entry_at (fold with_rule next rs) x.key) put
    (filled_more rs next (λ y k. subst (λ n. y.key < n) (sym same) (below y (inr k))) x.key))

filled_no_more : (rules rs : List Rule) (table : List ℕ) → AreBelow rs (length table) → ((r : Rule) → Has rs r → Contains rules r)
    → HoldsNoMore rules table → HoldsNoMore rules (fold with_rule table rs)
filled_no_more rules [] table below among no_more = no_more
filled_no_more rules (r ∷ rs) table below among no_more =
    let v = bit_or (entry_at table r.key) r.gives in
    let same = length-set table r.key v in
    filled_no_more rules rs (with_rule table r) (λ y k. subst (λ n. y.key < n) (sym same) (below y (inr k))) (λ y k. among y (inr k))
    (put_no_more table r.key v (below r (inl refl)) (rule_grows table r) rules no_more (λ other w closed.
    or_within (entry_at table r.key) r.gives other (no_more r.key other (below r (inl refl)) w closed) (closed r (among r (inl refl)) w)))

abbrev pub zeros : ℕ → List ℕ
zeros n = replicate n 0

none_held : (n k : ℕ) → entry_at (zeros n) k ≡ 0
none_held zero k = refl
none_held (suc n) zero = refl
none_held (suc n) (suc k) = none_held n k

pub filled : (rules : List Rule) (n : ℕ) → AreBelow rules n → length (zeros n) ≡ n → IsFilled rules (fold with_rule (zeros n) rules)
filled rules n below e =
    let b : AreBelow rules (length (zeros n)) = λ r m. subst (λ k. r.key < k) (sym e) (below r m) in
    record {
      own = λ r m. filled_own rules (zeros n) b r (Has-from_contains rules r m);
      no_more = filled_no_more rules rules (zeros n) b (λ r m. Contains-from_has rules r m)
          (λ k other l w closed. subst (λ x. within x other ≡ true) (sym (none_held n k)) (none_within other));
    }

-- ---- one entry after another

-- the first sets' entries hold what the rules give
pub record Spread (rules : List Rule) (number : ℕ) (table : List ℕ) : Type 0 where
  pub own : (r : Rule) → Contains rules r → within r.gives (entry_at table r.key) ≡ true
  pub no_more : HoldsNoMore rules table
  pub all : (r : Rule) (mask : ℕ) → Contains rules r → mask < number → within r.key mask ≡ true → within r.gives (entry_at table mask) ≡ true

pub spread_more : (rules : List Rule) (number count : ℕ) (table : List ℕ) → number < length table → length table ≡ 2 ^ count
    → Spread rules number table → (v : ℕ) → United table number count v → Spread rules (number + 1) (slice_set table number v)
spread_more rules number count table l power so v u = record {
  own = λ r m. within_chain r.gives (entry_at table r.key) (entry_at new r.key) (so.own r m) (put_more table number v l u.own r.key);
  no_more = put_no_more table number v l u.own rules so.no_more (λ other w closed.
      u.least other (so.no_more number other l w closed) (λ i b h.
      let less = without_less number i h in
      so.no_more (without number i) other (omega (arith, less, l)) (within_chain (without number i) number other (without_within number i h) w) closed));
  all = λ r mask m b w. elim (which (mask == number)) [
    | inl t ↦ subst (λ k. within r.gives (entry_at new k) ≡ true) (sym (eqb-true mask number t))
        (subst (λ x. within r.gives x ≡ true) (sym (get_or-set_same table number v 0 l))
        (at_number r m (subst (λ k. within r.key k ≡ true) (eqb-true mask number t) w)))
    | inr f ↦ (
        let ne : (mask ≡ number → ⊥) = λ e. never (mask == number) (same_number mask number e) f in
        within_chain r.gives (entry_at table mask) (entry_at new mask) (so.all r mask m (omega (arith, b, ne)) w) (put_more table number v l u.own mask))
  ];
}
  where
    new : List ℕ
    new = slice_set table number v

    at_number : (r : Rule) → Contains rules r → within r.key number ≡ true → within r.gives v ≡ true
    at_number r m w = elim (missing count r.key number (subst (λ n. number < n) power l) w) [
      | inl same ↦ within_chain r.gives (entry_at table number) v (subst (λ k. within r.gives (entry_at table k) ≡ true) same (so.own r m)) u.own
      | inr i ↦ within_chain r.gives (entry_at table (without number i.0)) v
          (so.all r (without number i.0) m (without_less number i.0 i.2) (still_within number i.0 i.2 r.key w i.3)) (u.each i.0 i.1 i.2)
    ]

pub spread_all : (rules : List Rule) (number : ℕ) (table : List ℕ) → length table ≤ number → Spread rules number table → IsTable rules table
spread_all rules number table l so = record {
  all = λ r mask m b w. so.all r mask m (omega (arith, l, b)) w;
  no_more = so.no_more;
}

-- ---- a set that is closed

-- no entry passes the whole set
pub entries_below : (rules : List Rule) (table : List ℕ) (n : ℕ) → length table ≡ 2 ^ n → ((r : Rule) → Has rules r → r.gives < 2 ^ n)
    → IsTable rules table → (mask : ℕ) → mask < length table → entry_at table mask < length table
entries_below rules table n e small is mask l =
    let whole : IsClosedUnder rules (2 ^ n - 1) = λ r m w. below_full n r.gives (small r (Has-from_contains rules r m)) in
    subst (λ k. entry_at table mask < k) (sym e)
    (full_below n (entry_at table mask) (is.no_more mask (2 ^ n - 1) l (below_full n mask (subst (λ k. mask < k) e l)) whole))

pub entries_all : (rules : List Rule) (table : List ℕ) (n : ℕ) → length table ≡ 2 ^ n → ((r : Rule) → Has rules r → r.gives < 2 ^ n)
    → IsTable rules table → All (λ entry. entry < length table) table
entries_all rules table n e small is = All-from_recursion (λ entry. entry < length table) table
    (all_from (λ entry. entry < length table) table (λ entry m.
    let i = at_has table entry 0 m in
    subst (λ k. k < length table) i.2 (entries_below rules table n e small is i.0 i.1)))

pub closed_when : (rules : List Rule) (table : List ℕ) (held : ℕ) → held < length table → IsTable rules table
    → bit_or held (entry_at table held) ≡ held → IsClosedUnder rules held
closed_when rules table held l is e r m w =
    subst (λ n. within r.gives n ≡ true) e (within_right held (entry_at table held) r.gives (is.all r held m l w))

-- a set with its entry is still below, and more
pub or_below : (table : List ℕ) (n held entry : ℕ) → length table ≡ 2 ^ n → held < length table → entry < length table → bit_or held entry < length table
or_below table n held entry e l m =
    subst (λ k. bit_or held entry < k) (sym e) (or_lt n held entry (subst (λ k. held < k) e l) (subst (λ k. entry < k) e m))

pub or_more : (held entry : ℕ) → (bit_or held entry ≡ held → ⊥) → held < bit_or held entry
or_more held entry ne = let l = le_or_l held entry in let ne2 : (held ≡ bit_or held entry → ⊥) = λ e. ne (sym e) in omega (arith, l, ne2)

-- ---- entries that are closed, the larger sets first

-- the entries from a number on are closed, those below are as they were
pub record Closing (old : List ℕ) (number : ℕ) (table : List ℕ) : Type 0 where
  pub inside : (k : ℕ) → k < length table → entry_at table k < length table
  pub same : (k : ℕ) → k < number → entry_at table k ≡ entry_at old k
  pub done : (rules : List Rule) → IsTable rules old → (k : ℕ) → number ≤ k → k < length table → IsLeastUnder rules k (entry_at table k)

pub closing_all : (old table : List ℕ) → Closing old 0 table → (rules : List Rule) → IsTable rules old → IsClosedTable rules table
closing_all old table so rules is mask l = so.done rules is mask (omega arith) l

module _ (old table : List ℕ) (number count : ℕ) (l : number < length table) (same_length : length table ≡ length old) (power : length table ≡ 2 ^ count)
    (so : Closing old (number + 1) table) where
  abbrev entry : ℕ
  entry = entry_at table number

  abbrev more : ℕ
  more = bit_or number (entry_at table number)

  pub more_inside : more < length table
  more_inside = or_below table count number entry power l (so.inside number l)

  own_entry : entry ≡ entry_at old number
  own_entry = so.same number (omega arith)

  reached_when : (b : Bool) → (more == number) ≡ b → reached table number ≡ cond b number (entry_at table more)
  reached_when b e = ap (λ x. cond x number (entry_at table more)) e

  -- the entry of the set is less than the table's length, and closed
  record IsEntry (v : ℕ) : Type 0 where
    inside : v < length table
    least : (rules : List Rule) → IsTable rules old → IsLeastUnder rules number v

  itself : more ≡ number → IsEntry number
  itself e = record {
    inside = l;
    least = λ rules is. record {
      from_start = within_itself number;
      closed = closed_when rules old number (subst (λ n. number < n) same_length l) is (ap (bit_or number) (sym own_entry) ∙ e);
      least = λ other w closed. w;
    };
  }

  larger : (more ≡ number → ⊥) → IsEntry (entry_at table more)
  larger ne = record {
    inside = so.inside more more_inside;
    least = λ rules is.
        let past = or_more number entry ne in
        let up = so.done rules is more (omega (arith, past)) more_inside in
        record {
          from_start = within_chain number more (entry_at table more) (within_left number entry number (within_itself number)) up.from_start;
          closed = up.closed;
          least = λ other w closed. up.least other
              (or_within number entry other w
              (subst (λ n. within n other ≡ true) (sym own_entry) (is.no_more number other (subst (λ n. number < n) same_length l) w closed))) closed;
        };
  }

  reached_is : IsEntry (reached table number)
  reached_is = elim (which (more == number)) [
    | inl t ↦ subst IsEntry (sym (reached_when true t)) (itself (eqb-true more number t))
    | inr f ↦ subst IsEntry (sym (reached_when false f)) (larger (λ e. never (more == number) (same_number more number e) f))
  ]

  pub closing_more : (v : ℕ) → v ≡ reached table number → Closing old number (slice_set table number v)
  closing_more v e = record {
    inside = λ k b. subst (λ n. entry_at new k < n) (sym counted) (elim (which (k == number)) [
      | inl t ↦ subst (λ n. n < length table) (sym (now_there k (eqb-true k number t))) at.inside
      | inr f ↦ subst (λ n. n < length table) (sym (elsewhere k (λ m. never (k == number) (same_number k number m) f)))
          (so.inside k (subst (λ n. k < n) counted b))
    ]);
    same = λ k b. elsewhere k (λ m. omega (arith, m, b)) ∙ so.same k (omega (arith, b));
    done = λ rules is k from b. elim (which (k == number)) [
      | inl t ↦ subst (λ n. IsLeastUnder rules k n) (sym (now_there k (eqb-true k number t)))
          (subst (λ n. IsLeastUnder rules n v) (sym (eqb-true k number t)) (at.least rules is))
      | inr f ↦ (
          let ne : (k ≡ number → ⊥) = λ m. never (k == number) (same_number k number m) f in
          subst (λ n. IsLeastUnder rules k n) (sym (elsewhere k ne))
          (so.done rules is k (omega (arith, from, ne)) (subst (λ n. k < n) counted b)))
    ];
  }
    where
      new : List ℕ
      new = slice_set table number v

      counted : length new ≡ length table
      counted = length-set table number v

      at : IsEntry v
      at = subst IsEntry (sym e) reached_is

      now_there : (k : ℕ) → k ≡ number → entry_at new k ≡ v
      now_there k m = subst (λ n. entry_at new n ≡ v) (sym m) (get_or-set_same table number v 0 l)

      elsewhere : (k : ℕ) → (k ≡ number → ⊥) → entry_at new k ≡ entry_at table k
      elsewhere k ne = get_or-set_other table number k v 0 ne

-- ---- the union of some entries

module _ (table : List ℕ) (mask : ℕ) where
  pub united_with : (count all : ℕ) → United table mask count all → bit_at mask count ≡ 1
      → United table mask (count + 1) (bit_or all (entry_at table (without mask count)))
  united_with count all u h =
      let last = entry_at table (without mask count) in record {
        own = within_left all last (entry_at table mask) u.own;
        each = λ i l e. elim (which (i == count)) [
          | inl t ↦ within_right all last (entry_at table (without mask i))
              (subst (λ k. within (entry_at table (without mask k)) last ≡ true) (sym (eqb-true i count t)) (within_itself last))
          | inr f ↦ within_left all last (entry_at table (without mask i))
              (u.each i (let ne : (i ≡ count → ⊥) = λ k. never (i == count) (same_number i count k) f in omega (arith, l, ne)) e)
        ];
        least = λ other w each. or_within all last other (u.least other w (λ i l e. each i (omega (arith, l)) e)) (each count (omega arith) h);
      }

  pub united_still : (count all : ℕ) → United table mask count all → (bit_at mask count ≡ 1 → ⊥) → United table mask (count + 1) all
  united_still count all u lack = record {
    own = u.own;
    each = λ i l e. u.each i (let ne : (i ≡ count → ⊥) = λ k. lack (subst (λ n. bit_at mask n ≡ 1) k e) in omega (arith, l, ne)) e;
    least = λ other w each. u.least other w (λ i l e. each i (omega (arith, l)) e);
  }

-- ---- what the code computes

pub one_bit : (k : ℕ) → k < 16 → 1 * 2 ^ k % 18446744073709551616 ≡ 2 ^ k
one_bit k l = let b = pow_below k 16 l in let e : 2 ^ 16 ≡ 65536 = refl in omega (arith, b, e)

pub index_is : (s k : ℕ) → k < 16 → bit_xor s (1 * 2 ^ k % 18446744073709551616) ≡ without s k
index_is s k l = ap (bit_xor s) (one_bit k l)

pub bit_from : (s k : ℕ) → bit_and (s / 2 ^ k) 1 ≡ 1 → bit_at s k ≡ 1
bit_from s k e = sym (shr_and_one s k) ∙ e

pub few_sets : (n count : ℕ) → n ≡ 2 ^ count → count ≤ 16 → n ≤ 65536
few_sets n count e l = let p = pow_few count l in omega (arith, e, p)

pub bit_back : (s k : ℕ) → bit_at s k ≡ 1 → bit_and (s / 2 ^ k) 1 ≡ 1
bit_back s k e = shr_and_one s k ∙ e
