-- Values that are added behind those of valuations, or cut off there, are none of theirs.
use Rattle.std.proofs.Common.{◌≡◌, ◌+◌, ◌≤◌, ◌++◌, ◌∷◌, ◌∙◌, [], ℕ, List, length, map, take, drop, refl, ap, sym, subst, arith, length-append, length-drop}
use Rattle.std.proofs.lemmas.List.{drop-append-le, length-take-le, map-append, take-append-drop, take-append-le, take_all}
use Rattle.std.proofs.Math.Seq.{drop-append_seam}
use Rattle.beas_core.specs.declared.value.Value.{Value}
use Rattle.beas_core.specs.Types.{Row}
use Rattle.block_walk.specs.declared.stack.StackedValuation.{StackedValuation}
use Rattle.block_walk.specs.declared.stack.Stack.{Stack}
use Rattle.block_walk.specs.Kept.{Pending, part, pending_at}
use Rattle.block_walk.specs.Stacks.{IsInside, IsStack, StandBetween, pending_in, pending_of}

-- ---- a part of values

pub part_front : (xs ys : List Value) (from count : ℕ) → from + count ≤ length xs → part (xs ++ ys) from count ≡ part xs from count
part_front xs ys from count l =
    let a : from ≤ length xs = omega arith in
    let b : count ≤ length (drop from xs) = simp length-drop (omega arith) in
    ap (take count) (drop-append-le from xs ys a) ∙ take-append-le count (drop from xs) ys b

pub part_behind : (xs ys : List Value) → part (xs ++ ys) (length xs) (length ys) ≡ ys
part_behind xs ys = ap (take (length ys)) (drop-append_seam xs ys) ∙ take_all (length ys) ys (omega arith)

pub part_cut : (xs : List Value) (n from count : ℕ) → from + count ≤ n → n ≤ length xs → part (take n xs) from count ≡ part xs from count
part_cut xs n from count l m =
    let b : from + count ≤ length (take n xs) = omega (arith, length-take-le n xs m) in
    sym (part_front (take n xs) (drop n xs) from count b) ∙ ap (λ zs. part zs from count) (take-append-drop n xs)

-- ---- valuations

pub between_ends : (valuations : List StackedValuation) (from end : ℕ) → StandBetween from valuations end → from ≤ end
between_ends [] from end b = b
between_ends (m ∷ valuations) from end b =
    let h = between_ends valuations (m.from + m.width) end b.1 in
    let l = b.0 in
    omega (arith, h, l)

-- one mark more, whose values stand behind all
pub between_more : (valuations : List StackedValuation) (from end : ℕ) (m : StackedValuation) (to : ℕ) → StandBetween from valuations end → end ≤ m.from → m.from + m.width ≤ to
    → StandBetween from (valuations ++ m ∷ []) to
between_more [] from end m to b l k = (omega (arith, b, l), k)
between_more (x ∷ valuations) from end m to b l k = (b.0, between_more valuations (x.from + x.width) end m to b.1 l k)

-- the last mark taken off
pub between_less : (valuations : List StackedValuation) (from : ℕ) (m : StackedValuation) (end : ℕ) → StandBetween from (valuations ++ m ∷ []) end → StandBetween from valuations m.from
between_less [] from m end b = b.0
between_less (x ∷ valuations) from m end b = (b.0, between_less valuations (x.from + x.width) m end b.1)

pub between_last : (valuations : List StackedValuation) (from : ℕ) (m : StackedValuation) (end : ℕ) → StandBetween from (valuations ++ m ∷ []) end → m.from + m.width ≤ end
between_last [] from m end b = b.1
between_last (x ∷ valuations) from m end b = between_last valuations (x.from + x.width) m end b.1

pub between_longer : (valuations : List StackedValuation) (from end to : ℕ) → StandBetween from valuations end → end ≤ to → StandBetween from valuations to
between_longer [] from end to b l = omega (arith, b, l)
between_longer (x ∷ valuations) from end to b l = (b.0, between_longer valuations (x.from + x.width) end to b.1 l)

-- ---- the valuations that valuations stand for

-- they are the same among all values that have the same parts up to where the valuations end
pub same_pending : (xs ys : List Value) (end : ℕ) → ((from count : ℕ) → from + count ≤ end → part xs from count ≡ part ys from count)
    → (valuations : List StackedValuation) (from : ℕ) → StandBetween from valuations end → map (pending_of xs) valuations ≡ map (pending_of ys) valuations
same_pending xs ys end same [] from b = refl
same_pending xs ys end same (m ∷ valuations) from b =
    ap (λ row. pending_at m.step row ∷ map (pending_of xs) valuations) (same m.from m.width (between_ends valuations (m.from + m.width) end b.1))
    ∙ ap (λ (ps : List Pending). pending_of ys m ∷ ps) (same_pending xs ys end same valuations (m.from + m.width) b.1)

pub pending_longer : (xs ys : List Value) (valuations : List StackedValuation) (from : ℕ) → StandBetween from valuations (length xs)
    → map (pending_of (xs ++ ys)) valuations ≡ map (pending_of xs) valuations
pending_longer xs ys = same_pending (xs ++ ys) xs (length xs) (part_front xs ys)

-- ---- values that are added, and a mark for them

module _ (old new : Stack) (row : Row) (m : StackedValuation) (stack : IsStack old) (values : new.values.items ≡ old.values.items ++ row)
    (valuations : new.valuations.items ≡ old.valuations.items ++ m ∷ []) (from : m.from ≡ length old.values.items) (wide : m.width ≡ length row) where
  pub stack_more : IsStack new
  stack_more =
      let longer = ap length values ∙ length-append old.values.items row in
      record {
        order = subst (λ (ms : List StackedValuation). StandBetween 0 ms (length new.values.items)) (sym valuations)
            (between_more old.valuations.items 0 (length old.values.items) m (length new.values.items) stack.order (omega (arith, from)) (omega (arith, from, wide, longer)));
      }

  row_more : part new.values.items m.from m.width ≡ row
  row_more = ap (λ (vs : Row). part vs m.from m.width) values ∙ ap (λ n. part (old.values.items ++ row) n m.width) from
      ∙ ap (part (old.values.items ++ row) (length old.values.items)) wide ∙ part_behind old.values.items row

  pub pending_more : pending_in new ≡ pending_in old ++ pending_at m.step row ∷ []
  pending_more = ap (map (pending_of new.values.items)) valuations
      ∙ map-append (pending_of new.values.items) old.valuations.items (m ∷ [])
      ∙ ap (λ (y : Row). map (pending_of new.values.items) old.valuations.items ++ pending_at m.step y ∷ []) row_more
      ∙ ap (λ (vs : Row). map (pending_of vs) old.valuations.items ++ pending_at m.step row ∷ []) values
      ∙ ap (λ (ps : List Pending). ps ++ pending_at m.step row ∷ []) (pending_longer old.values.items row old.valuations.items 0 stack.order)

-- ---- a mark that is taken off, and the values behind it

module _ (old new : Stack) (at : StackedValuation) (stack : IsStack old) (valuations : old.valuations.items ≡ new.valuations.items ++ at ∷ []) where
  order : StandBetween 0 (new.valuations.items ++ at ∷ []) (length old.values.items)
  order = subst (λ (ms : List StackedValuation). StandBetween 0 ms (length old.values.items)) valuations stack.order

  pub last_inside : IsInside old.values.items at
  last_inside = between_last new.valuations.items 0 at (length old.values.items) order

  module _ (values : new.values.items ≡ take (at.from + at.width) old.values.items) where
    pub last_left : length new.values.items ≡ at.from + at.width
    last_left = ap length values ∙ length-take-le (at.from + at.width) old.values.items last_inside

    others : StandBetween 0 new.valuations.items (at.from + at.width)
    others = between_longer new.valuations.items 0 at.from (at.from + at.width) (between_less new.valuations.items 0 at (length old.values.items) order) (omega arith)

    pub stack_less : IsStack new
    stack_less = record { order = subst (StandBetween 0 new.valuations.items) (sym last_left) others }

    -- among the values that are left, valuations that end before them stand for what they stood for
    same_part : (from count : ℕ) → from + count ≤ at.from + at.width → part old.values.items from count ≡ part new.values.items from count
    same_part from count l = sym (part_cut old.values.items (at.from + at.width) from count l last_inside) ∙ ap (λ (vs : Row). part vs from count) (sym values)

    pub pending_less : pending_in old ≡ pending_in new ++ pending_of new.values.items at ∷ []
    pending_less = ap (map (pending_of old.values.items)) valuations
        ∙ map-append (pending_of old.values.items) new.valuations.items (at ∷ [])
        ∙ ap (λ (ps : List Pending). ps ++ pending_of old.values.items at ∷ [])
        (same_pending old.values.items new.values.items (at.from + at.width) same_part new.valuations.items 0 others)
        ∙ ap (λ (row : Row). pending_in new ++ pending_at at.step row ∷ []) (same_part at.from at.width (omega arith))
