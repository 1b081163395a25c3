-- The operations of a query make its probes and leave its answers.
use Rattle.std.proofs.Common.{◌≡◌, ◌+◌, ◌<◌, ◌≤◌, ◌^◌, ℕ, Bool, true, false, cond, List, [], ◌∷◌, ◌++◌, length, map, get_or, Option, Some, None, refl, ap, sym, ◌∙◌, subst, arith, append_assoc, length-append}
use Rattle.std.proofs.lemmas.List.{append-nil, get_or_append_left, get_or_default}
use Rattle.std.proofs.lemmas.Option.{slice_get-get_or}
use Rattle.std.proofs.Math.Seq.{get_or-append_seam}
use Rattle.beas_core.specs.declared.query.Block.{Block as QueryBlock}
use Rattle.beas_core.specs.declared.plan.Normal.{Normal}
use Rattle.beas_core.specs.declared.plan.Prepared.{Prepared}
use Rattle.beas_core.specs.Types.{Row, Guide}
use Rattle.beas_core.specs.Full.{set_union, set_difference}
use Rattle.beas_core.specs.Trees.{QueryTree, Single, Either, Minus, blocks_of}
use Rattle.beas_core.specs.Reads.{probes}
use Rattle.beas_core.specs.Fits.{StepsHold}
use Rattle.beas_core.specs.Guiding.{after}
use Rattle.beas_core.specs.Queries.{BlockProbe, is_guided, plan_of, guide_of, answers, probes_in, reads_in}
use Rattle.beas_core.proofs.GuidedLaw.{answers_in_order}
use Rattle.plan_ops.specs.Asked.{TreeFits}
use Rattle.plan_ops.proofs.TreeFacts.{BlockIs, block_is, block_stands, block_plan, block_normal, union_left, union_right, except_left, except_right, whole_fits}
use Rattle.block_walk.specs.Worlds.{World}
use Rattle.cursor_executor.specs.declared.operations.Operation.{Operation}
use Rattle.cursor_executor.specs.declared.operations.Operation.TheVariants.{Unite, Subtract}
use Rattle.cursor_executor.specs.Fetching.{IsWorld, probes_due, steps_of}
use Rattle.cursor_executor.specs.Operations.{operations_in, guide_at, normal_at, block_probes, block_rows, BlockFits, LastTwo, Runs}

-- a tree has a block
pub some_block : (t : QueryTree) → 1 ≤ length (blocks_of t)
some_block (Single block) = omega arith
some_block (Either l r) =
    let left = some_block l in
    let all = length-append (blocks_of l) (blocks_of r) in
    omega (arith, left, all)
some_block (Minus l r) =
    let left = some_block l in
    let all = length-append (blocks_of l) (blocks_of r) in
    omega (arith, left, all)

-- ---- places in a stack

-- a guide's place lies below what is put on top later
abbrev pub IsBelow : Option ℕ → ℕ → Type 0
IsBelow None depth = Unit {0}
IsBelow (Some place) depth = place < depth

below_more : (place : Option ℕ) (depth : ℕ) → IsBelow place depth → IsBelow place (depth + 1)
below_more None depth h = tt
below_more (Some place) depth h = omega (arith, h)

guide_stays : (stack : List (List Row)) (top : List Row) (place : Option ℕ) → IsBelow place (length stack)
    → guide_at (stack ++ top ∷ []) place ≡ guide_at stack place
guide_stays stack top None h = refl
guide_stays stack top (Some place) h =
    let all = length-append stack (top ∷ []) in
    slice_get-get_or (stack ++ top ∷ []) place [] (omega (arith, h, all))
    ∙ ap Some (get_or_append_left stack (top ∷ []) [] place h)
    ∙ sym (slice_get-get_or stack place [] h)

guide_on_top : (stack : List (List Row)) (top : List Row) → guide_at (stack ++ top ∷ []) (Some (length stack)) ≡ Some top
guide_on_top stack top =
    let all = length-append stack (top ∷ []) in
    slice_get-get_or (stack ++ top ∷ []) (length stack) [] (omega (arith, all)) ∙ ap Some (get_or-append_seam stack top [] [])

chosen : (flag : Bool) (stack : List (List Row)) (place : Option ℕ) (guide : Guide) → guide_at stack place ≡ guide
    → guide_at stack (cond flag place None) ≡ cond flag guide None
chosen true stack place guide e = e
chosen false stack place guide e = refl

-- ---- a tree

module _ (w : World) (prepared : Prepared) (hold : (n : ℕ) → StepsHold w.rows w.accesses (steps_of prepared n)) where
  abbrev answers_at : ℕ → Guide → QueryTree → List Row
  answers_at n guide t = answers w.rows prepared.guided n guide t

  abbrev probes_at : ℕ → Guide → QueryTree → List BlockProbe
  probes_at n guide t = probes_in w.rows w.accesses prepared.guided prepared.derivations n guide t

  module _ (n : ℕ) (guide : Guide) (block : QueryBlock) (reads : ℕ) (h : TreeFits w.accesses prepared n guide (Single block) reads)
      (own : Guide) (own_is : own ≡ guide_of prepared.guided n guide) where
    abbrev none : Normal
    none = record { atoms = []; classes = []; count = 0; constants = []; needed = []; comparisons = []; output = [] }

    inside : n < length prepared.normals
    inside = block_stands w.rows w.accesses prepared hold n guide block reads h

    planned : n < length prepared.derivations
    planned = block_plan w.rows w.accesses prepared hold n guide block reads h

    stands : normal_at prepared n ≡ get_or prepared.normals n (normal_at prepared n)
    stands = sym (get_or_default prepared.normals n (normal_at prepared n) none inside)

    is : BlockIs w.rows w.accesses prepared hold n guide block reads h (normal_at prepared n) (steps_of prepared n) own
    is = block_is w.rows w.accesses prepared hold n guide block reads h (normal_at prepared n) stands (plan_of prepared.derivations n)
        (sym (get_or_default prepared.derivations n (plan_of prepared.derivations n) (record { steps = [] }) planned)) (steps_of prepared n) refl own own_is

    block_fits : BlockFits w prepared n own
    block_fits = record { normal = inside; plan = planned; classes = is.classes; constants = is.constants; fits = is.fits; sound = is.sound }

    rows_are : block_rows w prepared n own ≡ answers_at n guide (Single block)
    rows_are = is.rows_are

    probes_are : probes_at n guide (Single block) ≡ block_probes w prepared n own
    probes_are =
        let normal = block_normal w.rows w.accesses prepared hold n guide block reads h (normal_at prepared n) stands in
        ap (λ m. map (λ p. record { block = n; probe = p }) (probes w.rows m w.accesses (guide_of prepared.guided n guide) (steps_of prepared n))) (sym normal)
        ∙ ap (λ g. block_probes w prepared n g) (sym own_is)

  runs_tree : (t : QueryTree) (n depth reads : ℕ) (place : Option ℕ) (guide : Guide) (stack : List (List Row)) (rest : List Operation)
      (later : List BlockProbe) (rows : List Row) → TreeFits w.accesses prepared n guide t reads → length stack ≡ depth → IsBelow place depth
      → guide_at stack place ≡ guide → Runs w prepared (after n t) rest (stack ++ answers_at n guide t ∷ []) later rows
      → Runs w prepared n (operations_in prepared.guided n depth place t ++ rest) stack (probes_at n guide t ++ later) rows
  runs_tree (Single block) n depth reads place guide stack rest later rows h deep below e run =
      let own_is = chosen (is_guided prepared.guided n) stack place guide e in
      let own = guide_at stack (cond (is_guided prepared.guided n) place None) in (
        block_fits n guide block reads h own own_is,
        (
          later,
          (
            ap (λ ps. ps ++ later) (probes_are n guide block reads h own own_is),
            subst (λ found. Runs w prepared (n + 1) rest (stack ++ found ∷ []) later rows) (sym (rows_are n guide block reads h own own_is)) run,
          ),
        ),
      )
  runs_tree (Either l r) n depth reads place guide stack rest later rows h deep below e run =
      let left = answers_at n guide l in
      let next = after n l in
      let right = answers_at next guide r in
      let left_fits = union_left w.rows w.accesses prepared hold n guide l r reads h in
      let now = reads + reads_in w.rows w.accesses prepared.guided prepared.derivations n guide l in
      let right_fits = union_right w.rows w.accesses prepared hold n guide l r reads next refl now refl h in
      let two : LastTwo ((stack ++ left ∷ []) ++ right ∷ []) = record {
        below = stack;
        left = left;
        right = right;
        stands = refl;
        left_in_order = answers_in_order w.rows prepared.guided n guide l;
        right_in_order = answers_in_order w.rows prepared.guided next guide r;
      } in
      let count = length-append (blocks_of l) (blocks_of r) in
      let last : after n (Either l r) ≡ after next r = omega (arith, count) in
      let joined : Runs w prepared (after next r) (Unite ∷ rest) ((stack ++ left ∷ []) ++ right ∷ []) later rows =
      (two, subst (λ k. Runs w prepared k rest (stack ++ set_union left right ∷ []) later rows) last run) in
      let deeper = length-append stack (left ∷ []) in
      let on_right = runs_tree r next (depth + 1) now place guide (stack ++ left ∷ []) (Unite ∷ rest) later rows right_fits (deeper ∙ ap (λ d. d + 1) deep)
      (below_more place depth below) (guide_stays stack left place (subst (IsBelow place) (sym deep) below) ∙ e) joined in
      let all = runs_tree l n depth reads place guide stack (operations_in prepared.guided next (depth + 1) place r ++ Unite ∷ rest)
      (probes_at next guide r ++ later) rows left_fits deep below e on_right in
      subst (λ ps. Runs w prepared n (operations_in prepared.guided n depth place (Either l r) ++ rest) stack ps rows)
      (sym (append_assoc (probes_at n guide l) (probes_at next guide r) later))
      (subst (λ os. Runs w prepared n os stack (probes_at n guide l ++ (probes_at next guide r ++ later)) rows)
      (sym (seams (operations_in prepared.guided n depth place l) (operations_in prepared.guided next (depth + 1) place r) Unite)) all)
    where
      seams : (xs ys : List Operation) (z : Operation) → (xs ++ (ys ++ z ∷ [])) ++ rest ≡ xs ++ (ys ++ z ∷ rest)
      seams xs ys z = append_assoc xs (ys ++ z ∷ []) rest ∙ ap (λ all. xs ++ all) (append_assoc ys (z ∷ []) rest)
  runs_tree (Minus l r) n depth reads place guide stack rest later rows h deep below e run =
      let left = answers_at n guide l in
      let next = after n l in
      let right = answers_at next (Some left) r in
      let left_fits = except_left w.rows w.accesses prepared hold n guide l r reads h in
      let now = reads + reads_in w.rows w.accesses prepared.guided prepared.derivations n guide l in
      let right_fits = except_right w.rows w.accesses prepared hold n guide l r reads next refl now refl h in
      let two : LastTwo ((stack ++ left ∷ []) ++ right ∷ []) = record {
        below = stack;
        left = left;
        right = right;
        stands = refl;
        left_in_order = answers_in_order w.rows prepared.guided n guide l;
        right_in_order = answers_in_order w.rows prepared.guided next (Some left) r;
      } in
      let count = length-append (blocks_of l) (blocks_of r) in
      let last : after n (Minus l r) ≡ after next r = omega (arith, count) in
      let joined : Runs w prepared (after next r) (Subtract ∷ rest) ((stack ++ left ∷ []) ++ right ∷ []) later rows =
      (two, subst (λ k. Runs w prepared k rest (stack ++ set_difference left right ∷ []) later rows) last run) in
      let deeper = length-append stack (left ∷ []) in
      let on_right = runs_tree r next (depth + 1) now (Some depth) (Some left) (stack ++ left ∷ []) (Subtract ∷ rest) later rows right_fits
      (deeper ∙ ap (λ d. d + 1) deep) (omega arith)
      (subst (λ d. guide_at (stack ++ left ∷ []) (Some d) ≡ Some left) deep (guide_on_top stack left)) joined in
      let all = runs_tree l n depth reads place guide stack (operations_in prepared.guided next (depth + 1) (Some depth) r ++ Subtract ∷ rest)
      (probes_at next (Some left) r ++ later) rows left_fits deep below e on_right in
      subst (λ ps. Runs w prepared n (operations_in prepared.guided n depth place (Minus l r) ++ rest) stack ps rows)
      (sym (append_assoc (probes_at n guide l) (probes_at next (Some left) r) later))
      (subst (λ os. Runs w prepared n os stack (probes_at n guide l ++ (probes_at next (Some left) r ++ later)) rows)
      (sym (seams (operations_in prepared.guided n depth place l) (operations_in prepared.guided next (depth + 1) (Some depth) r) Subtract)) all)
    where
      seams : (xs ys : List Operation) (z : Operation) → (xs ++ (ys ++ z ∷ [])) ++ rest ≡ xs ++ (ys ++ z ∷ rest)
      seams xs ys z = append_assoc xs (ys ++ z ∷ []) rest ∙ ap (λ all. xs ++ all) (append_assoc ys (z ∷ []) rest)

-- ---- a query as a whole

pub runs_query : (w : World) (prepared : Prepared) → IsWorld w prepared → prepared.bound < 2 ^ 128
    → Runs w prepared 0 (operations_in prepared.guided 0 0 None prepared.query) [] (probes_due w prepared)
    (answers w.rows prepared.guided 0 None prepared.query)
runs_query w prepared is small =
    let t = prepared.query in
    let found = answers w.rows prepared.guided 0 None t in
    let run = runs_tree w prepared is.hold t 0 0 0 None None [] [] [] found (whole_fits w.rows w.accesses prepared is.fits small) refl tt refl (refl, refl) in
    subst (λ ps. Runs w prepared 0 (operations_in prepared.guided 0 0 None t) [] ps found) (append-nil (probes_due w prepared))
    (subst (λ os. Runs w prepared 0 os [] (probes_due w prepared ++ []) found) (append-nil (operations_in prepared.guided 0 0 None t)) run)
