-- Where nothing has a flaw, the kinds of refusal that speak of meanings have no place.
use Rattle.std.proofs.Common.{◌≡◌, ℕ, ◌+◌, List, [], ◌∷◌, ◌++◌, refl, ap, sym, ◌∙◌, Bool, true, false, ◌||◌}
use Rattle.std.specs.List.{flat_map, list_any, enumerate_from}
use Rattle.beas_core.specs.declared.limits.Limits.{Limits}
use Rattle.beas_core.specs.declared.refusal.Refusal.{Refusal}
use Rattle.beas_core.specs.declared.refusal.Refusal.TheVariants as refusal
use Rattle.beas_core.specs.declared.schema.ColType.{ColType}
use Rattle.beas_core.specs.declared.value.Value.TheVariants.{Int, Str}
use Rattle.name_resolution.specs.declared.kinds.Flaw.{Flaw}
use Rattle.name_resolution.specs.declared.kinds.Flaw.TheVariants.{UnknownColumn, AmbiguousColumn, NumberRange, TextTooLong}
use Rattle.name_resolution.specs.declared.kinds.Kind.{Kind}
use Rattle.name_resolution.specs.declared.kinds.Kind.TheVariants.{OfMeaning, Types, Shapes, Blocks, Atoms, Outputs}
use Rattle.name_resolution.specs.declared.meaning.Condition.{Condition}
use Rattle.name_resolution.specs.declared.meaning.Condition.TheVariants.{Compare, Between}
use Rattle.name_resolution.specs.declared.meaning.LookedUp.{LookedUp}
use Rattle.name_resolution.specs.declared.meaning.Meaning.{Meaning}
use Rattle.name_resolution.specs.declared.meaning.Meaning.TheVariants.{At, Fixed, Unknown, Ambiguous, OutOfRange}
use Rattle.name_resolution.specs.Binding.{places_in_all, shape_of, looked_refusals}
use Rattle.name_resolution.specs.Refusing.{refusals_if, flaws, sides, has_flaw, condition_has_flaw, block_has_flaw, places}

-- the parts of an `or` that is false
pub not_left : (a b : Bool) → (a || b) ≡ false → a ≡ false
not_left true b none = none
not_left false b none = refl

pub not_right : (a b : Bool) → (a || b) ≡ false → b ≡ false
not_right true b none = cc
not_right false b none = none

no_meaning : (flaw : Flaw) (limit : ℕ) (m : Meaning) → has_flaw limit m ≡ false → flaws flaw limit m ≡ []
unfolding flaws
no_meaning UnknownColumn limit (At column) none = refl
no_meaning UnknownColumn limit (Fixed value) none = refl
no_meaning UnknownColumn limit (Unknown table column) none = cc
no_meaning UnknownColumn limit (Ambiguous column) none = refl
no_meaning UnknownColumn limit (OutOfRange negative digits) none = refl
no_meaning AmbiguousColumn limit (At column) none = refl
no_meaning AmbiguousColumn limit (Fixed value) none = refl
no_meaning AmbiguousColumn limit (Unknown table column) none = refl
no_meaning AmbiguousColumn limit (Ambiguous column) none = cc
no_meaning AmbiguousColumn limit (OutOfRange negative digits) none = refl
no_meaning NumberRange limit (At column) none = refl
no_meaning NumberRange limit (Fixed value) none = refl
no_meaning NumberRange limit (Unknown table column) none = refl
no_meaning NumberRange limit (Ambiguous column) none = refl
no_meaning NumberRange limit (OutOfRange negative digits) none = cc
no_meaning TextTooLong limit (At column) none = refl
no_meaning TextTooLong limit (Fixed (Int number)) none = refl
no_meaning TextTooLong limit (Fixed (Str text)) none = ap (λ b. refusals_if b (refusal.TextTooLong limit)) none
no_meaning TextTooLong limit (Unknown table column) none = refl
no_meaning TextTooLong limit (Ambiguous column) none = refl
no_meaning TextTooLong limit (OutOfRange negative digits) none = refl

nothing_in_front : (xs ys : List Refusal) → xs ≡ [] → xs ++ ys ≡ ys
nothing_in_front xs ys none = ap (λ zs. zs ++ ys) none

pub joined : (xs ys : List Refusal) → xs ≡ [] → ys ≡ [] → xs ++ ys ≡ []
joined xs ys none no_more = nothing_in_front xs ys none ∙ no_more

no_items : (flaw : Flaw) (limit : ℕ) (ms : List Meaning) → list_any (has_flaw limit) ms ≡ false → flat_map (flaws flaw limit) ms ≡ []
no_items flaw limit [] none = refl
no_items flaw limit (m ∷ ms) none =
    joined (flaws flaw limit m) (flat_map (flaws flaw limit) ms) (no_meaning flaw limit m (not_left (has_flaw limit m) (list_any (has_flaw limit) ms) none))
    (no_items flaw limit ms (not_right (has_flaw limit m) (list_any (has_flaw limit) ms) none))

-- ---- a condition in front of other meanings

no_condition : (flaw : Flaw) (limit : ℕ) (c : Condition) (ms : List Meaning) → condition_has_flaw limit c ≡ false → flat_map (flaws flaw limit) ms ≡ []
    → flat_map (flaws flaw limit) (sides c ++ ms) ≡ []
no_condition flaw limit (Compare left sign right) ms none rest =
    joined (flaws flaw limit left) _ (no_meaning flaw limit left (not_left (has_flaw limit left) (has_flaw limit right) none))
    (joined (flaws flaw limit right) _ (no_meaning flaw limit right (not_right (has_flaw limit left) (has_flaw limit right) none)) rest)
no_condition flaw limit (Between value low high) ms none rest =
    let bounds : Bool = has_flaw limit low || has_flaw limit high in
    let fine : bounds ≡ false = not_right (has_flaw limit value) bounds none in
    joined (flaws flaw limit value) _ (no_meaning flaw limit value (not_left (has_flaw limit value) bounds none))
    (joined (flaws flaw limit low) _ (no_meaning flaw limit low (not_left (has_flaw limit low) (has_flaw limit high) fine))
    (joined (flaws flaw limit high) _ (no_meaning flaw limit high (not_right (has_flaw limit low) (has_flaw limit high) fine)) rest))

no_conditions : (flaw : Flaw) (limit : ℕ) (cs : List Condition) → list_any (condition_has_flaw limit) cs ≡ false
    → flat_map (flaws flaw limit) (flat_map sides cs) ≡ []
no_conditions flaw limit [] none = refl
no_conditions flaw limit (c ∷ cs) none =
    no_condition flaw limit c (flat_map sides cs) (not_left (condition_has_flaw limit c) (list_any (condition_has_flaw limit) cs) none)
    (no_conditions flaw limit cs (not_right (condition_has_flaw limit c) (list_any (condition_has_flaw limit) cs) none))

no_meanings : (flaw : Flaw) (limit : ℕ) (ms more : List Meaning) → list_any (has_flaw limit) ms ≡ false → flat_map (flaws flaw limit) more ≡ []
    → flat_map (flaws flaw limit) (ms ++ more) ≡ []
no_meanings flaw limit [] more none rest = rest
no_meanings flaw limit (m ∷ ms) more none rest =
    joined (flaws flaw limit m) _ (no_meaning flaw limit m (not_left (has_flaw limit m) (list_any (has_flaw limit) ms) none))
    (no_meanings flaw limit ms more (not_right (has_flaw limit m) (list_any (has_flaw limit) ms) none) rest)

-- ---- blocks

no_block : (flaw : Flaw) (limits : Limits) (shape : List ColType) (n : ℕ) (b : LookedUp) → block_has_flaw limits.text b ≡ false
    → places (OfMeaning flaw) limits shape (n, b) ≡ []
unfolding places
no_block flaw limits shape n b none =
    let items : Bool = list_any (has_flaw limits.text) b.items in
    let conditions : Bool = list_any (condition_has_flaw limits.text) b.conditions in
    no_meanings flaw limits.text b.items (flat_map sides b.conditions) (not_left items conditions none)
    (no_conditions flaw limits.text b.conditions (not_right items conditions none))

no_blocks : (flaw : Flaw) (limits : Limits) (shape : List ColType) (n : ℕ) (bs : List LookedUp) → list_any (block_has_flaw limits.text) bs ≡ false
    → flat_map (places (OfMeaning flaw) limits shape) (enumerate_from n bs) ≡ []
no_blocks flaw limits shape n [] none = refl
no_blocks flaw limits shape n (b ∷ bs) none =
    joined (places (OfMeaning flaw) limits shape (n, b)) _
    (no_block flaw limits shape n b (not_left (block_has_flaw limits.text b) (list_any (block_has_flaw limits.text) bs) none))
    (no_blocks flaw limits shape (n + 1) bs (not_right (block_has_flaw limits.text b) (list_any (block_has_flaw limits.text) bs) none))

-- the kinds after those of meanings
abbrev pub other_kinds : List Kind
other_kinds = Types ∷ Shapes ∷ Blocks ∷ Atoms ∷ Outputs ∷ []

pub other_refusals : (limits : Limits) (bs : List LookedUp) → list_any (block_has_flaw limits.text) bs ≡ false
    → flat_map (places_in_all limits (shape_of bs) bs) other_kinds ≡ looked_refusals limits bs
unfolding looked_refusals
other_refusals limits bs none =
    let places_of : Kind → List Refusal = places_in_all limits (shape_of bs) bs in
    let fine : (flaw : Flaw) → places_of (OfMeaning flaw) ≡ [] = λ flaw. no_blocks flaw limits (shape_of bs) 1 bs none in
    let rest : List Refusal = flat_map places_of other_kinds in
    sym (nothing_in_front (places_of (OfMeaning UnknownColumn)) _ (fine UnknownColumn)
    ∙ nothing_in_front (places_of (OfMeaning AmbiguousColumn)) _ (fine AmbiguousColumn)
    ∙ nothing_in_front (places_of (OfMeaning NumberRange)) _ (fine NumberRange)
    ∙ nothing_in_front (places_of (OfMeaning TextTooLong)) rest (fine TextTooLong))
