-- Places that are used, and the lists of the normal form that are read off.
use Rattle.std.proofs.Common.{◌≡◌, ◌==◌, ◌||◌, ◌<◌, ◌+◌, ℕ, zero, suc, Bool, true, false, cond, List, [], ◌∷◌, ◌++◌, length, map, take, get_or, replicate, inl, inr, refl, ap, sym, ◌∙◌, subst, arith, add-one, length-set, All, append_assoc, zero-add, add-zero}
use Rattle.std.specs.List.{list_any, filter, flat_map, enumerate_from, range_with_len, slice_set}
use Rattle.std.proofs.Math.Seq.{take-suc, take-length}
use Rattle.std.proofs.lemmas.List.{map-append, append-nil, length-replicate}
use Rattle.std.proofs.lemmas.Bool.Decides.{nat_tests}
use Rattle.std.proofs.lemmas.List.Elements.{filter-append, All-nil, All-cons, All-head, All-tail, All-append, All-map}
use Rattle.std.proofs.lemmas.List.FromFn.{map-range_with_len_more, length-enumerate_from, get_or-enumerate_from}
use Rattle.beas_core.specs.declared.schema.ColumnId.{ColumnId}
use Rattle.beas_core.specs.declared.query.Atom.{Atom}
use Rattle.beas_core.specs.declared.query.Place.{Place}
use Rattle.beas_core.specs.declared.query.Comparison.{Comparison}
use Rattle.beas_core.specs.declared.query.Operand.{Operand}
use Rattle.beas_core.specs.declared.query.Operand.TheVariants.{At, Fixed}
use Rattle.beas_core.specs.declared.query.Block.{Block}
use Rattle.beas_core.specs.declared.value.Value.{Value}
use Rattle.beas_core.specs.declared.plan.Normal.{Normal}
use Rattle.beas_core.specs.Shapes.{IsPlace, BlockIsWellFormed, ComparisonIsWellFormed, OperandIsPlace, width_of}
use Rattle.beas_core.specs.Classes.{same_place, operand_places, used_places, needed_columns, class_of, normal_of}
use Rattle.beas_core.specs.Coverage.{has, with_classes}
use Rattle.beas_core.proofs.Sets.{Has}
use Rattle.normal_form.specs.Places.{offset, place_number, with_places, place_at, class_list, used_list, class_lists, used_lists}
use Rattle.normal_form.specs.Labels.{AreLabels, heads, rank}
use Rattle.normal_form.proofs.Offsets.{number_below, number_same, in_range, width_at}
use Rattle.normal_form.proofs.Joined.{class_by_label, count_by_label}

with_classes-append : (set : List Bool) (xs ys : List ℕ) → with_classes set (xs ++ ys) ≡ with_classes (with_classes set xs) ys
with_classes-append set [] ys = refl
with_classes-append set (x ∷ xs) ys = with_classes-append (slice_set set x true) xs ys

length-with : (set : List Bool) (xs : List ℕ) → length (with_classes set xs) ≡ length set
length-with set [] = refl
length-with set (x ∷ xs) = length-with (slice_set set x true) xs ∙ length-set set x true

pub length_used : (atoms : List Atom) (used : List Bool) (ps : List Place) → length (with_places atoms used ps) ≡ length used
unfolding with_places
length_used atoms used ps = length-with used (map (place_number atoms) ps)

pub used_append : (atoms : List Atom) (used : List Bool) (ps qs : List Place)
    → with_places atoms used (ps ++ qs) ≡ with_places atoms (with_places atoms used ps) qs
unfolding with_places
used_append atoms used ps qs = ap (with_classes used) (map-append (place_number atoms) ps qs)
    ∙ with_classes-append used (map (place_number atoms) ps) (map (place_number atoms) qs)

pub used_nil : (atoms : List Atom) (used : List Bool) → with_places atoms used [] ≡ used
unfolding with_places
used_nil atoms used = refl

pub used_one : (atoms : List Atom) (used : List Bool) (p : Place) → with_places atoms used (p ∷ []) ≡ slice_set used (place_number atoms p) true
unfolding with_places
used_one atoms used p = refl

pub flat_map_more : {A B : Type 0} (f : A → List B) (xs : List A) (i : ℕ) (d : A) → i < length xs
    → flat_map f (take (i + 1) xs) ≡ flat_map f (take i xs) ++ f (get_or xs i d)
flat_map_more f xs i d l = ap (λ k. flat_map f (take k xs)) (add-one i) ∙ ap (flat_map f) (take-suc xs i d l) ∙ pushed (take i xs) (get_or xs i d)
  where
    pushed : (ys : List _) (y : _) → flat_map f (ys ++ y ∷ []) ≡ flat_map f ys ++ f y
    pushed [] y = append-nil (f y)
    pushed (z ∷ ys) y = ap (λ r. f z ++ r) (pushed ys y) ∙ sym (append_assoc (f z) (flat_map f ys) (f y))

-- one more item, at a step of a loop
pub pushed : {A : Type 0} (xs ys new : List A) (x y : A) → new ≡ xs ++ x ∷ [] → xs ≡ ys → x ≡ y → new ≡ ys ++ y ∷ []
pushed xs ys new x y e f g = e ∙ ap (λ zs. zs ++ x ∷ []) f ∙ ap (λ z. ys ++ z ∷ []) g

-- one more place, at a step of a loop
pub used_more : (atoms : List Atom) (used : List Bool) (ps : List Place) (i : ℕ) (d : Place) → i < length ps
    → with_places atoms (with_places atoms used (take i ps)) (get_or ps i d ∷ []) ≡ with_places atoms used (take (i + 1) ps)
used_more atoms used ps i d l = sym (used_append atoms used (take i ps) (get_or ps i d ∷ []))
    ∙ ap (with_places atoms used) (sym (ap (λ k. take k ps) (add-one i) ∙ take-suc ps i d l))

pub used_firsts : (atoms : List Atom) (used : List Bool) (cs : List (Place × Value)) (i : ℕ) (d : Place × Value) → i < length cs
    → with_places atoms (with_places atoms used (map (λ c. c.0) (take i cs))) ((get_or cs i d).0 ∷ [])
    ≡ with_places atoms used (map (λ c. c.0) (take (i + 1) cs))
used_firsts atoms used cs i d l = sym (used_append atoms used (map (λ c. c.0) (take i cs)) ((get_or cs i d).0 ∷ []))
    ∙ ap (with_places atoms used) (sym (ap (λ k. map (λ c. c.0) (take k cs)) (add-one i) ∙ ap (map (λ c. c.0)) (take-suc cs i d l)
    ∙ map-append (λ c. c.0) (take i cs) (get_or cs i d ∷ [])))

pub used_pairs : (atoms : List Atom) (used : List Bool) (es : List (Place × Place)) (i : ℕ) (d : Place × Place) → i < length es
    → with_places atoms (with_places atoms (with_places atoms used (flat_map (λ e. e.0 ∷ e.1 ∷ []) (take i es))) ((get_or es i d).0 ∷ []))
    ((get_or es i d).1 ∷ []) ≡ with_places atoms used (flat_map (λ e. e.0 ∷ e.1 ∷ []) (take (i + 1) es))
used_pairs atoms used es i d l =
    sym (used_append atoms (with_places atoms used (flat_map (λ e. e.0 ∷ e.1 ∷ []) (take i es))) ((get_or es i d).0 ∷ []) ((get_or es i d).1 ∷ []))
    ∙ sym (used_append atoms used (flat_map (λ e. e.0 ∷ e.1 ∷ []) (take i es)) ((get_or es i d).0 ∷ (get_or es i d).1 ∷ []))
    ∙ ap (with_places atoms used) (sym (flat_map_more (λ e. e.0 ∷ e.1 ∷ []) es i d l))

pub used_sides : (atoms : List Atom) (used : List Bool) (cs : List Comparison) (i : ℕ) (d : Comparison) → i < length cs
    → with_places atoms (with_places atoms used (flat_map (λ c. c.left ∷ operand_places c.right) (take i cs)))
    ((get_or cs i d).left ∷ operand_places (get_or cs i d).right) ≡ with_places atoms used (flat_map (λ c. c.left ∷ operand_places c.right) (take (i + 1) cs))
used_sides atoms used cs i d l =
    sym (used_append atoms used (flat_map (λ c. c.left ∷ operand_places c.right) (take i cs)) ((get_or cs i d).left ∷ operand_places (get_or cs i d).right))
    ∙ ap (with_places atoms used) (sym (flat_map_more (λ c. c.left ∷ operand_places c.right) cs i d l))

-- one more column, and one more atom
pub range_more : (n : ℕ) → range_with_len 0 (n + 1) ≡ range_with_len 0 n ++ n ∷ []
range_more n = sym (same (range_with_len 0 (n + 1))) ∙ map-range_with_len_more (λ k. k) 0 n n (zero-add n) ∙ ap (λ ks. ks ++ n ∷ []) (same (range_with_len 0 n))
  where
    same : (ks : List ℕ) → map (λ k. k) ks ≡ ks
    same [] = refl
    same (k ∷ ks) = ap (λ r. k ∷ r) (same ks)

abbrev column : ℕ → ColumnId
column c = record { 0 = c }

pub used_list_more : (atoms : List Atom) (used : List Bool) (atom n : ℕ)
    → used_list atoms used atom (n + 1) ≡ used_list atoms used atom n ++ cond (get_or used (place_number atoms (place_at atom n)) false) (record { 0 = n } ∷ [])
    []
used_list_more atoms used atom n =
    ap (λ ns. map column (filter (λ c. get_or used (place_number atoms (place_at atom c)) false) ns)) (range_more n)
    ∙ ap (map column) (filter-append (λ c. get_or used (place_number atoms (place_at atom c)) false) (range_with_len 0 n) (n ∷ []))
    ∙ map-append column (filter (λ c. get_or used (place_number atoms (place_at atom c)) false) (range_with_len 0 n))
    (cond (get_or used (place_number atoms (place_at atom n)) false) (n ∷ []) [])
    ∙ ap (λ cs. used_list atoms used atom n ++ cs) (by (get_or used (place_number atoms (place_at atom n)) false))
  where
    by : (b : Bool) → map column (cond b (n ∷ []) []) ≡ cond b (record { 0 = n } ∷ []) []
    by true = refl
    by false = refl

pub used_more_true : (atoms : List Atom) (used : List Bool) (atom n k : ℕ) → k ≡ place_number atoms (place_at atom n) → get_or used k false ≡ true
    → used_list atoms used atom (n + 1) ≡ used_list atoms used atom n ++ record { 0 = n } ∷ []
used_more_true atoms used atom n k e h = used_list_more atoms used atom n
    ∙ ap (λ b. used_list atoms used atom n ++ cond b (column n ∷ []) []) (ap (λ m. get_or used m false) (sym e) ∙ h)

pub used_more_false : (atoms : List Atom) (used : List Bool) (atom n k : ℕ) → k ≡ place_number atoms (place_at atom n) → get_or used k false ≡ false
    → used_list atoms used atom (n + 1) ≡ used_list atoms used atom n
used_more_false atoms used atom n k e h = used_list_more atoms used atom n
    ∙ ap (λ b. used_list atoms used atom n ++ cond b (column n ∷ []) []) (ap (λ m. get_or used m false) (sym e) ∙ h) ∙ append-nil (used_list atoms used atom n)

enumerated_more : {A B : Type 0} (f : ℕ × A → B) (xs : List A) (i : ℕ) (d : A) → i < length xs
    → map f (take (i + 1) (enumerate_from 0 xs)) ≡ map f (take i (enumerate_from 0 xs)) ++ f (i, get_or xs i d) ∷ []
enumerated_more f xs i d l =
    ap (λ k. map f (take k (enumerate_from 0 xs))) (add-one i)
    ∙ ap (map f) (take-suc (enumerate_from 0 xs) i (i, d) (subst (λ n. i < n) (sym (length-enumerate_from 0 xs)) l))
    ∙ map-append f (take i (enumerate_from 0 xs)) (get_or (enumerate_from 0 xs) i (i, d) ∷ [])
    ∙ ap (λ e. map f (take i (enumerate_from 0 xs)) ++ f e ∷ []) (get_or-enumerate_from 0 xs i (i, d) l ∙ ap (λ n. (n, get_or xs i d)) (zero-add i))

enumerated_all : {A B : Type 0} (f : ℕ × A → B) (xs : List A) → map f (take (length xs) (enumerate_from 0 xs)) ≡ map f (enumerate_from 0 xs)
enumerated_all f xs = ap (λ n. map f (take n (enumerate_from 0 xs))) (sym (length-enumerate_from 0 xs)) ∙ ap (map f) (take-length (enumerate_from 0 xs))

-- a list for each atom: one more, at a step of a loop over the atoms, and all of them after its last
pub listed_more : {A : Type 0} (f : ℕ × Atom → A) (atoms : List Atom) (i : ℕ) (lists new : List A) (item : A) → i < length atoms
    → new ≡ lists ++ item ∷ [] → lists ≡ map f (take i (enumerate_from 0 atoms))
    → item ≡ f (i, get_or atoms i (record { table = record { 0 = 0 }; width = 0 })) → new ≡ map f (take (i + 1) (enumerate_from 0 atoms))
listed_more f atoms i lists new item l e so is =
    pushed lists (map f (take i (enumerate_from 0 atoms))) new item (f (i, get_or atoms i (record { table = record { 0 = 0 }; width = 0 }))) e so is
    ∙ sym (enumerated_more f atoms i (record { table = record { 0 = 0 }; width = 0 }) l)

pub listed_all : {A : Type 0} (f : ℕ × Atom → A) (atoms : List Atom) (i : ℕ) (lists : List A) → i ≡ length atoms
    → lists ≡ map f (take i (enumerate_from 0 atoms)) → lists ≡ map f (enumerate_from 0 atoms)
listed_all f atoms i lists whole so = so ∙ ap (λ n. map f (take n (enumerate_from 0 atoms))) whole ∙ enumerated_all f atoms

pub class_lists_more : (atoms : List Atom) (classes : List ℕ) (i : ℕ) (d : Atom) → i < length atoms
    → map (λ a. class_list atoms classes a.0 a.1.width) (take (i + 1) (enumerate_from 0 atoms))
    ≡ map (λ a. class_list atoms classes a.0 a.1.width) (take i (enumerate_from 0 atoms)) ++ class_list atoms classes i (get_or atoms i d).width ∷ []
class_lists_more atoms classes i d l = enumerated_more (λ a. class_list atoms classes a.0 a.1.width) atoms i d l

pub class_lists_all : (atoms : List Atom) (classes : List ℕ)
    → map (λ a. class_list atoms classes a.0 a.1.width) (take (length atoms) (enumerate_from 0 atoms)) ≡ class_lists atoms classes
class_lists_all atoms classes = enumerated_all (λ a. class_list atoms classes a.0 a.1.width) atoms

pub used_lists_more : (atoms : List Atom) (used : List Bool) (i : ℕ) (d : Atom) → i < length atoms
    → map (λ a. used_list atoms used a.0 a.1.width) (take (i + 1) (enumerate_from 0 atoms))
    ≡ map (λ a. used_list atoms used a.0 a.1.width) (take i (enumerate_from 0 atoms)) ++ used_list atoms used i (get_or atoms i d).width ∷ []
used_lists_more atoms used i d l = enumerated_more (λ a. used_list atoms used a.0 a.1.width) atoms i d l

pub used_lists_all : (atoms : List Atom) (used : List Bool) → map (λ a. used_list atoms used a.0 a.1.width) (take (length atoms) (enumerate_from 0 atoms))
    ≡ used_lists atoms used
used_lists_all atoms used = enumerated_all (λ a. used_list atoms used a.0 a.1.width) atoms

has-set : (set : List Bool) (c k : ℕ) → k < length set → has (slice_set set c true) k ≡ ((c == k) || has set k)
has-set [] c k l = absurd (omega (arith, l))
has-set (b ∷ set) zero zero l = refl
has-set (b ∷ set) zero (suc k) l = let e : (zero == suc k) ≡ false = grind (arith, nat_tests) in ap (λ t. t || has set k) (sym e)
has-set (b ∷ set) (suc c) zero l = let e : (suc c == zero) ≡ false = grind (arith, nat_tests) in ap (λ t. t || b) (sym e)
has-set (b ∷ set) (suc c) (suc k) l = let e : (suc c == suc k) ≡ (c == k) = grind (arith, nat_tests) in
    has-set set c k (omega arith) ∙ ap (λ t. t || has set k) (sym e)

-- the used places are those of the list, where none was used before
has-used : (set : List Bool) (ks : List ℕ) (k : ℕ) → k < length set → has (with_classes set ks) k ≡ (list_any (λ c. c == k) ks || has set k)
has-used set [] k l = refl
has-used set (c ∷ ks) k l =
    has-used (slice_set set c true) ks k (subst (λ n. k < n) (sym (length-set set c true)) l)
    ∙ ap (λ b. list_any (λ d. d == k) ks || b) (has-set set c k l)
    ∙ turned (list_any (λ d. d == k) ks) (c == k) (has set k)
  where
    turned : (a b c : Bool) → (a || (b || c)) ≡ ((b || a) || c)
    turned true true c = refl
    turned true false c = refl
    turned false true c = refl
    turned false false c = refl

none_there : (n k : ℕ) → has (replicate n false) k ≡ false
none_there zero k = refl
none_there (suc n) zero = refl
none_there (suc n) (suc k) = none_there n k

or_false : (a : Bool) → (a || false) ≡ a
or_false true = refl
or_false false = refl

any_numbered : (atoms : List Atom) (p : Place) (ps : List Place) → IsPlace atoms p → All (IsPlace atoms) ps
    → list_any (λ c. c == place_number atoms p) (map (place_number atoms) ps) ≡ list_any (same_place p) ps
any_numbered atoms p [] h all = refl
any_numbered atoms p (q ∷ ps) h all =
    ap (λ b. b || list_any (λ c. c == place_number atoms p) (map (place_number atoms) ps))
    (eqb_turned (place_number atoms q) (place_number atoms p) ∙ number_same atoms p q h (all 0 q (omega arith)))
    ∙ ap (λ b. same_place p q || b) (any_numbered atoms p ps h (λ k d l. all (suc k) d (omega arith)))
  where
    eqb_turned : (a b : ℕ) → (a == b) ≡ (b == a)
    eqb_turned a b = grind (arith, nat_tests)

module _ (atoms : List Atom) (n : ℕ) (ps : List Place) (full : n ≡ offset atoms (length atoms)) (all : All (IsPlace atoms) ps) where
  pub used_at : (p : Place) → IsPlace atoms p → has (with_places atoms (replicate n false) ps) (place_number atoms p) ≡ list_any (same_place p) ps
  unfolding with_places
  used_at p h =
      let l = number_below atoms p h in
      has-used (replicate n false) (map (place_number atoms) ps) (place_number atoms p)
      (subst (λ m. place_number atoms p < m) (sym full ∙ sym (length-replicate n false)) l)
      ∙ ap (λ b. list_any (λ c. c == place_number atoms p) (map (place_number atoms) ps) || b) (none_there n (place_number atoms p))
      ∙ or_false (list_any (λ c. c == place_number atoms p) (map (place_number atoms) ps))
      ∙ any_numbered atoms p ps h all

pairs_are : (atoms : List Atom) (es : List (Place × Place)) → All (λ e. IsPlace atoms e.0 × IsPlace atoms e.1) es
    → All (IsPlace atoms) (flat_map (λ e. e.0 ∷ e.1 ∷ []) es)
pairs_are atoms [] h = All-nil (IsPlace atoms)
pairs_are atoms (e ∷ es) h =
    let b = All-head (λ d. IsPlace atoms d.0 × IsPlace atoms d.1) e es h in
    All-cons (IsPlace atoms) e.0 (e.1 ∷ flat_map (λ d. d.0 ∷ d.1 ∷ []) es) b.0
    (All-cons (IsPlace atoms) e.1 (flat_map (λ d. d.0 ∷ d.1 ∷ []) es) b.1 (pairs_are atoms es (All-tail (λ d. IsPlace atoms d.0 × IsPlace atoms d.1) e es h)))

sides_are : (atoms : List Atom) (cs : List Comparison) → All (ComparisonIsWellFormed atoms) cs
    → All (IsPlace atoms) (flat_map (λ c. c.left ∷ operand_places c.right) cs)
sides_are atoms [] h = All-nil (IsPlace atoms)
sides_are atoms (c ∷ cs) h =
    let b = All-head (ComparisonIsWellFormed atoms) c cs h in
    All-cons (IsPlace atoms) c.left (operand_places c.right ++ flat_map (λ d. d.left ∷ operand_places d.right) cs) b.left
    (All-append (IsPlace atoms) (operand_places c.right) (flat_map (λ d. d.left ∷ operand_places d.right) cs) (operand c.right b.right)
    (sides_are atoms cs (All-tail (ComparisonIsWellFormed atoms) c cs h)))
  where
    operand : (o : Operand) → OperandIsPlace atoms o → All (IsPlace atoms) (operand_places o)
    operand (At place) g = All-cons (IsPlace atoms) place [] g (All-nil (IsPlace atoms))
    operand (Fixed value) g = All-nil (IsPlace atoms)

module _ (block : Block) (shape : BlockIsWellFormed block) where
  used_are : All (IsPlace block.atoms) (used_places block)
  used_are =
      All-append (IsPlace block.atoms) (flat_map (λ e. e.0 ∷ e.1 ∷ []) block.equalities ++ map (λ c. c.0) block.constants ++ flat_map
      (λ c. c.left ∷ operand_places c.right) block.comparisons) block.output
      (All-append (IsPlace block.atoms) (flat_map (λ e. e.0 ∷ e.1 ∷ []) block.equalities ++ map (λ c. c.0) block.constants)
      (flat_map (λ c. c.left ∷ operand_places c.right) block.comparisons)
      (All-append (IsPlace block.atoms) (flat_map (λ e. e.0 ∷ e.1 ∷ []) block.equalities) (map (λ c. c.0) block.constants)
      (pairs_are block.atoms block.equalities shape.equalities)
      (All-map (IsPlace block.atoms) (λ c. c.0) block.constants shape.constants))
      (sides_are block.atoms block.comparisons shape.comparisons))
      shape.output

-- lists that agree at every place of the atoms
map_agrees : {A B : Type 0} (f g : A → B) (xs : List A) → ((x : A) → Has xs x → f x ≡ g x) → map f xs ≡ map g xs
map_agrees f g [] h = refl
map_agrees f g (x ∷ xs) h = ap (λ y. y ∷ map f xs) (h x (inl refl)) ∙ ap (λ ys. g x ∷ ys) (map_agrees f g xs (λ y m. h y (inr m)))

filter_agrees : {A : Type 0} (p q : A → Bool) (xs : List A) → ((x : A) → Has xs x → p x ≡ q x) → filter p xs ≡ filter q xs
filter_agrees p q [] h = refl
filter_agrees p q (x ∷ xs) h = ap (λ b. cond b (x ∷ filter p xs) (filter p xs)) (h x (inl refl))
    ∙ ap (λ ys. cond (q x) (x ∷ ys) ys) (filter_agrees p q xs (λ y m. h y (inr m)))

-- an atom among those that are numbered
pub data IsNumbered (atoms : List Atom) (a : ℕ × Atom) : Type 0 where
  numbered : a.0 < length atoms → width_of atoms a.0 ≡ a.1.width → IsNumbered atoms a

abbrev Continues : List Atom → ℕ → List Atom → Type 0
Continues all i rest = (k : ℕ) (d : Atom) → k < length rest → get_or all (i + k) d ≡ get_or rest k d

numbered_from : (all : List Atom) (i : ℕ) (rest : List Atom) → Continues all i rest → i + length rest ≡ length all → (a : ℕ × Atom)
    → Has (enumerate_from i rest) a → IsNumbered all a
numbered_from all i [] h n a m = absurd m
numbered_from all i (b ∷ rest) h n a (inl e) =
    let f = ap (λ x. x.0) e in
    let g = ap (λ x. x.1.width) e in
    let here : get_or all i b ≡ b = ap (λ k. get_or all k b) (sym (add-zero i)) ∙ h 0 b (omega arith) in
    numbered (omega arith) (ap (width_of all) f ∙ width_at all i b (omega arith) ∙ ap (λ x. x.width) here ∙ sym g)
numbered_from all i (b ∷ rest) h n a (inr m) =
    numbered_from all (i + 1) rest (λ k d l. let e : i + 1 + k ≡ i + suc k = omega arith in ap (λ x. get_or all x d) e ∙ h (suc k) d (omega arith))
    (omega arith) a m

place_numbered : (atoms : List Atom) (a : ℕ × Atom) (c : ℕ) → IsNumbered atoms a → Has (range_with_len 0 a.1.width) c → IsPlace atoms (place_at a.0 c)
place_numbered atoms a c (numbered l w) h = let b = in_range 0 a.1.width c h in record { atom = l; column = omega arith }

abbrev pair : ℕ → Value → ℕ × Value
pair n value = (n, value)

module _ (block : Block) (shape : BlockIsWellFormed block) where
  member : (a : ℕ × Atom) → Has (enumerate_from 0 block.atoms) a → IsNumbered block.atoms a
  member a h = numbered_from block.atoms 0 block.atoms (λ k d l. ap (λ n. get_or block.atoms n d) (zero-add k)) (zero-add (length block.atoms)) a h

  module _ (n : ℕ) (full : n ≡ offset block.atoms (length block.atoms)) where
    needed_lists : used_lists block.atoms (with_places block.atoms (replicate n false) (used_places block))
        ≡ map (λ a. needed_columns block a.0 a.1.width) (enumerate_from 0 block.atoms)
    needed_lists = map_agrees (λ a. used_list block.atoms (with_places block.atoms (replicate n false) (used_places block)) a.0 a.1.width)
        (λ a. needed_columns block a.0 a.1.width) (enumerate_from 0 block.atoms)
        (λ a m. ap (map column) (filter_agrees (λ c. has (with_places block.atoms (replicate n false) (used_places block))
        (place_number block.atoms (place_at a.0 c)))
        (λ c. list_any (same_place (place_at a.0 c)) (used_places block)) (range_with_len 0 a.1.width)
        (λ c k. used_at block.atoms n (used_places block) full (used_are block shape) (place_at a.0 c) (place_numbered block.atoms a c (member a m) k))))

  module _ (labels : List ℕ) (are : AreLabels block.atoms block.equalities labels) where
    classes_are : class_lists block.atoms (map (rank labels) labels)
        ≡ map (λ a. map (λ c. class_of block (place_at a.0 c)) (range_with_len 0 a.1.width)) (enumerate_from 0 block.atoms)
    classes_are = map_agrees (λ a. class_list block.atoms (map (rank labels) labels) a.0 a.1.width)
        (λ a. map (λ c. class_of block (place_at a.0 c)) (range_with_len 0 a.1.width)) (enumerate_from 0 block.atoms)
        (λ a m. map_agrees (λ c. get_or (map (rank labels) labels) (place_number block.atoms (place_at a.0 c)) 0) (λ c. class_of block (place_at a.0 c))
        (range_with_len 0 a.1.width)
        (λ c k. class_by_label block labels are (place_at a.0 c) (place_numbered block.atoms a c (member a m) k)))

    abbrev by_label : Place × Value → ℕ × Value
    by_label c = pair (get_or (map (rank labels) labels) (place_number block.atoms c.0) 0) c.1

    abbrev by_class : Place × Value → ℕ × Value
    by_class c = pair (class_of block c.0) c.1

    constants_from : (cs : List (Place × Value)) → All (λ c. IsPlace block.atoms c.0) cs → map by_label cs ≡ map by_class cs
    constants_from [] h = refl
    constants_from (c ∷ cs) h =
        ap (λ n. pair n c.1 ∷ map by_label cs) (class_by_label block labels are c.0 (All-head (λ d. IsPlace block.atoms d.0) c cs h))
        ∙ ap (λ ds. by_class c ∷ ds) (constants_from cs (All-tail (λ d. IsPlace block.atoms d.0) c cs h))

    -- what is read off the labels and the used places is the normal form
    pub normal_is : (n : ℕ) → n ≡ offset block.atoms (length block.atoms)
        → (atoms : List Atom) (classes : List (List ℕ)) (count : ℕ) (constants : List (ℕ × Value)) (needed : List (List ColumnId))
        (comparisons : List Comparison) (output : List Place) → atoms ≡ block.atoms → classes ≡ class_lists block.atoms (map (rank labels) labels)
        → count ≡ length (heads labels) → constants ≡ map by_label block.constants
        → needed ≡ used_lists block.atoms (with_places block.atoms (replicate n false) (used_places block))
        → comparisons ≡ block.comparisons → output ≡ block.output
        → ◌≡◌ {A = Normal} (record {
          atoms = atoms;
          classes = classes;
          count = count;
          constants = constants;
          needed = needed;
          comparisons = comparisons;
          output = output;
        }) (normal_of block)
    unfolding normal_of
    normal_is n full atoms classes count constants needed comparisons output a b c d e f g =
        let classes_is = b ∙ classes_are in
        let count_is = c ∙ count_by_label block labels are in
        let constants_is = d ∙ constants_from block.constants shape.constants in
        let needed_is = e ∙ needed_lists n full in
        cc

-- the same, as the calls hand it on
pub normal_from : (block : Block) → BlockIsWellFormed block → (atoms : List Atom) → atoms ≡ block.atoms → (equalities : List (Place × Place))
    → equalities ≡ block.equalities → (labels numbers : List ℕ) → AreLabels atoms equalities labels → numbers ≡ map (rank labels) labels
    → (n : ℕ) → n ≡ offset atoms (length atoms) → (unused used : List Bool)
    → unused ≡ replicate n false → used ≡ with_places block.atoms unused (used_places block)
    → (given : List (Place × Value)) → given ≡ block.constants
    → (atoms2 : List Atom) (classes : List (List ℕ)) (count : ℕ) (constants : List (ℕ × Value)) (needed : List (List ColumnId)) (comparisons : List Comparison)
    (output : List Place)
    → atoms2 ≡ block.atoms → classes ≡ class_lists atoms numbers → count ≡ length (heads labels)
    → constants ≡ map (λ c. pair (get_or numbers (place_number atoms c.0) 0) c.1) given
    → needed ≡ used_lists atoms used → comparisons ≡ block.comparisons → output ≡ block.output
    → ◌≡◌ {A = Normal} (record {
      atoms = atoms2;
      classes = classes;
      count = count;
      constants = constants;
      needed = needed;
      comparisons = comparisons;
      output = output;
    }) (normal_of block)
normal_from block shape atoms ea equalities ee labels numbers are en n full unused used e0 eu given eg atoms2 classes count constants needed comparisons
    output a b c d e f g =
    let full2 : n ≡ offset block.atoms (length block.atoms) = full ∙ ap (λ given_atoms. offset given_atoms (length given_atoms)) ea in
    let are2 = subst (λ given_atoms. AreLabels given_atoms block.equalities labels) ea (subst (λ ps. AreLabels atoms ps labels) ee are) in
    normal_is block shape labels are2 n full2 atoms2 classes count constants needed comparisons output a
    (b ∙ ap (λ given_atoms. class_lists given_atoms numbers) ea ∙ ap (class_lists block.atoms) en)
    c
    (d ∙ ap (map (λ c. pair (get_or numbers (place_number atoms c.0) 0) c.1)) eg
    ∙ ap (λ given_atoms. map (λ c. pair (get_or numbers (place_number given_atoms c.0) 0) c.1) block.constants) ea
    ∙ ap (λ ns. map (λ c. pair (get_or ns (place_number block.atoms c.0) 0) c.1) block.constants) en)
    (e ∙ ap (λ given_atoms. used_lists given_atoms used) ea
    ∙ ap (used_lists block.atoms) (eu ∙ ap (λ none. with_places block.atoms none (used_places block)) e0)) f g
