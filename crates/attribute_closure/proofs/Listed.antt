-- Uses of constraints, listed atom by atom.
use Rattle.std.proofs.Common.{◌≡◌, ◌==◌, ◌<◌, ◌+◌, ℕ, Bool, true, false, cond, List, [], ◌∷◌, ◌++◌, length, map, take, get_or, ap, sym, ◌∙◌, subst, add-one, zero-add, append_assoc}
use Rattle.std.specs.List.{filter, flat_map, enumerate_from}
use Rattle.std.proofs.Math.Seq.{take-suc, take-length}
use Rattle.std.proofs.lemmas.List.{map-append, append-nil}
use Rattle.std.proofs.lemmas.List.Elements.{filter-append}
use Rattle.std.proofs.lemmas.List.FromFn.{length-enumerate_from, get_or-enumerate_from}
use Rattle.beas_core.specs.declared.schema.Access.{Access}
use Rattle.beas_core.specs.declared.query.Atom.{Atom}
use Rattle.beas_core.specs.declared.plan.Normal.{Normal}
use Rattle.beas_core.specs.Types.{Use}
use Rattle.beas_core.specs.Coverage.{uses}

abbrev pub use_of_access : ℕ → Access → Use
use_of_access atom access = record { atom = atom; access = access }

abbrev pub uses_on : List Access → ℕ × Atom → List Use
uses_on accesses a = map (use_of_access a.0) (filter (λ access. access.table.0 == a.1.table.0) accesses)

filtered_more : (p : Access → Bool) (xs : List Access) (i : ℕ) (d : Access) → i < length xs
    → filter p (take (i + 1) xs) ≡ filter p (take i xs) ++ cond (p (get_or xs i d)) (get_or xs i d ∷ []) []
filtered_more p xs i d l = ap (λ k. filter p (take k xs)) (add-one i) ∙ ap (filter p) (take-suc xs i d l) ∙ filter-append p (take i xs) (get_or xs i d ∷ [])

pub uses_more_yes : (accesses : List Access) (atom table i : ℕ) (d : Access) → i < length accesses → ((get_or accesses i d).table.0 == table) ≡ true
    → map (use_of_access atom) (filter (λ access. access.table.0 == table) (take (i + 1) accesses))
    ≡ map (use_of_access atom) (filter (λ access. access.table.0 == table) (take i accesses)) ++ use_of_access atom (get_or accesses i d) ∷ []
uses_more_yes accesses atom table i d l h =
    ap (map (use_of_access atom)) (filtered_more (λ access. access.table.0 == table) accesses i d l
    ∙ ap (λ b. filter (λ access. access.table.0 == table) (take i accesses) ++ cond b (get_or accesses i d ∷ []) []) h)
    ∙ map-append (use_of_access atom) (filter (λ access. access.table.0 == table) (take i accesses)) (get_or accesses i d ∷ [])

pub uses_more_no : (accesses : List Access) (atom table i : ℕ) (d : Access) → i < length accesses → ((get_or accesses i d).table.0 == table) ≡ false
    → map (use_of_access atom) (filter (λ access. access.table.0 == table) (take (i + 1) accesses))
    ≡ map (use_of_access atom) (filter (λ access. access.table.0 == table) (take i accesses))
uses_more_no accesses atom table i d l h =
    ap (map (use_of_access atom)) (filtered_more (λ access. access.table.0 == table) accesses i d l
    ∙ ap (λ b. filter (λ access. access.table.0 == table) (take i accesses) ++ cond b (get_or accesses i d ∷ []) []) h
    ∙ append-nil (filter (λ access. access.table.0 == table) (take i accesses)))

abbrev pub numbered : ℕ → Atom → ℕ × Atom
numbered n a = (n, a)

flat_push : {A B : Type 0} (f : A → List B) (xs : List A) (x : A) → flat_map f (xs ++ x ∷ []) ≡ flat_map f xs ++ f x
flat_push f [] x = append-nil (f x)
flat_push f (y ∷ xs) x = ap (λ zs. f y ++ zs) (flat_push f xs x) ∙ sym (append_assoc (f y) (flat_map f xs) (f x))

pub uses_by_atom : (accesses : List Access) (atoms : List Atom) (i : ℕ) (d : Atom) → i < length atoms
    → flat_map (uses_on accesses) (take i (enumerate_from 0 atoms)) ++ uses_on accesses (i, get_or atoms i d)
    ≡ flat_map (uses_on accesses) (take (i + 1) (enumerate_from 0 atoms))
uses_by_atom accesses atoms i d l = sym (
    ap (λ k. flat_map (uses_on accesses) (take k (enumerate_from 0 atoms))) (add-one i)
    ∙ ap (flat_map (uses_on accesses)) (take-suc (enumerate_from 0 atoms) i (i, d) (subst (λ n. i < n) (sym (length-enumerate_from 0 atoms)) l))
    ∙ flat_push (uses_on accesses) (take i (enumerate_from 0 atoms)) (get_or (enumerate_from 0 atoms) i (i, d))
    ∙ ap (λ a. flat_map (uses_on accesses) (take i (enumerate_from 0 atoms)) ++ uses_on accesses a) (get_or-enumerate_from 0 atoms i (i, d) l
    ∙ ap (λ n. numbered n (get_or atoms i d)) (zero-add i)))

pub uses_step : (accesses : List Access) (atoms items : List Atom) (i : ℕ) (d : Atom) (old new more : List Use) → items ≡ atoms → i < length items
    → old ≡ flat_map (uses_on accesses) (take i (enumerate_from 0 atoms)) → new ≡ old ++ more → more ≡ uses_on accesses (i, get_or items i d)
    → new ≡ flat_map (uses_on accesses) (take (i + 1) (enumerate_from 0 atoms))
uses_step accesses atoms items i d old new more same l eo en em =
    en ∙ ap (λ us. us ++ more) eo ∙ ap (λ us. flat_map (uses_on accesses) (take i (enumerate_from 0 atoms)) ++ us) (em
    ∙ ap (λ xs. uses_on accesses (numbered i (get_or xs i d))) same)
    ∙ uses_by_atom accesses atoms i d (subst (λ xs. i < length xs) same l)

pub uses_of_all : (normal : Normal) (accesses : List Access)
    → flat_map (uses_on accesses) (take (length normal.atoms) (enumerate_from 0 normal.atoms)) ≡ uses normal accesses
uses_of_all normal accesses = ap (λ n. flat_map (uses_on accesses) (take n (enumerate_from 0 normal.atoms))) (sym
    (length-enumerate_from 0 normal.atoms)) ∙ ap (flat_map (uses_on accesses)) (take-length (enumerate_from 0 normal.atoms))
