-- A text that grows lexeme by lexeme is the text of all of them.
use Rattle.std.proofs.Common.{◌≡◌, ℕ, ◌+◌, ◌<◌, ◌≤◌, true, List, [], ◌∷◌, ◌++◌, length, get_or, drop, refl, sym, ap, ◌∙◌, append_assoc}
use Rattle.std.specs.List.{flat_map}
use Rattle.std.proofs.lemmas.List.{append-nil, at_drop_more, drop_all, nil_from_length}
use Rattle.std.proofs.lemmas.List.Concat.{flat_map-cons}
use Rattle.sql_text.specs.Canonical.{Lexeme, text_of_lexemes, parts_with}
use Rattle.sql_text.specs.Writing.{Written, put, put_all}

pub put_all_append : (w : Written) (xs ys : List Lexeme) → put_all w (xs ++ ys) ≡ put_all (put_all w xs) ys
unfolding put_all
put_all_append w [] ys = refl
put_all_append w (x ∷ xs) ys = put_all_append (put w x) xs ys

pub put_all_text : (w : Written) (xs : List Lexeme) → (put_all w xs).text ≡ w.text ++ text_of_lexemes w.held xs
unfolding put_all
put_all_text w [] = sym (append-nil w.text)
put_all_text w (x ∷ xs) = put_all_text (put w x) xs ∙ simp append_assoc

-- one more part of a list
pub one_more : {X : Type 0} (between : Lexeme) (part : X → List Lexeme) (w next : Written) (xs : List X) (i : ℕ) (x : X) → x ≡ get_or xs i x → i < length xs
    → next ≡ put_all (put w between) (part x)
    → put_all w (flat_map (λ y. between ∷ part y) (drop i xs)) ≡ put_all next (flat_map (λ y. between ∷ part y) (drop (i + 1) xs))
unfolding put_all
one_more {X} between part w next xs i x e lt n =
    let others : List Lexeme = flat_map (λ y. between ∷ part y) (drop (i + 1) xs) in
    at_drop_more (λ ys. put_all w (flat_map (λ y. between ∷ part y) ys)) xs i x lt
    ∙ ap (λ y. put_all w (flat_map (λ y. between ∷ part y) (y ∷ drop (i + 1) xs))) (sym e)
    ∙ ap (put_all w) (flat_map-cons (λ y. between ∷ part y) x (drop (i + 1) xs))
    ∙ put_all_append (put w between) (part x) others
    ∙ ap (λ v. put_all v others) (sym n)

pub parts_done : {X : Type 0} (between : Lexeme) (part : X → List Lexeme) (w : Written) (xs : List X) (i : ℕ) → length xs ≤ i
    → put_all w (flat_map (λ y. between ∷ part y) (drop i xs)) ≡ w
unfolding put_all
parts_done between part w xs i le = ap (λ ys. put_all w (flat_map (λ y. between ∷ part y) ys)) (drop_all i xs le)

pub parted_first : {X : Type 0} (between : Lexeme) (part : X → List Lexeme) (w next : Written) (xs rest : List X) (first : X) → xs ≡ first ∷ rest
    → next ≡ put_all w (part first) → put_all next (flat_map (λ y. between ∷ part y) rest) ≡ put_all w (parts_with between part xs)
parted_first between part w next xs rest first e n =
    ap (λ v. put_all v (flat_map (λ y. between ∷ part y) rest)) n ∙ sym (put_all_append w (part first) (flat_map (λ y. between ∷ part y) rest))
    ∙ ap (λ ys. put_all w (parts_with between part ys)) (sym e)

pub parted_nil : {X : Type 0} (between : Lexeme) (part : X → List Lexeme) (w : Written) (xs ys : List X) → ys ≡ xs → length ys ≡ 0
    → w ≡ put_all w (parts_with between part xs)
unfolding put_all
parted_nil between part w xs ys e n = ap (λ zs. put_all w (parts_with between part zs)) (sym (nil_from_length ys n) ∙ e)

pub from_start : (w v : Written) (xs : List Lexeme) → w.text ≡ [] → w.held ≡ true → v ≡ put_all w xs → v.text ≡ text_of_lexemes true xs
from_start w v xs t h e = ap (λ (u : Written). u.text) e ∙ put_all_text w xs ∙ ap (λ ts. ts ++ text_of_lexemes w.held xs) t ∙ ap (λ b. text_of_lexemes b xs) h
