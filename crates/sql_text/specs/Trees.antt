-- Queries as plain trees.
use Rattle.std.specs.Prelude.{◌≡◌, ◌⊎◌, List, [], ◌∷◌, ◌++◌, Bool, true, false, refl}
use Rattle.std.specs.Coded.{Coded, coded_list, coded⊎, coded_bool}
use Rattle.std.proofs.Common.{sym, ap, ◌∙◌, append_assoc, inl, inr}
use Rattle.std.proofs.lemmas.List.{append-nil}
use base.Stored.{coded_via}
use Rattle.sql_text.specs.declared.tree.BlockTree.{BlockTree}
use Rattle.sql_text.specs.contracts.tree.BlockTree.{the_row}

-- blocks joined by UNION and EXCEPT
pub data Tree : Type 0 where
  Block : BlockTree → Tree
  Union : Tree → Tree → Tree
  Except : Tree → Tree → Tree

-- the blocks in order, each sign after its two operands: true for UNION
abbrev pub postfix : Tree → List (BlockTree ⊎ Bool)
postfix (Block b) = inl b ∷ []
postfix (Union left right) = postfix left ++ (postfix right ++ inr true ∷ [])
postfix (Except left right) = postfix left ++ (postfix right ++ inr false ∷ [])

abbrev pub combination : Bool → Tree → Tree → Tree
combination true left right = Union left right
combination false left right = Except left right

-- the trees that a postfix text leaves on a stack
abbrev pub stack_after : List (BlockTree ⊎ Bool) → List Tree → List Tree
stack_after [] stack = stack
stack_after (inl b ∷ rest) stack = stack_after rest (Block b ∷ stack)
stack_after (inr sign ∷ rest) (right ∷ left ∷ stack) = stack_after rest (combination sign left right ∷ stack)
stack_after (inr sign ∷ rest) (right ∷ []) = []
stack_after (inr sign ∷ rest) [] = []

stacked-postfix : (t : Tree) (rest : List (BlockTree ⊎ Bool)) (stack : List Tree) → stack_after (postfix t ++ rest) stack ≡ stack_after rest (t ∷ stack)
stacked-postfix (Block b) rest stack = refl
stacked-postfix (Union l r) rest stack =
    ap (λ ts. stack_after ts stack) (append_assoc (postfix l) (postfix r ++ inr true ∷ []) rest
    ∙ ap (λ ts. postfix l ++ ts) (append_assoc (postfix r) (inr true ∷ []) rest))
    ∙ stacked-postfix l (postfix r ++ (inr true ∷ rest)) stack ∙ stacked-postfix r (inr true ∷ rest) (l ∷ stack)
stacked-postfix (Except l r) rest stack =
    ap (λ ts. stack_after ts stack) (append_assoc (postfix l) (postfix r ++ inr false ∷ []) rest
    ∙ ap (λ ts. postfix l ++ ts) (append_assoc (postfix r) (inr false ∷ []) rest))
    ∙ stacked-postfix l (postfix r ++ (inr false ∷ rest)) stack ∙ stacked-postfix r (inr false ∷ rest) (l ∷ stack)

alone : (t : Tree) → stack_after (postfix t) [] ≡ t ∷ []
alone t = ap (λ ts. stack_after ts []) (sym (append-nil (postfix t))) ∙ stacked-postfix t [] []

same_head : (s t : Tree) → s ∷ [] ≡ t ∷ [] → s ≡ t
same_head s t e = cc

pub postfix_tells : (s t : Tree) → postfix s ≡ postfix t → s ≡ t
postfix_tells s t e = same_head s t (sym (alone s) ∙ ap (λ ts. stack_after ts []) e ∙ alone t)

abbrev pub coded_tree : Coded Tree
coded_tree = coded_via (coded_list (coded⊎ the_row.coded coded_bool)) postfix postfix_tells
