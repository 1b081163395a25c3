-- A query as a tree of blocks.
--     QueryTree        one block, the rows in either of two trees, or those of one without the other's
--     blocks_of t      its blocks from left to right
use Rattle.std.specs.Prelude.{◌≡◌, ◌⊎◌, List, [], ◌∷◌, ◌++◌, Bool, true, false, refl}
use Rattle.std.specs.Coded.{Coded, coded_list, coded⊎, coded_bool}
use Rattle.std.proofs.Common.{sym, ap, ◌∙◌, append_assoc, inl, inr}
use Rattle.std.proofs.lemmas.List.{append-nil}
use base.Stored.{coded_via}
use Rattle.beas_core.specs.declared.query.Block.{Block}
use Rattle.beas_core.specs.contracts.query.Block.{the_row}

pub data QueryTree : Type 0 where
  Single : Block → QueryTree
  Either : QueryTree → QueryTree → QueryTree
  Minus : QueryTree → QueryTree → QueryTree

abbrev pub blocks_of : QueryTree → List Block
blocks_of (Single b) = b ∷ []
blocks_of (Either l r) = blocks_of l ++ blocks_of r
blocks_of (Minus l r) = blocks_of l ++ blocks_of r

-- the blocks in order, each sign after its two operands: true for UNION
abbrev pub postfix : QueryTree → List (Block ⊎ Bool)
postfix (Single b) = inl b ∷ []
postfix (Either left right) = postfix left ++ (postfix right ++ inr true ∷ [])
postfix (Minus left right) = postfix left ++ (postfix right ++ inr false ∷ [])

-- the trees that a postfix text leaves on a stack
abbrev stack_after : List (Block ⊎ Bool) → List QueryTree → List QueryTree
stack_after [] stack = stack
stack_after (inl b ∷ rest) stack = stack_after rest (Single b ∷ stack)
stack_after (inr true ∷ rest) (right ∷ left ∷ stack) = stack_after rest (Either left right ∷ stack)
stack_after (inr false ∷ rest) (right ∷ left ∷ stack) = stack_after rest (Minus left right ∷ stack)
stack_after (inr sign ∷ rest) (right ∷ []) = []
stack_after (inr sign ∷ rest) [] = []

stacked-postfix : (t : QueryTree) (rest : List (Block ⊎ Bool)) (stack : List QueryTree) → stack_after (postfix t ++ rest) stack ≡ stack_after rest (t ∷ stack)
stacked-postfix (Single b) rest stack = refl
stacked-postfix (Either l r) rest stack =
    ap (λ ts. stack_after ts stack) (append_assoc (postfix l) (postfix r ++ inr true ∷ []) rest
    ∙ ap (λ ts. postfix l ++ ts) (append_assoc (postfix r) (inr true ∷ []) rest))
    ∙ stacked-postfix l (postfix r ++ (inr true ∷ rest)) stack ∙ stacked-postfix r (inr true ∷ rest) (l ∷ stack)
stacked-postfix (Minus l r) rest stack =
    ap (λ ts. stack_after ts stack) (append_assoc (postfix l) (postfix r ++ inr false ∷ []) rest
    ∙ ap (λ ts. postfix l ++ ts) (append_assoc (postfix r) (inr false ∷ []) rest))
    ∙ stacked-postfix l (postfix r ++ (inr false ∷ rest)) stack ∙ stacked-postfix r (inr false ∷ rest) (l ∷ stack)

alone : (t : QueryTree) → stack_after (postfix t) [] ≡ t ∷ []
alone t = ap (λ ts. stack_after ts []) (sym (append-nil (postfix t))) ∙ stacked-postfix t [] []

same_head : (s t : QueryTree) → s ∷ [] ≡ t ∷ [] → s ≡ t
same_head s t e = cc

pub postfix_tells : (s t : QueryTree) → postfix s ≡ postfix t → s ≡ t
postfix_tells s t e = same_head s t (sym (alone s) ∙ ap (λ ts. stack_after ts []) e ∙ alone t)

abbrev pub coded_tree : Coded QueryTree
coded_tree = coded_via (coded_list (coded⊎ the_row.coded coded_bool)) postfix postfix_tells
