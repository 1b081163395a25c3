-- Lists that have the same rows.
use Rattle.std.proofs.Common.{◌≡◌, ◌++◌, ◌∷◌, [], List, inl, inr, sym, subst}
use Rattle.beas_core.specs.Types.{Row}
use Rattle.beas_core.proofs.Sets.{Has, Has-append_left, Has-append_right, Has-append_cases, SameMembers}

-- a row that is there already makes no other list
pub same_again : (xs : List Row) (x : Row) → Has xs x → SameMembers xs (xs ++ x ∷ [])
same_again xs x there y = (
  λ h. Has-append_left xs (x ∷ []) y h,
  λ h. elim (Has-append_cases xs (x ∷ []) y h) [
    | inl k ↦ k
    | inr k ↦ elim k [ inl e ↦ subst (Has xs) (sym e) there | inr none ↦ absurd none ]
  ],
)

pub same_equal : (xs ys : List Row) → xs ≡ ys → SameMembers xs ys
same_equal xs ys e y = (λ h. subst (λ zs. Has zs y) e h, λ h. subst (λ zs. Has zs y) (sym e) h)

-- a list that has the rows of another one and one row more
pub same_more : (xs ys zs : List Row) (x : Row) → SameMembers xs ys → SameMembers zs (xs ++ x ∷ []) → SameMembers zs (ys ++ x ∷ [])
same_more xs ys zs x same more y = (
  λ h. elim (Has-append_cases xs (x ∷ []) y ((more y).0 h)) [
    | inl k ↦ Has-append_left ys (x ∷ []) y ((same y).0 k)
    | inr k ↦ Has-append_right ys (x ∷ []) y k
  ],
  λ h. (more y).1 (elim (Has-append_cases ys (x ∷ []) y h) [
    | inl k ↦ Has-append_left xs (x ∷ []) y ((same y).1 k)
    | inr k ↦ Has-append_right xs (x ∷ []) y k
  ]),
)

-- a list goes on with rows that are all the same one, be they few or many
pub same_one : (start now some all : List Row) (x : Row) → SameMembers now (start ++ some) → ((y : Row) → Has some y → y ≡ x)
    → ((y : Row) → Has all y → y ≡ x) → Has some x → Has all x → SameMembers now (start ++ all)
same_one start now some all x same only_some only_all in_some in_all y = (
  λ h. elim (Has-append_cases start some y ((same y).0 h)) [
    | inl k ↦ Has-append_left start all y k
    | inr k ↦ Has-append_right start all y (subst (Has all) (sym (only_some y k)) in_all)
  ],
  λ h. (same y).1 (elim (Has-append_cases start all y h) [
    | inl k ↦ Has-append_left start some y k
    | inr k ↦ Has-append_right start some y (subst (Has some) (sym (only_all y k)) in_some)
  ]),
)
