-- One item of a list after another is replaced.
use Rattle.std.proofs.Common.{◌≡◌, ◌<◌, ◌≤◌, ◌+◌, ◌∙◌, ℕ, List, length, map, take, get_or, set, ap, sym, subst}
use Rattle.std.specs.List.{All}
use Rattle.std.proofs.lemmas.List.{get_or-set_same, length-set, take-set, take_all}
use Rattle.std.proofs.lemmas.List.Elements.{All-more}
use Rattle.std.proofs.Math.Seq.{map-set_same}

-- by one that f can't tell from it
pub map-set : {X Y : Type 0} (f : X → Y) (items first : List X) (i : ℕ) (new old : X) → old ≡ get_or items i old → f new ≡ f old
    → map f items ≡ map f first → map f (set items i new) ≡ map f first
map-set f items first i new old is same before = map-set_same f items i new old (same ∙ ap f is) ∙ before

-- of one more this is true
pub front-more : {X : Type 0} (P : X → Type 0) (i : ℕ) (items : List X) (new : X) → i < length items → All P (take i items) → P new
    → All P (take (i + 1) (set items i new))
front-more P i items new within all one =
    All-more P (set items i new) i new (subst (λ n. i < n) (sym (length-set items i new)) within)
    (subst (All P) (sym (take-set items i new)) all)
    (subst P (sym (get_or-set_same items i new new within)) one)

pub front-all : {X : Type 0} (P : X → Type 0) (i : ℕ) (items : List X) → length items ≤ i → All P (take i items) → All P items
front-all P i items past all = subst (All P) (take_all i items past) all

pub item-is : {X : Type 0} (P : X → Type 0) (i : ℕ) (items : List X) (item : X) → item ≡ get_or items i item → i < length items → All P items → P item
item-is P i items item is within all = subst P (sym is) (all i item within)
