-- What a file's name finds, by the place of the name.
use Rattle.std.proofs.Common.{◌≡◌, ◌≢◌, ◌+◌, ◌++◌, ◌∷◌, [], ◌<◌, ◌≤◌, ◌∙◌, sym, ap, refl, ℕ, List, Bool, true, false, Option, Some, None, cond, length, get_or, set, bytes_eq, nat_lt, arith}
use Rattle.std.specs.List.{find, position, position_or_len, slice_get}
use Rattle.std.specs.Option.{option_map, option_or}
use Rattle.std.proofs.lemmas.Option.{slice_get-get_or, slice_get_past}
use Rattle.std.proofs.lemmas.List.Folds.{find_at, find-set, find_past, find-append}
use Rattle.std.proofs.lemmas.List.Sums.{passes_at_first, sum_by-append}
use Rattle.std.proofs.lemmas.Bool.{false_from_ne_true, ltb-true}
use Rattle.std.proofs.lemmas.Bool.Decides.{nat_tests}
use Rattle.std.proofs.lemmas.Slice.Eq.{bytes_eq-Decides}
use Rattle.outside.specs.declared.shelf.Entry.{Entry}
use Rattle.outside.specs.Contents.{content_of, times}
use Rattle.outside.specs.Counts.{Rose}

abbrev pub is_named : List ℕ → Entry → Bool
is_named name file = bytes_eq file.name name

abbrev pub place_of : List Entry → List ℕ → Option ℕ
place_of files name = position (is_named name) files

placed_at : (n len i : ℕ) → Some i ≡ cond (nat_lt n len) (Some n) None → i ≡ n
placed_at n len i = elim (nat_lt n len) as (λ b. Some i ≡ cond b (Some n) None → i ≡ n) [ true ↦ (λ e. cc) | false ↦ (λ e. cc) ]

placed_in : (n len i : ℕ) → Some i ≡ cond (nat_lt n len) (Some n) None → nat_lt n len ≡ true
placed_in n len i = elim (nat_lt n len) as (λ b. Some i ≡ cond b (Some n) None → b ≡ true) [ true ↦ (λ e. refl) | false ↦ (λ e. cc) ]

not_placed : (n len : ℕ) → None ≡ cond (nat_lt n len) (Some n) None → nat_lt n len ≡ false
not_placed n len = elim (nat_lt n len) as (λ b. None ≡ cond b (Some n) None → b ≡ false) [ true ↦ (λ e. cc) | false ↦ (λ e. refl) ]

pub first_place : (files : List Entry) (name : List ℕ) (i : ℕ) → Some i ≡ place_of files name → i ≡ position_or_len (is_named name) files
first_place files name i is = placed_at (position_or_len (is_named name) files) (length files) i is

pub place_within : (files : List Entry) (name : List ℕ) (i : ℕ) → Some i ≡ place_of files name → i < length files
place_within files name i is =
    let here : i ≡ position_or_len (is_named name) files = first_place files name i is in
    let within : position_or_len (is_named name) files < length files = ltb-true _ _ (placed_in (position_or_len (is_named name) files) (length files) i is) in
    omega arith

named_at : (files : List Entry) (name : List ℕ) (i : ℕ) (d : Entry) → Some i ≡ place_of files name → (get_or files i d).name ≡ name
named_at files name i d is =
    let within = place_within files name i is in
    let here = first_place files name i is in
    let passes : is_named name (get_or files i d) ≡ true = rw here (passes_at_first (is_named name) files d (rw (← here) within)) in
    (bytes_eq-Decides (get_or files i d).name name).0 passes

-- the name at its place
pub content_at : (files : List Entry) (name : List ℕ) (i : ℕ) (d : Entry) → Some i ≡ place_of files name → content_of files name ≡ Some (get_or files i d).bytes
content_at files name i d is =
    let here = first_place files name i is in
    let found : find (is_named name) files ≡ Some (get_or files i d) =
    find_at (is_named name) files ∙ ap (slice_get files) (sym here) ∙ slice_get-get_or files i d (place_within files name i is) in
    ap (option_map (λ file. file.bytes)) found

-- a name that has no place
place_past : (files : List Entry) (name : List ℕ) → None ≡ place_of files name → length files ≤ position_or_len (is_named name) files
place_past files name is =
    let out = not_placed (position_or_len (is_named name) files) (length files) is in
    grind (arith, nat_tests)

not_found : (files : List Entry) (name : List ℕ) → None ≡ place_of files name → find (is_named name) files ≡ None
not_found files name is = find_at (is_named name) files ∙ slice_get_past files (position_or_len (is_named name) files) (place_past files name is)

pub no_content : (files : List Entry) (name : List ℕ) → None ≡ place_of files name → content_of files name ≡ None
no_content files name is = ap (option_map (λ file. file.bytes)) (not_found files name is)

is_other : (one other : List ℕ) (file : Entry) → file.name ≡ one → other ≢ one → is_named other file ≡ false
is_other one other file same differs =
    false_from_ne_true (is_named other file) (λ t. differs (sym ((bytes_eq-Decides file.name other).0 t) ∙ same))

is_itself : (file : Entry) → is_named file.name file ≡ true
is_itself file = (bytes_eq-Decides file.name file.name).1 refl

-- new bytes in the place of the old ones
pub content_set : (files : List Entry) (name : List ℕ) (file : Entry) (i : ℕ) → Some i ≡ place_of files name → file.name ≡ name
    → content_of (set files i file) name ≡ Some file.bytes
content_set files name file i is same =
    ap (option_map (λ f. f.bytes))
    (find-set (is_named name) files i file (first_place files name i is) (place_within files name i is) (rw (← same) (is_itself file)))

pub content_set_other : (files : List Entry) (name other : List ℕ) (file : Entry) (i : ℕ) → Some i ≡ place_of files name → file.name ≡ name → other ≢ name
    → content_of (set files i file) other ≡ content_of files other
content_set_other files name other file i is same differs =
    ap (option_map (λ f. f.bytes))
    (find_past (is_named other) files i file file (is_other name other (get_or files i file) (named_at files name i file is) differs)
    (is_other name other file same differs))

or_none : (found : Option Entry) → option_or found None ≡ found
or_none None = refl
or_none (Some file) = refl

-- a file after all others
pub content_pushed : (files : List Entry) (name : List ℕ) (file : Entry) → None ≡ place_of files name → file.name ≡ name
    → content_of (files ++ file ∷ []) name ≡ Some file.bytes
content_pushed files name file is same =
    let named : is_named name file ≡ true = rw (← same) (is_itself file) in
    let found : find (is_named name) (files ++ file ∷ []) ≡ Some file = rw (find-append (is_named name) files (file ∷ []), not_found files name is, named)
    refl in
    ap (option_map (λ f. f.bytes)) found

pub content_pushed_other : (files : List Entry) (name other : List ℕ) (file : Entry) → file.name ≡ name → other ≢ name
    → content_of (files ++ file ∷ []) other ≡ content_of files other
content_pushed_other files name other file same differs =
    let unnamed : is_named other file ≡ false = is_other name other file same differs in
    let found : find (is_named other) (files ++ file ∷ []) ≡ find (is_named other) files =
    rw (find-append (is_named other) files (file ∷ []), unnamed) (or_none (find (is_named other) files)) in
    ap (option_map (λ f. f.bytes)) found

times_more : (names : List (List ℕ)) (name : List ℕ) → times (names ++ name ∷ []) name ≡ times names name + 1
times_more names name =
    let itself : bytes_eq name name ≡ true = (bytes_eq-Decides name name).1 refl in
    rw (sum_by-append (λ n. cond (bytes_eq n name) 1 0) names (name ∷ []), itself) refl

-- one more failed load of a name
pub rose_after : (before now : List (List ℕ)) (name : List ℕ) → now ≡ before ++ name ∷ [] → Rose (times before name) (times now name)
rose_after before now name grown = rw (grown, times_more before name) (omega arith)
