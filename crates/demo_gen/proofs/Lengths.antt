-- The script of a demonstration is short.
use Rattle.std.proofs.Common.{◌≡◌, ◌∙◌, ◌<◌, ◌≤◌, ◌+◌, ◌*◌, ◌/◌, ◌%◌, ◌^◌, ◌++◌, ℕ, zero, suc, List, [], ◌∷◌, add-one, ap, arith, codes, length, refl, sym}
use Rattle.std.specs.Prelude.{decimal}
use Rattle.std.specs.List.{flat_map}
use Rattle.std.proofs.Math.Nat.{mod-lt, div-le_self}
use Rattle.std.proofs.lemmas.Fmt.{length-decimal-le}
use Rattle.std.proofs.lemmas.Grind.{flat_map-append}
use Rattle.std.proofs.lemmas.List.{length-append}
use Rattle.demo_gen.specs.Draws.{draw_at, state_after}
use Rattle.beas_core.specs.Texts.{concatenation}
use Rattle.demo_gen.specs.Demo.{cafe_at, delete_text, demo_text, dine_at, with_end, friend_at, inserts, queries, query_at, query_text, round_at, rounds, rows_text, separator, tables}
use Rattle.demo_gen.proofs.Rows.{no_rows, one_row}
use Rattle.demo_gen.proofs.Written.{no_queries, no_rounds, one_query, one_round}

digits : (n : ℕ) → n < 10 ^ 5 → length (decimal n) ≤ 5
digits n below = length-decimal-le 5 n (omega arith) below (omega arith)

abbrev lengths : List (List ℕ) → ℕ
lengths [] = 0
lengths (part ∷ parts) = length part + lengths parts

length-joined : (parts : List (List ℕ)) → length (concatenation parts) ≡ lengths parts
length-joined [] = refl
length-joined (part ∷ []) = omega arith
length-joined (part ∷ next ∷ parts) = let h = length-joined (next ∷ parts) in let l = length-append part (concatenation (next ∷ parts)) in omega arith

length-separator : (n : ℕ) → length (separator n) ≤ 2
length-separator zero = omega arith
length-separator (suc n) = omega arith

length-rows : (row : ℕ → List ℕ) (n : ℕ) → ((m : ℕ) → m < n → length (row m) ≤ 48) → length (rows_text row n) ≤ n * 50
length-rows row zero each = let e = ap length (no_rows row) in omega arith
length-rows row (suc n) each =
    let h = length-rows row n (λ m below. each m (omega arith)) in
    let last = each n (omega arith) in
    let e = ap length (ap (rows_text row) (sym (add-one n)) ∙ one_row row n) in
    let l = length-append (rows_text row n) (separator n ++ row n) in
    let m = length-append (separator n) (row n) in
    let s = length-separator n in
    omega arith

length-cafe : (state n : ℕ) → n < 500 → length (cafe_at state n) ≤ 48
length-cafe state n below =
    let city : draw_at state n % 10 < 10 = mod-lt (draw_at state n) (omega arith) in
    let a = digits n (omega arith) in
    let b = digits (draw_at state n % 10) (omega arith) in
    let j = length-joined (codes "(" ∷ decimal n ∷ codes ", 'c" ∷ decimal (draw_at state n % 10) ∷ codes "')" ∷ []) in
    omega arith

length-friend : (state n : ℕ) → n < 20000 → length (friend_at state n) ≤ 48
length-friend state n below =
    let person = div-le_self n 10 in
    let friend : draw_at state n % 2000 < 2000 = mod-lt (draw_at state n) (omega arith) in
    let a = digits (n / 10) (omega (person, below, arith)) in
    let b = digits (draw_at state n % 2000) (omega arith) in
    let j = length-joined (codes "(" ∷ decimal (n / 10) ∷ codes ", " ∷ decimal (draw_at state n % 2000) ∷ codes ")" ∷ []) in
    omega arith

length-dine : (state n : ℕ) → n < 10000 → length (dine_at state n) ≤ 48
length-dine state n below =
    let person = div-le_self n 5 in
    let cafe : draw_at state (2 * n) % 500 < 500 = mod-lt (draw_at state (2 * n)) (omega arith) in
    let month : draw_at state (2 * n + 1) % 12 < 12 = mod-lt (draw_at state (2 * n + 1)) (omega arith) in
    let a = digits (n / 5) (omega (person, below, arith)) in
    let b = digits (draw_at state (2 * n) % 500) (omega arith) in
    let c = digits (1 + draw_at state (2 * n + 1) % 12) (omega arith) in
    let j = length-joined (codes "(" ∷ decimal (n / 5) ∷ codes ", " ∷ decimal (draw_at state (2 * n) % 500) ∷ codes ", 2015, " ∷ decimal
    (1 + draw_at state (2 * n + 1) % 12) ∷ codes ")" ∷ []) in
    omega arith

length-query : (person month city : ℕ) → person < 10 ^ 5 → month < 10 ^ 5 → city < 10 ^ 5 → length (query_text person month city) ≤ 900
unfolding query_text
length-query person month city p m c =
    let a = digits person p in
    let b = digits month m in
    let d = digits city c in
    let j = length-joined (codes "SELECT DISTINCT c.cid FROM friend AS f, dine AS d, cafe AS c WHERE f.pid = " ∷ decimal person
    ∷ codes " AND f.fid = d.pid AND d.year = 2015 AND d.month = " ∷ decimal month
    ∷ codes " AND d.cid = c.cid AND c.city = 'c" ∷ decimal city ∷ codes "'" ∷ []) in
    omega arith

length-query_at : (state n : ℕ) → length (query_at state n) ≤ 900
length-query_at state n =
    let person : draw_at state (3 * n) % 2000 < 2000 = mod-lt (draw_at state (3 * n)) (omega arith) in
    let month : draw_at state (3 * n + 1) % 12 < 12 = mod-lt (draw_at state (3 * n + 1)) (omega arith) in
    let city : draw_at state (3 * n + 2) % 10 < 10 = mod-lt (draw_at state (3 * n + 2)) (omega arith) in
    length-query (draw_at state (3 * n) % 2000) (1 + draw_at state (3 * n + 1) % 12) (draw_at state (3 * n + 2) % 10) (omega arith) (omega arith) (omega arith)

length-delete : (person : ℕ) → person < 10 ^ 5 → length (delete_text person) ≤ 900
unfolding delete_text
length-delete person below = let a = digits person below in let l = length-append (codes "DELETE FROM dine WHERE pid = ") (decimal person) in omega arith

-- ---- statements, each with what ends it

length-both : (first second : List (List ℕ)) → length (flat_map with_end (first ++ second))
    ≡ length (flat_map with_end first) + length (flat_map with_end second)
length-both first second = ap length (flat_map-append with_end first second) ∙ length-append (flat_map with_end first) (flat_map with_end second)

length-one : (statement : List ℕ) → length (flat_map with_end (statement ∷ [])) ≡ length statement + 2
length-one statement =
    let l = length-append statement (codes ";\n") in
    let m = length-append (with_end statement) [] in
    omega arith

length-queries : (state n : ℕ) → length (flat_map with_end (queries state n)) ≤ n * 902
length-queries state zero = let e = ap (λ (qs : List (List ℕ)). length (flat_map with_end qs)) (no_queries state) in omega arith
length-queries state (suc n) =
    let h = length-queries state n in
    let q = length-query_at state n in
    let e = ap (λ (qs : List (List ℕ)). length (flat_map with_end qs)) (ap (queries state) (sym (add-one n)) ∙ one_query state n) in
    let l = length-both (queries state n) (query_at state n ∷ []) in
    let o = length-one (query_at state n) in
    omega arith

length-round : (state : ℕ) → length (flat_map with_end (round_at state)) ≤ 11 * 902
unfolding round_at
length-round state =
    let h = length-queries state 10 in
    let person : draw_at state 30 % 2000 < 2000 = mod-lt (draw_at state 30) (omega arith) in
    let d = length-delete (draw_at state 30 % 2000) (omega arith) in
    let l = length-both (queries state 10) (delete_text (draw_at state 30 % 2000) ∷ []) in
    let o = length-one (delete_text (draw_at state 30 % 2000)) in
    omega arith

length-rounds : (state n : ℕ) → length (flat_map with_end (rounds state n)) ≤ n * 9922
length-rounds state zero = let e = ap (λ (qs : List (List ℕ)). length (flat_map with_end qs)) (no_rounds state) in omega arith
length-rounds state (suc n) =
    let h = length-rounds state n in
    let r = length-round (state_after state (31 * n)) in
    let e = ap (λ (qs : List (List ℕ)). length (flat_map with_end qs)) (ap (rounds state) (sym (add-one n)) ∙ one_round state n) in
    let l = length-both (rounds state n) (round_at (state_after state (31 * n))) in
    omega arith

length-insert : (words : List ℕ) (row : ℕ → List ℕ) (n : ℕ) → ((m : ℕ) → m < n → length (row m) ≤ 48)
    → length (words ++ rows_text row n) ≤ length words + n * 50
length-insert words row n each = let h = length-rows row n each in let l = length-append words (rows_text row n) in omega arith

length-inserts : (seed : ℕ) → length (flat_map with_end (inserts seed)) ≤ 2000000
length-inserts seed =
    let cafes = codes "INSERT INTO cafe VALUES " ++ rows_text (cafe_at seed) 500 in
    let friends = codes "INSERT INTO friend VALUES " ++ rows_text (friend_at (state_after seed 500)) 20000 in
    let meals = codes "INSERT INTO dine VALUES " ++ rows_text (dine_at (state_after seed 20500)) 10000 in
    let a = length-insert (codes "INSERT INTO cafe VALUES ") (cafe_at seed) 500 (length-cafe seed) in
    let b = length-insert (codes "INSERT INTO friend VALUES ") (friend_at (state_after seed 500)) 20000 (length-friend (state_after seed 500)) in
    let c = length-insert (codes "INSERT INTO dine VALUES ") (dine_at (state_after seed 20500)) 10000 (length-dine (state_after seed 20500)) in
    let x = length-both (cafes ∷ []) (friends ∷ meals ∷ []) in
    let y = length-both (friends ∷ []) (meals ∷ []) in
    let oa = length-one cafes in
    let ob = length-one friends in
    let oc = length-one meals in
    omega arith

length-tables : length (flat_map with_end tables) ≤ 2000
length-tables = omega arith

-- far shorter than a script may be
pub length-demo : (seed : ℕ) → length (demo_text seed) ≤ 16777216
unfolding demo_text
length-demo seed =
    let t = length-tables in
    let i = length-inserts seed in
    let r = length-rounds (state_after seed 40500) 10 in
    let a = length-both tables (inserts seed ++ rounds (state_after seed 40500) 10) in
    let b = length-both (inserts seed) (rounds (state_after seed 40500) 10) in
    omega arith
