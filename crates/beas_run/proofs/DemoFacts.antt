-- The text of a demonstration has no `@`, so it names no session.
use Rattle.std.proofs.Common.{◌≡◌, ◌∙◌, ◌<◌, ◌+◌, ◌*◌, ◌/◌, ◌%◌, ◌^◌, ◌++◌, ℕ, zero, suc, List, [], ◌∷◌, add-one, ap, arith, codes, refl, subst, sym, false}
use Rattle.std.specs.Prelude.{decimal}
use Rattle.std.specs.List.{flat_map}
use Rattle.std.proofs.Math.Nat.{mod-lt, div-le_self}
use Rattle.std.proofs.lemmas.Fmt.{decimal_by_steps}
use Rattle.std.proofs.lemmas.Grind.{flat_map-append}
use Rattle.beas_core.specs.Texts.{concatenation}
use Rattle.demo_gen.specs.Draws.{draw_at, state_after}
use Rattle.demo_gen.specs.Demo.{cafe_at, delete_text, demo_text, dine_at, with_end, friend_at, inserts, queries, query_at, query_text, round_at, rounds, rows_text, separator, tables}
use Rattle.demo_gen.proofs.Rows.{no_rows, one_row}
use Rattle.demo_gen.proofs.Written.{no_queries, no_rounds, one_query, one_round}
use Rattle.beas_run.specs.NoSessions.{NamesNoSession}
use Rattle.beas_run.proofs.UnmarkedFacts.{Unmarked, has_mark, names_none, unmarked, unmarked-append}

abbrev AllUnmarked : List (List ℕ) → Type 0
AllUnmarked [] = Unit {0}
AllUnmarked (part ∷ parts) = Unmarked part × AllUnmarked parts

joined : (parts : List (List ℕ)) → AllUnmarked parts → Unmarked (concatenation parts)
joined [] h = tt
joined (part ∷ []) h = h.0
joined (part ∷ next ∷ parts) h = unmarked-append part (concatenation (next ∷ parts)) h.0 (joined (next ∷ parts) h.1)

digits : (n : ℕ) → n < 10 ^ 5 → Unmarked (decimal n)
digits n below =
    decimal_by_steps (λ n ds. Unmarked ds) (λ n few. (omega (arith, few), tt))
    (λ n ds many h. let last : n % 10 < 10 = mod-lt n (omega arith) in unmarked-append ds ((48 + n % 10) ∷ []) h (omega (arith, last), tt))
    n (omega (arith, below))

-- words, a number, and what comes after them
numbered : (words : List ℕ) (n : ℕ) (rest : List (List ℕ)) → has_mark words ≡ false → n < 10 ^ 5 → AllUnmarked rest
    → AllUnmarked (words ∷ decimal n ∷ rest)
numbered words n rest none below h = (unmarked words none, (digits n below, h))

-- ---- rows

between : (n : ℕ) → Unmarked (separator n)
between zero = tt
between (suc n) = unmarked (codes ", ") refl

rows : (row : ℕ → List ℕ) (n : ℕ) → ((m : ℕ) → m < n → Unmarked (row m)) → Unmarked (rows_text row n)
rows row zero each = subst Unmarked (sym (no_rows row)) tt
rows row (suc n) each =
    let first = rows row n (λ m below. each m (omega (arith, below))) in
    subst Unmarked (sym (ap (rows_text row) (sym (add-one n)) ∙ one_row row n))
    (unmarked-append (rows_text row n) (separator n ++ row n) first
    (unmarked-append (separator n) (row n) (between n) (each n (omega arith))))

cafe : (state n : ℕ) → n < 500 → Unmarked (cafe_at state n)
cafe state n below =
    let city = draw_at state n % 10 in
    let few : city < 10 = mod-lt (draw_at state n) (omega arith) in
    let end = codes "')" ∷ [] in
    let of_city = codes ", 'c" ∷ decimal city ∷ end in
    joined (codes "(" ∷ decimal n ∷ of_city)
    (numbered (codes "(") n of_city refl (omega (arith, below))
    (numbered (codes ", 'c") city end refl (omega (arith, few)) (unmarked (codes "')") refl, tt)))

friend : (state n : ℕ) → n < 20000 → Unmarked (friend_at state n)
friend state n below =
    let person = div-le_self n 10 in
    let other = draw_at state n % 2000 in
    let few : other < 2000 = mod-lt (draw_at state n) (omega arith) in
    let end = codes ")" ∷ [] in
    let of_other = codes ", " ∷ decimal other ∷ end in
    joined (codes "(" ∷ decimal (n / 10) ∷ of_other)
    (numbered (codes "(") (n / 10) of_other refl (omega (arith, person, below))
    (numbered (codes ", ") other end refl (omega (arith, few)) (unmarked (codes ")") refl, tt)))

dine : (state n : ℕ) → n < 10000 → Unmarked (dine_at state n)
dine state n below =
    let person = div-le_self n 5 in
    let place = draw_at state (2 * n) % 500 in
    let month = 1 + draw_at state (2 * n + 1) % 12 in
    let few : place < 500 = mod-lt (draw_at state (2 * n)) (omega arith) in
    let fewer : draw_at state (2 * n + 1) % 12 < 12 = mod-lt (draw_at state (2 * n + 1)) (omega arith) in
    let end = codes ")" ∷ [] in
    let of_month = codes ", 2015, " ∷ decimal month ∷ end in
    let of_place = codes ", " ∷ decimal place ∷ of_month in
    joined (codes "(" ∷ decimal (n / 5) ∷ of_place)
    (numbered (codes "(") (n / 5) of_place refl (omega (arith, person, below))
    (numbered (codes ", ") place of_month refl (omega (arith, few))
    (numbered (codes ", 2015, ") month end refl (omega (arith, fewer)) (unmarked (codes ")") refl, tt))))

-- ---- statements, each with what ends it

query : (person month city : ℕ) → person < 10 ^ 5 → month < 10 ^ 5 → city < 10 ^ 5 → Unmarked (query_text person month city)
unfolding query_text
query person month city p m c =
    let start = codes "SELECT DISTINCT c.cid FROM friend AS f, dine AS d, cafe AS c WHERE f.pid = " in
    let middle = codes " AND f.fid = d.pid AND d.year = 2015 AND d.month = " in
    let last = codes " AND d.cid = c.cid AND c.city = 'c" in
    let end = codes "'" ∷ [] in
    let of_city = last ∷ decimal city ∷ end in
    let of_month = middle ∷ decimal month ∷ of_city in
    joined (start ∷ decimal person ∷ of_month)
    (numbered start person of_month refl p
    (numbered middle month of_city refl m (numbered last city end refl c (unmarked (codes "'") refl, tt))))

query_drawn : (state n : ℕ) → Unmarked (query_at state n)
query_drawn state n =
    let person : draw_at state (3 * n) % 2000 < 2000 = mod-lt (draw_at state (3 * n)) (omega arith) in
    let month : draw_at state (3 * n + 1) % 12 < 12 = mod-lt (draw_at state (3 * n + 1)) (omega arith) in
    let city : draw_at state (3 * n + 2) % 10 < 10 = mod-lt (draw_at state (3 * n + 2)) (omega arith) in
    query (draw_at state (3 * n) % 2000) (1 + draw_at state (3 * n + 1) % 12) (draw_at state (3 * n + 2) % 10)
    (omega (arith, person)) (omega (arith, month)) (omega (arith, city))

deletion : (person : ℕ) → person < 10 ^ 5 → Unmarked (delete_text person)
unfolding delete_text
deletion person below =
    unmarked-append (codes "DELETE FROM dine WHERE pid = ") (decimal person) (unmarked (codes "DELETE FROM dine WHERE pid = ") refl) (digits person below)

both : (first second : List (List ℕ)) → Unmarked (flat_map with_end first) → Unmarked (flat_map with_end second)
    → Unmarked (flat_map with_end (first ++ second))
both first second f s =
    subst Unmarked (sym (flat_map-append with_end first second)) (unmarked-append (flat_map with_end first) (flat_map with_end second) f s)

one : (statement : List ℕ) → Unmarked statement → Unmarked (flat_map with_end (statement ∷ []))
one statement h =
    unmarked-append (with_end statement) [] (unmarked-append statement (codes ";\n") h (unmarked (codes ";\n") refl)) tt

all_queries : (state n : ℕ) → Unmarked (flat_map with_end (queries state n))
all_queries state zero = subst (λ qs. Unmarked (flat_map with_end qs)) (sym (no_queries state)) tt
all_queries state (suc n) =
    subst (λ qs. Unmarked (flat_map with_end qs)) (sym (ap (queries state) (sym (add-one n)) ∙ one_query state n))
    (both (queries state n) (query_at state n ∷ []) (all_queries state n) (one (query_at state n) (query_drawn state n)))

round : (state : ℕ) → Unmarked (flat_map with_end (round_at state))
unfolding round_at
round state =
    let person : draw_at state 30 % 2000 < 2000 = mod-lt (draw_at state 30) (omega arith) in
    let last = delete_text (draw_at state 30 % 2000) in
    both (queries state 10) (last ∷ []) (all_queries state 10) (one last (deletion (draw_at state 30 % 2000) (omega (arith, person))))

all_rounds : (state n : ℕ) → Unmarked (flat_map with_end (rounds state n))
all_rounds state zero = subst (λ qs. Unmarked (flat_map with_end qs)) (sym (no_rounds state)) tt
all_rounds state (suc n) =
    subst (λ qs. Unmarked (flat_map with_end qs)) (sym (ap (rounds state) (sym (add-one n)) ∙ one_round state n))
    (both (rounds state n) (round_at (state_after state (31 * n))) (all_rounds state n) (round (state_after state (31 * n))))

insert : (words : List ℕ) (row : ℕ → List ℕ) (n : ℕ) → Unmarked words → ((m : ℕ) → m < n → Unmarked (row m)) → Unmarked (words ++ rows_text row n)
insert words row n first each = unmarked-append words (rows_text row n) first (rows row n each)

all_inserts : (seed : ℕ) → Unmarked (flat_map with_end (inserts seed))
all_inserts seed =
    let cafes = codes "INSERT INTO cafe VALUES " ++ rows_text (cafe_at seed) 500 in
    let friends = codes "INSERT INTO friend VALUES " ++ rows_text (friend_at (state_after seed 500)) 20000 in
    let meals = codes "INSERT INTO dine VALUES " ++ rows_text (dine_at (state_after seed 20500)) 10000 in
    let a = insert (codes "INSERT INTO cafe VALUES ") (cafe_at seed) 500 (unmarked (codes "INSERT INTO cafe VALUES ") refl) (cafe seed) in
    let b = insert (codes "INSERT INTO friend VALUES ") (friend_at (state_after seed 500)) 20000 (unmarked (codes "INSERT INTO friend VALUES ") refl)
    (friend (state_after seed 500)) in
    let c = insert (codes "INSERT INTO dine VALUES ") (dine_at (state_after seed 20500)) 10000 (unmarked (codes "INSERT INTO dine VALUES ") refl)
    (dine (state_after seed 20500)) in
    both (cafes ∷ []) (friends ∷ meals ∷ []) (one cafes a) (both (friends ∷ []) (meals ∷ []) (one friends b) (one meals c))

all_tables : Unmarked (flat_map with_end tables)
all_tables = unmarked (flat_map with_end tables) refl

demo_unmarked : (seed : ℕ) → Unmarked (demo_text seed)
unfolding demo_text
demo_unmarked seed =
    let last = rounds (state_after seed 40500) 10 in
    both tables (inserts seed ++ last) all_tables (both (inserts seed) last (all_inserts seed) (all_rounds (state_after seed 40500) 10))

pub demo_names_none : (seed : ℕ) → NamesNoSession (demo_text seed)
demo_names_none seed = names_none (demo_text seed) (demo_unmarked seed)
