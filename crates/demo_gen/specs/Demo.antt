-- The script of the demonstration, as bytes.
--     statements seed      its statements, in order
--     demo_text seed       each with a semicolon and a line feed after it
use Rattle.std.specs.Prelude.{◌+◌, ◌*◌, ◌/◌, ◌%◌, ℕ, zero, suc, List, [], ◌∷◌, ◌++◌, map, codes, decimal}
use Rattle.std.specs.List.{flat_map, range_with_len}
use Rattle.beas_core.specs.Texts.{concatenation, with_commas}
use Rattle.demo_gen.specs.Draws.{draw_at, state_after}

-- what stands before row n
abbrev pub separator : ℕ → List ℕ
separator zero = []
separator (suc n) = codes ", "

-- rows 0 to n - 1
unfoldable pub rows_text : (ℕ → List ℕ) → ℕ → List ℕ
rows_text row n = with_commas (map row (range_with_len 0 n))

abbrev pub cafe_row : ℕ → ℕ → List ℕ
cafe_row cid city = concatenation (codes "(" ∷ decimal cid ∷ codes ", 'c" ∷ decimal city ∷ codes "')" ∷ [])

abbrev pub friend_row : ℕ → ℕ → List ℕ
friend_row pid fid = concatenation (codes "(" ∷ decimal pid ∷ codes ", " ∷ decimal fid ∷ codes ")" ∷ [])

abbrev pub dine_row : ℕ → ℕ → ℕ → List ℕ
dine_row pid cid month =
    concatenation (codes "(" ∷ decimal pid ∷ codes ", " ∷ decimal cid ∷ codes ", 2015, " ∷ decimal month ∷ codes ")" ∷ [])

-- row n of each table, from a state on. A person has ten friends, and dines five times.
abbrev pub cafe_at : ℕ → ℕ → List ℕ
cafe_at state n = cafe_row n (draw_at state n % 10)

abbrev pub friend_at : ℕ → ℕ → List ℕ
friend_at state n = friend_row (n / 10) (draw_at state n % 2000)

-- the café is drawn before the month
abbrev pub dine_at : ℕ → ℕ → List ℕ
dine_at state n = dine_row (n / 5) (draw_at state (2 * n) % 500) (1 + draw_at state (2 * n + 1) % 12)

unfoldable pub query_text : ℕ → ℕ → ℕ → List ℕ
query_text person month city = concatenation (
    codes "SELECT DISTINCT c.cid FROM friend AS f, dine AS d, cafe AS c WHERE f.pid = " ∷ decimal person
    ∷ codes " AND f.fid = d.pid AND d.year = 2015 AND d.month = " ∷ decimal month
    ∷ codes " AND d.cid = c.cid AND c.city = 'c" ∷ decimal city ∷ codes "'" ∷ [])

-- query n from a state on: its person, month and city are drawn in this order
abbrev pub query_at : ℕ → ℕ → List ℕ
query_at state n =
    query_text (draw_at state (3 * n) % 2000) (1 + draw_at state (3 * n + 1) % 12) (draw_at state (3 * n + 2) % 10)

unfoldable pub delete_text : ℕ → List ℕ
delete_text person = codes "DELETE FROM dine WHERE pid = " ++ decimal person

unfoldable pub queries : ℕ → ℕ → List (List ℕ)
queries state count = map (query_at state) (range_with_len 0 count)

-- ten queries, and the deletion of what a person dined
unfoldable pub round_at : ℕ → List (List ℕ)
round_at state = queries state 10 ++ delete_text (draw_at state 30 % 2000) ∷ []

-- rounds of 31 draws each
unfoldable pub rounds : ℕ → ℕ → List (List ℕ)
rounds state count = flat_map (λ n. round_at (state_after state (31 * n))) (range_with_len 0 count)

abbrev pub tables : List (List ℕ)
tables =
    codes "CREATE TABLE friend (pid INTEGER, fid INTEGER)"
    ∷ codes "CREATE TABLE dine (pid INTEGER, cid INTEGER, year INTEGER, month INTEGER)"
    ∷ codes "CREATE TABLE cafe (cid INTEGER, city TEXT)"
    ∷ codes "CREATE ACCESS f1 ON friend (pid) FETCH (fid) LIMIT 5000"
    ∷ codes "CREATE ACCESS d1 ON dine (pid, year, month) FETCH (cid) LIMIT 31"
    ∷ codes "CREATE ACCESS c1 ON cafe (cid) FETCH (city) LIMIT 1"
    ∷ []

-- 500 cafés, 2000 persons with ten friends each, who dine five times each: a draw for each café and friend, two for each meal
abbrev pub inserts : ℕ → List (List ℕ)
inserts seed =
    (codes "INSERT INTO cafe VALUES " ++ rows_text (cafe_at seed) 500)
    ∷ (codes "INSERT INTO friend VALUES " ++ rows_text (friend_at (state_after seed 500)) 20000)
    ∷ (codes "INSERT INTO dine VALUES " ++ rows_text (dine_at (state_after seed 20500)) 10000)
    ∷ []

abbrev pub statements : ℕ → List (List ℕ)
statements seed = tables ++ (inserts seed ++ rounds (state_after seed 40500) 10)

abbrev pub with_end : List ℕ → List ℕ
with_end statement = statement ++ codes ";\n"

unfoldable pub demo_text : ℕ → List ℕ
demo_text seed = flat_map with_end (statements seed)
