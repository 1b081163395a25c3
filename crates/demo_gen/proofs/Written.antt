-- The statements that loops have written, one more at a time, and the whole script.
use Rattle.std.proofs.Common.{◌≡◌, ◌∙◌, ◌+◌, ◌*◌, ◌%◌, ◌++◌, ℕ, zero, suc, List, [], ◌∷◌, add-one, ap, ap₂, append-nil, append_assoc, arith, codes, refl, sym}
use Rattle.std.specs.List.{flat_map, range_with_len}
use Rattle.std.proofs.lemmas.Grind.{flat_map-append}
use Rattle.std.proofs.lemmas.List.FromFn.{map-range_with_len_more}
use Rattle.demo_gen.specs.Draws.{draw_at, state_after}
use Rattle.demo_gen.proofs.States.{after_both}
use Rattle.demo_gen.specs.Demo.{cafe_at, delete_text, demo_text, dine_at, with_end, friend_at, inserts, queries, query_at, round_at, rounds, rows_text, tables}

range-suc : (a n : ℕ) → range_with_len a (suc n) ≡ range_with_len a n ++ (a + n) ∷ []
range-suc a zero = ap (λ (m : ℕ). m ∷ []) (omega arith)
range-suc a (suc n) = ap (λ (ms : List ℕ). a ∷ ms) (range-suc (a + 1) n ∙ ap (λ (m : ℕ). range_with_len (a + 1) n ++ m ∷ []) (omega arith))

pub no_queries : (state : ℕ) → queries state 0 ≡ []
unfolding queries
no_queries state = refl

pub one_query : (state n : ℕ) → queries state (n + 1) ≡ queries state n ++ query_at state n ∷ []
unfolding queries
one_query state n = map-range_with_len_more (query_at state) 0 n n (omega arith)

pub no_rounds : (state : ℕ) → rounds state 0 ≡ []
unfolding rounds
no_rounds state = refl

range-more : (n : ℕ) → range_with_len 0 (n + 1) ≡ range_with_len 0 n ++ n ∷ []
range-more n = ap (range_with_len 0) (add-one n) ∙ range-suc 0 n ∙ ap (λ (m : ℕ). range_with_len 0 n ++ m ∷ []) (omega arith)

pub one_round : (state n : ℕ) → rounds state (n + 1) ≡ rounds state n ++ round_at (state_after state (31 * n))
unfolding rounds
one_round state n =
    let round = λ (m : ℕ). round_at (state_after state (31 * m)) in
    ap (flat_map round) (range-more n) ∙ flat_map-append round (range_with_len 0 n) (n ∷ [])
    ∙ ap (λ (last : List (List ℕ)). flat_map round (range_with_len 0 n) ++ last) (append-nil (round n))

-- statements and then one more
ended-more : (done : List (List ℕ)) (next : List ℕ) → flat_map with_end (done ++ next ∷ []) ≡ flat_map with_end done ++ with_end next
ended-more done next = flat_map-append with_end done (next ∷ []) ∙ ap (λ (last : List ℕ). flat_map with_end done ++ last) (append-nil (with_end next))

pub query_written : (state n : ℕ) (start before after query : List ℕ) → before ≡ start ++ flat_map with_end (queries state n)
    → after ≡ before ++ with_end query → query ≡ query_at state n → after ≡ start ++ flat_map with_end (queries state (n + 1))
query_written state n start before after query so_far added same =
    added ∙ ap₂ (λ (b q : List ℕ). b ++ with_end q) so_far same ∙ append_assoc start (flat_map with_end (queries state n)) (with_end (query_at state n))
    ∙ ap (λ (s : List ℕ). start ++ s) (sym (ended-more (queries state n) (query_at state n)) ∙ ap (flat_map with_end) (sym (one_query state n)))

pub round_written : (state n : ℕ) (start before middle after deletion : List ℕ) → before ≡ start ++ flat_map with_end (rounds state n)
    → middle ≡ before ++ flat_map with_end (queries (state_after state (31 * n)) 10) → after ≡ middle ++ with_end deletion
    → deletion ≡ delete_text (draw_at (state_after state (31 * n)) 30 % 2000) → after ≡ start ++ flat_map with_end (rounds state (n + 1))
unfolding round_at
round_written state n start before middle after deletion so_far asked added same =
    let ten = queries (state_after state (31 * n)) 10 in
    let last = delete_text (draw_at (state_after state (31 * n)) 30 % 2000) in
    let both : after ≡ start ++ flat_map with_end (rounds state n) ++ flat_map with_end ten ++ with_end last = rw (added, asked, so_far, same) refl in
    both ∙ append_assoc (start ++ flat_map with_end (rounds state n)) (flat_map with_end ten) (with_end last)
    ∙ append_assoc start (flat_map with_end (rounds state n)) (flat_map with_end ten ++ with_end last)
    ∙ ap (λ (s : List ℕ). start ++ s) (ap (λ (s : List ℕ). flat_map with_end (rounds state n) ++ s) (sym (ended-more ten last))
    ∙ sym (flat_map-append with_end (rounds state n) (ten ++ last ∷ [])) ∙ ap (flat_map with_end) (sym (one_round state n)))

-- the pieces that the script is written in, and its statements
pub pieces : (end tables cafe cafes friend friends dine meals after : List ℕ)
    → tables ++ cafe ++ cafes ++ (end ++ friend) ++ friends ++ (end ++ dine) ++ meals ++ end ++ after
    ≡ tables ++ ((cafe ++ cafes ++ end) ++ ((friend ++ friends ++ end) ++ ((dine ++ meals ++ end) ++ after)))
pieces end tables cafe cafes friend friends dine meals after = simp append_assoc refl

pub script_whole : (seed : ℕ) (made : List ℕ) → made ≡ flat_map with_end tables ++ codes "INSERT INTO cafe VALUES " ++ rows_text (cafe_at seed) 500
    ++ codes ";\nINSERT INTO friend VALUES " ++ rows_text (friend_at (state_after seed 500)) 20000
    ++ codes ";\nINSERT INTO dine VALUES " ++ rows_text (dine_at (state_after seed 20500)) 10000
    ++ codes ";\n" ++ flat_map with_end (rounds (state_after seed 40500) 10) → made ≡ demo_text seed
unfolding demo_text
script_whole seed made same =
    let after = flat_map with_end (rounds (state_after seed 40500) 10) in
    same ∙ pieces (codes ";\n") (flat_map with_end tables) (codes "INSERT INTO cafe VALUES ") (rows_text (cafe_at seed) 500)
    (codes "INSERT INTO friend VALUES ") (rows_text (friend_at (state_after seed 500)) 20000)
    (codes "INSERT INTO dine VALUES ") (rows_text (dine_at (state_after seed 20500)) 10000) after
    ∙ sym (flat_map-append with_end tables (inserts seed ++ rounds (state_after seed 40500) 10))

-- what the steps of the script have written, and where the draws stand between them
pub script_made : (seed s0 s1 s2 s3 : ℕ) (t0 t1 t2 t3 t4 t5 t6 t7 t8 : List ℕ) → t0 ≡ flat_map with_end tables → s0 ≡ seed
    → t1 ≡ t0 ++ codes "INSERT INTO cafe VALUES " → t2 ≡ t1 ++ rows_text (cafe_at s0) 500 → s1 ≡ state_after s0 500
    → t3 ≡ t2 ++ codes ";\nINSERT INTO friend VALUES " → t4 ≡ t3 ++ rows_text (friend_at s1) 20000 → s2 ≡ state_after s1 20000
    → t5 ≡ t4 ++ codes ";\nINSERT INTO dine VALUES " → t6 ≡ t5 ++ rows_text (dine_at s2) 10000 → s3 ≡ state_after s2 20000
    → t7 ≡ t6 ++ codes ";\n" → t8 ≡ t7 ++ flat_map with_end (rounds s3 10) → t8 ≡ demo_text seed
script_made seed s0 s1 s2 s3 t0 t1 t2 t3 t4 t5 t6 t7 t8 e0 f0 e1 e2 f1 e3 e4 f2 e5 e6 f3 e7 e8 =
    let cafes : s1 ≡ state_after seed 500 = f1 ∙ ap (λ (s : ℕ). state_after s 500) f0 in
    let friends : s2 ≡ state_after seed 20500 = f2 ∙ ap (λ (s : ℕ). state_after s 20000) cafes ∙ after_both seed 500 20000 in
    let meals : s3 ≡ state_after seed 40500 = f3 ∙ ap (λ (s : ℕ). state_after s 20000) friends ∙ after_both seed 20500 20000 in
    script_whole seed t8 (
    e8 ∙ ap₂ (λ (t : List ℕ) (s : ℕ). t ++ flat_map with_end (rounds s 10)) (
    e7 ∙ ap (λ (t : List ℕ). t ++ codes ";\n") (
    e6 ∙ ap₂ (λ (t : List ℕ) (s : ℕ). t ++ rows_text (dine_at s) 10000) (
    e5 ∙ ap (λ (t : List ℕ). t ++ codes ";\nINSERT INTO dine VALUES ") (
    e4 ∙ ap₂ (λ (t : List ℕ) (s : ℕ). t ++ rows_text (friend_at s) 20000) (
    e3 ∙ ap (λ (t : List ℕ). t ++ codes ";\nINSERT INTO friend VALUES ") (
    e2 ∙ ap₂ (λ (t : List ℕ) (s : ℕ). t ++ rows_text (cafe_at s) 500) (
    e1 ∙ ap (λ (t : List ℕ). t ++ codes "INSERT INTO cafe VALUES ") e0) f0)) cafes)) friends)) meals)

-- a query and a deletion, piece by piece
pub query_line : (text start person between month before city quote end : List ℕ)
    → (((((((text ++ start) ++ person) ++ between) ++ month) ++ before) ++ city) ++ quote) ++ end
    ≡ text ++ ((start ++ (person ++ (between ++ (month ++ (before ++ (city ++ quote)))))) ++ end)
query_line text start person between month before city quote end = simp append_assoc refl

pub deletion_line : (text start person end : List ℕ) → ((text ++ start) ++ person) ++ end ≡ text ++ ((start ++ person) ++ end)
deletion_line text start person end = simp append_assoc refl
