-- What is left of a desk where the open query of a session is dropped.
use Rattle.std.proofs.Common.{◌≡◌, ◌≢◌, ◌<◌, ◌≤◌, ◌==◌, ◌+◌, ◌++◌, ◌∙◌, ℕ, Bool, true, false, not, cond, nat_lt, suc, List, [], ◌∷◌, map, take, drop, length, get_or, remove, position, find, Option, Some, None, refl, ap, sym, subst, arith, append-nil}
use Rattle.std.specs.Prelude.{All}
use Rattle.std.specs.List.{AllPairs, position_or_len}
use Rattle.std.proofs.lemmas.Bool.{eqb-true, ltb-false}
use Rattle.std.proofs.lemmas.List.{drop_all, length-map, take_all}
use Rattle.beas_core.specs.Queries.{BlockProbe}
use Rattle.session.specs.declared.session.Session.{Session}
use Rattle.session.specs.Applying.{database_of, settings_of}
use Rattle.desk_model.specs.OpenQueries.{OpenQuery}
use Rattle.desk_model.specs.Desks.{OneEach, State, is_of, place_of, query_of, without_query}
use Rattle.version_store.specs.Desks.{Seen, place_in, without_query_of}
use Rattle.version_store.specs.Stored.{AreKept, Open, held_at, probes_in, seen_in, share_in}
use Rattle.version_store.proofs.Places.{position-map}
use Rattle.version_store.proofs.SeenFacts as seen

abbrev share : Open → ℕ
share query = share_in query.cursor

abbrev probes : Open → List BlockProbe
probes query = probes_in query.cursor

-- ---- the session has no open query

remove_past : {X : Type 0} (xs : List X) (i : ℕ) → length xs ≤ i → remove xs i ≡ xs
remove_past xs i past =
    ap (λ front. front ++ drop (suc i) xs) (take_all i xs past)
    ∙ ap (λ back. xs ++ back) (drop_all (suc i) xs (omega (arith, past))) ∙ append-nil xs

place_past : {X : Type 0} (p : X → Bool) (xs : List X) → position p xs ≡ None → length xs ≤ position_or_len p xs
place_past p xs none = by (nat_lt (position_or_len p xs) (length xs)) refl none
  where
    by : (b : Bool) → nat_lt (position_or_len p xs) (length xs) ≡ b → cond b (Some (position_or_len p xs)) None ≡ None → length xs ≤ position_or_len p xs
    by true e h = cc
    by false e h = ltb-false (position_or_len p xs) (length xs) e

module _ (session : Session) (queries : List Open) (k : ℕ) where
  abbrev see : Open → OpenQuery
  see = held_at (database_of session)

  abbrev before : Seen
  before = seen_in session queries

  abbrev made : State → List ℕ → List (List BlockProbe) → Seen
  made st shares ps = record { settings = settings_of session; state = st; shares = shares; probes = ps }

  abbrev with_queries : List OpenQuery → State
  with_queries qs = record { db = database_of session; queries = qs }

  module _ (none : position (λ q. q.session == k) queries ≡ None) where
    past : length (map see queries) ≤ place_in k before
    past = place_past (is_of k) (map see queries) (position-map (is_of k) see queries ∙ none)

    pub none_dropped : before ≡ without_query_of k before
    none_dropped =
        let here = length-map queries see in
        let there = past in
        let shares = length-map queries share in
        let ps = length-map queries probes in
        ap (λ qs. made (with_queries qs) before.shares before.probes) (sym (remove_past (map see queries) (place_in k before) past))
        ∙ ap (λ ss. made (without_query k before.state) ss before.probes)
        (sym (remove_past before.shares (place_in k before) (omega (arith, here, there, shares))))
        ∙ ap (made (without_query k before.state) (remove before.shares (place_in k before)))
        (sym (remove_past before.probes (place_in k before) (omega (arith, here, there, ps))))

  module _ (i : ℕ) (old : Open) (found : position (λ q. q.session == k) queries ≡ Some i) (was : old ≡ get_or queries i old) where
    pub one_dropped : seen_in session (remove queries i) ≡ without_query_of k before
    one_dropped =
        ap (λ st. made st (map share (remove queries i)) (map probes (remove queries i)))
        (seen.state_remove see share probes (settings_of session) (database_of session) queries k i old found was)
        ∙ ap (λ ss. made (without_query k before.state) ss (map probes (remove queries i)))
        (seen.shares_remove see share probes (settings_of session) (database_of session) queries k i old found was)
        ∙ ap (made (without_query k before.state) (remove before.shares (place_in k before)))
        (seen.probes_remove see share probes (settings_of session) (database_of session) queries k i old found was)

-- ---- afterwards it has none

none_later : (k : ℕ) (x : OpenQuery) (ys : List OpenQuery) → x.session ≡ k → All (λ y. x.session ≢ y.session) ys → find (is_of k) ys ≡ None
none_later k x [] same apart = refl
none_later k x (y ∷ ys) same apart = by (y.session == k) refl (none_later k x ys same (λ i d l. apart (suc i) d (omega (arith, l))))
  where
    by : (b : Bool) → (y.session == k) ≡ b → find (is_of k) ys ≡ None → find (is_of k) (y ∷ ys) ≡ None
    by true e rest = absurd (apart 0 y (omega arith) (same ∙ sym (eqb-true y.session k e)))
    by false e rest = ap (λ b. cond b (Some y) (find (is_of k) ys)) e ∙ rest

one_more : (n : ℕ) → 1 + n ≡ suc n
one_more n = omega arith

none_left : (k : ℕ) (queries : List OpenQuery) → AllPairs (λ q other. q.session ≢ other.session) queries
    → find (is_of k) (remove queries (place_of k queries)) ≡ None
none_left k [] apart = refl
none_left k (x ∷ xs) apart =
    by (x.session == k) refl (none_left k xs (λ i j d less below. apart (suc i) (suc j) d (omega (arith, less)) (omega (arith, below))))
  where
    by : (b : Bool) → (x.session == k) ≡ b → find (is_of k) (remove xs (place_of k xs)) ≡ None
        → find (is_of k) (remove (x ∷ xs) (place_of k (x ∷ xs))) ≡ None
    by true e rest =
        ap (λ b. find (is_of k) (remove (x ∷ xs) (cond (not b) (1 + place_of k xs) 0))) e
        ∙ none_later k x xs (eqb-true x.session k e) (λ j d l. apart 0 (suc j) d (omega arith) (omega (arith, l)))
    by false e rest =
        ap (λ b. find (is_of k) (remove (x ∷ xs) (cond (not b) (1 + place_of k xs) 0))) e
        ∙ ap (λ i. find (is_of k) (remove (x ∷ xs) i)) (one_more (place_of k xs))
        ∙ ap (λ b. cond b (Some x) (find (is_of k) (remove xs (place_of k xs)))) e ∙ rest

pub idle_after : (k : ℕ) (state : State) → OneEach state → query_of k (without_query k state) ≡ None
idle_after k state apart = none_left k state.queries apart
