-- What is seen of a desk of which one open query changes, is taken out or comes in. `see`, `share` and `probes` are what is seen of each of them.
use Rattle.std.proofs.Common.{◌≡◌, ◌<◌, ◌==◌, ◌+◌, ◌++◌, ◌∙◌, ℕ, List, [], ◌∷◌, map, get_or, set, remove, position, Some, None, ap, sym, subst, arith}
use Rattle.std.specs.Prelude.{sum}
use Rattle.std.proofs.lemmas.List.{get_or-map, length-map, map-append, map-set}
use Rattle.std.proofs.lemmas.List.Sums.{sum_by-remove, sum_by-set, sum_by_push}
use Rattle.beas_core.specs.Queries.{BlockProbe}
use Rattle.catalogue.specs.Database.{Database}
use Rattle.session.specs.Effects.{Settings}
use Rattle.desk_model.specs.OpenQueries.{OpenQuery}
use Rattle.desk_model.specs.Desks.{State, is_of, place_of, query_of, with_query, without_query}
use Rattle.version_store.specs.Desks.{Seen, probes_at, share_at}
use Rattle.version_store.proofs.Places.{IsPlace, find_there, place-map, place_none, place_some, position-map, remove-map}

module _ {X : Type 0} (see : X → OpenQuery) (share : X → ℕ) (probes : X → List BlockProbe) (settings : Settings) (db : Database) where
  abbrev state : List X → State
  state xs = record { db = db; queries = map see xs }

  abbrev seen : List X → Seen
  seen xs = record { settings = settings; state = state xs; shares = map share xs; probes = map probes xs }

  abbrev with_queries : List OpenQuery → State
  with_queries queries = record { db = db; queries = queries }

  module _ (xs : List X) (k : ℕ) where
    pub none_is : position (λ x. (see x).session == k) xs ≡ None → query_of k (state xs) ≡ None
    none_is none = place_none (is_of k) (map see xs) (position-map (is_of k) see xs ∙ none)

    module _ (i : ℕ) (old : X) (found : position (λ x. (see x).session == k) xs ≡ Some i) (was : old ≡ get_or xs i old) where
      pub place : IsPlace (λ x. (see x).session == k) xs i
      place = place_some (λ (x : X). (see x).session == k) xs i found

      pub query_is : query_of k (state xs) ≡ Some (see old)
      query_is =
          find_there (is_of k) (map see xs) i (see old) (place-map (is_of k) see xs i place)
          ∙ ap (λ q. Some q) (get_or-map see xs i old (see old) place.within ∙ ap see (sym was))

      pub place_is : place_of k (map see xs) ≡ i
      place_is = (place-map (is_of k) see xs i place).first

      pub share_is : share_at k (seen xs) ≡ share old
      share_is = ap (λ n. get_or (map share xs) n 0) place_is ∙ get_or-map share xs i old 0 place.within ∙ ap share (sym was)

      pub probes_are : probes_at k (seen xs) ≡ probes old
      probes_are = ap (λ n. get_or (map probes xs) n []) place_is ∙ get_or-map probes xs i old [] place.within ∙ ap probes (sym was)

      -- ---- it changes

      pub state_set : (new : X) → state (set xs i new) ≡ with_query k (see new) (state xs)
      state_set new = ap with_queries (map-set see xs i new ∙ ap (λ n. set (map see xs) n (see new)) (sym place_is))

      pub shares_set : (new : X) → map share (set xs i new) ≡ set (map share xs) (place_of k (map see xs)) (share new)
      shares_set new = map-set share xs i new ∙ ap (λ n. set (map share xs) n (share new)) (sym place_is)

      pub probes_set : (new : X) → map probes (set xs i new) ≡ set (map probes xs) (place_of k (map see xs)) (probes new)
      probes_set new = map-set probes xs i new ∙ ap (λ n. set (map probes xs) n (probes new)) (sym place_is)

      pub sum_set : (new : X) → sum (map share (set xs i new)) + share old ≡ sum (map share xs) + share new
      sum_set new =
          let whole = ap sum (map-set share xs i new) in
          let there = get_or-map share xs i old 0 place.within ∙ ap share (sym was) in
          let sums = sum_by-set (λ (n : ℕ). n) (map share xs) i (share new) 0 (subst (λ n. i < n) (sym (length-map xs share)) place.within) in
          omega (arith, whole, there, sums)

      -- ---- it is taken out

      pub state_remove : state (remove xs i) ≡ without_query k (state xs)
      state_remove = ap with_queries (remove-map see xs i ∙ ap (remove (map see xs)) (sym place_is))

      pub shares_remove : map share (remove xs i) ≡ remove (map share xs) (place_of k (map see xs))
      shares_remove = remove-map share xs i ∙ ap (remove (map share xs)) (sym place_is)

      pub probes_remove : map probes (remove xs i) ≡ remove (map probes xs) (place_of k (map see xs))
      probes_remove = remove-map probes xs i ∙ ap (remove (map probes xs)) (sym place_is)

      pub sum_remove : sum (map share (remove xs i)) + share old ≡ sum (map share xs)
      sum_remove =
          let whole = ap sum (remove-map share xs i) in
          let there = get_or-map share xs i old 0 place.within ∙ ap share (sym was) in
          let sums = sum_by-remove (λ (n : ℕ). n) (map share xs) i 0 (subst (λ n. i < n) (sym (length-map xs share)) place.within) in
          omega (arith, whole, there, sums)

  -- ---- one comes in

  module _ (xs : List X) (x : X) where
    pub state_push : state (xs ++ x ∷ []) ≡ with_queries (map see xs ++ see x ∷ [])
    state_push = ap with_queries (map-append see xs (x ∷ []))

    pub shares_push : map share (xs ++ x ∷ []) ≡ map share xs ++ share x ∷ []
    shares_push = map-append share xs (x ∷ [])

    pub probes_push : map probes (xs ++ x ∷ []) ≡ map probes xs ++ probes x ∷ []
    probes_push = map-append probes xs (x ∷ [])

    pub sum_push : sum (map share (xs ++ x ∷ [])) ≡ sum (map share xs) + share x
    sum_push = ap sum shares_push ∙ sum_by_push (λ (n : ℕ). n) (map share xs) (share x)
