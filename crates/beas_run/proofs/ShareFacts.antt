-- The shares of the queries that are open at a desk.
use Rattle.std.proofs.Common.{◌≡◌, ◌≤◌, ◌+◌, inl, inr, ap, subst, sym, refl, ℕ, List, [], ◌∷◌, Option, None, Some, arith, get_or, length}
use Rattle.std.specs.Prelude.{remove, sum, unwrap_or}
use Rattle.desk_model.specs.OpenQueries.{OpenQuery, reads_of, share_of}
use Rattle.piece_reader.specs.declared.event.Event.TheVariants.{Stepped}
use Rattle.desk_model.specs.Desks.{State, is_of, query_of}
use Rattle.version_store.specs.Desks.{IsDesk, MayTake, Seen as DeskSeen, place_in, share_at, without_query_of}
use Rattle.beas_run.specs.Shares.{AreShares, IsShare, open_reads}
use Rattle.beas_run.proofs.FoundFacts.{Within, all_zip, sum-remove, sum-within, sum-within-more, within-found}

share_fits : (query : OpenQuery) (share made : ℕ) → ((n : ℕ) → query.made ≡ Some n → made ≡ n) → made ≤ share → share ≤ reads_of query
    → reads_of query ≤ query.prepared.bound → IsShare query share
share_fits query share made count least most announced = by query.made refl
  where
    by : (o : Option ℕ) → query.made ≡ o → IsShare query share
    by None e = record { least = subst (λ o. unwrap_or o 0 ≤ share) (sym e) (omega arith); most = most; announced = announced }
    by (Some n) e = let h = count n e in record { least = subst (λ o. unwrap_or o 0 ≤ share) (sym e) (omega (arith, least, h)); most = most; announced = announced }

pub shares_fit : (desk : DeskSeen) → IsDesk desk → AreShares desk.state.queries desk.shares
shares_fit desk told =
    all_zip IsShare desk.state.queries desk.shares 0 told.as_many_shares (λ k d below.
    let fit = told.fit k d below in
    share_fits (get_or desk.state.queries k d) (get_or desk.shares k 0) (length (get_or desk.probes k [])) fit.count fit.least fit.most fit.bound)

within_reads : (queries : List OpenQuery) (shares : List ℕ) → AreShares queries shares → Within reads_of queries shares
within_reads [] [] s = tt
within_reads [] (n ∷ ns) s = absurd s
within_reads (q ∷ qs) [] s = absurd s
within_reads (q ∷ qs) (n ∷ ns) s = (s.0.most, within_reads qs ns s.1)

pub shares_within : (state : State) (shares : List ℕ) → AreShares state.queries shares → sum shares ≤ open_reads state
shares_within state shares s = sum-within reads_of state.queries shares (within_reads state.queries shares s)

-- with one probe more
pub may_take : (k : ℕ) (desk : DeskSeen) (m n : ℕ) → IsDesk desk → MayTake (Stepped k) desk m n → n + sum desk.shares ≤ m + open_reads desk.state
may_take k desk m n told (inl same) = let h = shares_within desk.state desk.shares (shares_fit desk told) in omega (arith, h, same)
may_take k desk m n told (inr spends) =
    let w = within_reads desk.state.queries desk.shares (shares_fit desk told) in
    let steps = spends.steps in
    let more = share_of spends.query spends.probe in
    let h = sum-within-more reads_of (is_of k) desk.state.queries desk.shares spends.query more w spends.is spends.within in
    omega (arith, h, steps)

-- and no more than the query itself has left
pub own_take : (k : ℕ) (desk : DeskSeen) (m n : ℕ) (q : OpenQuery) → IsDesk desk → query_of k desk.state ≡ Some q → MayTake (Stepped k) desk m n
    → n + share_at k desk ≤ m + reads_of q
own_take k desk m n q told is (inl same) =
    let h : share_at k desk ≤ reads_of q = within-found reads_of (is_of k) desk.state.queries desk.shares q
    (within_reads desk.state.queries desk.shares (shares_fit desk told)) is in
    omega (arith, h, same)
own_take k desk m n q told is (inr spends) =
    let it : spends.query ≡ q = let e = spends.is in cc in
    let h : share_at k desk + share_of q spends.probe ≤ reads_of q =
    subst (λ o. share_at k desk + share_of o spends.probe ≤ reads_of o) it spends.within in
    let steps : n ≡ m + share_of q spends.probe = subst (λ o. n ≡ m + share_of o spends.probe) it spends.steps in
    omega (arith, h, steps)

-- where all else is as it was, what was counted is the query's
pub own_counts : (k : ℕ) (before after : DeskSeen) (m n : ℕ) → without_query_of k after ≡ without_query_of k before
    → n + sum before.shares ≡ m + sum after.shares → n + share_at k before ≡ m + share_at k after
own_counts k before after m n others counts =
    let same : sum (remove after.shares (place_in k after)) ≡ sum (remove before.shares (place_in k before)) =
    ap (λ (d : DeskSeen). sum d.shares) others in
    let b : sum (remove before.shares (place_in k before)) + share_at k before ≡ sum before.shares = sum-remove before.shares (place_in k before) in
    let a : sum (remove after.shares (place_in k after)) + share_at k after ≡ sum after.shares = sum-remove after.shares (place_in k after) in
    omega (arith, same, b, a, counts)
