use Rattle.std.proofs.Common.{◌≡◌, ◌∙◌, subst}
use Rattle.beas_core.specs.Groups.{group_of}
use Rattle.access_index.specs.Index.{Index, IsIndexOf, members_at}
use Rattle.partial_plan.specs.Scans.{index_under}
use Rattle.partial_plan.proofs.SharedFacts.{back, same_groups, stands_under}
use Rattle.partial_plan.proofs.sharing.ScanIndex.probe.Goals as goal

pub returns-clause-members : goal.returns-clause-members
returns-clause-members g c rows =
    let scan = c.self.inside.access in
    let index = c.self.inside.index.value in
    let key = c.args.key.now in
    let same = c.self.invariant in
    let members = subst (λ (i : Index). IsIndexOf i rows → members_at i c.probe_as.result ≡ group_of rows i.access key) c.deref.ensures
    (c.probe_as.ensures.members rows) in
    subst (λ (i : Index). IsIndexOf i rows → members_at i c.probe_as.result ≡ group_of rows i.access key) c.self.view_is
    (λ is. members (stands_under index.access (index_under scan index) rows (back index.access scan same) is)
    ∙ same_groups rows key index.access scan same)
