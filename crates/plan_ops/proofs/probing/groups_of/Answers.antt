use Rattle.std.proofs.Common.{◌≡◌, ◌≤◌, ◌+◌, ◌*◌, ◌∙◌, max, ap, sym, subst, arith, length, take}
use Rattle.std.specs.List.{sum_by, AllZip}
use Rattle.beas_core.specs.Derivations.{access_in}
use Rattle.beas_core.specs.Groups.{group_of}
use Rattle.beas_core.specs.Reads.{probe_reads}
use Rattle.plan_ops.specs.Joins.{IsGroup}
use Rattle.plan_ops.proofs.ProbeFacts.{summed_more, few_more, group_of_hits, zip_more}
use Rattle.plan_ops.proofs.probing.groups_of.Goals as goal

pub loop-key-preserved : goal.loop-key-preserved
loop-key-preserved g c =
    let rows = g.P.AccessPort.rows c.args.port.now in
    let accesses = g.P.AccessPort.accesses c.args.port.now in
    let access = access_in accesses c.args.id in
    let f = probe_reads rows access in
    let key = c.key-item.result in
    let i = c.loop-key.key-index in
    let found = c.probe-hits.ensures.members ∙ ap (group_of (rows access.table) access) c.as_slice.ensures in
    let len : max 1 c.probe-hits.result.len ≡ f c.key-item.result = ap (max 1) (c.probe-hits.ensures.len ∙ ap length found) in
    let n : c.from.result ≡ f c.key-item.result = omega (arith, c.from.ensures, c.max.ensures, c.len.ensures, len) in
    let cost = c.probe-hits.ensures.cost ∙ ap (λ n. c.loop-key.steps + n) len in
    let small : f key ≤ access.bound = omega (arith, len, c.probe-hits.ensures.bounded, c.requires.bound) in
    let sum = summed_more f c.args.keys.now access.bound i c.loop-key-test.true key c.key-item.is in
    let reads = c.loop-key.invariant.reads in
    let steps = c.loop-key.invariant.steps in
    let more = few_more f c.args.keys.now access.bound i c.loop-key-test.true (sum_by f (take i c.args.keys.now)) (f key) c.loop-key.invariant.few small in
    let R = IsGroup rows accesses (g.P.AccessPort.stands c.args.port.now) (g.P.AccessPort.members c.args.port.now) c.args.id in
    record {
      reads = omega (arith, reads, n, sum);
      steps = omega (arith, steps, cost, sum);
      few = subst (λ s. s ≤ (i + 1) * access.bound) (sym sum) more;
      groups = subst (AllZip R (take (i + 1) c.args.keys.now)) (sym c.push_reserved.ensures.items)
          (zip_more R c.args.keys.now c.loop-key.groups.items i key c.probe-hits.result c.loop-key-test.true c.key-item.is c.loop-key.invariant.groups
          (group_of_hits rows accesses (g.P.AccessPort.stands c.args.port.now) (g.P.AccessPort.members c.args.port.now) c.args.id key c.probe-hits.result
          c.requires.live c.probe-hits.ensures.access c.probe-hits.ensures.stands c.probe-hits.ensures.len found));
      len = c.push_reserved.ensures.len ∙ ap (λ n. n + 1) c.loop-key.invariant.len;
      room = c.push_reserved.ensures.capacity ∙ c.loop-key.invariant.room;
    }
