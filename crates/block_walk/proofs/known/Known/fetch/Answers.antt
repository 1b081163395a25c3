use Rattle.std.proofs.Common.{◌≡◌, ◌∙◌, ◌++◌, ◌∷◌, [], None, length, take, drop, arith, ap, refl, subst}
use Rattle.std.proofs.lemmas.List.{length-append, length-drop}
use Rattle.std.proofs.lemmas.Grind.{common_steps}
use Rattle.beas_core.specs.declared.schema.Access.{Access}
use Rattle.beas_core.specs.Derivations.{access_in}
use Rattle.beas_core.specs.Groups.{group_of, member_columns}
use Rattle.block_walk.specs.declared.known.Spot.{Spot}
use Rattle.plan_ops.proofs.ProbeFacts.{group_takes}
use Rattle.plan_ops.specs.Sieves.{sieved}
use Rattle.place_chains.specs.Hashing.{hash_of}
use Rattle.block_walk.specs.Fetched.{Pushed, rows_in}
use Rattle.block_walk.specs.Entries.{entries_in, kept_in, key_alone}
use Rattle.block_walk.specs.Ordered.{IsPlaced}
use Rattle.block_walk.proofs.SievedFacts.{all_kept}
use Rattle.block_walk.proofs.KnownFacts.{Added, entries_added, kept_added, known_added, values_behind}
use Rattle.block_walk.proofs.known.Known.fetch.Given
use Rattle.block_walk.proofs.known.Known.fetch.Goals.{After-max}
use Rattle.block_walk.proofs.known.Known.fetch.Goals as goal

abbrev spot_of : (g : Given.Over) → After-max g → Spot
spot_of g c = record {
  step = c.args.step;
  from = c.len-from.result;
  width = c.width.result;
  count = c.in_ok-found.field-0.kept;
  key_width = c.len-key_width.result;
  index = None;
  all = c.in_ok-found.field-0.all;
}

pushed_at : (g : Given.Over) (c : After-max g) → Pushed c.width.result c.args.self.now.values.items c.fetch.new.values.items
    (sieved c.args.block.now c.args.stage.now.sieve c.args.one
    (group_of (g.P.AccessPort.rows c.args.port.now (access_in (g.P.AccessPort.accesses c.args.port.now) c.args.id).table)
    (access_in (g.P.AccessPort.accesses c.args.port.now) c.args.id) c.args.key.now.items)) c.in_ok-found.field-0.kept
pushed_at g c =
    let access = access_in (g.P.AccessPort.accesses c.args.port.now) c.args.id in
    let group = group_of (g.P.AccessPort.rows c.args.port.now access.table) access in
    let old = c.args.self.now.values.items in
    let new = c.fetch.new.values.items in
    let kept = c.in_ok-found.field-0.kept in
    let wide : length c.args.stage.now.join.picked.0 ≡ c.width.result = grind (arith, common_steps) in
    subst (λ k. Pushed c.width.result old new (sieved c.args.block.now c.args.stage.now.sieve c.args.one (group k)) kept) c.deref.ensures.value
    (subst (λ n. Pushed n old new (sieved c.args.block.now c.args.stage.now.sieve c.args.one (group c.deref.result.now)) kept) wide c.in_ok-found.ensures.kept)

added : (g : Given.Over) (c : After-max g)
    → Added c.args.self.now (drop (length c.args.self.now.values.items) c.fetch.new.values.items) c.args.key.now.items (spot_of g c)
    c.keep_key.new.values.items c.push.new.self.items
added g c =
    let old = c.args.self.now.values.items in
    let fetched = c.fetch.new.values.items in
    let gone = length-drop (length old) fetched in
    let key = c.args.key.now.items in
    let access = access_in (g.P.AccessPort.accesses c.args.port.now) c.args.id in
    let stage = c.args.stage.now in
    let pushed = pushed_at g c in
    let long : length c.args.stage.now.join.picked.0 ≡ c.width.result = grind (arith, common_steps) in
    let whole = pushed.whole in
    let columns = ap length c.requires.stage.join_is.columns_are ∙ ap (λ (a : Access). length (member_columns a)) c.requires.access
    ∙ length-append access.key access.fetched in
    let group = group_of (g.P.AccessPort.rows c.args.port.now access.table) access in
    record {
      from = grind (arith, common_steps);
      wide = omega (arith, gone, whole);
      key_wide = grind (arith, common_steps);
      narrow = (let w = c.requires.width in omega (arith, columns, w, long));
      begin = all_kept (λ tuple. take (length key) tuple ≡ key) c.args.block.now stage.sieve c.args.one (group key)
          (rows_in c.width.result c.in_ok-found.field-0.kept (drop (length old) fetched)) pushed.cut
          (group_takes (g.P.AccessPort.rows c.args.port.now access.table) access key c.requires.width);
      values_are = values_behind old fetched (key_alone c.in_ok-found.field-0.kept key) c.keep_key.new.values.items pushed.front
          c.in_ok-keep_key.ensures.values;
      spots_are = c.in_ok-push.ensures.items;
      plain = refl;
    }

pub returns-clause-known : goal.returns-clause-known
returns-clause-known g c =
    let known = c.args.self.now in
    let found = drop (length known.values.items) c.fetch.new.values.items in
    let key = c.args.key.now.items in
    let placed = subst (λ k. IsPlaced known.ordered.steps.items c.hash_for.new.self.steps.items c.args.step k c.len-place.result (hash_of c.args.step key) c.in_ok-hash.hash)
    c.deref-2.ensures.value
    (subst (λ h. IsPlaced known.ordered.steps.items c.hash_for.new.self.steps.items c.args.step c.deref-2.result.now c.len-place.result h c.in_ok-hash.hash)
    c.requires.hash c.in_ok-hash.ensures) in
    known_added known c.requires.known found key (spot_of g c) c.keep_key.new.values.items c.push.new.self.items (added g c)
    (record {
      values = c.keep_key.new.values;
      spots = c.push.new.self;
      chains = c.push-2.new.self;
      ordered = c.hash_for.new.self;
      indexes = c.args.self.now.indexes;
    }) refl refl c.len-place.result c.in_ok-hash.hash (grind (arith, common_steps)) placed c.in_ok-push-2.ensures.ok refl

pub returns-clause-entries : goal.returns-clause-entries
returns-clause-entries g c =
    let known = c.args.self.now in
    let found = drop (length known.values.items) c.fetch.new.values.items in
    let key = c.args.key.now.items in
    let access = access_in (g.P.AccessPort.accesses c.args.port.now) c.args.id in
    let all = c.in_ok-found.ensures.all ∙ ap (group_of (g.P.AccessPort.rows c.args.port.now access.table) access) c.deref.ensures.value in
    entries_added known c.requires.known found key (spot_of g c) c.keep_key.new.values.items c.push.new.self.items (added g c)
    ∙ ap (λ rows. entries_in known ++ ((c.args.step, key), rows) ∷ []) all

pub returns-clause-kept : goal.returns-clause-kept
returns-clause-kept g c =
    let known = c.args.self.now in
    let found = drop (length known.values.items) c.fetch.new.values.items in
    let key = c.args.key.now.items in
    kept_added known c.requires.known found key (spot_of g c) c.keep_key.new.values.items c.push.new.self.items (added g c)
    ∙ ap (λ rows. kept_in known ++ rows ∷ []) (pushed_at g c).cut
