-- Whether each atom is served, told by servers, is whether constants for the candidates that are held make the block covered.
use Rattle.std.proofs.Common.{◌≡◌, ◌==◌, ◌&&◌, ◌<◌, ◌^◌, ℕ, zero, suc, Bool, true, false, not, List, [], ◌∷◌, length, map, get_or, pos, inl, inr, refl, ap, sym, ◌∙◌, subst, arith, zero-add}
use Rattle.std.specs.List.{Contains, filter, slice_index_or, enumerate_from}
use Rattle.std.proofs.lemmas.Bool.{eqb-true}
use Rattle.std.proofs.lemmas.List.{length-map}
use Rattle.std.proofs.lemmas.List.FromFn.{length-enumerate_from}
use Rattle.beas_core.specs.declared.schema.Access.{Access}
use Rattle.beas_core.specs.declared.schema.ColumnId.{ColumnId}
use Rattle.beas_core.specs.declared.value.Value.{Value}
use Rattle.beas_core.specs.declared.value.Value.TheVariants.{Int}
use Rattle.beas_core.specs.declared.query.Place.{Place}
use Rattle.beas_core.specs.declared.query.Block.{Block}
use Rattle.beas_core.specs.declared.plan.Normal.{Normal}
use Rattle.beas_core.specs.Types.{ClassSet, Use}
use Rattle.beas_core.specs.Groups.{has_column, member_columns}
use Rattle.beas_core.specs.Shapes.{BlockIsWellFormed}
use Rattle.beas_core.specs.Classes.{leaders, class_of, needed_columns, normal_of}
use Rattle.beas_core.specs.Coverage.{has, with_classes, holds_classes, class_at, place_class, uses, key_classes, fetched_classes, constant_classes, covered_set, own_cover, own_is_covered, needed_of, needed_places, holds_needed, atoms_of, Within}
use Rattle.beas_core.proofs.Sets.{Has, Has-map, Has-from_map, Has-filter, Has-from_filter, Has-append_cases, Has-from_contains, Contains-from_has}
use Rattle.beas_core.specs.Covered.{Server as ServingUse, IsCovered}
use Rattle.beas_core.proofs.MemberTests.{and_left, and_right, and_both, from_not, which, all_has, all_by, any_has, any_by, Has-from_flat_map}
use Rattle.beas_core.proofs.UseFacts.{same_number, enumerated}
use Rattle.beas_core.proofs.BindingFacts.{Has-range, from_range}
use Rattle.beas_core.proofs.ClassSetFacts.{holds-within}
use Rattle.beas_core.proofs.ReasonFacts.{covered_in_words, covered_from_words}
use Rattle.specialise.specs.declared.candidates.Candidate.{Candidate}
use Rattle.specialise.specs.declared.servers.Server.{Server}
use Rattle.specialise.specs.Specialised.{candidates, first_place, is_covered_with, with_constants}
use Rattle.specialise.specs.Trials.{apart, candidate_of, classes_in, found_in, rules_of, lacks, server_of, servers_on, servers_of, serves_now, some_serves, all_serve, within, IsLeastUnder}
use Rattle.specialise.proofs.Added.{is_first_place, covered_same, start_more, needed_before, needed_first, needed_with, uses_same, keys_same, fetched_same}
use Rattle.specialise.proofs.Closed.{candidate_below, class_held, held_candidate, key_reached, position_held, reached_is_least, reached_key}
use Rattle.specialise.proofs.Masks.{no_candidate, apart_at, apart_by, has_at, mask_at, mask_has}

same_bools : (a b : Bool) → (a ≡ true → b ≡ true) → (b ≡ true → a ≡ true) → a ≡ b
same_bools true b f g = sym (f refl)
same_bools false true f g = g refl
same_bools false false f g = refl

never : (b : Bool) → b ≡ true → b ≡ false → ⊥
never b p q = cc

module _ (accesses : List Access) (block : Block) (shape : BlockIsWellFormed block) (held : ℕ) (few : held < 2 ^ length (found_in accesses block)) (mask : ℕ)
    (least : IsLeastUnder (rules_of accesses block) held mask) where
  abbrev normal : Normal
  normal = normal_of block

  abbrev cover : ClassSet
  cover = own_cover (normal_of block) accesses

  abbrev given : List ℕ
  given = classes_in accesses block held

  abbrev constant_for : ℕ → ℕ × Value
  constant_for c = (c, Int (pos 0))

  abbrev constants : List (ℕ × Value)
  constants = map constant_for given

  abbrev more : Normal
  more = normal_of (with_constants block constants)

  abbrev covered : ClassSet
  covered = own_cover more accesses

  abbrev reached : ClassSet
  reached = covered_set normal accesses (with_classes (constant_classes normal) given)

  given_below : (c : ℕ) → Has given c → c < length (leaders block)
  unfolding normal_of
  given_below c h = candidate_below accesses block shape c (held_candidate accesses block shape held c h)

  own_classes : (cs : List ℕ) → ((c : ℕ) → Has cs c → c < length (leaders block))
      → map (λ (g : ℕ × Value). class_of block (first_place block g.0)) (map constant_for cs) ≡ cs
  own_classes [] h = refl
  own_classes (c ∷ cs) h =
      ap (λ k. k ∷ map (λ (g : ℕ × Value). class_of block (first_place block g.0)) (map constant_for cs)) (is_first_place block c (h c (inl refl))).of_class
      ∙ ap (λ ks. c ∷ ks) (own_classes cs (λ d m. h d (inr m)))

  covered_is : covered ≡ reached
  covered_is =
      covered_same accesses block constants (constant_classes more)
      ∙ ap (covered_set normal accesses) (start_more accesses block constants ∙ ap (with_classes (constant_classes normal)) (own_classes given given_below))

  reached_covered : Within reached covered
  reached_covered c h = ap (λ s. has s c) covered_is ∙ h

  covered_reached : Within covered reached
  covered_reached c h = sym (ap (λ s. has s c) covered_is) ∙ h

  abbrev found : List Candidate
  found = found_in accesses block

  first_given : (p : Place) → Has (map (λ g. first_place block g.0) constants) p → (c : ℕ) × (Has given c) × (p ≡ first_place block c)
  first_given p h =
      let r = Has-from_map (λ g. first_place block g.0) constants p h in
      let m = Has-from_map constant_for given r.0 r.1 in
      (m.0, m.1, r.2 ∙ ap (λ g. first_place block g.0) m.2)

  given_first : (c : ℕ) → Has given c → Has (map (λ g. first_place block g.0) constants) (first_place block c)
  given_first c h = Has-map (λ g. first_place block g.0) constants (constant_for c) (Has-map constant_for given c h)

  -- ---- from servers to coverage

  abbrev test_use : ℕ → Use → Bool
  test_use atom u = (u.atom == atom) && holds_needed normal u

  record From (atom : ℕ) (s : Server) : Type 0 where
    by : Use
    member : Has (uses normal accesses) by
    on_atom : by.atom ≡ atom
    needed : holds_needed normal by ≡ true
    is_made : s ≡ server_of normal found by

  from_list : (atom : ℕ) (s : Server) → Has (servers_on normal found (uses normal accesses) atom) s → From atom s
  from_list atom s h =
      let m = Has-from_map (server_of normal found) (filter (test_use atom) (uses normal accesses)) s h in
      let f = Has-from_filter (test_use atom) (uses normal accesses) m.0 m.1 in
      record {
        by = m.0;
        member = f.0;
        on_atom = eqb-true m.0.atom atom (and_left (m.0.atom == atom) (holds_needed normal m.0) f.1);
        needed = and_right (m.0.atom == atom) (holds_needed normal m.0) f.1;
        is_made = m.2;
      }

  not_lost : (u : Use) → apart (server_of normal found u).loses held ≡ true → (c : ℕ) → Has given c → lacks u (candidate_of block c) ≡ false
  not_lost u none c h = elim (which (lacks u (candidate_of block c))) [
    | inr e ↦ e
    | inl e ↦ (
        let i = position_held accesses block shape held c h in
        let lost = mask_has (lacks u) found i.0 no_candidate i.1 (subst (λ (x : Candidate). lacks u x ≡ true) (sym i.2) e) in
        absurd (apart_at (server_of normal found u).loses held i.0 none lost i.3))
  ]

  holds_first : (u : Use) (c : ℕ) → lacks u (candidate_of block c) ≡ false → (first_place block c).atom ≡ u.atom
      → has_column (member_columns u.access) (first_place block c).column ≡ true
  holds_first u c e same = by (has_column (member_columns u.access) (first_place block c).column) refl
    where
      by : (b : Bool) → has_column (member_columns u.access) (first_place block c).column ≡ b → has_column (member_columns u.access) (first_place block c).column ≡ true
      by true t = t
      by false t = absurd (never (lacks u (candidate_of block c))
          (and_both ((first_place block c).atom == u.atom) (not (has_column (member_columns u.access) (first_place block c).column))
          (same_number (first_place block c).atom u.atom same) (ap not t)) e)

  serving : (atom : ℕ) → atom < length block.atoms → (s : Server) → From atom s → serves_now held mask s ≡ true → ServingUse more accesses covered atom
  serving atom l s from now =
      let u = from.by in
      let made = server_of normal found u in
      let here = subst (λ x. serves_now held mask x ≡ true) from.is_made now in
      let key = and_left (within made.key mask) (apart made.loses held) here in
      let none = and_right (within made.key mask) (apart made.loses held) here in
      let keys = holds-within reached covered (key_classes normal u) reached_covered (key_reached accesses block shape held few mask least u from.member key) in
      let below = subst (λ n. n < length block.atoms) (sym from.on_atom) l in
      let needed = needed_with accesses block constants u below from.needed (λ p m e.
      let g = first_given p m in
      subst (λ q. has_column (member_columns u.access) q.column ≡ true) (sym g.2)
      (holds_first u g.0 (not_lost u none g.0 g.1) (sym (ap (λ q. q.atom) g.2) ∙ e))) in
      record {
        by = u;
        member = subst (λ us. Contains us u) (sym (uses_same accesses block constants)) (Contains-from_has (uses normal accesses) u from.member);
        on_atom = from.on_atom;
        serves_it = and_both (holds_classes covered (key_classes more u)) (holds_needed more u)
            (ap (holds_classes covered) (keys_same accesses block constants u) ∙ keys) needed;
      }

  atom_listed : (atom : ℕ) → atom < length block.atoms → Has (servers_of accesses block) (servers_on normal found (uses normal accesses) atom)
  unfolding normal_of
  atom_listed atom l = Has-map (servers_on normal found (uses normal accesses)) (atoms_of normal) atom
      (Has-range (length block.atoms) 0 atom (omega arith) (omega (arith, l)))

  served : all_serve held mask (servers_of accesses block) ≡ true → (atom : ℕ) → atom < length block.atoms → ServingUse more accesses covered atom
  served all atom l =
      let list = servers_on normal found (uses normal accesses) atom in
      let some = all_has (some_serves held mask) (servers_of accesses block) list all (atom_listed atom l) in
      let r = any_has (serves_now held mask) list some in
      serving atom l r.0 (from_list atom r.0 r.1) r.2

  atoms_more : length more.atoms ≡ length block.atoms
  unfolding normal_of
  atoms_more = refl

  needed_more : length more.needed ≡ length block.atoms
  unfolding normal_of
  needed_more = length-map (enumerate_from 0 block.atoms) (λ a. needed_columns (with_constants block constants) a.0 a.1.width) ∙ length-enumerate_from 0 block.atoms

  -- a needed column of a served atom is covered
  column_covered : (place : Place) → (s : ServingUse more accesses covered place.atom) → Has (needed_of more place.atom) place.column
      → has covered (place_class more place) ≡ true
  column_covered place s h =
      let u = s.by in
      let keys = and_left (holds_classes covered (key_classes more u)) (holds_needed more u) s.serves_it in
      let needed = and_right (holds_classes covered (key_classes more u)) (holds_needed more u) s.serves_it in
      let member = subst (λ us. Contains us u) (uses_same accesses block constants) s.member in
      let fetched = holds-within reached covered (fetched_classes normal u) reached_covered
      ((reached_is_least accesses block shape given).closed u member
      (holds-within covered reached (key_classes normal u) covered_reached (sym (ap (holds_classes covered) (keys_same accesses block constants u)) ∙ keys))) in
      let made : ℕ → ColumnId = λ n. record { 0 = n } in
      let listed = subst (λ n. Has (needed_of more n) place.column) (sym s.on_atom) h in
      let column = any_has (λ d. d.0 == place.column.0) (member_columns u.access)
      (all_has (has_column (member_columns u.access)) (needed_of more u.atom) place.column needed listed) in
      let same : column.0 ≡ place.column = ap made (eqb-true column.0.0 place.column.0 column.2) in
      let class : class_at more u.atom column.0 ≡ place_class more place = ap (class_at more u.atom) same ∙ ap (λ n. class_at more n place.column) s.on_atom in
      ap (has covered) (sym class) ∙ elim (Has-append_cases u.access.key u.access.fetched column.0 column.1) [
        | inl m ↦ all_has (has covered) (key_classes more u) (class_at more u.atom column.0) keys (Has-map (class_at more u.atom) u.access.key column.0 m)
        | inr m ↦ all_has (has covered) (fetched_classes more u) (class_at more u.atom column.0)
            (ap (holds_classes covered) (fetched_same accesses block constants u) ∙ fetched) (Has-map (class_at more u.atom) u.access.fetched column.0 m)
      ]

  needed_at : (place : Place) → Has (needed_places more) place → (place.atom < length block.atoms) × Has (needed_of more place.atom) place.column
  needed_at place h =
      let place_on : ℕ → ColumnId → Place = λ n c. record { atom = n; column = c } in
      let r = Has-from_flat_map (λ n. map (place_on n.0) n.1) (enumerate_from 0 more.needed) place h in
      let m = Has-from_map (place_on r.0.0) r.0.1 place r.2 in
      let k = enumerated (λ cs. cs) [] 0 more.needed r.0 r.1 in
      let number : place.atom ≡ k.0 = ap (λ p. p.atom) m.2 ∙ k.2 ∙ zero-add k.0 in (
        subst (λ n. n < length block.atoms) (sym number) (subst (λ n. k.0 < n) needed_more k.1),
        subst (λ n. Has (needed_of more n) place.column) (sym number)
            (subst (λ cs. Has cs place.column) (sym k.3 ∙ same_lists more.needed k.0) (subst (Has r.0.1) (sym (ap (λ p. p.column) m.2)) m.1)),
      )
    where
      same_lists : (xs : List (List ColumnId)) (i : ℕ) → slice_index_or (map (λ cs. cs) xs) i [] ≡ slice_index_or xs i []
      same_lists [] i = refl
      same_lists (x ∷ xs) zero = refl
      same_lists (x ∷ xs) (suc i) = same_lists xs i

  to_covered : all_serve held mask (servers_of accesses block) ≡ true → own_is_covered more accesses ≡ true
  to_covered all = covered_from_words more accesses covered (record {
    columns = λ place m. let n = needed_at place (Has-from_contains (needed_places more) place m) in column_covered place (served all place.atom n.0) n.1;
    atoms = λ atom l. served all atom (subst (λ n. atom < n) atoms_more l);
  })

  -- ---- from coverage to servers

  keeps : (u : Use) → u.atom < length block.atoms → holds_needed more u ≡ true → apart (server_of normal found u).loses held ≡ true
  keeps u l needed = apart_by (server_of normal found u).loses held (λ i e f.
      let lost = mask_at (lacks u) found i no_candidate e in
      let k = Has-from_map (candidate_of block) (candidates accesses block) (get_or found i no_candidate) (has_at found i no_candidate lost.0) in
      let own = subst (Has given) (ap (λ (x : Candidate). x.class) k.2) (class_held accesses block shape held i lost.0 f) in
      let lack = subst (λ x. lacks u x ≡ true) k.2 lost.1 in
      let atom = eqb-true (first_place block k.0).atom u.atom
      (and_left ((first_place block k.0).atom == u.atom) (not (has_column (member_columns u.access) (first_place block k.0).column)) lack) in
      let column = from_not (has_column (member_columns u.access) (first_place block k.0).column)
      (and_right ((first_place block k.0).atom == u.atom) (not (has_column (member_columns u.access) (first_place block k.0).column)) lack) in
      never (has_column (member_columns u.access) (first_place block k.0).column)
      (needed_first accesses block constants u l needed (first_place block k.0) (given_first k.0 own)
      (is_first_place block k.0 (given_below k.0 own)).is_place atom) column)

  atom_serves : IsCovered more accesses covered → (atom : ℕ) → atom < length block.atoms
      → some_serves held mask (servers_on normal found (uses normal accesses) atom) ≡ true
  atom_serves so atom l =
      let s = so.atoms atom (subst (λ n. atom < n) (sym atoms_more) l) in
      let u = s.by in
      let below = subst (λ n. n < length block.atoms) (sym s.on_atom) l in
      let keys = and_left (holds_classes covered (key_classes more u)) (holds_needed more u) s.serves_it in
      let needed = and_right (holds_classes covered (key_classes more u)) (holds_needed more u) s.serves_it in
      let member = Has-from_contains (uses normal accesses) u (subst (λ us. Contains us u) (uses_same accesses block constants) s.member) in
      let passes = and_both (u.atom == atom) (holds_needed normal u) (same_number u.atom atom s.on_atom) (needed_before accesses block constants u below needed) in
      let key = reached_key accesses block shape held few mask least u
      (holds-within covered reached (key_classes normal u) covered_reached (sym (ap (holds_classes covered) (keys_same accesses block constants u)) ∙ keys)) in
      any_by (serves_now held mask) (servers_on normal found (uses normal accesses) atom) (server_of normal found u)
      (Has-map (server_of normal found) (filter (test_use atom) (uses normal accesses)) u (Has-filter (test_use atom) (uses normal accesses) u member passes))
      (and_both (within (server_of normal found u).key mask) (apart (server_of normal found u).loses held) key (keeps u below needed))

  from_covered : own_is_covered more accesses ≡ true → all_serve held mask (servers_of accesses block) ≡ true
  unfolding normal_of
  from_covered h =
      let so = covered_in_words more accesses covered h in
      all_by (some_serves held mask) (servers_of accesses block) (λ list m.
      let r = Has-from_map (servers_on normal found (uses normal accesses)) (atoms_of normal) list m in
      let below = from_range (length block.atoms) 0 r.0 r.1 in
      ap (some_serves held mask) r.2 ∙ atom_serves so r.0 (omega (arith, below)))

  serves_is : all_serve held mask (servers_of accesses block) ≡ is_covered_with accesses block (classes_in accesses block held)
  serves_is = same_bools (all_serve held mask (servers_of accesses block)) (is_covered_with accesses block given) to_covered from_covered

  -- the same, as the code has it
  pub covers_is : (servers : List (List Server)) → servers ≡ servers_of accesses block → (b : Bool) → b ≡ all_serve held mask servers
      → b ≡ is_covered_with accesses block (classes_in accesses block held)
  covers_is servers es b eb = eb ∙ ap (all_serve held mask) es ∙ serves_is
