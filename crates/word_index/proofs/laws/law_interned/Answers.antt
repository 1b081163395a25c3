use Rattle.std.proofs.Common.{◌≡◌, ◌<◌, [], List, length, get_or, ap, sym, ◌∙◌, subst, arith}
use Rattle.std.specs.List.{AllByRecursion}
use Rattle.std.proofs.lemmas.List.{length-map}
use Rattle.std.proofs.lemmas.List.Elements.{All-get_or}
use Rattle.beas_core.specs.declared.schema.Access.{Access}
use Rattle.access_index.specs.Index.{Index, IsIndexOf, tuple_of}
use Rattle.word_index.specs.declared.any.AnyIndex.{AnyIndex}
use Rattle.word_index.specs.declared.any.AnyIndex.TheVariants.{Zero}
use Rattle.code_index.specs.Spelling.{AllHaveCodes}
use Rattle.word_index.specs.Widths.{index_in}
use Rattle.word_index.proofs.UnknownFacts.{all_among}
use Rattle.update_guard.specs.Seen.{no_index}
use Rattle.word_index.specs.Kept.{meaning, IsKept}
use Rattle.word_index.proofs.KeptFacts.{meaning_at}
use Rattle.word_index.proofs.laws.law_interned.Goals as goal

pub returns : goal.returns
returns c codes indexes schema rows kept guarded i d l =
    let at = guarded.indexed.each i no_index d l in
    let within : i < length indexes = omega (arith, l, guarded.indexed.count, length-map indexes (meaning codes)) in
    let none : AnyIndex = Zero (record { access = (get_or schema.accesses i d); total = 0; groups = [] }) in
    let index = get_or indexes i none in
    let here = meaning_at codes indexes i none within in
    let own = All-get_or (IsKept codes) indexes i none within kept.each in
    let same : (index_in index).access ≡ get_or schema.accesses i d = ap (λ (x : Index). x.access) (sym here) ∙ at.access_is in
    subst (λ (a : Access). AllByRecursion (λ row. AllHaveCodes codes (tuple_of a row)) (get_or rows (get_or schema.accesses i d).table.0 [])) same
    (all_among codes (index_in index) own.in_order (get_or rows (get_or schema.accesses i d).table.0 []) (subst (λ (x : Index). IsIndexOf x (get_or rows (get_or schema.accesses i d).table.0 [])) here at.index_is))
