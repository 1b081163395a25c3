-- What a field and the end of a record do to csv's writer.
use Rattle.std.proofs.Common.{◌≡◌, ◌≢◌, ◌∙◌, ◌<◌, ◌+◌, ◌-◌, ◌^◌, ◌++◌, ◌∷◌, List, ℕ, [], length, refl, ap, sym, subst, true, false, arith, append_assoc, append-nil, length-append, Option, Some, None, IsUtf8, MutBor, Vec, Global}
use Rattle.std.specs.Prelude.{min, not, ◌==◌}
use Rattle.std.specs.Io.KnownBytes.{append_known, Appends, Keeps}
use Rattle.std.proofs.lemmas.Str.{IsUtf8-append, IsUtf8-nil}
use Rattle.csv.specs.declared.writer.QuoteStyle.TheVariants as style
use Rattle.csv.specs.declared.writer.Writer.{Writer}
use Rattle.csv.specs.Writing.{default_writer, escaped, fields_text, is_blank, field_text, next_sep, row_body, row_text, tail_text, writer_setup, fields_written, has_written, text_written, writer_pending, writer_under}
use Rattle.csv.proofs.WriteFacts.{blank-more, row-more}
use Rattle.report.specs.Records.{any_width, HasWritten}
use Rattle.report.specs.Reports.{record_line}
use Rattle.report.proofs.RecordsAreText.{IsUtf8-next, IsUtf8-tail}

escaped-flexible : (field : List ℕ) → escaped any_width field ≡ escaped default_writer field
unfolding escaped
escaped-flexible [] = refl
escaped-flexible (b ∷ field) = rw (escaped-flexible field) refl

field_text-flexible : (field : List ℕ) → field_text any_width field ≡ field_text default_writer field
field_text-flexible field = rw (escaped-flexible field) refl

fields_text-flexible : (fields : List (List ℕ)) → fields_text any_width fields ≡ fields_text default_writer fields
unfolding fields_text
fields_text-flexible [] = refl
fields_text-flexible (field ∷ fields) = rw (field_text-flexible field, fields_text-flexible fields) refl

is_blank-flexible : (fields : List (List ℕ)) → is_blank any_width fields ≡ is_blank default_writer fields
unfolding is_blank
is_blank-flexible [] = refl
is_blank-flexible (field ∷ []) = rw (field_text-flexible field) refl
is_blank-flexible (field ∷ next ∷ fields) = refl

row_body-flexible : (fields : List (List ℕ)) → row_body any_width fields ≡ row_body default_writer fields
row_body-flexible [] = refl
row_body-flexible (field ∷ fields) = rw (field_text-flexible field, fields_text-flexible fields) refl

-- that widths may differ changes no byte
row_text-flexible : (fields : List (List ℕ)) → row_text any_width fields ≡ row_text default_writer fields
row_text-flexible fields = rw (row_body-flexible fields, is_blank-flexible fields) refl

plain : {W : Type 0} (writer : Writer W) → writer_setup writer ≡ any_width → (writer_setup writer).style ≢ style.NonNumeric
plain writer setup = rw setup (λ e. cc e)

-- known bytes that grow are known
grown : (before after : Option (List ℕ)) (xs ys : List ℕ) → before ≡ Some xs → Appends before after ys → after ≡ Some (xs ++ ys)
grown (Some x) (Some y) xs ys is more = ap (λ (zs : List ℕ). Some zs) (more ∙ ap (λ (zs : List ℕ). zs ++ ys) (cc is))
grown (Some x) None xs ys is more = absurd more
grown None after xs ys is more = cc is

module _ {W : Type 0} (contents : W → Option (List ℕ)) (old new : Writer W) (before : List ℕ) (fields : List (List ℕ))
    (stands : HasWritten contents old before fields) (same : writer_setup new ≡ writer_setup old) where
  -- a field more
  pub field_more : (field : List ℕ) → length fields + 1 < 2 ^ 64 → IsUtf8 field
      → fields_written new ≡ min (fields_written old + 1) (2 ^ 64 - 1)
      → (has_written old ≡ false → (writer_setup old).style ≢ style.NonNumeric → has_written new ≡ not (length (field_text (writer_setup old) field) == 0))
      → (has_written old ≡ true → has_written new ≡ true)
      → ((writer_setup old).style ≢ style.NonNumeric
      → Appends (text_written contents old) (text_written contents new) (next_sep (writer_setup old) (fields_written old) ++ field_text (writer_setup old) field))
      → HasWritten contents new before (fields ++ field ∷ [])
  field_more field room utf8 count wrote stays bytes =
      let added : List ℕ = next_sep any_width (length fields) ++ field_text any_width field in
      let size : length (fields ++ field ∷ []) ≡ length fields + 1 = length-append fields (field ∷ []) in
      let whole : (before ++ row_body any_width fields) ++ added ≡ before ++ row_body any_width (fields ++ field ∷ []) =
      append_assoc before (row_body any_width fields) added ∙ ap (λ ys. before ++ ys) (sym (row-more any_width fields field)) in
      let more : Appends (text_written contents old) (text_written contents new) added = rw (stands.setup, stands.count) at (bytes (plain old stands.setup)) in record {
        setup = same ∙ stands.setup;
        count = omega (arith, count, size, stands.count, room);
        blank = rw size (blank-more any_width fields field (has_written old) (has_written new) stands.blank (λ none. rw stands.setup at (wrote none (plain old stands.setup))) stays);
        bytes = grown _ _ _ _ stands.bytes more ∙ ap (λ (ys : List ℕ). Some ys) whole;
        text = subst IsUtf8 whole (IsUtf8-append _ _ stands.text (IsUtf8-next (length fields) field utf8));
      }

  -- the end of the record
  pub record_ended : fields_written new ≡ 0 → has_written new ≡ false
      → Appends (text_written contents old) (text_written contents new) (tail_text (writer_setup old) (has_written old) (fields_written old))
      → HasWritten contents new (before ++ record_line fields) []
  unfolding record_line is_blank
  record_ended count wrote bytes =
      let added : List ℕ = tail_text any_width (has_written old) (length fields) in
      let line : row_body any_width fields ++ added ≡ row_text default_writer fields = rw (sym stands.blank) (row_text-flexible fields) in
      let whole : (before ++ row_body any_width fields) ++ added ≡ (before ++ row_text default_writer fields) ++ [] =
      append_assoc before (row_body any_width fields) added ∙ ap (λ ys. before ++ ys) line ∙ sym (append-nil _) in
      let more : Appends (text_written contents old) (text_written contents new) added = rw (stands.setup, stands.count) at bytes in record {
        setup = same ∙ stands.setup;
        count = count;
        blank = rw wrote refl;
        bytes = grown _ _ _ _ stands.bytes more ∙ ap (λ (ys : List ℕ). Some ys) whole;
        text = subst IsUtf8 whole (IsUtf8-append _ _ stands.text (IsUtf8-tail (has_written old) (length fields)));
      }

kept : (before after : Option (List ℕ)) (xs : List ℕ) → before ≡ Some xs → Keeps before after → after ≡ Some xs
kept (Some x) (Some y) xs is same = ap (λ (zs : List ℕ). Some zs) (same ∙ cc is)
kept (Some x) None xs is same = absurd same
kept None after xs is same = cc is

with_none_left : (under : Option (List ℕ)) (left xs : List ℕ) → append_known under left ≡ Some xs → left ≡ [] → under ≡ Some xs
with_none_left (Some x) left xs whole none = ap (λ (zs : List ℕ). Some zs) (sym (append-nil x) ∙ ap (λ ys. x ++ ys) (sym none) ∙ cc whole)
with_none_left None left xs whole none = cc whole

-- bytes that a writer borrows
abbrev lent : MutBor (Vec ℕ Global) → Option (List ℕ)
lent bytes = Some bytes.now.items

-- a new writer over no bytes, to which a header and rows are given before it is flushed, leaves their records there, and text
pub records_lent : (made headed to_row rowed to_flush flushed : Writer (MutBor (Vec ℕ Global))) (lender : MutBor (Vec ℕ Global)) (header rows bytes : List ℕ)
    → writer_setup made ≡ any_width → fields_written made ≡ 0 → has_written made ≡ false → writer_pending made ≡ [] → writer_under made ≡ lender → lender.now.items ≡ []
    → ((before : List ℕ) → HasWritten lent made before [] → HasWritten lent headed (before ++ header) []) → to_row ≡ headed
    → ((before : List ℕ) → HasWritten lent to_row before [] → HasWritten lent rowed (before ++ rows) []) → to_flush ≡ rowed
    → Keeps (text_written lent to_flush) (text_written lent flushed) → writer_pending flushed ≡ [] → bytes ≡ (writer_under flushed).now.items
    → (bytes ≡ header ++ rows) × IsUtf8 bytes
unfolding is_blank
records_lent made headed to_row rowed to_flush flushed lender header rows bytes setup count wrote pending under nothing put_header same put_rows still keeps none is =
    let new : HasWritten lent made [] [] = record {
      setup = setup;
      count = count;
      blank = rw wrote refl;
      bytes = rw (under, nothing, pending) refl;
      text = IsUtf8-nil;
    } in
    let stands : HasWritten lent to_flush (header ++ rows) [] = rw still (put_rows header (rw same (put_header [] new))) in
    let whole : text_written lent to_flush ≡ Some (header ++ rows) = rw (append-nil (header ++ rows)) at stands.bytes in
    let left : Some (writer_under flushed).now.items ≡ Some (header ++ rows) = with_none_left _ _ _ (kept _ _ _ whole keeps) none in
    let same_bytes : bytes ≡ header ++ rows = is ∙ cc left in
    (same_bytes, rw same_bytes (subst IsUtf8 (append-nil (header ++ rows)) stands.text))
