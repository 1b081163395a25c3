-- What was sent before a fault is a prefix of all that was to be sent.
use Rattle.std.proofs.Common.{◌≡◌, ◌++◌, ◌≤◌, ◌∙◌, sym, ap, ℕ, List, length, take, drop, arith}
use Rattle.std.proofs.lemmas.List.{append_assoc, take-append-drop, take-append-le, drop-append-le, length-append}
use Rattle.std.proofs.Math.Seq.{take-append_seam, drop-append_seam}
use Rattle.outside.specs.Parts.{SentPart}

-- what was sent, and what wasn't, are together what was there before and the whole
rest_of : (now next more part left after both : List ℕ) → now ++ (next ++ more) ≡ both
    → after ≡ now ++ part → part ++ left ≡ next → after ++ (left ++ more) ≡ both
rest_of now next more part left after both joined sent cut =
    rw (sent, append_assoc now part (left ++ more), ← append_assoc part left more, cut) joined

longer_after : (before now part after : List ℕ) → length before ≤ length now → after ≡ now ++ part → length before ≤ length after
longer_after before now part after longer sent = rw (sent, length-append now part) (omega arith)

begins_with : (before after left whole : List ℕ) → after ++ left ≡ before ++ whole → length before ≤ length after
    → after ≡ before ++ drop (length before) after
begins_with before after left whole joined longer =
    let front : take (length before) after ≡ before =
    sym (take-append-le (length before) after left longer) ∙ ap (take (length before)) joined ∙ take-append_seam before whole in
    sym (take-append-drop (length before) after) ∙ ap (λ xs. xs ++ drop (length before) after) front

ends_with : (before after left whole : List ℕ) → after ++ left ≡ before ++ whole → length before ≤ length after
    → drop (length before) after ++ left ≡ whole
ends_with before after left whole joined longer =
    sym (drop-append-le (length before) after left longer) ∙ ap (drop (length before)) joined ∙ drop-append_seam before whole

-- the next piece's part follows what went before, where the pieces together are the whole
pub part_after : (before now next more after whole : List ℕ) → now ++ (next ++ more) ≡ before ++ whole
    → length before ≤ length now → SentPart now after next → SentPart before after whole
part_after before now next more after whole joined longer sent =
    let all = rest_of now next more sent.part sent.left after (before ++ whole) joined sent.sent sent.cut in
    let long = longer_after before now sent.part after longer sent.sent in
    record {
      part = drop (length before) after;
      left = sent.left ++ more;
      sent = begins_with before after (sent.left ++ more) whole all long;
      cut = ends_with before after (sent.left ++ more) whole all long;
    }
