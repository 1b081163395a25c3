-- Parts that were given to a writer one after another.
use Rattle.std.proofs.Common.{◌≡◌, ◌++◌, ◌-◌, [], ◌∙◌, sym, ap, refl, ℕ, List, Option, Some, None, take, drop, length, arith}
use Rattle.std.proofs.lemmas.List.{append_assoc, append-nil, take-append-drop, take_all, length-drop}
use Rattle.std.specs.Io.KnownBytes.{Appends, Keeps}
use Rattle.real_streams.specs.Given.{GavePart}

-- the bytes in front of the rest were given
pub record GaveFront (before now : Option (List ℕ)) (bytes rest : List ℕ) : Type 0 where
  pub front : List ℕ
  pub cut : front ++ rest ≡ bytes
  pub given : Appends before now front

appends_none : (before : Option (List ℕ)) → Appends before before []
appends_none None = tt
appends_none (Some held) = sym (append-nil held)

pub gave_none : (before : Option (List ℕ)) (bytes : List ℕ) → GaveFront before before bytes bytes
gave_none before bytes = record { front = []; cut = refl; given = appends_none before }

appends_both : (before middle now : Option (List ℕ)) (front part : List ℕ) → Appends before middle front → Appends middle now part
    → Appends before now (front ++ part)
appends_both None middle now front part first second = tt
appends_both (Some held) None now front part first second = absurd first
appends_both (Some held) (Some more) None front part first second = absurd second
appends_both (Some held) (Some more) (Some last) front part first second = second ∙ ap (λ xs. xs ++ part) first ∙ append_assoc held front part

both_parts : (rest : List ℕ) (count : ℕ) → take count rest ++ take (length rest - count) (drop count rest) ≡ rest
both_parts rest count =
    let all : take (length rest - count) (drop count rest) ≡ drop count rest = take_all (length rest - count) (drop count rest)
    (rw length-drop (omega arith)) in
    ap (λ xs. take count rest ++ xs) all ∙ take-append-drop count rest

-- one more part
pub gave_more : (before middle now : Option (List ℕ)) (bytes rest : List ℕ) (count : ℕ) → GaveFront before middle bytes rest
    → Appends middle now (take count rest)
    → GaveFront before now bytes (take (length rest - count) (drop count rest))
gave_more before middle now bytes rest count gave more = record {
  front = gave.front ++ take count rest;
  cut = append_assoc gave.front (take count rest) (take (length rest - count) (drop count rest)) ∙ ap (λ xs. gave.front ++ xs) (both_parts rest count)
      ∙ gave.cut;
  given = appends_both before middle now gave.front (take count rest) gave.given more;
}

-- nothing is left
pub gave_all : (before now : Option (List ℕ)) (bytes rest : List ℕ) → GaveFront before now bytes rest → rest ≡ [] → Appends before now bytes
gave_all before now bytes rest gave none =
    let whole : gave.front ≡ bytes = sym (append-nil gave.front) ∙ ap (λ xs. gave.front ++ xs) (sym none) ∙ gave.cut in
    rw (← whole) gave.given

-- a part was given
pub gave_part : (before now : Option (List ℕ)) (bytes rest : List ℕ) → GaveFront before now bytes rest → GavePart before now bytes
gave_part None now bytes rest gave = tt
gave_part (Some held) None bytes rest gave = absurd gave.given
gave_part (Some held) (Some holds) bytes rest gave = record { part = gave.front; left = rest; sent = gave.given; cut = gave.cut }

pub gave_part_kept : (before middle now : Option (List ℕ)) (bytes rest : List ℕ) → GaveFront before middle bytes rest → Keeps middle now
    → GavePart before now bytes
gave_part_kept None middle now bytes rest gave kept = tt
gave_part_kept (Some held) None now bytes rest gave kept = absurd gave.given
gave_part_kept (Some held) (Some more) None bytes rest gave kept = absurd kept
gave_part_kept (Some held) (Some more) (Some holds) bytes rest gave kept = record { part = gave.front; left = rest; sent = kept ∙ gave.given; cut = gave.cut }
