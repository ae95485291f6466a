-- A line more of the watcher: its text stands behind the others.
use Rattle.std.proofs.Common.{◌≡◌, ℕ, ◌-◌, ◌≤◌, List, [], ◌∷◌, ◌++◌, length, take, drop}
use Rattle.std.proofs.Common.{slice_range, arith, refl, ap, ◌∙◌}
use Rattle.std.proofs.Math.Seq.{drop-append_seam}
use Rattle.std.proofs.lemmas.List.{length-append, length-drop, map-append, take-append-le, drop-append-le, take_all}
use Rattle.std.proofs.lemmas.List.Elements.{All-push, All-weaker, All-head, All-tail}
use Rattle.lab_levels.specs.declared.own_lines.OwnLine.{OwnLine}
use Rattle.lab_levels.specs.Lines.{Own, line_in, lines_in, IsWithin, AreWithin}

-- a text within others stays when more stands behind them
range_stays : (texts more : List ℕ) (from to : ℕ) → from ≤ to → to ≤ length texts →
    slice_range (texts ++ more) from to ≡ slice_range texts from to
range_stays texts more from to order inside =
    let below : from ≤ length texts = omega (arith, order, inside) in
    let room : to - from ≤ length (drop from texts) = omega (arith, length-drop from texts, order, inside) in
    ap (λ w. take (to - from) w) (drop-append-le from texts more below)
    ∙ take-append-le (to - from) (drop from texts) more room

-- a line with a place and a text
abbrev own : (place : ℕ) → (text : List ℕ) → Own
own place text = record { place = place; text = text }

-- so do all lines
lines_stay : (texts more : List ℕ) (lines : List OwnLine) → AreWithin (length texts) lines →
    lines_in (texts ++ more) lines ≡ lines_in texts lines
lines_stay texts more [] within = refl
lines_stay texts more (l ∷ lines) within =
    let first = All-head (IsWithin (length texts)) l lines within in
    let others = All-tail (IsWithin (length texts)) l lines within in
    ap (λ t. own l.place t ∷ lines_in (texts ++ more) lines)
    (range_stays texts more l.from l.to first.0 first.1)
    ∙ ap (λ ls. line_in texts l ∷ ls) (lines_stay texts more lines others)

-- the line that was put behind the others
text_behind : (texts text : List ℕ) → slice_range (texts ++ text) (length texts) (length (texts ++ text)) ≡ text
text_behind texts text =
    let long = length-append texts text in
    ap (λ w. take (length (texts ++ text) - length texts) w) (drop-append_seam texts text)
    ∙ take_all (length (texts ++ text) - length texts) text (omega (arith, long))

-- a line with this place and text, behind texts that are there
abbrev behind_all : (texts text : List ℕ) (place : ℕ) → OwnLine
behind_all texts text place =
    record { place = place; from = length texts; to = length (texts ++ text) }

pub line_more : (texts text : List ℕ) (lines : List OwnLine) (place : ℕ) → AreWithin (length texts) lines →
    lines_in (texts ++ text) (lines ++ behind_all texts text place ∷ [])
    ≡ lines_in texts lines ++ record { place = place; text = text } ∷ []
line_more texts text lines place within =
    map-append (line_in (texts ++ text)) lines (behind_all texts text place ∷ [])
    ∙ ap (λ ls. ls ++ line_in (texts ++ text) (behind_all texts text place) ∷ []) (lines_stay texts text lines within)
    ∙ ap (λ t. lines_in texts lines ++ own place t ∷ []) (text_behind texts text)

-- lines are within more bytes
pub within_still : (texts text : List ℕ) (lines : List OwnLine) → AreWithin (length texts) lines →
    AreWithin (length (texts ++ text)) lines
within_still texts text lines within =
    All-weaker (IsWithin (length texts)) (IsWithin (length (texts ++ text)))
    (λ l h. (h.0, omega (arith, h.1, length-append texts text))) lines within

pub within_more : (texts text : List ℕ) (lines : List OwnLine) (place : ℕ) → AreWithin (length texts) lines →
    AreWithin (length (texts ++ text)) (lines ++ behind_all texts text place ∷ [])
within_more texts text lines place within =
    All-push (IsWithin (length (texts ++ text))) lines (behind_all texts text place)
    (within_still texts text lines within)
    (omega (arith, length-append texts text), omega arith)

-- what a line more needs
pub ruleset collects = (line_more, within_more, within_still)
