-- The images of the script are short, and its lines come one after another.
use Rattle.std.proofs.Common.{◌≡◌, ◌≤◌, ◌+◌, ◌-◌, ◌++◌, ℕ, zero, suc, List, [], ◌∷◌, length}
use Rattle.std.proofs.Common.{flat_map, append_assoc, refl, subst, arith, lit≤}
use Rattle.std.proofs.Math.ListN.{length-append}
use Rattle.sha2.proofs.Facts256.{length-sha256}
use Rattle.script_model.specs.declared.Instr.{Instr}
use Rattle.script_model.specs.World.{plain_image}
use Rattle.script_model.specs.Images.{padded_key, sealed_text, sealed_image, sealed_under, hmac}
use Rattle.script_model.specs.Demo.{demo_keys, three, newest_frame, next_draw, line_of_draw, drawn_lines}
use Rattle.sha2.specs.Sha256.{sha256}
use Rattle.script_model.specs.Text as text
use Rattle.demo_text.specs.Lines.{lines_left, AreDemoImages}

-- a sealed image is 32 bytes longer than what is sealed
sealed_length : (key : List ℕ) (code : List Instr) →
    length (sealed_image key 0 0 code []) ≡ length (sealed_text 0 0 code []) + 32
sealed_length key code =
    let text = sealed_text 0 0 code [] in
    let inner = padded_key 0x5c key ++ sha256 (padded_key 0x36 key ++ text) in
    rw (length-append text (hmac key text)) (rw (length-sha256 inner) refl)

-- the image of code that is short enough is short
short : (code : List Instr) (bytes : List ℕ) →
    bytes ≡ sealed_under demo_keys (plain_image code []) → length (sealed_text 0 0 code []) ≤ 480 →
    length bytes ≤ 512
short code bytes is few = let e = sealed_length demo_keys.first code in rw is (omega (arith, e, few))

-- both images
pub are_images : (first second : List ℕ) → first ≡ sealed_under demo_keys (plain_image three [])
    → second ≡ sealed_under demo_keys (plain_image newest_frame []) → AreDemoImages first second
are_images first second first_is second_is =
    record {
      first_is = first_is;
      second_is = second_is;
      first_short = short three first first_is (lit≤ tt);
      second_short = short newest_frame second second_is (lit≤ tt);
    }

-- a draw, if one is to come, is the next of the drawn lines
drawn_by : (draws draw : ℕ) → (draws ≡ 0 → ⊥) → drawn_lines draws draw
    ≡ line_of_draw (next_draw draw) ∷ drawn_lines (draws - 1) (next_draw draw)
drawn_by zero draw some = absurd (some refl)
drawn_by (suc n) draw some = let one_less : suc n - 1 ≡ n = omega arith in rw one_less refl

-- behind the head the next line is a draw's
pub next_is_drawn : (head draws draw x : ℕ) (line : List ℕ) → 26 ≤ head → head ≤ 26 →
    (draws ≡ 0 → ⊥) → x ≡ next_draw draw → line ≡ line_of_draw x →
    lines_left head draws draw ≡ line ∷ lines_left head (draws - 1) x
next_is_drawn head draws draw x line least most some draw_is line_is =
    let over : 26 ≡ head = omega (arith, least, most) in
    subst (λ (k : ℕ). lines_left k draws draw ≡ line ∷ lines_left k (draws - 1) x) over
    (rw (line_is, draw_is) (drawn_by draws draw some))

-- a line more stands in the text
pub one_more : (bytes begun done line : List ℕ) (old lines : List (List ℕ)) (all : List ℕ) →
    begun ≡ bytes ++ line → done ≡ begun ++ 10 ∷ [] → old ≡ line ∷ lines →
    bytes ++ flat_map text.line old ≡ all → done ++ flat_map text.line lines ≡ all
one_more bytes begun done line old lines all begun_is done_is old_is so_far =
    rw done_is (rw begun_is (simp append_assoc (simp append_assoc at (rw old_is at so_far))))
