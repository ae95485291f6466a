-- The lines of the generated script that are still to come.
use Rattle.std.specs.Prelude.{◌≡◌, ℕ, ◌≤◌, List, [], ◌++◌, drop, length}
use Rattle.script_model.specs.World.{plain_image}
use Rattle.script_model.specs.Images.{sealed_under}
use Rattle.script_model.specs.Demo.{demo_keys, three, newest_frame, head_lines, drawn_lines}

-- the bytes of both images, sealed under the key of zeros
pub record AreDemoImages (first second : List ℕ) : Type 0 where
  pub first_is : first ≡ sealed_under demo_keys (plain_image three [])
  pub second_is : second ≡ sealed_under demo_keys (plain_image newest_frame [])
  pub first_short : length first ≤ 512
  pub second_short : length second ≤ 512

-- the lines to come, where so many of the head came, and so many draws after this one are to come
abbrev pub lines_left : (head draws draw : ℕ) → List (List ℕ)
lines_left head draws draw = drop head head_lines ++ drawn_lines draws draw
