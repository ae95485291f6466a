-- What the kernel wrote, with lines of the watcher between its parts.
use Rattle.std.specs.Prelude.{◌≡◌, ℕ, ◌==◌, ◌-◌, min, max, Bool, true, ◌||◌, List, [], ◌∷◌, ◌++◌}
use Rattle.std.specs.Prelude.{length, cond, nat_lt, map, codes, drop, flat_map, All, slice_index}
use Rattle.std.specs.Prelude.{slice_range}
use Rattle.lab_levels.specs.Lines.{Own}

-- a byte of a line of the watcher: `?` for what would end the line, and for what isn't seen
abbrev pub shown : ℕ → ℕ
shown byte = cond (nat_lt byte 32) 63 byte

-- a line of the watcher begins with a bar
abbrev pub own_line : List ℕ → List ℕ
own_line text = codes "| " ++ map shown text ++ 10 ∷ []

-- some bytes of the kernel, and a line of the watcher behind them
pub record Woven : Type 0 where
  pub kernel : List ℕ
  pub text : List ℕ

-- as they are told
abbrev pub both : Woven → List ℕ
both w = w.kernel ++ own_line w.text

-- the bytes of the kernel alone
abbrev pub kernel_part : Woven → List ℕ
kernel_part w = w.kernel

-- no bytes, or bytes whose last one is a newline
abbrev pub is_whole : List ℕ → Bool
is_whole bytes = length bytes == 0 || slice_index bytes (length bytes - 1) == 10

-- The text is these bytes of the kernel, all and in their order, with whole lines of the watcher
-- behind whole lines of them. So where no line of the kernel begins with a bar, the lines that don't
-- are the kernel's.
pub record Weaves (text kernel : List ℕ) : Type 0 where
  pub parts : List Woven
  pub whole : All (λ (w : Woven). is_whole w.kernel ≡ true) parts
  pub last : List ℕ
  pub text_is : text ≡ flat_map both parts ++ last
  pub kernel_is : kernel ≡ flat_map kernel_part parts ++ last

-- And the lines of the watcher are these, all and in their order.
pub record WeavesLines (text kernel : List ℕ) (lines : List Own) : Type 0 where
  pub weaves : Weaves text kernel
  pub lines_are : map (λ (w : Woven). w.text) weaves.parts ≡ map (λ (o : Own). o.text) lines

-- the place, or where the line before stands if that is behind it, or the end of the kernel's bytes
abbrev pub reached : (kernel : List ℕ) → (at place : ℕ) → ℕ
reached kernel at place = min (max place at) (length kernel)

-- where a line stands that is to stand at a place, behind a line that stands at another one: there,
-- or with the line before it where a line of the kernel would be parted
abbrev pub standing : (kernel : List ℕ) → (at place : ℕ) → ℕ
standing kernel at place =
    cond (is_whole (slice_range kernel at (reached kernel at place))) (reached kernel at place) at

-- the bytes of the kernel from a place on, with lines of the watcher where they stand
abbrev pub woven : (kernel : List ℕ) → (at : ℕ) → List Own → List ℕ
woven kernel at [] = drop at kernel
woven kernel at (o ∷ lines) =
    slice_range kernel at (standing kernel at o.place) ++ own_line o.text
    ++ woven kernel (standing kernel at o.place) lines
