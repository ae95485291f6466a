-- The script that `demo` generates, and the one line that it writes.
use Rattle.std.specs.Prelude.{ℕ, zero, suc, ◌+◌, ◌*◌, ◌/◌, ◌%◌, ◌^◌, ◌==◌, Bool, true, false, cond}
use Rattle.std.specs.Prelude.{nat_le, List, [], ◌∷◌, ◌++◌, length, filter, map, codes, replicate}
use Rattle.std.specs.Prelude.{None}
use Rattle.sha2.specs.Sha256.{sha256}
use Rattle.kernel_data.specs.declared.Instr.{Instr}
use Rattle.kernel_data.specs.declared.Op.TheVariants.{Li, Mov, Sub, Sltu, Addi, Jnz, Call, Ret}
use Rattle.kernel_data.specs.declared.Note.{Note}
use Rattle.kernel_data.specs.declared.Note.TheVariants.{Ended, Refused, Dropped}
use Rattle.kernel_data.specs.Bytes.{hex_text}
use Rattle.graft_code.specs.Boxed.{instr}
use Rattle.graft_code.specs.declared.Keys.{Keys}
use Rattle.kernel_data.specs.World.{plain_image}
use Rattle.graft_code.specs.Images.{sealed_under}
use Rattle.kernel_data.specs.Directory.{Disk}
use Rattle.kernel_data.specs.Bytes.{spaced}
use Rattle.script_model.specs.Text.{line}
use Rattle.script_model.specs.Session.{Build, Written, after_lines, first_session}
use Rattle.script_model.specs.Outcome.{left_lines}

-- the keys of the script: the first is zeros, and there is no second
abbrev pub demo_keys : Keys
demo_keys = record { first = replicate 32 0; second = None }

-- code that reads ahead three blocks, or fewer if fewer are left
abbrev pub three : List Instr
three =
    instr Sub 4 2 0 0 ∷ instr Li 5 0 0 3 ∷ instr Sltu 6 4 5 0 ∷ instr Jnz 6 0 0 6
    ∷ instr Mov 1 5 0 0 ∷ instr Ret 0 0 0 0
    ∷ instr Mov 1 4 0 0 ∷ instr Ret 0 0 0 0 ∷ []

-- code that gives the newest frame of its process
abbrev pub newest_frame : List Instr
newest_frame = instr Call 0 0 0 6 ∷ instr Addi 0 0 0 4294967295 ∷ instr Call 0 0 0 7
    ∷ instr Ret 0 0 0 0 ∷ []

-- a line that loads code
abbrev pub image_line : ℕ → List Instr → List ℕ
image_line slot code = codes "image" ++ spaced slot
    ++ 32 ∷ hex_text (sealed_under demo_keys (plain_image code []))

-- both grafts of a process
abbrev pub graft_lines : ℕ → List (List ℕ)
graft_lines p =
    (codes "install" ++ spaced p ++ codes " 0 0 64") ∷ (codes "bill" ++ spaced p ++ codes " 0")
    ∷ (codes "install" ++ spaced p ++ codes " 4 1 64") ∷ (codes "bill" ++ spaced p ++ codes " 4")
    ∷ []

-- the lines before the random ones
abbrev pub head_lines : List (List ℕ)
head_lines =
    codes "frames 8" ∷ codes "boot" ∷ image_line 0 three ∷ image_line 1 newest_frame
    ∷ codes "spawn 0" ∷ codes "spawn 0" ∷ codes "spawn 0"
    ∷ map (λ p. codes "give 0" ++ spaced p ++ codes " steps 200000") (1 ∷ 2 ∷ 3 ∷ [])
    ++ map (λ p. codes "open" ++ spaced p ++ codes " beta") (0 ∷ 1 ∷ 2 ∷ 3 ∷ [])
    ++ graft_lines 1 ++ graft_lines 2 ++ graft_lines 3

-- the next random number after x
abbrev pub next_draw : ℕ → ℕ
next_draw x = (1103515245 * x + 12345) % 2 ^ 31

-- the four bytes of a number, the highest first
abbrev pub high_first : ℕ → List ℕ
high_first x = x / 16777216 % 256 ∷ x / 65536 % 256 ∷ x / 256 % 256 ∷ x % 256 ∷ []

-- a read of four bytes
abbrev pub read_line : ℕ → ℕ → List ℕ
read_line p i = codes "read" ++ spaced p ++ codes " 0" ++ spaced i ++ codes " 0 4"

-- a write of the number x as four bytes
abbrev pub write_line : ℕ → ℕ → ℕ → List ℕ
write_line p i x = codes "write" ++ spaced p ++ codes " 0" ++ spaced i ++ codes " 0 "
    ++ hex_text (high_first x)

-- the line of a choice among eight: a read for three of them, a write, a yield, a tick, and a step
-- for two
abbrev pub line_by : (choice p i x : ℕ) → List ℕ
line_by c p i x =
    cond (nat_le c 2) (read_line p i)
    (cond (c == 3) (write_line p i x)
    (cond (c == 4) (codes "yield" ++ spaced p)
    (cond (c == 5) (codes "tick") (codes "step" ++ spaced p ++ codes " 20"))))

-- the line of a random number
abbrev pub line_of_draw : ℕ → List ℕ
line_of_draw x = line_by (x / 262144 % 8) (x / 65536 % 4) (x / 2097152 % 40) x

-- the lines of the n random numbers after x
abbrev pub drawn_lines : ℕ → ℕ → List (List ℕ)
drawn_lines zero x = []
drawn_lines (suc n) x = line_of_draw (next_draw x) ∷ drawn_lines n (next_draw x)

-- the lines of the script for a number
abbrev pub demo_lines : ℕ → List (List ℕ)
demo_lines n = head_lines ++ drawn_lines 5000 (n % 2 ^ 31)

-- a call ended with ok
abbrev pub is_ended : Note → Bool
is_ended (Ended m reply) = true
is_ended _ = false

-- a call was refused
abbrev pub is_refused : Note → Bool
is_refused (Refused m refusal) = true
is_refused _ = false

-- a level was dropped
abbrev pub is_dropped : Note → Bool
is_dropped (Dropped m q pt cause) = true
is_dropped _ = false

-- the summary of these lines and notes
abbrev pub summary_of : ℕ → List ℕ → List Note → List ℕ
summary_of n written notes =
    line (codes "demo" ++ spaced n ++ codes " lines"
    ++ spaced (length (filter (λ b. b == 10) written))
    ++ codes " ok" ++ spaced (length (filter is_ended notes)) ++ codes " refused"
    ++ spaced (length (filter is_refused notes))
    ++ codes " drops" ++ spaced (length (filter is_dropped notes)) ++ codes " digest "
    ++ hex_text (sha256 written))

-- the summary of a run
abbrev pub summary_by : ℕ → Written → List ℕ
summary_by n w = summary_of n (w.bytes ++ left_lines w.session.kernel) w.notes

-- the line that `demo n` writes over a disk; `ios` says, line by line, which disk calls fail
abbrev pub summary : Build → ℕ → Disk → List (List Bool) → List ℕ
summary b n d ios =
    summary_by n (after_lines b demo_keys d.size (first_session d) (demo_lines n) ios)
