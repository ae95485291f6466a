-- The numbers by which a call says how it ended, as in docs/HOSTING.md. Up to 13 they are those of
-- the causes in docs/CODES.md.
use Rattle.std.specs.Prelude.{ℕ, Bool, ◌&&◌, ◌==◌, cond, nat_le, nat_lt}

-- a plug-in returned
abbrev pub RETURNED : ℕ
RETURNED = 0

-- it divided by zero
abbrev pub DIVIDED : ℕ
DIVIDED = 1

-- it trapped
abbrev pub TRAPPED : ℕ
TRAPPED = 2

-- it called an id that isn't callable
abbrev pub NOT_CALLABLE : ℕ
NOT_CALLABLE = 3

-- it called with a bad argument
abbrev pub BAD_ARGUMENT : ℕ
BAD_ARGUMENT = 4

-- it took as many instructions as it may
abbrev pub NO_STEPS : ℕ
NO_STEPS = 9

-- it made as many records as it may
abbrev pub NO_RECORDS : ℕ
NO_RECORDS = 10

-- its answer isn't one that its point takes
abbrev pub BAD_ANSWER : ℕ
BAD_ANSWER = 12

-- a word that it wanted belongs to another call
abbrev pub BUSY : ℕ
BUSY = 16

-- it ran past its code, which no loaded code does
abbrev pub BROKEN : ℕ
BROKEN = 17

-- it waits for an answer of the host
abbrev pub WAITING : ℕ
WAITING = 32

-- the call was misused, and nothing was done
abbrev pub MISUSED : ℕ
MISUSED = 33

-- a call ended this way was dropped
abbrev pub is_drop : ℕ → Bool
is_drop kind = nat_lt 0 kind && nat_lt kind 32

-- a host may refuse what a plug-in called in this way
abbrev pub is_refusal : ℕ → Bool
is_refusal how = nat_le 3 how && nat_le how 4

-- the answer of a plug-in at a point is taken: at the points of ports r0 says how many bytes it
-- gives, and at those of streams it gives as many as it was fed
abbrev pub is_taken : (point fed r0 : ℕ) → Bool
is_taken point fed r0 =
    cond (nat_lt point 6) (0 == 0) (cond (nat_lt point 14) (nat_le r0 512) (r0 == fed))

-- how many bytes a taken answer gives
abbrev pub given_bytes : (point r0 : ℕ) → ℕ
given_bytes point r0 = cond (nat_lt point 6) 0 r0
