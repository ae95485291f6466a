-- What the pieces of a `serve` make of a call in flight.
use Rattle.std.specs.Prelude.{◌≡◌, ℕ, ◌+◌, ◌<◌, ◌≤◌, ◌==◌, true, cond, List, [], ◌∷◌, drop, length}
use Rattle.kernel_model.specs.declared.Reply.TheVariants.{One}
use Rattle.kernel_model.specs.EventPoints.{serve_fits}
use Rattle.call_pieces.specs.declared.Work.{Work}
use Rattle.call_pieces.specs.declared.Next.{Next}
use Rattle.call_pieces.specs.Works.{call_of}

-- a call after its first piece, which took these handlers into it
abbrev pub with_taken : List (ℕ × ℕ) → Work → Work
with_taken handlers w =
    record w {
      piece = 1;
      handlers = record { items = handlers };
      answers = 0;
      carried = record { items = [] };
    }

-- a call after the piece of its next handler, where so many answered with it
abbrev pub past_handler : (answers : ℕ) → Work → Work
past_handler answers w =
    record w {
      piece = w.piece + 1;
      handlers = record { items = drop 1 w.handlers.items };
      answers = answers;
      carried = record { items = [] };
    }

-- what comes next where these handlers are left, and so many answered
abbrev pub next_for : List (ℕ × ℕ) → (answers : ℕ) → Next
next_for [] answers = Next.Ends (One answers)
next_for (h ∷ hs) answers = Next.Goes

-- how many pieces a `serve` may still take before the piece of this number
abbrev pub serve_left : ℕ → List (ℕ × ℕ) → ℕ
serve_left n handlers = cond (n == 0) 9 (length handlers)

-- a `serve` that goes on: it is the same call, its next piece may come, and fewer pieces are left
pub record ServeContinues (port : ℕ) (old new : Work) : Type 0 where
  pub caller : new.caller ≡ old.caller
  pub call : call_of new ≡ call_of old
  pub fits : serve_fits new.piece port new.handlers.items new.answers ≡ true
  pub some : 1 ≤ serve_left new.piece new.handlers.items
  pub fewer : serve_left new.piece new.handlers.items < serve_left old.piece old.handlers.items
