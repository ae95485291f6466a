-- What is known of a call of event points that isn't refused at once, and of one that stands at a
-- stage.
use Rattle.std.specs.Prelude.{◌≡◌, ℕ, suc, ◌+◌, ◌<◌, ◌≤◌, Bool, true, false, cond, ◌&&◌, nat_lt}
use Rattle.std.specs.Prelude.{List, ◌∷◌, length, Option, Some}
use Rattle.std.specs.List.{list_all}
use Rattle.std.specs.Result.{is_ok}
use Rattle.std.proofs.Common.{arith, refl}
use Rattle.std.proofs.lemmas.Bool.Decides.{nat_tests}
use Rattle.kernel_model.specs.declared.Refusal.{Refusal}
use Rattle.kernel_model.specs.declared.Refusal.TheVariants.{BadPoint}
use Rattle.kernel_model.specs.declared.SysCall.{SysCall}
use Rattle.kernel_model.specs.declared.SysCall.TheVariants.{Serve}
use Rattle.kernel_model.specs.World.{World, ImageTable}
use Rattle.kernel_model.specs.Meaning.{Stage}
use Rattle.kernel_model.specs.Early.{begins_unless, call_refusal}
use Rattle.kernel_model.specs.EventPoints.{PORTS, LAST_EVENT_POINT, is_event_call, is_of_port, serve_fits, event_points}
use Rattle.call_laws.specs.GrantedCalls.{IsGranted}

-- a call that isn't refused before it begins
abbrev pub IsBegun : World → ImageTable → ℕ → SysCall → Type 0
IsBegun v images p c = is_ok (event_points.early v images p c) ≡ true

-- a call that is refused unless it is the table's own: where it begins it is
begun_where : (c : SysCall) (own : Bool) (r : Option Refusal) →
    is_ok (begins_unless c (cond own r (Some BadPoint))) ≡ true → (own ≡ true)
    × (is_ok (begins_unless c r) ≡ true)
begun_where c true r h = (refl, h)
begun_where c false r h = cc

-- an event has at most a block's bytes
pub serve_begun : (v : World) (images : ImageTable) (p port : ℕ) (bytes : List ℕ) →
    IsBegun v images p (Serve port bytes) → (port < 8) × (length bytes ≤ 512)
serve_begun v images p port bytes h = grind (arith, nat_tests)

-- a call serves an event
abbrev pub is_serve : SysCall → Bool
is_serve (Serve port bytes) = true
is_serve c = false

-- any other call is granted where points go up to 13
pub other_begun : (v : World) (images : ImageTable) (p : ℕ) (c : SysCall) → is_serve c ≡ false →
    IsBegun v images p c → IsGranted v images p c
other_begun v images p (Serve port bytes) other h = cc
other_begun v images p c other h = record {
  top = LAST_EVENT_POINT;
  most = omega arith;
  granted = (begun_where c (is_event_call c) (call_refusal LAST_EVENT_POINT v images p c) h).1;
}

-- and is one of this table
pub other_own : (v : World) (images : ImageTable) (p : ℕ) (c : SysCall) → is_serve c ≡ false →
    IsBegun v images p c → is_event_call c ≡ true
other_own v images p (Serve port bytes) other h = cc
other_own v images p c other h =
    (begun_where c (is_event_call c) (call_refusal LAST_EVENT_POINT v images p c) h).0

-- ---- stages

-- the stage of a call, from its parts
abbrev pub stage_of : SysCall → ℕ → List (ℕ × ℕ) → ℕ → List ℕ → Stage
stage_of c n handlers answers bytes =
    record { call = c; piece = n; handlers = handlers; answers = answers; bytes = bytes }

-- a `serve` stands before the piece of a handler: its port is one, the handler is one of it, no more
-- handlers came and are to come than there can be, and no more answered than came
pub record HandlerStands (port n : ℕ) (h : ℕ × ℕ) (hs : List (ℕ × ℕ)) (answers : ℕ) : Type 0 where
  pub low : port < 8
  pub process : h.0 < 16
  pub point : h.1 ≡ 6 + port
  pub few : n + suc (length hs) ≤ 8
  pub answered : answers ≤ n
  pub others : list_all (is_of_port port) hs ≡ true

-- a stage before the piece of a handler that fits
pub handler_stands : (port n : ℕ) (h : ℕ × ℕ) (hs : List (ℕ × ℕ)) (answers : ℕ) →
    (nat_lt port PORTS && serve_fits (suc n) port (h ∷ hs) answers) ≡ true →
    HandlerStands port n h hs answers
handler_stands port n h hs answers e =
    record {
      low = grind (arith, nat_tests);
      process = grind (arith, nat_tests);
      point = grind (arith, nat_tests);
      few = grind (arith, nat_tests);
      answered = grind (arith, nat_tests);
      others = grind (arith, nat_tests);
    }
