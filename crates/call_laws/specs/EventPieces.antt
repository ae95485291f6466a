-- What the pieces of event points leave as it was: the queue, the cache and the disk; and accounts
-- and grafts are those after the piece of the plain table.
use Rattle.std.specs.Prelude.{◌≡◌, ◌≢◌, ℕ, zero, suc, Bool, true, false, List, [], ◌∷◌, Option, Some, None}
use Rattle.std.proofs.Common.{arith, refl}
use Rattle.std.proofs.lemmas.Bool.Decides.{nat_tests}
use Rattle.kernel_model.specs.declared.Kind.{Kind}
use Rattle.kernel_model.specs.declared.Refusal.{Refusal}
use Rattle.kernel_model.specs.declared.SysCall.{SysCall}
use Rattle.kernel_model.specs.declared.SysCall.TheVariants.{Sync, Serve, Install, Remove, Fund, Bill}
use Rattle.kernel_model.specs.World.{World, Blocks}
use Rattle.kernel_model.specs.Objects.{Objects, Accounts, GraftValue}
use Rattle.kernel_model.specs.Meaning.{Stage, Answer, Piece, Fails}
use Rattle.kernel_model.specs.Pieces.{piece_of, new_graft, install_piece, remove_piece, fund_piece, bill_piece}
use Rattle.kernel_model.specs.Laws.{continues}
use Rattle.kernel_model.specs.Handlers.{handlers_at, has_room}
use Rattle.kernel_model.specs.EventPoints.{point_of_port, handler_joins, handler_leaves, serves_on}
use Rattle.kernel_model.specs.EventPoints.{answers_with, serve_piece, event_piece}
use Rattle.call_laws.specs.QuickPieces.{is_faulty, quick_piece}
use Rattle.call_laws.specs.Refusals.{refused_by}
use Rattle.call_laws.specs.EventGranted.{is_serve}

-- ---- the queue, the cache and the disk

-- a piece leaves the queue, the cache and the disk as they are, and makes no call of the disk
pub record IsQuiet (s : Objects) (blocks : Blocks) (a : Piece) : Type 0 where
  pub queue : a.objects.things.queue ≡ s.things.queue
  pub cache : a.objects.things.cache ≡ s.things.cache
  pub disk : a.blocks ≡ blocks
  pub calls : a.calls ≡ 0
  pub faultless : is_faulty a.after ≡ false

-- how a `serve` goes on is no refusal
serves_faultless : (c : SysCall) (n : ℕ) (hs : List (ℕ × ℕ)) (answers : ℕ) →
    is_faulty (serves_on c n hs answers) ≡ false
serves_faultless c n [] answers = refl
serves_faultless c n (h ∷ hs) answers = refl

-- a piece of a `serve` leaves them
serve_quiet : (n : ℕ) (c : SysCall) (port : ℕ) (hs : List (ℕ × ℕ)) (answers : ℕ) (s : Objects)
    (blocks : Blocks) (answer : Option Answer) →
    IsQuiet s blocks (serve_piece n c port hs answers s blocks answer)
serve_quiet zero c port hs answers s blocks answer =
    record {
      queue = refl;
      cache = refl;
      disk = refl;
      calls = refl;
      faultless =
          serves_faultless c 1 (handlers_at (point_of_port port) s.things.handlers) 0;
    }
serve_quiet (suc n) c port [] answers s blocks answer =
    record { queue = refl; cache = refl; disk = refl; calls = refl; faultless = refl }
serve_quiet (suc n) c port (h ∷ hs) answers s blocks answer =
    record {
      queue = refl;
      cache = refl;
      disk = refl;
      calls = refl;
      faultless = serves_faultless c (suc (suc n)) hs (answers_with answer answers);
    }

-- so does an install
join_quiet : (s : Objects) (p pt : ℕ) (new : GraftValue) (g : Option GraftValue)
    (blocks : Blocks) → IsQuiet s blocks (handler_joins s p pt new g blocks)
join_quiet s p pt new g blocks = grind (arith, nat_tests)

-- a remove
leave_quiet : (s : Objects) (p pt : ℕ) (g : Option GraftValue) (blocks : Blocks) →
    IsQuiet s blocks (handler_leaves s p pt g blocks)
leave_quiet s p pt g blocks = grind (arith, nat_tests)

-- a fund
fund_quiet : (s : Objects) (p pt : ℕ) (k : Kind) (n : ℕ) (g : Option GraftValue)
    (blocks : Blocks) → IsQuiet s blocks (fund_piece s p pt k n g blocks)
fund_quiet s p pt k n g blocks = grind (arith, nat_tests)

-- and a bill
bill_quiet : (s : Objects) (p pt : ℕ) (g : Option GraftValue) (blocks : Blocks) →
    IsQuiet s blocks (bill_piece s p pt g blocks)
bill_quiet s p pt g blocks = grind (arith, nat_tests)

-- each piece does
pub event_quiet : (c : SysCall) (t : Stage) (s : Objects) (blocks : Blocks) (p : ℕ)
    (answer : Option Answer) → IsQuiet s blocks (event_piece c t s blocks p answer)
event_quiet (Serve port bytes) t s blocks p answer =
    serve_quiet t.piece t.call port t.handlers t.answers s blocks answer
event_quiet (Install pt i limit) t s blocks p answer =
    join_quiet s p pt (new_graft i limit) (s.accounts.graft p pt) blocks
event_quiet (Remove pt) t s blocks p answer =
    leave_quiet s p pt (s.accounts.graft p pt) blocks
event_quiet (Fund pt kind x) t s blocks p answer =
    fund_quiet s p pt kind x (s.accounts.graft p pt) blocks
event_quiet (Bill pt) t s blocks p answer = bill_quiet s p pt (s.accounts.graft p pt) blocks
event_quiet c t s blocks p answer =
    record { queue = refl; cache = refl; disk = refl; calls = refl; faultless = refl }

-- ---- accounts and grafts

-- what holds of the accounts before an install, and after that of the plain table, holds after it
join_accounts : (P : Accounts → Type 0) (s : Objects) (p pt : ℕ) (new : GraftValue)
    (g : Option GraftValue) (blocks : Blocks) → P s.accounts →
    P (install_piece s p pt new g blocks).objects.accounts →
    P (handler_joins s p pt new g blocks).objects.accounts
join_accounts P s p pt new (Some h) blocks before after = before
join_accounts P s p pt new None blocks before after =
    either (has_room p pt s.things.handlers) _ _ before after
  where
    either : (b : Bool) (one other : Piece) → P one.objects.accounts → P other.objects.accounts →
        P (elim b as (λ _. Piece) [ false ↦ one | true ↦ other ]).objects.accounts
    either false one other h k = h
    either true one other h k = k

-- a remove does the same to them as that of the plain table
leave_accounts : (P : Accounts → Type 0) (s : Objects) (p pt : ℕ) (g : Option GraftValue)
    (blocks : Blocks) → P (remove_piece s p pt g blocks).objects.accounts →
    P (handler_leaves s p pt g blocks).objects.accounts
leave_accounts P s p pt None blocks after = after
leave_accounts P s p pt (Some g) blocks after = after

-- a `serve` leaves them
serve_accounts : (P : Accounts → Type 0) (n : ℕ) (c : SysCall) (port : ℕ) (hs : List (ℕ × ℕ))
    (answers : ℕ) (s : Objects) (blocks : Blocks) (answer : Option Answer) → P s.accounts →
    P (serve_piece n c port hs answers s blocks answer).objects.accounts
serve_accounts P zero c port hs answers s blocks answer before = before
serve_accounts P (suc n) c port [] answers s blocks answer before = before
serve_accounts P (suc n) c port (h ∷ hs) answers s blocks answer before = before

-- What holds of the accounts before a piece, and after that of the plain table, holds after it.
pub event_accounts : (P : Accounts → Type 0) (c : SysCall) (t : Stage) (v : World) (s : Objects)
    (blocks : Blocks) (p : ℕ) (answer : Option Answer) → P s.accounts →
    (is_serve c ≡ false → P (piece_of c 0 v s blocks p None []).objects.accounts) →
    P (event_piece c t s blocks p answer).objects.accounts
event_accounts P (Serve port bytes) t v s blocks p answer before after =
    serve_accounts P t.piece t.call port t.handlers t.answers s blocks answer before
event_accounts P (Install pt i limit) t v s blocks p answer before after =
    join_accounts P s p pt (new_graft i limit) (s.accounts.graft p pt) blocks before (after refl)
event_accounts P (Remove pt) t v s blocks p answer before after =
    leave_accounts P s p pt (s.accounts.graft p pt) blocks (after refl)
event_accounts P (Fund pt kind x) t v s blocks p answer before after = after refl
event_accounts P (Bill pt) t v s blocks p answer before after = after refl
event_accounts P c t v s blocks p answer before after = before

-- ---- ends and refusals

-- an install ends its call
join_stops : (s : Objects) (p pt : ℕ) (new : GraftValue) (g : Option GraftValue)
    (blocks : Blocks) → continues (handler_joins s p pt new g blocks).after ≡ false
join_stops s p pt new g blocks = grind (arith, nat_tests)

-- so does a remove
leave_stops : (s : Objects) (p pt : ℕ) (g : Option GraftValue) (blocks : Blocks) →
    continues (handler_leaves s p pt g blocks).after ≡ false
leave_stops s p pt None blocks = refl
leave_stops s p pt (Some g) blocks = refl

-- a call that serves no event has one piece
pub event_stops : (c : SysCall) (t : Stage) (v : World) (s : Objects) (blocks : Blocks) (p : ℕ)
    (answer : Option Answer) → is_serve c ≡ false →
    continues (event_piece c t s blocks p answer).after ≡ false
event_stops (Serve port bytes) t v s blocks p answer other = cc
event_stops (Install pt i limit) t v s blocks p answer other =
    join_stops s p pt (new_graft i limit) (s.accounts.graft p pt) blocks
event_stops (Remove pt) t v s blocks p answer other =
    leave_stops s p pt (s.accounts.graft p pt) blocks
event_stops (Fund pt kind x) t v s blocks p answer other =
    (quick_piece (Fund pt kind x) 0 v s blocks p None [] refl).stops
event_stops (Bill pt) t v s blocks p answer other =
    (quick_piece (Bill pt) 0 v s blocks p None [] refl).stops
event_stops c t v s blocks p answer other = refl

-- a piece leaves the state and the disk as they were
abbrev pub IsUnchanged : Objects → Blocks → Piece → Type 0
IsUnchanged s blocks a = (a.objects ≡ s) × (a.blocks ≡ blocks)

-- a piece of a `serve` does
pub serve_unchanged : (n : ℕ) (c : SysCall) (port : ℕ) (hs : List (ℕ × ℕ)) (answers : ℕ)
    (s : Objects) (blocks : Blocks) (answer : Option Answer) →
    IsUnchanged s blocks (serve_piece n c port hs answers s blocks answer)
serve_unchanged zero c port hs answers s blocks answer = (refl, refl)
serve_unchanged (suc n) c port [] answers s blocks answer = (refl, refl)
serve_unchanged (suc n) c port (h ∷ hs) answers s blocks answer = (refl, refl)

-- so does an install that is refused
join_refused : (s : Objects) (p pt : ℕ) (new : GraftValue) (g : Option GraftValue)
    (blocks : Blocks) (why : Refusal) →
    (handler_joins s p pt new g blocks).after ≡ Fails why →
    IsUnchanged s blocks (handler_joins s p pt new g blocks)
join_refused s p pt new g blocks why e = grind (arith, nat_tests)

-- and a remove that is refused
leave_refused : (s : Objects) (p pt : ℕ) (g : Option GraftValue) (blocks : Blocks)
    (why : Refusal) → (handler_leaves s p pt g blocks).after ≡ Fails why →
    IsUnchanged s blocks (handler_leaves s p pt g blocks)
leave_refused s p pt None blocks why e = (refl, refl)
leave_refused s p pt (Some g) blocks why e = cc

-- a refusal changes nothing
pub event_refused : (c : SysCall) (t : Stage) (v : World) (s : Objects) (blocks : Blocks) (p : ℕ)
    (answer : Option Answer) (why : Refusal) → c ≢ Sync →
    (event_piece c t s blocks p answer).after ≡ Fails why →
    IsUnchanged s blocks (event_piece c t s blocks p answer)
event_refused (Serve port bytes) t v s blocks p answer why ne e =
    serve_unchanged t.piece t.call port t.handlers t.answers s blocks answer
event_refused (Install pt i limit) t v s blocks p answer why ne e =
    join_refused s p pt (new_graft i limit) (s.accounts.graft p pt) blocks why e
event_refused (Remove pt) t v s blocks p answer why ne e =
    leave_refused s p pt (s.accounts.graft p pt) blocks why e
event_refused (Fund pt kind x) t v s blocks p answer why ne e =
    refused_by (Fund pt kind x) 0 v s blocks p None [] why ne e
event_refused (Bill pt) t v s blocks p answer why ne e =
    refused_by (Bill pt) 0 v s blocks p None [] why ne e
event_refused c t v s blocks p answer why ne e = (refl, refl)
