-- The table of event points. Points 6 to 13 of a process belong to the ports 0 to 7: a graft that
-- is installed there handles the events of its port. `serve` hands bytes to the handlers of a port,
-- one after the other, and `install`, `remove`, `fund` and `bill` at these points are calls of this
-- table. docs/CALLS.md describes them.
use Rattle.std.specs.Prelude.{ℕ, zero, suc, ◌+◌, Bool, true, false, cond, ◌&&◌, ◌||◌, ◌==◌, nat_le}
use Rattle.std.specs.Prelude.{nat_lt, List, [], ◌∷◌, ◌++◌, length, Option, Some, None, option_map}
use Rattle.std.specs.List.{list_all}
use Rattle.kernel_data.specs.declared.Need.{Need}
use Rattle.kernel_data.specs.declared.Point.{Point}
use Rattle.kernel_data.specs.declared.Object.TheVariants.{Graft, Queue}
use Rattle.kernel_data.specs.declared.SysCall.{SysCall}
use Rattle.kernel_data.specs.declared.SysCall.TheVariants.{Serve, Install, Remove, Fund, Bill}
use Rattle.kernel_data.specs.declared.Refusal.{Refusal}
use Rattle.kernel_data.specs.declared.Refusal.TheVariants.{BadPoint, BadIndex, Taken, NoGraft, PortFull}
use Rattle.kernel_data.specs.declared.Reply.TheVariants.{One}
use Rattle.kernel_data.specs.World.{World, ImageTable, Blocks}
use Rattle.kernel_data.specs.Objects.{Objects, GraftValue}
use Rattle.kernel_model.specs.Handlers.{handlers_at, handlers_with, handlers_without, has_room}
use Rattle.kernel_model.specs.Meaning.{Meaning, Stage, Answer, Piece, After, Continues, EndsWith}
use Rattle.kernel_model.specs.Charges.{removed}
use Rattle.kernel_model.specs.Early.{refused, call_refusal, begins_unless}
use Rattle.kernel_model.specs.Needs.{shared, exclusive, point_needs}
use Rattle.kernel_model.specs.FilePieces.{leaves, refuses, well}
use Rattle.kernel_model.specs.Pieces.{new_graft, with_new_graft, fund_piece, bill_piece}

-- ---- ports and their points

-- how many ports there are
abbrev pub PORTS : ℕ
PORTS = 8

-- the point of a port
abbrev pub point_of_port : ℕ → ℕ
point_of_port port = 6 + port

-- the highest point of a port
abbrev pub LAST_EVENT_POINT : ℕ
LAST_EVENT_POINT = 13

-- the point belongs to a port
abbrev pub is_event_point : ℕ → Bool
is_event_point pt = nat_le 6 pt && nat_le pt LAST_EVENT_POINT

-- the calls of this table
abbrev pub is_event_call : SysCall → Bool
is_event_call (Serve port bytes) = true
is_event_call (Install pt i limit) = is_event_point pt
is_event_call (Remove pt) = is_event_point pt
is_event_call (Fund pt kind n) = is_event_point pt
is_event_call (Bill pt) = is_event_point pt
is_event_call c = false

-- ---- early refusals

-- the refusal with the lowest number, among those that need no object: a port above 7, more bytes
-- than a block has, and those of the calls on grafts at points 6 to 13
abbrev pub event_refusal : World → ImageTable → ℕ → SysCall → Option Refusal
event_refusal v images p (Serve port bytes) =
    refused (nat_le PORTS port || nat_lt 512 (length bytes)) BadIndex None
event_refusal v images p c =
    cond (is_event_call c) (call_refusal LAST_EVENT_POINT v images p c) (Some BadPoint)

-- ---- objects and points

-- the queue, which has the handlers, if no graft is installed
abbrev pub handlers_unless : Option GraftValue → List Need
handlers_unless None = exclusive Queue ∷ []
handlers_unless (Some g) = []

-- the queue, which has the handlers, if a graft is installed
abbrev pub handlers_where : Option GraftValue → List Need
handlers_where None = []
handlers_where (Some g) = exclusive Queue ∷ []

-- first the queue, which has the handlers; then the point of the next handler
abbrev pub serve_needs : ℕ → Objects → List (ℕ × ℕ) → List Need
serve_needs zero s handlers = shared Queue ∷ []
serve_needs (suc n) s [] = []
serve_needs (suc n) s (h ∷ hs) = point_needs s.accounts h.0 h.1

-- the objects of the next piece
abbrev pub event_needs : SysCall → ℕ → List (ℕ × ℕ) → Objects → ℕ → List Need
event_needs (Serve port bytes) n handlers s p = serve_needs n s handlers
event_needs (Install pt i limit) n handlers s p =
    exclusive (Graft p pt) ∷ handlers_unless (s.accounts.graft p pt)
event_needs (Remove pt) n handlers s p =
    point_needs s.accounts p pt ++ handlers_where (s.accounts.graft p pt)
event_needs (Fund pt kind x) n handlers s p = point_needs s.accounts p pt
event_needs (Bill pt) n handlers s p = exclusive (Graft p pt) ∷ []
event_needs c n handlers s p = []

-- the point of a handler is asked with the port, how many bytes the event has, and which process
-- serves it
abbrev pub serve_ask : ℕ → (port count p : ℕ) → List (ℕ × ℕ) → Option Point
serve_ask zero port count p handlers = None
serve_ask (suc n) port count p [] = None
serve_ask (suc n) port count p (h ∷ hs) =
    Some (record { installer = h.0; point = h.1; args = port ∷ count ∷ p ∷ 0 ∷ [] })

-- the point that the next piece asks
abbrev pub event_ask : SysCall → ℕ → List (ℕ × ℕ) → ℕ → Option Point
event_ask (Serve port bytes) n handlers p = serve_ask n port (length bytes) p handlers
event_ask c n handlers p = None

-- a handler is fed the event
abbrev pub event_feed : SysCall → List ℕ
event_feed (Serve port bytes) = bytes
event_feed c = []

-- ---- pieces

-- a state with these handlers
abbrev pub with_handlers : List (ℕ × ℕ) → Objects → Objects
with_handlers handlers s = record s { things = record (s.things) { handlers = handlers } }

-- a graft is installed at an event point that has none, and becomes the last handler of its port,
-- if that has room
abbrev pub handler_joins : Objects → (p pt : ℕ) → GraftValue → Option GraftValue → Blocks → Piece
handler_joins s p pt g (Some h) blocks = refuses s blocks Taken
handler_joins s p pt g None blocks =
    elim (has_room p pt s.things.handlers) [
      | false ↦ refuses s blocks PortFull
      | true ↦ leaves (with_handlers (handlers_with p pt s.things.handlers)
          (with_new_graft p pt g s)) blocks well
    ]

-- a graft is taken out, with its handler
abbrev pub handler_leaves : Objects → (p pt : ℕ) → Option GraftValue → Blocks → Piece
handler_leaves s p pt None blocks = refuses s blocks NoGraft
handler_leaves s p pt (Some g) blocks =
    leaves (with_handlers (handlers_without p pt s.things.handlers)
    (record s { accounts = removed p pt s.accounts })) blocks well

-- a `serve` goes on with these handlers, or ends with the number of those that answered
abbrev pub serves_on : SysCall → ℕ → List (ℕ × ℕ) → (answers : ℕ) → After
serves_on c n [] answers = EndsWith (One answers)
serves_on c n (h ∷ hs) answers =
    Continues (record { call = c; piece = n; handlers = h ∷ hs; answers = answers; bytes = [] })

-- one more if there is an answer
abbrev pub answers_with : Option Answer → ℕ → ℕ
answers_with None n = n
answers_with (Some a) n = suc n

-- The first piece of a `serve` takes the handlers of its port into the call. Each later piece asks
-- the next of them: it gives the bytes of the answer, and nothing by default.
abbrev pub serve_piece : ℕ → SysCall → (port : ℕ) → List (ℕ × ℕ) → (answers : ℕ) → Objects →
    Blocks → Option Answer → Piece
serve_piece zero c port handlers answers s blocks answer =
    leaves s blocks (serves_on c 1 (handlers_at (point_of_port port) s.things.handlers) 0)
serve_piece (suc n) c port [] answers s blocks answer = leaves s blocks (EndsWith (One answers))
serve_piece (suc n) c port (h ∷ hs) answers s blocks answer =
    record (leaves s blocks (serves_on c (suc (suc n)) hs (answers_with answer answers)))
    { gave = option_map (λ (a : Answer). a.body) answer }

-- the next piece
abbrev pub event_piece : SysCall → Stage → Objects → Blocks → ℕ → Option Answer → Piece
event_piece (Serve port bytes) t s blocks p answer =
    serve_piece t.piece t.call port t.handlers t.answers s blocks answer
event_piece (Install pt i limit) t s blocks p answer =
    handler_joins s p pt (new_graft i limit) (s.accounts.graft p pt) blocks
event_piece (Remove pt) t s blocks p answer =
    handler_leaves s p pt (s.accounts.graft p pt) blocks
event_piece (Fund pt kind x) t s blocks p answer =
    fund_piece s p pt kind x (s.accounts.graft p pt) blocks
event_piece (Bill pt) t s blocks p answer = bill_piece s p pt (s.accounts.graft p pt) blocks
event_piece c t s blocks p answer = refuses s blocks BadPoint

-- ---- stages

-- a handler whose piece is still to come belongs to the port
abbrev pub is_of_port : ℕ → ℕ × ℕ → Bool
is_of_port port h = nat_lt h.0 16 && h.1 == point_of_port port

-- a `serve` is before its first piece, or before the piece of a handler: there are at most eight
-- handlers, with those that were asked before, and at most as many answers as were asked
abbrev pub serve_fits : ℕ → (port : ℕ) → List (ℕ × ℕ) → (answers : ℕ) → Bool
serve_fits zero port handlers answers = true
serve_fits (suc n) port handlers answers =
    nat_le 1 (length handlers) && nat_le (n + length handlers) 8 && nat_le answers n
    && list_all (is_of_port port) handlers

-- a call of this table, and no other, may be at this stage
abbrev pub event_fits : SysCall → Stage → Bool
event_fits (Serve port bytes) t =
    nat_lt port PORTS && serve_fits t.piece port t.handlers t.answers
event_fits c t = is_event_call c && t.piece == 0

-- how many pieces are left: for a `serve` one for each handler, and at first at most nine
abbrev pub event_left : SysCall → Stage → ℕ
event_left (Serve port bytes) t = cond (t.piece == 0) 9 (length t.handlers)
event_left c t = 1

-- the meaning of the calls of event points; all other calls are refused
abbrev pub event_points : Meaning
event_points =
    record {
      early = λ v images p c. begins_unless c (event_refusal v images p c);
      need = λ v s p t. event_needs t.call t.piece t.handlers s p;
      asks = λ v s p t. event_ask t.call t.piece t.handlers p;
      feed = λ t. event_feed t.call;
      piece = λ v images s blocks p t answer io. event_piece t.call t s blocks p answer;
      fits = λ v s p t. event_fits t.call t;
      left = λ v s p t. event_left t.call t;
    }
