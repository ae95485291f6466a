-- The table of event points meets the laws of what pieces keep, and what they do but once.
use Rattle.std.specs.Prelude.{◌≡◌, ℕ, ◌<◌, ◌≤◌, Bool, true, false, ◌||◌, ◌==◌, List, [], Option, Some, None}
use Rattle.std.specs.List.{list_any}
use Rattle.std.proofs.Common.{arith, refl, sym, subst, ap, ◌∙◌}
use Rattle.std.proofs.lemmas.Bool.{and_parts, eqb-true}
use Rattle.std.proofs.lemmas.Bool.Decides.{nat_tests}
use Rattle.kernel_model.specs.declared.SysCall.{SysCall}
use Rattle.kernel_model.specs.declared.SysCall.TheVariants.{Serve, Install, Remove, Fund, Bill}
use Rattle.kernel_model.specs.World.{World, ImageTable, Blocks}
use Rattle.kernel_model.specs.Objects.{Objects, GraftValue, CacheValue, with_accounts}
use Rattle.kernel_model.specs.Handlers.{is_handler, AreHandlers, handlers_with, handlers_without, has_room}
use Rattle.kernel_model.specs.Policies.{lives}
use Rattle.kernel_model.specs.Meaning.{Stage, Answer, Piece}
use Rattle.kernel_model.specs.Charges.{removed}
use Rattle.kernel_model.specs.Pieces.{new_graft, with_new_graft}
use Rattle.kernel_model.specs.Sound.{IsSoundStore, ImagesAreLoaded, FitsDisk, HasWholeBlocks}
use Rattle.kernel_model.specs.Laws.{PieceLaws, is_new_graft, slices_in, continues}
use Rattle.kernel_model.specs.EventPoints.{is_event_point, with_handlers, handler_joins}
use Rattle.kernel_model.specs.EventPoints.{handler_leaves, serve_piece, event_piece, event_fits}
use Rattle.kernel_model.specs.EventPoints.{event_points}
use Rattle.call_laws.specs.SoundAccounts.{install_store, remove_store, fund_store, bill_store}
use Rattle.call_laws.specs.KeepingGrafts.{images_loaded_by, one_graft_by}
use Rattle.call_laws.specs.GrantedCalls.{remove_granted, fund_granted, bill_granted}
use Rattle.call_laws.specs.EventGranted.{IsBegun, is_serve, other_begun}
use Rattle.call_laws.specs.HandlerLists.{stands_with, stands_without, are_handlers_with, are_handlers_without}
use Rattle.call_laws.specs.EventPieces.{event_quiet, event_accounts, event_stops, event_refused, serve_unchanged}

-- ---- sound stores

-- a store with other handlers, whose processes live
store_with_handlers : (v : World) (s : Objects) (hs : List (ℕ × ℕ)) → IsSoundStore v s →
    AreHandlers hs →
    ((q pt : ℕ) → list_any (is_handler q pt) hs ≡ true → lives s.things.queue q ≡ true) →
    IsSoundStore v (with_handlers hs s)
store_with_handlers v s hs h handlers live = record {
  world = h.world;
  root = h.root;
  once = h.once;
  numbers = h.numbers;
  nices = h.nices;
  in_use = h.in_use;
  frame_numbers = h.frame_numbers;
  one_frame = h.one_frame;
  frames = h.frames;
  holders = h.holders;
  grafts = h.grafts;
  gone = λ p e. record {
    cells = (h.gone p e).cells;
    files = (h.gone p e).files;
    balances = (h.gone p e).balances;
    spent = (h.gone p e).spent;
  };
  files = h.files;
  policies = h.policies;
  handlers = handlers;
  handlers_live = live;
  segments = h.segments;
  ledgers = h.ledgers;
}

-- the numbers of a point of a port
event_point_is : (pt : ℕ) → is_event_point pt ≡ true → (6 ≤ pt) × (pt ≤ 13)
event_point_is pt h = grind (arith, nat_tests)

-- a new handler lives, as those before do
join_lives : (s : Objects) (p pt q pu : ℕ) →
    ((i pw : ℕ) → list_any (is_handler i pw) s.things.handlers ≡ true →
    lives s.things.queue i ≡ true) → lives s.things.queue p ≡ true →
    list_any (is_handler q pu) (handlers_with p pt s.things.handlers) ≡ true →
    lives s.things.queue q ≡ true
join_lives s p pt q pu before alive h =
    by_test (list_any (is_handler q pu) s.things.handlers) refl
    (stands_with p pt q pu s.things.handlers h)
  where
    by_test : (b : Bool) → list_any (is_handler q pu) s.things.handlers ≡ b →
        (b || p == q) ≡ true → lives s.things.queue q ≡ true
    by_test true e k = before q pu e
    by_test false e k = ap (lives s.things.queue) (sym (eqb-true p q k)) ∙ alive

-- a graft put in place, with its handler
joined_store : (v : World) (s : Objects) (p pt i limit : ℕ) (blocks : Blocks) →
    s.accounts.graft p pt ≡ None → IsSoundStore v s → lives s.things.queue p ≡ true →
    is_event_point pt ≡ true →
    IsSoundStore v (with_handlers (handlers_with p pt s.things.handlers)
    (with_new_graft p pt (new_graft i limit) s))
joined_store v s p pt i limit blocks none h alive event =
    let at = event_point_is pt event in
    store_with_handlers v (with_new_graft p pt (new_graft i limit) s)
    (handlers_with p pt s.things.handlers)
    (install_store v s p pt i limit None blocks none h alive (omega (arith, at.1)))
    (are_handlers_with p pt s.things.handlers h.handlers at.0 at.1)
    (λ q pu e. join_lives s p pt q pu h.handlers_live alive e)

-- a graft put in place
join_store : (v : World) (s : Objects) (p pt i limit : ℕ) (g : Option GraftValue)
    (blocks : Blocks) → s.accounts.graft p pt ≡ g → IsSoundStore v s →
    lives s.things.queue p ≡ true → is_event_point pt ≡ true →
    IsSoundStore v (handler_joins s p pt (new_graft i limit) g blocks).objects
join_store v s p pt i limit (Some g) blocks e h alive event = h
join_store v s p pt i limit None blocks e h alive event =
    either (has_room p pt s.things.handlers) _ _ h
    (joined_store v s p pt i limit blocks e h alive event)
  where
    either : (b : Bool) (one other : Piece) → IsSoundStore v one.objects →
        IsSoundStore v other.objects →
        IsSoundStore v (elim b as (λ _. Piece) [ false ↦ one | true ↦ other ]).objects
    either false one other h k = h
    either true one other h k = k

-- a graft taken out
leave_store : (v : World) (s : Objects) (p pt : ℕ) (g : Option GraftValue) (blocks : Blocks) →
    IsSoundStore v s → lives s.things.queue p ≡ true → pt < 16 →
    IsSoundStore v (handler_leaves s p pt g blocks).objects
leave_store v s p pt None blocks h alive low = h
leave_store v s p pt (Some g) blocks h alive low =
    let out = remove_store v s p pt (Some g) blocks h alive low in
    store_with_handlers v (with_accounts (removed p pt s.accounts) s)
    (handlers_without p pt s.things.handlers) out
    (are_handlers_without p pt s.things.handlers h.handlers)
    (λ q pu e. h.handlers_live q pu (stands_without p pt q pu s.things.handlers e))

-- a piece of a `serve` changes nothing
serve_store : (n : ℕ) (c : SysCall) (port : ℕ) (hs : List (ℕ × ℕ)) (answers : ℕ) (v : World)
    (s : Objects) (blocks : Blocks) (answer : Option Answer) → IsSoundStore v s →
    IsSoundStore v (serve_piece n c port hs answers s blocks answer).objects
serve_store n c port hs answers v s blocks answer h =
    subst (λ (x : Objects). IsSoundStore v x)
    (sym (serve_unchanged n c port hs answers s blocks answer).0) h

-- each piece
event_store : (c : SysCall) (t : Stage) (v : World) (images : ImageTable) (s : Objects)
    (blocks : Blocks) (p : ℕ) (answer : Option Answer) → IsSoundStore v s →
    lives s.things.queue p ≡ true → IsBegun v images p c → event_fits c t ≡ true →
    IsSoundStore v (event_piece c t s blocks p answer).objects
event_store (Serve port bytes) t v images s blocks p answer h alive begun fits =
    serve_store t.piece t.call port t.handlers t.answers v s blocks answer h
event_store (Install pt i limit) t v images s blocks p answer h alive begun fits =
    join_store v s p pt i limit (s.accounts.graft p pt) blocks refl h alive
    (and_parts (is_event_point pt) (t.piece == 0) fits).0
event_store (Remove pt) t v images s blocks p answer h alive begun fits =
    leave_store v s p pt (s.accounts.graft p pt) blocks h alive
    (remove_granted v images p pt (other_begun v images p (Remove pt) refl begun))
event_store (Fund pt kind x) t v images s blocks p answer h alive begun fits =
    fund_store v s p pt kind x (s.accounts.graft p pt) blocks refl h alive
    (fund_granted v images p pt kind x (other_begun v images p (Fund pt kind x) refl begun))
event_store (Bill pt) t v images s blocks p answer h alive begun fits =
    bill_store v s p pt (s.accounts.graft p pt) blocks refl h alive
    (bill_granted v images p pt (other_begun v images p (Bill pt) refl begun))
event_store c t v images s blocks p answer h alive begun fits = h

-- ---- grafts

-- no graft is new in a state beside itself
none_new : (s : Objects) (q pt : ℕ) → is_new_graft s s q pt ≡ true → ⊥
none_new s q pt h = grind arith

-- at most one graft is put in place
event_one_graft : (c : SysCall) (t : Stage) (v : World) (s : Objects) (blocks : Blocks) (p : ℕ)
    (answer : Option Answer) (q pt r pu : ℕ) →
    is_new_graft s (event_piece c t s blocks p answer).objects q pt ≡ true →
    is_new_graft s (event_piece c t s blocks p answer).objects r pu ≡ true → (q ≡ r) × (pt ≡ pu)
event_one_graft c t v s blocks p answer q pt r pu =
    event_accounts (λ a. is_new_graft s (with_accounts a s) q pt ≡ true →
    is_new_graft s (with_accounts a s) r pu ≡ true → (q ≡ r) × (pt ≡ pu))
    c t v s blocks p answer (λ h k. absurd (none_new s q pt h))
    (λ other. one_graft_by c 0 v s blocks p None [] q pt r pu)

-- and then the call ends
event_graft_ends : (c : SysCall) (t : Stage) (v : World) (s : Objects) (blocks : Blocks) (p : ℕ)
    (answer : Option Answer) (q pt : ℕ) →
    is_new_graft s (event_piece c t s blocks p answer).objects q pt ≡ true →
    continues (event_piece c t s blocks p answer).after ≡ false
event_graft_ends c t v s blocks p answer q pt h =
    by_test (is_serve c) refl
  where
    still : is_serve c ≡ true → is_new_graft s (event_piece c t s blocks p answer).objects q pt
        ≡ true → ⊥
    still e = event_accounts (λ a. is_new_graft s (with_accounts a s) q pt ≡ true → ⊥)
        c t v s blocks p answer (none_new s q pt)
        (λ other k. let no : true ≡ false = sym e ∙ other in absurd cc)

    by_test : (b : Bool) → is_serve c ≡ b → continues (event_piece c t s blocks p answer).after
        ≡ false
    by_test true e = absurd (still e h)
    by_test false e = event_stops c t v s blocks p answer e

-- ---- the laws

-- the laws of what pieces keep hold of event points
pub pieces_of_events : PieceLaws event_points
pieces_of_events = record {
  store = λ v images s blocks p t answer io ready whole.
      event_store t.call t v images s blocks p answer ready.standing.store
      ready.standing.caller ready.standing.granted ready.standing.fits;
  images_loaded = λ v images s blocks p t answer io ready loaded.
      event_accounts (λ a. ImagesAreLoaded images a) t.call t v s blocks p answer loaded
      (λ other. images_loaded_by t.call 0 v images s blocks p None []
      (other_begun v images p t.call other ready.standing.granted) loaded);
  disk = λ v images s blocks p t answer io ready.
      subst (λ (c : CacheValue). FitsDisk v c)
      (sym (event_quiet t.call t s blocks p answer).cache) ready.disk;
  refused = λ v images s blocks p t answer io why ne e.
      event_refused t.call t v s blocks p answer why ne e;
  whole_blocks = λ v images s blocks p t answer io ready whole.
      subst (λ (b : Blocks). HasWholeBlocks v b)
      (sym (event_quiet t.call t s blocks p answer).disk) whole;
  others_live = λ v images s blocks p q t answer io ready other alive.
      ap (λ rows. lives rows q) (event_quiet t.call t s blocks p answer).queue ∙ alive;
  caller_lives = λ v images s blocks p t answer io ready goes.
      ap (λ rows. lives rows p) (event_quiet t.call t s blocks p answer).queue
      ∙ ready.standing.caller;
  one_graft = λ v images s blocks p t answer io q pt r pu ready new other.
      event_one_graft t.call t v s blocks p answer q pt r pu new other;
  graft_ends = λ v images s blocks p t answer io q pt ready new.
      event_graft_ends t.call t v s blocks p answer q pt new;
  one_slice = λ v images s blocks p t answer io ready.
      let same = ap slices_in (event_quiet t.call t s blocks p answer).queue in
      omega (arith, same);
  slice_ends = λ v images s blocks p t answer io ready more.
      let same = ap slices_in (event_quiet t.call t s blocks p answer).queue in
      absurd (omega (arith, same, more));
}
