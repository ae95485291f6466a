-- What becomes of a running kernel where a call begins or ends, and with a tick.
use Rattle.std.proofs.Common.{◌≡◌, ℕ, suc, ◌<◌, ◌-◌, ◌==◌, Bool, true, not, cond, List, [], ◌∷◌}
use Rattle.std.proofs.Common.{◌++◌, map, filter, length, ap, sym, ◌∙◌, arith, Option, Some, None}
use Rattle.std.proofs.Common.{append-nil, false}
use Rattle.std.specs.Prelude.{option_map, ◌^◌}
use Rattle.std.proofs.Math.Path.{fun_ext}
use Rattle.std.proofs.lemmas.Bool.Decides.{nat_tests}
use Rattle.kernel_model.specs.declared.Note.{Note}
use Rattle.kernel_model.specs.declared.Note.TheVariants.{Ticked}
use Rattle.kernel_model.specs.World.{Blocks}
use Rattle.kernel_model.specs.Objects.{at}
use Rattle.kernel_model.specs.Kernel.{Waiter, new_entry, less_entry}
use Rattle.kernel_model.specs.Events.{counted}
use Rattle.graft_levels.specs.declared.Chain.{Chain}
use Rattle.graft_levels.specs.Chains.{levels_of}
use Rattle.placed_laws.specs.Placed.{Placed, bare}
use Rattle.placed_laws.specs.PlacedSteps.{is_placed_at_piece, placed_joins, placed_noted}
use Rattle.placed_laws.specs.PlacedSteps.{placed_requeue, placed_ticked, with_placed_call}
use Rattle.running_kernel.specs.declared.order.Waiting.{Waiting}
use Rattle.running_kernel.specs.declared.running.InFlight.{InFlight}
use Rattle.running_kernel.specs.declared.running.Flight.{Flight}
use Rattle.running_kernel.specs.declared.running.Running.{Running}
use Rattle.running_kernel.specs.Orders.{entry_of, order_of, counts_within, joined, later}
use Rattle.running_kernel.specs.Views.{placed_of, flight_of, call_in_place, run_of}
use Rattle.running_kernel.proofs.OrderLemmas.{order_joined, less_entries, counted_is}
use Rattle.kernel_steps.proofs.CallLemmas.{with_call, calls_changed, chain_of_changed}

-- the kernel in place with these calls and this order
abbrev pub flying : {C B M : Type 0} {P : _} → Running C B M P → List Flight → List Waiter → Placed
flying x fs es =
    record (placed_of x) {
      call = λ q. option_map call_in_place (flight_of fs q).call;
      levels = λ q. map bare (levels_of x.store x.locks (flight_of fs q).chain q);
      order = es;
    }

-- a process's call changes
flying_changed : {C B M : Type 0} {P : _} (x : Running C B M P) (p : ℕ) (v : Option InFlight) (es : List Waiter) →
    p < length x.calls.items →
    (λ (y : Placed). record y { call = at p (option_map call_in_place v) y.call; order = es })
    (placed_of x) ≡ flying x (with_call x.calls.items p v) es
flying_changed x p v es h =
    ap (λ call. record (placed_of x) { call = call; order = es }) (sym (calls_changed x.calls.items p v h))
    ∙ ap (λ levels. record (placed_of x) {
      call = λ q. option_map call_in_place (flight_of (with_call x.calls.items p v) q).call;
      levels = levels;
      order = es;
    })
    (fun_ext (λ q. ap (λ (chain : Chain). map bare (levels_of x.store x.locks chain q))
    (sym (chain_of_changed x.calls.items p v h q))))

-- a call began
pub call_begun : {C B M : Type 0} {P : _} (x : Running C B M P) (p : ℕ) (f : InFlight)
    (fs : List Flight) (w : Waiting) (ws : List Waiting) →
    p < length x.calls.items → fs ≡ with_call x.calls.items p (Some f) → w ≡ joined p → ws ≡ x.order ++ w ∷ [] →
    (blocks : Blocks) (notes : List Note) (io : List Bool) →
    placed_joins p (with_placed_call p (Some (call_in_place f))
    (run_of (placed_of x) blocks notes io)) ≡ run_of (flying x fs (order_of ws)) blocks notes io
call_begun x p f fs w ws h fs_is w_is ws_is blocks notes io =
    let es : order_of x.order ++ new_entry p ∷ [] ≡ order_of ws =
    sym (ap order_of ws_is ∙ order_joined x.order w
    ∙ ap (λ (u : Waiting). order_of x.order ++ entry_of u ∷ []) w_is) in
    ap (λ y. run_of y blocks notes io)
    (flying_changed x p (Some f) (order_of x.order ++ new_entry p ∷ []) h
    ∙ ap (λ gs. flying x gs (order_of x.order ++ new_entry p ∷ [])) (sym fs_is)
    ∙ ap (flying x fs) es)

-- where a process has no call, none is put there
none_at : {A : Type 0} (p q : ℕ) (calls : ℕ → Option A) → calls p ≡ None → at p None calls q ≡ calls q
none_at p q calls none = grind (arith, nat_tests, none)

pub call_kept : {C B M : Type 0} {P : _} (x : Running C B M P) (p : ℕ) (fs : List Flight) →
    p < length x.calls.items → fs ≡ with_call x.calls.items p None → (placed_of x).call p ≡ None →
    flying x fs (order_of x.order) ≡ placed_of x
call_kept x p fs h fs_is none =
    ap (λ gs. flying x gs (order_of x.order)) fs_is
    ∙ sym (flying_changed x p None (order_of x.order) h)
    ∙ ap (λ call. record (placed_of x) { call = call }) (fun_ext (λ q. none_at p q (placed_of x).call none))

-- a number is itself
self : (p : ℕ) → (p == p) ≡ true
self p = grind (arith, nat_tests)

-- a call ended
pub call_ended : {C B M : Type 0} {P : _} (x : Running C B M P) (p : ℕ) (n : Note)
    (fs : List Flight) (ws : List Waiting) (notes notes_new : List Note) →
    p < length x.calls.items → fs ≡ with_call x.calls.items p None →
    ws ≡ filter (λ (w : Waiting). not (w.process == p)) x.order → notes_new ≡ notes ++ n ∷ [] →
    (blocks : Blocks) (io : List Bool) →
    placed_requeue p
    (placed_noted n (with_placed_call p None (run_of (placed_of x) blocks notes io)))
    ≡ run_of (flying x fs (order_of ws)) blocks notes_new io
call_ended x p n fs ws notes notes_new h fs_is ws_is notes_is blocks io =
    let y = placed_of x in
    let es : List Waiter = less_entry p y.order
    ++ cond (is_placed_at_piece (at p None y.call p) (y.levels p)) (new_entry p ∷ []) [] in
    let es_is : es ≡ order_of ws =
    ap (λ b. less_entry p y.order ++ cond (is_placed_at_piece (cond b None (y.call p)) (y.levels p))
    (new_entry p ∷ []) []) (self p)
    ∙ append-nil (less_entry p y.order) ∙ sym (less_entries p x.order) ∙ ap order_of (sym ws_is) in
    ap (λ z. run_of z blocks (notes ++ n ∷ []) io)
    (flying_changed x p None es h ∙ ap (λ gs. flying x gs es) (sym fs_is) ∙ ap (flying x fs) es_is)
    ∙ ap (λ ns. run_of (flying x fs (order_of ws)) blocks ns io) (sym notes_is)

-- a tick
pub ticked_on : {C B M : Type 0} {P : _} (x : Running C B M P) (number clock : ℕ)
    (ws : List Waiting) (notes notes_new : List Note) →
    clock ≡ suc x.clock → counts_within x.clock x.order ≡ true → x.clock < 2 ^ 32 - 1 →
    ws ≡ map later x.order → notes_new ≡ notes ++ Ticked number clock ∷ [] →
    (blocks : Blocks) (io : List Bool) →
    placed_ticked number (run_of (placed_of x) blocks notes io)
    ≡ run_of (record (placed_of x) { clock = clock; order = order_of ws }) blocks notes_new io
ticked_on x number clock ws notes notes_new clock_is within small ws_is notes_is blocks io =
    ap (λ n. run_of (record (placed_of x) { clock = n; order = counted (order_of x.order) }) blocks
    (notes ++ Ticked number n ∷ []) io) (sym clock_is)
    ∙ ap (λ es. run_of (record (placed_of x) { clock = clock; order = es }) blocks (notes ++ Ticked
    number clock ∷ []) io) (sym (ap order_of ws_is ∙ counted_is x.clock x.order within small))
    ∙ ap (λ ns. run_of (record (placed_of x) { clock = clock; order = order_of ws }) blocks ns io) (sym notes_is)

-- each process has a place
pub within_flights : (fs : List Flight) (p : ℕ) → length fs ≡ 16 → p < 16 → p < length fs
within_flights fs p n h = omega (arith, n, h)

-- ---- after a step

-- a call joins the order
pub joined_run : {C B M : Type 0} {P : _} (x : Running C B M P) (p : ℕ) (new : List Waiting)
    (w : Waiting) → w ≡ joined p → new ≡ x.order ++ w ∷ [] →
    (notes : List Note) (blocks : Blocks) (io : List Bool) →
    placed_joins p (run_of (placed_of x) blocks notes io)
    ≡ run_of (record (placed_of x) { order = order_of new }) blocks notes io
joined_run x p new w w_is new_is notes blocks io =
    ap (λ es. run_of (record (placed_of x) { order = es }) blocks notes io)
    (sym (ap order_of new_is ∙ order_joined x.order w ∙ ap (λ (u : Waiting). order_of x.order ++ entry_of u ∷ []) w_is))

-- the call takes its place
pub requeued : {C B M : Type 0} {P : _} (x : Running C B M P) (p : ℕ) (b : Bool) (ws : List Waiting) →
    b ≡ is_placed_at_piece ((placed_of x).call p) ((placed_of x).levels p) →
    order_of ws ≡ less_entry p (order_of x.order) ++ cond b (new_entry p ∷ []) [] →
    (notes : List Note) (blocks : Blocks) (io : List Bool) →
    placed_requeue p (run_of (placed_of x) blocks notes io)
    ≡ run_of (record (placed_of x) { order = order_of ws }) blocks notes io
requeued x p b ws b_is ws_is notes blocks io =
    ap (λ es. run_of (record (placed_of x) { order = es }) blocks notes io)
    (ap (λ c. less_entry p (order_of x.order) ++ cond c (new_entry p ∷ []) []) (sym b_is) ∙ sym ws_is)

pub left_order : (p : ℕ) (ws new : List Waiting) (b : Bool) →
    b ≡ false → new ≡ filter (λ (w : Waiting). not (w.process == p)) ws →
    order_of new ≡ less_entry p (order_of ws) ++ cond b (new_entry p ∷ []) []
left_order p ws new b b_is new_is =
    ap order_of new_is ∙ less_entries p ws ∙ sym (append-nil (less_entry p (order_of ws)))
    ∙ ap (λ c. less_entry p (order_of ws) ++ cond c (new_entry p ∷ []) []) (sym b_is)

pub joined_order : (p : ℕ) (ws left new : List Waiting) (w : Waiting) (b : Bool) → b ≡ true →
    left ≡ filter (λ (w : Waiting). not (w.process == p)) ws → w ≡ joined p → new ≡ left ++ w ∷ [] →
    order_of new ≡ less_entry p (order_of ws) ++ cond b (new_entry p ∷ []) []
joined_order p ws left new w b b_is left_is w_is new_is =
    ap order_of new_is ∙ order_joined left w ∙ ap (λ (u : Waiting). order_of left ++ entry_of u ∷ []) w_is
    ∙ ap (λ es. es ++ new_entry p ∷ []) (ap order_of left_is ∙ less_entries p ws)
    ∙ ap (λ c. less_entry p (order_of ws) ++ cond c (new_entry p ∷ []) []) (sym b_is)
