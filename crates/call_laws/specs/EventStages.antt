-- The table of event points meets the laws of stages: where a call may stand, and for how long.
use Rattle.std.specs.Prelude.{◌≡◌, ℕ, zero, suc, ◌+◌, ◌<◌, ◌≤◌, Bool, true, false, cond, ◌&&◌, ◌==◌}
use Rattle.std.specs.Prelude.{nat_lt, List, [], ◌∷◌, length, Option, Some, None, Ok}
use Rattle.std.specs.List.{list_all}
use Rattle.std.specs.Result.{is_ok}
use Rattle.std.proofs.Common.{arith, refl, sym, subst, ap}
use Rattle.std.proofs.lemmas.Bool.Decides.{nat_tests}
use Rattle.kernel_model.specs.declared.Refusal.{Refusal}
use Rattle.kernel_model.specs.declared.Refusal.TheVariants.{BadPoint}
use Rattle.kernel_model.specs.declared.SysCall.{SysCall}
use Rattle.kernel_model.specs.declared.SysCall.TheVariants.{Serve}
use Rattle.kernel_model.specs.World.{World, ImageTable, Blocks}
use Rattle.kernel_model.specs.Objects.{Objects}
use Rattle.kernel_model.specs.Handlers.{handlers_at}
use Rattle.kernel_model.specs.Meaning.{Stage, stage, Answer, After, Continues}
use Rattle.kernel_model.specs.Early.{begins_unless, call_refusal}
use Rattle.kernel_model.specs.Sound.{IsSoundStore}
use Rattle.kernel_model.specs.Alike.{Extends}
use Rattle.kernel_model.specs.Laws.{StageLaws, continues}
use Rattle.kernel_model.specs.EventPoints.{PORTS, LAST_EVENT_POINT, point_of_port, is_event_call}
use Rattle.kernel_model.specs.EventPoints.{event_refusal, serves_on, answers_with, event_piece}
use Rattle.kernel_model.specs.EventPoints.{is_of_port, serve_fits, event_fits, event_left}
use Rattle.kernel_model.specs.EventPoints.{event_points}
use Rattle.call_laws.specs.Stages.{stages_of_plain, begins_at_first}
use Rattle.call_laws.specs.EventGranted.{IsBegun, serve_begun, other_own, stage_of, handler_stands}
use Rattle.call_laws.specs.HandlerLists.{of_port}
use Rattle.call_laws.specs.EventPieces.{event_stops}

-- ---- the first stage

-- there it may stand
first_fits : (v : World) (images : ImageTable) (p : ℕ) (c : SysCall) → IsBegun v images p c →
    event_fits c (stage c 0) ≡ true
first_fits v images p (Serve port bytes) h =
    let low = (serve_begun v images p port bytes h).0 in grind (arith, nat_tests)
first_fits v images p c h = ap (λ b. b && true) (other_own v images p c refl h)

-- a call begins at a stage that fits
begins_fitting : (v : World) (images : ImageTable) (p : ℕ) (c : SysCall) (t : Stage) →
    event_points.early v images p c ≡ Ok t → event_fits t.call t ≡ true
begins_fitting v images p c t h =
    subst (λ (u : Stage). event_fits u.call u ≡ true)
    (sym (begins_at_first c (event_refusal v images p c) t h))
    (first_fits v images p c (ap is_ok h))

-- ---- more images

-- what a table's own call gets
more_where : (c : SysCall) (own : Bool) (r q : Option Refusal) (t : Stage) →
    (begins_unless c r ≡ Ok t → begins_unless c q ≡ Ok t) →
    begins_unless c (cond own r (Some BadPoint)) ≡ Ok t →
    begins_unless c (cond own q (Some BadPoint)) ≡ Ok t
more_where c true r q t more h = more h
more_where c false r q t more h = h

-- a call that begins also begins with more images loaded
begins_more : (v : World) (images more : ImageTable) (p : ℕ) (c : SysCall) (t : Stage) →
    Extends images more →
    event_points.early v images p c ≡ Ok t → event_points.early v more p c ≡ Ok t
begins_more v images more p (Serve port bytes) t ext h = h
begins_more v images more p c t ext h =
    more_where c (is_event_call c) (call_refusal LAST_EVENT_POINT v images p c)
    (call_refusal LAST_EVENT_POINT v more p c) t
    ((stages_of_plain LAST_EVENT_POINT (omega arith)).more_images v images more p c t ext) h

-- ---- how a `serve` goes on

-- what holds of the next stage of a call that has so many pieces left
record GoesOn (c : SysCall) (left : ℕ) (u : Stage) : Type 0 where
  pub same : u.call ≡ c
  pub fits : event_fits u.call u ≡ true
  pub fewer : event_left u.call u < left

-- before the piece of a handler a `serve` may stand
handlers_fit : (port n : ℕ) (h : ℕ × ℕ) (hs : List (ℕ × ℕ)) (answers : ℕ) → port < 8 →
    list_all (is_of_port port) (h ∷ hs) ≡ true → answers ≤ n → n + suc (length hs) ≤ 8 →
    (nat_lt port PORTS && serve_fits (suc n) port (h ∷ hs) answers) ≡ true
handlers_fit port n h hs answers low own answered few = grind (arith, nat_tests)

-- and as many pieces are left as there are handlers
handlers_left : (n : ℕ) (hs : List (ℕ × ℕ)) → cond (suc n == 0) 9 (length hs) ≡ length hs
handlers_left n hs = grind (arith, nat_tests)

-- a `serve` goes on with handlers of its port
serve_goes_on : (port : ℕ) (event : List ℕ) (n : ℕ) (hs : List (ℕ × ℕ)) (answers left : ℕ)
    (u : Stage) → port < 8 → list_all (is_of_port port) hs ≡ true → answers ≤ n → n + length hs ≤ 8 →
    length hs < left →
    serves_on (Serve port event) (suc n) hs answers ≡ Continues u →
    GoesOn (Serve port event) left u
serve_goes_on port event n [] answers left u low own answered few fewer e = cc
serve_goes_on port event n (h ∷ hs) answers left u low own answered few fewer e =
    let same : stage_of (Serve port event) (suc n) (h ∷ hs) answers [] ≡ u = cc in
    subst (GoesOn (Serve port event) left) same (record {
      same = refl;
      fits = handlers_fit port n h hs answers low own answered few;
      fewer = let all = handlers_left n (h ∷ hs) in omega (arith, all, fewer);
    })

-- at most one more answers
one_more : (a : Option Answer) (n : ℕ) → answers_with a n ≤ suc n
one_more None n = omega arith
one_more (Some a) n = omega arith

-- a piece that ends its call doesn't go on
stops : (c : SysCall) (left : ℕ) (a : After) (u : Stage) → continues a ≡ false →
    a ≡ Continues u → GoesOn c left u
stops c left a u h e = cc

-- the next stage of each call
event_goes_on : (c : SysCall) (n : ℕ) (hs : List (ℕ × ℕ)) (answers : ℕ) (bytes : List ℕ) (v : World)
    (s : Objects) (blocks : Blocks) (p : ℕ) (answer : Option Answer) (u : Stage) →
    IsSoundStore v s → event_fits c (stage_of c n hs answers bytes) ≡ true →
    (event_piece c (stage_of c n hs answers bytes) s blocks p answer).after ≡ Continues u →
    GoesOn c (event_left c (stage_of c n hs answers bytes)) u
event_goes_on (Serve port event) zero hs answers bytes v s blocks p answer u sound fits e =
    let few = sound.handlers.most (point_of_port port) in
    serve_goes_on port event 0 (handlers_at (point_of_port port) s.things.handlers) 0 9 u
    (grind (arith, nat_tests))
    (of_port port s.things.handlers (λ q pt h. sound.numbers q (sound.handlers_live q pt h)))
    (omega arith) (omega (arith, few)) (omega (arith, few)) e
event_goes_on (Serve port event) (suc n) [] answers bytes v s blocks p answer u sound fits e = cc
event_goes_on (Serve port event) (suc n) (h ∷ hs) answers bytes v s blocks p answer u sound fits e =
    let k = handler_stands port n h hs answers fits in
    let more = one_more answer answers in
    let few = k.few in
    let answered = k.answered in
    let all = handlers_left n (h ∷ hs) in
    serve_goes_on port event (suc n) hs (answers_with answer answers)
    (event_left (Serve port event) (stage_of (Serve port event) (suc n) (h ∷ hs) answers bytes)) u
    k.low k.others (omega (arith, more, answered)) (omega (arith, few)) (omega (arith, all)) e
event_goes_on c n hs answers bytes v s blocks p answer u sound fits e =
    stops c (event_left c (stage_of c n hs answers bytes))
    (event_piece c (stage_of c n hs answers bytes) s blocks p answer).after u
    (event_stops c (stage_of c n hs answers bytes) v s blocks p answer refl) e

-- ---- how many pieces are left

-- 1 to 15 pieces are left
event_some_left : (c : SysCall) (n : ℕ) (hs : List (ℕ × ℕ)) (answers : ℕ) (bytes : List ℕ) →
    event_fits c (stage_of c n hs answers bytes) ≡ true →
    (1 ≤ event_left c (stage_of c n hs answers bytes))
    × (event_left c (stage_of c n hs answers bytes) ≤ 15)
event_some_left (Serve port event) zero hs answers bytes fits = (omega arith, omega arith)
event_some_left (Serve port event) (suc n) hs answers bytes fits = grind (arith, nat_tests)
event_some_left c n hs answers bytes fits = (omega arith, omega arith)

-- ---- the laws

-- the laws of stages hold of event points
pub stages_of_events : StageLaws event_points
stages_of_events =
    record {
      first = λ v images s p c t h. begins_fitting v images p c t h;
      same_call = λ v images p c t h.
          ap (λ (u : Stage). u.call) (begins_at_first c (event_refusal v images p c) t h);
      next = λ v images s blocks p t u answer io h e.
          (event_goes_on t.call t.piece t.handlers t.answers t.bytes v s blocks p answer u
          h.standing.store h.standing.fits e).fits;
      same_call_next = λ v images s blocks p t u answer io h e.
          (event_goes_on t.call t.piece t.handlers t.answers t.bytes v s blocks p answer u
          h.standing.store h.standing.fits e).same;
      fits_same = λ v s u p t h. refl;
      more_images = λ v images more p c t ext h. begins_more v images more p c t ext h;
      some_left = λ v images s p t h.
          event_some_left t.call t.piece t.handlers t.answers t.bytes h.fits;
      left_falls = λ v images s blocks p t u answer io h e.
          (event_goes_on t.call t.piece t.handlers t.answers t.bytes v s blocks p answer u
          h.standing.store h.standing.fits e).fewer;
      left_same = λ v s u p t h. refl;
    }
