-- A kernel in which no call is in flight, and a call that is alone in it. The law, for every table
-- of calls: if no call is in flight, no graft is installed and no user lock counts for what its
-- pieces need, a call runs at its own event, piece after piece, and afterwards no call is in flight
-- again. It is proved here for calls that end with their first or their second piece, and in
-- `Alone` for calls with any number of pieces.
use Rattle.std.specs.Prelude.{◌≡◌, ℕ, zero, suc, ◌==◌, Bool, true, false, cond, not, ◌&&◌, List, []}
use Rattle.std.specs.Prelude.{◌∷◌, ◌++◌, Option, Some, None, map, drop, find, slice_index_or}
use Rattle.std.specs.Prelude.{option_map, refl, Result, Ok, Err}
use Rattle.std.specs.List.{list_all}
use Rattle.std.proofs.Common.{sym, ap, ◌∙◌}
use mathlib.Core.Path.{fun_ext}
use Rattle.std.proofs.lemmas.Cmp.{nat_eq_equiv}
use Rattle.kernel_data.specs.declared.Need.{Need}
use Rattle.kernel_data.specs.declared.Object.{Object}
use Rattle.kernel_data.specs.declared.Mode.{Mode}
use Rattle.kernel_data.specs.declared.Point.{Point}
use Rattle.kernel_data.specs.declared.SysCall.{SysCall}
use Rattle.kernel_data.specs.declared.Event.TheVariants.{Sys}
use Rattle.kernel_data.specs.declared.Refusal.{Refusal}
use Rattle.kernel_data.specs.declared.Refusal.TheVariants.{NoProcess}
use Rattle.kernel_data.specs.declared.Note.TheVariants.{Refused}
use Rattle.kernel_data.specs.Policies.{lives}
use Rattle.kernel_model.specs.Events.{event, sys_event, begun, last}
use Rattle.kernel_data.specs.Objects.{Objects, at}
use Rattle.kernel_data.specs.World.{World, ImageTable, Blocks, processes}
use Rattle.kernel_model.specs.Meaning.{Meaning, Stage, Piece, After, Continues, EndsWith, Fails}
use Rattle.kernel_model.specs.Locks.{Hindrance, hinders, lowest_holder, first_hindrance}
use Rattle.kernel_model.specs.Locks.{hindrance_by, user_hindrance, user_of}
use Rattle.kernel_model.specs.Levels.{Level, touched_at}
use Rattle.kernel_model.specs.Kernel.{Kernel, Call, Waiter, Run, new_entry, less_entry, is_at_piece}
use Rattle.kernel_model.specs.Kernel.{call_after, gave_note, after_note, finish, requeue, noted}
use Rattle.kernel_model.specs.Blocking.{levels_in, config_in, trace_of, levels_of, holds, needs_in, blocker_from}
use Rattle.kernel_model.specs.GraftStep.{lock_user}
use Rattle.kernel_data.specs.declared.Note.{Note}
use Rattle.kernel_model.specs.Settle.{finish_on, piece_at, piece_step, call_step, step, first_free, rested, settle}

-- a kernel in which no call is in flight
abbrev pub quiet : World → ImageTable → Objects → (clock : ℕ) → Kernel
quiet v images s clock =
    record { world = v; images = images; objects = s; clock = clock; call = λ q. None; order = [] }

-- the call of p, of this number, before a piece
abbrev pub call_at : (number : ℕ) → Stage → Call
call_at number t = record { number = number; stage = t; marks = None }

-- a run in which the call of p is alone in flight, before a piece
abbrev pub begins_alone : (p number : ℕ) → Stage → Run → Run
begins_alone p number t r =
    record r {
      kernel = record (r.kernel) {
        call = at p (Some (call_at number t)) (λ q. None);
        order = new_entry p ∷ [];
      };
    }

-- what a piece leaves: its objects, blocks and notes, and the disk calls after its own
abbrev pub left_by : (number : ℕ) → Piece → Run → Run
left_by number q r =
    record {
      kernel = record (r.kernel) { objects = q.objects };
      blocks = q.blocks;
      notes = r.notes ++ gave_note number q.gave ++ after_note number q.after;
      io = drop q.calls r.io;
    }

-- the call goes on with its next piece, or has ended
abbrev pub goes_alone : (p number : ℕ) → After → Run → Run
goes_alone p number (Continues t) r = begins_alone p number t r
goes_alone p number (EndsWith reply) r = r
goes_alone p number (Fails refusal) r = r

-- No user lock counts for these needs. One counts for the lock of a `lock` call, held or free.
abbrev pub needs_no_user : List Need → Bool
needs_no_user ns = list_all (λ (n : Need). not n.by_user) ns

-- another process than p holds a user lock
abbrev pub is_others : ℕ → Option ℕ → Bool
is_others p None = false
is_others p (Some q) = not (q == p)

-- No user lock of another process hinders these needs of p. A free lock and p's own lock don't.
abbrev pub is_unhindered : (users : ℕ → Option ℕ) → (p : ℕ) → List Need → Bool
is_unhindered users p ns =
    list_all (λ (n : Need). not (n.by_user && is_others p (user_of users n.object))) ns

-- no graft is installed
abbrev pub HasNoGraft : Objects → Type 0
HasNoGraft s = (q pt : ℕ) → s.accounts.graft q pt ≡ None

-- ---- nothing is held

-- a number equals itself
same_number : (p : ℕ) → (p == p) ≡ true
same_number p = nat_eq_equiv.refl p

-- a call before a piece has no level, and without a call there is none either
no_levels : (m : Meaning) (k : Kernel) (q : ℕ) (c : Call) (b : Bool) → c.marks ≡ None →
    levels_in (config_in (trace_of m k q (cond b (Some c) None))) ≡ []
no_levels m k q c true h = rw h refl
no_levels m k q c false h = refl

-- so no process has a level
levels_alone : (m : Meaning) (p number : ℕ) (t : Stage) (r : Run) (q : ℕ) →
    levels_of m (begins_alone p number t r).kernel q ≡ []
levels_alone m p number t r q =
    no_levels m (begins_alone p number t r).kernel q (call_at number t) (q == p) refl

-- a table of lists that are all empty
empty_at : (f : ℕ → List Level) → ((q : ℕ) → f q ≡ []) → (ps : List ℕ) (q : ℕ) →
    slice_index_or (map f ps) q [] ≡ []
empty_at f h [] q = refl
empty_at f h (p ∷ ps) zero = h p
empty_at f h (p ∷ ps) (suc q) = empty_at f h ps q

-- if no test passes, nothing is found
none_found : (test : ℕ → Bool) → ((q : ℕ) → test q ≡ false) → (qs : List ℕ) → find test qs ≡ None
none_found test h [] = refl
none_found test h (q ∷ qs) = rw (h q) (none_found test h qs)

-- a test together with one that fails
and_fails : (a b : Bool) → b ≡ false → (a && b) ≡ false
and_fails true b h = h
and_fails false b h = refl

-- nothing is held that would hinder
none_hinders : (m : Meaning) (p number : ℕ) (t : Stage) (r : Run) (o : Object) (mode : Mode)
    (q : ℕ) → hinders o mode (holds m (begins_alone p number t r).kernel q) ≡ false
none_hinders m p number t r o mode q =
    ap (λ ls. hinders o mode (touched_at ls))
    (empty_at (levels_of m (begins_alone p number t r).kernel)
    (levels_alone m p number t r) processes q)

-- and nobody holds it
none_holds : (m : Meaning) (p number : ℕ) (t : Stage) (r : Run) (u : ℕ) (o : Object) (mode : Mode) →
    lowest_holder (holds m (begins_alone p number t r).kernel) u o mode ≡ None
none_holds m p number t r u o mode =
    none_found (λ q. not (q == u) && hinders o mode (holds m (begins_alone p number t r).kernel q))
    (λ q. and_fails (not (q == u)) (hinders o mode (holds m (begins_alone p number t r).kernel q))
    (none_hinders m p number t r o mode q)) processes

-- two tests pass
pub both_hold : (a b : Bool) → (a && b) ≡ true → (a ≡ true) × (b ≡ true)
both_hold true b h = (refl, h)
both_hold false b h = absurd cc

-- a test whose negation passes
not_holds : (a : Bool) → not a ≡ true → a ≡ false
not_holds true h = absurd cc
not_holds false h = refl

-- if no user lock counts, none hinders these needs of any process
pub free_of_users : (users : ℕ → Option ℕ) (p : ℕ) (ns : List Need) → needs_no_user ns ≡ true →
    is_unhindered users p ns ≡ true
free_of_users users p [] h = refl
free_of_users users p (n ∷ ns) h =
    let both = both_hold (not n.by_user) (needs_no_user ns) h in
    ap (λ b. not (b && is_others p (user_of users n.object))
    && is_unhindered users p ns) (not_holds n.by_user both.0)
    ∙ free_of_users users p ns both.1

-- a user lock that doesn't count, or that no other process holds, doesn't hinder
user_free : (b : Bool) (w : ℕ) (o : Object) (x : Option ℕ) → not (b && is_others w x) ≡ true →
    cond b (user_hindrance w o x) None ≡ None
user_free false w o x h = refl
user_free true w o None h = refl
user_free true w o (Some q) h =
    ap (λ (b : Bool). cond b None (Some (record { object = o; holder = q; by_user = true })))
    (twice_not (q == w) (not_holds (not (q == w)) h))
  where
    twice_not : (b : Bool) → not b ≡ false → b ≡ true
    twice_not true h = refl
    twice_not false h = absurd cc

-- so nothing hinders a step that no user lock of another process hinders
none_first : (m : Meaning) (p number : ℕ) (t : Stage) (r : Run) (users : ℕ →
    Option ℕ) (u w : ℕ) (ns : List Need) → is_unhindered users w ns ≡ true →
    first_hindrance (holds m (begins_alone p number t r).kernel) users u w ns ≡ None
none_first m p number t r users u w [] h = refl
none_first m p number t r users u w (n ∷ ns) h =
    let locks = holds m (begins_alone p number t r).kernel in
    let both = both_hold (not (n.by_user && is_others w (user_of users n.object)))
    (is_unhindered users w ns) h in
    let none = ap (hindrance_by users w n) (none_holds m p number t r u n.object n.mode)
    ∙ user_free n.by_user w n.object (user_of users n.object) both.0 in
    ap (λ (x : Option Hindrance). elim x as (λ _. Option Hindrance) [
      | Some y ↦ Some y
      | None ↦ first_hindrance locks users u w ns
    ]) none
    ∙ none_first m p number t r users u w ns both.1

-- ---- one step

-- the call of p when it is alone in flight
call_alone : (p number : ℕ) (t : Stage) →
    at p (Some (call_at number t)) (λ q. None) p ≡ Some (call_at number t)
call_alone p number t = ap (λ (b : Bool). cond b (Some (call_at number t)) None) (same_number p)

-- a call that is alone in flight is the first that nothing blocks
free_alone : (m : Meaning) (p number : ℕ) (t : Stage) (r : Run) →
    is_unhindered r.kernel.objects.things.lock p (m.need r.kernel.world r.kernel.objects p t)
    ≡ true →
    first_free m (begins_alone p number t r).kernel (new_entry p ∷ []) ≡ Some p
free_alone m p number t r h =
    let k = (begins_alone p number t r).kernel in
    let needed = ap (needs_in m k p) (call_alone p number t) in
    let none = ap (first_hindrance (holds m k) k.objects.things.lock p
    (lock_user p (levels_of m k p))) needed
    ∙ ap (λ ls. first_hindrance (holds m k) k.objects.things.lock p (lock_user p ls)
    (m.need r.kernel.world r.kernel.objects p t)) (levels_alone m p number t r p)
    ∙ none_first m p number t r k.objects.things.lock p p
    (m.need r.kernel.world r.kernel.objects p t) h in
    ap (λ (x : Option Hindrance). elim (option_map (blocker_from k) x) as (λ _. Option ℕ)
    [ None ↦ Some p | Some b ↦ None ]) none

-- the default finishes a piece if no graft is installed
default_finishes : (m : Meaning) (p : ℕ) (c : Call) (a : Option Point) (r : Run) →
    HasNoGraft r.kernel.objects →
    piece_step m p c a r ≡ finish_on m p c r.kernel.objects None r
default_finishes m p c None r none = refl
default_finishes m p c (Some a) r none = ap (λ g. piece_at m p c g r) (none a.installer a.point)

-- a run in which no call is in flight
abbrev pub at_rest : World → ImageTable → Objects → (clock : ℕ) → Blocks → List Note → List Bool →
    Run
at_rest v images s clock blocks notes io =
    record { kernel = quiet v images s clock; blocks = blocks; notes = notes; io = io }

-- a function that was changed twice at one number
at_twice : (p : ℕ) (x y : Option Call) (f : ℕ → Option Call) → at p x (at p y f) ≡ at p x f
at_twice p x y f = fun_ext (λ j. at_twice_by (j == p) x y (f j))
  where
    at_twice_by : (b : Bool) (x y z : Option Call) → cond b x (cond b y z) ≡ cond b x z
    at_twice_by true x y z = refl
    at_twice_by false x y z = refl

-- the same either way
either_way : (b : Bool) (x : Option Call) → cond b x x ≡ x
either_way true x = refl
either_way false x = refl

-- no call is in flight, also after one was taken out
abbrev no_calls : ℕ → Option Call
no_calls q = None

at_none : (p : ℕ) → at p None no_calls ≡ no_calls
at_none p = fun_ext (λ j. either_way (j == p) (no_calls j))

-- the order with only the entry of p, without p
less_alone : (p : ℕ) → less_entry p (new_entry p ∷ []) ≡ []
less_alone p = ap (λ (b : Bool). cond (not b) (new_entry p ∷ []) []) (same_number p)

-- a run after a piece, with these calls and this order
abbrev run_with : (number : ℕ) → Piece → Run → (ℕ → Option Call) → List Waiter → Run
run_with number q r calls order =
    let l = left_by number q r in
    record l { kernel = record (l.kernel) { call = calls; order = order } }

-- if the call goes on, it is in the order; if it has ended, nothing is left of it
run_goes : (p number : ℕ) (t : Stage) (a : After) (r : Run) → r.kernel.order ≡ [] →
    (λ q. None) ≡ r.kernel.call →
    record r {
      kernel = record (r.kernel) {
        call = at p (call_after (call_at number t) a) (λ q. None);
        order = cond (is_at_piece (call_after (call_at number t) a)) (new_entry p ∷ []) [];
      };
    }
    ≡ goes_alone p number a r
run_goes p number t (Continues u) r order calls = refl
run_goes p number t (EndsWith reply) r order calls =
    ap (λ (c : ℕ → Option Call). record r { kernel = record (r.kernel) { call = c; order = [] } })
    (at_none p ∙ calls)
    ∙ ap (λ (o : List Waiter). record r { kernel = record (r.kernel) { order = o } }) (sym order)
run_goes p number t (Fails refusal) r order calls =
    ap (λ (c : ℕ → Option Call). record r { kernel = record (r.kernel) { call = c; order = [] } })
    (at_none p ∙ calls)
    ∙ ap (λ (o : List Waiter). record r { kernel = record (r.kernel) { order = o } }) (sym order)

-- after its piece the call is in the order if it goes on, and has left it if it has ended
finished_alone : (p number : ℕ) (t : Stage) (q : Piece) (v : World) (images : ImageTable)
    (s : Objects) (clock : ℕ) (blocks : Blocks) (notes : List Note) (io : List Bool) →
    requeue p (finish p (call_at number t) q
    (begins_alone p number t (at_rest v images s clock blocks notes io)))
    ≡ goes_alone p number q.after (left_by number q (at_rest v images s clock blocks notes io))
finished_alone p number t q v images s clock blocks notes io =
    let r = at_rest v images s clock blocks notes io in
    let c = call_at number t in
    let x = call_after c q.after in
    let calls = at_twice p x (Some c) (λ q. None) in
    let stands =
    ap (λ (b : Bool). is_at_piece (cond b x (at p (Some c) (λ q. None) p))) (same_number p) in
    ap (λ (o : List Waiter). run_with number q r (at p x (at p (Some c) (λ q. None))) (o
    ++ cond (is_at_piece (at p x (at p (Some c) (λ q. None)) p)) (new_entry p ∷ []) []))
    (less_alone p)
    ∙ ap (λ (b : Bool). run_with number q r (at p x (at p (Some c) (λ q. None)))
    (cond b (new_entry p ∷ []) [])) stands
    ∙ ap (λ (f : ℕ → Option Call). run_with number q r f
    (cond (is_at_piece x) (new_entry p ∷ []) [])) calls
    ∙ run_goes p number t q.after (left_by number q r) refl refl

-- a step of a call that is alone in flight is its piece, by default
pub step_alone : (m : Meaning) (p number : ℕ) (t : Stage) (v : World) (images : ImageTable)
    (s : Objects) (clock : ℕ) (blocks : Blocks) (notes : List Note) (io : List Bool) →
    HasNoGraft s →
    let r = at_rest v images s clock blocks notes io in
    let q = m.piece v images s blocks p t None io in
    step m p (begins_alone p number t r) ≡ goes_alone p number q.after (left_by number q r)
step_alone m p number t v images s clock blocks notes io none =
    let r = at_rest v images s clock blocks notes io in
    let u = begins_alone p number t r in
    ap (λ c. requeue p (call_step m p c u)) (call_alone p number t)
    ∙ ap (requeue p) (default_finishes m p (call_at number t) (m.asks v s p t) u none)
    ∙ finished_alone p number t
    (m.piece v images s blocks p t None io) v images s clock blocks notes io

-- Settling a kernel with one call in flight takes the call's piece, by default, and then settles
-- the run after it.
pub settle_alone : (m : Meaning) (n p number : ℕ) (t : Stage) (v : World) (images : ImageTable)
    (s : Objects) (clock : ℕ) (blocks : Blocks) (notes : List Note) (io : List Bool) →
    HasNoGraft s → is_unhindered s.things.lock p (m.need v s p t) ≡ true →
    let r = at_rest v images s clock blocks notes io in
    let q = m.piece v images s blocks p t None io in
    settle m (suc n) (begins_alone p number t r)
    ≡ settle m n (goes_alone p number q.after (left_by number q r))
settle_alone m n p number t v images s clock blocks notes io none users =
    let u = begins_alone p number t (at_rest v images s clock blocks notes io) in
    ap (λ (x : Option ℕ). elim x as (λ _. Run) [
      | None ↦ rested m u
      | Some w ↦ settle m n (step m w u)
    ])
    (free_alone m p number t (at_rest v images s clock blocks notes io) users)
    ∙ ap (settle m n) (step_alone m p number t v images s clock blocks notes io none)

-- a kernel in which no call is in flight rests
pub settle_rests : (m : Meaning) (n : ℕ) (v : World) (images : ImageTable) (s : Objects) (clock : ℕ)
    (blocks : Blocks) (notes : List Note) (io : List Bool) →
    settle m n (at_rest v images s clock blocks notes io) ≡ at_rest v images s clock blocks notes io
settle_rests m zero v images s clock blocks notes io = refl
settle_rests m (suc n) v images s clock blocks notes io = refl

-- ---- a call's event

-- the call has no further piece
abbrev pub has_ended : After → Bool
has_ended (Continues t) = false
has_ended _ = true

-- a call that has ended is no longer in flight
ended_alone : (p number : ℕ) (a : After) (r : Run) → has_ended a ≡ true →
    goes_alone p number a r ≡ r
ended_alone p number (Continues t) r h = absurd cc
ended_alone p number (EndsWith reply) r h = refl
ended_alone p number (Fails refusal) r h = refl

-- a call that goes on is before its next piece
gone_alone : (p number : ℕ) (a : After) (u : Stage) (r : Run) → a ≡ Continues u →
    goes_alone p number a r ≡ begins_alone p number u r
gone_alone p number a u r h = ap (λ x. goes_alone p number x r) h

-- The event of a granted call of a living process, if no call is in flight: the kernel settles with
-- that call alone.
pub granted_alone : (m : Meaning) (p number : ℕ) (c : SysCall) (t : Stage) (v : World)
    (images : ImageTable) (s : Objects) (clock : ℕ) (blocks : Blocks) (io : List Bool) →
    lives s.things.queue p ≡ true → m.early v images p c ≡ Ok t →
    event m (quiet v images s clock) blocks number (Sys p c) io
    ≡ last m p (settle m 256 (begins_alone p number t (at_rest v images s clock blocks [] io)))
granted_alone m p number c t v images s clock blocks io alive granted =
    let r = at_rest v images s clock blocks [] io in
    ap (λ (b : Bool). elim b as (λ _. Run) [
      | false ↦ noted (Refused number NoProcess) r
      | true ↦ sys_event m number p c None r
    ]) alive
    ∙ ap (λ (x : Result Stage Refusal). last m p (begun m number p x r)) granted

-- The event of a process that isn't living is a refusal, and nothing changes.
pub event_of_none : (m : Meaning) (p number : ℕ) (c : SysCall) (v : World) (images : ImageTable)
    (s : Objects) (clock : ℕ) (blocks : Blocks) (io : List Bool) →
    lives s.things.queue p ≡ false →
    event m (quiet v images s clock) blocks number (Sys p c) io
    ≡ at_rest v images s clock blocks (Refused number NoProcess ∷ []) io
event_of_none m p number c v images s clock blocks io absent =
    let r = at_rest v images s clock blocks [] io in
    ap (λ (b : Bool). elim b as (λ _. Run) [
      | false ↦ noted (Refused number NoProcess) r
      | true ↦ sys_event m number p c None r
    ]) absent

-- The event of a call that is refused at once is that refusal, and nothing changes.
pub event_refused : (m : Meaning) (p number : ℕ) (c : SysCall) (refusal : Refusal) (v : World)
    (images : ImageTable) (s : Objects) (clock : ℕ) (blocks : Blocks) (io : List Bool) →
    lives s.things.queue p ≡ true → m.early v images p c ≡ Err refusal →
    event m (quiet v images s clock) blocks number (Sys p c) io
    ≡ at_rest v images s clock blocks (Refused number refusal ∷ []) io
event_refused m p number c refusal v images s clock blocks io alive refused =
    let r = at_rest v images s clock blocks [] io in
    ap (λ (b : Bool). elim b as (λ _. Run) [
      | false ↦ noted (Refused number NoProcess) r
      | true ↦ sys_event m number p c None r
    ]) alive
    ∙ ap (λ (x : Result Stage Refusal). last m p (begun m number p x r)) refused

-- If no call is in flight, no graft is installed, and no user lock counts for the needs of a
-- granted call that ends with its first piece, the event of this call is that piece by default.
pub event_of_one : (m : Meaning) (p number : ℕ) (c : SysCall) (t : Stage) (v : World)
    (images : ImageTable) (s : Objects) (clock : ℕ) (blocks : Blocks) (io : List Bool) →
    lives s.things.queue p ≡ true → m.early v images p c ≡ Ok t → HasNoGraft s →
    needs_no_user (m.need v s p t) ≡ true →
    let q = m.piece v images s blocks p t None io in
    has_ended q.after ≡ true →
    event m (quiet v images s clock) blocks number (Sys p c) io
    ≡ left_by number q (at_rest v images s clock blocks [] io)
event_of_one m p number c t v images s clock blocks io alive granted none users ended =
    let q = m.piece v images s blocks p t None io in
    let l = left_by number q (at_rest v images s clock blocks [] io) in
    granted_alone m p number c t v images s clock blocks io alive granted
    ∙ ap (last m p) (settle_alone m 255 p number t v images s clock blocks [] io none
    (free_of_users s.things.lock p (m.need v s p t) users))
    ∙ ap (λ (x : Run). last m p (settle m 255 x)) (ended_alone p number q.after l ended)

-- The same for a call that ends with its second piece: first the one piece and then the other, if
-- the premises hold before each.
pub event_of_two : (m : Meaning) (p number : ℕ) (c : SysCall) (t u : Stage) (v : World)
    (images : ImageTable) (s : Objects) (clock : ℕ) (blocks : Blocks) (io : List Bool) →
    lives s.things.queue p ≡ true → m.early v images p c ≡ Ok t → HasNoGraft s →
    needs_no_user (m.need v s p t) ≡ true →
    let q = m.piece v images s blocks p t None io in
    q.after ≡ Continues u → HasNoGraft q.objects → needs_no_user (m.need v q.objects p u) ≡ true →
    let w = m.piece v images q.objects q.blocks p u None (drop q.calls io) in
    has_ended w.after ≡ true →
    event m (quiet v images s clock) blocks number (Sys p c) io
    ≡ left_by number w (left_by number q (at_rest v images s clock blocks [] io))
event_of_two m p number c t u v images s clock blocks io alive granted none users goes none_then
    users_then ended =
    let q = m.piece v images s blocks p t None io in
    let w = m.piece v images q.objects q.blocks p u None (drop q.calls io) in
    let l = left_by number q (at_rest v images s clock blocks [] io) in
    granted_alone m p number c t v images s clock blocks io alive granted
    ∙ ap (last m p) (settle_alone m 255 p number t v images s clock blocks [] io none
    (free_of_users s.things.lock p (m.need v s p t) users))
    ∙ ap (λ (x : Run). last m p (settle m 255 x)) (gone_alone p number q.after u l goes)
    ∙ ap (last m p)
    (settle_alone m 254 p number u v images q.objects clock q.blocks l.notes l.io none_then
    (free_of_users q.objects.things.lock p (m.need v q.objects p u) users_then))
    ∙ ap (λ (x : Run). last m p (settle m 254 x))
    (ended_alone p number w.after (left_by number w l) ended)
