-- A kernel in place in which a piece of one call was done.
use Rattle.std.proofs.Common.{◌≡◌, ℕ, ◌+◌, ◌<◌, ◌==◌, Bool, true, false, cond, nat_lt, List, []}
use Rattle.std.proofs.Common.{◌∷◌, ◌++◌, drop, map, length, refl, ap, sym, subst, ◌∙◌, arith}
use Rattle.std.proofs.Common.{Option}
use Rattle.std.specs.Prelude.{option_map}
use Rattle.std.proofs.Math.Path.{fun_ext}
use Rattle.std.proofs.lemmas.Bool.{eqb-true}
use Rattle.kernel_model.specs.declared.Note.{Note}
use Rattle.kernel_model.specs.World.{World, ImageTable, Blocks}
use Rattle.kernel_model.specs.Objects.{Objects, Things, at}
use Rattle.kernel_model.specs.Meaning.{Meaning, Piece, Answer}
use Rattle.kernel_model.specs.Locks.{LockTable}
use Rattle.kernel_model.specs.Levels.{base_of}
use Rattle.kernel_model.specs.Runs.{segment_of}
use Rattle.kernel_model.specs.Kernel.{Waiter}
use Rattle.graft_levels.specs.UndoLevels.{Logged, innermost}
use Rattle.graft_levels.specs.Masks.{held}
use Rattle.graft_levels.specs.Cpu.{by_place}
use Rattle.call_pieces.specs.Stores.{world_of_store, objects_of, SegmentsStay}
use Rattle.graft_levels.specs.Slots.{table_of}
use Rattle.graft_levels.specs.declared.GraftLevel.{GraftLevel}
use Rattle.graft_levels.specs.declared.Chain.{Chain}
use Rattle.graft_levels.specs.Chains.{put_back, levels_in, levels_of, outer}
use Rattle.call_pieces.specs.Disks.{DiskSeen}
use Rattle.placed_laws.specs.Placed.{Placed, PlacedCall, PlacedLevel, bare}
use Rattle.placed_laws.specs.PlacedSteps.{placed_after, placed_finish}
use Rattle.running_kernel.specs.declared.running.InFlight.{InFlight}
use Rattle.running_kernel.specs.declared.running.Running.{Running}
use Rattle.running_kernel.specs.Orders.{order_of}
use Rattle.kernel_steps.specs.Steps.{finishes}
use Rattle.kernel_steps.specs.Moments.{kernel_moment}
use Rattle.kernel_steps.specs.Refines.{PieceDone, PieceLeft, Reaches, Refines, RunMatches}
use Rattle.running_kernel.specs.Views.{placed_of, flight_of, chain_of, no_chain, levels_at, call_in_place, run_of}
use Rattle.kernel_steps.proofs.CallLemmas.{with_call, calls_changed, chain_of_changed}
use Rattle.kernel_steps.proofs.MoveLemmas.{bare_in}

-- ---- the levels of others stay

-- the bytes of a segment stay
byte_stays : (q d i : ℕ) (s u : List ℕ) → SegmentsStay s u → (b : Bool) → nat_lt i 4096 ≡ b →
    segment_of (base_of q d) (by_place u) i ≡ segment_of (base_of q d) (by_place s) i
byte_stays q d i s u same true h = ap (λ v. cond (nat_lt i 4096) v 0) (same (base_of q d + i) (omega arith))
byte_stays q d i s u same false h =
    ap (λ b. cond b (by_place u (base_of q d + i)) 0) h ∙ sym (ap (λ b. cond b (by_place s (base_of q d + i)) 0) h)

segment_stays : (q d : ℕ) (s u : List ℕ) → SegmentsStay s u →
    segment_of (base_of q d) (by_place u) ≡ segment_of (base_of q d) (by_place s)
segment_stays q d s u same = fun_ext (λ i. byte_stays q d i s u same (nat_lt i 4096) refl)

-- so do levels, without what they found
levels_stay : (q : ℕ) (s u : List ℕ) (t : LockTable) (gs : List GraftLevel)
    (log : List (List Logged)) (w z : Things) → SegmentsStay s u →
    map bare (levels_in q u t gs log z) ≡ map bare (levels_in q s t gs log w)
levels_stay q s u t [] log w z same = refl
levels_stay q s u t (g ∷ gs) log w z same =
    ap (λ (memory : ℕ → ℕ). bare_in (t q (length gs)) memory g (innermost log) ∷ map bare (levels_in
    q u t gs (outer log) (put_back (innermost log) z))) (segment_stays q (length gs) s u same)
    ∙ ap (λ (ls : List PlacedLevel). bare_in (t q (length gs))
    (segment_of (base_of q (length gs)) (by_place s)) g (innermost log) ∷ ls)
    (levels_stay q s u t gs (outer log) (put_back (innermost log) w) (put_back (innermost log) z) same)

-- ---- the kernel in place

-- the kernel in place after a piece of the call of p
abbrev pub finished : ℕ → Option PlacedCall → Objects → Placed → Placed
finished p call u x = record x { objects = u; call = at p call x.call; levels = at p [] x.levels }

levels_after : {C B M : Type 0} {P : _} (x y : Running C B M P) (p : ℕ) (v : Option InFlight) →
    p < length x.calls.items → chain_of x p ≡ no_chain →
    y.calls.items ≡ with_call x.calls.items p v → y.locks ≡ x.locks →
    SegmentsStay x.store.ram y.store.ram → (q : ℕ) (b : Bool) → (q == p) ≡ b →
    levels_at y q ≡ at p [] (levels_at x) q
levels_after x y p v within none calls locks memory q b h =
    ap (λ fs. map bare (levels_of y.store y.locks (flight_of fs q).chain q)) calls
    ∙ ap (λ (chain : Chain). map bare (levels_of y.store y.locks chain q)) (chain_of_changed x.calls.items p v within q)
    ∙ ap (λ t. map bare (levels_of y.store t (chain_of x q) q)) locks
    ∙ levels_stay q x.store.ram y.store.ram (held x.locks) (chain_of x q).levels (chain_of x q).undo
    (objects_of x.store).things (objects_of y.store).things memory
    ∙ own b h
  where
    own : (b : Bool) → (q == p) ≡ b → levels_at x q ≡ at p [] (levels_at x) q
    own true e =
        ap (λ (chain : Chain). map bare (levels_of x.store x.locks chain q)) (ap (chain_of x) (eqb-true q p e) ∙ none)
        ∙ sym (ap (λ c. cond c [] (levels_at x q)) e)
    own false e = sym (ap (λ c. cond c [] (levels_at x q)) e)

pub placed_finished : {C B M : Type 0} {P : _} (x y : Running C B M P) (p : ℕ)
    (v : Option InFlight) → p < length x.calls.items → chain_of x p ≡ no_chain →
    y.calls.items ≡ with_call x.calls.items p v → y.locks ≡ x.locks →
    SegmentsStay x.store.ram y.store.ram → world_of_store y.store ≡ world_of_store x.store →
    y.images ≡ x.images → y.clock ≡ x.clock → y.order ≡ x.order →
    placed_of y ≡ finished p (option_map call_in_place v) (objects_of y.store) (placed_of x)
placed_finished x y p v within none calls locks memory world images clock order =
    let z = placed_of y in
    let o = placed_of x in
    ap (λ (v : World). record z { world = v }) world
    ∙ ap (λ (i : ImageTable). record z { world = o.world; images = i }) (ap table_of images)
    ∙ ap (λ (n : ℕ). record z { world = o.world; images = o.images; clock = n }) clock
    ∙ ap (λ (cs : ℕ → Option PlacedCall). record z { world = o.world; images = o.images; clock = o.clock; call = cs })
    (ap (λ fs q. option_map call_in_place (flight_of fs q).call) calls ∙ calls_changed x.calls.items p v within)
    ∙ ap (λ (ls : ℕ → List PlacedLevel). record z {
      world = o.world;
      images = o.images;
      clock = o.clock;
      call = at p (option_map call_in_place v) o.call;
      levels = ls;
    })
    (fun_ext (λ q. levels_after x y p v within none calls locks memory q (q == p) refl))
    ∙ ap (λ (es : List Waiter). record z {
      world = o.world;
      images = o.images;
      clock = o.clock;
      call = at p (option_map call_in_place v) o.call;
      levels = at p [] o.levels;
      order = es;
    }) (ap order_of order)

-- ---- what it comes to

-- what stands before a list that is dropped again
drop_front : {A : Type 0} (xs ys : List A) → drop (length xs) (xs ++ ys) ≡ ys
drop_front [] ys = refl
drop_front (x ∷ xs) ys = drop_front xs ys

-- the same objects and call, the same kernel in place
finished_as : (p : ℕ) (call other : Option PlacedCall) (u w : Objects) (x : Placed) → u ≡ w →
    call ≡ other → finished p other w x ≡ finished p call u x
finished_as p call other u w x same is = sym (ap (λ o. finished p call o x) same ∙ ap (λ o. finished p o w x) is)

-- what a piece leaves of an event under way
piece_came : (m : Meaning) (x : Placed) (p : ℕ) (c : PlacedCall) (q : Piece) (blocks : Blocks)
    (notes kept_new : List Note) (io rest : List Bool) (u : Objects) (call : Option PlacedCall)
    (known : Option (List (List ℕ))) →
    PieceLeft c q u call notes kept_new known (length io) → RunMatches (placed_finish p c q
    (run_of x blocks notes (io ++ rest))) (finished p call u x) kept_new known rest
piece_came m x p c q blocks notes kept_new io rest u call known l =
    record {
      placed = finished_as p call (placed_after c q.after) u q.objects x l.objects l.call_is;
      notes = l.kept_are;
      blocks = l.blocks;
      io = ap (λ n. drop n (io ++ rest)) (sym l.all_made) ∙ drop_front io rest;
    }

pub finish_did : (m : Meaning) (x y : Placed) (p : ℕ) (c : PlacedCall) (u : Objects) (call :
    Option PlacedCall) (answer : Option Answer) (kept kept_new : List Note) (d e : DiskSeen) →
    y ≡ finished p call u x →
    PieceDone m x.world p c call answer (kernel_moment x.objects kept d) (kernel_moment u kept_new
    e) → Refines (finishes m p c answer) (kernel_moment x kept d) (kernel_moment y kept_new e)
finish_did m x y p c u call answer kept kept_new d e is h =
    record {
      io = h.io;
      made = h.made;
      goes = λ blocks notes rest tells k.
          subst (λ z. RunMatches (finishes m p c answer (run_of x blocks notes (h.io ++ rest))) z
          kept_new e.known rest) (sym is)
          (piece_came m x p c
          (m.piece x.world x.images x.objects blocks p c.stage answer (h.io ++ rest)) blocks
          notes kept_new h.io rest u call e.known (h.goes x.images blocks notes rest tells k));
      faulted = h.faulted;
    }

pub finish_reaches : (m : Meaning) (x y : Placed) (p : ℕ) (c : PlacedCall) (u : Objects) (call :
    Option PlacedCall) (answer : Option Answer) (kept kept_new : List Note) (d e : DiskSeen) →
    y ≡ finished p call u x →
    PieceDone m x.world p c call answer (kernel_moment x.objects kept d)
    (kernel_moment u kept_new e) → Reaches (finishes m p c answer) x y
finish_reaches m x y p c u call answer kept kept_new d e is h =
    let l = h.some x.images in
    let q : Piece = m.piece x.world x.images x.objects l.blocks p c.stage answer l.io in
    record {
      blocks = l.blocks;
      whole = l.whole;
      io = l.io;
      goes = λ notes. finished_as p call (placed_after c q.after) u q.objects x l.objects l.call_is ∙ sym is;
    }
