-- A piece of the system calls that asks a point needs what tells whether an answer of that point is
-- valid.
use Rattle.std.specs.Prelude.{◌≡◌, ℕ, zero, suc, ◌+◌, ◌==◌, cond, nat_lt, Bool, true, false, List}
use Rattle.std.specs.Prelude.{[], ◌∷◌, length, Option, Some, None, Result, Ok, Err}
use Rattle.std.specs.List.{AllByRecursion}
use Rattle.std.specs.Result.{is_ok}
use Rattle.std.proofs.Common.{arith, refl, subst, sym, ap}
use Rattle.std.proofs.lemmas.Bool.{or_right}
use Rattle.std.proofs.lemmas.Bool.Decides.{nat_tests}
use Rattle.kernel_model.specs.declared.Need.{Need}
use Rattle.kernel_model.specs.declared.Object.{Object}
use Rattle.kernel_model.specs.declared.Object.TheVariants.{OpenFile, Queue, Cache}
use Rattle.kernel_model.specs.declared.Point.{Point}
use Rattle.kernel_model.specs.declared.Refusal.{Refusal}
use Rattle.kernel_model.specs.declared.Refusal.TheVariants.{BadFd, BadIndex}
use Rattle.kernel_model.specs.declared.SysCall.{SysCall}
use Rattle.kernel_model.specs.declared.SysCall.TheVariants.{Yield, Read, Write}
use Rattle.kernel_model.specs.World.{World, ImageTable}
use Rattle.kernel_model.specs.Objects.{Objects, same_object}
use Rattle.kernel_model.specs.Policies.{Ahead, Victim, Next, Serve, Stream, kind_of, next_process}
use Rattle.kernel_model.specs.Early.{plain_early, refused, begins_unless}
use Rattle.kernel_model.specs.Needs.{shared, exclusive, fetch_needs, fetch_ask, victim_ask}
use Rattle.kernel_model.specs.Needs.{candidate_for, file_block, ahead_block, yield_needs, yield_ask}
use Rattle.kernel_model.specs.Needs.{slice_ask, read_needs, read_ask, piece_needs, piece_ask}
use Rattle.kernel_model.specs.Alike.{is_needed}
use Rattle.kernel_model.specs.Pieces.{plain_upto}
use Rattle.kernel_model.specs.Laws.{NeedsAnswers, answer_objects}

-- these objects are needed
abbrev AreNeeded : List Need → ℕ → Type 0
AreNeeded ns pt = AllByRecursion (λ (o : Object). is_needed o ns ≡ true) (answer_objects (kind_of pt))

absurd_none : (a : Point) (A : Type 0) → None ≡ Some a → A
absurd_none a A h = absurd cc

-- a fetch
fetch_needed : (v : World) (s : Objects) (n : Need) (r : Result ℕ Refusal) (a : Point) →
    fetch_ask v s.things r ≡ Some a → AreNeeded (n ∷ fetch_needs v s r) a.point
unfolding same_object
fetch_needed v s n (Err why) a e = absurd_none a (AreNeeded (n ∷ []) a.point) e
fetch_needed v s n (Ok b) a e = by_candidate (candidate_for v (s.things.pol 1) s.things.cache b) e
  where
    by_candidate : (x : Option ℕ) → victim_ask s.things.cache b x ≡ Some a →
        AreNeeded (n ∷ fetch_needs v s (Ok b)) a.point
    by_candidate None e = absurd_none a (AreNeeded (n ∷ fetch_needs v s (Ok b)) a.point) e
    by_candidate (Some f) e =
        subst (AreNeeded (n ∷ fetch_needs v s (Ok b))) (victim_point f e) (
          or_right (same_object Cache n.object) (is_needed Cache (fetch_needs v s (Ok b))) refl,
          tt,
        )
      where
        victim_point : (f : ℕ) → victim_ask s.things.cache b (Some f) ≡ Some a → 4 ≡ a.point
        victim_point f e = cc

-- a candidate for the processor
slice_needed : (v : World) (s : Objects) (ns : List Need) (x : Option ℕ) (a : Point) →
    is_needed Queue ns ≡ true → slice_ask v s.things x ≡ Some a → AreNeeded ns a.point
slice_needed v s ns None a queue e = absurd_none a (AreNeeded ns a.point) e
slice_needed v s ns (Some c) a queue e = subst (AreNeeded ns) (next_point e) (queue, tt)
  where
    next_point : slice_ask v s.things (Some c) ≡ Some a → 5 ≡ a.point
    next_point e = cc

yield_needed : (n : ℕ) (v : World) (s : Objects) (a : Point) → yield_ask n v s.things ≡ Some a →
    AreNeeded (yield_needs n s) a.point
unfolding same_object
yield_needed zero v s a e = absurd_none a (AreNeeded (yield_needs zero s) a.point) e
yield_needed (suc n) v s a e =
    slice_needed v s (yield_needs (suc n) s) (next_process (s.things.pol 2) s.things.queue) a refl e

-- the number of an open file is below 4
file_low : (fd : ℕ) (c : SysCall) (rest : Option Refusal) →
    is_ok (begins_unless c (refused (nat_lt 3 fd) BadFd rest)) ≡ true → kind_of fd ≡ Ahead
file_low fd c rest h = by_test (nat_lt 3 fd) refl h
  where
    low : (fd : ℕ) → nat_lt 3 fd ≡ false → nat_lt fd 4 ≡ true
    low fd e = grind (arith, nat_tests)

    by_test : (b : Bool) → nat_lt 3 fd ≡ b → is_ok (begins_unless c (refused b BadFd rest)) ≡ true →
        kind_of fd ≡ Ahead
    by_test true e h = absurd cc
    by_test false e h =
        ap (λ b. cond b Ahead
        (cond (fd == 4) Victim (cond (fd == 5) Next (cond (nat_lt fd 14) Serve Stream))))
        (low fd e)

read_needed : (n : ℕ) (v : World) (s : Objects) (p fd i off len : ℕ) (a : Point) →
    kind_of fd ≡ Ahead → read_ask n v s.things p fd i off len ≡ Some a →
    AreNeeded (read_needs n v s p fd i off len) a.point
read_needed zero v s p fd i off len a low e =
    fetch_needed v s (exclusive (OpenFile p fd)) (file_block v (s.things.file p fd) i off len) a e
read_needed (suc zero) v s p fd i off len a low e =
    subst (AreNeeded (read_needs 1 v s p fd i off len)) (file_point e)
    (subst (λ kind. AllByRecursion (λ (o : Object). is_needed o (read_needs 1 v s p fd i off len) ≡ true)
    (answer_objects kind)) (sym low) tt)
  where
    file_point : read_ask 1 v s.things p fd i off len ≡ Some a → fd ≡ a.point
    file_point e = cc
read_needed (suc (suc n)) v s p fd i off len a low e =
    fetch_needed v s (exclusive (OpenFile p fd)) (ahead_block v (s.things.file p fd)) a e

piece_needed : (top : ℕ) (c : SysCall) (n : ℕ) (v : World) (images : ImageTable) (s : Objects)
    (p : ℕ) (a : Point) → is_ok (plain_early top v images p c) ≡ true →
    piece_ask c n v s.things p ≡ Some a →
    AreNeeded (piece_needs c n v s p) a.point
piece_needed top Yield n v images s p a granted e = yield_needed n v s a e
piece_needed top (Read fd i off len) n v images s p a granted e =
    read_needed n v s p fd i off len a
    (file_low fd (Read fd i off len) (refused (nat_lt 512 (off + len)) BadIndex None) granted) e
piece_needed top (Write fd i off bytes) n v images s p a granted e =
    fetch_needed v s (shared (OpenFile p fd))
    (file_block v (s.things.file p fd) i off (length bytes)) a e
piece_needed top c n v images s p a granted e =
    absurd_none a (AreNeeded (piece_needs c n v s p) a.point) e

pub calls_need_answers : (top : ℕ) → NeedsAnswers (plain_upto top)
calls_need_answers top v images s p t a standing e =
    piece_needed top t.call t.piece v images s p a standing.granted e
