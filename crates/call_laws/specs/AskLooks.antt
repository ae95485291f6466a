-- Which point a piece asks is told by the objects that it needs.
use Rattle.std.specs.Prelude.{◌≡◌, ℕ, zero, suc, List, [], ◌∷◌, length, Option, Some, None, is_some, Result, Ok, Err}
use Rattle.std.specs.List.{AllByRecursion}
use Rattle.std.proofs.Common.{refl, ap, sym, ◌∙◌}
use Rattle.std.proofs.lemmas.Bool.{or_left, or_right}
use Rattle.kernel_model.specs.declared.Need.{Need}
use Rattle.kernel_model.specs.declared.Point.{Point}
use Rattle.kernel_model.specs.declared.OpenRow.{OpenRow}
use Rattle.kernel_model.specs.declared.QueueRow.{QueueRow}
use Rattle.kernel_model.specs.declared.Object.TheVariants.{Pol}
use Rattle.kernel_model.specs.declared.Refusal.{Refusal}
use Rattle.kernel_model.specs.declared.SysCall.{SysCall}
use Rattle.kernel_model.specs.declared.SysCall.TheVariants.{Yield, Read, Write}
use Rattle.kernel_model.specs.World.{World}
use Rattle.kernel_model.specs.Objects.{Objects, Things, CacheValue, PolValue, SameAt, same_object}
use Rattle.kernel_model.specs.SameObject.{same_object_self}
use Rattle.kernel_model.specs.Policies.{next_process, nice_of, ahead_default, open_blocks}
use Rattle.kernel_model.specs.Needs.{victim_needs, victim_ask, fetch_needs, fetch_ask}
use Rattle.kernel_model.specs.Needs.{candidate_for, file_block, ahead_block, slice_ask, yield_needs}
use Rattle.kernel_model.specs.Needs.{yield_ask, read_needs, read_ask, piece_needs, piece_ask}
use Rattle.kernel_model.specs.Alike.{AgreeOn, is_needed}
use Rattle.call_laws.specs.Candidates.{candidate_stands}

-- two states have the same value of a needed object
abbrev pub SameNeed : Objects → Objects → Need → Type 0
SameNeed s u n = SameAt n.object s u

-- states that agree on objects have the same value of each
pub each_agrees : (s u : Objects) (ns : List Need) → AgreeOn ns s u → AllByRecursion (SameNeed s u) ns
each_agrees s u [] a = tt
each_agrees s u (n ∷ ns) a = (
  a n.object (or_left (same_object n.object n.object) (is_needed n.object ns)
      (same_object_self n.object)),
  each_agrees s u ns (λ o h. a o (or_right (same_object o n.object) (is_needed o ns) h)),
)

-- the point of a victim
victim_same : (s u : Objects) (c d : CacheValue) (b : ℕ) (x y : Option ℕ) → c ≡ d →
    is_some x ≡ is_some y → (SameAt (Pol 1) s u → x ≡ y) →
    AllByRecursion (SameNeed s u) (victim_needs s.accounts c x) → victim_ask c b x ≡ victim_ask d b y
victim_same s u c d b None None e h k each = refl
victim_same s u c d b None (Some g) e h k each = cc
victim_same s u c d b (Some f) None e h k each = cc
victim_same s u c d b (Some f) (Some g) e h k each = ap (λ w. victim_ask w b (Some f)) e
    ∙ ap (λ z. victim_ask d b z) (k each.0)

-- the point of a fetch of one block
fetch_same : (v : World) (s u : Objects) (r t : Result ℕ Refusal) → r ≡ t →
    AllByRecursion (SameNeed s u) (fetch_needs v s r) →
    fetch_ask v s.things r ≡ fetch_ask v u.things t
fetch_same v s u (Err why) (Err other) e each = refl
fetch_same v s u (Err why) (Ok b) e each = cc
fetch_same v s u (Ok a) (Err why) e each = cc
fetch_same v s u (Ok a) (Ok b) e each =
    let same : a ≡ b = cc in
    let cache : s.things.cache ≡ u.things.cache = each.0 in
    victim_same s u s.things.cache u.things.cache a
    (candidate_for v (s.things.pol 1) s.things.cache a)
    (candidate_for v (u.things.pol 1) u.things.cache a) cache
    (candidate_stands v (s.things.pol 1) (u.things.pol 1) s.things.cache a
    ∙ ap (λ (c : CacheValue). is_some (candidate_for v (u.things.pol 1) c a)) cache)
    (λ pol. ap (λ (l : PolValue). candidate_for v l s.things.cache a) pol
    ∙ ap (λ (c : CacheValue). candidate_for v (u.things.pol 1) c a) cache)
    each.1
    ∙ ap (λ n. fetch_ask v u.things (Ok n)) same

-- the point of a candidate for the processor, by the queue alone
abbrev slice_point : List QueueRow → Option ℕ → Option Point
slice_point queue None = None
slice_point queue (Some c) =
    Some (record { installer = c; point = 5; args = c ∷ nice_of queue c ∷ length queue ∷ 0 ∷ [] })

-- that is the point that is asked
slice_by_queue : (v : World) (w : Things) (x : Option ℕ) → slice_ask v w x ≡ slice_point w.queue x
slice_by_queue v w None = refl
slice_by_queue v w (Some c) = refl

-- the point of a yield
yield_same : (n : ℕ) (v : World) (s u : Objects) → AllByRecursion (SameNeed s u) (yield_needs n s) →
    yield_ask n v s.things ≡ yield_ask n v u.things
yield_same zero v s u each = refl
yield_same (suc n) v s u each =
    let queue : s.things.queue ≡ u.things.queue = each.0.0 in
    let pol : s.things.pol 2 ≡ u.things.pol 2 = each.1.0 in
    slice_by_queue v s.things (next_process (s.things.pol 2) s.things.queue)
    ∙ ap (λ (l : PolValue). slice_point s.things.queue (next_process l s.things.queue)) pol
    ∙ ap (λ (q : List QueueRow). slice_point q (next_process (u.things.pol 2) q)) queue
    ∙ sym (slice_by_queue v u.things (next_process (u.things.pol 2) u.things.queue))

-- the point of reading ahead, by the policy and the open file alone
abbrev ahead_point_by : World → (p fd : ℕ) → PolValue → Option OpenRow → Option Point
ahead_point_by v p fd pol o =
    let d = ahead_default v pol o in
    Some (record { installer = p; point = fd; args = d.0 ∷ d.1 ∷ open_blocks v o ∷ fd ∷ [] })

-- the point of a read
read_same : (n : ℕ) (v : World) (s u : Objects) (p fd i off len : ℕ) →
    AllByRecursion (SameNeed s u) (read_needs n v s p fd i off len) →
    read_ask n v s.things p fd i off len ≡ read_ask n v u.things p fd i off len
read_same zero v s u p fd i off len each =
    fetch_same v s u (file_block v (s.things.file p fd) i off len)
    (file_block v (u.things.file p fd) i off len)
    (ap (λ o. file_block v o i off len) each.0) each.1
read_same (suc zero) v s u p fd i off len each =
    ap (λ (o : Option OpenRow). ahead_point_by v p fd (s.things.pol 0) o) each.0
    ∙ ap (λ (l : PolValue). ahead_point_by v p fd l (u.things.file p fd)) each.1.0
read_same (suc (suc n)) v s u p fd i off len each =
    fetch_same v s u (ahead_block v (s.things.file p fd)) (ahead_block v (u.things.file p fd))
    (ap (ahead_block v) each.0) each.1

-- the point of each piece
pub piece_asks_same : (c : SysCall) (n : ℕ) (v : World) (s u : Objects) (p : ℕ) →
    AllByRecursion (SameNeed s u) (piece_needs c n v s p) →
    piece_ask c n v s.things p ≡ piece_ask c n v u.things p
piece_asks_same Yield n v s u p each = yield_same n v s u each
piece_asks_same (Read fd i off len) n v s u p each = read_same n v s u p fd i off len each
piece_asks_same (Write fd i off bytes) n v s u p each =
    fetch_same v s u (file_block v (s.things.file p fd) i off (length bytes))
    (file_block v (u.things.file p fd) i off (length bytes))
    (ap (λ o. file_block v o i off (length bytes)) each.0) each.1
piece_asks_same c n v s u p each = refl
