-- What a piece needs is what it looks at: agreement on the needed objects, or on those before the
-- point, is enough.
use Rattle.std.specs.Prelude.{◌≡◌, ℕ, zero, suc, ◌+◌, ◌-◌, ◌<◌, ◌≤◌, nat_lt, cond, length, take}
use Rattle.std.specs.Prelude.{Bool, true, false, map, List, [], ◌∷◌, Option, None, Some}
use Rattle.std.specs.Prelude.{is_some, Result, Ok, Err}
use Rattle.std.specs.List.{range_with_len}
use Rattle.std.proofs.Common.{arith, refl, subst, ap, ◌∙◌}
use Rattle.std.proofs.lemmas.Bool.{or_left, or_right, or_parts}
use Rattle.kernel_model.specs.declared.Object.{Object}
use Rattle.kernel_model.specs.declared.Object.TheVariants.{Graft, Acct, OpenFile, Queue, Cache, Pol}
use Rattle.kernel_model.specs.declared.SysCall.{SysCall}
use Rattle.kernel_model.specs.declared.SysCall.TheVariants.{Spawn, Exit, Yield, OpenName, CloseFd}
use Rattle.kernel_model.specs.declared.SysCall.TheVariants.{Read, Write, Sync, TakeLock, FreeLock}
use Rattle.kernel_model.specs.declared.SysCall.TheVariants.{Poke, Peek, Tune, Choose, Give, Install}
use Rattle.kernel_model.specs.declared.SysCall.TheVariants.{Remove, Fund, Bill}
use Rattle.kernel_model.specs.declared.Kind.{Kind}
use Rattle.kernel_model.specs.declared.Need.{Need}
use Rattle.kernel_model.specs.declared.Point.{Point}
use Rattle.kernel_model.specs.declared.Refusal.{Refusal}
use Rattle.kernel_model.specs.declared.Refusal.TheVariants.{BadPoint}
use Rattle.kernel_model.specs.declared.OpenRow.{OpenRow}
use Rattle.kernel_model.specs.World.{World, Blocks, file_named}
use Rattle.kernel_model.specs.Objects.{Objects, Things, Accounts, GraftValue, CacheValue, SameAt, same_object}
use Rattle.kernel_model.specs.SameObject.{same_object_self}
use Rattle.kernel_model.specs.Policies.{lives, next_process}
use Rattle.kernel_model.specs.Needs.{exclusive, shared, piece_needs, piece_ask, point_needs}
use Rattle.kernel_model.specs.Needs.{payer_needs, payment_needs, fetch_needs, fetch_ask}
use Rattle.kernel_model.specs.Needs.{victim_needs, victim_ask, owner_asked, candidate_for}
use Rattle.kernel_model.specs.Needs.{file_block, ahead_block, free_process, exit_needs, read_ask}
use Rattle.kernel_model.specs.Needs.{read_needs, spawn_needs, yield_needs, yield_ask, slice_needs}
use Rattle.kernel_model.specs.Needs.{slice_ask}
use Rattle.kernel_model.specs.FilePieces.{free_descriptor}
use Rattle.kernel_model.specs.Pieces.{piece_of, new_graft}
use Rattle.kernel_model.specs.Alike.{AgreeOn, is_needed_exclusively}
use Rattle.kernel_model.specs.Laws.{before_point}
use Rattle.call_laws.specs.Exits.{in_family, needed_from_exclusively, needs_graft}
use Rattle.call_laws.specs.FileChanges.{read_leaves, ahead_leaves, write_leaves}
use Rattle.call_laws.specs.Changes.{slice_leaves}
use Rattle.call_laws.specs.SamePieces.{SamePiece, same_refusal, spawn_same, yield_same, open_same}
use Rattle.call_laws.specs.SamePieces.{close_same, take_same, free_same, poke_same, peek_same}
use Rattle.call_laws.specs.SamePieces.{tune_same, choose_same, give_same, install_same}
use Rattle.call_laws.specs.SamePieces.{remove_same, fund_same, bill_same}
use Rattle.call_laws.specs.SameFetches.{FetchAgrees, ReadAgrees, read_piece_same}
use Rattle.call_laws.specs.SameFetches.{write_piece_same, sync_same, exit_same}
use Rattle.call_laws.specs.BeforePoint.{front_of}

-- ---- agreement on a list

-- two states have the same values of these objects
record Agree (ns : List Need) (s u : Objects) : Type 0 where
  on : AgreeOn ns s u

-- states agree on the first object of a list
first_agrees : {n : Need} {ns : List Need} {s u : Objects} → Agree (n ∷ ns) s u →
    SameAt n.object s u
first_agrees {n} h = h.on n.object (or_left _ _ (same_object_self n.object))

-- and on the rest
rest_agrees : {n : Need} {ns : List Need} {s u : Objects} → Agree (n ∷ ns) s u → Agree ns s u
rest_agrees h = record { on = λ o e. h.on o (or_right _ _ e) }

-- they agree on the account that may pay, where a graft stands
payer_agrees : (p : ℕ) (g : Option GraftValue) (s u : Objects) → Agree (payer_needs p g) s u →
    is_some g ≡ true → s.accounts.acct p ≡ u.accounts.acct p
payer_agrees p None s u h e = cc
payer_agrees p (Some g) s u h e = first_agrees h

-- ---- the list without its point

-- the objects of a fetch before its point, where it asks one
victim_before : (s : Objects) (a : Point) (front : Need) (c : CacheValue) (b : ℕ)
    (candidate : Option ℕ) → victim_ask c b candidate ≡ Some a →
    before_point s a (front ∷ exclusive Cache ∷ victim_needs s.accounts c candidate) ≡ front
    ∷ exclusive Cache ∷ shared (Pol 1) ∷ []
victim_before s a front c b None e = cc
victim_before s a front c b (Some f) e =
    let who : owner_asked c f ≡ a.installer = cc in
    let which : 4 ≡ a.point = cc in
    subst (λ (q : ℕ).
    take (length (front ∷ exclusive Cache ∷ shared (Pol 1)
    ∷ point_needs s.accounts (owner_asked c f) 4) - length
    (point_needs s.accounts q a.point))
    (front ∷ exclusive Cache ∷ shared (Pol 1) ∷ point_needs s.accounts (owner_asked c f) 4) ≡ front
    ∷ exclusive Cache ∷ shared (Pol 1) ∷ []) who
    (subst (λ (pt : ℕ).
    take (length (front ∷ exclusive Cache ∷ shared (Pol 1)
    ∷ point_needs s.accounts (owner_asked c f) 4) - length
    (point_needs s.accounts (owner_asked c f) pt))
    (front ∷ exclusive Cache ∷ shared (Pol 1) ∷ point_needs s.accounts (owner_asked c f) 4) ≡ front
    ∷ exclusive Cache ∷ shared (Pol 1) ∷ []) which
    (front_of (front ∷ exclusive Cache ∷ shared (Pol 1) ∷ [])
    (point_needs s.accounts (owner_asked c f) 4)))

-- the objects of a fetch before its point
fetch_before : (v : World) (s : Objects) (a : Point) (front : Need) (r : Result ℕ Refusal) →
    fetch_ask v s.things r ≡ Some a →
    before_point s a (front ∷ fetch_needs v s r) ≡ front ∷ exclusive Cache ∷ shared (Pol 1) ∷ []
fetch_before v s a front (Err refusal) e = cc
fetch_before v s a front (Ok b) e =
    victim_before s a front s.things.cache b (candidate_for v (s.things.pol 1) s.things.cache b) e

-- the objects of a slice before its point
slice_before : (v : World) (s : Objects) (a : Point) (c : Option ℕ) →
    slice_ask v s.things c ≡ Some a →
    before_point s a (exclusive Queue ∷ shared (Pol 2) ∷ slice_needs s.accounts c) ≡ exclusive Queue
    ∷ shared (Pol 2) ∷ []
slice_before v s a None e = cc
slice_before v s a (Some c) e =
    let who : c ≡ a.installer = cc in
    let which : 5 ≡ a.point = cc in
    subst (λ (q : ℕ).
    take (length (exclusive Queue ∷ shared (Pol 2) ∷ point_needs s.accounts c 5) - length
    (point_needs s.accounts q a.point))
    (exclusive Queue ∷ shared (Pol 2) ∷ point_needs s.accounts c 5) ≡ exclusive Queue
    ∷ shared (Pol 2) ∷ []) who
    (subst (λ (pt : ℕ).
    take (length (exclusive Queue ∷ shared (Pol 2) ∷ point_needs s.accounts c 5) - length
    (point_needs s.accounts c pt))
    (exclusive Queue ∷ shared (Pol 2) ∷ point_needs s.accounts c 5) ≡ exclusive Queue
    ∷ shared (Pol 2) ∷ []) which
    (front_of (exclusive Queue ∷ shared (Pol 2) ∷ []) (point_needs s.accounts c 5)))

-- the objects of reading ahead before its point
ahead_before : (v : World) (s : Objects) (a : Point) (p fd i off len : ℕ) →
    read_ask 1 v s.things p fd i off len ≡ Some a →
    before_point s a (read_needs 1 v s p fd i off len) ≡ exclusive (OpenFile p fd) ∷ shared (Pol 0)
    ∷ []
ahead_before v s a p fd i off len e =
    let who : p ≡ a.installer = cc in
    let which : fd ≡ a.point = cc in
    subst (λ (q : ℕ).
    take (length (exclusive (OpenFile p fd) ∷ shared (Pol 0)
    ∷ point_needs s.accounts p fd) - length (point_needs s.accounts q a.point))
    (exclusive (OpenFile p fd) ∷ shared (Pol 0) ∷ point_needs s.accounts p fd)
    ≡ exclusive (OpenFile p fd) ∷ shared (Pol 0) ∷ []) who
    (subst (λ (pt : ℕ).
    take (length (exclusive (OpenFile p fd) ∷ shared (Pol 0)
    ∷ point_needs s.accounts p fd) - length (point_needs s.accounts p pt))
    (exclusive (OpenFile p fd) ∷ shared (Pol 0) ∷ point_needs s.accounts p fd)
    ≡ exclusive (OpenFile p fd) ∷ shared (Pol 0) ∷ []) which
    (front_of (exclusive (OpenFile p fd) ∷ shared (Pol 0) ∷ []) (point_needs s.accounts p fd)))

-- ---- what the needed values are

-- the eviction policy, where a frame must be chosen
victim_agrees : (a : Accounts) (c : CacheValue) (candidate : Option ℕ) (s u : Objects) →
    Agree (victim_needs a c candidate) s u →
    is_some candidate ≡ true → s.things.pol 1 ≡ u.things.pol 1
victim_agrees a c None s u h e = cc
victim_agrees a c (Some f) s u h e = first_agrees h

-- agreement on the objects of a fetch
fetch_agrees : (v : World) (s u : Objects) (r : Result ℕ Refusal) → Agree (fetch_needs v s r) s u →
    FetchAgrees v s u r
fetch_agrees v s u (Err refusal) h = record { cache = λ b e. cc; policy = λ b e c. cc }
fetch_agrees v s u (Ok b) h = record {
  cache = λ c e. first_agrees h;
  policy = λ c e there.
      let same : c ≡ b = cc in
      victim_agrees s.accounts s.things.cache
      (candidate_for v (s.things.pol 1) s.things.cache b) s u (rest_agrees h)
      (subst (λ x. is_some (candidate_for v (s.things.pol 1) s.things.cache x) ≡ true) same there);
}

-- agreement on the objects before the point of a fetch
fetch_agrees_before : (v : World) (s u : Objects) (r : Result ℕ Refusal) →
    Agree (exclusive Cache ∷ shared (Pol 1) ∷ []) s u → FetchAgrees v s u r
fetch_agrees_before v s u r h =
    record { cache = λ c e. first_agrees h; policy = λ c e there. first_agrees (rest_agrees h) }

-- agreement on what a read needs
read_agrees : (n : ℕ) (v : World) (s u : Objects) (p fd i off len : ℕ) →
    Agree (read_needs n v s p fd i off len) s u →
    (s.things.file p fd ≡ u.things.file p fd) × ReadAgrees n v s u i off len (s.things.file p fd)
read_agrees zero v s u p fd i off len h = (
  first_agrees h,
  fetch_agrees v s u (file_block v (s.things.file p fd) i off len) (rest_agrees h),
)
read_agrees (suc zero) v s u p fd i off len h = (first_agrees h, first_agrees (rest_agrees h))
read_agrees (suc (suc n)) v s u p fd i off len h =
    (first_agrees h, fetch_agrees v s u (ahead_block v (s.things.file p fd)) (rest_agrees h))

-- agreement on the objects of a read before the point that it asks
read_agrees_before : (n : ℕ) (v : World) (s u : Objects) (p fd i off len : ℕ) (a : Point) →
    read_ask n v s.things p fd i off len ≡ Some a →
    Agree (before_point s a (read_needs n v s p fd i off len)) s u →
    (s.things.file p fd ≡ u.things.file p fd) × ReadAgrees n v s u i off len (s.things.file p fd)
read_agrees_before zero v s u p fd i off len a e h =
    let k = subst (λ ns. Agree ns s u)
    (fetch_before v s a (exclusive (OpenFile p fd))
    (file_block v (s.things.file p fd) i off len) e) h in (
      first_agrees k,
      fetch_agrees_before v s u (file_block v (s.things.file p fd) i off len) (rest_agrees k),
    )
read_agrees_before (suc zero) v s u p fd i off len a e h =
    let k = subst (λ ns. Agree ns s u) (ahead_before v s a p fd i off len e) h in
    (first_agrees k, first_agrees (rest_agrees k))
read_agrees_before (suc (suc n)) v s u p fd i off len a e h =
    let k = subst (λ ns. Agree ns s u)
    (fetch_before v s a (exclusive (OpenFile p fd)) (ahead_block v (s.things.file p fd)) e) h in
    (first_agrees k, fetch_agrees_before v s u (ahead_block v (s.things.file p fd)) (rest_agrees k))

-- the second account of a gift
receiver_agrees : (p q : ℕ) (short : Bool) (s u : Objects) →
    Agree (exclusive (Acct p) ∷ cond short [] (exclusive (Acct q) ∷ [])) s u →
    short ≡ false → s.accounts.acct q ≡ u.accounts.acct q
receiver_agrees p q true s u h e = cc
receiver_agrees p q false s u h e = first_agrees (rest_agrees h)

-- the accounts of a gift, where the receiver lives
gift_agrees : (l : Bool) (s u : Objects) (p q : ℕ) (k : Kind) (n : ℕ) →
    Agree (cond l (payment_needs s.accounts p q k n) []) s u →
    (l ≡ true → s.accounts.acct p ≡ u.accounts.acct p)
    × (l ≡ true → nat_lt ((s.accounts.acct p).balance k) n ≡ false →
    s.accounts.acct q ≡ u.accounts.acct q)
gift_agrees true s u p q k n h =
    (λ e. first_agrees h, λ e. receiver_agrees p q (nat_lt ((s.accounts.acct p).balance k) n) s u h)
gift_agrees false s u p q k n h = (λ e. cc, λ e short. cc)

-- the queue of a spawn
spawn_agrees : (c : Option ℕ) (s u : Objects) → Agree (spawn_needs c) s u →
    s.things.queue ≡ u.things.queue
spawn_agrees None s u h = (first_agrees h).0
spawn_agrees (Some c) s u h = (first_agrees h).0

-- the least free descriptor
descriptor_agrees : (w x : Things) (p n k : ℕ) →
    ((i : ℕ) → k ≤ i → i < k + n → w.file p i ≡ x.file p i) →
    free_descriptor w p n k ≡ free_descriptor x p n k
descriptor_agrees w x p zero k h = refl
descriptor_agrees w x p (suc n) k h =
    ap (λ y. elim y as (λ (z : Option OpenRow). Option ℕ) [
      | None ↦ Some k
      | Some o ↦ free_descriptor w p n (suc k)
    ]) (h k (omega arith) (omega arith))
    ∙ ap (λ y. elim (x.file p k) as (λ (z : Option OpenRow). Option ℕ) [
      | None ↦ Some k
      | Some o ↦ y
    ])
    (descriptor_agrees w x p n (suc k) (λ i low high. h i (omega arith) (omega arith)))

-- the queue and the policy of a yield
yield_agrees : (n : ℕ) (s u : Objects) → Agree (yield_needs n s) s u →
    (s.things.queue ≡ u.things.queue) × (1 ≤ n → s.things.pol 2 ≡ u.things.pol 2)
yield_agrees zero s u h = ((first_agrees h).0, λ e. absurd (omega arith))
yield_agrees (suc n) s u h = ((first_agrees h).0, λ e. first_agrees (rest_agrees h))

-- the queue and the policy of a yield, before its point
yield_agrees_before : (n : ℕ) (v : World) (s u : Objects) (a : Point) →
    yield_ask n v s.things ≡ Some a → Agree (before_point s a (yield_needs n s)) s u →
    (s.things.queue ≡ u.things.queue) × (1 ≤ n → s.things.pol 2 ≡ u.things.pol 2)
yield_agrees_before zero v s u a e h = cc
yield_agrees_before (suc n) v s u a e h =
    let k = subst (λ ns. Agree ns s u)
    (slice_before v s a (next_process (s.things.pol 2) s.things.queue) e) h in
    ((first_agrees k).0, λ i. first_agrees (rest_agrees k))

-- ---- each call

-- a piece does the same on states that agree on what it needs
looks_by : (c : SysCall) (n : ℕ) (v : World) (s u : Objects) (blocks : Blocks) (p : ℕ)
    (answer : Option (List ℕ)) (io : List Bool) →
    Agree (piece_needs c n v s p) s u →
    SamePiece s u (piece_of c n v s blocks p answer io) (piece_of c n v u blocks p answer io)
looks_by Spawn n v s u blocks p answer io h =
    let e = spawn_agrees (free_process s.things.queue 16 0) s u h in
    spawn_same s u (free_process s.things.queue 16 0) (free_process u.things.queue 16 0) blocks
    (ap (λ q. free_process q 16 0) e) e
looks_by Exit n v s u blocks p answer io h =
    exit_same s u p blocks
    (λ i low. (h.on (Graft p i)
    (needed_from_exclusively (Graft p i) (exit_needs p) (needs_graft p i low))).0)
    (first_agrees (rest_agrees (rest_agrees h)))
    (first_agrees (rest_agrees (rest_agrees (rest_agrees h))))
looks_by Yield n v s u blocks p answer io h = let a = yield_agrees n s u h in
    yield_same n s u p answer blocks a.0 a.1
looks_by (OpenName name) n v s u blocks p answer io h =
    open_same s u p (file_named v name) (free_descriptor s.things p 4 0)
    (free_descriptor u.things p 4 0) blocks
    (descriptor_agrees s.things u.things p 4 0 (λ i low high. h.on (OpenFile p i)
    (needed_from_exclusively (OpenFile p i)
    (map (λ fd. exclusive (OpenFile p fd)) (range_with_len 0 4))
    (in_family (λ fd. OpenFile p fd) 4 0 i low high))))
looks_by (CloseFd fd) n v s u blocks p answer io h = close_same s u p fd _ _ blocks (first_agrees h)
looks_by (Read fd i off len) n v s u blocks p answer io h =
    let a = read_agrees n v s u p fd i off len h in
    read_piece_same n v s u blocks p fd i off len (s.things.file p fd)
    (u.things.file p fd) answer io a.0 a.1
looks_by (Write fd i off bytes) n v s u blocks p answer io h =
    write_piece_same (file_block v (s.things.file p fd) i off (length bytes))
    (file_block v (u.things.file p fd) i off (length bytes)) v s u blocks p off bytes answer io
    (ap (λ x. file_block v x i off (length bytes)) (first_agrees h))
    (fetch_agrees v s u (file_block v (s.things.file p fd) i off (length bytes))
    (rest_agrees h))
looks_by Sync n v s u blocks p answer io h = sync_same v.frames 0 0 s u blocks io (first_agrees h)
looks_by (TakeLock l) n v s u blocks p answer io h = take_same s u p l _ _ blocks (first_agrees h)
looks_by (FreeLock l) n v s u blocks p answer io h = free_same s u p l _ _ blocks (first_agrees h)
looks_by (Poke k x) n v s u blocks p answer io h = poke_same s u p k x blocks
looks_by (Peek k) n v s u blocks p answer io h = peek_same s u _ _ blocks (first_agrees h)
looks_by (Tune kind k x) n v s u blocks p answer io h =
    tune_same s u kind k x blocks (first_agrees h)
looks_by (Choose kind j) n v s u blocks p answer io h =
    choose_same s u kind j blocks (first_agrees h)
looks_by (Give q kind x) n v s u blocks p answer io h =
    let a = gift_agrees (lives s.things.queue q) s u p q kind x (rest_agrees h) in
    give_same s u p q kind x blocks _ _ (ap (λ rows. lives rows q) (first_agrees h).0) a.0 a.1
looks_by (Install pt i limit) n v s u blocks p answer io h =
    install_same s u p pt (new_graft i limit) _ _ blocks ((first_agrees h).0)
looks_by (Remove pt) n v s u blocks p answer io h =
    remove_same s u p pt blocks ((first_agrees h).0)
    (payer_agrees p (s.accounts.graft p pt) s u (rest_agrees h))
looks_by (Fund pt kind x) n v s u blocks p answer io h =
    fund_same s u p pt kind x blocks _ _ ((first_agrees h).0)
    (payer_agrees p (s.accounts.graft p pt) s u (rest_agrees h))
looks_by (Bill pt) n v s u blocks p answer io h = bill_same s u p pt _ _ blocks ((first_agrees h).0)
-- the calls of other tables are refused
looks_by c n v s u blocks p answer io h = same_refusal s u blocks BadPoint BadPoint refl

-- a piece does the same on states that agree on what it needs
pub piece_looks : (c : SysCall) (n : ℕ) (v : World) (s u : Objects) (blocks : Blocks) (p : ℕ)
    (answer : Option (List ℕ)) (io : List Bool) →
    AgreeOn (piece_needs c n v s p) s u →
    SamePiece s u (piece_of c n v s blocks p answer io) (piece_of c n v u blocks p answer io)
piece_looks c n v s u blocks p answer io h =
    looks_by c n v s u blocks p answer io (record { on = h })

-- a piece that asks does the same on states that agree on what it needs before its point
asking_looks_by : (c : SysCall) (n : ℕ) (v : World) (s u : Objects) (blocks : Blocks) (p : ℕ)
    (answer : Option (List ℕ)) (io : List Bool) (a : Point) →
    piece_ask c n v s.things p ≡ Some a → Agree (before_point s a (piece_needs c n v s p)) s u →
    SamePiece s u (piece_of c n v s blocks p answer io) (piece_of c n v u blocks p answer io)
asking_looks_by Yield n v s u blocks p answer io a e h = let k =
    yield_agrees_before n v s u a e h in yield_same n s u p answer blocks k.0 k.1
asking_looks_by (Read fd i off len) n v s u blocks p answer io a e h =
    let k = read_agrees_before n v s u p fd i off len a e h in
    read_piece_same n v s u blocks p fd i off len (s.things.file p fd)
    (u.things.file p fd) answer io k.0 k.1
asking_looks_by (Write fd i off bytes) n v s u blocks p answer io a e h =
    let k = subst (λ ns. Agree ns s u)
    (fetch_before v s a (shared (OpenFile p fd))
    (file_block v (s.things.file p fd) i off (length bytes)) e) h in
    write_piece_same (file_block v (s.things.file p fd) i off (length bytes))
    (file_block v (u.things.file p fd) i off (length bytes)) v s u blocks p off bytes answer io
    (ap (λ x. file_block v x i off (length bytes)) (first_agrees k))
    (fetch_agrees_before v s u (file_block v (s.things.file p fd) i off (length bytes))
    (rest_agrees k))
asking_looks_by c n v s u blocks p answer io a e h = cc

-- a piece that asks does the same on states that agree on what it needs before its point
pub asking_piece_looks : (c : SysCall) (n : ℕ) (v : World) (s u : Objects) (blocks : Blocks) (p : ℕ)
    (answer : Option (List ℕ)) (io : List Bool) (a : Point) →
    piece_ask c n v s.things p ≡ Some a → AgreeOn (before_point s a (piece_needs c n v s p)) s u →
    SamePiece s u (piece_of c n v s blocks p answer io) (piece_of c n v u blocks p answer io)
asking_piece_looks c n v s u blocks p answer io a e h =
    asking_looks_by c n v s u blocks p answer io a e (record { on = h })

-- ---- what a piece that asks changes

-- an object that two needs don't name exclusively
free_of_two : (o : Object) (a b : Object) (rest : List Need) →
    is_needed_exclusively o (exclusive a ∷ exclusive b ∷ rest) ≡ false →
    (same_object o a ≡ false) × (same_object o b ≡ false)
free_of_two o a b rest h = let k = or_parts (same_object o a) _ h in
    (k.0, (or_parts (same_object o b) _ k.1).0)

-- a piece that asks changes none but the objects before its point
pub asking_piece_changes : (c : SysCall) (n : ℕ) (v : World) (s : Objects) (blocks : Blocks) (p : ℕ)
    (answer : Option (List ℕ)) (io : List Bool) (a : Point) (o : Object) →
    piece_ask c n v s.things p ≡ Some a →
    is_needed_exclusively o (before_point s a (piece_needs c n v s p)) ≡ false →
    SameAt o (piece_of c n v s blocks p answer io).objects s
asking_piece_changes Yield zero v s blocks p answer io a o e h = cc
asking_piece_changes Yield (suc n) v s blocks p answer io a o e h =
    slice_leaves n s p answer blocks o (or_parts (same_object o Queue) _
    (subst (λ ns. is_needed_exclusively o ns ≡ false)
    (slice_before v s a (next_process (s.things.pol 2) s.things.queue) e) h)).0
asking_piece_changes (Read fd i off len) zero v s blocks p answer io a o e h =
    let k = free_of_two o (OpenFile p fd) Cache (shared (Pol 1) ∷ [])
    (subst (λ ns. is_needed_exclusively o ns ≡ false)
    (fetch_before v s a (exclusive (OpenFile p fd))
    (file_block v (s.things.file p fd) i off len) e) h) in
    read_leaves zero v s blocks p fd i off len (s.things.file p fd) answer io o k.0 k.1
asking_piece_changes (Read fd i off len) (suc zero) v s blocks p answer io a o e h =
    ahead_leaves v s blocks p fd i off len (s.things.file p fd) answer io o
    (or_parts (same_object o (OpenFile p fd)) _
    (subst (λ ns. is_needed_exclusively o ns ≡ false)
    (ahead_before v s a p fd i off len e) h)).0
asking_piece_changes (Read fd i off len) (suc (suc n)) v s blocks p answer io a o e h =
    let k = free_of_two o (OpenFile p fd) Cache (shared (Pol 1) ∷ [])
    (subst (λ ns. is_needed_exclusively o ns ≡ false)
    (fetch_before v s a (exclusive (OpenFile p fd)) (ahead_block v (s.things.file p fd)) e)
    h) in
    read_leaves (suc (suc n)) v s blocks p fd i off len (s.things.file p fd) answer io o k.0 k.1
asking_piece_changes (Write fd i off bytes) n v s blocks p answer io a o e h =
    write_leaves (file_block v (s.things.file p fd) i off (length bytes)) v s blocks p off bytes
    answer io o
    (or_parts (same_object o Cache) _
    (subst (λ ns. is_needed_exclusively o ns ≡ false)
    (fetch_before v s a (shared (OpenFile p fd))
    (file_block v (s.things.file p fd) i off (length bytes)) e) h)).0
asking_piece_changes c n v s blocks p answer io a o e h = cc
