-- States that agree on the first objects that a piece needs have the same next one.
use Rattle.std.specs.Prelude.{◌≡◌, ℕ, zero, suc, Bool, true, false, cond, nat_lt, List, [], ◌∷◌}
use Rattle.std.specs.Prelude.{take, length, Option, Some, None, is_some, Result, Ok, Err, ⊤}
use Rattle.std.proofs.Common.{refl, ap, subst, ◌∙◌}
use Rattle.std.proofs.lemmas.Bool.{or_left, or_right}
use Rattle.kernel_model.specs.declared.Need.{Need}
use Rattle.kernel_model.specs.declared.Kind.{Kind}
use Rattle.kernel_model.specs.declared.Object.TheVariants.{Acct, Queue, Pol}
use Rattle.kernel_model.specs.declared.Refusal.{Refusal}
use Rattle.kernel_model.specs.declared.SysCall.{SysCall}
use Rattle.kernel_model.specs.declared.SysCall.TheVariants.{Spawn, Yield, Read, Write, Give, Remove, Fund}
use Rattle.kernel_model.specs.World.{World}
use Rattle.kernel_model.specs.Objects.{Objects, CacheValue, SameAt, same_object}
use Rattle.kernel_model.specs.SameObject.{same_object_self}
use Rattle.kernel_model.specs.Policies.{lives, next_process}
use Rattle.kernel_model.specs.Needs.{exclusive, point_needs, payer_needs, free_process}
use Rattle.kernel_model.specs.Needs.{victim_needs, owner_asked, fetch_needs, candidate_for}
use Rattle.kernel_model.specs.Needs.{file_block, ahead_block, spawn_needs, slice_needs, yield_needs}
use Rattle.kernel_model.specs.Needs.{read_needs, payment_needs, give_needs, piece_needs}
use Rattle.kernel_model.specs.Alike.{AgreeOn, is_needed}
use Rattle.call_laws.specs.Candidates.{candidate_stands}

-- Of two lists of objects in two states the first ones are the same, and so on for the rest if the
-- states agree on the first.
abbrev pub Follows : Objects → Objects → List Need → List Need → Type 0
Follows s u [] [] = ⊤
Follows s u (x ∷ xs) (y ∷ ys) = (x ≡ y) × (SameAt x.object s u → Follows s u xs ys)
Follows s u _ _ = ⊥

-- such lists have the same next object wherever the states agree on the first ones
pub follows_next : (s u : Objects) (xs ys : List Need) (i : ℕ) → Follows s u xs ys →
    AgreeOn (take i xs) s u → take (suc i) xs ≡ take (suc i) ys
follows_next s u [] [] i f a = refl
follows_next s u [] (y ∷ ys) i f a = absurd f
follows_next s u (x ∷ xs) [] i f a = absurd f
follows_next s u (x ∷ xs) (y ∷ ys) zero f a = ap (λ (n : Need). n ∷ []) f.0
follows_next s u (x ∷ xs) (y ∷ ys) (suc i) f a =
    let here : SameAt x.object s u =
    a x.object (or_left (same_object x.object x.object) (is_needed x.object (take i xs))
    (same_object_self x.object)) in
    let rest : take (suc i) xs ≡ take (suc i) ys =
    follows_next s u xs ys i (f.1 here)
    (λ o h. a o (or_right (same_object o x.object) (is_needed o (take i xs)) h)) in
    let first : x ≡ y = f.0 in
    ap (λ (n : Need). n ∷ take (suc i) xs) first ∙ ap (λ (ns : List Need). y ∷ ns) rest

-- a list that doesn't look at the state
follows_itself : (s u : Objects) (xs : List Need) → Follows s u xs xs
follows_itself s u [] = tt
follows_itself s u (x ∷ xs) = (refl, λ h. follows_itself s u xs)

-- the same list, for a reason
follows_same : (s u : Objects) (xs ys : List Need) → xs ≡ ys → Follows s u xs ys
follows_same s u xs ys e = subst (λ (zs : List Need). Follows s u xs zs) e (follows_itself s u xs)

-- the objects of a point
follows_at_point : (s u : Objects) (q pt : ℕ) →
    Follows s u (point_needs s.accounts q pt) (point_needs u.accounts q pt)
follows_at_point s u q pt = (
  refl,
  λ h. follows_same s u (payer_needs q (s.accounts.graft q pt))
      (payer_needs q (u.accounts.graft q pt)) (ap (payer_needs q) h.0),
)

-- the objects of a point, for the same process
follows_point : (s u : Objects) (q r pt : ℕ) → q ≡ r →
    Follows s u (point_needs s.accounts q pt) (point_needs u.accounts r pt)
follows_point s u q r pt e =
    subst (λ (n : ℕ). Follows s u (point_needs s.accounts q pt) (point_needs u.accounts n pt)) e
    (follows_at_point s u q pt)

-- the objects of a victim, where both caches are the same and both have a candidate or none
follows_victim : (s u : Objects) (c d : CacheValue) (x y : Option ℕ) → c ≡ d →
    is_some x ≡ is_some y → (SameAt (Pol 1) s u → x ≡ y) →
    Follows s u (victim_needs s.accounts c x) (victim_needs u.accounts d y)
follows_victim s u c d None None e h k = tt
follows_victim s u c d None (Some g) e h k = cc
follows_victim s u c d (Some f) None e h k = cc
follows_victim s u c d (Some f) (Some g) e h k = (
  refl,
  λ pol.
      let same : f ≡ g = let w : Some f ≡ Some g = k pol in cc in
      let owners : owner_asked c f ≡ owner_asked d g = cc in
      follows_point s u (owner_asked c f) (owner_asked d g) 4 owners,
)

-- the objects of a fetch of one block
follows_fetch : (v : World) (s u : Objects) (r t : Result ℕ Refusal) → r ≡ t →
    Follows s u (fetch_needs v s r) (fetch_needs v u t)
follows_fetch v s u (Err why) (Err other) e = tt
follows_fetch v s u (Err why) (Ok b) e = cc
follows_fetch v s u (Ok a) (Err why) e = cc
follows_fetch v s u (Ok a) (Ok b) e =
    let same : a ≡ b = cc in (
      refl,
      λ cache.
          follows_victim s u s.things.cache u.things.cache
          (candidate_for v (s.things.pol 1) s.things.cache a)
          (candidate_for v (u.things.pol 1) u.things.cache b) cache
          (candidate_stands v (s.things.pol 1) (u.things.pol 1) s.things.cache a
          ∙ ap (λ (c : CacheValue). is_some (candidate_for v (u.things.pol 1) c a)) cache
          ∙ ap (λ n. is_some (candidate_for v (u.things.pol 1) u.things.cache n)) same)
          (λ pol. cc),
    )

-- ---- each call

-- the objects of a spawn
follows_spawn : (s u : Objects) (x y : Option ℕ) → (SameAt Queue s u → x ≡ y) →
    Follows s u (spawn_needs x) (spawn_needs y)
follows_spawn s u None None k = (refl, λ h. tt)
follows_spawn s u None (Some d) k = (refl, λ h. let w : None ≡ Some d = k h in cc)
follows_spawn s u (Some c) None k = (refl, λ h. let w : Some c ≡ None = k h in cc)
follows_spawn s u (Some c) (Some d) k = (refl, λ h. let w : Some c ≡ Some d = k h in (cc, λ l. tt))

-- the objects of a candidate for the processor
follows_slice : (s u : Objects) (x y : Option ℕ) → x ≡ y →
    Follows s u (slice_needs s.accounts x) (slice_needs u.accounts y)
follows_slice s u None None e = tt
follows_slice s u None (Some d) e = cc
follows_slice s u (Some c) None e = cc
follows_slice s u (Some c) (Some d) e = let w : c ≡ d = cc in follows_point s u c d 5 w

-- the objects of a yield
follows_yield : (n : ℕ) (s u : Objects) → Follows s u (yield_needs n s) (yield_needs n u)
follows_yield zero s u = (refl, λ h. tt)
follows_yield (suc n) s u = (
  refl,
  λ queue. (
    refl,
    λ pol.
        let rows : s.things.queue ≡ u.things.queue = queue.0 in
        let same : next_process (s.things.pol 2) s.things.queue
        ≡ next_process (u.things.pol 2) u.things.queue = cc in
        follows_slice s u (next_process (s.things.pol 2) s.things.queue)
        (next_process (u.things.pol 2) u.things.queue) same,
  ),
)

-- the objects of a read
follows_read : (n : ℕ) (v : World) (s u : Objects) (p fd i off len : ℕ) →
    Follows s u (read_needs n v s p fd i off len) (read_needs n v u p fd i off len)
follows_read zero v s u p fd i off len = (
  refl,
  λ file. follows_fetch v s u (file_block v (s.things.file p fd) i off len)
      (file_block v (u.things.file p fd) i off len)
      (ap (λ o. file_block v o i off len) file),
)
follows_read (suc zero) v s u p fd i off len =
    (refl, λ file. (refl, λ pol. follows_at_point s u p fd))
follows_read (suc (suc n)) v s u p fd i off len = (
  refl,
  λ file. follows_fetch v s u (ahead_block v (s.things.file p fd))
      (ahead_block v (u.things.file p fd)) (ap (ahead_block v) file),
)

-- the receiver's account, unless the payer has too little
abbrev payment_rest : ℕ → Bool → List Need
payment_rest q short = cond short [] (exclusive (Acct q) ∷ [])

-- lists that follow each other, or none
follows_either : (s u : Objects) (a b : Bool) (xs ys : List Need) → a ≡ b → Follows s u xs ys →
    Follows s u (cond a xs []) (cond b ys [])
follows_either s u true true xs ys e f = f
follows_either s u true false xs ys e f = cc
follows_either s u false true xs ys e f = cc
follows_either s u false false xs ys e f = tt

-- the accounts of a gift
follows_payment : (s u : Objects) (p q : ℕ) (k : Kind) (n : ℕ) →
    Follows s u (payment_needs s.accounts p q k n) (payment_needs u.accounts p q k n)
follows_payment s u p q k n = (
  refl,
  λ account. follows_same s u _ _
      (ap (λ a. payment_rest q (nat_lt (a.balance k) n)) account),
)

-- the objects of a gift
follows_give : (s u : Objects) (p q : ℕ) (k : Kind) (n : ℕ) →
    Follows s u (give_needs s p q k n) (give_needs u p q k n)
follows_give s u p q k n = (
  refl,
  λ queue. follows_either s u (lives s.things.queue q) (lives u.things.queue q)
      (payment_needs s.accounts p q k n) (payment_needs u.accounts p q k n)
      (ap (λ rows. lives rows q) queue.0) (follows_payment s u p q k n),
)

-- the objects of each piece
pub follows_piece : (c : SysCall) (n : ℕ) (v : World) (s u : Objects) (p : ℕ) →
    Follows s u (piece_needs c n v s p) (piece_needs c n v u p)
follows_piece Spawn n v s u p =
    follows_spawn s u (free_process s.things.queue 16 0) (free_process u.things.queue 16 0)
    (λ queue. ap (λ rows. free_process rows 16 0) queue.0)
follows_piece Yield n v s u p = follows_yield n s u
follows_piece (Read fd i off len) n v s u p = follows_read n v s u p fd i off len
follows_piece (Write fd i off bytes) n v s u p = (
  refl,
  λ file. follows_fetch v s u (file_block v (s.things.file p fd) i off (length bytes))
      (file_block v (u.things.file p fd) i off (length bytes))
      (ap (λ o. file_block v o i off (length bytes)) file),
)
follows_piece (Give q k x) n v s u p = follows_give s u p q k x
follows_piece (Remove pt) n v s u p = follows_at_point s u p pt
follows_piece (Fund pt k x) n v s u p = follows_at_point s u p pt
follows_piece c n v s u p = follows_itself s u (piece_needs c n v s p)
