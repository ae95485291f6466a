-- How frames stand in the order of use, and what a fetch can come to.
use Rattle.std.specs.Prelude.{◌≡◌, ◌≢◌, ℕ, ◌≤◌, ◌==◌, nat_lt, Bool, true, false, cond, List, []}
use Rattle.std.specs.Prelude.{◌∷◌, Option, None, Some, is_some, ⊤}
use Rattle.std.proofs.Common.{arith, refl, sym, ap, ◌∙◌, inl, inr}
use Rattle.std.proofs.lemmas.Bool.{cases_eq, eqb-false}
use Rattle.std.proofs.lemmas.Bool.Decides.{nat_tests}
use Rattle.kernel_model.specs.declared.QueueRow.{QueueRow}
use Rattle.kernel_model.specs.World.{World, Blocks}
use Rattle.kernel_model.specs.Objects.{CacheValue, FrameValue, PolValue, at}
use Rattle.kernel_model.specs.Policies.{least, or_zero, victim_among}
use Rattle.kernel_model.specs.Meaning.{disk_fails}
use Rattle.kernel_model.specs.Needs.{frame_with, frame_of_block, free_frame}
use Rattle.kernel_model.specs.Fetch.{Fetched, Got, Failed, fetch, fetch_by, fetch_ahead}
use Rattle.kernel_model.specs.Fetch.{fetch_ahead_by, read_block, place_block, evict, chosen_by}
use Rattle.kernel_model.specs.Fetch.{used, filled, replaced, new_frame}
use Rattle.kernel_model.specs.Sound.{count_of, once_if}
use Rattle.call_laws.specs.SoundCaches.{IsSoundCache}

-- ---- frames and the order of use

-- a frame that stands in the order of use is in use
pub listed_in_use : (v : World) (queue : List QueueRow) (c : CacheValue) (f : ℕ) →
    IsSoundCache v queue c → 1 ≤ count_of f c.lru → is_some (c.frame f) ≡ true
listed_in_use v queue c f h some = let k = h.in_use f in
    by_count (is_some (c.frame f)) (count_of f c.lru) k some
  where
    -- what counts once or more holds
    by_count : (b : Bool) (n : ℕ) → n ≡ once_if b → 1 ≤ n → b ≡ true
    by_count true n e h = refl
    by_count false n e h = absurd (omega arith)

-- a frame in use stands in the order of use
pub in_use_listed : (v : World) (queue : List QueueRow) (c : CacheValue) (f : ℕ) →
    IsSoundCache v queue c → is_some (c.frame f) ≡ true → 1 ≤ count_of f c.lru
in_use_listed v queue c f h there = let k = h.in_use f ∙ ap once_if there in omega arith

-- the candidate stands in the list
pub least_listed : (key : ℕ → ℕ) (fs : List ℕ) (f : ℕ) → least key fs ≡ Some f → 1 ≤ count_of f fs
least_listed key [] f h = cc
least_listed key (x ∷ xs) f h =
    by_rest key x xs f (least key xs) refl h (λ y. least_listed key xs y)
  where
    -- by the candidate of the rest
    by_rest : (key : ℕ → ℕ) (x : ℕ) (xs : List ℕ) (f : ℕ) (r : Option ℕ) → least key xs ≡ r →
        elim r as (λ (q : Option ℕ). Option ℕ) [
          | None ↦ Some x
          | Some y ↦ cond (nat_lt (key y) (key x)) (Some y) (Some x)
        ] ≡ Some f →
        ((y : ℕ) → least key xs ≡ Some y → 1 ≤ count_of y xs) → 1 ≤ count_of f (x ∷ xs)
    by_rest key x xs f None e h ih = let same : x ≡ f = cc in grind (arith, nat_tests)
    by_rest key x xs f (Some y) e h ih = let k = ih y e in grind (arith, nat_tests)

-- where there is no candidate, no frame stands in the list
pub no_candidate : (key : ℕ → ℕ) (fs : List ℕ) → least key fs ≡ None → fs ≡ []
no_candidate key [] h = refl
no_candidate key (x ∷ xs) h = by_rest key x xs (least key xs) h
  where
    -- by the candidate of the rest
    by_rest : (key : ℕ → ℕ) (x : ℕ) (xs : List ℕ) (r : Option ℕ) →
        elim r as (λ (q : Option ℕ). Option ℕ) [
          | None ↦ Some x
          | Some y ↦ cond (nat_lt (key y) (key x)) (Some y) (Some x)
        ] ≡ None → (x ∷ xs) ≡ []
    by_rest key x xs None h = cc
    by_rest key x xs (Some y) h = grind arith

-- the frame that is found holds a block
pub found_in_use : (c : CacheValue) (b : ℕ) (fs : List ℕ) (f : ℕ) → frame_with c b fs ≡ Some f →
    is_some (c.frame f) ≡ true
found_in_use c b [] f h = cc
found_in_use c b (g ∷ fs) f h = by_frame c b g fs f (c.frame g) refl h (found_in_use c b fs f)
  where
    -- by what the first frame holds
    by_frame : (c : CacheValue) (b g : ℕ) (fs : List ℕ) (f : ℕ) (x : Option FrameValue) →
        c.frame g ≡ x →
        elim x as (λ (q : Option FrameValue). Option ℕ) [
          | None ↦ frame_with c b fs
          | Some r ↦ elim (r.block == b) as (λ (q : Bool). Option ℕ) [
            | true ↦ Some g
            | false ↦ frame_with c b fs
          ]
        ] ≡ Some f →
        (frame_with c b fs ≡ Some f → is_some (c.frame f) ≡ true) → is_some (c.frame f) ≡ true
    by_frame c b g fs f None e h ih = ih h
    by_frame c b g fs f (Some r) e h ih =
        (elim (r.block == b) as (λ (t : Bool). elim t as (λ (q : Bool). Option ℕ) [
          | true ↦ Some g
          | false ↦ frame_with c b fs
        ] ≡ Some f → is_some (c.frame f) ≡ true) [
          | true ↦ λ k. let same : g ≡ f = cc in ap (λ i. is_some (c.frame i)) (sym same) ∙ ap is_some e
          | false ↦ λ k. ih k
        ]) h

-- what stands in a list stands in the rest, if it isn't first
count_rest : (f g : ℕ) (fs : List ℕ) → g ≢ f → 1 ≤ count_of f (g ∷ fs) → 1 ≤ count_of f fs
count_rest f g fs ne h = grind (arith, nat_tests)

-- where no frame of the list is found, none of them holds the block
pub not_found : (c : CacheValue) (b : ℕ) (fs : List ℕ) (f : ℕ) (x : FrameValue) →
    frame_with c b fs ≡ None → 1 ≤ count_of f fs → c.frame f ≡ Some x → x.block ≢ b
not_found c b [] f x h some e = absurd (omega arith)
not_found c b (g ∷ fs) f x h some e =
    by_frame c b g fs f x (c.frame g) refl h some e (λ k n. not_found c b fs f x k n e)
  where
    -- by what the first frame holds
    by_frame : (c : CacheValue) (b g : ℕ) (fs : List ℕ) (f : ℕ) (x : FrameValue)
        (y : Option FrameValue) → c.frame g ≡ y →
        elim y as (λ (q : Option FrameValue). Option ℕ) [
          | None ↦ frame_with c b fs
          | Some r ↦ elim (r.block == b) as (λ (q : Bool). Option ℕ) [
            | true ↦ Some g
            | false ↦ frame_with c b fs
          ]
        ] ≡ None →
        1 ≤ count_of f (g ∷ fs) → c.frame f ≡ Some x →
        (frame_with c b fs ≡ None → 1 ≤ count_of f fs → x.block ≢ b) → x.block ≢ b
    by_frame c b g fs f x None e h some k ih = elim (cases_eq g f) [
      | inl same ↦ let clash : None ≡ Some x = sym e ∙ ap (λ i. c.frame i) same ∙ k in cc
      | inr ne ↦ ih h (count_rest f g fs ne some)
    ]
    by_frame c b g fs f x (Some r) e h some k ih =
        (elim (r.block == b) as (λ (t : Bool). (r.block == b) ≡ t →
        elim t as (λ (q : Bool). Option ℕ) [ true ↦ Some g | false ↦ frame_with c b fs ] ≡ None →
        x.block ≢ b) [
          | true ↦ λ test found. cc
          | false ↦ λ test found. elim (cases_eq g f) [
            | inl same ↦
                let there : Some r ≡ Some x = sym e ∙ ap (λ i. c.frame i) same ∙ k in
                let one : r ≡ x = cc in
                λ z. eqb-false r.block b test (ap (λ (q : FrameValue). q.block) one ∙ z)
            | inr ne ↦ ih found (count_rest f g fs ne some)
          ]
        ]) refl h

-- ---- the outcomes of a fetch

-- what a fetch that doesn't fail leaves is so
abbrev pub AllGot : (CacheValue → Blocks → Type 0) → Fetched → Type 0
AllGot P (Got c blocks frame calls) = P c blocks
AllGot P (Failed calls) = ⊤

-- the candidate, or 0
abbrev pub candidate_of : PolValue → CacheValue → ℕ
candidate_of pol c = or_zero (victim_among pol c c.lru)

-- what is left is so where a frame is filled, or one is evicted, written back or not
pub record ReadCases (P : CacheValue → Blocks →
    Type 0) (v : World) (pol : PolValue) (p b : ℕ) (answer : Option (List ℕ)) (c : CacheValue)
    (blocks : Blocks) : Type 0 where
  pub free : (f : ℕ) → free_frame c v.frames 0 ≡ Some f →
      P (filled f (new_frame p b (blocks b)) c) blocks
  pub evicted : free_frame c v.frames 0 ≡ None →
      P (replaced (chosen_by answer (candidate_of pol c)) (candidate_of pol c)
      (new_frame p b (blocks b)) c) blocks
  pub written : (old : FrameValue) → free_frame c v.frames 0 ≡ None →
      c.frame (chosen_by answer (candidate_of pol c)) ≡ Some old →
      P (replaced (chosen_by answer (candidate_of pol c)) (candidate_of pol c)
      (new_frame p b (blocks b)) c) (at old.block old.bytes blocks)

-- an eviction
evict_all : (P : CacheValue → Blocks →
    Type 0) (old : Option FrameValue) (f : ℕ) (after : CacheValue) (blocks : Blocks)
    (io : List Bool) →
    P after blocks → ((x : FrameValue) → old ≡ Some x → P after (at x.block x.bytes blocks)) →
    AllGot P (evict old f after blocks io)
evict_all P None f after blocks io kept written = kept
evict_all P (Some x) f after blocks io kept written =
    elim x.dirty as (λ (d : Bool). AllGot P (elim d as (λ (q : Bool). Fetched) [
      | false ↦ Got after blocks f 1
      | true ↦ elim (disk_fails io 1) as (λ (q : Bool). Fetched) [
        | true ↦ Failed 2
        | false ↦ Got after (at x.block x.bytes blocks) f 2
      ]
    ])) [
      | false ↦ kept
      | true ↦ elim (disk_fails io 1) as
          (λ (q : Bool). AllGot P (elim q as (λ (z : Bool). Fetched) [
            | true ↦ Failed 2
            | false ↦ Got after (at x.block x.bytes blocks) f 2
          ])) [
            | true ↦ tt
            | false ↦ written x refl
          ]
    ]

-- a block that was read
place_all : (P : CacheValue → Blocks →
    Type 0) (v : World) (pol : PolValue) (p b : ℕ) (answer : Option (List ℕ)) (c : CacheValue)
    (blocks : Blocks) (io : List Bool) (free : Option ℕ) →
    free_frame c v.frames 0 ≡ free → ReadCases P v pol p b answer c blocks →
    AllGot P (place_block free p b (chosen_by answer (candidate_of pol c))
    (candidate_of pol c) c blocks io)
place_all P v pol p b answer c blocks io (Some f) e h = h.free f e
place_all P v pol p b answer c blocks io None e h =
    evict_all P (c.frame (chosen_by answer (candidate_of pol c)))
    (chosen_by answer (candidate_of pol c))
    (replaced (chosen_by answer (candidate_of pol c)) (candidate_of pol c)
    (new_frame p b (blocks b)) c) blocks io (h.evicted e) (λ x there. h.written x e there)

-- a block that is read
read_all : (P : CacheValue → Blocks →
    Type 0) (v : World) (pol : PolValue) (p b : ℕ) (answer : Option (List ℕ)) (c : CacheValue)
    (blocks : Blocks) (io : List Bool) →
    ReadCases P v pol p b answer c blocks → AllGot P (read_block v pol p b answer c blocks io)
read_all P v pol p b answer c blocks io h =
    elim (disk_fails io 0) as (λ (q : Bool). AllGot P (elim q as (λ (z : Bool). Fetched) [
      | true ↦ Failed 1
      | false ↦ place_block (free_frame c v.frames 0) p b (chosen_by answer (candidate_of pol c))
          (candidate_of pol c) c blocks io
    ])) [
      | true ↦ tt
      | false ↦ place_all P v pol p b answer c blocks io (free_frame c v.frames 0) refl h
    ]

-- a fetch
pub fetch_all : (P : CacheValue → Blocks →
    Type 0) (v : World) (pol : PolValue) (p b : ℕ) (answer : Option (List ℕ)) (c : CacheValue)
    (blocks : Blocks) (io : List Bool) →
    ((f : ℕ) → frame_of_block c b ≡ Some f → P (used f c) blocks) →
    (frame_of_block c b ≡ None → ReadCases P v pol p b answer c blocks) →
    AllGot P (fetch v pol p b answer c blocks io)
fetch_all P v pol p b answer c blocks io held read =
    by_frame P v pol p b answer c blocks io (frame_of_block c b) held read
  where
    -- by the frame that holds the block
    by_frame : (P : CacheValue → Blocks →
        Type 0) (v : World) (pol : PolValue) (p b : ℕ) (answer : Option (List ℕ)) (c : CacheValue)
        (blocks : Blocks) (io : List Bool) (x : Option ℕ) →
        ((f : ℕ) → x ≡ Some f → P (used f c) blocks) →
        (x ≡ None → ReadCases P v pol p b answer c blocks) →
        AllGot P (fetch_by x v pol p b answer c blocks io)
    by_frame P v pol p b answer c blocks io None held read =
        read_all P v pol p b answer c blocks io (read refl)
    by_frame P v pol p b answer c blocks io (Some f) held read = held f refl

-- a fetch ahead
pub ahead_all : (P : CacheValue → Blocks →
    Type 0) (v : World) (pol : PolValue) (p b : ℕ) (answer : Option (List ℕ)) (c : CacheValue)
    (blocks : Blocks) (io : List Bool) →
    P c blocks → (frame_of_block c b ≡ None → ReadCases P v pol p b answer c blocks) →
    AllGot P (fetch_ahead v pol p b answer c blocks io)
ahead_all P v pol p b answer c blocks io held read =
    by_frame P v pol p b answer c blocks io (frame_of_block c b) held read
  where
    -- by the frame that holds the block
    by_frame : (P : CacheValue → Blocks →
        Type 0) (v : World) (pol : PolValue) (p b : ℕ) (answer : Option (List ℕ)) (c : CacheValue)
        (blocks : Blocks) (io : List Bool) (x : Option ℕ) →
        P c blocks → (x ≡ None → ReadCases P v pol p b answer c blocks) →
        AllGot P (fetch_ahead_by x v pol p b answer c blocks io)
    by_frame P v pol p b answer c blocks io None held read =
        read_all P v pol p b answer c blocks io (read refl)
    by_frame P v pol p b answer c blocks io (Some f) held read = held
