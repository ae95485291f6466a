-- A fetch keeps the cache sound, its blocks on the disk, and the disk's blocks whole.
use Rattle.std.specs.Prelude.{◌≡◌, ◌≢◌, ℕ, ◌<◌, ◌≤◌, ◌==◌, Bool, true, length, List, Option, None}
use Rattle.std.specs.Prelude.{Some, is_some, slice_index}
use Rattle.std.proofs.Common.{arith, refl, subst, sym, ap, ◌∙◌, inl, inr}
use Rattle.std.proofs.lemmas.Bool.{cases_Bool, cond-true, cond-false}
use Rattle.kernel_model.specs.declared.QueueRow.{QueueRow}
use Rattle.kernel_model.specs.World.{World, Blocks}
use Rattle.kernel_model.specs.Objects.{CacheValue, FrameValue, PolValue, at}
use Rattle.kernel_model.specs.Policies.{lives, or_zero, victim_key, victim_among}
use Rattle.kernel_model.specs.Needs.{candidate_by, candidate_for, frame_of_block, free_frame}
use Rattle.kernel_model.specs.Fetch.{fetch, fetch_ahead, chosen_by, swapped, filled, replaced, new_frame}
use Rattle.kernel_model.specs.Sound.{IsSoundFrame, count_of, HasWholeBlocks}
use Rattle.call_laws.specs.FreeNumbers.{free_frame_is, no_free_frame}
use Rattle.call_laws.specs.SoundCaches.{IsSoundCache, sound_used, sound_filled, sound_swapped, filled_at}
use Rattle.call_laws.specs.FetchCases.{listed_in_use, in_use_listed, least_listed, no_candidate}
use Rattle.call_laws.specs.FetchCases.{found_in_use, not_found, AllGot, candidate_of, ReadCases}
use Rattle.call_laws.specs.FetchCases.{fetch_all, ahead_all}

-- ---- a sound cache

-- what a fetch asks for: a sound cache of two frames or more, a caller that lives, a block of a
-- file, and an answer that names a frame in use
pub record FetchReady (v : World) (queue : List QueueRow) (pol : PolValue) (p b : ℕ)
    (answer : Option (List ℕ)) (c : CacheValue) : Type 0 where
  pub sound : IsSoundCache v queue c
  pub some : 2 ≤ v.frames
  pub caller : lives queue p ≡ true
  pub block : b < 4096
  pub right : (a : List ℕ) → is_some (candidate_for v pol c b) ≡ true → answer ≡ Some a →
      is_some (c.frame (slice_index a 0)) ≡ true

-- where no frame is free, there is a candidate
candidate_in_use : (v : World) (queue : List QueueRow) (pol : PolValue) (c : CacheValue)
    (x : Option ℕ) → IsSoundCache v queue c → 2 ≤ v.frames → free_frame c v.frames 0 ≡ None →
    victim_among pol c c.lru ≡ x → (is_some x ≡ true) × (is_some (c.frame (or_zero x)) ≡ true)
candidate_in_use v queue pol c None h two full e =
    let empty = no_candidate (victim_key pol c) c.lru e in
    let there = in_use_listed v queue c 0 h
    (no_free_frame c v.frames 0 0 full (omega arith) (omega arith)) in
    let none : count_of 0 c.lru ≡ 0 = ap (count_of 0) empty in absurd (omega arith)
candidate_in_use v queue pol c (Some f) h two full e =
    (refl, listed_in_use v queue c f h (least_listed (victim_key pol c) c.lru f e))

-- the chosen frame is in use
chosen_in_use : (c : CacheValue) (answer : Option (List ℕ)) (candidate : ℕ) →
    is_some (c.frame candidate) ≡ true →
    ((a : List ℕ) → answer ≡ Some a → is_some (c.frame (slice_index a 0)) ≡ true) →
    is_some (c.frame (chosen_by answer candidate)) ≡ true
chosen_in_use c None candidate there h = there
chosen_in_use c (Some a) candidate there h = h a refl

-- no other frame holds the block
block_elsewhere : (v : World) (queue : List QueueRow) (c : CacheValue) (b g : ℕ) (x : FrameValue) →
    IsSoundCache v queue c →
    frame_of_block c b ≡ None → c.frame g ≡ Some x → x.block ≢ b
block_elsewhere v queue c b g x h none e =
    not_found c b c.lru g x none (in_use_listed v queue c g h (ap is_some e)) e

-- the new frame is sound
new_sound : (queue : List QueueRow) (p b : ℕ) (bytes : List ℕ) → lives queue p ≡ true → b < 4096 →
    length bytes ≡ 512 → IsSoundFrame queue (new_frame p b bytes)
new_sound queue p b bytes alive low whole =
    record { owner = alive; block = low; mark = omega arith; bytes = whole }

-- the cache after a frame was replaced
replaced_sound : (v : World) (queue : List QueueRow) (pol : PolValue) (p b : ℕ)
    (answer : Option (List ℕ)) (c : CacheValue) (bytes : List ℕ) →
    FetchReady v queue pol p b answer c → length bytes ≡ 512 → frame_of_block c b ≡ None →
    free_frame c v.frames 0 ≡ None →
    IsSoundCache v queue (replaced (chosen_by answer (candidate_of pol c)) (candidate_of pol c)
    (new_frame p b bytes) c)
replaced_sound v queue pol p b answer c bytes h whole none full =
    let candidate =
    candidate_in_use v queue pol c (victim_among pol c c.lru) h.sound h.some full refl in
    let asked : is_some (candidate_for v pol c b) ≡ true =
    ap (λ x. is_some (candidate_by x (free_frame c v.frames 0) (victim_among pol c c.lru))) none
    ∙ ap (λ x. is_some (candidate_by None x (victim_among pol c c.lru))) full ∙ candidate.0 in
    let chosen =
    chosen_in_use c answer (candidate_of pol c) candidate.1 (λ a e. h.right a asked e) in
    sound_filled v queue (chosen_by answer (candidate_of pol c)) (new_frame p b bytes)
    (record c { lru = swapped (chosen_by answer (candidate_of pol c)) (candidate_of pol c) c.lru })
    (sound_swapped v queue (chosen_by answer (candidate_of pol c))
    (candidate_of pol c) c h.sound chosen candidate.1)
    (h.sound.frame_numbers (chosen_by answer (candidate_of pol c)) chosen)
    (new_sound queue p b bytes h.caller h.block whole)
    (λ g x ne e. block_elsewhere v queue c b g x h.sound none e)

-- the cases of a block that is read
sound_cases : (v : World) (queue : List QueueRow) (pol : PolValue) (p b : ℕ)
    (answer : Option (List ℕ)) (c : CacheValue) (blocks : Blocks) →
    FetchReady v queue pol p b answer c → length (blocks b) ≡ 512 → frame_of_block c b ≡ None →
    ReadCases (λ d after. IsSoundCache v queue d) v pol p b answer c blocks
sound_cases v queue pol p b answer c blocks h whole none = record {
  free = λ f e.
      let free = free_frame_is c v.frames 0 f e in
      sound_filled v queue f (new_frame p b (blocks b)) c h.sound (omega arith)
      (new_sound queue p b (blocks b) h.caller h.block whole)
      (λ g x ne there. block_elsewhere v queue c b g x h.sound none there);
  evicted = λ full. replaced_sound v queue pol p b answer c (blocks b) h whole none full;
  written = λ old full there. replaced_sound v queue pol p b answer c (blocks b) h whole none full;
}

-- a fetch keeps the cache sound
pub fetch_sound : (v : World) (queue : List QueueRow) (pol : PolValue) (p b : ℕ)
    (answer : Option (List ℕ)) (c : CacheValue) (blocks : Blocks) (io : List Bool) →
    FetchReady v queue pol p b answer c → length (blocks b) ≡ 512 →
    AllGot (λ d after. IsSoundCache v queue d) (fetch v pol p b answer c blocks io)
fetch_sound v queue pol p b answer c blocks io h whole =
    fetch_all (λ d after. IsSoundCache v queue d) v pol p b answer c blocks io
    (λ f e. sound_used v queue f c h.sound (found_in_use c b c.lru f e))
    (λ none. sound_cases v queue pol p b answer c blocks h whole none)

-- so does a fetch ahead
pub ahead_sound : (v : World) (queue : List QueueRow) (pol : PolValue) (p b : ℕ)
    (answer : Option (List ℕ)) (c : CacheValue) (blocks : Blocks) (io : List Bool) →
    FetchReady v queue pol p b answer c → length (blocks b) ≡ 512 →
    AllGot (λ d after. IsSoundCache v queue d) (fetch_ahead v pol p b answer c blocks io)
ahead_sound v queue pol p b answer c blocks io h whole =
    ahead_all (λ d after. IsSoundCache v queue d) v pol p b answer c blocks io h.sound
    (λ none. sound_cases v queue pol p b answer c blocks h whole none)

-- ---- the disk

-- the block of each frame stands on the disk
abbrev pub FramesFit : World → CacheValue → Type 0
FramesFit v c = (f : ℕ) (x : FrameValue) → c.frame f ≡ Some x → x.block < v.disk_size

-- a frame is filled with a block of the disk
filled_fits : (v : World) (f : ℕ) (value : FrameValue) (c : CacheValue) → FramesFit v c →
    value.block < v.disk_size → FramesFit v (filled f value c)
filled_fits v f value c h low g x e = elim (filled_at f g value x c e) [
  | inl a ↦ subst (λ (q : FrameValue). q.block < v.disk_size) (sym a.1) low
  | inr a ↦ h g x a.1
]

-- the cases of a block that is read
fits_cases : (v : World) (pol : PolValue) (p b : ℕ) (answer : Option (List ℕ)) (c : CacheValue)
    (blocks : Blocks) → FramesFit v c → b < v.disk_size →
    ReadCases (λ d after. FramesFit v d) v pol p b answer c blocks
fits_cases v pol p b answer c blocks h low = record {
  free = λ f e. filled_fits v f (new_frame p b (blocks b)) c h low;
  evicted = λ full. filled_fits v (chosen_by answer (candidate_of pol c)) (new_frame p b (blocks b))
      (record c {
        lru = swapped (chosen_by answer (candidate_of pol c))
            (candidate_of pol c) c.lru;
      }) h low;
  written = λ old full there. filled_fits v (chosen_by answer (candidate_of pol c))
      (new_frame p b (blocks b))
      (record c {
        lru = swapped (chosen_by answer (candidate_of pol c))
            (candidate_of pol c) c.lru;
      }) h low;
}

-- a fetch keeps frames on the disk
pub fetch_fits : (v : World) (pol : PolValue) (p b : ℕ) (answer : Option (List ℕ)) (c : CacheValue)
    (blocks : Blocks) (io : List Bool) → FramesFit v c → b < v.disk_size →
    AllGot (λ d after. FramesFit v d) (fetch v pol p b answer c blocks io)
fetch_fits v pol p b answer c blocks io h low =
    fetch_all (λ d after. FramesFit v d) v pol p b answer c blocks io (λ f e. h)
    (λ none. fits_cases v pol p b answer c blocks h low)

-- so does a fetch ahead
pub ahead_fits : (v : World) (pol : PolValue) (p b : ℕ) (answer : Option (List ℕ)) (c : CacheValue)
    (blocks : Blocks) (io : List Bool) → FramesFit v c → b < v.disk_size →
    AllGot (λ d after. FramesFit v d) (fetch_ahead v pol p b answer c blocks io)
ahead_fits v pol p b answer c blocks io h low =
    ahead_all (λ d after. FramesFit v d) v pol p b answer c blocks io h
    (λ none. fits_cases v pol p b answer c blocks h low)

-- a whole block is written
pub whole_written : (v : World) (n : ℕ) (bytes : List ℕ) (blocks : Blocks) →
    HasWholeBlocks v blocks → length bytes ≡ 512 → HasWholeBlocks v (at n bytes blocks)
whole_written v n bytes blocks h whole b low = elim (cases_Bool (b == n)) [
  | inl e ↦ ap length (cond-true (b == n) bytes (blocks b) e) ∙ whole
  | inr e ↦ ap length (cond-false (b == n) bytes (blocks b) e) ∙ h b low
]

-- the cases of a block that is read
whole_cases : (v : World) (queue : List QueueRow) (pol : PolValue) (p b : ℕ)
    (answer : Option (List ℕ)) (c : CacheValue) (blocks : Blocks) →
    IsSoundCache v queue c → HasWholeBlocks v blocks →
    ReadCases (λ d after. HasWholeBlocks v after) v pol p b answer c blocks
whole_cases v queue pol p b answer c blocks h whole = record {
  free = λ f e. whole;
  evicted = λ full. whole;
  written = λ old full there. whole_written v old.block old.bytes blocks whole
      (h.frames (chosen_by answer (candidate_of pol c)) old there).bytes;
}

-- a fetch keeps blocks whole
pub fetch_whole : (v : World) (queue : List QueueRow) (pol : PolValue) (p b : ℕ)
    (answer : Option (List ℕ)) (c : CacheValue) (blocks : Blocks) (io : List Bool) →
    IsSoundCache v queue c → HasWholeBlocks v blocks →
    AllGot (λ d after. HasWholeBlocks v after) (fetch v pol p b answer c blocks io)
fetch_whole v queue pol p b answer c blocks io h whole =
    fetch_all (λ d after. HasWholeBlocks v after) v pol p b answer c blocks io (λ f e. whole)
    (λ none. whole_cases v queue pol p b answer c blocks h whole)

-- so does a fetch ahead
pub ahead_whole : (v : World) (queue : List QueueRow) (pol : PolValue) (p b : ℕ)
    (answer : Option (List ℕ)) (c : CacheValue) (blocks : Blocks) (io : List Bool) →
    IsSoundCache v queue c → HasWholeBlocks v blocks →
    AllGot (λ d after. HasWholeBlocks v after) (fetch_ahead v pol p b answer c blocks io)
ahead_whole v queue pol p b answer c blocks io h whole =
    ahead_all (λ d after. HasWholeBlocks v after) v pol p b answer c blocks io whole
    (λ none. whole_cases v queue pol p b answer c blocks h whole)
