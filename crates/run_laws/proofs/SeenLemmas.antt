-- What is seen of blocks through the changes of a cache and its disk.
use Rattle.std.specs.Prelude.{◌≡◌, ◌≢◌, ◌⊎◌, ℕ, zero, suc, Bool, true, false, List, []}
use Rattle.std.specs.Prelude.{is_some, Option, Some, None}
use Rattle.std.proofs.Common.{refl, sym, ap, subst, ◌∙◌, inl, inr}
use Rattle.std.proofs.lemmas.Bool.{cases_eq}
use Rattle.script_model.specs.declared.QueueRow.{QueueRow}
use Rattle.script_model.specs.World.{World, Blocks}
use Rattle.script_model.specs.Objects.{CacheValue, FrameValue, PolValue, at}
use Rattle.script_model.specs.Fetch.{Fetched, Got, Failed, fetch, fetch_by, fetch_ahead, fetch_ahead_by, read_block}
use Rattle.script_model.specs.Fetch.{place_block, evict, chosen_by, used, filled, replaced, new_frame, bytes_of}
use Rattle.script_model.specs.Fetch.{bytes_with, patched, with_patch}
use Rattle.script_model.specs.Meaning.{disk_fails}
use Rattle.kernel_model.specs.Needs.{frame_of_block, free_frame}
use Rattle.call_laws.specs.FetchCases.{AllGot, candidate_of, in_use_listed, not_found}
use Rattle.call_laws.specs.FetchedFrames.{HoldsBlock, found_holds}
use Rattle.call_laws.specs.Ledgers.{at_here, at_other}
use Rattle.call_laws.specs.SoundCaches.{IsSoundCache, filled_at}
use Rattle.run_laws.specs.Seen.{seen_block, IsCoherent, ShowsSame, ShowsPut, WritesSeen}

-- ---- where a block is

-- no frame holds a block
abbrev pub IsNowhere : CacheValue → ℕ → Type 0
IsNowhere c b = (f : ℕ) (x : FrameValue) → c.frame f ≡ Some x → x.block ≢ b

some_is : (x y : FrameValue) → Some x ≡ Some y → x ≡ y
some_is x y e = cc

none_some : (x : FrameValue) → None ≡ Some x → ⊥
none_some x e = cc

-- a frame holds a block, or none does
pub data Place (c : CacheValue) (b : ℕ) : Type 0 where
  Held : (f : ℕ) (x : FrameValue) → c.frame f ≡ Some x → x.block ≡ b → Place c b
  Nowhere : IsNowhere c b → Place c b

module _ (v : World) (queue : List QueueRow) (c : CacheValue) (sound : IsSoundCache v queue c) where
  -- by the frame that is found
  holder_is : (b f : ℕ) → frame_of_block c b ≡ Some f → (x : FrameValue) × (c.frame f ≡ Some x) × (x.block ≡ b)
  holder_is b f e = by_frame (c.frame f) refl (found_holds v queue c b c.lru f sound e)
    where
      by_frame : (y : Option FrameValue) → c.frame f ≡ y → HoldsBlock b y →
          (x : FrameValue) × (c.frame f ≡ Some x) × (x.block ≡ b)
      by_frame None is holds = absurd holds
      by_frame (Some x) is holds = (x, is, holds.0)

  nowhere_found : (b : ℕ) → frame_of_block c b ≡ None → IsNowhere c b
  nowhere_found b e f x is = not_found c b c.lru f x e (in_use_listed v queue c f sound (ap is_some is)) is

  pub place_of : (b : ℕ) → Place c b
  place_of b = by_found (frame_of_block c b) refl
    where
      by_found : (y : Option ℕ) → frame_of_block c b ≡ y → Place c b
      by_found None e = Nowhere (nowhere_found b e)
      by_found (Some f) e = let h = holder_is b f e in Held f h.0 h.1 h.2

  -- what a frame holds is seen
  pub seen_held : (blocks : Blocks) (f : ℕ) (x : FrameValue) → c.frame f ≡ Some x →
      seen_block c blocks x.block ≡ x.bytes
  seen_held blocks f x is = by_found (frame_of_block c x.block) refl
    where
      bytes_are : (g : ℕ) → c.frame g ≡ Some x → bytes_of c g ≡ x.bytes
      bytes_are g there = ap (λ (y : Option FrameValue). elim y as (λ _. List ℕ) [ None ↦ [] | Some z ↦ z.bytes ]) there

      by_found : (y : Option ℕ) → frame_of_block c x.block ≡ y →
          elim y as (λ _. List ℕ) [ None ↦ blocks x.block | Some g ↦ bytes_of c g ] ≡ x.bytes
      by_found None e = absurd (nowhere_found x.block e f x is refl)
      by_found (Some g) e =
          let h = holder_is x.block g e in
          let same = sound.one_frame g f h.0 x h.1 is h.2 in
          bytes_are g (ap c.frame same ∙ is)

  -- and else the disk
  pub seen_nowhere : (blocks : Blocks) (b : ℕ) → IsNowhere c b → seen_block c blocks b ≡ blocks b
  seen_nowhere blocks b none = by_found (frame_of_block c b) refl
    where
      by_found : (y : Option ℕ) → frame_of_block c b ≡ y →
          elim y as (λ _. List ℕ) [ None ↦ blocks b | Some g ↦ bytes_of c g ] ≡ blocks b
      by_found None e = refl
      by_found (Some g) e = let h = holder_is b g e in absurd (none g h.0 h.1 h.2)

-- ---- changes

-- A cache over its disk shows what another showed, told frame by frame.
pub record Shown (c : CacheValue) (blocks : Blocks) (e : CacheValue) (after : Blocks) : Type 0 where
  pub in_frames : (f : ℕ) (x : FrameValue) → e.frame f ≡ Some x → x.bytes ≡ seen_block c blocks x.block
  pub elsewhere : (b : ℕ) → IsNowhere e b → after b ≡ seen_block c blocks b
  pub coherent : IsCoherent e after
  pub disk : WritesSeen c blocks after

pub shows_same : (v : World) (queue : List QueueRow) (c : CacheValue) (blocks : Blocks) (e : CacheValue)
    (after : Blocks) →
    IsSoundCache v queue e → Shown c blocks e after → ShowsSame c blocks e after
shows_same v queue c blocks e after sound h b = by_place (place_of v queue e sound b)
  where
    by_place : Place e b → seen_block e after b ≡ seen_block c blocks b
    by_place (Held f x is same) =
        subst (λ i. seen_block e after i ≡ seen_block c blocks i) same
        (seen_held v queue e sound after f x is ∙ h.in_frames f x is)
    by_place (Nowhere none) = seen_nowhere v queue e sound after b none ∙ h.elsewhere b none

-- what an eviction leaves of the disk: the frame was free, or clean, or is written
data Evicted (c : CacheValue) (blocks : Blocks) (f : ℕ) (after : Blocks) : Type 0 where
  Free : c.frame f ≡ None → after ≡ blocks → Evicted c blocks f after
  Clean : (old : FrameValue) → c.frame f ≡ Some old → old.dirty ≡ false → after ≡ blocks → Evicted c blocks f after
  Written : (old : FrameValue) → c.frame f ≡ Some old → after ≡ at old.block old.bytes blocks →
      Evicted c blocks f after

module _ (v : World) (queue : List QueueRow) (c : CacheValue) (sound : IsSoundCache v queue c) (blocks : Blocks)
    (coherent : IsCoherent c blocks) where
  -- nothing but the order of use changes
  pub shown_self : (lru : List ℕ) → Shown c blocks (record c { lru = lru }) blocks
  shown_self lru =
      record {
        in_frames = λ f x is. sym (seen_held v queue c sound blocks f x is);
        elsewhere = λ b none. sym (seen_nowhere v queue c sound blocks b none);
        coherent = coherent;
        disk = λ b. inl refl;
      }

  -- a frame is filled with a block that none held
  shown_filled : (p b f : ℕ) (lru : List ℕ) (after : Blocks) → IsNowhere c b → Evicted c blocks f after →
      Shown c blocks (record { frame = at f (Some (new_frame p b (blocks b))) c.frame; lru = lru }) after
  shown_filled p b f lru after fresh ev =
      record {
        in_frames = λ g x is. elim (filled_at f g value x c is) [
          | inl new ↦ subst (λ (y : FrameValue). y.bytes ≡ seen_block c blocks y.block) (sym new.1)
              (sym (seen_nowhere v queue c sound blocks b fresh))
          | inr old ↦ sym (seen_held v queue c sound blocks g x old.1)
        ];
        elsewhere = λ i none. elsewhere i none ev;
        coherent = λ g x is clean. elim (filled_at f g value x c is) [
          | inl new ↦ subst (λ (y : FrameValue). after y.block ≡ y.bytes) (sym new.1) (fresh_stays ev)
          | inr old ↦ other_stays g x old.0 old.1 ev ∙ coherent g x old.1 clean
        ];
        disk = λ i. disk i ev;
      }
    where
      value : FrameValue
      value = new_frame p b (blocks b)

      -- a frame that isn't filled stays
      stays : (g : ℕ) (x : FrameValue) → g ≢ f → c.frame g ≡ Some x → at f (Some value) c.frame g ≡ Some x
      stays g x ne is = at_other f g (Some value) c.frame ne ∙ is

      elsewhere : (i : ℕ) →
          IsNowhere (record { frame = at f (Some value) c.frame; lru = lru }) i → Evicted c blocks f after →
          after i ≡ seen_block c blocks i
      elsewhere i none (Free free same) =
          ap (λ (d : Blocks). d i) same ∙ sym (seen_nowhere v queue c sound blocks i (λ g x is. elim (cases_eq g f) [
            | inl here ↦ absurd (none_some x (sym free ∙ ap c.frame (sym here) ∙ is))
            | inr ne ↦ none g x (stays g x ne is)
          ]))
      elsewhere i none (Clean old there clean same) = ap (λ (d : Blocks). d i) same
          ∙ by_place (place_of v queue c sound i)
        where
          by_place : Place c i → blocks i ≡ seen_block c blocks i
          by_place (Nowhere none_held) = sym (seen_nowhere v queue c sound blocks i none_held)
          by_place (Held g x is block) = elim (cases_eq g f) [
            | inr ne ↦ absurd (none g x (stays g x ne is) block)
            | inl here ↦
                let one = some_is x old (sym is ∙ ap c.frame here ∙ there) in
                subst (λ j. blocks j ≡ seen_block c blocks j) block
                (coherent g x is (ap (λ (y : FrameValue). y.dirty) one ∙ clean)
                ∙ sym (seen_held v queue c sound blocks g x is))
          ]
      elsewhere i none (Written old there same) = elim (cases_eq i old.block) [
        | inl own ↦
            ap (λ (d : Blocks). d i) same ∙ ap (at old.block old.bytes blocks) own ∙ at_here old.block old.bytes blocks
            ∙ sym (ap (seen_block c blocks) own ∙ seen_held v queue c sound blocks f old there)
        | inr other ↦ ap (λ (d : Blocks). d i) same ∙ at_other old.block i old.bytes blocks other
            ∙ by_place other (place_of v queue c sound i)
      ]
        where
          by_place : i ≢ old.block → Place c i → blocks i ≡ seen_block c blocks i
          by_place other (Nowhere none_held) = sym (seen_nowhere v queue c sound blocks i none_held)
          by_place other (Held g x is block) = elim (cases_eq g f) [
            | inr ne ↦ absurd (none g x (stays g x ne is) block)
            | inl here ↦
                let one = some_is x old (sym is ∙ ap c.frame here ∙ there) in
                absurd (other (sym block ∙ ap (λ (y : FrameValue). y.block) one))
          ]

      fresh_stays : Evicted c blocks f after → after b ≡ blocks b
      fresh_stays (Free free same) = ap (λ (d : Blocks). d b) same
      fresh_stays (Clean old there clean same) = ap (λ (d : Blocks). d b) same
      fresh_stays (Written old there same) =
          ap (λ (d : Blocks). d b) same
          ∙ at_other old.block b old.bytes blocks (λ own. fresh f old there (sym own))

      other_stays : (g : ℕ) (x : FrameValue) → g ≢ f → c.frame g ≡ Some x → Evicted c blocks f after →
          after x.block ≡ blocks x.block
      other_stays g x ne is (Free free same) = ap (λ (d : Blocks). d x.block) same
      other_stays g x ne is (Clean old there clean same) = ap (λ (d : Blocks). d x.block) same
      other_stays g x ne is (Written old there same) =
          ap (λ (d : Blocks). d x.block) same
          ∙ at_other old.block x.block old.bytes blocks (λ own. ne (sound.one_frame g f x old is there own))

      disk : (i : ℕ) → Evicted c blocks f after → (after i ≡ blocks i) ⊎ (after i ≡ seen_block c blocks i)
      disk i (Free free same) = inl (ap (λ (d : Blocks). d i) same)
      disk i (Clean old there clean same) = inl (ap (λ (d : Blocks). d i) same)
      disk i (Written old there same) = elim (cases_eq i old.block) [
        | inl own ↦ inr (ap (λ (d : Blocks). d i) same ∙ ap (at old.block old.bytes blocks) own
            ∙ at_here old.block old.bytes blocks
            ∙ sym (ap (seen_block c blocks) own ∙ seen_held v queue c sound blocks f old there))
        | inr other ↦ inl (ap (λ (d : Blocks). d i) same ∙ at_other old.block i old.bytes blocks other)
      ]

  -- ---- fetches

  evict_shown : (p b f : ℕ) (lru : List ℕ) (old : Option FrameValue) (io : List Bool) → IsNowhere c b →
      c.frame f ≡ old →
      AllGot (Shown c blocks)
      (evict old f (record { frame = at f (Some (new_frame p b (blocks b))) c.frame; lru = lru }) blocks io)
  evict_shown p b f lru None io fresh there = shown_filled p b f lru blocks fresh (Free there refl)
  evict_shown p b f lru (Some x) io fresh there = by_dirty x.dirty refl
    where
      e : CacheValue
      e = record { frame = at f (Some (new_frame p b (blocks b))) c.frame; lru = lru }

      by_fault : (failed : Bool) → AllGot (Shown c blocks) (elim failed as (λ _. Fetched) [
        | true ↦ Failed 2
        | false ↦ Got e (at x.block x.bytes blocks) f 2
      ])
      by_fault true = tt
      by_fault false = shown_filled p b f lru (at x.block x.bytes blocks) fresh (Written x there refl)

      by_dirty : (d : Bool) → x.dirty ≡ d → AllGot (Shown c blocks) (elim d as (λ _. Fetched) [
        | false ↦ Got e blocks f 1
        | true ↦ elim (disk_fails io 1) as (λ _. Fetched)
            [ true ↦ Failed 2 | false ↦ Got e (at x.block x.bytes blocks) f 2 ]
      ])
      by_dirty false clean = shown_filled p b f lru blocks fresh (Clean x there clean refl)
      by_dirty true dirty = by_fault (disk_fails io 1)

  free_is : (n g f : ℕ) → free_frame c n g ≡ Some f → c.frame f ≡ None
  free_is zero g f e = absurd cc
  free_is (suc n) g f e = by_frame (c.frame g) refl e (free_is n (suc g) f)
    where
      by_frame : (y : Option FrameValue) → c.frame g ≡ y →
          elim y as (λ _. Option ℕ) [ None ↦ Some g | Some r ↦ free_frame c n (suc g) ] ≡ Some f →
          (free_frame c n (suc g) ≡ Some f → c.frame f ≡ None) → c.frame f ≡ None
      by_frame None is found rest = let same : g ≡ f = cc in ap c.frame (sym same) ∙ is
      by_frame (Some r) is found rest = rest found

  read_shown : (pol : PolValue) (p b : ℕ) (answer : Option (List ℕ)) (io : List Bool) → IsNowhere c b →
      AllGot (Shown c blocks) (read_block v pol p b answer c blocks io)
  read_shown pol p b answer io fresh = by_fault (disk_fails io 0)
    where
      by_free : (free : Option ℕ) → free_frame c v.frames 0 ≡ free →
          AllGot (Shown c blocks)
          (place_block free p b (chosen_by answer (candidate_of pol c)) (candidate_of pol c) c blocks io)
      by_free (Some f) e =
          shown_filled p b f (filled f (new_frame p b (blocks b)) c).lru blocks fresh
          (Free (free_is v.frames 0 f e) refl)
      by_free None e =
          let f = chosen_by answer (candidate_of pol c) in
          evict_shown p b f (replaced f (candidate_of pol c) (new_frame p b (blocks b)) c).lru (c.frame f) io fresh refl

      by_fault : (failed : Bool) → AllGot (Shown c blocks) (elim failed as (λ _. Fetched) [
        | true ↦ Failed 1
        | false ↦ place_block (free_frame c v.frames 0) p b (chosen_by answer (candidate_of pol c))
            (candidate_of pol c) c blocks io
      ])
      by_fault true = tt
      by_fault false = by_free (free_frame c v.frames 0) refl

  pub fetch_shown : (pol : PolValue) (p b : ℕ) (answer : Option (List ℕ)) (io : List Bool) →
      AllGot (Shown c blocks) (fetch v pol p b answer c blocks io)
  fetch_shown pol p b answer io = by_found (frame_of_block c b) refl
    where
      by_found : (x : Option ℕ) → frame_of_block c b ≡ x →
          AllGot (Shown c blocks) (fetch_by x v pol p b answer c blocks io)
      by_found None e = read_shown pol p b answer io (nowhere_found v queue c sound b e)
      by_found (Some f) e = shown_self (used f c).lru

  pub ahead_shown : (pol : PolValue) (p b : ℕ) (answer : Option (List ℕ)) (io : List Bool) →
      AllGot (Shown c blocks) (fetch_ahead v pol p b answer c blocks io)
  ahead_shown pol p b answer io = by_found (frame_of_block c b) refl
    where
      by_found : (x : Option ℕ) → frame_of_block c b ≡ x →
          AllGot (Shown c blocks) (fetch_ahead_by x v pol p b answer c blocks io)
      by_found None e = read_shown pol p b answer io (nowhere_found v queue c sound b e)
      by_found (Some f) e = shown_self c.lru

-- ---- bytes that are put

-- what a frame holds of a block is seen of it
pub frame_seen : (c : CacheValue) (blocks : Blocks) (e : CacheValue) (after : Blocks) (b f : ℕ) →
    Shown c blocks e after →
    HoldsBlock b (e.frame f) → bytes_of e f ≡ seen_block c blocks b
frame_seen c blocks e after b f h holds = by_frame (e.frame f) refl holds
  where
    by_frame : (y : Option FrameValue) → e.frame f ≡ y → HoldsBlock b y →
        elim y as (λ _. List ℕ) [ None ↦ [] | Some r ↦ r.bytes ] ≡ seen_block c blocks b
    by_frame None is holds = absurd holds
    by_frame (Some x) is holds = h.in_frames f x is ∙ ap (seen_block c blocks) holds.0

-- bytes are put into the frame that holds a block
pub patch_shown : (v : World) (queue : List QueueRow) (c : CacheValue) (blocks : Blocks) (e : CacheValue)
    (after : Blocks) (b f off : ℕ) (new : List ℕ) → Shown c blocks e after → HoldsBlock b (e.frame f) →
    IsSoundCache v queue (with_patch f off new e) →
    IsCoherent (with_patch f off new e) after × ShowsPut b off new c blocks (with_patch f off new e) after
patch_shown v queue c blocks e after b f off new h holds sound = by_frame (e.frame f) refl holds
  where
    put : CacheValue
    put = with_patch f off new e

    by_frame : (y : Option FrameValue) → e.frame f ≡ y → HoldsBlock b y →
        IsCoherent put after × ShowsPut b off new c blocks put after
    by_frame None is holds = absurd holds
    by_frame (Some x) is holds = (coherent, (own, others))
      where
        value : FrameValue
        value = record x { dirty = true; bytes = bytes_with off new x.bytes }

        here : put.frame f ≡ Some value
        here = at_here f (patched off new (e.frame f)) e.frame ∙ ap (patched off new) is

        there : (g : ℕ) → g ≢ f → put.frame g ≡ e.frame g
        there g ne = at_other f g (patched off new (e.frame f)) e.frame ne

        dirty_clean : true ≡ false → ⊥
        dirty_clean z = cc

        coherent : IsCoherent put after
        coherent g y at clean = elim (cases_eq g f) [
          | inl same ↦ absurd (dirty_clean (ap (λ (z : FrameValue). z.dirty)
              (some_is value y (sym here ∙ ap put.frame (sym same) ∙ at)) ∙ clean))
          | inr ne ↦ h.coherent g y (sym (there g ne) ∙ at) clean
        ]

        own : seen_block put after b ≡ bytes_with off new (seen_block c blocks b)
        own =
            ap (seen_block put after) (sym holds.0) ∙ seen_held v queue put sound after f value here
            ∙ ap (bytes_with off new) (h.in_frames f x is ∙ ap (seen_block c blocks) holds.0)

        others : (other : ℕ) → other ≢ b → seen_block put after other ≡ seen_block c blocks other
        others other ne = by_place (place_of v queue put sound other)
          where
            by_place : Place put other → seen_block put after other ≡ seen_block c blocks other
            by_place (Held g y at block) = elim (cases_eq g f) [
              | inl same ↦ absurd (ne (sym block ∙ sym (ap (λ (z : FrameValue). z.block)
                  (some_is value y (sym here ∙ ap put.frame (sym same) ∙ at))) ∙ holds.0))
              | inr else ↦ subst (λ i. seen_block put after i ≡ seen_block c blocks i) block
                  (seen_held v queue put sound after g y at ∙ h.in_frames g y (sym (there g else) ∙ at))
            ]
            by_place (Nowhere none) =
                seen_nowhere v queue put sound after other none
                ∙ h.elsewhere other (λ g y at same. elim (cases_eq g f) [
                  | inl own ↦ ne (sym same
                      ∙ sym (ap (λ (z : FrameValue). z.block) (some_is x y (sym is ∙ ap e.frame (sym own) ∙ at)))
                      ∙ holds.0)
                  | inr else ↦ none g y (there g else ∙ at) same
                ])
