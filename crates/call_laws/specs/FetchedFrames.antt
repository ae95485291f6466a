-- The frame that a fetch names holds the block that was fetched, whole.
use Rattle.std.specs.Prelude.{◌≡◌, ℕ, ◌==◌, Bool, true, false, length, List, [], ◌∷◌, Option, Some, None, ⊤}
use Rattle.std.proofs.Common.{refl, sym, subst}
use Rattle.std.proofs.lemmas.Bool.{eqb-true}
use Rattle.kernel_model.specs.declared.QueueRow.{QueueRow}
use Rattle.kernel_model.specs.World.{World, Blocks}
use Rattle.kernel_model.specs.Objects.{CacheValue, FrameValue, PolValue, at}
use Rattle.kernel_model.specs.Meaning.{disk_fails}
use Rattle.kernel_model.specs.Needs.{frame_with, frame_of_block, free_frame}
use Rattle.kernel_model.specs.Fetch.{Fetched, Got, Failed, fetch, fetch_by, read_block, place_block}
use Rattle.kernel_model.specs.Fetch.{evict, chosen_by, replaced, new_frame}
use Rattle.call_laws.specs.FetchCases.{candidate_of}
use Rattle.call_laws.specs.Ledgers.{at_here}
use Rattle.call_laws.specs.SoundCaches.{IsSoundCache}

-- a frame holds this block, whole
abbrev pub HoldsBlock : ℕ → Option FrameValue → Type 0
HoldsBlock b None = ⊥
HoldsBlock b (Some x) = (x.block ≡ b) × (length x.bytes ≡ 512)

-- the frame that a fetch names does, unless it failed
abbrev pub NamesBlock : ℕ → Fetched → Type 0
NamesBlock b (Failed calls) = ⊤
NamesBlock b (Got cache after frame calls) = HoldsBlock b (cache.frame frame)

-- a frame that is found holds the block
pub found_holds : (v : World) (queue : List QueueRow) (c : CacheValue) (b : ℕ) (fs : List ℕ)
    (f : ℕ) → IsSoundCache v queue c → frame_with c b fs ≡ Some f → HoldsBlock b (c.frame f)
found_holds v queue c b [] f sound e = absurd cc
found_holds v queue c b (g ∷ fs) f sound e =
    by_frame (c.frame g) refl e (λ rest. found_holds v queue c b fs f sound rest)
  where
    -- the first frame is the one that is found
    here : (x : FrameValue) → c.frame g ≡ Some x → (x.block == b) ≡ true → Some g ≡ Some f →
        HoldsBlock b (c.frame f)
    here x there same one =
        let first : g ≡ f = cc in
        subst (λ h. HoldsBlock b (c.frame h)) first
        (subst (HoldsBlock b) (sym there)
        (eqb-true x.block b same, (sound.frames g x there).bytes))

    -- by whether it holds the block
    by_test : (x : FrameValue) → c.frame g ≡ Some x → (t : Bool) → (x.block == b) ≡ t →
        elim t as (λ (q : Bool). Option ℕ) [ true ↦ Some g | false ↦ frame_with c b fs ] ≡ Some f →
        (frame_with c b fs ≡ Some f → HoldsBlock b (c.frame f)) → HoldsBlock b (c.frame f)
    by_test x there true same one rest = here x there same one
    by_test x there false same found rest = rest found

    -- by what the first frame holds
    by_frame : (x : Option FrameValue) → c.frame g ≡ x →
        elim x as (λ (q : Option FrameValue). Option ℕ) [
          | None ↦ frame_with c b fs
          | Some r ↦ elim (r.block == b) as (λ (q : Bool). Option ℕ) [
            | true ↦ Some g
            | false ↦ frame_with c b fs
          ]
        ] ≡ Some f →
        (frame_with c b fs ≡ Some f → HoldsBlock b (c.frame f)) → HoldsBlock b (c.frame f)
    by_frame None there found rest = rest found
    by_frame (Some x) there found rest = by_test x there (x.block == b) refl found rest

-- a frame that was just filled holds the block
filled_holds : (p b f : ℕ) (bytes : List ℕ) (frame : ℕ → Option FrameValue) →
    length bytes ≡ 512 → HoldsBlock b (at f (Some (new_frame p b bytes)) frame f)
filled_holds p b f bytes frame whole =
    subst (HoldsBlock b) (sym (at_here f (Some (new_frame p b bytes)) frame)) (refl, whole)

-- so does one out of which another block was put
evict_names : (b : ℕ) (old : Option FrameValue) (f : ℕ) (after : CacheValue) (blocks : Blocks)
    (io : List Bool) → HoldsBlock b (after.frame f) → NamesBlock b (evict old f after blocks io)
evict_names b None f after blocks io holds = holds
evict_names b (Some old) f after blocks io holds =
    elim old.dirty as (λ (dirty : Bool). NamesBlock b (elim dirty as (λ (q : Bool). Fetched) [
      | false ↦ Got after blocks f 1
      | true ↦ elim (disk_fails io 1) as (λ (q : Bool). Fetched) [
        | true ↦ Failed 2
        | false ↦ Got after (at old.block old.bytes blocks) f 2
      ]
    ])) [
      | false ↦ holds
      | true ↦ elim (disk_fails io 1) as
          (λ (q : Bool). NamesBlock b (elim q as (λ (z : Bool). Fetched) [
            | true ↦ Failed 2
            | false ↦ Got after (at old.block old.bytes blocks) f 2
          ])) [ true ↦ tt | false ↦ holds ]
    ]

-- wherever the block that was read goes
place_names : (free : Option ℕ) (p b chosen candidate : ℕ) (c : CacheValue) (blocks : Blocks)
    (io : List Bool) → length (blocks b) ≡ 512 →
    NamesBlock b (place_block free p b chosen candidate c blocks io)
place_names (Some f) p b chosen candidate c blocks io whole =
    filled_holds p b f (blocks b) c.frame whole
place_names None p b chosen candidate c blocks io whole =
    evict_names b (c.frame chosen) chosen
    (replaced chosen candidate (new_frame p b (blocks b)) c) blocks io
    (filled_holds p b chosen (blocks b) c.frame whole)

-- a block that is read
read_names : (v : World) (pol : PolValue) (p b : ℕ) (answer : Option (List ℕ)) (c : CacheValue)
    (blocks : Blocks) (io : List Bool) → length (blocks b) ≡ 512 →
    NamesBlock b (read_block v pol p b answer c blocks io)
read_names v pol p b answer c blocks io whole =
    elim (disk_fails io 0) as (λ (q : Bool). NamesBlock b (elim q as (λ (z : Bool). Fetched) [
      | true ↦ Failed 1
      | false ↦ place_block (free_frame c v.frames 0) p b (chosen_by answer (candidate_of pol c))
          (candidate_of pol c) c blocks io
    ])) [
      | true ↦ tt
      | false ↦ place_names (free_frame c v.frames 0) p b (chosen_by answer (candidate_of pol c))
          (candidate_of pol c) c blocks io whole
    ]

-- a fetch, by the frame that holds the block already
fetch_by_names : (held : Option ℕ) (v : World) (queue : List QueueRow) (pol : PolValue) (p b : ℕ)
    (answer : Option (List ℕ)) (c : CacheValue) (blocks : Blocks) (io : List Bool) →
    IsSoundCache v queue c → length (blocks b) ≡ 512 → frame_of_block c b ≡ held →
    NamesBlock b (fetch_by held v pol p b answer c blocks io)
fetch_by_names None v queue pol p b answer c blocks io sound whole e =
    read_names v pol p b answer c blocks io whole
fetch_by_names (Some f) v queue pol p b answer c blocks io sound whole e =
    found_holds v queue c b c.lru f sound e

-- a fetch
pub fetch_names : (v : World) (queue : List QueueRow) (pol : PolValue) (p b : ℕ)
    (answer : Option (List ℕ)) (c : CacheValue) (blocks : Blocks) (io : List Bool) →
    IsSoundCache v queue c → length (blocks b) ≡ 512 →
    NamesBlock b (fetch v pol p b answer c blocks io)
fetch_names v queue pol p b answer c blocks io sound whole =
    fetch_by_names (frame_of_block c b) v queue pol p b answer c blocks io sound whole refl
