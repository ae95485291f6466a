-- A `sync` that ends well leaves no dirty frame, and the disk as the cache has it.
use Rattle.std.specs.Prelude.{◌≡◌, ◌≢◌, ◌⊎◌, ℕ, zero, suc, ◌+◌, ◌<◌, Bool, true, false, cond}
use Rattle.std.specs.Prelude.{List, Option, Some, None}
use Rattle.std.specs.Prelude.{is_some}
use Rattle.std.proofs.Common.{arith, refl, sym, ap, subst, ◌∙◌, inl, inr}
use Rattle.std.proofs.lemmas.Bool.{cases_eq}
use Rattle.script_model.specs.declared.Refusal.TheVariants.{DiskFault}
use Rattle.script_model.specs.declared.Reply.{Reply}
use Rattle.script_model.specs.World.{Blocks}
use Rattle.script_model.specs.Objects.{Objects, FrameValue, at}
use Rattle.script_model.specs.Fetch.{dirty_value, cleaned}
use Rattle.script_model.specs.FilePieces.{with_cache, disk_failed, sync_from}
use Rattle.script_model.specs.Meaning.{Piece, EndsWith, Fails, disk_fails}
use Rattle.call_laws.specs.Ledgers.{at_here, at_other}
use Rattle.call_laws.specs.Syncs.{dirty_in_use}
use Rattle.session_laws.specs.Syncs.{IsWrittenBack}
use Rattle.session_laws.proofs.SyncLemmas.{syncs_write_back_alone}
use Rattle.run_laws.specs.Seen.{SyncsEndWritten}
use Rattle.run_laws.proofs.PieceSeenLemmas.{sync_shown}

-- the frames below a number are clean
abbrev CleanBelow : ℕ → Objects → Type 0
CleanBelow n s = (g : ℕ) → g < n → dirty_value (s.things.cache.frame g) ≡ None

clean_value : (value : FrameValue) → dirty_value (Some (record value { dirty = false })) ≡ None
clean_value value = refl

-- one more frame is clean
clean_more : (f : ℕ) (s : Objects) → CleanBelow f s → dirty_value (s.things.cache.frame f) ≡ None → CleanBelow (suc f) s
clean_more f s h here g low = elim (cases_eq g f) [
  | inl same ↦ ap (λ i. dirty_value (s.things.cache.frame i)) same ∙ here
  | inr ne ↦ h g (lower g f low ne)
]
  where
    lower : (g f : ℕ) → g < suc f → g ≢ f → g < f
    lower g f low ne = omega (arith, low, ne)

-- a frame that was written is clean, and those below it stay so
clean_written : (f : ℕ) (value : FrameValue) (s : Objects) → CleanBelow f s →
    CleanBelow (suc f) (with_cache (cleaned f value s.things.cache) s)
clean_written f value s h g low = elim (cases_eq g f) [
  | inl same ↦ ap (λ i. dirty_value (at f (Some (record value { dirty = false })) s.things.cache.frame i)) same
      ∙ ap dirty_value (at_here f (Some (record value { dirty = false })) s.things.cache.frame)
  | inr ne ↦ ap dirty_value (at_other f g (Some (record value { dirty = false })) s.things.cache.frame ne)
      ∙ h g (lower g f low ne)
]
  where
    lower : (g f : ℕ) → g < suc f → g ≢ f → g < f
    lower g f low ne = omega (arith, low, ne)

clean_from : (n f written : ℕ) (s : Objects) (blocks : Blocks) (io : List Bool) (reply : Reply) → CleanBelow f s →
    (sync_from n f written s blocks io).after ≡ EndsWith reply →
    CleanBelow (f + n) (sync_from n f written s blocks io).objects
clean_from zero f written s blocks io reply h ends =
    subst (λ i. CleanBelow i s) (none_more f) h
  where
    none_more : (f : ℕ) → f ≡ f + 0
    none_more f = omega arith
clean_from (suc n) f written s blocks io reply h ends =
    by_frame (dirty_value (s.things.cache.frame f)) refl ends
    (λ i u d. clean_from n (suc f) i u d io reply)
  where
    one_more : (f n : ℕ) → suc f + n ≡ f + suc n
    one_more f n = omega arith

    Rest : Type 0
    Rest = (i : ℕ) (u : Objects) (d : Blocks) → CleanBelow (suc f) u →
        (sync_from n (suc f) i u d io).after ≡ EndsWith reply →
        CleanBelow (suc f + n) (sync_from n (suc f) i u d io).objects

    by_fault : (value : FrameValue) (failed : Bool) →
        let q = elim failed as (λ _. Piece) [
          | true ↦ disk_failed s blocks (suc written)
          | false ↦ sync_from n (suc f) (suc written) (with_cache (cleaned f value s.things.cache) s)
              (at value.block value.bytes blocks) io
        ] in
        q.after ≡ EndsWith reply → Rest → CleanBelow (f + suc n) q.objects
    by_fault value true ends rest = absurd (bad ends)
      where
        bad : Fails DiskFault ≡ EndsWith reply → ⊥
        bad e = cc
    by_fault value false ends rest =
        let u = with_cache (cleaned f value s.things.cache) s in
        subst (λ i. CleanBelow i (sync_from n (suc f) (suc written) u (at value.block value.bytes blocks) io).objects)
        (one_more f n)
        (rest (suc written) u (at value.block value.bytes blocks) (clean_written f value s h) ends)

    by_frame : (x : Option FrameValue) → dirty_value (s.things.cache.frame f) ≡ x →
        let q = elim x as (λ _. Piece) [
          | None ↦ sync_from n (suc f) written s blocks io
          | Some value ↦ elim (disk_fails io written) as (λ _. Piece) [
            | true ↦ disk_failed s blocks (suc written)
            | false ↦ sync_from n (suc f) (suc written) (with_cache (cleaned f value s.things.cache) s)
                (at value.block value.bytes blocks) io
          ]
        ] in
        q.after ≡ EndsWith reply → Rest → CleanBelow (f + suc n) q.objects
    by_frame None e ends rest =
        subst (λ i. CleanBelow i (sync_from n (suc f) written s blocks io).objects) (one_more f n)
        (rest written s blocks (clean_more f s h e) ends)
    by_frame (Some value) e ends rest = by_fault value (disk_fails io written) ends rest

pub syncs_end_written : SyncsEndWritten
syncs_end_written v s blocks p n answer io reply sound coherent ends f x is =
    let q = sync_from v.frames 0 0 s blocks io in
    let h = syncs_write_back_alone v s blocks p n answer io sound in
    let shown = sync_shown v s blocks q sound coherent h in
    let clean = is_clean x (sym (ap dirty_value is)
    ∙ clean_from v.frames 0 0 s blocks io reply (λ g low. absurd (none g low)) ends f
    (from_zero f v.frames (below f x is (h.frames f)))) in
    (clean, shown.coherent f x is clean)
  where
    none : (g : ℕ) → g < 0 → ⊥
    none g h = omega arith

    from_zero : (f n : ℕ) → f < n → f < 0 + n
    from_zero f n h = omega arith

    is_clean : (x : FrameValue) → dirty_value (Some x) ≡ None → x.dirty ≡ false
    is_clean x e = by_dirty x.dirty refl e
      where
        by_dirty : (b : Bool) → x.dirty ≡ b → cond b (Some x) None ≡ None → x.dirty ≡ false
        by_dirty true d e = absurd cc
        by_dirty false d e = d

    below : (f : ℕ) (x : FrameValue) → (sync_from v.frames 0 0 s blocks io).objects.things.cache.frame f ≡ Some x →
        ((sync_from v.frames 0 0 s blocks io).objects.things.cache.frame f ≡ s.things.cache.frame f)
        ⊎ IsWrittenBack s (sync_from v.frames 0 0 s blocks io) f → f < v.frames
    below f x is (inl same) = sound.frame_numbers f (ap is_some (sym same ∙ is))
    below f x is (inr w) = sound.frame_numbers f (ap is_some (dirty_in_use (s.things.cache.frame f) w.value w.dirty))
