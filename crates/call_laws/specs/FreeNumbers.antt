-- The least free process, frame and descriptor: they are free, and below their bounds.
use Rattle.std.specs.Prelude.{◌≡◌, ℕ, zero, suc, ◌+◌, ◌<◌, ◌≤◌, Bool, true, false, List, Option, None, Some, is_some}
use Rattle.std.proofs.Common.{arith, refl, subst, ap, inl, inr}
use Rattle.std.proofs.lemmas.Bool.{cases_eq}
use Rattle.kernel_model.specs.declared.QueueRow.{QueueRow}
use Rattle.kernel_model.specs.declared.OpenRow.{OpenRow}
use Rattle.kernel_model.specs.Objects.{Things, CacheValue, FrameValue}
use Rattle.kernel_model.specs.Policies.{lives}
use Rattle.kernel_model.specs.Needs.{free_process, free_frame}
use Rattle.kernel_model.specs.FilePieces.{free_descriptor}

-- a number found free, between its bounds
pub record IsFreeDescriptor (w : Things) (p n k fd : ℕ) : Type 0 where
  pub free : w.file p fd ≡ None
  pub low : k ≤ fd
  pub high : fd < k + n

-- a process found free, between its bounds
pub record IsFreeProcess (queue : List QueueRow) (n k c : ℕ) : Type 0 where
  pub free : lives queue c ≡ false
  pub low : k ≤ c
  pub high : c < k + n

-- a frame found free, between its bounds
pub record IsFreeFrame (c : CacheValue) (n k f : ℕ) : Type 0 where
  pub free : c.frame f ≡ None
  pub low : k ≤ f
  pub high : f < k + n

-- a descriptor that is found is free
pub free_descriptor_is : (w : Things) (p n k fd : ℕ) → free_descriptor w p n k ≡ Some fd →
    IsFreeDescriptor w p n k fd
free_descriptor_is w p zero k fd h = cc
free_descriptor_is w p (suc n) k fd h =
    (elim (w.file p k) as (λ (x : Option OpenRow). w.file p k ≡ x →
    elim x as (λ (y : Option OpenRow). Option ℕ) [
      | None ↦ Some k
      | Some o ↦ free_descriptor w p n (suc k)
    ] ≡ Some fd →
    IsFreeDescriptor w p (suc n) k fd) [
      | None ↦ λ e found. let same : k ≡ fd = cc in
          record {
            free = subst (λ i. w.file p i ≡ None) same e;
            low = omega arith;
            high = omega arith;
          }
      | Some o ↦ λ e found. let d = free_descriptor_is w p n (suc k) fd found in
          record { free = d.free; low = omega arith; high = omega arith }
    ]) refl h

-- a process that is found is free
pub free_process_is : (queue : List QueueRow) (n k c : ℕ) → free_process queue n k ≡ Some c →
    IsFreeProcess queue n k c
free_process_is queue zero k c h = cc
free_process_is queue (suc n) k c h =
    (elim (lives queue k) as (λ (x : Bool). lives queue k ≡ x →
    elim x as (λ (y : Bool). Option ℕ) [ true ↦ free_process queue n (suc k) | false ↦ Some k ]
    ≡ Some c → IsFreeProcess queue (suc n) k c) [
      | false ↦ λ e found. let same : k ≡ c = cc in
          record {
            free = subst (λ i. lives queue i ≡ false) same e;
            low = omega arith;
            high = omega arith;
          }
      | true ↦ λ e found. let d = free_process_is queue n (suc k) c found in
          record { free = d.free; low = omega arith; high = omega arith }
    ]) refl h

-- a frame that is found is free
pub free_frame_is : (c : CacheValue) (n k f : ℕ) → free_frame c n k ≡ Some f → IsFreeFrame c n k f
free_frame_is c zero k f h = cc
free_frame_is c (suc n) k f h =
    (elim (c.frame k) as (λ (x : Option FrameValue). c.frame k ≡ x →
    elim x as (λ (y : Option FrameValue). Option ℕ) [
      | None ↦ Some k
      | Some r ↦ free_frame c n (suc k)
    ] ≡ Some f → IsFreeFrame c (suc n) k f) [
      | None ↦ λ e found. let same : k ≡ f = cc in
          record {
            free = subst (λ i. c.frame i ≡ None) same e;
            low = omega arith;
            high = omega arith;
          }
      | Some r ↦ λ e found. let d = free_frame_is c n (suc k) f found in
          record { free = d.free; low = omega arith; high = omega arith }
    ]) refl h

-- where no frame is free, each is in use
pub no_free_frame : (c : CacheValue) (n k f : ℕ) → free_frame c n k ≡ None → k ≤ f → f < k + n →
    is_some (c.frame f) ≡ true
no_free_frame c zero k f h low high = absurd (omega arith)
no_free_frame c (suc n) k f h low high =
    (elim (c.frame k) as (λ (x : Option FrameValue). c.frame k ≡ x →
    elim x as (λ (y : Option FrameValue). Option ℕ) [
      | None ↦ Some k
      | Some r ↦ free_frame c n (suc k)
    ] ≡ None → is_some (c.frame f) ≡ true) [
      | None ↦ λ e found. cc
      | Some r ↦ λ e found. elim (cases_eq k f) [
        | inl same ↦ subst (λ i. is_some (c.frame i) ≡ true) same (ap is_some e)
        | inr other ↦ no_free_frame c n (suc k) f found (omega arith) (omega arith)
      ]
    ]) refl h
