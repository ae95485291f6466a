-- The lowest free descriptor, step by step.
use Rattle.std.proofs.Common.{◌≡◌, ℕ, zero, suc, ◌+◌, ◌<◌, Option, Some, None}
use Rattle.std.proofs.Common.{refl, subst, sym, arith, add-one}
use Rattle.kernel_model.specs.declared.OpenRow.{OpenRow}
use Rattle.kernel_model.specs.Objects.{Things}
use Rattle.kernel_model.specs.FilePieces.{free_descriptor}

-- one that has a file is passed over
pub descriptor_used : (w : Things) (p n m d e : ℕ) (o : OpenRow) → n ≡ suc m → e ≡ d + 1 →
    w.file p d ≡ Some o → free_descriptor w p n d ≡ free_descriptor w p m e
descriptor_used w p n m d e o k i h =
    rw (k, i, add-one)
    (subst (λ (o : Option OpenRow). elim o [ None ↦ Some d | Some r ↦ free_descriptor w p m (suc d) ]
    ≡ free_descriptor w p m (suc d)) (sym h) refl)

-- one that has none is found
pub descriptor_free : (w : Things) (p n d : ℕ) → 0 < n → w.file p d ≡ None →
    free_descriptor w p n d ≡ Some d
descriptor_free w p zero d some h = absurd (omega arith)
descriptor_free w p (suc m) d some h =
    subst (λ (o : Option OpenRow). elim o [ None ↦ Some d | Some r ↦ free_descriptor w p m (suc d) ] ≡ Some d)
    (sym h) refl

-- none is left
pub descriptor_none : (w : Things) (p n d : ℕ) → n ≡ 0 → free_descriptor w p n d ≡ None
descriptor_none w p n d e = rw e refl
