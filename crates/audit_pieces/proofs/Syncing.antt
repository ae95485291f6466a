-- The dirty frames, written one after the other.
use Rattle.std.proofs.Common.{◌≡◌, ℕ, suc, ◌+◌, [], None, refl, sym, ap, ◌∙◌, add-one}
use Rattle.kernel_model.specs.declared.Reply.TheVariants.{One}
use Rattle.kernel_model.specs.FilePieces.{sync_from}
use Rattle.kernel_model.specs.Meaning as model
use Rattle.kernel_model.specs.Objects.{Objects}
use Rattle.kernel_model.specs.World.{Blocks}
use Rattle.audit_needs.specs.declared.Stage.{Stage}
use Rattle.audit_pieces.specs.declared.Store.{Store}
use Rattle.audit_pieces.specs.declared.PieceEnd.{PieceEnd}
use Rattle.audit_pieces.specs.Ends.{left_of, left_by, gave_of, after_of}
use Rattle.audit_pieces.specs.Stores.{objects_of, blocks_of}

-- one frame more
pub one_synced : (s t : Objects) (b d : Blocks) (m n f g h w x : ℕ) (whole : model.Piece) →
    m ≡ suc n → g ≡ f → h ≡ f + 1 →
    ((k : ℕ) → sync_from k (suc g) x t d [] ≡ sync_from (suc k) g w s b []) →
    sync_from m f w s b [] ≡ whole → sync_from n h x t d [] ≡ whole
one_synced s t b d m n f g h w x whole less same next step so_far =
    rw (next, add-one)
    (rw same at (step n) ∙ sym (ap (λ (k : ℕ). sync_from k f w s b []) less) ∙ so_far)

-- none is left: the call answers how many were written
pub all_synced : (s : Store) (t : Stage) (e : PieceEnd) (n f w : ℕ) (whole : model.Piece) →
    n ≡ 0 → gave_of e ≡ None → after_of e.after t ≡ model.EndsWith (One w) →
    sync_from n f w (objects_of s) (blocks_of s) [] ≡ whole → left_of s t e ≡ left_by whole
all_synced s t e n f w whole none gave after so_far =
    let left : left_of s t e ≡ left_by (sync_from 0 f w (objects_of s) (blocks_of s) []) =
    rw (gave, after) refl in
    left ∙ ap left_by
    (sym (ap (λ (k : ℕ). sync_from k f w (objects_of s) (blocks_of s) []) none) ∙ so_far)
