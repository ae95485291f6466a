-- The checks of answers are those of the points.
use Rattle.std.proofs.Common.{◌≡◌, ℕ, List, refl, sym, subst}
use Rattle.kernel_model.specs.declared.FrameRow.{FrameRow}
use Rattle.kernel_model.specs.declared.QueueRow.{QueueRow}
use Rattle.kernel_model.specs.Objects.{Things}
use Rattle.kernel_model.specs.Policies.{PointKind, kind_of, valid, valid_by, lives}
use Rattle.kernel_model.specs.Policies.PointKind.{Victim, Next}
use Rattle.graft_points.specs.Views.{OwnersOf, is_owned_row}

pub victim_accepted : (rows : List FrameRow) (w : Things) (q pt : ℕ) (args : List ℕ) (r0 r1 : ℕ) →
    kind_of pt ≡ Victim → OwnersOf w.cache rows → is_owned_row rows q r0 ≡ valid w q pt args r0 r1
victim_accepted rows w q pt args r0 r1 kind owners =
    let P : PointKind → Type 0 = λ k. is_owned_row rows q r0 ≡ valid_by k w q args r0 r1 in
    subst P (sym kind) (sym (owners.owned q r0))

pub next_accepted : (rows : List QueueRow) (w : Things) (q pt : ℕ) (args : List ℕ) (r0 r1 : ℕ) →
    kind_of pt ≡ Next → w.queue ≡ rows → lives rows r0 ≡ valid w q pt args r0 r1
next_accepted rows w q pt args r0 r1 kind same =
    let P : PointKind → Type 0 = λ k. lives rows r0 ≡ valid_by k w q args r0 r1 in
    subst P (sym kind) (rw same refl)
