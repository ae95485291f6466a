-- Quick calls that are refused at once, and those that are granted.
use Rattle.std.specs.Prelude.{◌≡◌, ℕ, true, false, None}
use Rattle.std.specs.Result.{is_ok}
use Rattle.std.proofs.Common.{refl, sym, ap, arith}
use Rattle.kernel_model.specs.declared.SysCall.{SysCall}
use Rattle.kernel_model.specs.World.{World, ImageTable}
use Rattle.kernel_model.specs.Objects.{Objects}
use Rattle.kernel_model.specs.Policies.{lives}
use Rattle.kernel_model.specs.Meaning.{Stage, stage}
use Rattle.kernel_model.specs.Early.{begins_unless}
use Rattle.call_pieces.specs.EarlyFaults.{HasNoEarlyFault, begins_not_for_disk}
use Rattle.call_pieces.specs.Works.{IsDue}
use Rattle.quick_calls.specs.QuickTables.{QuickTable, quick_meaning}
use Rattle.quick_calls.specs.QuickLaws.{QuickLaws, laws_of_quick, granted_none}

-- no call of the table is refused at once because the disk failed
pub quick_has_no_early_fault : (x : QuickTable) → QuickLaws x → HasNoEarlyFault (quick_meaning x)
quick_has_no_early_fault x l =
    λ v images p c. begins_not_for_disk c (x.refusal p c) (l.no_early_fault p c)

-- a call that isn't refused may take its piece
pub may_come : (x : QuickTable) → QuickLaws x → (v : World) (s : Objects) (p : ℕ) (c : SysCall) →
    lives s.things.queue p ≡ true → x.refusal p c ≡ None → IsDue (quick_meaning x) v s p (stage c 0)
may_come x l v s p c alive none =
    let images : ImageTable = λ k. None in
    let begins : (quick_meaning x).early v images p c ≡ begins_unless c None =
    ap (λ (r : _). begins_unless c r) none in
    record {
      images = images;
      alive = alive;
      granted = ap (λ (r : _). is_ok r) begins;
      fits = (laws_of_quick x l).stages.first v images s p c (stage c 0) begins;
      left = omega arith;
    }

-- a call whose piece may come isn't refused
pub due_none : (x : QuickTable) (v : World) (s : Objects) (p : ℕ) (t : Stage) →
    IsDue (quick_meaning x) v s p t → x.refusal p t.call ≡ None
due_none x v s p t due = granted_none t.call (x.refusal p t.call) due.granted
