-- A call that was granted may take its first piece.
use Rattle.std.proofs.Common.{◌≡◌, ℕ, ◌≤◌, true, Option, None, refl, sym, ◌∙◌, ap, arith}
use Rattle.std.specs.Result.{is_ok}
use Rattle.std.proofs.lemmas.Bool.Decides.{nat_tests}
use Rattle.kernel_model.specs.declared.SysCall.{SysCall}
use Rattle.kernel_model.specs.declared.SysCall.TheVariants.{Yield, Read}
use Rattle.kernel_model.specs.declared.Refusal.{Refusal}
use Rattle.kernel_model.specs.World.{World, ImageTable}
use Rattle.kernel_model.specs.Objects.{Objects, Things}
use Rattle.kernel_model.specs.Meaning.{stage}
use Rattle.kernel_model.specs.Early.{call_refusal, begins_unless}
use Rattle.kernel_model.specs.Policies.{lives}
use Rattle.kernel_model.specs.Pieces.{plain_upto, piece_fits, pieces_left}
use Rattle.kernel_model.specs.ImageMask.{TellsImages}
use Rattle.call_needs.specs.Masks.{table_of_mask, mask_tells}
use Rattle.call_needs.specs.Works.{IsDue}
use Rattle.call_needs.proofs.Grants.{Granted, read_granted}

first_fits : (top : ℕ) (v : World) (c : SysCall) (w : Things) (p : ℕ) → Granted top v p c →
    piece_fits c 0 w p ≡ true
first_fits top v Yield w p h = refl
first_fits top v (Read fd i off len) w p h =
    let low = (read_granted top v p (Read fd i off len) fd i off len h refl).0 in
    grind (arith, nat_tests, low)
first_fits top v _ w p h = refl

first_left : (c : SysCall) (w : Things) (p : ℕ) → 1 ≤ pieces_left c 0 w p
first_left Yield w p = omega arith
first_left (Read fd i off len) w p = omega arith
first_left _ w p = omega arith

pub most_left : (c : SysCall) (w : Things) (p : ℕ) → pieces_left c 0 w p ≤ 15
most_left Yield w p = omega arith
most_left (Read fd i off len) w p = omega arith
most_left _ w p = omega arith

pub may_come : (top : ℕ) (v : World) (s : Objects) (bits p : ℕ) (c k : SysCall) → k ≡ c →
    lives s.things.queue p ≡ true →
    ((table : ImageTable) → TellsImages bits table → None ≡ call_refusal top v table p c) →
    IsDue (plain_upto top) v s p (stage k 0)
may_come top v s bits p c k same alive granted =
    let known : is_ok (begins_unless k (call_refusal top v (table_of_mask bits) p k)) ≡ true =
    ap (λ x. is_ok (begins_unless x (call_refusal top v (table_of_mask bits) p x))) same
    ∙ ap (λ (x : Option Refusal). is_ok (begins_unless c x))
    (sym (granted (table_of_mask bits) (mask_tells bits))) in
    record {
      images = table_of_mask bits;
      alive = alive;
      granted = known;
      fits = first_fits top v k s.things p (table_of_mask bits, known);
      left = first_left k s.things p;
    }
