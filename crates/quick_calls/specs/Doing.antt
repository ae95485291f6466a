-- What the piece of a quick call did, by which call it is: for the arms of a `match` over the call.
use Rattle.std.specs.Prelude.{◌≡◌}
use Rattle.std.proofs.Common.{sym, subst}
use Rattle.kernel_model.specs.declared.BareCall.{BareCall}
use Rattle.kernel_model.specs.Bare.{call_with}
use Rattle.call_pieces.specs.declared.Next.{Next}
use Rattle.call_pieces.specs.declared.Store.{Store}
use Rattle.call_pieces.specs.declared.Work.{Work}
use Rattle.call_pieces.specs.Shared.{EndsAtOnce}
use Rattle.call_pieces.specs.Stores.{objects_of}
use Rattle.call_pieces.specs.Works.{call_of}
use Rattle.quick_calls.specs.QuickTables.{QuickTable, piece_of_outcome}

-- a piece of this call is one of the call that is in flight, where that is it
pub does_as : {B : Type 0} {P : _} (x : QuickTable) (w : Work) (k : BareCall) (old new : Store B P)
    (next : Next) → w.call ≡ k →
    EndsAtOnce (λ blocks. piece_of_outcome (objects_of old) blocks
    (x.does (call_with k w.bytes.items) (objects_of old) w.caller)) old new next →
    EndsAtOnce (λ blocks. piece_of_outcome (objects_of old) blocks
    (x.does (call_of w) (objects_of old) w.caller)) old new next
does_as x w k old new next is came =
    subst (λ (c : BareCall). EndsAtOnce (λ blocks. piece_of_outcome (objects_of old) blocks
    (x.does (call_with c w.bytes.items) (objects_of old) w.caller)) old new next) (sym is) came
