-- Calls of stream points but reads and writes.
use Rattle.std.proofs.Common.{◌≡◌, ℕ, List, refl}
use Rattle.kernel_model.specs.declared.BareCall.{BareCall}
use Rattle.kernel_model.specs.declared.BareCall.TheVariants as bare
use Rattle.kernel_model.specs.Bare.{call_with}
use Rattle.kernel_model.specs.Meaning.{Stage}
use Rattle.kernel_model.specs.Needs.{piece_needs}
use Rattle.kernel_model.specs.StreamPoints.{stream_needs}
use Rattle.kernel_model.specs.Objects.{Objects}
use Rattle.kernel_model.specs.World.{World}

-- they need what plain calls do
pub needs_as_plain : (c : BareCall) (given : List ℕ) (t : Stage) (v : World) (s : Objects) (p : ℕ) →
    ((fd i off len : ℕ) → c ≡ bare.StreamRead fd i off len → ⊥) →
    ((fd i off : ℕ) → c ≡ bare.StreamWrite fd i off → ⊥) →
    stream_needs (call_with c given) t v s p ≡ piece_needs (call_with c given) t.piece v s p
needs_as_plain bare.Spawn given t v s p r w = refl
needs_as_plain bare.Exit given t v s p r w = refl
needs_as_plain bare.Yield given t v s p r w = refl
needs_as_plain bare.OpenName given t v s p r w = refl
needs_as_plain (bare.CloseFd fd) given t v s p r w = refl
needs_as_plain (bare.Read fd i off len) given t v s p r w = refl
needs_as_plain (bare.Write fd i off) given t v s p r w = refl
needs_as_plain bare.Sync given t v s p r w = refl
needs_as_plain (bare.TakeLock u) given t v s p r w = refl
needs_as_plain (bare.FreeLock u) given t v s p r w = refl
needs_as_plain (bare.Poke k x) given t v s p r w = refl
needs_as_plain (bare.Peek k) given t v s p r w = refl
needs_as_plain (bare.Tune kind k x) given t v s p r w = refl
needs_as_plain (bare.Choose kind j) given t v s p r w = refl
needs_as_plain (bare.Give q kind n) given t v s p r w = refl
needs_as_plain (bare.Install pt i limit) given t v s p r w = refl
needs_as_plain (bare.Remove pt) given t v s p r w = refl
needs_as_plain (bare.Fund pt kind n) given t v s p r w = refl
needs_as_plain (bare.Bill pt) given t v s p r w = refl
needs_as_plain (bare.Serve port) given t v s p r w = refl
needs_as_plain (bare.StreamRead fd i off len) given t v s p r w = absurd (r fd i off len refl)
needs_as_plain (bare.StreamWrite fd i off) given t v s p r w = absurd (w fd i off refl)
