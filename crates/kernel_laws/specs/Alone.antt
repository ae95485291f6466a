-- The event of a call that is alone and ends with its first or its second piece.
use Rattle.std.specs.Prelude.{◌≡◌, ℕ, Bool, true, List, [], drop, Option, None, Ok}
use Rattle.kernel_model.specs.declared.SysCall.{SysCall}
use Rattle.kernel_model.specs.declared.Event.TheVariants.{Sys}
use Rattle.kernel_model.specs.Policies.{lives}
use Rattle.kernel_model.specs.World.{World, ImageTable, Blocks}
use Rattle.kernel_model.specs.Objects.{Objects}
use Rattle.kernel_model.specs.Meaning.{Meaning, Stage, Continues}
use Rattle.kernel_model.specs.Events.{event}
use Rattle.kernel_model.specs.Quiet.{quiet, at_rest, left_by, HasNoGraft, needs_no_user, has_ended}

-- where no call is in flight and no graft stands, the event of a call that is granted, for whose
-- needs no user lock counts, and that ends with its first piece, is that piece by default
abbrev pub EventOfOne : Meaning → Type 0
EventOfOne m =
    (p number : ℕ) (c : SysCall) (t : Stage) (v : World) (images : ImageTable) (s : Objects)
    (clock : ℕ) (blocks : Blocks) (io : List Bool) →
    lives s.things.queue p ≡ true → m.early v images p c ≡ Ok t → HasNoGraft s →
    needs_no_user (m.need v s p t) ≡ true →
    let q = m.piece v images s blocks p t None io in
    has_ended q.after ≡ true →
    event m (quiet v images s clock) blocks number (Sys p c) io
    ≡ left_by number q (at_rest v images s clock blocks [] io)

-- the same of a call that ends with its second piece: the one piece and then the other, where the
-- premises hold before each
abbrev pub EventOfTwo : Meaning → Type 0
EventOfTwo m =
    (p number : ℕ) (c : SysCall) (t u : Stage) (v : World) (images : ImageTable) (s : Objects)
    (clock : ℕ) (blocks : Blocks) (io : List Bool) →
    lives s.things.queue p ≡ true → m.early v images p c ≡ Ok t → HasNoGraft s →
    needs_no_user (m.need v s p t) ≡ true →
    let q = m.piece v images s blocks p t None io in
    q.after ≡ Continues u → HasNoGraft q.objects → needs_no_user (m.need v q.objects p u) ≡ true →
    let w = m.piece v images q.objects q.blocks p u None (drop q.calls io) in
    has_ended w.after ≡ true →
    event m (quiet v images s clock) blocks number (Sys p c) io
    ≡ left_by number w (left_by number q (at_rest v images s clock blocks [] io))
