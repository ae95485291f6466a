use Rattle.std.proofs.Common.{◌≡◌, ℕ, List, [], ◌∷◌, length, sym, ap, ◌∙◌}
use Rattle.std.proofs.lemmas.List.{length-map}
use Rattle.kernel_model.specs.Levels as levels
use Rattle.kernel_model.specs.Locks.{Touched, untouched}
use Rattle.kernel_model.specs.Policies.{PointKind, kind_of, args_by}
use Rattle.graft_loader.specs.Slots.{table_of}
use Rattle.audit_state.specs.Worlds.{world_of}
use Rattle.audit_levels.specs.declared.Level.{Level}
use Rattle.audit_levels.specs.declared.Touch.{Touch}
use Rattle.audit_levels.specs.Levels.{level_of, levels_of, now_of, touched_of}
use Rattle.audit_levels.proofs.asks.begin_level.Goals as goal

pub returns : goal.returns
returns c = λ bytes.
    let config = c.args.config.now in
    let w = now_of bytes config in
    let v = world_of c.args.place.now.world.now in
    let q = c.args.q in
    let pt = c.args.pt in
    let ls = levels_of bytes config.levels.items in
    let with : List levels.Level → levels.Config = λ xs. record { now = w; levels = xs } in
    let begun : ℕ → List ℕ → Touched → levels.Level = λ d args t. levels.new_level
    (table_of c.args.place.now.images.now) w c.args.place.now.process d q pt args [] t in
    let args = c.in_ok-args.ensures bytes
    ∙ ap (λ (k : PointKind). args_by k v w.things q pt) c.kind_of.ensures in
    let touched : touched_of c.new.result.items ≡ untouched =
    ap (λ (ts : List Touch). touched_of ts) c.new.ensures.items in
    ap (λ (xs : List Level). with (levels_of bytes xs)) c.in_ok-put_first.ensures
    ∙ ap (λ (l : levels.Level). with (l ∷ ls))
    (c.in_ok-l.ensures bytes
    ∙ ap (λ (d : ℕ). begun d c.in_ok-args.args (touched_of c.new.result.items))
    (c.in_ok-depth_of.ensures ∙ ap length c.deref.ensures.value
    ∙ sym (length-map config.levels.items (level_of bytes)))
    ∙ ap (λ (a : List ℕ). begun (length ls) a (touched_of c.new.result.items)) args
    ∙ ap (λ (t : Touched). begun (length ls) (args_by (kind_of pt) v w.things q pt) t) touched)
