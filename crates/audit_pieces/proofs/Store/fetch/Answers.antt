use Rattle.std.proofs.Common.{ℕ, [], Option, subst, sym, ap, ◌∙◌}
use Rattle.kernel_model.specs.Fetch as model
use Rattle.kernel_model.specs.Meaning.{registers_of}
use Rattle.kernel_model.specs.World.{Blocks}
use Rattle.audit_state.specs.Worlds.{world_of}
use Rattle.audit_pieces.specs.Ends.{answer_of, Fetches}
use Rattle.audit_pieces.specs.Stores.{objects_of, blocks_of}
use Rattle.audit_pieces.proofs.Fetching.{got_as, kept_as}
use Rattle.audit_pieces.proofs.Store.fetch.Goals as goal

pub returns-in_ok-use_frame-in-Some : goal.returns-in_ok-use_frame-in-Some
returns-in_ok-use_frame-in-Some c =
    let s = c.args.self.now in
    let w = (objects_of s).things in
    let b = c.args.b in
    let f = c.in-Some.f in
    let p = c.args.turn.now.process in
    let answer = registers_of (answer_of c.args.turn.now.answer.now) in
    let by = λ (o : Option ℕ).
    model.fetch_by o (world_of c.args.turn.now.world.now) (w.pol 1) p b answer w.cache (blocks_of s) [] in
    let t = c.use_frame.new.self in
    let after = model.used f w.cache in
    let k = c.in_ok-use_frame-in-Some.ensures.objects in
    let made = model.fetch (world_of c.args.turn.now.world.now) (w.pol 1) p b answer w.cache (blocks_of s) [] in
    record {
      got =
          got_as made (objects_of s) (objects_of t) after (blocks_of t) f 0
          (sym (ap by c.in-Some.ensures)
          ∙ ap (λ (x : Blocks). model.Got after x f 0) (sym c.in_ok-use_frame-in-Some.ensures.blocks)) k;
      kept = kept_as (objects_of s) (objects_of t) after k;
    }

pub returns-in_ok-f-in-None : goal.returns-in_ok-f-in-None
returns-in_ok-f-in-None c =
    let s = c.args.self.now in
    let w = (objects_of s).things in
    let b = c.args.b in
    let p = c.args.turn.now.process in
    let answer = registers_of (answer_of c.args.turn.now.answer.now) in
    let by = λ (o : Option ℕ).
    model.fetch_by o (world_of c.args.turn.now.world.now) (w.pol 1) p b answer w.cache (blocks_of s) [] in
    let Is : model.Fetched → Type 0 = λ m. Fetches m s c.read_block.new.self c.in_ok-f-in-None.f in
    subst Is (ap by c.in-None.ensures) c.in_ok-f-in-None.ensures
