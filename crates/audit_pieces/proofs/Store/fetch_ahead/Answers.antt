use Rattle.std.proofs.Common.{ℕ, [], Option, refl, subst, sym, ap}
use Rattle.kernel_model.specs.Fetch as model
use Rattle.kernel_model.specs.Meaning.{registers_of}
use Rattle.audit_state.specs.Worlds.{world_of}
use Rattle.audit_pieces.specs.Ends.{answer_of, Fetches}
use Rattle.audit_pieces.specs.Stores.{objects_of, blocks_of}
use Rattle.audit_pieces.proofs.Fetching.{with_calls}
use Rattle.audit_pieces.proofs.Store.fetch_ahead.Goals as goal

pub returns-in-Some : goal.returns-in-Some
returns-in-Some c =
    let s = c.args.self.now in
    let w = (objects_of s).things in
    let b = c.args.b in
    let f = c.in-Some.f in
    let p = c.args.turn.now.process in
    let answer = registers_of (answer_of c.args.turn.now.answer.now) in
    let by = λ (o : Option ℕ).
    model.fetch_ahead_by o (world_of c.args.turn.now.world.now) (w.pol 1) p b answer w.cache (blocks_of s) [] in
    let made = model.fetch_ahead (world_of c.args.turn.now.world.now) (w.pol 1) p b answer w.cache (blocks_of s) [] in
    record {
      got = with_calls made w.cache (blocks_of s) f 0 (sym (ap by c.in-Some.ensures));
      kept = refl;
    }

pub returns-in_ok-f-in-None : goal.returns-in_ok-f-in-None
returns-in_ok-f-in-None c =
    let s = c.args.self.now in
    let w = (objects_of s).things in
    let b = c.args.b in
    let p = c.args.turn.now.process in
    let answer = registers_of (answer_of c.args.turn.now.answer.now) in
    let by = λ (o : Option ℕ).
    model.fetch_ahead_by o (world_of c.args.turn.now.world.now) (w.pol 1) p b answer w.cache (blocks_of s) [] in
    let Is : model.Fetched → Type 0 = λ m. Fetches m s c.read_block.new.self c.in_ok-f-in-None.f in
    subst Is (ap by c.in-None.ensures) c.in_ok-f-in-None.ensures
