use Rattle.std.proofs.Common.{◌≡◌, ℕ, List, [], Option, subst, sym, ap, ◌∙◌}
use Rattle.kernel_model.specs.World.{Blocks}
use Rattle.kernel_model.specs.Fetch as model
use Rattle.kernel_model.specs.FilePieces.{with_cache}
use Rattle.kernel_model.specs.Meaning.{registers_of}
use Rattle.audit_pieces.specs.Ends.{answer_of, Fetches}
use Rattle.audit_pieces.specs.Stores.{objects_of, blocks_of}
use Rattle.audit_pieces.proofs.Fetching.{got_as, kept_as}
use Rattle.audit_pieces.proofs.Store.place_block.Goals as goal

pub returns-in_ok-fill-in-Some : goal.returns-in_ok-fill-in-Some
returns-in_ok-fill-in-Some c =
    let s = c.args.self.now in
    let t = c.fill.new.self in
    let cache = (objects_of s).things.cache in
    let f = c.in-Some.f in
    let p = c.args.turn.now.process in
    let b = c.args.b in
    let candidate = c.args.candidate in
    let answer = registers_of (answer_of c.args.turn.now.answer.now) in
    let chosen = model.chosen_by answer candidate in
    let place = λ (o : Option ℕ). model.place_block o p b chosen candidate cache (blocks_of s) [] in
    let fills = λ (bytes : List ℕ). model.filled f (model.new_frame p b bytes) cache in
    let after = fills (blocks_of s b) in
    let k : objects_of t ≡ with_cache after (objects_of s) =
    c.in_ok-fill-in-Some.ensures.objects
    ∙ ap (λ (bytes : List ℕ). with_cache (fills bytes) (objects_of s)) c.in_ok-bytes.ensures in
    record {
      got =
          got_as (place c.args.free) (objects_of s) (objects_of t) after (blocks_of t) f 1
          (ap place c.in-Some.is
          ∙ ap (λ (x : Blocks). model.Got after x f 1) (sym c.in_ok-fill-in-Some.ensures.blocks)) k;
      kept = kept_as (objects_of s) (objects_of t) after k;
    }

pub returns-in_ok-f-in-None : goal.returns-in_ok-f-in-None
returns-in_ok-f-in-None c =
    let s = c.args.self.now in
    let t = c.evict.new.self in
    let cache = (objects_of s).things.cache in
    let p = c.args.turn.now.process in
    let b = c.args.b in
    let candidate = c.args.candidate in
    let answer = registers_of (answer_of c.args.turn.now.answer.now) in
    let evicts = λ (f : ℕ) (bytes : List ℕ).
    model.evict (cache.frame f) f
    (model.replaced f candidate (model.new_frame p b bytes) cache) (blocks_of s) [] in
    let place = λ (o : Option ℕ).
    model.place_block o p b (model.chosen_by answer candidate) candidate cache (blocks_of s) [] in
    let Is : model.Fetched → Type 0 = λ m. Fetches m s t c.in_ok-f-in-None.f in
    subst Is
    (ap (λ (f : ℕ). evicts f c.in_ok-bytes.bytes.items) c.chosen_by-chosen.ensures
    ∙ ap (λ (bytes : List ℕ). evicts (model.chosen_by answer candidate) bytes) c.in_ok-bytes.ensures
    ∙ sym (ap place c.in-None.is)) c.in_ok-f-in-None.ensures
