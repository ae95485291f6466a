use Rattle.std.proofs.Common.{◌≡◌, [], sym, ap, ◌∙◌}
use Rattle.kernel_model.specs.Objects.{Objects}
use Rattle.kernel_model.specs.World.{Blocks}
use Rattle.kernel_model.specs.Fetch as model
use Rattle.kernel_model.specs.FilePieces.{with_cache}
use Rattle.audit_pieces.specs.Ends.{calls_in}
use Rattle.audit_pieces.specs.Stores.{objects_of, blocks_of}
use Rattle.audit_pieces.proofs.Fetching.{evicted, got_as, kept_as}
use Rattle.audit_pieces.proofs.Store.evict.Goals as goal

pub returns : goal.returns
returns c =
    let s = c.args.self.now in
    let t = c.replace.new.self in
    let cache = (objects_of s).things.cache in
    let f = c.args.chosen in
    let read = model.new_frame c.args.turn.now.process c.args.b c.args.bytes.items in
    let after = model.replaced f c.args.candidate read cache in
    let made = model.evict (cache.frame f) f after (blocks_of s) [] in
    let k : objects_of t ≡ with_cache after (objects_of s) =
    c.in_ok-replace.ensures.objects
    ∙ ap (λ (x : Objects). with_cache (model.replaced f c.args.candidate read x.things.cache) x)
    c.in_ok-write_back.ensures.objects in
    let blocks = c.in_ok-replace.ensures.blocks ∙ c.in_ok-write_back.ensures.blocks in
    record {
      got =
          got_as made (objects_of s) (objects_of t) after (blocks_of t) f (calls_in made)
          (evicted (cache.frame f) f after (blocks_of s)
          ∙ ap (λ (x : Blocks). model.Got after x f (calls_in made)) (sym blocks)) k;
      kept = kept_as (objects_of s) (objects_of t) after k;
    }
