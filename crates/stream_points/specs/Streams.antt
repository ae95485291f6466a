-- What the pieces of stream calls make of a call in flight, and the pieces of the definitions on a
-- store.
use Rattle.std.specs.Prelude.{◌≡◌, ℕ, ◌<◌, ◌≤◌, Bool, true, List, []}
use Rattle.kernel_model.specs.World.{Blocks}
use Rattle.kernel_model.specs.Meaning.{Piece}
use Rattle.kernel_model.specs.StreamPoints.{stream_fetches, stream_fits, stream_left}
use Rattle.call_pieces.specs.declared.Store.{Store}
use Rattle.call_pieces.specs.Stores.{world_of_store, objects_of}
use Rattle.call_pieces.specs.declared.Access.{Access}
use Rattle.call_pieces.specs.declared.Work.{Work}
use Rattle.call_pieces.specs.Needing.{block_meant}
use Rattle.call_pieces.specs.Works.{call_of, stage_of, answer_seen}

-- a call after its first piece, which took these bytes into it
abbrev pub with_carried : List ℕ → Work → Work
with_carried bytes w =
    record w {
      piece = 1;
      handlers = record { items = [] };
      answers = 0;
      carried = record { items = bytes };
    }

-- a stream call that goes on: it is the same call, its next piece may come, and fewer pieces are
-- left
pub record StreamContinues (old new : Work) : Type 0 where
  pub caller : new.caller ≡ old.caller
  pub call : call_of new ≡ call_of old
  pub fits : stream_fits (call_of new) (stage_of new) ≡ true
  pub some : 1 ≤ stream_left (call_of new) new.piece
  pub fewer : stream_left (call_of new) new.piece < stream_left (call_of old) old.piece

-- the definitions' first piece of a stream read, for an access
abbrev pub taken_of : {B : Type 0} {P : _} → Store B P → Work → Access → Blocks → List Bool →
    Piece
taken_of s w r =
    λ blocks io. stream_fetches (block_meant s r.p r.fd r.i r.off r.len) (call_of w)
    (world_of_store s) (objects_of s) blocks r.p r.off r.len (answer_seen s.ram r.p r.answer) io
