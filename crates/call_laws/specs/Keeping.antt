-- What the pieces of the system calls keep, and what they do but once: the laws.
use Rattle.std.specs.Prelude.{ℕ, ◌≤◌}
use Rattle.kernel_model.specs.Meaning.{registers_of}
use Rattle.kernel_model.specs.Pieces.{plain_upto}
use Rattle.kernel_model.specs.Laws.{PieceLaws}
use Rattle.call_laws.specs.GrantedCalls.{piece_ready}
use Rattle.call_laws.specs.KeepingGrafts.{one_graft_by, graft_ends_by, images_loaded_by}
use Rattle.call_laws.specs.KeepingQueue.{keeps_living, keeps_slices}
use Rattle.call_laws.specs.KeepingDisk.{disk_by}
use Rattle.call_laws.specs.Refusals.{refused_by}
use Rattle.call_laws.specs.KeepingStore.{store_by}

-- the laws of what pieces keep
pub pieces_of_plain : (top : ℕ) → top ≤ 15 → PieceLaws (plain_upto top)
pieces_of_plain top most = record {
  store = λ v images s blocks p t answer io ready whole.
      store_by t.call t.piece v images s blocks p (registers_of answer) io
      (piece_ready top v images s p t answer most ready) whole;
  images_loaded =
      λ v images s blocks p t answer io ready loaded.
      images_loaded_by t.call t.piece v images s blocks p (registers_of answer) io
      (piece_ready top v images s p t answer most ready).granted loaded;
  disk = λ v images s blocks p t answer io ready. record {
    some = ready.disk.some;
    most = ready.disk.most;
    files = ready.disk.files;
    frames = (disk_by t.call t.piece v images s blocks p (registers_of answer) io
        (piece_ready top v images s p t answer most ready)).fits ready.disk.frames;
  };
  refused = λ v images s blocks p t answer io why ne e.
      refused_by t.call t.piece v s blocks p (registers_of answer) io why ne e;
  whole_blocks =
      λ v images s blocks p t answer io ready whole.
      (disk_by t.call t.piece v images s blocks p (registers_of answer) io
      (piece_ready top v images s p t answer most ready)).whole whole;
  others_live = λ v images s blocks p q t answer io ready other alive.
      (keeps_living t.call t.piece v s blocks p (registers_of answer) io).others q other alive;
  caller_lives =
      λ v images s blocks p t answer io ready goes.
      (keeps_living t.call t.piece v s blocks p (registers_of answer) io).caller goes
      ready.standing.caller;
  one_graft = λ v images s blocks p t answer io q pt r pu ready new other.
      one_graft_by t.call t.piece v s blocks p (registers_of answer) io q pt r pu new other;
  graft_ends = λ v images s blocks p t answer io q pt ready new.
      graft_ends_by t.call t.piece v s blocks p (registers_of answer) io q pt new;
  one_slice = λ v images s blocks p t answer io ready.
      (keeps_slices t.call t.piece v s blocks p
      (registers_of answer) io ready.standing.store.once).one;
  slice_ends = λ v images s blocks p t answer io ready more.
      (keeps_slices t.call t.piece v s blocks p
      (registers_of answer) io ready.standing.store.once).ends more;
}
