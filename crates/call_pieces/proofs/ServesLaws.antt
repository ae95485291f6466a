-- Pieces that are served, in other words.
use Rattle.std.proofs.Common.{◌≡◌, ℕ, arith, Bool, List, [], ◌++◌, length, Option, None, refl, sym, ◌∙◌, ap, subst}
use Rattle.kernel_model.specs.declared.QueueRow.{QueueRow}
use Rattle.kernel_model.specs.declared.Refusal.{Refusal}
use Rattle.kernel_model.specs.declared.SysCall.{SysCall}
use Rattle.kernel_model.specs.World.{Blocks}
use Rattle.kernel_model.specs.Meaning.{Stage, Piece}
use Rattle.kernel_model.specs.Pieces.{piece_of}
use Rattle.kernel_model.specs.FilePieces.{refuses}
use Rattle.kernel_state.specs.Disks.{DiskSeen}
use Rattle.kernel_state.specs.Calls.{Knows}
use Rattle.kernel_state.specs.Joined.{extends_none}
use Rattle.kernel_state.specs.declared.Store.{Store}
use Rattle.kernel_state.specs.Stores.{world_of_store, objects_of, queue_of, policies_of}
use Rattle.call_needs.specs.declared.Work.{Work}
use Rattle.call_needs.specs.Fetching.{StoreMoment, store_moment}
use Rattle.call_needs.specs.Works.{bare_stage_of, call_of}
use Rattle.call_pieces.specs.declared.Next.{Next}
use Rattle.call_pieces.specs.Queues.{queue_after}
use Rattle.call_pieces.specs.Shared.{ComesAtOnce, EndsWithQueue, PieceKeeps, Serves, ServesLast}
use Rattle.call_pieces.specs.Shared.{ServesWithQueue, piece_on, queue_on}
use Rattle.call_pieces.proofs.LeftLaws.{some_as, some_quick, some_refused}

-- a piece by an equal one
pub serves_as : {B : Type 0} {P : _} {queue : List QueueRow} (q r : Blocks → List Bool → Piece)
    (old new : StoreMoment (Store B P)) (gave : Option (List ℕ)) (next : Next) (t : Stage) →
    ((blocks : Blocks) (w : List Bool) → q blocks w ≡ r blocks w) →
    ServesWithQueue r queue old new gave next t → ServesWithQueue q queue old new gave next t
serves_as q r old new gave next t is served =
    record {
      does = λ blocks rest tells.
          let came = served.does blocks rest tells in
          let same = is blocks (new.log ++ rest) in
          record {
            objects = came.objects ∙ sym (ap (λ (x : Piece). x.objects) same);
            blocks = subst (λ (x : Piece). Knows new.disk.known x.blocks) (sym same) came.blocks;
            bytes = came.bytes ∙ sym (ap (λ (x : Piece). x.gave) same);
            next = came.next ∙ sym (ap (λ (x : Piece). x.after) same);
            calls_made = came.calls_made ∙ sym (ap (λ (x : Piece). x.calls) same);
          };
      some = some_as (world_of_store old.store) q r (objects_of new.store) gave _ new.log is
          served.some;
      keeps = served.keeps;
      calls = served.calls;
    }

-- a piece that fails not for the disk, with no call of it
keeps_at_once : {B : Type 0} {P : _} {queue : List QueueRow} (old new : Store B P) (next : Next)
    (log : List Bool) (r : Blocks → Piece) (t : Stage) → log ≡ [] →
    ComesAtOnce r queue old new next t → PieceKeeps queue old new next log
keeps_at_once old new next log r t none came =
    record {
      failed = λ fault. let well = came.no_fault in absurd (cc);
      few = let n = ap (λ (w : List Bool). length w) none in omega (arith, n);
      queue_is = came.queue_is;
      world = came.world;
      memory = came.memory;
    }

-- a piece without a call of the disk
pub serves_at_once : {B : Type 0} {P : _} {queue : List QueueRow} (q : Blocks → List Bool → Piece)
    (r : Blocks → Piece) (old new : Store B P) (d : DiskSeen) (log : List Bool) (next : Next)
    (t : Stage) → log ≡ [] → ((blocks : Blocks) (w : List Bool) → q blocks w ≡ r blocks) →
    ComesAtOnce r queue old new next t →
    ServesWithQueue q queue (store_moment old d log) (store_moment new d log) None next t
serves_at_once q r old new d log next t none is came =
    serves_as q (λ blocks w. r blocks) (store_moment old d log) (store_moment new d log) None next t is
    (record {
      does = λ blocks rest tells.
          let so = came.does blocks d.known tells in
          record {
            objects = so.objects;
            blocks = so.blocks;
            bytes = so.bytes;
            next = so.next;
            calls_made = ap (λ (w : List Bool). length w) none ∙ so.calls_made;
          };
      some = some_quick (world_of_store old) (λ blocks w. r blocks) (objects_of new) None _ log none
          (λ blocks known w tells. came.does blocks known tells);
      keeps = keeps_at_once old new next log r t none came;
      calls = extends_none d log;
    })

-- a piece that is refused, and leaves all as it was
pub serves_refused : {B : Type 0} {P : _} (q : Blocks → List Bool → Piece) (s : Store B P)
    (d : DiskSeen) (log : List Bool) (why : Refusal) (t : Stage) → log ≡ [] →
    ((blocks : Blocks) (w : List Bool) → q blocks w ≡ refuses (objects_of s) blocks why) →
    PieceKeeps (queue_of s) s s (Next.Fails why) log →
    Serves q (store_moment s d log) (store_moment s d log) None (Next.Fails why) t
serves_refused q s d log why t none is keeps =
    serves_as q (λ blocks w. refuses (objects_of s) blocks why) (store_moment s d log) (store_moment s d log)
    None (Next.Fails why) t is
    (record {
      does = λ blocks rest tells.
          record {
            objects = refl;
            blocks = tells;
            bytes = refl;
            next = refl;
            calls_made = ap (λ (w : List Bool). length w) none;
          };
      some = some_refused (world_of_store s) (λ blocks w. refuses (objects_of s) blocks why)
          (objects_of s) why log none (λ blocks w. refl);
      keeps = keeps;
      calls = extends_none d log;
    })

-- the same of the last piece of a call
pub last_refused : {B : Type 0} {P : _} (q : Blocks → List Bool → Piece) (s : Store B P)
    (d : DiskSeen) (log : List Bool) (why : Refusal) → log ≡ [] →
    ((blocks : Blocks) (w : List Bool) → q blocks w ≡ refuses (objects_of s) blocks why) →
    PieceKeeps (queue_of s) s s (Next.Fails why) log →
    ServesLast q (store_moment s d log) (store_moment s d log) (Next.Fails why)
last_refused q s d log why none is keeps =
    record {
      does = λ t. (serves_refused q s d log why t none is keeps).does;
      some = λ t. (serves_refused q s d log why t none is keeps).some;
      ends = refl;
      keeps = keeps;
      calls = extends_none d log;
    }

-- the last piece of a call, before any stage
pub serves_last : {B : Type 0} {P : _} (q : Blocks → List Bool → Piece)
    (old new : StoreMoment (Store B P)) (next : Next) (t : Stage) → ServesLast q old new next →
    Serves q old new None next t
serves_last q old new next t last =
    record { does = last.does t; some = last.some t; keeps = last.keeps; calls = last.calls }

-- a piece that ends its call at once, before any stage
comes_of_ends : {B : Type 0} {P : _} {queue : List QueueRow} (r : Blocks → Piece)
    (old new : Store B P) (next : Next) (t : Stage) → EndsWithQueue r queue old new next →
    ComesAtOnce r queue old new next t
comes_of_ends r old new next t ended =
    record {
      does = λ blocks known tells. ended.does blocks known t tells;
      queue_is = ended.queue_is;
      no_fault = ended.no_fault;
      world = ended.world;
      memory = ended.memory;
    }

-- ---- pieces by the name of their call

-- the piece of a call of this name, where this work stands
abbrev pub NamedServes : {B : Type 0} {P : _} → Work → Option (List ℕ) →
    (old new : StoreMoment (Store B P)) → Option (List ℕ) → Next → SysCall → Stage → Type 0
NamedServes w answer old new gave next k t =
    let s = old.store in
    ServesWithQueue (λ blocks io. piece_of k w.piece (world_of_store s) (objects_of s) blocks
    w.caller answer io) (queue_after (policies_of s 2) answer k w.piece w.caller (queue_of s))
    old new gave next t

-- a piece of a call by its name
pub by_name : {B : Type 0} {P : _} (w : Work) (answer : Option (List ℕ))
    (old new : StoreMoment (Store B P)) (gave : Option (List ℕ)) (next : Next) (k : SysCall)
    (t : SysCall → Stage) → call_of w ≡ k → NamedServes w answer old new gave next k (t k) →
    ServesWithQueue (piece_on w old.store answer) (queue_on w old.store answer) old new gave next
    (t (call_of w))
by_name w answer old new gave next k t named served =
    subst (λ (x : SysCall). NamedServes w answer old new gave next x (t x)) (sym named) served

-- a piece that ends its call at once, by the name of the call
pub ends_by_name : {B : Type 0} {P : _} (w : Work) (answer : Option (List ℕ)) (old new : Store B P)
    (d : DiskSeen) (log : List Bool) (next : Next) (k : SysCall) (r : Blocks → Piece) →
    call_of w ≡ k → log ≡ [] →
    ((blocks : Blocks) (io : List Bool) → piece_of k w.piece (world_of_store old) (objects_of old)
    blocks w.caller answer io ≡ r blocks) →
    EndsWithQueue r (queue_after (policies_of old 2) answer k w.piece w.caller (queue_of old)) old
    new next →
    ServesWithQueue (piece_on w old answer) (queue_on w old answer) (store_moment old d log)
    (store_moment new d log) None next (bare_stage_of w)
ends_by_name w answer old new d log next k r named none is ended =
    by_name w answer (store_moment old d log) (store_moment new d log) None next k (λ _. bare_stage_of w) named
    (serves_at_once (λ blocks io. piece_of k w.piece (world_of_store old) (objects_of old) blocks
    w.caller answer io) r old new d log next (bare_stage_of w) none is
    (comes_of_ends r old new next (bare_stage_of w) ended))
