use Rattle.std.proofs.Common.{ℕ, List, Option, Some, None, refl, subst}
use Rattle.kernel_model.specs.declared.Refusal.{Refusal}
use Rattle.kernel_model.specs.declared.Refusal.TheVariants.{NoFile, NoFd}
use Rattle.kernel_model.specs.World.{Blocks}
use Rattle.kernel_model.specs.Objects.{Objects}
use Rattle.kernel_model.specs.Meaning.{Fails}
use Rattle.kernel_model.specs.FilePieces.{open_piece, free_descriptor, refuses}
use Rattle.kernel_state.specs.Calls.{Knows}
use Rattle.call_pieces.specs.declared.Next.{Next}
use Rattle.kernel_state.specs.Stores.{objects_of}
use Rattle.call_pieces.specs.Matching.{PieceMatches, comes_after}
use Rattle.call_pieces.proofs.one_piece.open.Goals as goal

-- a piece that is refused, and leaves all as it was
left : (s : Objects) (blocks : Blocks) (known : Option (List (List ℕ))) (why : Refusal) →
    Knows known blocks → PieceMatches (refuses s blocks why) s known None (Fails why) 0
left s blocks known why tells =
    record { objects = refl; blocks = tells; bytes = refl; next = refl; calls_made = refl }

pub returns-in-Some-free_descriptor : goal.returns-in-Some-free_descriptor
returns-in-Some-free_descriptor g c =
    let s = objects_of c.args.store.now in
    let open_at = c.open_at.ensures.done in
    record {
      done = record {
        does = λ blocks known t tells.
            let after = comes_after c.open_at.result t in
            subst (λ (x : Option ℕ). PieceMatches (open_piece s c.args.p x
            (free_descriptor s.things c.args.p 4 0) blocks) (objects_of c.open_at.new.store) known None
            after 0) c.in-Some.ensures.value
            (subst (λ (y : Option ℕ). PieceMatches (open_piece s c.args.p (Some c.in-Some.file) y
            blocks) (objects_of c.open_at.new.store) known None after 0)
            c.in-Some-free_descriptor.ensures.value (open_at.does blocks known t tells));
        queue_is = open_at.queue_is;
        ends = open_at.ends;
        no_fault = open_at.no_fault;
        world = open_at.world;
        memory = open_at.memory;
      };
    }

pub returns-in_default : goal.returns-in_default
returns-in_default g c =
    let s = objects_of c.args.store.now in
    record {
      done = record {
        does = λ blocks known t tells.
            subst (λ (x : Option ℕ). PieceMatches (open_piece s c.args.p x
            (free_descriptor s.things c.args.p 4 0) blocks) s known None
            (comes_after (Next.Fails NoFile) t) 0) c.in_default.ensures.value (left s blocks known
            NoFile tells);
        queue_is = refl;
        ends = refl;
        no_fault = refl;
        world = refl;
        memory = λ a beyond. refl;
      };
    }

pub returns-in-None : goal.returns-in-None
returns-in-None g c =
    let s = objects_of c.args.store.now in
    record {
      done = record {
        does = λ blocks known t tells.
            subst (λ (x : Option ℕ). PieceMatches (open_piece s c.args.p x
            (free_descriptor s.things c.args.p 4 0) blocks) s known None
            (comes_after (Next.Fails NoFd) t) 0) c.in-Some.ensures.value
            (subst (λ (y : Option ℕ). PieceMatches (open_piece s c.args.p (Some c.in-Some.file) y
            blocks) s known None (comes_after (Next.Fails NoFd) t) 0) c.in-None.ensures.value
            (left s blocks known NoFd tells));
        queue_is = refl;
        ends = refl;
        no_fault = refl;
        world = refl;
        memory = λ a beyond. refl;
      };
    }
