-- How changes of an event under way follow each other.
use Rattle.std.proofs.Common.{append-nil, arith, cond, ◌≡◌, ℕ, ◌+◌, ◌≤◌, Bool, List, [], ◌++◌}
use Rattle.std.proofs.Common.{Option, ap, sym, subst, ◌∙◌, refl}
use Rattle.std.proofs.lemmas.List.{append_assoc}
use Rattle.std.proofs.lemmas.List.Sums.{sum_by-append}
use Rattle.kernel_model.specs.declared.Note.{Note}
use Rattle.kernel_model.specs.World.{Blocks}
use Rattle.kernel_model.specs.Sound.{HasWholeBlocks}
use Rattle.call_pieces.specs.Disks.{DiskSeen}
use Rattle.call_pieces.specs.Calls.{failures}
use Rattle.call_pieces.specs.Joined.{made_none, made_joined}
use Rattle.placed_laws.specs.Placed.{Placed, PlacedRun}
use Rattle.kernel_steps.specs.Moments.{kernel_moment}
use Rattle.kernel_steps.specs.Faults.{fault_notes}
use Rattle.kernel_steps.specs.Refines.{first_notes, Adds, Reaches, Refines, RunMatches}
use Rattle.running_kernel.specs.Views.{run_of}

-- ---- notes that tell of a failed disk

-- no note was added
pub adds_none : (kept : List Note) → Adds [] kept kept
adds_none kept =
    record {
      first = λ notes k. k ∙ ap first_notes (sym (append-nil notes));
      faults = omega arith;
    }

-- those of two changes, one after the other
pub faults_joined : (a b c : ℕ) (xs ys : List Bool) → b ≤ a + failures xs → c ≤ b + failures ys →
    c ≤ a + failures (xs ++ ys)
faults_joined a b c xs ys first second =
    let both = sum_by-append (λ failed. cond failed 1 0) xs ys in
    omega (arith, first, second, both)

-- added notes none of which tells of one
pub faults_same : (kept kept_new more : List Note) → Adds more kept kept_new →
    fault_notes more ≡ 0 → fault_notes kept_new ≤ fault_notes kept + 0
faults_same kept kept_new more adds none = let few = adds.faults in omega (arith, few, none)

-- ---- what a change did

-- an event under way that came as said is this one
pub run_is : (r : PlacedRun) (y : Placed) (kept : List Note) (known : Option (List (List ℕ)))
    (rest : List Bool) → RunMatches r y kept known rest → r ≡ run_of y r.blocks r.notes rest
run_is r y kept known rest h =
    ap (λ z. record { placed = z; blocks = r.blocks; notes = r.notes; io = r.io }) h.placed
    ∙ ap (λ io. record { placed = y; blocks = r.blocks; notes = r.notes; io = io }) h.io

-- nothing was done
pub did_nothing : (x : Placed) (kept : List Note) (d : DiskSeen) →
    Refines (λ r. r) (kernel_moment x kept d) (kernel_moment x kept d)
did_nothing x kept d =
    record {
      io = [];
      made = made_none d;
      goes = λ blocks notes rest tells k. record {
        placed = refl;
        notes = k;
        blocks = tells;
        io = refl;
      };
      faulted = omega arith;
    }

-- another change that comes to the same from here
pub did_as : (f g : PlacedRun → PlacedRun) (x y : Placed) (kept kept_new : List Note)
    (d e : DiskSeen) → ((blocks : Blocks) (notes : List Note) (io : List Bool) →
    f (run_of x blocks notes io) ≡ g (run_of x blocks notes io)) →
    Refines g (kernel_moment x kept d) (kernel_moment y kept_new e) →
    Refines f (kernel_moment x kept d) (kernel_moment y kept_new e)
did_as f g x y kept kept_new d e same h =
    record {
      io = h.io;
      made = h.made;
      goes = λ blocks notes rest tells k. subst (λ r. RunMatches r y kept_new e.known rest)
          (sym (same blocks notes (h.io ++ rest))) (h.goes blocks notes rest tells k);
      faulted = h.faulted;
    }

-- a change without a call of the disk, which adds these notes, none of a failed disk
pub did_purely : (f : PlacedRun → PlacedRun) (x y : Placed) (kept kept_new more : List Note)
    (d : DiskSeen) → ((blocks : Blocks) (notes : List Note) (io : List Bool) →
    f (run_of x blocks notes io) ≡ run_of y blocks (notes ++ more) io) →
    Adds more kept kept_new → fault_notes more ≡ 0 →
    Refines f (kernel_moment x kept d) (kernel_moment y kept_new d)
did_purely f x y kept kept_new more d same adds none =
    record {
      io = [];
      made = made_none d;
      goes = λ blocks notes rest tells k.
          subst (λ r. RunMatches r y kept_new d.known rest) (sym (same blocks notes rest))
          (record { placed = refl; notes = adds.first notes k; blocks = tells; io = refl });
      faulted = faults_same kept kept_new more adds none;
    }

-- one after the other
pub did_then : (f g : PlacedRun → PlacedRun) (x y z : Placed) (a b c : List Note)
    (d e l : DiskSeen) → Refines f (kernel_moment x a d) (kernel_moment y b e) →
    Refines g (kernel_moment y b e) (kernel_moment z c l) →
    Refines (λ r. g (f r)) (kernel_moment x a d) (kernel_moment z c l)
did_then f g x y z a b c d e l first second =
    record {
      io = first.io ++ second.io;
      made = made_joined d e l first.io second.io
          first.made second.made;
      goes = λ blocks notes rest tells k.
          let one = subst (λ io. RunMatches (f (run_of x blocks notes io)) y b e.known (second.io
          ++ rest)) (sym (append_assoc first.io second.io rest))
          (first.goes blocks notes (second.io ++ rest) tells k) in
          let r : PlacedRun = f (run_of x blocks notes ((first.io ++ second.io) ++ rest)) in
          subst (λ s. RunMatches (g s) z c l.known rest)
          (sym (run_is r y b e.known (second.io ++ rest) one))
          (second.goes r.blocks r.notes rest one.blocks one.notes);
      faulted = faults_joined (fault_notes a) (fault_notes b) (fault_notes c) first.io second.io
          first.faulted second.faulted;
    }

-- ---- what a change may reach

pub reaches_as : (f g : PlacedRun → PlacedRun) (x y : Placed) →
    ((blocks : Blocks) (notes : List Note) (io : List Bool) →
    f (run_of x blocks notes io) ≡ g (run_of x blocks notes io)) → Reaches g x y → Reaches f x y
reaches_as f g x y same h =
    record {
      blocks = h.blocks;
      whole = h.whole;
      io = h.io;
      goes = λ notes. ap (λ (r : PlacedRun). r.placed) (same h.blocks notes h.io)
          ∙ h.goes notes;
    }

-- behind a change without a call of the disk
pub reaches_behind : (f g : PlacedRun → PlacedRun) (x y z : Placed) (more : List Note) →
    y.world ≡ x.world → ((blocks : Blocks) (notes : List Note) (io : List Bool) →
    f (run_of x blocks notes io) ≡ run_of y blocks (notes ++ more) io) →
    Reaches g y z → Reaches (λ r. g (f r)) x z
reaches_behind f g x y z more world same h =
    record {
      blocks = h.blocks;
      whole = subst (λ v. HasWholeBlocks v h.blocks) world h.whole;
      io = h.io;
      goes = λ notes. ap (λ r. (g r).placed) (same h.blocks notes h.io) ∙ h.goes (notes ++ more);
    }

-- before a change that looks at the kernel in place alone
pub reaches_before : (f g : PlacedRun → PlacedRun) (x y z : Placed) →
    ((r : PlacedRun) → r.placed ≡ y → (g r).placed ≡ z) → Reaches f x y → Reaches (λ r. g (f r)) x z
reaches_before f g x y z same h =
    record {
      blocks = h.blocks;
      whole = h.whole;
      io = h.io;
      goes = λ notes. same (f (run_of x h.blocks notes h.io)) (h.goes notes);
    }

-- a change without a call of the disk, over some whole blocks
pub reaches_purely : (f : PlacedRun → PlacedRun) (x y : Placed) (more : List Note)
    (blocks : Blocks) → HasWholeBlocks x.world blocks →
    ((blocks : Blocks) (notes : List Note) (io : List Bool) →
    f (run_of x blocks notes io) ≡ run_of y blocks (notes ++ more) io) → Reaches f x y
reaches_purely f x y more blocks whole same =
    record {
      blocks = blocks;
      whole = whole;
      io = [];
      goes = λ notes. ap (λ (r : PlacedRun). r.placed) (same blocks notes []);
    }
