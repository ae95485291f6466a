-- A level that begins, and one that is dropped, part by part.
use Rattle.std.proofs.Common.{◌≡◌, ℕ, List, [], ◌∷◌, length, ap, ◌∙◌}
use Rattle.kernel_model.specs.declared.Cause.{Cause}
use Rattle.kernel_model.specs.declared.Micro.{Micro}
use Rattle.kernel_model.specs.Objects.{Objects, Accounts, Things}
use Rattle.kernel_model.specs.World.{World, ImageTable}
use Rattle.kernel_model.specs.Machine.{Machine, first_machine, fed}
use Rattle.kernel_model.specs.Access.{Found}
use Rattle.kernel_model.specs.Charges.{removed}
use Rattle.kernel_model.specs.Locks.{Touched}
use Rattle.kernel_model.specs.Levels.{Level, Effect, Removed, Outcome, new_level, base_of}
use Rattle.kernel_model.specs.Levels.{first_segment, drop_innermost, asker_of}

-- what a drop comes to, of its parts
abbrev pub dropped : (owner point : ℕ) → Cause → Things → ℕ → Accounts → List Level → List Effect → Outcome
dropped owner point cause kept d a ls es =
    record {
      said = Micro.Dropped d owner point cause;
      config = record { now = record { accounts = a; things = kept }; levels = ls };
      effects = es;
    }

pub dropped_is : (v : World) (w : Objects) (l : Level) (ls ms : List Level) (cause : Cause) (d : ℕ)
    (a : Accounts) (es : List Effect) → d ≡ length ls → a ≡ removed l.owner l.point w.accounts →
    ms ≡ asker_of v l l.kept ls → es ≡ Removed l.point ∷ [] →
    dropped l.owner l.point cause l.kept d a ms es ≡ drop_innermost v w l ls cause
dropped_is v w l ls ms cause d a es depth accounts levels effects =
    ap (λ (n : ℕ). dropped l.owner l.point cause l.kept n a ms es) depth
    ∙ ap (λ (x : Accounts). dropped l.owner l.point cause l.kept (length ls) x ms es) accounts
    ∙ ap (λ (x : List Level). dropped l.owner l.point cause l.kept (length ls)
    (removed l.owner l.point w.accounts) x es) levels
    ∙ ap (λ (x : List Effect). dropped l.owner l.point cause l.kept (length ls)
    (removed l.owner l.point w.accounts) (asker_of v l l.kept ls) x) effects

-- a level that has taken no instruction, of its parts
abbrev pub begun : (q pt : ℕ) → List ℕ → Touched → Machine → List Found → Things → Level
begun q pt args touched m rs kept =
    record {
      owner = q;
      point = pt;
      machine = m;
      count = 0;
      touched = touched;
      args = args;
      records = rs;
      kept = kept;
    }

pub begun_is : (images : ImageTable) (w : Objects) (p d q pt : ℕ) (args feed : List ℕ) (touched : Touched)
    (m : Machine) (rs : List Found) (kept : Things) →
    m ≡ first_machine (base_of p d) args (fed feed (first_segment images w q pt)) → rs ≡ [] →
    kept ≡ w.things →
    begun q pt args touched m rs kept ≡ new_level images w p d q pt args feed touched
begun_is images w p d q pt args feed touched m rs kept machine records things =
    let first = first_machine (base_of p d) args (fed feed (first_segment images w q pt)) in
    ap (λ (x : Machine). begun q pt args touched x rs kept) machine
    ∙ ap (λ (x : List Found). begun q pt args touched first x kept) records
    ∙ ap (λ (x : Things). begun q pt args touched first [] x) things
