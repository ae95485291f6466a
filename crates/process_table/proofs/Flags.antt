-- The flags say who lives.
use Rattle.std.proofs.Common.{◌≡◌, ℕ, zero, suc, ◌<◌, Bool, true, false, ◌==◌, List, [], ◌∷◌, ◌++◌}
use Rattle.std.proofs.Common.{length, get_or, set, sym, arith, ◌∙◌}
use Rattle.std.proofs.lemmas.Bool.Decides.{nat_tests}
use Rattle.std.proofs.lemmas.List.{get_or-set_same, get_or-set_other}
use Rattle.std.proofs.lemmas.List.Folds.{list_any-append}
use Rattle.std.proofs.Math.ListN.{length-set}
use Rattle.kernel_model.specs.declared.QueueRow.{QueueRow}
use Rattle.kernel_model.specs.Queue.{new_row, queue_without}
use Rattle.kernel_model.specs.Policies.{lives}
use Rattle.process_table.specs.Processes.{AreFlags}
use Rattle.process_table.proofs.Rows.{living-without}

-- other rows of the same processes
pub flags_stay : (flags : List Bool) (rows more : List QueueRow) →
    ((q : ℕ) → lives more q ≡ lives rows q) → AreFlags flags rows → AreFlags flags more
flags_stay flags rows more same h = record { count = h.count; say = λ q. h.say q ∙ sym (same q) }

-- a process joins
pub flags_joined : (flags : List Bool) (rows : List QueueRow) (p : ℕ) → p < 16 →
    AreFlags flags rows → AreFlags (set flags p true) (rows ++ new_row p ∷ [])
flags_joined flags rows p small h =
    record {
      count = length-set flags p true ∙ h.count;
      say = λ q.
          grind (
            arith,
            nat_tests,
            h.count,
            h.say q,
            list_any-append (λ (r : QueueRow). r.process == q) rows (new_row p ∷ []),
            get_or-set_other flags p q true false,
            get_or-set_same flags p true false,
          );
    }

-- a process leaves
pub flags_left : (flags : List Bool) (rows : List QueueRow) (p : ℕ) → p < 16 → AreFlags flags rows →
    AreFlags (set flags p false) (queue_without p rows)
flags_left flags rows p small h =
    record {
      count = length-set flags p false ∙ h.count;
      say = λ q.
          grind (
            arith,
            nat_tests,
            h.count,
            h.say q,
            living-without q p rows,
            get_or-set_other flags p q false false,
            get_or-set_same flags p false false,
          );
    }

-- who lives has a flag
pub flagged : (flags : List Bool) (rows : List QueueRow) (p : ℕ) → lives rows p ≡ true →
    AreFlags flags rows → p < length flags
flagged flags rows p h are = has flags p (are.say p ∙ h)
  where
    has : (bs : List Bool) (i : ℕ) → get_or bs i false ≡ true → i < length bs
    has [] i h = grind (arith, h)
    has (b ∷ bs) zero h = omega arith
    has (b ∷ bs) (suc i) h = let below = has bs i h in omega (arith, below)
