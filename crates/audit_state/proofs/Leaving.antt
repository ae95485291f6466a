-- A process leaves, object by object.
use Rattle.std.proofs.Common.{◌≡◌, ℕ, List, Option, ap, ◌∙◌}
use Rattle.kernel_model.specs.declared.OpenRow.{OpenRow}
use Rattle.kernel_model.specs.declared.QueueRow.{QueueRow}
use Rattle.kernel_model.specs.Objects.{Things, FrameValue}

-- the objects that change when a process leaves, beside those that stay
abbrev pub changed : Things → (ℕ → ℕ → ℕ) → (ℕ → ℕ → Option OpenRow) → List QueueRow →
    (ℕ → Option FrameValue) → (ℕ → Option ℕ) → List (ℕ × ℕ) → Things
changed w cell file queue frame lock handlers =
    record {
      cell = cell;
      file = file;
      queue = queue;
      cache = record { frame = frame; lru = w.cache.lru };
      lock = lock;
      pol = w.pol;
      segment = w.segment;
      handlers = handlers;
    }

-- each changes to what it is to be
pub each_changes : (w : Things) (c1 c2 : ℕ → ℕ → ℕ) (f1 f2 : ℕ → ℕ → Option OpenRow)
    (q1 q2 : List QueueRow) (g1 g2 : ℕ → Option FrameValue) (l1 l2 : ℕ → Option ℕ)
    (h1 h2 : List (ℕ × ℕ)) → c1 ≡ c2 → f1 ≡ f2 → q1 ≡ q2 → g1 ≡ g2 → l1 ≡ l2 → h1 ≡ h2 →
    changed w c1 f1 q1 g1 l1 h1 ≡ changed w c2 f2 q2 g2 l2 h2
each_changes w c1 c2 f1 f2 q1 q2 g1 g2 l1 l2 h1 h2 c f q g l h =
    ap (λ (x : ℕ → ℕ → ℕ). changed w x f1 q1 g1 l1 h1) c
    ∙ ap (λ (x : ℕ → ℕ → Option OpenRow). changed w c2 x q1 g1 l1 h1) f
    ∙ ap (λ (x : List QueueRow). changed w c2 f2 x g1 l1 h1) q
    ∙ ap (λ (x : ℕ → Option FrameValue). changed w c2 f2 q2 x l1 h1) g
    ∙ ap (λ (x : ℕ → Option ℕ). changed w c2 f2 q2 g2 x h1) l
    ∙ ap (λ (x : List (ℕ × ℕ)). changed w c2 f2 q2 g2 l2 x) h
