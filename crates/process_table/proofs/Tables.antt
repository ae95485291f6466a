-- Lemmas on the arrays: what always holds of them stays.
use Rattle.std.proofs.Common.{◌≡◌, ◌≢◌, ℕ, ◌+◌, ◌*◌, ◌<◌, true, cond, Option, None, List, [], ◌∷◌}
use Rattle.std.proofs.Common.{length, map, not, ◌==◌, nat_lt, get_or, set, refl, arith, ◌∙◌, ap}
use Rattle.std.proofs.Common.{IfSome}
use Rattle.std.specs.List.{list_all}
use Rattle.std.proofs.lemmas.Bool.Decides.{nat_tests}
use Rattle.std.proofs.lemmas.Grind.{common_steps}
use Rattle.std.proofs.lemmas.List.{get_or-set_same, get_or-set_other}
use Rattle.std.proofs.Math.ListN.{length-set, get_or-map}
use Rattle.std.proofs.Math.Path.{fun_ext}
use Rattle.kernel_model.specs.declared.QueueRow.{QueueRow}
use Rattle.kernel_model.specs.declared.OpenRow.{OpenRow}
use Rattle.kernel_model.specs.Queue.{new_row, queue_without}
use Rattle.kernel_model.specs.Policies.{lives}
use Rattle.kernel_model.specs.Pieces.{freed_by}
use Rattle.kernel_model.specs.Objects.{at2}
use Rattle.kernel_model.specs.Handlers.{AreHandlers, handlers_without_process, handlers_pass}
use Rattle.process_table.specs.Processes.{Table, IsTable, IsQueue, is_of, files_in}
use Rattle.process_table.proofs.Handlers.{low_pass}
use Rattle.process_table.proofs.Rows.{opening-queue, without-queue, living-without}

-- the queue changes, and whoever lived lives
pub requeued : (t : Table) (rows : List QueueRow) → IsTable t → IsQueue rows →
    ((q : ℕ) → lives t.queue q ≡ true → lives rows q ≡ true)
    → IsTable (record t { queue = rows })
requeued t rows h queue lives = record {
  cells = h.cells;
  files = h.files;
  holders = h.holders;
  sound = record {
    queue = queue;
    cells = λ p k dead. h.sound.cells p k (grind (arith, lives p));
    files = λ p fd dead. h.sound.files p fd (grind (arith, lives p));
    locks = λ u p held. lives p (h.sound.locks u p held);
    handlers = h.sound.handlers;
    processes = h.sound.processes;
  };
}

-- the handlers change
pub handled : (t : Table) (hs : List (ℕ × ℕ)) → IsTable t → AreHandlers hs →
    list_all (λ (x : ℕ × ℕ). nat_lt x.0 16) hs ≡ true
    → IsTable (record t { handlers = hs })
handled t hs h are low = record {
  cells = h.cells;
  files = h.files;
  holders = h.holders;
  sound =
      record {
        queue = h.sound.queue;
        cells = h.sound.cells;
        files = h.sound.files;
        locks = h.sound.locks;
        handlers = are;
        processes = low;
      };
}

-- the row at a descriptor becomes what is made of it
pub file_becomes : (files : List (Option OpenRow)) (p fd i : ℕ) (row : Option OpenRow)
    (change : Option OpenRow → Option OpenRow) → length files ≡ 64 → p < 16 → fd < 4 →
    i ≡ 4 * p + fd → row ≡ change (get_or files i None)
    → files_in (set files i row) ≡ at2 p fd (change (files_in files p fd)) (files_in files)
file_becomes files p fd i row change long le lt place changed =
    let there : get_or files i None ≡ files_in files p fd = grind (arith, nat_tests, place, lt) in
    let same : row ≡ change (files_in files p fd) = changed ∙ ap change there in
    fun_ext
    (λ q. fun_ext
    (λ l. grind (
      arith,
      nat_tests,
      long,
      place,
      same,
      get_or-set_other files i (4 * q + l) row None,
      get_or-set_same files i row None,
    )))

-- a process that isn't root leaves
pub left : (t : Table) (p : ℕ) (cells : List ℕ) (files : List (Option OpenRow)) → 0 < p →
    length cells ≡ 64 → length files ≡ 64
    → ((i : ℕ) → get_or cells i 0 ≡ cond (is_of p i) 0 (get_or t.cells i 0)) →
    ((i : ℕ) → get_or files i None ≡ cond (is_of p i) None (get_or t.files i None))
    → IsTable t
    → IsTable (record {
      queue = queue_without p t.queue;
      cells = cells;
      files = files;
      holders = map (freed_by p) t.holders;
      handlers = handlers_without_process p t.handlers;
    })
left t p cells files pos long wide cleared closed h = record {
  cells = long;
  files = wide;
  holders = grind (arith, common_steps, h.holders);
  sound = record {
    queue = without-queue p t.queue pos h.sound.queue;
    cells = λ q k dead. grind (arith, nat_tests, cleared (4 * q + k), h.sound.cells q k, living-without q p t.queue);
    files = λ q fd dead. grind (arith, nat_tests, closed (4 * q + fd), h.sound.files q fd, living-without q p t.queue);
    locks = λ u q held.
        let freed = get_or-map (freed_by p) t.holders u None in
        grind (arith, nat_tests, h.sound.locks u q, living-without q p t.queue);
    handlers = handlers_pass (λ (x : ℕ × ℕ). not (x.0 == p)) t.handlers h.sound.handlers;
    processes = low_pass (λ (x : ℕ × ℕ). not (x.0 == p)) t.handlers h.sound.processes;
  };
}

-- process 0 lives alone
pub opened : (cells : List ℕ) (files : List (Option OpenRow)) (holders : List (Option ℕ)) →
    length cells ≡ 64 → length files ≡ 64 → length holders ≡ 16
    → ((i : ℕ) → get_or cells i 0 ≡ 0) → ((i : ℕ) → get_or files i None ≡ None) →
    ((u : ℕ) → get_or holders u None ≡ None)
    → IsTable (record { queue = new_row 0 ∷ []; cells = cells; files = files; holders = holders; handlers = [] })
opened cells files holders a b d zeros closed free = record {
  cells = a;
  files = b;
  holders = d;
  sound = record {
    queue = opening-queue;
    cells = λ p k dead. grind (arith, nat_tests, zeros (4 * p + k));
    files = λ p fd dead. grind (arith, nat_tests, closed (4 * p + fd));
    locks = λ u p held. grind (arith, free u, held);
    handlers = record { once = λ q pt. omega arith; points = refl; most = λ pt. omega arith };
    processes = refl;
  };
}
