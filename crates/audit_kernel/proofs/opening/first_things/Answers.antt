use Rattle.std.proofs.Common.{◌≡◌, ℕ, ◌==◌, ◌&&◌, cond, List, ap, ◌∙◌, ◌++◌}
use Rattle.kernel_model.specs.Opening.{opening_things}
use Rattle.kernel_model.specs.declared.QueueRow.{QueueRow}
use Rattle.audit_table.specs.declared.Row.{Row}
use Rattle.audit_table.specs.Tables.{table_of, column_of}
use Rattle.audit_state.specs.declared.Things.{Things}
use Rattle.audit_kernel.proofs.Beginning.{policies_are, things_are}
use Rattle.audit_kernel.proofs.opening.first_things.Goals as goal

pub returns : goal.returns
returns c = λ bytes.
    let w : Things = record {
      cells = c.new.result;
      files = c.new-2.result;
      queue = c.put_last.new.items;
      frames = c.new-3.result;
      lru = c.new-4.result;
      locks = c.new-5.result;
      chosen = c.put_one.new.rows;
      params = c.put-2.new.rows;
      segments = c.new-6.result;
      handlers = c.new-7.result;
    } in
    let queue = c.in_ok-put_last.ensures
    ∙ ap (λ (qs : List QueueRow). qs ++ opening_things.queue) c.new-queue.ensures.items in
    let chosen : (i : ℕ) → column_of 0 c.put_one.new.rows.items i ≡ cond (i == 0) 1 0 =
    λ i. ap (λ (f : ℕ → ℕ). f i) (c.in_ok-put_one.ensures 0)
    ∙ ap (λ (rs : List (Row ℕ)). cond (i == 0) 1 (column_of 0 rs i)) c.new-chosen.ensures.items in
    let params : (i k : ℕ) → ◌≡◌ {A = ℕ} (table_of 0 c.put-2.new.rows.items i k) (cond (i == 0 && k == 1) 2 (cond (i == 0 && k == 2) 1 0)) =
    λ i k. ap (λ (f : ℕ → ℕ → ℕ). f i k) (c.in_ok-put-2.ensures 0)
    ∙ ap (λ (f : ℕ → ℕ → ℕ). cond (i == 0 && k == 1) 2 (f i k)) (c.in_ok-put.ensures 0)
    ∙ ap (λ (rs : List (Row ℕ)). cond (i == 0 && k == 1) 2 (cond (i == 0 && k == 2) 1 (table_of 0 rs i k))) c.new-params.ensures.items in
    things_are bytes w c.new.ensures.items c.new-2.ensures.items queue c.new-3.ensures.items
    c.new-4.ensures.items c.new-5.ensures.items (policies_are w chosen params) c.new-6.ensures.items
    c.new-7.ensures.items
