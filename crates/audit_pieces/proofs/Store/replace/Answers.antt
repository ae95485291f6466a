use Rattle.std.proofs.Common.{ℕ, List, None, refl, ap, ◌∙◌}
use Rattle.kernel_model.specs.Objects as model
use Rattle.audit_table.specs.Tables.{column_of}
use Rattle.audit_state.specs.Accounts.{accounts_of}
use Rattle.audit_state.specs.Things.{things_of}
use Rattle.audit_pieces.specs.Stores.{objects_of, blocks_of, page_of}
use Rattle.audit_pieces.proofs.Storing.{page_changed}
use Rattle.audit_pieces.proofs.Store.replace.Goals as goal

pub returns : goal.returns
unfolding objects_of blocks_of
returns c =
    let s = c.args.self.now in
    let accounts = accounts_of s.accounts in
    let pages =
    page_changed (column_of None c.put_one.new.rows.items) (column_of None s.pages.items) c.args.f
    c.args.bytes (c.in_ok-put_one.ensures None) in
    record {
      objects =
          ap (λ (p : ℕ → List ℕ). record { accounts = accounts; things = things_of p c.replace.new.self })
          pages
          ∙ ap (λ (w : model.Things). record { accounts = accounts; things = w })
          (c.in_ok-replace.ensures (page_of s) c.args.bytes.items);
      blocks = refl;
    }
