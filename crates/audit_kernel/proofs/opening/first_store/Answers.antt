use Rattle.std.proofs.Common.{ap, ◌∙◌}
use Rattle.kernel_model.specs.Objects as model
use Rattle.kernel_model.specs.Opening.{opening_accounts}
use Rattle.audit_state.specs.Things.{things_of}
use Rattle.audit_pieces.specs.declared.Store.{Store}
use Rattle.audit_pieces.specs.Stores.{objects_of, page_of}
use Rattle.audit_kernel.proofs.opening.first_store.Goals as goal

pub returns-clause-objects : goal.returns-clause-objects
unfolding objects_of
returns-clause-objects c =
    let s : Store = record {
      accounts = c.in_ok-accounts.accounts;
      things = c.in_ok-things.things;
      pages = c.new.result;
      disk = c.new-2.result;
    } in
    let made : model.Accounts → model.Things → model.Objects = λ a w. record { accounts = a; things = w } in
    ap (λ (a : model.Accounts). made a (things_of (page_of s) s.things)) c.in_ok-accounts.ensures
    ∙ ap (made (opening_accounts c.args.grant)) (c.in_ok-things.ensures (page_of s))
