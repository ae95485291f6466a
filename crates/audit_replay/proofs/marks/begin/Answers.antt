use Rattle.std.proofs.Common.{List, [], ◌∷◌, ◌++◌, ap, ◌∙◌}
use Rattle.kernel_model.specs.Objects.{Accounts, Things}
use Rattle.kernel_model.specs.Levels as levels
use Rattle.kernel_model.specs.History as model
use Rattle.audit_state.specs.Accounts.{accounts_of}
use Rattle.audit_state.specs.Things.{things_of}
use Rattle.audit_levels.specs.declared.Level.{Level}
use Rattle.audit_levels.specs.Levels.{levels_of}
use Rattle.audit_replay.proofs.Going.{if_ok}
use Rattle.audit_replay.proofs.marks.begin.Goals as goal

pub returns : goal.returns
returns c =
    if_ok c.first_trace.result
    (λ t said bytes.
    let a = accounts_of c.args.accounts.now in
    let w = things_of bytes c.args.things.now in
    let all = levels_of bytes c.put_last.new.items.items in
    let with : Accounts → Things → List levels.Level → model.Trace =
    λ x y ls. model.first_trace
    (record { now = record { accounts = x; things = y }; levels = ls }) in
    said bytes
    ∙ ap (λ (x : Accounts). with x (things_of bytes c.in_ok-copy-2.field-0) all) c.in_ok-copy.ensures
    ∙ ap (λ (y : Things). with a y all) (c.in_ok-copy-2.ensures bytes)
    ∙ ap (with a w)
    (ap (λ (xs : List Level). levels_of bytes xs)
    (c.in_ok-put_last.ensures ∙ ap (λ (xs : List Level). xs ++ c.in_ok-l.l ∷ []) c.new-levels.ensures.items)
    ∙ ap (λ (l : levels.Level). l ∷ []) (c.in_ok-l.ensures bytes)))
    c.first_trace.ensures
