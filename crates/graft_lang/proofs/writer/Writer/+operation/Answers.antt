use Rattle.std.proofs.Common.{◌+◌, ◌∙◌, ap, refl, arith}
use Rattle.std.proofs.lemmas.Result.{on_ok_weaker, IfOk-weaker}
use Rattle.graft_syntax.specs.Views.{token_view}
use Rattle.graft_lang.specs.Writing.{with_first}
use Rattle.graft_lang.proofs.Writing.{view_no_number, view_no_variable}
use Rattle.graft_lang.proofs.Operands.{left_nothing, left_number}
use Rattle.graft_lang.proofs.Operands.{left_variable, left_operation, right_nothing, right_number}
use Rattle.graft_lang.proofs.Operands.{right_variable, right_written, right_joined, operation_joined}
use Rattle.graft_lang.proofs.writer.Writer.+operation.Goals as goal

pub left-returns-in_default-clause-writes : goal.left-returns-in_default-clause-writes
left-returns-in_default-clause-writes t c = left_nothing _ _ _ _ _ c.in_default.ensures.0

pub left-returns-in_ok-append-in-Number-clause-writes : goal.left-returns-in_ok-append-in-Number-clause-writes
left-returns-in_ok-append-in-Number-clause-writes t c =
    let is = c.in-Some.ensures ∙ ap (λ k. with_first (token_view k) c.next.new.self)
    c.in-Number.is in
    left_number _ _ _ c.in-Number.n _ c.next.new.self _ is
    (rw c.load_number.ensures.number at c.in_ok-append-in-Number.ensures) refl

pub left-returns-in-Variable-clause-writes : goal.left-returns-in-Variable-clause-writes
left-returns-in-Variable-clause-writes t c =
    let is = c.in-Some.ensures ∙ ap (λ k. with_first (token_view k) c.next.new.self)
    c.in-Variable.is in
    IfOk-weaker c.load.result _ _ (λ reg done. left_variable _ _ reg c.number_of.result
    c.in-Variable.name.now _ c.next.new.self _ is c.number_of.ensures.number done.1 done.0)
    c.load.ensures.code

pub left-returns-in_ok-operation-in_default-token-clause-writes : goal.left-returns-in_ok-operation-in_default-token-clause-writes
left-returns-in_ok-operation-in_default-token-clause-writes t c =
    left_operation _ _ _ (token_view c.in-Some.token) _ c.next.new.self _ c.in-Some.ensures
    (view_no_number _ c.in_default-token.not-Number)
    (view_no_variable _ c.in_default-token.not-Variable) refl
    c.in_ok-operation-in_default-token.ensures.writes

pub right-returns-in_default-clause-writes : goal.right-returns-in_default-clause-writes
right-returns-in_default-clause-writes t c = right_nothing _ _ _ _ _ _ c.in_default.ensures.0

pub right-returns-in_ok-append-in-Number-clause-writes : goal.right-returns-in_ok-append-in-Number-clause-writes
right-returns-in_ok-append-in-Number-clause-writes t c =
    let is = c.in-Some.ensures ∙ ap (λ k. with_first (token_view k) c.next.new.self)
    c.in-Number.is in
    on_ok_weaker c.apply.result (λ done. right_number _ _ _ _ c.in-Number.n _ c.next.new.self
    c.append.new.self _ is (rw c.load_number.ensures.number at c.in_ok-append-in-Number.ensures) done)
    c.apply.ensures.code

pub right-returns-in_ok-right-in-Variable-clause-writes : goal.right-returns-in_ok-right-in-Variable-clause-writes
right-returns-in_ok-right-in-Variable-clause-writes t c =
    let is = c.in-Some.ensures ∙ ap (λ k. with_first (token_view k) c.next.new.self)
    c.in-Variable.is in
    on_ok_weaker c.apply-in-Variable.result (λ done. right_variable _ _ _ _ c.in_ok-right-in-Variable.right
    c.number_of.result c.in-Variable.name.now _ c.next.new.self c.load.new.self _ is
    c.number_of.ensures.number c.in_ok-right-in-Variable.ensures.code.1 c.in_ok-right-in-Variable.ensures.code.0 done)
    c.apply-in-Variable.ensures.code

pub right-returns-in_default-token-clause-writes : goal.right-returns-in_default-token-clause-writes
right-returns-in_default-token-clause-writes t c =
    on_ok_weaker c.right_operation.result
    (right_written _ _ _ _ (token_view c.in-Some.token) _ c.next.new.self _ c.in-Some.ensures
    (view_no_number _ c.in_default-token.not-Number)
    (view_no_variable _ c.in_default-token.not-Variable)) c.right_operation.ensures.writes

pub right_operation-returns-clause-writes : goal.right_operation-returns-clause-writes
right_operation-returns-clause-writes t c =
    on_ok_weaker c.apply.result (λ done. right_joined _ _ (c.args.top + 1) _ _
    c.in_ok-waited.waited c.args.self.now c.put.new.self c.operation.new.self c.load.new.self _
    (omega arith) c.in_ok-put.ensures.code c.in_ok-operation.ensures.writes
    c.in_ok-waited.ensures.code.1 c.in_ok-waited.ensures.code.0 done) c.apply.ensures.code

pub operation-returns-clause-writes : goal.operation-returns-clause-writes
operation-returns-clause-writes t c =
    operation_joined _ _ c.in_ok-left.left _ c.args.self.now c.left.new.self c.operator-op.new.self
    c.right.new.self _ c.in_ok-left.ensures.writes c.operator-op.ensures.operator
    c.operator-op.ensures.skips c.in_ok-right.ensures.writes c.skip.ensures
