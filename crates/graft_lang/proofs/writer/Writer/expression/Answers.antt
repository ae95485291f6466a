use Rattle.std.proofs.Common.{◌∙◌, ap}
use Rattle.std.proofs.lemmas.Result.{on_ok_weaker}
use Rattle.graft_syntax.specs.Views.{token_view}
use Rattle.graft_lang.specs.Writing.{with_first}
use Rattle.graft_lang.proofs.Writing.{nothing_written, number_written, variable_written, operation_written}
use Rattle.graft_lang.proofs.Writing.{view_no_number, view_no_variable}
use Rattle.graft_lang.proofs.writer.Writer.expression.Goals as goal

pub returns-in_default-clause-writes : goal.returns-in_default-clause-writes
returns-in_default-clause-writes c = nothing_written _ _ _ _ c.in_default.ensures.0

pub returns-in-Number-clause-writes : goal.returns-in-Number-clause-writes
returns-in-Number-clause-writes c =
    let is = c.in-Some.ensures ∙ ap (λ k. with_first (token_view k) c.next.new.self)
    c.in-Number.is in
    on_ok_weaker c.append.result (λ done. number_written _ _ c.in-Number.n _ c.next.new.self _ is
    (rw c.load_number.ensures.number at done)) c.append.ensures

pub returns-in-Variable-clause-writes : goal.returns-in-Variable-clause-writes
returns-in-Variable-clause-writes c =
    let is = c.in-Some.ensures ∙ ap (λ k. with_first (token_view k) c.next.new.self)
    c.in-Variable.is in
    on_ok_weaker c.fetch.result (λ done. variable_written _ _ c.in-Variable.name.now _
    c.next.new.self _ is (rw c.number_of.ensures.number at done)) c.fetch.ensures.code

pub returns-in_default-token-clause-writes : goal.returns-in_default-token-clause-writes
returns-in_default-token-clause-writes c =
    on_ok_weaker c.operation.result
    (operation_written _ _ (token_view c.in-Some.token) _ c.next.new.self _ c.in-Some.ensures
    (view_no_number _ c.in_default-token.not-Number)
    (view_no_variable _ c.in_default-token.not-Variable)) c.operation.ensures.writes
