use Rattle.std.proofs.Common.{◌∙◌, None, slice_index_or, sym, ap}
use Rattle.graft_accounts.specs.Table.{Table}
use Rattle.graft_accounts.proofs.Empty.{none_seen}
use Rattle.graft_accounts.proofs.accounts.Accounts.any_stands.Goals as goal

pub returns-clause-exact : goal.returns-clause-exact
returns-clause-exact c = (
  (λ e i. ap (λ (t : Table). slice_index_or t.grafts i None) (sym c.self.view_is) ∙ c.any.ensures.0 e i),
  (λ none. c.any.ensures.1 (λ i. ap (λ (t : Table). slice_index_or t.grafts i None) c.self.view_is ∙ none i)),
)

pub returns-clause-none : goal.returns-clause-none
returns-clause-none c =
    λ e. none_seen c.args.self.now (λ i. ap (λ (t : Table). slice_index_or t.grafts i None)
    (sym c.self.view_is) ∙ c.any.ensures.0 e i)
