use Rattle.std.proofs.Common.{◌∙◌, None, slice_index_or, sym, ap}
use Rattle.graft_accounts.proofs.Empty.{none_counted, none_stands, not_zero, zero_by}
use Rattle.graft_accounts.proofs.rows.Standings.any.Goals as goal

pub returns : goal.returns
returns c =
    let places = c.self.inside.places in (
      (λ e i. ap (λ l. slice_index_or l i None) (sym c.self.view_is)
          ∙ none_stands places (sym c.self.invariant ∙ zero_by c.self.inside.count e) i),
      (λ none. not_zero c.self.inside.count (c.self.invariant
          ∙ none_counted places (λ i. ap (λ l. slice_index_or l i None) c.self.view_is ∙ none i))),
    )
