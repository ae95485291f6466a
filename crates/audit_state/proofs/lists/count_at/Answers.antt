use Rattle.std.proofs.Common.{ℕ, ◌==◌, rules}
use Rattle.std.proofs.lemmas.List.Sums.{length-filter}
use Rattle.audit_state.proofs.lists.count_at.Goals as goal

pub returns : goal.returns
returns c = rw (length-filter (λ (h : ℕ × ℕ). h.1 == c.args.pt) c.args.list.now) (search rules)
