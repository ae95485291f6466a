use Rattle.std.proofs.Common.{ℕ, ◌==◌, rules}
use Rattle.std.proofs.lemmas.List.Sums.{length-filter}
use Rattle.process_table.proofs.arrays.count_at.Goals as goal

pub returns : goal.returns
returns c = rw (length-filter (λ (h : ℕ × ℕ). h.1 == c.args.pt) c.args.handlers.now) (search rules)
