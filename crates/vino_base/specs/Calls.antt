-- Which of the calls of a device fail.
use Rattle.std.specs.Prelude.{ℕ, ◌==◌, Bool, List}
use Rattle.std.specs.List.{list_any}
use Rattle.vino_base.specs.Faults.{counted}

-- how many calls were made, and the numbers of the calls that fail, counted from 1
pub record Plan : Type 0 where
  pub made : ℕ
  pub failing : List ℕ

-- the plan after one more call
abbrev pub after_call : Plan → Plan
after_call p = record { made = counted p.made; failing = p.failing }

-- the next call fails
abbrev pub call_fails : Plan → Bool
call_fails p = list_any (λ k. k == counted p.made) p.failing
