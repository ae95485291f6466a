use Rattle.std.proofs.Common.{◌≡◌, ◌≤◌, ◌-◌, ◌++◌, ℕ, length, take, replicate, ap, ◌∙◌, arith}
use Rattle.std.specs.Prelude.{vec_len}
use Rattle.audit_table.specs.Tables.{by_place}
use Rattle.audit_levels.proofs.Segments.{padded_is}
use Rattle.audit_levels.proofs.machines.padded.Goals as goal

pub returns-in-Ok-clause-same : goal.returns-in-Ok-clause-same
returns-in-Ok-clause-same c =
    let own = c.in_ok-own.own.items in
    let whole = c.max-whole.result in
    let le : length own ≤ whole = omega arith in
    let same : vec_len c.in_ok-own.own ≡ length own = omega arith in
    ap by_place c.in-Ok.ensures.items
    ∙ ap (λ (n : ℕ). by_place (take whole own ++ replicate (whole - n) 0)) same
    ∙ padded_is own whole le ∙ ap by_place c.in_ok-own.ensures
