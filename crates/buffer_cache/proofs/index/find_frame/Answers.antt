use Rattle.std.proofs.Common.{◌≡◌, ℕ, false, arith, sym, ◌∙◌, subst}
use Rattle.std.proofs.lemmas.Bool.Decides.{nat_tests}
use Rattle.buffer_cache.specs.Frames.{holds, row_at}
use Rattle.buffer_cache.proofs.Finding.{found, missing}
use Rattle.buffer_cache.proofs.index.find_frame.Goals as goal

pub returns-in_default-clause-value : goal.returns-in_default-clause-value
returns-in_default-clause-value c =
    let past = c.in_default.ensures.lookup.0 in
    let blocks = c.requires.index.blocks in
    sym (missing c.args.index.now c.args.rows.now c.args.block c.requires.index
    (λ below. absurd (grind (arith, nat_tests, past, blocks))))

pub returns-then-is_holding-clause-value : goal.returns-then-is_holding-clause-value
returns-then-is_holding-clause-value c =
    let entry = c.in-Some.ensures.lookup.3.1 0 in
    let range = c.requires.index.frames c.args.block in
    let long = c.requires.rows in
    sym (found c.args.rows.now c.args.block c.in-Some.f.now c.requires.one_frame (omega arith)
    (sym c.is_holding.ensures ∙ c.if-is_holding.true))

pub returns-else-is_holding-clause-value : goal.returns-else-is_holding-clause-value
returns-else-is_holding-clause-value c =
    let entry = c.in-Some.ensures.lookup.3.1 0 in
    sym (missing c.args.index.now c.args.rows.now c.args.block c.requires.index (λ _.
    subst (λ (g : ℕ). holds c.args.block (row_at c.args.rows.now g) ≡ false) entry
    (sym c.is_holding.ensures ∙ c.if-is_holding.false)))
