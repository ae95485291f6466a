use Rattle.std.proofs.Common.{◌≡◌, ℕ, ◌+◌, ◌*◌, sym, arith, inl, inr, List}
use Rattle.std.specs.Prelude.{slice_index}
use Rattle.vino_host.proofs.Fetching.{fetched, past}
use Rattle.vino_host.proofs.processor.fetch.Goals as goal

pub returns-in-Some-clause-instruction : goal.returns-in-Some-clause-instruction
returns-in-Some-clause-instruction c =
    let w : List ℕ = c.in-Some.w.now in
    let part = c.in-Some.ensures.lookup.0 in
    let word : c.from_le_bytes.result
    ≡ slice_index w 4 + 256 * slice_index w 5 + 65536 * slice_index w 6 + 16777216 * slice_index w 7 =
    omega (arith, c.from_le_bytes.ensures) in
    rw (c.operation.ensures, word) (sym (fetched c.args.pc c.args.code.now w part.1 part.3 part.2))

pub returns-in-None-clause-instruction : goal.returns-in-None-clause-instruction
returns-in-None-clause-instruction c =
    elim c.in-None.ensures.lookup.0 [
      | inl short ↦ absurd (omega (arith, short))
      | inr few ↦ sym (past c.args.pc c.args.code.now few)
    ]
