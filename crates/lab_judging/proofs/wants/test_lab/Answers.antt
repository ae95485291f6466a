-- Where the run came to its end or to a refused line, what is told decides.
use Rattle.std.proofs.Common.{inl, inr, ap, ◌∙◌, subst, arith}
use Rattle.lab_lines.specs.Told.{lines_in}
use Rattle.lab_lines.specs.AsWanted.{PiecesInOrder}
use Rattle.std.proofs.lemmas.Bool.Decides.{nat_tests}
use Rattle.lab_judging.proofs.Judging.{Divided, as_wanted, as_other}
use Rattle.lab_judging.proofs.wants.test_lab.Goals as goal
use Rattle.lab_judging.proofs.wants.test_lab.Goals.{else-status-ne0-via-then-status-ne0+else-status-ne-REFUSED}
use Rattle.lab_judging.proofs.wants.test_lab.Goals.{else-status-ne0-via-else-status-ne0}
use Rattle.lab_judging.proofs.wants.test_lab.Goals.{then-told-eq0, else-told-eq0}

-- what the run wrote, in pieces
abbrev divided : (c : goal.After-drop-ran-5) → Divided c.args.lowered.now.lab c.args.lowered.now.script.items
divided c =
    record {
      ran = c.in_ok-ran.ran;
      run = c.in_ok-ran.ensures;
      told = c.status_of-status.result;
      status = c.status_of-status.ensures;
      ended = elim c.else-status-ne0.branch [
        | else-status-ne0-via-then-status-ne0+else-status-ne-REFUSED w ↦
            inr (grind (arith, nat_tests, w.if-status-ne-REFUSED))
        | else-status-ne0-via-else-status-ne0 w ↦ inl (grind (arith, nat_tests, w.if-status-ne0))
      ];
      first = c.in_ok-pieces.pieces.items;
      whole = c.in_ok-pieces.ensures;
      pieces = c.in_ok-pieces-2.pieces.items;
      same = c.in_ok-pieces-2.ensures.lines ∙ ap lines_in c.as_slice-2.ensures.value;
      ordered = subst (λ n. PiecesInOrder 1 n c.in_ok-pieces-2.pieces.items)
          (c.last.ensures ∙ ap (λ s. s.last) c.sheet-sheet.ensures) c.in_ok-pieces-2.ensures.ordered;
    }

pub returns-clause-passed : goal.returns-clause-passed
returns-clause-passed c = λ zero.
    elim c.if-told-eq0.branch [
      | then-told-eq0 w ↦ as_wanted _ _ (divided c) _ _ _ c.sheet-sheet.ensures
          c.as_slice-3.ensures.value
          c.in_ok-told.ensures.trusted (grind (arith, nat_tests, w.if-told-eq0))
      | else-told-eq0 w ↦ absurd (elim c.write_out.ensures [
        | inl e ↦ grind (arith, nat_tests, e, w.status-is, zero)
        | inr e ↦ grind (arith, nat_tests, e, zero)
      ])
    ]

pub returns-clause-failed : goal.returns-clause-failed
returns-clause-failed c = λ one.
    elim c.if-told-eq0.branch [
      | then-told-eq0 w ↦ absurd (elim c.write_out.ensures [
        | inl e ↦ grind (arith, nat_tests, e, w.status-is, one)
        | inr e ↦ grind (arith, nat_tests, e, one)
      ])
      | else-told-eq0 w ↦ as_other _ _ (divided c) _ _ _ c.sheet-sheet.ensures
          c.as_slice-3.ensures.value c.requires.wants
          c.in_ok-told.ensures.silent (λ e. grind (arith, nat_tests, e, w.if-told-eq0))
    ]
