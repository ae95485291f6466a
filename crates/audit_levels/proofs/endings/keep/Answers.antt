use Rattle.std.proofs.Common.{ℕ, Option, Some, List, ap, ◌∙◌}
use Rattle.kernel_model.specs.Access.{Found, set_segment}
use Rattle.kernel_model.specs.declared.Inverse.TheVariants.{Segment}
use Rattle.audit_table.specs.Tables.{by_place}
use Rattle.audit_state.specs.Things.{things_of}
use Rattle.audit_levels.proofs.endings.keep.Goals as goal

pub returns : goal.returns
returns c = record {
  found = λ bytes.
      let l = c.args.l.now in
      let with : Option (ℕ → ℕ) → Found = λ b. record { inverse = Segment l.owner l.point; bytes = b } in
      ap with (c.in_ok-share_if.ensures ∙ c.kept.ensures bytes);
  kept = λ bytes.
      let l = c.args.l.now in
      let things = things_of bytes c.args.things.now in
      c.in_ok-set_kept.ensures bytes
      ∙ ap (λ (f : ℕ → ℕ). set_segment l.owner l.point (Some f) things)
      (c.in_ok-segment.ensures ∙ ap (λ (xs : List ℕ). by_place xs) c.deref.ensures.value);
}
