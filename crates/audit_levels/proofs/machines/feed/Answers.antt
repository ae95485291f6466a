use Rattle.std.proofs.Common.{◌+◌, ℕ, get_or, ap, ◌∙◌, arith}
use Rattle.kernel_model.specs.Objects.{at}
use Rattle.audit_table.specs.Tables.{by_place}
use Rattle.audit_levels.proofs.Segments.{fed_more}
use Rattle.audit_levels.proofs.machines.feed.Goals as goal

pub loop-i-preserved : goal.loop-i-preserved
loop-i-preserved c =
    let i = c.loop-i.i in
    let bs = c.args.bytes.now in
    record {
      bytes = c.put_byte.ensures.place ∙ ap (λ (f : ℕ → ℕ). at (2048 + i) (get_or bs i 0) f)
          c.loop-i.invariant.bytes
          ∙ fed_more bs i (by_place c.args.memory.now.items) (omega arith);
      size = c.put_byte.ensures.size ∙ c.loop-i.invariant.size;
    }
