-- No count overflows, and each is that of all so far.
use Rattle.std.proofs.Common.{arith, [], ◌∙◌}
use Rattle.script_model.specs.Bare.{notes_with}
use Rattle.script_model.specs.Demo.{is_ended, is_refused, is_dropped}
use Rattle.demo_text.specs.Tallies.{is_newline}
use Rattle.demo_text.proofs.TallyLemmas.{blind_dropped, blind_ended, blind_refused, both_fit}
use Rattle.demo_text.proofs.TallyLemmas.{counts_all, few_more, same_count}
use Rattle.demo_text.proofs.tally.Tally.add.Goals as goal

pub overflow_add-self : goal.overflow_add-self
overflow_add-self c =
    omega (
      arith,
      both_fit is_newline c.requires.written c.args.bytes.now c.args.self.now.counts.lines
          c.count_lines.result c.requires.is.lines c.count_lines.ensures c.requires.few_bytes,
    )

pub overflow_add-self-2 : goal.overflow_add-self-2
overflow_add-self-2 c =
    omega (
      arith,
      both_fit is_ended c.requires.told (notes_with c.args.notes.now [])
          c.args.self.now.counts.ended c.count_ended.result c.requires.is.ended
          (c.count_ended.ensures ∙ same_count is_ended blind_ended c.args.notes.now [])
          (few_more c.requires.told c.args.notes.now c.requires.few_notes),
    )

pub overflow_add-self-3 : goal.overflow_add-self-3
overflow_add-self-3 c =
    omega (
      arith,
      both_fit is_refused c.requires.told (notes_with c.args.notes.now [])
          c.args.self.now.counts.refused c.count_refused.result c.requires.is.refused
          (c.count_refused.ensures ∙ same_count is_refused blind_refused c.args.notes.now [])
          (few_more c.requires.told c.args.notes.now c.requires.few_notes),
    )

pub overflow_add-self-4 : goal.overflow_add-self-4
overflow_add-self-4 c =
    omega (
      arith,
      both_fit is_dropped c.requires.told (notes_with c.args.notes.now [])
          c.args.self.now.counts.drops c.count_drops.result c.requires.is.drops
          (c.count_drops.ensures ∙ same_count is_dropped blind_dropped c.args.notes.now [])
          (few_more c.requires.told c.args.notes.now c.requires.few_notes),
    )

pub returns : goal.returns
returns c = λ given written told is.
    record {
      lines =
          counts_all is_newline written c.args.bytes.now c.args.self.now.counts.lines
          c.count_lines.result is.lines c.count_lines.ensures;
      ended =
          counts_all is_ended told (notes_with c.args.notes.now given)
          c.args.self.now.counts.ended c.count_ended.result is.ended
          (c.count_ended.ensures ∙ same_count is_ended blind_ended c.args.notes.now given);
      refused =
          counts_all is_refused told (notes_with c.args.notes.now given)
          c.args.self.now.counts.refused c.count_refused.result is.refused
          (c.count_refused.ensures ∙ same_count is_refused blind_refused c.args.notes.now given);
      drops =
          counts_all is_dropped told (notes_with c.args.notes.now given)
          c.args.self.now.counts.drops c.count_drops.result is.drops
          (c.count_drops.ensures ∙ same_count is_dropped blind_dropped c.args.notes.now given);
      digest = c.update.ensures written is.digest;
    }
