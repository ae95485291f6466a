use Rattle.graft_texts.specs.Instructions.{fits}
use Rattle.graft_lang.proofs.Writing.{all_set}
use Rattle.graft_lang.proofs.writer.Writer.patch.Goals as goal

pub invariant_of-self : goal.invariant_of-self
invariant_of-self c = all_set fits _ c.args.at _ c.self.invariant c.requires.fits
