use Rattle.graft_loader.proofs.Decoding.{Decodes}
use Rattle.graft_loader.proofs.decode_words.Given as goal

abbrev pub invariant-loop-pc : goal.invariant-loop-pc
invariant-loop-pc l = Decodes l.words l.pc l.code.items
