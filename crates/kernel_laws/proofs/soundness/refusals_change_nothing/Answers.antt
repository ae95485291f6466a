use Rattle.kernel_laws.proofs.soundness.refusals_change_nothing.Goals as goal

pub returns : goal.returns
returns g c = g.R.Rules.laws.piece.refused
