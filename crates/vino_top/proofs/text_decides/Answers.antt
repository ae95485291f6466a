-- The lines go by their text, and so does the end.
use Rattle.vino_top.proofs.TextLawLemmas.{ends_by_text}
use Rattle.vino_top.proofs.text_decides.Goals as goal

pub returns : goal.returns
returns c = λ b keys taken e d ios. ends_by_text b keys taken e d ios
