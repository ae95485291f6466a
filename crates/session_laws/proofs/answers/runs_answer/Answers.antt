use Rattle.session_laws.proofs.RunAnswerLemmas.{runs_answer}
use Rattle.session_laws.proofs.answers.runs_answer.Goals as goal

pub returns : goal.returns
returns c = runs_answer
