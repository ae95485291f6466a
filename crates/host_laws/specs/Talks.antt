-- A run of a plug-in, and the words with which the host answers its calls.
use Rattle.std.specs.Prelude.{ℕ, List, [], ◌∷◌, ◌++◌, None, Some}
use Rattle.graft_code.specs.declared.Instr.{Instr}
use Rattle.vino_host.specs.declared.Stop.{Stop}
use Rattle.vino_host.specs.declared.Stop.TheVariants.{Returns, Waits, Drops}
use Rattle.vino_host.specs.Calls.{Found, resumed}
use Rattle.vino_host.specs.HostRuns.{State, state, Ended, host_run, with_r0}
use Rattle.host_laws.specs.RawAnswers.{answers_of}

-- a run that waited goes on with a word
abbrev pub with_word : ℕ → Ended → State
with_word x e = state (with_r0 x e.state.machine) e.state.table e.state.records

-- what comes after a run, for whose wait there is a word
abbrev pub after_wait : (rest : ℕ → State → Ended) → ℕ → Ended → Stop → Ended
after_wait rest x e Returns = e
after_wait rest x e (Waits id) = rest e.left (with_word x e)
after_wait rest x e (Drops cause detail) = e

abbrev pub talk_on : (rest : ℕ → State → Ended) → ℕ → Ended → Ended
talk_on rest x e = after_wait rest x e e.stop

-- A run to whose calls the host answers with these words in turn. It stops where it ends, or at a
-- call for which no word is left.
unfoldable pub host_talk : (number : ℕ) → List Instr → (words : List ℕ) → (n : ℕ) → State → Ended
host_talk number code [] n s = host_run number code n s
host_talk number code (x ∷ xs) n s =
    talk_on (host_talk number code xs) x (host_run number code n s)

-- the answers that such a run is given, after those of its first part
abbrev pub answers_behind : (rest : ℕ → State → List (ℕ × ℕ)) → ℕ → Ended → Stop → List (ℕ × ℕ)
answers_behind rest x e Returns = []
answers_behind rest x e (Waits id) = (x, e.state.machine.regs 1) ∷ rest e.left (with_word x e)
answers_behind rest x e (Drops cause detail) = []

abbrev pub more_answers : (rest : ℕ → State → List (ℕ × ℕ)) → ℕ → Ended → List (ℕ × ℕ)
more_answers rest x e = answers_behind rest x e e.stop

-- the words that the table and the host give such a run
unfoldable pub talk_answers : (number : ℕ) → List Instr → (words : List ℕ) → (n : ℕ) → State →
    List (ℕ × ℕ)
talk_answers number code [] n s = answers_of number code n s
talk_answers number code (x ∷ xs) n s =
    answers_of number code n s ++ more_answers (talk_answers number code xs) x (host_run number code n s)

-- what a caller finds who answers each call of the plug-in with the next of these words, until it
-- ends or no word is left
abbrev pub answered_with : (plugin : List ℕ) → (words : List ℕ) → Found → Found
answered_with plugin [] f = f
answered_with plugin (x ∷ xs) f =
    elim f.pause [
      | None ↦ f
      | Some p ↦ answered_with plugin xs (resumed plugin p 0 x f.table)
    ]
