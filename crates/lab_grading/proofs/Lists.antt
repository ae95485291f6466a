-- What was read of each test, and what came of each, one test more.
use Rattle.std.proofs.Common.{◌≡◌, ℕ, ◌+◌, ◌<◌, List, [], ◌∷◌, ◌++◌, length, take, get_or}
use Rattle.std.proofs.lemmas.List.{take_more}
use Rattle.lab_task.specs.Task.{Test}
use Rattle.lab_grading.specs.declared.checking.Checked.{Checked}
use Rattle.lab_grading.specs.declared.grading.Outcome.{Outcome}
use Rattle.lab_grading.specs.Graded.{IsChecked, AreChecked, Says, AreSaid}

checked_append : (front : List ℕ) (ts : List Test) (cs : List Checked) (t : Test) (c : Checked) →
    AreChecked front ts cs → IsChecked front t c → AreChecked front (ts ++ t ∷ []) (cs ++ c ∷ [])
checked_append front [] [] t c h w = (w, tt)
checked_append front [] (d ∷ ds) t c h w = absurd h
checked_append front (u ∷ us) [] t c h w = absurd h
checked_append front (u ∷ us) (d ∷ ds) t c h w = (h.0, checked_append front us ds t c h.1 w)

-- the tests up to the next one, and what was read of it
pub checked_more : (front : List ℕ) (ts : List Test) (cs : List Checked) (k : ℕ) (t : Test)
    (c : Checked) → AreChecked front (take k ts) cs → k < length ts → t ≡ get_or ts k t →
    IsChecked front t c → AreChecked front (take (k + 1) ts) (cs ++ c ∷ [])
checked_more front ts cs k t c h within at w =
    rw (take_more ts k t within, ← at) (checked_append front (take k ts) cs t c h w)

said_append : (front : List ℕ) (to : ℕ) (cs : List Checked) (os : List Outcome) (c : Checked)
    (o : Outcome) → AreSaid front to cs os → Says o front to c →
    AreSaid front to (cs ++ c ∷ []) (os ++ o ∷ [])
said_append front to [] [] c o h w = (w, tt)
said_append front to [] (p ∷ ps) c o h w = absurd h
said_append front to (d ∷ ds) [] c o h w = absurd h
said_append front to (d ∷ ds) (p ∷ ps) c o h w = (h.0, said_append front to ds ps c o h.1 w)

-- the tests up to the next one, and what came of it
pub said_more : (front : List ℕ) (to : ℕ) (cs : List Checked) (os : List Outcome) (k : ℕ)
    (c : Checked) (o : Outcome) → AreSaid front to (take k cs) os → k < length cs →
    c ≡ get_or cs k c → Says o front to c → AreSaid front to (take (k + 1) cs) (os ++ o ∷ [])
said_more front to cs os k c o h within at w =
    rw (take_more cs k c within, ← at) (said_append front to (take k cs) os c o h w)
