-- Turns of the run of a plug-in.
use Rattle.std.proofs.Common.{◌≡◌, ℕ, zero, suc, ◌-◌, ◌<◌, List, sym, ap, subst, ◌∙◌, arith}
use Rattle.graft_code.specs.Machine.{Machine, Done}
use Rattle.graft_code.specs.declared.Instr.{Instr}
use Rattle.vino_host.specs.declared.Stop.TheVariants as stop
use Rattle.vino_host.specs.Codes.{NO_STEPS}
use Rattle.vino_host.specs.HostMachine.{host_step}
use Rattle.vino_host.specs.HostRuns.{State, state, Ended, ended, after_done, after_answer, Answered, answered, host_run}

-- one instruction
pub turn : (number : ℕ) (code : List Instr) (n : ℕ) (s : State) (d : Done) (e : Ended) → 0 < n →
    host_step code s.machine ≡ d → host_run number code n s ≡ e →
    after_done number (host_run number code (n - 1)) (n - 1) d s ≡ e
unfolding host_run
turn number code zero s d e some h all = absurd (omega (arith, some))
turn number code (suc n) s d e some h all =
    let a : suc n - 1 ≡ n = omega arith in
    subst (λ (k : ℕ). after_done number (host_run number code k) k d s ≡ e) (sym a)
    (ap (λ (x : Done). after_done number (host_run number code n) n x s) (sym h) ∙ all)

-- the limit
pub no_turn : (number : ℕ) (code : List Instr) (n : ℕ) (s : State) (e : Ended) → n ≡ 0 →
    host_run number code n s ≡ e → ended (stop.Drops NO_STEPS 0) 0 s ≡ e
unfolding host_run
no_turn number code zero s e none all = all
no_turn number code (suc n) s e none all = absurd (omega (arith, none))

-- one that calls
pub turn_called : (number : ℕ) (code : List Instr) (n id : ℕ) (s : State) (m : Machine)
    (a : Answered) (e : Ended) →
    0 < n → host_step code s.machine ≡ Done.Called id m →
    answered number id (state m s.table s.records) ≡ a → host_run number code n s ≡ e →
    after_answer (host_run number code (n - 1)) (n - 1) a ≡ e
turn_called number code n id s m a e some h said all =
    ap (λ (x : Answered). after_answer (host_run number code (n - 1)) (n - 1) x) (sym said)
    ∙ turn number code n s (Done.Called id m) e some h all
