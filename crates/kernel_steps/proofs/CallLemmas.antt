-- A process's call changes, and nothing else that it has in flight.
use Rattle.std.proofs.Common.{◌≡◌, ℕ, ◌<◌, ◌==◌, true, false, cond, List, length, refl, ap, sym}
use Rattle.std.proofs.Common.{◌∙◌, arith, Option, Some}
use Rattle.std.specs.Prelude.{slice_set, option_map}
use Rattle.std.proofs.Math.Path.{fun_ext}
use Rattle.std.proofs.lemmas.Grind.{common_steps}
use Rattle.std.proofs.lemmas.Bool.Decides.{nat_tests}
use Rattle.kernel_model.specs.Objects.{at}
use Rattle.running_kernel.specs.declared.running.InFlight.{InFlight}
use Rattle.running_kernel.specs.declared.running.Flight.{Flight}
use Rattle.running_kernel.specs.Views.{flight_of, call_in_place}

-- the calls of a process with this call
abbrev pub with_call : List Flight → ℕ → Option InFlight → List Flight
with_call fs p v = slice_set fs p (record (flight_of fs p) { call = v })

-- the same by the flight that stood there
abbrev pub with_call_of : List Flight → ℕ → Option InFlight → Flight → List Flight
with_call_of fs p v l = slice_set fs p (record { call = v; chain = l.chain })

-- its call is this, and the others stay
pub call_of_changed : (fs : List Flight) (p : ℕ) (v : Option InFlight) → p < length fs → (q : ℕ) →
    (flight_of (with_call fs p v) q).call ≡ at p v (λ r. (flight_of fs r).call) q
call_of_changed fs p v h q = grind (arith, nat_tests, common_steps)

-- all chains stay
pub chain_of_changed : (fs : List Flight) (p : ℕ) (v : Option InFlight) → p < length fs → (q : ℕ) →
    (flight_of (with_call fs p v) q).chain ≡ (flight_of fs q).chain
chain_of_changed fs p v h q = grind (arith, nat_tests, common_steps)

-- the same of the calls in place
mapped_at : {A B : Type 0} (f : A → B) (p : ℕ) (v : Option A) (calls : ℕ → Option A) (q : ℕ) →
    option_map f (at p v calls q) ≡ at p (option_map f v) (λ r. option_map f (calls r)) q
mapped_at f p v calls q =
    elim (q == p) as (λ b. option_map f (cond b v (calls q))
    ≡ cond b (option_map f v) (option_map f (calls q))) [ true ↦ refl | false ↦ refl ]

pub calls_changed : (fs : List Flight) (p : ℕ) (v : Option InFlight) → p < length fs →
    (λ q. option_map call_in_place (flight_of (with_call fs p v) q).call)
    ≡ at p (option_map call_in_place v) (λ q. option_map call_in_place (flight_of fs q).call)
calls_changed fs p v h =
    fun_ext (λ q. ap (option_map call_in_place) (call_of_changed fs p v h q)
    ∙ mapped_at call_in_place p v (λ r. (flight_of fs r).call) q)

-- the call of each process is its own
pub callers_changed : (fs : List Flight) (p : ℕ) (v : Option InFlight) → p < length fs →
    ((q : ℕ) (f : InFlight) → (flight_of fs q).call ≡ Some f → f.work.caller ≡ q) →
    ((f : InFlight) → v ≡ Some f → f.work.caller ≡ p) →
    (q : ℕ) (f : InFlight) → (flight_of (with_call fs p v) q).call ≡ Some f → f.work.caller ≡ q
callers_changed fs p v h own new q f is = grind (arith, nat_tests, call_of_changed fs p v h q, own q f, new f)

-- ---- of a list that was changed so

pub still_sixteen : (fs : List Flight) (p : ℕ) (v : Option InFlight) (gs : List Flight) →
    gs ≡ with_call fs p v → length gs ≡ length fs
still_sixteen fs p v gs is = grind (arith, common_steps, is)

pub chains_stay : (fs : List Flight) (p : ℕ) (v : Option InFlight) (gs : List Flight) →
    p < length fs → gs ≡ with_call fs p v → (q : ℕ) →
    (flight_of gs q).chain ≡ (flight_of fs q).chain
chains_stay fs p v gs h is q = ap (λ hs. (flight_of hs q).chain) is ∙ chain_of_changed fs p v h q

pub callers_set : (fs : List Flight) (p : ℕ) (v : Option InFlight) (gs : List Flight) →
    p < length fs → gs ≡ with_call fs p v →
    ((q : ℕ) (f : InFlight) → (flight_of fs q).call ≡ Some f → f.work.caller ≡ q) →
    ((f : InFlight) → v ≡ Some f → f.work.caller ≡ p) →
    (q : ℕ) (f : InFlight) → (flight_of gs q).call ≡ Some f → f.work.caller ≡ q
callers_set fs p v gs h gs_is own new q f is =
    callers_changed fs p v h own new q f (sym (ap (λ hs. (flight_of hs q).call) gs_is) ∙ is)
