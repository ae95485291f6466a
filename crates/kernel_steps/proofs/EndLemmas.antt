-- What an instruction, and the drop of a level, can say.
use Rattle.std.proofs.Common.{◌≡◌, ℕ, zero, suc, ◌+◌, ◌==◌, Bool, true, false, List, [], ◌∷◌}
use Rattle.std.proofs.Common.{length, refl, arith, Option, Some, None}
use Rattle.kernel_model.specs.declared.Cause.{Cause}
use Rattle.kernel_model.specs.declared.Cause.TheVariants.{DivideByZero, Trap, SpentSteps}
use Rattle.kernel_model.specs.declared.Cause.TheVariants.{SpentRecords, SpentLocks, RefusedAnswer}
use Rattle.kernel_model.specs.declared.Inverse.{Inverse}
use Rattle.kernel_model.specs.declared.Kind.TheVariants.{Steps, Records}
use Rattle.kernel_model.specs.World.{World, ImageTable}
use Rattle.kernel_model.specs.Objects.{Objects, Things, GraftValue, with_accounts}
use Rattle.kernel_model.specs.Access.{Access, Gives, Changes, Refuses, found_segment, set_segment}
use Rattle.kernel_model.specs.Charges.{charge}
use Rattle.kernel_model.specs.Machine.{seg_step, Machine, Done, Called, Returned, Trapped, Outside, PastEnd}
use Rattle.kernel_model.specs.Levels.{code_of, Level, Outcome, answer_innermost, drop_innermost, drop_level}
use Rattle.kernel_model.specs.GraftStep.{after_accessor, after_answer, after_keeping, after_ask}
use Rattle.kernel_model.specs.GraftStep.{after_call, after_change, after_machine, after_result}
use Rattle.kernel_model.specs.GraftStep.{after_return, ask_answered, charged_step, completed}
use Rattle.kernel_model.specs.GraftStep.{granted_call, lock_paid, micro_on}
use Rattle.graft_levels.specs.Chains.{HasAnswer}
use Rattle.kernel_model.specs.declared.Micro.{Micro}
use Rattle.kernel_steps.specs.Steps.{answer_of_drop, answer_said}
use Rattle.kernel_steps.proofs.StepLemmas.{EndsAs}

-- an outcome ends as it can
abbrev Ends : Outcome → Type 0
Ends o = EndsAs o.said o.config.levels

-- an answer changes no number of levels
answered_many : (pt r0 r1 : ℕ) (ls : List Level) → length (answer_innermost pt r0 r1 ls) ≡ length ls
answered_many pt r0 r1 [] = refl
answered_many pt r0 r1 (l ∷ ls) = refl

dropped : (v : World) (w : Objects) (l : Level) (ls : List Level) (cause : Cause) → Ends (drop_innermost v w l ls cause)
dropped v w l ls cause = answered_many l.point _ _ ls

paid : (v : World) (w : Objects) (l : Level) (ls : List Level) (m : Machine) (id result : ℕ)
    (b : Bool) → Ends (lock_paid v w l ls m id result b)
paid v w l ls m id result true = dropped v w l ls SpentLocks
paid v w l ls m id result false = tt

resulted : (v : World) (w : Objects) (l : Level) (ls : List Level) (m : Machine) (id result : ℕ)
    (b : Bool) → Ends (after_result v w l ls m id result b)
resulted v w l ls m id result true = paid v w l ls m id result _
resulted v w l ls m id result false = tt

changed : (v : World) (w : Objects) (l : Level) (ls : List Level) (m : Machine) (id result : ℕ)
    (i : Inverse) (things : Things) (b : Bool) → Ends (after_change v w l ls m id result i things b)
changed v w l ls m id result i things true = dropped v w l ls SpentRecords
changed v w l ls m id result i things false = tt

accessed : (v : World) (w : Objects) (l : Level) (ls : List Level) (m : Machine) (id : ℕ)
    (a : Access) → Ends (after_accessor v w l ls m id a)
accessed v w l ls m id (Refuses cause) = dropped v w l ls cause
accessed v w l ls m id (Gives result) = resulted v w l ls m id result _
accessed v w l ls m id (Changes result i things) = changed v w l ls m id result i things _

answered : (v : World) (images : ImageTable) (w : Objects) (p q pt : ℕ) (ls : List Level)
    (g : Option GraftValue) → Ends (ask_answered v images w p q pt ls g)
answered v images w p q pt ls None = tt
answered v images w p q pt ls (Some g) = tt

asked : (v : World) (images : ImageTable) (w : Objects) (p : ℕ) (l : Level) (ls : List Level)
    (m : Machine) (id pt : ℕ) (c : Option Cause) → Ends (after_ask v images w p l ls m id pt c)
asked v images w p l ls m id pt (Some cause) = dropped v w l ls cause
asked v images w p l ls m id pt None = answered v images w p l.owner pt _ (w.accounts.graft l.owner pt)

granted : (v : World) (images : ImageTable) (w : Objects) (p : ℕ) (l : Level) (ls : List Level)
    (m : Machine) (id : ℕ) (b : Bool) → Ends (granted_call v images w p l ls m id b)
granted v images w p l ls m id true = asked v images w p l ls m id _ _
granted v images w p l ls m id false = accessed v w l ls m id _

called : (v : World) (images : ImageTable) (w : Objects) (p : ℕ) (l : Level) (ls : List Level)
    (m : Machine) (id : ℕ) (c : Option Cause) → Ends (after_call v images w p l ls m id c)
called v images w p l ls m id (Some cause) = dropped v w l ls cause
called v images w p l ls m id None = granted v images w p l ls m id _

complete : (w : Objects) (l : Level) (ls : List Level) → Ends (completed w l ls)
complete w l [] = refl
complete w l (asker ∷ rest) = tt

kept : (v : World) (w : Objects) (l : Level) (ls : List Level) (b : Bool) → Ends (after_keeping v w l ls b)
kept v w l ls true = dropped v w l ls SpentRecords
kept v w l ls false =
    complete (record {
      accounts = charge Records l.owner l.point w.accounts;
      things = set_segment l.owner l.point (Some l.machine.memory) w.things;
    })
    (record l { records = found_segment l.owner l.point w.things ∷ l.records }) ls

accepted : (v : World) (w : Objects) (l : Level) (ls : List Level) (b : Bool) → Ends (after_answer v w l ls b)
accepted v w l ls true = kept v w l ls _
accepted v w l ls false = complete w l ls

returned : (v : World) (images : ImageTable) (w : Objects) (l : Level) (ls : List Level)
    (b : Bool) → Ends (after_return v images w l ls b)
returned v images w l ls true = accepted v w l ls _
returned v images w l ls false = dropped v w l ls (RefusedAnswer (l.machine.regs 0) (l.machine.regs 1))

machine_did : (v : World) (images : ImageTable) (p : ℕ) (w : Objects) (l : Level) (ls : List Level)
    (d : Done) → Ends (after_machine v images p w l ls d)
machine_did v images p w l ls (Done.Went m) = tt
machine_did v images p w l ls (Called id m) = called v images w p l ls m id _
machine_did v images p w l ls Returned = returned v images w l ls _
machine_did v images p w l ls Done.DividedByZero = dropped v w l ls DivideByZero
machine_did v images p w l ls (Trapped code) = dropped v w l ls (Trap code)
machine_did v images p w l ls Outside = dropped v w l ls DivideByZero
machine_did v images p w l ls PastEnd = dropped v w l ls DivideByZero

charged : (v : World) (images : ImageTable) (p : ℕ) (w : Objects) (l : Level) (ls : List Level)
    (b : Bool) → Ends (charged_step v images p w l ls b)
charged v images p w l ls true = dropped v w l ls SpentSteps
charged v images p w l ls false =
    machine_did v images p (with_accounts (charge Steps l.owner l.point w.accounts) w)
    (record l { count = l.count + 1 }) ls
    (seg_step (code_of images w.accounts l.owner l.point) l.machine)

pub micro_ends : (v : World) (images : ImageTable) (p : ℕ) (w : Objects) (ls : List Level) →
    EndsAs (micro_on v images p w ls).said (micro_on v images p w ls).config.levels
micro_ends v images p w [] = tt
micro_ends v images p w (l ∷ ls) = charged v images p w l ls _

pub drop_ends : (v : World) (w : Objects) (ls : List Level) (d : ℕ) (cause : Cause) →
    EndsAs (drop_level v w ls d cause).said (drop_level v w ls d cause).config.levels
drop_ends v w [] d cause = tt
drop_ends v w (l ∷ ls) d cause =
    elim (length ls == d) as (λ b. Ends (elim b as (λ _. Outcome) [
      | true ↦ drop_innermost v w l ls cause
      | false ↦ drop_level v w ls d cause
    ]))
    [ true ↦ dropped v w l ls cause | false ↦ drop_ends v w ls d cause ]

-- nor does it complete
pub drop_has_answer : (v : World) (w : Objects) (ls : List Level) (d : ℕ) (cause : Cause)
    (ram : List ℕ) (p : ℕ) → HasAnswer (drop_level v w ls d cause).said ram p ls
drop_has_answer v w ls d cause ram p = λ registers is. absurd (not_completed ls registers is)
  where
    not_completed : (ls : List Level) (registers : List ℕ) →
        (drop_level v w ls d cause).said ≡ Micro.Completed registers → ⊥
    not_completed [] registers h = grind (arith, h)
    not_completed (l ∷ ls) registers h =
        elim (length ls == d) as (λ b. (elim b as (λ _. Outcome) [
          | true ↦ drop_innermost v w l ls cause
          | false ↦ drop_level v w ls d cause
        ]).said ≡ Micro.Completed registers → ⊥)
        [ true ↦ λ e. grind (arith, e) | false ↦ λ e. not_completed ls registers e ] h

-- what some are equal by
pub same_inner : (a b : Option (List ℕ)) → Some a ≡ Some b → a ≡ b
same_inner a b e = cc

-- a dropped level gives no answer
pub drop_answer : (v : World) (w : Objects) (ls : List Level) (d : ℕ) (cause : Cause) (answer :
    Option (List ℕ)) → answer_said (drop_level v w ls d cause).said ≡ Some answer → None ≡ answer
drop_answer v w [] d cause answer h = grind (arith, h)
drop_answer v w (l ∷ ls) d cause answer h =
    elim (length ls == d) as (λ b. answer_said (elim b as (λ _. Outcome) [
      | true ↦ drop_innermost v w l ls cause
      | false ↦ drop_level v w ls d cause
    ]).said ≡ Some answer → None ≡ answer)
    [ true ↦ λ e. by_number (length ls) e | false ↦ λ e. drop_answer v w ls d cause answer e ] h
  where
    by_number : (n : ℕ) → answer_of_drop n ≡ Some answer → None ≡ answer
    by_number zero e = same_inner None answer e
    by_number (suc n) e = grind (arith, e)
