-- An answer that goes to a level.
use Rattle.std.proofs.Common.{◌≡◌, ℕ, ◌<◌, ◌≤◌, ◌==◌, Bool, true, false, cond, nat_lt, List, ◌∷◌}
use Rattle.std.proofs.Common.{arith, refl, sym, ◌∙◌, ap, subst, length}
use Rattle.std.proofs.lemmas.Bool.Decides.{nat_tests}
use Rattle.kernel_model.specs.declared.Instr.{Instr}
use Rattle.kernel_model.specs.Machine.{Machine}
use Rattle.kernel_model.specs.Objects.{Accounts, Things, at}
use Rattle.kernel_model.specs.Boxed.{IsInside}
use Rattle.kernel_model.specs.World.{ImageTable}
use Rattle.kernel_model.specs.Policies.{PointKind, Ahead, Victim, Next, Serve, Stream, kind_of}
use Rattle.kernel_model.specs.Levels.{answered, answer_innermost, with_machine, base_of}
use Rattle.kernel_model.specs.Locks.{LockTable}
use Rattle.kernel_model.specs.Runs.{on_segment}
use Rattle.undo_calls.specs.UndoLevels.{Logged, innermost}
use Rattle.graft_machine.specs.Cpu.{Cpu, machine_of}
use Rattle.graft_levels.specs.declared.GraftLevel.{GraftLevel}
use Rattle.graft_levels.specs.Chains.{put_back, level_in, levels_in, outer}
use Rattle.graft_levels.specs.Calls.{AreInside}

ahead_kind : (pt : ℕ) → pt < 4 → kind_of pt ≡ Ahead
ahead_kind pt lt = grind (arith, nat_tests)

other_kind : (pt : ℕ) → 4 ≤ pt →
    kind_of pt ≡ cond (pt == 4) Victim (cond (pt == 5) Next (cond (nat_lt pt 14) Serve Stream))
other_kind pt le = grind (arith, nat_tests)

-- reading ahead has two answers
pub answered_two : (pt r0 r1 : ℕ) (m n o : Machine) → pt < 4 →
    n ≡ record m { regs = at 0 r0 m.regs } → o ≡ record n { regs = at 1 r1 n.regs } →
    o ≡ answered (kind_of pt) r0 r1 m
answered_two pt r0 r1 m n o lt first second =
    second ∙ ap (λ (x : Machine). record x { regs = at 1 r1 x.regs }) first
    ∙ ap (λ k. answered k r0 r1 m) (sym (ahead_kind pt lt))

one_answer : (a b c : Bool) (r0 r1 : ℕ) (m : Machine) →
    record m { regs = at 0 r0 m.regs } ≡ answered (cond a Victim (cond b Next (cond c Serve Stream))) r0 r1 m
one_answer true b c r0 r1 m = refl
one_answer false true c r0 r1 m = refl
one_answer false false true r0 r1 m = refl
one_answer false false false r0 r1 m = refl

-- the others have one
pub answered_one : (pt r0 r1 : ℕ) (m n : Machine) → 4 ≤ pt →
    n ≡ record m { regs = at 0 r0 m.regs } → n ≡ answered (kind_of pt) r0 r1 m
answered_one pt r0 r1 m n le is =
    is ∙ one_answer (pt == 4) (pt == 5) (nat_lt pt 14) r0 r1 m
    ∙ ap (λ k. answered k r0 r1 m) (sym (other_kind pt le))

-- an answer, seen on a segment
pub answered_on : (k : PointKind) (base r0 r1 : ℕ) (m : Machine) →
    on_segment base (answered k r0 r1 m) ≡ answered k r0 r1 (on_segment base m)
answered_on Ahead base r0 r1 m = refl
answered_on Victim base r0 r1 m = refl
answered_on Next base r0 r1 m = refl
answered_on Serve base r0 r1 m = refl
answered_on Stream base r0 r1 m = refl

-- the innermost level with another machine
pub answered_levels : (pt r0 r1 : ℕ) (g : GraftLevel) (cpu : Cpu) (low : g.owner < 16)
    (small : g.point < 16) (rest before after : List GraftLevel) → before ≡ g ∷ rest →
    after ≡ record {
      owner = g.owner;
      point = g.point;
      count = g.count;
      args = g.args;
      machine = cpu;
      is_owner = low;
      is_point = small;
    } ∷ rest →
    ((ram : List ℕ) → machine_of cpu ram ≡ answered (kind_of pt) r0 r1 (machine_of g.machine ram)) →
    (p : ℕ) (ram : List ℕ) (t : LockTable) (log : List (List Logged)) (w : Things) →
    levels_in p ram t after log w ≡ answer_innermost pt r0 r1 (levels_in p ram t before log w)
answered_levels pt r0 r1 g cpu low small rest before after was is machine p ram t log w =
    let l = level_in p (length rest) ram t g (innermost log) (put_back (innermost log) w) in
    let ls = levels_in p ram t rest (outer log) (put_back (innermost log) w) in
    let base = base_of p (length rest) in
    ap (λ gs. levels_in p ram t gs log w) is
    ∙ ap (λ (m : Machine). with_machine m l ∷ ls) (ap (on_segment base) (machine ram)
    ∙ answered_on (kind_of pt) base r0 r1 (machine_of g.machine ram))
    ∙ ap (λ gs. answer_innermost pt r0 r1 (levels_in p ram t gs log w)) (sym was)

-- it still runs
pub answered_inside : (g : GraftLevel) (cpu : Cpu) (low : g.owner < 16) (small : g.point < 16)
    (rest before after : List GraftLevel) → before ≡ g ∷ rest →
    after ≡ record {
      owner = g.owner;
      point = g.point;
      count = g.count;
      args = g.args;
      machine = cpu;
      is_owner = low;
      is_point = small;
    } ∷ rest →
    ((code : List Instr) (slot : ℕ) (ram : List ℕ) → IsInside code slot (machine_of g.machine ram) →
    IsInside code slot (machine_of cpu ram)) →
    (images : ImageTable) (a : Accounts) (p : ℕ) → AreInside images a p before → AreInside images a p after
answered_inside g cpu low small rest before after was is inside images a p h =
    let both = subst (AreInside images a p) was h in
    subst (AreInside images a p) (sym is) (
      record {
        count = both.0.count;
        inside = λ ram. inside _ _ ram (both.0.inside ram);
      },
      both.1,
    )

-- the same where a level was just put in
pub put_inside : (g : GraftLevel) (cpu : Cpu) (low : g.owner < 16) (small : g.point < 16)
    (rest after : List GraftLevel) →
    after ≡ record {
      owner = g.owner;
      point = g.point;
      count = g.count;
      args = g.args;
      machine = cpu;
      is_owner = low;
      is_point = small;
    } ∷ rest →
    ((code : List Instr) (slot : ℕ) (ram : List ℕ) → IsInside code slot (machine_of g.machine ram) →
    IsInside code slot (machine_of cpu ram)) →
    (images : ImageTable) (a : Accounts) (p : ℕ) → AreInside images a p (g ∷ rest) → AreInside images a p after
put_inside g cpu low small rest after is inside images a p h =
    answered_inside g cpu low small rest (g ∷ rest) after refl is inside images a p h
