-- A piece of a call is committed.
use Rattle.std.proofs.Common.{◌≡◌, ℕ, zero, suc, ◌==◌, Bool, true, false, cond, List, [], ◌++◌, drop}
use Rattle.std.proofs.Common.{Option, option_map, refl, sym, ap, ◌∙◌}
use Rattle.std.proofs.Math.Path.{fun_ext}
use Rattle.kernel_model.specs.declared.Note.{Note}
use Rattle.kernel_model.specs.Objects.{Objects, at}
use Rattle.kernel_model.specs.World.{Blocks}
use Rattle.kernel_model.specs.Meaning.{Piece, After}
use Rattle.kernel_model.specs.Kernel.{Kernel, Run, Call, finish, gave_note, after_note, call_after}
use Rattle.audit_kernel.specs.declared.Flight.{Flight}
use Rattle.audit_kernel.specs.Runs.{call_of, call_at}
use Rattle.audit_kernel.proofs.Rerunning.{there, IsIn}

-- nothing is left of nothing
pub drop_none : {A : Type 0} (n : ℕ) → drop n (let xs : List A = [] in xs) ≡ []
drop_none zero = refl
drop_none (suc n) = refl

-- a place has a call that is this one, and the others stay
pub put_call : (old new : List (Option Flight)) (p : ℕ) (f : Option Flight) (d : Option Call) →
    IsIn p f old new → option_map call_of f ≡ d → (x : ℕ) →
    call_at new x ≡ at p d (call_at old) x
put_call old new p f d put is x =
    ap (λ (o : Option Flight). option_map call_of o) (put x) ∙ go (x == p)
  where
    go : (b : Bool) → option_map call_of (cond b f (there old x)) ≡ cond b d (call_at old x)
    go true = is
    go false = refl

-- a run whose parts are those that a piece leaves is the run of which it is committed
pub finished : (k : Kernel) (before notes : List Note) (was : Blocks) (p : ℕ) (c : Call) (q : Piece)
    (w : Objects) (blocks : Blocks) (gave : Option (List ℕ)) (after : After) (calls : ℕ → Option Call) →
    w ≡ q.objects → blocks ≡ q.blocks → gave ≡ q.gave → after ≡ q.after →
    notes ≡ (before ++ gave_note c.number gave) ++ after_note c.number after →
    ((x : ℕ) → calls x ≡ at p (call_after c after) k.call x) →
    (let r : Run = record {
      kernel = record k { objects = w; call = calls };
      blocks = blocks;
      notes = notes;
      io = [];
    } in r) ≡ finish p c q (record { kernel = k; blocks = was; notes = before; io = [] })
finished k before notes was p c q w blocks gave after calls w_is blocks_is gave_is after_is told calls_are =
    let made : Objects → Blocks → List Note → (ℕ → Option Call) → List Bool → Run = λ s b n f io. record {
      kernel = record k { objects = s; call = f };
      blocks = b;
      notes = n;
      io = io;
    } in
    let all : notes ≡ before ++ gave_note c.number q.gave ++ after_note c.number q.after =
    told
    ∙ ap (λ (g : Option (List ℕ)). before ++ gave_note c.number g ++ after_note c.number after) gave_is
    ∙ ap (λ (a : After). before ++ gave_note c.number q.gave ++ after_note c.number a) after_is in
    let in_flight : calls ≡ at p (call_after c q.after) k.call =
    fun_ext (λ x. calls_are x ∙ ap (λ (a : After). at p (call_after c a) k.call x) after_is) in
    let none : (let xs : List Bool = [] in xs) ≡ drop q.calls [] = sym (drop_none q.calls) in
    ap (λ (s : Objects). made s blocks notes calls []) w_is
    ∙ ap (λ (b : Blocks). made q.objects b notes calls []) blocks_is
    ∙ ap (λ (n : List Note). made q.objects q.blocks n calls []) all
    ∙ ap (λ (f : ℕ → Option Call).
    made q.objects q.blocks (before ++ gave_note c.number q.gave ++ after_note c.number q.after) f []) in_flight
    ∙ ap (made q.objects q.blocks
    (before ++ gave_note c.number q.gave ++ after_note c.number q.after)
    (at p (call_after c q.after) k.call)) none
