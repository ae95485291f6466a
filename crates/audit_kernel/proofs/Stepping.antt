-- What an outcome makes of a call that is out of its place meanwhile.
use Rattle.std.proofs.Common.{◌≡◌, ◌≢◌, ℕ, zero, suc, true, List, [], ◌∷◌, ◌++◌, Option, Some, None, refl, sym, ap, ◌∙◌, arith}
use Rattle.kernel_model.specs.declared.Micro.{Micro}
use Rattle.kernel_model.specs.declared.Cause.{Cause}
use Rattle.kernel_model.specs.declared.Note.TheVariants.{Dropped}
use Rattle.kernel_model.specs.AllCalls.{all_calls}
use Rattle.kernel_model.specs.Meaning.{Answer}
use Rattle.kernel_model.specs.History.{Mark, Past, Trace, Stepped, fallen}
use Rattle.kernel_model.specs.Levels.{Config, Outcome, is_going_on}
use Rattle.kernel_model.specs.Levels as levels
use Rattle.kernel_model.specs.Kernel.{Run, Call, noted, with_call, with_marks}
use Rattle.kernel_model.specs.Settle.{finish_on, lost_objects, after_drop, after_outcome, outcome_step}
use Rattle.audit_kernel.proofs.Hiding.{finish_on_hides, marks_hide}

-- a drop
pub drop_hides : (p : ℕ) (c : Call) (t : Trace) (ks : List Mark) (o : Outcome) (d : ℕ) (x : Option Call) (r : Run) →
    after_drop all_calls p c t ks o d (with_call p x r) ≡ after_drop all_calls p c t ks o d r
drop_hides p c t ks o zero x r = finish_on_hides p c (lost_objects o.config.now r.kernel.objects) None x r
drop_hides p c t ks o (suc d) x r = marks_hide p c (fallen t ks o.effects (suc d)) x r

-- the drop of level 0
pub lost : (p : ℕ) (c : Call) (t : Trace) (ks : List Mark) (o : Outcome) (d : ℕ) (r s : Run) (g : Config) →
    d ≡ 0 → g ≡ o.config →
    s ≡ finish_on all_calls p c (lost_objects g.now r.kernel.objects) None r →
    s ≡ after_drop all_calls p c t ks o d r
lost p c t ks o zero r s g h is made =
    made ∙ ap (λ (x : Config). finish_on all_calls p c (lost_objects x.now r.kernel.objects) None r) is
lost p c t ks o (suc d) r s g h is made = absurd (omega (arith, h))

-- the drop of another level
pub back : (p : ℕ) (c : Call) (t u : Trace) (ks ls : List Mark) (o : Outcome) (es : List levels.Effect) (d : ℕ) (r s : Run) →
    d ≢ 0 → u.pasts ≡ t.pasts → es ≡ o.effects → ls ≡ fallen u ks es d →
    s ≡ with_marks p c ls r → s ≡ after_drop all_calls p c t ks o d r
back p c t u ks ls o es zero r s h pasts effects is made = absurd (h refl)
back p c t u ks ls o es (suc d) r s h pasts effects is made =
    let with_pasts : List Past → Trace = λ ps. record { config = t.config; marks = t.marks; pasts = ps } in
    let all : ls ≡ fallen t ks o.effects (suc d) =
    is ∙ ap (λ (ps : List Past). fallen (with_pasts ps) ks es (suc d)) pasts
    ∙ ap (λ (fs : List levels.Effect). fallen t ks fs (suc d)) effects in
    made ∙ ap (λ (ms : List Mark). with_marks p c ms r) all

-- a call that goes on
pub went : (p : ℕ) (c : Call) (t : Trace) (ks ls : List Mark) (o : Outcome) (r s : Run) →
    Micro.Went ≡ o.said → ls ≡ ks ++ Stepped ∷ [] → s ≡ with_marks p c ls r →
    s ≡ outcome_step all_calls p c t ks o (with_call p (Some c) r)
went p c t ks ls o r s said is made =
    made ∙ ap (λ (ms : List Mark). with_marks p c ms r) is
    ∙ sym (marks_hide p c (ks ++ Stepped ∷ []) (Some c) r)
    ∙ ap (λ (m : Micro). after_outcome all_calls p c t ks o m (with_call p (Some c) r)) said

-- a call that is blocked
pub blocked : (p : ℕ) (c : Call) (t : Trace) (ks : List Mark) (o : Outcome) (r s : Run) (m : Micro) →
    ((z : Run) → after_outcome all_calls p c t ks o m z ≡ z) → m ≡ o.said → s ≡ with_call p (Some c) r →
    s ≡ outcome_step all_calls p c t ks o (with_call p (Some c) r)
blocked p c t ks o r s m stays said made =
    made ∙ sym (stays (with_call p (Some c) r))
    ∙ ap (λ (m : Micro). after_outcome all_calls p c t ks o m (with_call p (Some c) r)) said

-- an answer whose bytes are those that the levels give
pub answered : (rs : List ℕ) (ls : List levels.Level) (body : List ℕ) →
    body ≡ (levels.answer_of rs ls).body →
    (let a : Answer = record { registers = rs; body = body } in a) ≡ levels.answer_of rs ls
answered rs [] body is = ap (λ (b : List ℕ). let a : Answer = record { registers = rs; body = b } in a) is
answered rs (l ∷ ls) body is = ap (λ (b : List ℕ). let a : Answer = record { registers = rs; body = b } in a) is

-- a call that completed
pub completed : (p : ℕ) (c : Call) (t : Trace) (ks : List Mark) (o : Outcome) (r s : Run) (rs body : List ℕ) →
    Micro.Completed rs ≡ o.said → body ≡ (levels.answer_of rs t.config.levels).body →
    s ≡ finish_on all_calls p c o.config.now (Some (record { registers = rs; body = body })) r →
    s ≡ outcome_step all_calls p c t ks o (with_call p (Some c) r)
completed p c t ks o r s rs body said is made =
    made
    ∙ ap (λ (a : Answer). finish_on all_calls p c o.config.now (Some a) r) (answered rs t.config.levels body is)
    ∙ sym (finish_on_hides p c o.config.now (Some (levels.answer_of rs t.config.levels)) (Some c) r)
    ∙ ap (λ (m : Micro). after_outcome all_calls p c t ks o m (with_call p (Some c) r)) said

-- a call of which a level was dropped
pub dropped : (p : ℕ) (c : Call) (t : Trace) (ks : List Mark) (o : Outcome) (r mid s : Run) (d q pt : ℕ) (cause : Cause) →
    Micro.Dropped d q pt cause ≡ o.said → mid ≡ noted (Dropped c.number q pt cause) r →
    s ≡ after_drop all_calls p c t ks o d mid →
    s ≡ outcome_step all_calls p c t ks o (with_call p (Some c) r)
dropped p c t ks o r mid s d q pt cause said is made =
    let n = Dropped c.number q pt cause in
    made ∙ ap (λ (z : Run). after_drop all_calls p c t ks o d z) is
    ∙ sym (drop_hides p c t ks o d (Some c) (noted n r))
    ∙ ap (λ (m : Micro). after_outcome all_calls p c t ks o m (with_call p (Some c) r)) said

-- a call that goes on, whose outcome is that of its instruction
pub going : (p : ℕ) (c : Call) (t : Trace) (ks ls : List Mark) (o x : Outcome) (r s : Run) →
    is_going_on o.said ≡ true → o ≡ x → ls ≡ ks ++ Stepped ∷ [] → s ≡ with_marks p c ls r →
    s ≡ outcome_step all_calls p c t ks x (with_call p (Some c) r)
going p c t ks ls o x r s goes same is made =
    by o.said goes refl ∙ ap (λ (y : Outcome). outcome_step all_calls p c t ks y (with_call p (Some c) r)) same
  where
    by : (m : Micro) → is_going_on m ≡ true → m ≡ o.said →
        s ≡ outcome_step all_calls p c t ks o (with_call p (Some c) r)
    by Micro.Went h said = went p c t ks ls o r s said is made
    by (Micro.Blocked x y z) h said = absurd (grind (arith, h))
    by (Micro.Completed rs) h said = absurd (grind (arith, h))
    by (Micro.Dropped d q pt cause) h said = absurd (grind (arith, h))
