-- What an accessor's answer says of it.
use Rattle.std.proofs.Common.{◌≡◌, ℕ, suc, ◌≤◌, ◌==◌, Bool, true, false, cond, List, [], ◌∷◌}
use Rattle.std.proofs.Common.{length, filter, slice_get, Option, Some, None, Ok, Err, arith, refl}
use Rattle.std.proofs.Common.{sym, ◌∙◌, ap, subst}
use Rattle.kernel_model.specs.declared.Inverse.{Inverse}
use Rattle.kernel_model.specs.declared.Cause.{Cause}
use Rattle.kernel_model.specs.declared.QueueRow.{QueueRow}
use Rattle.kernel_model.specs.Access.{Access, Gives, Changes, Refuses, Callable}
use Rattle.kernel_model.specs.Access.{CellGet, CellSet, NiceGet, NiceSet, WindowGet, WindowSet}
use Rattle.kernel_model.specs.Access.{FramesMine, FrameAt, FrameBlock, FrameMark, TuneGet, TuneSet}
use Rattle.kernel_model.specs.Access.{TakeLock, access, access_by, callable, own_frame}
use Rattle.kernel_model.specs.Access.{window_change, tune_change, set_mark, in_range, param_top}
use Rattle.kernel_model.specs.Access.{chosen_param, undo, bare_found}
use Rattle.kernel_model.specs.Machine.{Machine}
use Rattle.kernel_model.specs.Objects.{Objects, Things, FrameValue}
use Rattle.kernel_model.specs.World.{World}
use Rattle.kernel_model.specs.Sound.{count_of, in_queue}
use Rattle.kernel_model.specs.Levels.{Level, drop_innermost}
use Rattle.kernel_model.specs.GraftStep.{after_accessor, after_result, after_change, is_lock_due, is_record_spent}
use Rattle.kernel_laws.specs.Undoing.{LeadsBack, IsOnceIn}
use Rattle.graft_accessors.specs.declared.AccessResult.{AccessResult}
use Rattle.graft_accessors.specs.Accesses.{answer_of, things_after, CanBeUndone}
use Rattle.graft_levels.specs.UndoLevels.{Logged, is_bare, recorded}
use Rattle.std.specs.Bool.{⊤}
use Rattle.kernel_model.specs.Policies.{frames_of}
use Rattle.kernel_model.specs.declared.Inverse.TheVariants.{Mark}
use Rattle.kernel_model.specs.declared.Cause.TheVariants.{BadArgument, NotYours}
use Rattle.kernel_model.specs.declared.OpenRow.{OpenRow}
use Rattle.graft_levels.specs.Calls.{AllUndoable}

-- its inverse leads back
pub leads_back : (a : Access) (x : ℕ) (i : Inverse) (w : Things) →
    answer_of a ≡ Ok (record { result = x; inverse = Some i }) → LeadsBack w a →
    undo (bare_found i) (things_after a w) ≡ w
leads_back (Gives result) x i w is back = absurd (grind (arith, is))
leads_back (Changes result j u) x i w is back =
    let same : i ≡ j = grind (arith, is) in
    ap (λ k. undo (bare_found k) u) same ∙ back
leads_back (Refuses cause) x i w is back = absurd (cc)

-- it is refused
pub is_refused : (v : World) (w : Objects) (l : Level) (ls : List Level) (m : Machine) (id : ℕ)
    (a : Access) (cause : Cause) → answer_of a ≡ Err cause →
    after_accessor v w l ls m id a ≡ drop_innermost v w l ls cause
is_refused v w l ls m id (Gives result) cause is = absurd (cc)
is_refused v w l ls m id (Changes result i u) cause is = absurd (cc)
is_refused v w l ls m id (Refuses why) cause is = let same : why ≡ cause = cc in ap (drop_innermost v w l ls) same

-- it gives a result
pub is_given : (v : World) (w : Objects) (l : Level) (ls : List Level) (m : Machine) (id : ℕ)
    (a : Access) (answer : AccessResult) → answer_of a ≡ Ok answer → answer.inverse ≡ None →
    after_accessor v w l ls m id a ≡ after_result v w l ls m id answer.result
    (is_lock_due id (l.machine.regs 0) (l ∷ ls))
is_given v w l ls m id (Gives result) answer is none =
    let same : result ≡ answer.result = grind (arith, is) in
    ap (λ x. after_result v w l ls m id x (is_lock_due id (l.machine.regs 0) (l ∷ ls))) same
is_given v w l ls m id (Changes result i u) answer is none = absurd (grind (arith, is, none))
is_given v w l ls m id (Refuses why) answer is none = absurd (cc)

-- it makes a change
pub is_changing : (v : World) (w : Objects) (l : Level) (ls : List Level) (m : Machine)
    (id : ℕ) (a : Access) (answer : AccessResult) (i : Inverse) → answer_of a ≡ Ok answer →
    answer.inverse ≡ Some i →
    after_accessor v w l ls m id a ≡ after_change v w l ls m id answer.result i
    (things_after a w.things) (is_record_spent w.accounts l ls)
is_changing v w l ls m id (Gives result) answer i is some = absurd (grind (arith, is, some))
is_changing v w l ls m id (Changes result j u) answer i is some =
    let x : result ≡ answer.result = grind (arith, is) in
    let y : j ≡ i = grind (arith, is, some) in
    ap (λ n. after_change v w l ls m id n j u (is_record_spent w.accounts l ls)) x
    ∙ ap (λ k. after_change v w l ls m id answer.result k u (is_record_spent w.accounts l ls)) y
is_changing v w l ls m id (Refuses why) answer i is some = absurd (cc)

-- a process stands in the queue as often as it has rows
pub once : (q : ℕ) (rows : List QueueRow) →
    count_of q (in_queue rows) ≡ length (filter (λ (r : QueueRow). r.process == q) rows)
once q [] = refl
once q (r ∷ rows) = by_case (r.process == q) (once q rows)
  where
    by_case : (b : Bool) → count_of q (in_queue rows) ≡ length (filter (λ (x : QueueRow). x.process == q) rows) →
        cond b (suc (count_of q (in_queue rows))) (count_of q (in_queue rows))
        ≡ length (cond b (r ∷ filter (λ (x : QueueRow). x.process == q) rows)
        (filter (λ (x : QueueRow). x.process == q) rows))
    by_case true same = ap suc same
    by_case false same = same

pub stands_once : (q : ℕ) (rows : List QueueRow) →
    length (filter (λ (r : QueueRow). r.process == q) rows) ≤ 1 → IsOnceIn q rows
stands_once q rows few = subst (λ n. n ≤ 1) (sym (once q rows)) few

-- one more record can be undone
pub more_undoable : (i : Logged) (log rest : List (List Logged)) (w : Things) →
    rest ≡ recorded i log → CanBeUndone i.inverse w → AllUndoable log w → AllUndoable rest w
more_undoable i log rest w is can all = subst (λ x. AllUndoable x w) (sym is) (by_log log all)
  where
    by_log : (log : List (List Logged)) → AllUndoable log w → AllUndoable (recorded i log) w
    by_log [] h = tt
    by_log (js ∷ log) h = ((can, h.0), h.1)

-- ---- no accessor's change is of a kept segment

abbrev IsBareChange : Access → Type 0
IsBareChange (Gives x) = ⊤
IsBareChange (Changes x i u) = is_bare i ≡ true
IsBareChange (Refuses cause) = ⊤

either : (b : Bool) (a c : Access) → IsBareChange a → IsBareChange c → IsBareChange (cond b a c)
either true a c first second = first
either false a c first second = second

own_bare : (id q : ℕ) (then : FrameValue → Access) → ((f : FrameValue) → IsBareChange (then f)) →
    (o : Option FrameValue) → IsBareChange (own_frame id q o then)
own_bare id q then each None = tt
own_bare id q then each (Some f) = either (f.owner == q) (then f) (Refuses (NotYours id)) (each f) tt

window_got : (id : ℕ) (o : Option OpenRow) → IsBareChange
    (elim o as (λ _. Access) [ None ↦ Refuses (BadArgument id) | Some r ↦ Gives r.window ])
window_got id None = tt
window_got id (Some r) = tt

frame_got : (id : ℕ) (o : Option ℕ) →
    IsBareChange (elim o as (λ _. Access) [ None ↦ Refuses (BadArgument id) | Some f ↦ Gives f ])
frame_got id None = tt
frame_got id (Some f) = tt

window_set : (id fd v q : ℕ) (o : Option OpenRow) (w : Things) → IsBareChange (window_change id fd v q o w)
window_set id fd v q None w = tt
window_set id fd v q (Some r) w = refl

bare_by : (c : Callable) (id r0 r1 r2 q : ℕ) (w : Things) → IsBareChange (access_by c id r0 r1 r2 q w)
bare_by CellGet id r0 r1 r2 q w = tt
bare_by CellSet id r0 r1 r2 q w = refl
bare_by NiceGet id r0 r1 r2 q w = tt
bare_by NiceSet id r0 r1 r2 q w = refl
bare_by WindowGet id r0 r1 r2 q w = window_got id (w.file q r0)
bare_by WindowSet id r0 r1 r2 q w = window_set id r0 r1 q (w.file q r0) w
bare_by FramesMine id r0 r1 r2 q w = tt
bare_by FrameAt id r0 r1 r2 q w = frame_got id (slice_get (frames_of w.cache q) r0)
bare_by FrameBlock id r0 r1 r2 q w = own_bare id q (λ f. Gives f.block) (λ f. tt) (w.cache.frame r0)
bare_by FrameMark id r0 r1 r2 q w =
    own_bare id q (λ f. Changes f.mark (Mark r0 f.mark) (set_mark r0 r1 w))
    (λ f. refl) (w.cache.frame r0)
bare_by TuneGet id r0 r1 r2 q w =
    either (in_range (param_top r0 (w.pol r0).chosen) r1 0) (Gives (chosen_param (w.pol r0)))
    (Refuses (BadArgument id)) tt tt
bare_by TuneSet id r0 r1 r2 q w =
    either (in_range (param_top r0 (w.pol r0).chosen) r1 r2)
    (tune_change r0 r1 r2 (chosen_param (w.pol r0)) w) (Refuses (BadArgument id)) refl tt
bare_by TakeLock id r0 r1 r2 q w = tt

of_change : (a : Access) (x : ℕ) (i : Inverse) →
    answer_of a ≡ Ok (record { result = x; inverse = Some i }) → IsBareChange a → is_bare i ≡ true
of_change (Gives result) x i is bare = absurd (grind (arith, is))
of_change (Changes result j u) x i is bare = let same : i ≡ j = grind (arith, is) in ap is_bare same ∙ bare
of_change (Refuses cause) x i is bare = absurd (cc)

pub change_is_bare : (id r0 r1 r2 q : ℕ) (w : Things) (x : ℕ) (i : Inverse) →
    answer_of (access id r0 r1 r2 q w) ≡ Ok (record { result = x; inverse = Some i }) →
    is_bare i ≡ true
change_is_bare id r0 r1 r2 q w x i is =
    of_change (access id r0 r1 r2 q w) x i is (bare_by (callable id) id r0 r1 r2 q w)
