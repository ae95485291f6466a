-- A segment that is kept where its graft answers.
use Rattle.std.proofs.Common.{◌≡◌, ℕ, ◌<◌, ◌==◌, ◌&&◌, Bool, true, false, cond, List, ◌∷◌, Option}
use Rattle.std.proofs.Common.{Some, length, map, arith, refl, sym, ◌∙◌, ap, subst}
use Rattle.std.proofs.Math.Path.{fun_ext}
use Rattle.std.proofs.lemmas.Bool.Decides.{nat_tests}
use Rattle.kernel_model.specs.declared.Inverse.{Inverse}
use Rattle.kernel_model.specs.declared.Inverse.TheVariants.{Cell, Nice, Window, Mark, Tune, Segment}
use Rattle.kernel_model.specs.declared.Kind.TheVariants.{Records}
use Rattle.kernel_model.specs.declared.Cause.TheVariants.{SpentRecords}
use Rattle.kernel_model.specs.Access.{Found, found_segment, set_segment, undo}
use Rattle.kernel_model.specs.Charges.{charge}
use Rattle.kernel_model.specs.GraftStep.{after_answer, after_keeping, completed, is_record_spent}
use Rattle.kernel_model.specs.Levels.{Level, Config, base_of, drop_innermost}
use Rattle.kernel_model.specs.Locks.{LockTable}
use Rattle.kernel_model.specs.Objects.{Objects, Things, at2}
use Rattle.kernel_model.specs.UndoLog.{undo_all}
use Rattle.kernel_model.specs.World.{World}
use Rattle.kernel_model.specs.declared.Micro.{Micro}
use Rattle.kernel_state.specs.Tables.{Table}
use Rattle.kernel_state.specs.Sound.{kept_by}
use Rattle.graft_levels.proofs.Beginning.{kept_within}
use Rattle.graft_levels.specs.UndoLevels.{Logged, found_of, innermost, recorded, segment_logged}
use Rattle.graft_accessors.specs.Accesses.{CanBeUndone}
use Rattle.graft_levels.specs.declared.GraftLevel.{GraftLevel}
use Rattle.graft_levels.specs.Chains.{put_back, level_in, levels_in, outer, came, kept_bytes, kept_on}
use Rattle.graft_calls.proofs.Recording.{record_more, record_outer}

-- putting back what was kept before
pub back_again : (q pt : ℕ) (bytes : Option (ℕ → ℕ)) (w : Things) →
    set_segment q pt (w.segment q pt) (set_segment q pt bytes w) ≡ w
back_again q pt bytes w =
    ap (λ (f : ℕ → ℕ → Option (ℕ → ℕ)). record w { segment = f })
    (fun_ext (λ i. fun_ext (λ j. at_place i j (i == q && j == pt) refl)))
  where
    at_place : (i j : ℕ) (b : Bool) → (i == q && j == pt) ≡ b →
        at2 q pt (w.segment q pt) (at2 q pt bytes w.segment) i j ≡ w.segment i j
    at_place i j true e =
        let row : i ≡ q = grind (arith, nat_tests, e) in
        let place : j ≡ pt = grind (arith, nat_tests, e) in
        ap (λ b. cond b (w.segment q pt) (at2 q pt bytes w.segment i j)) e
        ∙ sym (ap (λ n. w.segment n j) row ∙ ap (λ n. w.segment q n) place)
    at_place i j false e = ap (λ b. cond b (w.segment q pt) (cond b bytes (w.segment i j))) e

-- records that could be undone still can be
pub kept_undoable : (q pt : ℕ) (bytes : Option (ℕ → ℕ)) (w u : Things) →
    u ≡ set_segment q pt bytes w → (i : Inverse) → CanBeUndone i w → CanBeUndone i u
kept_undoable q pt bytes w u is i h = subst (CanBeUndone i) (sym is) (by_kind i h)
  where
    by_kind : (i : Inverse) → CanBeUndone i w → CanBeUndone i (set_segment q pt bytes w)
    by_kind (Cell p k v) h = h
    by_kind (Nice p v) h = h
    by_kind (Window p fd v) h = h
    by_kind (Mark f v) h = h
    by_kind (Tune kind k v) h = h
    by_kind (Segment p k) h = h

-- ---- outcomes

not_made : (v : World) (w : Objects) (l : Level) (ls : List Level) (spent : Bool) →
    is_record_spent w.accounts l ls ≡ spent → true ≡ spent →
    after_answer v w l ls true ≡ drop_innermost v w l ls SpentRecords
not_made v w l ls true is failed = ap (after_keeping v w l ls) is
not_made v w l ls false is failed = absurd (cc)

made : (v : World) (w : Objects) (l : Level) (ls : List Level) (spent : Bool) →
    is_record_spent w.accounts l ls ≡ spent → false ≡ spent →
    came (after_answer v w l ls true)
    ≡ came (completed (record {
      accounts = charge Records l.owner l.point w.accounts;
      things = set_segment l.owner l.point (Some l.machine.memory) w.things;
    }) (record l { records = found_segment l.owner l.point w.things ∷ l.records }) ls)
made v w l ls true is paid = absurd (cc)
made v w l ls false is paid = ap (λ b. came (after_keeping v w l ls b)) is

-- no record can be made
pub not_kept : (v : World) (w : Objects) (l : Level) (ls : List Level) (keeps spent : Bool) →
    keeps ≡ true → is_record_spent w.accounts l ls ≡ spent → true ≡ spent →
    after_answer v w l ls keeps ≡ drop_innermost v w l ls SpentRecords
not_kept v w l ls keeps spent set is failed = ap (after_answer v w l ls) set ∙ not_made v w l ls spent is failed

-- the level ends with the record of its kept segment
pub kept_then : (v : World) (w u : Objects) (p : ℕ) (ram : List ℕ) (t : LockTable) (g : GraftLevel)
    (gs : List GraftLevel) (log more : List (List Logged)) (r : Logged) (keeps spent : Bool) →
    let kept = put_back (innermost log) w.things in
    let l = level_in p (length gs) ram t g (innermost log) kept in
    let ls = levels_in p ram t gs (outer log) kept in
    let after = put_back (innermost more) u.things in
    keeps ≡ true → is_record_spent w.accounts l ls ≡ spent → false ≡ spent → 0 < length log →
    more ≡ recorded r log → found_of r ≡ found_segment g.owner g.point w.things →
    u ≡ kept_on g.owner g.point (base_of p (length gs)) ram w →
    came (after_answer v w l ls keeps) ≡ came (completed u (level_in p (length gs) ram t g
    (innermost more) after) (levels_in p ram t gs (outer more) after))
kept_then v w u p ram t g gs log more r keeps spent set is paid some more_is found_is state =
    let is_before = map found_of (innermost log) in
    let kept = put_back (innermost log) w.things in
    let n = length gs in
    let l = level_in p n ram t g (innermost log) kept in
    let ls = levels_in p ram t gs (outer log) kept in
    let found = found_segment g.owner g.point w.things in
    let next = kept_on g.owner g.point (base_of p n) ram w in
    let with_found : Found → Things → Micro × Config = λ f x.
    came (completed next (record (level_in p n ram t g (innermost log) (undo_all is_before x)) {
      records = f ∷ is_before;
    }) (levels_in p ram t gs (outer log) (undo_all is_before x))) in
    ap (λ b. came (after_answer v w l ls b)) set ∙ made v w l ls spent is paid
    ∙ sym (ap (λ (x : Objects). came
    (completed x (level_in p n ram t g (innermost more) (put_back (innermost more) x.things))
    (levels_in p ram t gs (outer more) (put_back (innermost more) x.things)))) state
    ∙ ap (λ xs. came
    (completed next (level_in p n ram t g (innermost xs) (put_back (innermost xs) next.things))
    (levels_in p ram t gs (outer xs) (put_back (innermost xs) next.things)))) more_is
    ∙ ap (λ rs. came (completed next (level_in p n ram t g rs (put_back rs next.things)) (levels_in
    p ram t gs (outer (recorded r log)) (put_back rs next.things)))) (record_more r log some)
    ∙ ap (λ xs. came (completed next
    (level_in p n ram t g (r ∷ innermost log) (put_back (r ∷ innermost log) next.things))
    (levels_in p ram t gs xs (put_back (r ∷ innermost log) next.things)))) (record_outer r log)
    ∙ ap (λ f. with_found f (undo f next.things)) found_is
    ∙ ap (with_found found) (back_again g.owner g.point (Some l.machine.memory) w.things))

-- the record of what a store keeps
pub record_is : (q pt : ℕ) (kept : Table) → q < 16 → pt < 16 → found_of (segment_logged q pt
    (kept_bytes kept q pt)) ≡ record { inverse = Segment q pt; bytes = kept_by kept q pt }
record_is q pt kept process point =
    ap (λ (b : Option (ℕ → ℕ)). let f : Found = record { inverse = Segment q pt; bytes = b } in f)
    (sym (kept_within q pt kept process point))
