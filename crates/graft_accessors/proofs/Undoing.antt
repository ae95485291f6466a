-- Records that could be undone can be undone after any accessor, and after another record was undone.
use Rattle.std.proofs.Common.{◌≡◌, ℕ, ◌==◌, ◌&&◌, Bool, true, false, cond, Option, Some, None}
use Rattle.std.proofs.Common.{Result, Ok, Err, IfOk, IfSome, slice_get, refl, sym, ◌∙◌, ap}
use Rattle.std.specs.Option.{is_some}
use Rattle.std.proofs.lemmas.Bool.Decides.{nat_tests}
use Rattle.std.proofs.Common.{arith}
use Rattle.kernel_model.specs.declared.Inverse.{Inverse}
use Rattle.kernel_model.specs.declared.Inverse.TheVariants.{Cell, Nice, Window, Mark, Tune, Segment}
use Rattle.kernel_model.specs.declared.Cause.{Cause}
use Rattle.kernel_model.specs.declared.OpenRow.{OpenRow}
use Rattle.kernel_model.specs.Access.{Callable, CellGet, CellSet, NiceGet, NiceSet, WindowGet}
use Rattle.kernel_model.specs.Access.{WindowSet, FramesMine, FrameAt, FrameBlock, FrameMark}
use Rattle.kernel_model.specs.Access.{TuneGet, TuneSet, TakeLock, access, access_by, callable}
use Rattle.kernel_model.specs.Access.{own_frame, window_change, with_window, with_mark, with_param}
use Rattle.kernel_model.specs.Access.{set_cell, set_nice, set_window, set_mark, set_param}
use Rattle.kernel_model.specs.Access.{set_segment, in_range, param_top, tune_change, chosen_param}
use Rattle.kernel_model.specs.Access.{undo, Access, Gives, Changes, Refuses}
use Rattle.kernel_model.specs.Objects.{Things, FrameValue, PolValue}
use Rattle.kernel_model.specs.Policies.{frames_of}
use Rattle.graft_accessors.specs.Accesses.{things_after, CanBeUndone}
use Rattle.kernel_state.proofs.Accessing.{lives_nice}

-- a cell changes
keeps_cell : (p l x : ℕ) (i : Inverse) (w : Things) → CanBeUndone i w → CanBeUndone i (set_cell p l x w)
keeps_cell p l x (Cell q k v) w h = h
keeps_cell p l x (Nice q v) w h = h
keeps_cell p l x (Window q fd v) w h = h
keeps_cell p l x (Mark f v) w h = h
keeps_cell p l x (Tune kind k v) w h = h
keeps_cell p l x (Segment q pt) w h = h

-- a nice changes
keeps_nice : (p x : ℕ) (i : Inverse) (w : Things) → CanBeUndone i w → CanBeUndone i (set_nice p x w)
keeps_nice p x (Cell q k v) w h = (lives_nice p x q w.queue ∙ h.0, h.1)
keeps_nice p x (Nice q v) w h = (lives_nice p x q w.queue ∙ h.0, h.1)
keeps_nice p x (Window q fd v) w h = (lives_nice p x q w.queue ∙ h.0, h.1, h.2, h.3)
keeps_nice p x (Mark f v) w h = h
keeps_nice p x (Tune kind k v) w h = h
keeps_nice p x (Segment q pt) w h = h

-- a window changes
still_open : (b : Bool) (x : ℕ) (o r : Option OpenRow) → (b ≡ true → o ≡ r) →
    is_some (cond b (with_window x o) r) ≡ is_some r
still_open true x None r same = ap is_some (same refl)
still_open true x (Some o) r same = ap is_some (same refl)
still_open false x o r same = refl

window_place : (p l q fd : ℕ) (w : Things) → (q == p && fd == l) ≡ true → w.file p l ≡ w.file q fd
window_place p l q fd w is =
    let row : q ≡ p = grind (arith, nat_tests, is) in
    let place : fd ≡ l = grind (arith, nat_tests, is) in
    ap (λ n. w.file n l) (sym row) ∙ ap (λ n. w.file q n) (sym place)

keeps_window : (p l x : ℕ) (i : Inverse) (w : Things) → CanBeUndone i w → CanBeUndone i (set_window p l x w)
keeps_window p l x (Cell q k v) w h = h
keeps_window p l x (Nice q v) w h = h
keeps_window p l x (Window q fd v) w h = (
  h.0,
  h.1,
  still_open (q == p && fd == l) x (w.file p l) (w.file q fd) (window_place p l q fd w)
      ∙ h.2,
  h.3,
)
keeps_window p l x (Mark f v) w h = h
keeps_window p l x (Tune kind k v) w h = h
keeps_window p l x (Segment q pt) w h = h

-- a mark changes
still_used : (b : Bool) (x : ℕ) (o r : Option FrameValue) → (b ≡ true → o ≡ r) →
    is_some (cond b (with_mark x o) r) ≡ is_some r
still_used true x None r same = ap is_some (same refl)
still_used true x (Some o) r same = ap is_some (same refl)
still_used false x o r same = refl

keeps_mark : (g x : ℕ) (i : Inverse) (w : Things) → CanBeUndone i w → CanBeUndone i (set_mark g x w)
keeps_mark g x (Cell q k v) w h = h
keeps_mark g x (Nice q v) w h = h
keeps_mark g x (Window q fd v) w h = h
keeps_mark g x (Mark f v) w h =
    still_used (f == g) x (w.cache.frame g) (w.cache.frame f) (λ is. let one : f ≡ g =
    grind (arith, nat_tests, is) in ap (λ n. w.cache.frame n) (sym one)) ∙ h
keeps_mark g x (Tune kind k v) w h = h
keeps_mark g x (Segment q pt) w h = h

-- a parameter changes
same_chosen : (b : Bool) (x : ℕ) (o r : PolValue) → (b ≡ true → o ≡ r) → (cond b (with_param x o) r).chosen ≡ r.chosen
same_chosen true x o r same = ap (λ (p : PolValue). p.chosen) (same refl)
same_chosen false x o r same = refl

keeps_param : (n x : ℕ) (i : Inverse) (w : Things) → CanBeUndone i w → CanBeUndone i (set_param n x w)
keeps_param n x (Cell q k v) w h = h
keeps_param n x (Nice q v) w h = h
keeps_param n x (Window q fd v) w h = h
keeps_param n x (Mark f v) w h = h
keeps_param n x (Tune kind k v) w h = (
  h.0,
  ap (λ j. in_range (param_top kind j) k v) (same_chosen (kind == n) x (w.pol n)
      (w.pol kind) (λ is. let one : kind ≡ n = grind (arith, nat_tests, is) in
      ap (λ m. w.pol m) (sym one))) ∙ h.1,
)
keeps_param n x (Segment q pt) w h = h

-- a kept segment changes
keeps_segment : (p pu : ℕ) (bytes : Option (ℕ → ℕ)) (i : Inverse) (w : Things) → CanBeUndone i w →
    CanBeUndone i (set_segment p pu bytes w)
keeps_segment p pu bytes (Cell q k v) w h = h
keeps_segment p pu bytes (Nice q v) w h = h
keeps_segment p pu bytes (Window q fd v) w h = h
keeps_segment p pu bytes (Mark f v) w h = h
keeps_segment p pu bytes (Tune kind k v) w h = h
keeps_segment p pu bytes (Segment q pt) w h = h

-- another record is undone
pub kept_by_undo : (j i : Inverse) (bytes : Option (ℕ → ℕ)) (w : Things) → CanBeUndone i w →
    CanBeUndone i (undo (record { inverse = j; bytes = bytes }) w)
kept_by_undo (Cell q k v) i bytes w h = keeps_cell q k v i w h
kept_by_undo (Nice q v) i bytes w h = keeps_nice q v i w h
kept_by_undo (Window q fd v) i bytes w h = keeps_window q fd v i w h
kept_by_undo (Mark f v) i bytes w h = keeps_mark f v i w h
kept_by_undo (Tune kind k v) i bytes w h = keeps_param kind v i w h
kept_by_undo (Segment q pt) i bytes w h = keeps_segment q pt bytes i w h

-- an accessor's frame, whatever is done with it
by_frame : (id q : ℕ) (o : Option FrameValue) (then : FrameValue → Access) (i : Inverse)
    (w : Things) → CanBeUndone i w → ((f : FrameValue) → CanBeUndone i (things_after (then f) w))
    → CanBeUndone i (things_after (own_frame id q o then) w)
by_frame id q None then i w h done = h
by_frame id q (Some f) then i w h done =
    elim (f.owner == q) as (λ b. CanBeUndone i
    (things_after (cond b (then f) (Refuses (Cause.NotYours id))) w)) [ true ↦ done f | false ↦ h ]

kept_by : (c : Callable) (id r0 r1 r2 q : ℕ) (i : Inverse) (w : Things) → CanBeUndone i w →
    CanBeUndone i (things_after (access_by c id r0 r1 r2 q w) w)
kept_by CellGet id r0 r1 r2 q i w h = h
kept_by CellSet id r0 r1 r2 q i w h = keeps_cell q r0 r1 i w h
kept_by NiceGet id r0 r1 r2 q i w h = h
kept_by NiceSet id r0 r1 r2 q i w h = keeps_nice q r0 i w h
kept_by WindowGet id r0 r1 r2 q i w h =
    elim (w.file q r0) as (λ o. CanBeUndone i (things_after (elim o as (λ _. Access) [
      | None ↦ Refuses (Cause.BadArgument id)
      | Some r ↦ Gives r.window
    ]) w)) [ None ↦ h | Some r ↦ h ]
kept_by WindowSet id r0 r1 r2 q i w h =
    elim (w.file q r0) as (λ o. CanBeUndone i (things_after (window_change id r0 r1 q o w) w))
    [ None ↦ h | Some r ↦ keeps_window q r0 r1 i w h ]
kept_by FramesMine id r0 r1 r2 q i w h = h
kept_by FrameAt id r0 r1 r2 q i w h =
    elim (slice_get (frames_of w.cache q) r0) as (λ o. CanBeUndone i (things_after
    (elim o as (λ _. Access) [ None ↦ Refuses (Cause.BadArgument id) | Some f ↦ Gives f ]) w))
    [ None ↦ h | Some f ↦ h ]
kept_by FrameBlock id r0 r1 r2 q i w h = by_frame id q (w.cache.frame r0) (λ f. Gives f.block) i w h (λ f. h)
kept_by FrameMark id r0 r1 r2 q i w h =
    by_frame id q (w.cache.frame r0) (λ f. Changes f.mark (Mark r0 f.mark) (set_mark r0 r1 w)) i w h
    (λ f. keeps_mark r0 r1 i w h)
kept_by TuneGet id r0 r1 r2 q i w h =
    elim (in_range (param_top r0 (w.pol r0).chosen) r1 0) as (λ b. CanBeUndone i
    (things_after (cond b (Gives (chosen_param (w.pol r0))) (Refuses (Cause.BadArgument id)))
    w)) [ true ↦ h | false ↦ h ]
kept_by TuneSet id r0 r1 r2 q i w h =
    elim (in_range (param_top r0 (w.pol r0).chosen) r1 r2) as (λ b. CanBeUndone i
    (things_after (cond b (tune_change r0 r1 r2 (chosen_param (w.pol r0)) w)
    (Refuses (Cause.BadArgument id))) w))
    [ true ↦ keeps_param r0 r2 i w h | false ↦ h ]
kept_by TakeLock id r0 r1 r2 q i w h = h

-- an accessor is called
pub kept_by_access : (id r0 r1 r2 q : ℕ) (i : Inverse) (w : Things) → CanBeUndone i w →
    CanBeUndone i (things_after (access id r0 r1 r2 q w) w)
kept_by_access id r0 r1 r2 q i w h = kept_by (callable id) id r0 r1 r2 q i w h
