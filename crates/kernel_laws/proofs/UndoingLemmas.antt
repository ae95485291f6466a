-- Proofs of the laws of undoing.
use Rattle.std.specs.Prelude.{◌≡◌, ◌≢◌, ◌≤◌, ℕ, suc, ◌==◌, ◌&&◌, Bool, true, false, cond, List, []}
use Rattle.std.specs.Prelude.{◌∷◌, Option, Some, None, slice_get}
use Rattle.std.proofs.Common.{arith, refl, subst, sym, ap, ◌∙◌, inl, inr}
use Rattle.std.proofs.lemmas.Bool.{cases_Bool, and_parts, eqb-true}
use Rattle.std.proofs.lemmas.Bool.Decides.{nat_tests}
use mathlib.Core.Path.{fun_ext}
use Rattle.kernel_model.specs.declared.Object.{Object}
use Rattle.kernel_model.specs.declared.Object.TheVariants.{Graft, Acct, Cell, OpenFile, Queue, Cache, Lock, Pol}
use Rattle.kernel_model.specs.declared.Mode.TheVariants.{Exclusive}
use Rattle.kernel_model.specs.declared.Cause.TheVariants.{BadArgument, NotYours}
use Rattle.kernel_model.specs.declared.Inverse.{Inverse}
use Rattle.kernel_model.specs.declared.Inverse.TheVariants.{Nice, Window, Mark, Tune, Segment}
use Rattle.kernel_model.specs.declared.QueueRow.{QueueRow}
use Rattle.kernel_model.specs.declared.OpenRow.{OpenRow}
use Rattle.kernel_model.specs.Objects.{Things, SameThing, FrameValue, PolValue, at, at2}
use Rattle.kernel_model.specs.Policies.{nice_of, frames_of}
use Rattle.kernel_model.specs.Access.{Access, Gives, Changes, Refuses, Callable, CellGet, CellSet}
use Rattle.kernel_model.specs.Access.{NiceGet, NiceSet, WindowGet, WindowSet, FramesMine, FrameAt}
use Rattle.kernel_model.specs.Access.{FrameBlock, FrameMark, TuneGet, TuneSet, TakeLock, callable}
use Rattle.kernel_model.specs.Access.{access, access_by, accessed, needed, Found, bare_found}
use Rattle.kernel_model.specs.Access.{object_of_inverse, undo_by, undo, with_nice, with_window}
use Rattle.kernel_model.specs.Access.{with_mark, with_param, set_window, set_mark, set_param}
use Rattle.kernel_model.specs.Access.{set_segment, found_segment, own_frame, window_change}
use Rattle.kernel_model.specs.Access.{tune_change, param_top, in_range, chosen_param}
use Rattle.kernel_model.specs.Sound.{count_of, in_queue}
use Rattle.kernel_model.specs.UndoLog.{undo_all}
use Rattle.kernel_laws.specs.Undoing.{AccessorCall, recorded, after_calls, RecordsLeadBack}
use Rattle.kernel_laws.specs.Undoing.{IsOnceIn, LeadsBack, ChangesItsObject, InversesCommute}
use Rattle.kernel_laws.specs.Undoing.{InversesUndo, InversesChangeOneObject, ChangesAreOfOneObject}
use Rattle.call_laws.specs.Stages.{at2_here}
use Rattle.call_laws.specs.Ledgers.{at_here}

-- ---- one changed place

-- what stands at another pair
other2 : {A : Type 0} (q k r l : ℕ) (v : A) (f : ℕ → ℕ → A) → (r == q && l == k) ≡ false → at2 q k v f r l ≡ f r l
other2 q k r l v f e = ap (λ b. cond b v (f r l)) e

-- a pair changed back
back2 : {A : Type 0} (q k : ℕ) (v x : A) (f : ℕ → ℕ → A) → v ≡ f q k → at2 q k v (at2 q k x f) ≡ f
back2 q k v x f e = fun_ext (λ j. fun_ext (λ l. grind (arith, nat_tests)))

-- two changed pairs commute
swap2 : {A : Type 0} (q k r l : ℕ) (v x : A) (f : ℕ → ℕ → A) → (q == r && k == l) ≡ false →
    at2 q k v (at2 r l x f) ≡ at2 r l x (at2 q k v f)
swap2 q k r l v x f e = fun_ext (λ i. fun_ext (λ j. grind (arith, nat_tests)))

-- a number changed back
back1 : {A : Type 0} (q : ℕ) (v x : A) (f : ℕ → A) → v ≡ f q → at q v (at q x f) ≡ f
back1 q v x f e = fun_ext (λ j. grind (arith, nat_tests))

-- two changed numbers commute
swap1 : {A : Type 0} (q r : ℕ) (v x : A) (f : ℕ → A) → (q == r) ≡ false → at q v (at r x f) ≡ at r x (at q v f)
swap1 q r v x f e = fun_ext (λ i. grind (arith, nat_tests))

-- what stands at another number
other1 : {A : Type 0} (q r : ℕ) (v : A) (f : ℕ → A) → (r == q) ≡ false → at q v f r ≡ f r
other1 q r v f e = ap (λ b. cond b v (f r)) e

-- ---- distinct objects

-- two cells that aren't one
cells_apart : (q k r l : ℕ) → Cell q k ≢ Cell r l → (q == r && k == l) ≡ false
cells_apart q k r l h = elim (cases_Bool (q == r && k == l)) [
  | inl e ↦ let b = and_parts (q == r) (k == l) e in
      absurd (h (ap (λ x. Cell x k) (eqb-true q r b.0) ∙ ap (λ x. Cell r x) (eqb-true k l b.1)))
  | inr e ↦ e
]

-- two open files that aren't one
files_apart : (q k r l : ℕ) → OpenFile q k ≢ OpenFile r l → (q == r && k == l) ≡ false
files_apart q k r l h = elim (cases_Bool (q == r && k == l)) [
  | inl e ↦ let b = and_parts (q == r) (k == l) e in absurd
      (h (ap (λ x. OpenFile x k) (eqb-true q r b.0) ∙ ap (λ x. OpenFile r x) (eqb-true k l b.1)))
  | inr e ↦ e
]

-- two grafts that aren't one
grafts_apart : (q k r l : ℕ) → Graft q k ≢ Graft r l → (q == r && k == l) ≡ false
grafts_apart q k r l h = elim (cases_Bool (q == r && k == l)) [
  | inl e ↦ let b = and_parts (q == r) (k == l) e in
      absurd (h (ap (λ x. Graft x k) (eqb-true q r b.0) ∙ ap (λ x. Graft r x) (eqb-true k l b.1)))
  | inr e ↦ e
]

-- two policies that aren't one
policies_apart : (q r : ℕ) → Pol q ≢ Pol r → (q == r) ≡ false
policies_apart q r h = elim (cases_Bool (q == r)) [ inl e ↦ absurd (h (ap Pol (eqb-true q r e))) | inr e ↦ e ]

-- ---- inverses commute

-- two windows
windows_commute : (q k v r l x : ℕ) (f : ℕ → ℕ → Option OpenRow) → (q == r && k == l) ≡ false →
    (r == q && l == k) ≡ false →
    at2 q k (with_window v (at2 r l (with_window x (f r l)) f q k)) (at2 r l (with_window x (f r l)) f)
    ≡ at2 r l (with_window x (at2 q k (with_window v (f q k)) f r l)) (at2 q k (with_window v (f q k)) f)
windows_commute q k v r l x f e d =
    let g = at2 r l (with_window x (f r l)) f in
    let h = at2 q k (with_window v (f q k)) f in
    ap (λ o. at2 q k (with_window v o) g) (other2 r l q k (with_window x (f r l)) f e)
    ∙ swap2 q k r l (with_window v (f q k)) (with_window x (f r l)) f e
    ∙ ap (λ o. at2 r l (with_window x o) h) (sym (other2 q k r l (with_window v (f q k)) f d))

-- two parameters
params_commute : (q v r x : ℕ) (f : ℕ → PolValue) → (q == r) ≡ false → (r == q) ≡ false →
    at q (with_param v (at r (with_param x (f r)) f q)) (at r (with_param x (f r)) f)
    ≡ at r (with_param x (at q (with_param v (f q)) f r)) (at q (with_param v (f q)) f)
params_commute q v r x f e d =
    let g = at r (with_param x (f r)) f in
    let h = at q (with_param v (f q)) f in
    ap (λ o. at q (with_param v o) g) (other1 r q (with_param x (f r)) f e)
    ∙ swap1 q r (with_param v (f q)) (with_param x (f r)) f e
    ∙ ap (λ o. at r (with_param x o) h) (sym (other1 q r (with_param v (f q)) f d))

-- inverses of distinct objects commute, whatever bytes they have
commute_by : (i j : Inverse) (b d : Option (ℕ → ℕ)) (w : Things) → object_of_inverse i ≢ object_of_inverse j →
    undo_by i b (undo_by j d w) ≡ undo_by j d (undo_by i b w)
commute_by (Inverse.Cell q k v) (Inverse.Cell r l x) b d w h =
    ap (λ c. record w { cell = c }) (swap2 q k r l v x w.cell (cells_apart q k r l h))
commute_by (Nice q v) (Nice r x) b d w h = absurd (h refl)
commute_by (Window q k v) (Window r l x) b d w h =
    ap (λ c. record w { file = c }) (windows_commute q k v r l x w.file (files_apart q k r l h)
    (files_apart r l q k (λ e. h (sym e))))
commute_by (Mark f v) (Mark g x) b d w h = absurd (h refl)
commute_by (Tune q k v) (Tune r l x) b d w h =
    ap (λ c. record w { pol = c })
    (params_commute q v r x w.pol (policies_apart q r h) (policies_apart r q (λ e. h (sym e))))
commute_by (Segment q k) (Segment r l) b d w h =
    ap (λ c. record w { segment = c }) (swap2 q k r l b d w.segment (grafts_apart q k r l h))
commute_by _ _ b d w h = refl

-- inverses of distinct objects commute
pub inverses_commute : InversesCommute
inverses_commute i j w h = commute_by i.inverse j.inverse i.bytes j.bytes w h

-- ---- an inverse changes its object alone

-- of things alone the inverse of a cell changes that cell, and so on
changes_one_by : (i : Inverse) (b : Option (ℕ → ℕ)) (o : Object) (w : Things) →
    o ≢ object_of_inverse i → SameThing o (undo_by i b w) w
changes_one_by i b (Acct q) w h = tt
changes_one_by (Inverse.Cell q k v) b (Cell r l) w h = other2 q k r l v w.cell (cells_apart r l q k h)
changes_one_by (Nice q v) b Queue w h = absurd (h refl)
changes_one_by (Window q k v) b (OpenFile r l) w h =
    other2 q k r l (with_window v (w.file q k)) w.file (files_apart r l q k h)
changes_one_by (Mark f v) b Cache w h = absurd (h refl)
changes_one_by (Tune q k v) b (Pol r) w h = other1 q r (with_param v (w.pol q)) w.pol (policies_apart r q h)
changes_one_by (Segment q k) b (Graft r l) w h = other2 q k r l b w.segment (grafts_apart r l q k h)
changes_one_by i b (Graft r l) w h = grind arith
changes_one_by i b (Cell r l) w h = grind arith
changes_one_by i b (OpenFile r l) w h = grind arith
changes_one_by i b Queue w h = (grind arith, grind arith)
changes_one_by i b Cache w h = grind arith
changes_one_by i b (Lock u) w h = grind arith
changes_one_by i b (Pol r) w h = grind arith

-- an inverse changes its object alone
pub inverses_change_one_object : InversesChangeOneObject
inverses_change_one_object i o w h = changes_one_by i.inverse i.bytes o w h

-- ---- an inverse undoes its change

-- the nice of the first row
nice_of_first : (q : ℕ) (r : QueueRow) (rows : List QueueRow) → (r.process == q) ≡ true → nice_of (r ∷ rows) q ≡ r.nice
nice_of_first q r rows e = grind arith

-- the nice of a later row
nice_of_later : (q : ℕ) (r : QueueRow) (rows : List QueueRow) → (r.process == q) ≡ false →
    nice_of (r ∷ rows) q ≡ nice_of rows q
nice_of_later q r rows e = grind arith

-- how often a process stands in the queue, by its first row
count_first : (q : ℕ) (r : QueueRow) (rows : List QueueRow) → (r.process == q) ≡ true →
    count_of q (in_queue (r ∷ rows)) ≡ suc (count_of q (in_queue rows))
count_first q r rows e = ap (λ b. cond b (suc (count_of q (in_queue rows))) (count_of q (in_queue rows))) e

count_later : (q : ℕ) (r : QueueRow) (rows : List QueueRow) → (r.process == q) ≡ false →
    count_of q (in_queue (r ∷ rows)) ≡ count_of q (in_queue rows)
count_later q r rows e = ap (λ b. cond b (suc (count_of q (in_queue rows))) (count_of q (in_queue rows))) e

-- a row with a nice, and then another
row_first : (q v n : ℕ) (r : QueueRow) → (r.process == q) ≡ true →
    with_nice q n (with_nice q v (r ∷ [])) ≡ record r { nice = n } ∷ []
row_first q v n r e = grind arith

row_later : (q v : ℕ) (r : QueueRow) (rows : List QueueRow) → (r.process == q) ≡ false →
    with_nice q v (r ∷ rows) ≡ r ∷ with_nice q v rows
row_later q v r rows e = ap (λ b. cond b (record r { nice = v }) r ∷ with_nice q v rows) e

-- the nice of a process that isn't in the queue
nice_of_none : (q v : ℕ) (rows : List QueueRow) → count_of q (in_queue rows) ≡ 0 → with_nice q v rows ≡ rows
nice_of_none q v [] h = refl
nice_of_none q v (r ∷ rows) h = elim (cases_Bool (r.process == q)) [
  | inl e ↦ let c = count_first q r rows e in absurd (omega arith)
  | inr e ↦ row_later q v r rows e ∙ ap (λ rs. r ∷ rs) (nice_of_none q v rows (sym (count_later q r rows e) ∙ h))
]

-- the rows of a list's head and tail
glued : (a b : QueueRow) (xs ys : List QueueRow) → a ∷ [] ≡ b ∷ [] → xs ≡ ys → a ∷ xs ≡ b ∷ ys
glued a b xs ys e f = grind arith

-- a nice changed back
nice_back : (q v : ℕ) (rows : List QueueRow) → IsOnceIn q rows →
    with_nice q (nice_of rows q) (with_nice q v rows) ≡ rows
nice_back q v [] h = refl
nice_back q v (r ∷ rows) h = elim (cases_Bool (r.process == q)) [
  | inl e ↦
      let c = count_first q r rows e in
      let none : count_of q (in_queue rows) ≡ 0 = omega arith in
      let n = nice_of_first q r rows e in
      ap (λ x. with_nice q x (with_nice q v (r ∷ rows))) n
      ∙ glued _ _ _ _ (row_first q v r.nice r e)
      (ap (with_nice q r.nice) (nice_of_none q v rows none) ∙ nice_of_none q r.nice rows none)
  | inr e ↦
      let c = count_later q r rows e in
      let less : IsOnceIn q rows = omega arith in
      ap (λ x. with_nice q x (with_nice q v (r ∷ rows))) (nice_of_later q r rows e)
      ∙ ap (with_nice q (nice_of rows q)) (row_later q v r rows e)
      ∙ row_later q (nice_of rows q) r (with_nice q v rows) e
      ∙ ap (λ rs. r ∷ rs) (nice_back q v rows less)
]

-- a window changed back
window_back : (q fd v : ℕ) (o : OpenRow) (w : Things) → w.file q fd ≡ Some o →
    undo (bare_found (Window q fd o.window)) (set_window q fd v w) ≡ w
window_back q fd v o w e =
    let x = with_window v (w.file q fd) in
    let same : with_window o.window (at2 q fd x w.file q fd) ≡ w.file q fd =
    ap (with_window o.window) (at2_here q fd x w.file ∙ ap (with_window v) e) ∙ sym e in
    ap (λ f. record w { file = f }) (back2 q fd (with_window o.window (at2 q fd x w.file q fd)) x w.file same)

-- a mark changed back
mark_back : (f v : ℕ) (o : FrameValue) (w : Things) → w.cache.frame f ≡ Some o →
    undo (bare_found (Mark f o.mark)) (set_mark f v w) ≡ w
mark_back f v o w e =
    let x = with_mark v (w.cache.frame f) in
    let same : with_mark o.mark (at f x w.cache.frame f) ≡ w.cache.frame f =
    ap (with_mark o.mark) (at_here f x w.cache.frame ∙ ap (with_mark v) e) ∙ sym e in
    ap (λ c. record w { cache = record (w.cache) { frame = c } })
    (back1 f (with_mark o.mark (at f x w.cache.frame f)) x w.cache.frame same)

-- a parameter changed back
param_back : (kind k v : ℕ) (w : Things) →
    undo (bare_found (Tune kind k (chosen_param (w.pol kind)))) (set_param kind v w) ≡ w
param_back kind k v w =
    let x = with_param v (w.pol kind) in
    let p = w.pol kind in
    let same : with_param (chosen_param p) (at kind x w.pol kind) ≡ p =
    ap (with_param (chosen_param p)) (at_here kind x w.pol)
    ∙ ap (λ f. record p { param = f }) (back1 p.chosen (chosen_param p) v p.param refl) in
    ap (λ c. record w { pol = c }) (back1 kind (with_param (chosen_param p) (at kind x w.pol kind)) x w.pol same)

-- a kept segment changed back
pub segment_back : (q pt : ℕ) (bytes : Option (ℕ → ℕ)) (w : Things) →
    undo (found_segment q pt w) (set_segment q pt bytes w) ≡ w
segment_back q pt bytes w = ap (λ c. record w { segment = c }) (back2 q pt (w.segment q pt) bytes w.segment refl)

-- ---- by accessors

-- the object of each changing accessor
cell_needed : (id r0 q : ℕ) → callable id ≡ CellSet → accessed id r0 q ≡ needed (Cell q r0) Exclusive
cell_needed id r0 q h = grind (arith, nat_tests)

nice_needed : (id r0 q : ℕ) → callable id ≡ NiceSet → accessed id r0 q ≡ needed Queue Exclusive
nice_needed id r0 q h = grind (arith, nat_tests)

window_needed : (id r0 q : ℕ) → callable id ≡ WindowSet → accessed id r0 q ≡ needed (OpenFile q r0) Exclusive
window_needed id r0 q h = grind (arith, nat_tests)

mark_needed : (id r0 q : ℕ) → callable id ≡ FrameMark → accessed id r0 q ≡ needed Cache Exclusive
mark_needed id r0 q h = grind (arith, nat_tests)

param_needed : (id r0 q : ℕ) → callable id ≡ TuneSet → accessed id r0 q ≡ needed (Pol r0) Exclusive
param_needed id r0 q h = grind (arith, nat_tests)

-- an accessor's result is no change
gives_back : (o : Option OpenRow) (id : ℕ) (w : Things) →
    LeadsBack w (elim o as (λ _. Access) [ None ↦ Refuses (BadArgument id) | Some r ↦ Gives r.window ])
gives_back None id w = tt
gives_back (Some r) id w = tt

-- the same of a frame
frame_back : (f : Option ℕ) (id : ℕ) (w : Things) →
    LeadsBack w (elim f as (λ _. Access) [ None ↦ Refuses (BadArgument id) | Some x ↦ Gives x ])
frame_back None id w = tt
frame_back (Some x) id w = tt

-- a window's change
window_leads : (o : Option OpenRow) (id fd v q : ℕ) (w : Things) → w.file q fd ≡ o →
    LeadsBack w (window_change id fd v q o w)
window_leads None id fd v q w e = tt
window_leads (Some o) id fd v q w e = window_back q fd v o w e

-- what a frame of the process gives is no change
own_gives : (b : Bool) (id : ℕ) (f : FrameValue) (w : Things) →
    LeadsBack w (cond b (Gives f.block) (Refuses (NotYours id)))
own_gives true id f w = tt
own_gives false id f w = tt

own_leads : (o : Option FrameValue) (id q : ℕ) (w : Things) → LeadsBack w (own_frame id q o (λ f. Gives f.block))
own_leads None id q w = tt
own_leads (Some f) id q w = own_gives (f.owner == q) id f w

-- a mark's change
own_marks : (b : Bool) (id r0 r1 : ℕ) (f : FrameValue) (w : Things) → w.cache.frame r0 ≡ Some f →
    LeadsBack w (cond b (Changes f.mark (Mark r0 f.mark) (set_mark r0 r1 w)) (Refuses (NotYours id)))
own_marks true id r0 r1 f w e = mark_back r0 r1 f w e
own_marks false id r0 r1 f w e = tt

mark_leads : (o : Option FrameValue) (id q r0 r1 : ℕ) (w : Things) → w.cache.frame r0 ≡ o →
    LeadsBack w (own_frame id q o (λ f. Changes f.mark (Mark r0 f.mark) (set_mark r0 r1 w)))
mark_leads None id q r0 r1 w e = tt
mark_leads (Some f) id q r0 r1 w e = own_marks (f.owner == q) id r0 r1 f w e

-- a parameter that is told, or changes
param_gives : (b : Bool) (id x : ℕ) (w : Things) → LeadsBack w (cond b (Gives x) (Refuses (BadArgument id)))
param_gives true id x w = tt
param_gives false id x w = tt

param_leads : (b : Bool) (id r0 r1 r2 : ℕ) (w : Things) →
    LeadsBack w (cond b (tune_change r0 r1 r2 (chosen_param (w.pol r0)) w) (Refuses (BadArgument id)))
param_leads true id r0 r1 r2 w = param_back r0 r1 r2 w
param_leads false id r0 r1 r2 w = tt

-- an accessor's inverse leads back
leads_back : (c : Callable) (id r0 r1 r2 q : ℕ) (w : Things) → IsOnceIn q w.queue →
    LeadsBack w (access_by c id r0 r1 r2 q w)
leads_back CellGet id r0 r1 r2 q w h = tt
leads_back CellSet id r0 r1 r2 q w h = ap (λ c. record w { cell = c }) (back2 q r0 (w.cell q r0) r1 w.cell refl)
leads_back NiceGet id r0 r1 r2 q w h = tt
leads_back NiceSet id r0 r1 r2 q w h = ap (λ c. record w { queue = c }) (nice_back q r0 w.queue h)
leads_back WindowGet id r0 r1 r2 q w h = gives_back (w.file q r0) id w
leads_back WindowSet id r0 r1 r2 q w h = window_leads (w.file q r0) id r0 r1 q w refl
leads_back FramesMine id r0 r1 r2 q w h = tt
leads_back FrameAt id r0 r1 r2 q w h = frame_back (slice_get (frames_of w.cache q) r0) id w
leads_back FrameBlock id r0 r1 r2 q w h = own_leads (w.cache.frame r0) id q w
leads_back FrameMark id r0 r1 r2 q w h = mark_leads (w.cache.frame r0) id q r0 r1 w refl
leads_back TuneGet id r0 r1 r2 q w h =
    param_gives (in_range (param_top r0 (w.pol r0).chosen) r1 0) id (chosen_param (w.pol r0)) w
leads_back TuneSet id r0 r1 r2 q w h = param_leads (in_range (param_top r0 (w.pol r0).chosen) r1 r2) id r0 r1 r2 w
leads_back TakeLock id r0 r1 r2 q w h = tt

-- an inverse undoes the change of the accessor that recorded it
pub inverses_undo : InversesUndo
inverses_undo id r0 r1 r2 q w h = leads_back (callable id) id r0 r1 r2 q w h

-- ---- records one after another

-- how often a process stands in the queue once a nice changed
pub nice_count : (p n : ℕ) (rows : List QueueRow) (q : ℕ) →
    count_of q (in_queue (with_nice p n rows)) ≡ count_of q (in_queue rows)
nice_count p n [] q = refl
nice_count p n (r ∷ rows) q = grind (arith, nat_tests, nice_count p n rows q)

-- the same by the inverse
count_by : (i : Inverse) (b : Option (ℕ → ℕ)) (q : ℕ) (w : Things) →
    count_of q (in_queue (undo_by i b w).queue) ≡ count_of q (in_queue w.queue)
count_by (Inverse.Cell p k v) b q w = refl
count_by (Nice p v) b q w = nice_count p v w.queue q
count_by (Window p fd v) b q w = refl
count_by (Mark f v) b q w = refl
count_by (Tune kind k v) b q w = refl
count_by (Segment p pt) b q w = refl

-- an inverse leaves that as it is
pub undo_count : (i : Found) (q : ℕ) (w : Things) →
    count_of q (in_queue (undo i w).queue) ≡ count_of q (in_queue w.queue)
undo_count i q w = count_by i.inverse i.bytes q w

-- records lead back, and each process stands in the queue at most once
abbrev LeadBack : Things → Things × List Found → Type 0
LeadBack w e = (undo_all e.1 e.0 ≡ w) × ((q : ℕ) → IsOnceIn q e.0.queue)

-- after one more accessor
one_more_back : (w : Things) (e : Things × List Found) (x : Access) → LeadBack w e →
    LeadsBack e.0 x → LeadBack w (recorded x e)
one_more_back w e (Gives result) h leads = h
one_more_back w e (Changes result i u) h leads = (
  ap (undo_all e.1) leads ∙ h.0,
  λ q. subst (λ n. n ≤ 1) (sym (ap (λ (x : Things). count_of q
      (in_queue x.queue)) leads) ∙ undo_count (bare_found i) q u) (h.1 q),
)
one_more_back w e (Refuses cause) h leads = h

-- after several
more_back : (cs : List AccessorCall) (w : Things) (e : Things × List Found) → LeadBack w e →
    LeadBack w (after_calls cs e)
more_back [] w e h = h
more_back (c ∷ cs) w e h =
    let x = access c.id c.r0 c.r1 c.r2 c.process e.0 in
    more_back cs w (recorded x e)
    (one_more_back w e x h (inverses_undo c.id c.r0 c.r1 c.r2 c.process e.0 (h.1 c.process)))

-- the records of accessors, newest first, lead back
pub records_lead_back : RecordsLeadBack
records_lead_back cs w once = (more_back cs w (w, []) (refl, once)).0

-- ---- an accessor changes the object that it needs

-- no change
gives_own : (o : Option OpenRow) (id r0 q : ℕ) (w : Things) →
    ChangesItsObject id r0 q w (elim o as (λ _. Access) [ None ↦ Refuses (BadArgument id) | Some r ↦ Gives r.window ])
gives_own None id r0 q w = tt
gives_own (Some r) id r0 q w = tt

frame_own : (f : Option ℕ) (id r0 q : ℕ) (w : Things) →
    ChangesItsObject id r0 q w (elim f as (λ _. Access) [ None ↦ Refuses (BadArgument id) | Some x ↦ Gives x ])
frame_own None id r0 q w = tt
frame_own (Some x) id r0 q w = tt

block_own_by : (b : Bool) (id r0 q : ℕ) (f : FrameValue) (w : Things) →
    ChangesItsObject id r0 q w (cond b (Gives f.block) (Refuses (NotYours id)))
block_own_by true id r0 q f w = tt
block_own_by false id r0 q f w = tt

block_own : (o : Option FrameValue) (id r0 q : ℕ) (w : Things) →
    ChangesItsObject id r0 q w (own_frame id q o (λ f. Gives f.block))
block_own None id r0 q w = tt
block_own (Some f) id r0 q w = block_own_by (f.owner == q) id r0 q f w

tells_own : (b : Bool) (id r0 q x : ℕ) (w : Things) →
    ChangesItsObject id r0 q w (cond b (Gives x) (Refuses (BadArgument id)))
tells_own true id r0 q x w = tt
tells_own false id r0 q x w = tt

-- a window
window_own : (o : Option OpenRow) (id r0 r1 q : ℕ) (w : Things) → callable id ≡ WindowSet →
    ChangesItsObject id r0 q w (window_change id r0 r1 q o w)
window_own None id r0 r1 q w e = tt
window_own (Some o) id r0 r1 q w e =
    (window_needed id r0 q e, λ x h. inverses_change_one_object (bare_found (Window q r0 r1)) x w h)

-- a mark
mark_own_by : (b : Bool) (id r0 r1 q : ℕ) (f : FrameValue) (w : Things) → callable id ≡ FrameMark →
    ChangesItsObject id r0 q w (cond b (Changes f.mark (Mark r0 f.mark) (set_mark r0 r1 w)) (Refuses (NotYours id)))
mark_own_by true id r0 r1 q f w e =
    (mark_needed id r0 q e, λ x h. inverses_change_one_object (bare_found (Mark r0 r1)) x w h)
mark_own_by false id r0 r1 q f w e = tt

mark_own : (o : Option FrameValue) (id r0 r1 q : ℕ) (w : Things) → callable id ≡ FrameMark →
    ChangesItsObject id r0 q w (own_frame id q o (λ f. Changes f.mark (Mark r0 f.mark) (set_mark r0 r1 w)))
mark_own None id r0 r1 q w e = tt
mark_own (Some f) id r0 r1 q w e = mark_own_by (f.owner == q) id r0 r1 q f w e

-- a parameter
param_own : (b : Bool) (id r0 r1 r2 q : ℕ) (w : Things) → callable id ≡ TuneSet →
    ChangesItsObject id r0 q w (cond b (tune_change r0 r1 r2 (chosen_param (w.pol r0)) w) (Refuses (BadArgument id)))
param_own true id r0 r1 r2 q w e =
    (param_needed id r0 q e, λ x h. inverses_change_one_object (bare_found (Tune r0 r1 r2)) x w h)
param_own false id r0 r1 r2 q w e = tt

-- by accessors
changes_own : (c : Callable) (id r0 r1 r2 q : ℕ) (w : Things) → callable id ≡ c →
    ChangesItsObject id r0 q w (access_by c id r0 r1 r2 q w)
changes_own CellGet id r0 r1 r2 q w e = tt
changes_own CellSet id r0 r1 r2 q w e = (
  cell_needed id r0 q e,
  λ x h. inverses_change_one_object (bare_found (Inverse.Cell q r0 r1)) x w h,
)
changes_own NiceGet id r0 r1 r2 q w e = tt
changes_own NiceSet id r0 r1 r2 q w e =
    (nice_needed id r0 q e, λ x h. inverses_change_one_object (bare_found (Nice q r0)) x w h)
changes_own WindowGet id r0 r1 r2 q w e = gives_own (w.file q r0) id r0 q w
changes_own WindowSet id r0 r1 r2 q w e = window_own (w.file q r0) id r0 r1 q w e
changes_own FramesMine id r0 r1 r2 q w e = tt
changes_own FrameAt id r0 r1 r2 q w e = frame_own (slice_get (frames_of w.cache q) r0) id r0 q w
changes_own FrameBlock id r0 r1 r2 q w e = block_own (w.cache.frame r0) id r0 q w
changes_own FrameMark id r0 r1 r2 q w e = mark_own (w.cache.frame r0) id r0 r1 q w e
changes_own TuneGet id r0 r1 r2 q w e =
    tells_own (in_range (param_top r0 (w.pol r0).chosen) r1 0) id r0 q (chosen_param (w.pol r0)) w
changes_own TuneSet id r0 r1 r2 q w e = param_own (in_range (param_top r0 (w.pol r0).chosen) r1 r2) id r0 r1 r2 q w e
changes_own TakeLock id r0 r1 r2 q w e = tt

-- an accessor's change is of one object alone
pub changes_are_of_one_object : ChangesAreOfOneObject
changes_are_of_one_object id r0 r1 r2 q w = changes_own (callable id) id r0 r1 r2 q w refl
