-- From a sound kernel, 256 steps are enough to rest.
use Rattle.std.specs.Prelude.{◌≡◌, ◌≢◌, ℕ, zero, suc, ◌+◌, ◌*◌, ◌<◌, ◌≤◌, ◌==◌, ◌&&◌, ◌||◌, Bool}
use Rattle.std.specs.Prelude.{true, false, cond, not, List, [], ◌∷◌, ◌++◌, length, Option, Some}
use Rattle.std.specs.Prelude.{None, is_some, Contains, ⊤}
use Rattle.std.specs.List.{list_all, AllByRecursion}
use Rattle.std.specs.Result.{is_ok}
use Rattle.std.proofs.Common.{arith, refl, subst, sym, ap, ◌∙◌, inl, inr}
use Rattle.std.proofs.lemmas.Bool.{cases_Bool, cases_eq}
use Rattle.std.proofs.lemmas.Bool.Decides.{nat_tests}
use Rattle.std.proofs.lemmas.List.Elements.{Contains-append_right, All-contains, All-from_recursion}
use Rattle.kernel_model.specs.declared.Micro.{Micro}
use Rattle.kernel_model.specs.declared.Point.{Point}
use Rattle.kernel_model.specs.declared.Note.{Note}
use Rattle.kernel_model.specs.declared.Note.TheVariants.{Dropped}
use Rattle.kernel_model.specs.World.{World, ImageTable, Blocks}
use Rattle.kernel_model.specs.Objects.{Objects, GraftValue}
use Rattle.kernel_model.specs.SameObject.{same_object_is}
use Rattle.kernel_model.specs.Objects.{same_object}
use Rattle.kernel_model.specs.Policies.{lives}
use Rattle.kernel_model.specs.Meaning.{Meaning, After, Continues, EndsWith, Fails, Answer}
use Rattle.kernel_model.specs.Levels.{Outcome, answer_of}
use Rattle.kernel_model.specs.Locks.{LockTable}
use Rattle.kernel_model.specs.GraftStep.{micro}
use Rattle.kernel_model.specs.History.{Mark, Stepped, Trace, fallen, replay}
use Rattle.kernel_model.specs.Kernel.{Call, Blocker, Waiter, Kernel, Run, new_entry, less_entry}
use Rattle.kernel_model.specs.Kernel.{is_at_piece, call_after, noted, with_marks}
use Rattle.kernel_model.specs.Blocking.{trace_of, config_in, levels_in, holds, blocker_in, blocker}
use Rattle.kernel_model.specs.Blocking.{same_blocker, same_call}
use Rattle.kernel_model.specs.Settle.{lost_objects, entry_with, finish_on, piece_at, piece_step}
use Rattle.kernel_model.specs.Settle.{after_outcome, graft_step, marked_step, call_step, step}
use Rattle.kernel_model.specs.Settle.{first_free_in, first_free, order_in, rested_order, rested}
use Rattle.kernel_model.specs.Settle.{settle}
use Rattle.kernel_model.specs.Events.{in_order}
use Rattle.kernel_model.specs.Sound.{IsSoundStore, IsSoundKernel, IsAtRest, FitsDisk, HasWholeBlocks, sum_below}
use Rattle.kernel_model.specs.Alike.{AreAlike, SameFiles, windowless}
use Rattle.kernel_model.specs.Laws.{Laws, IsReady, IsStanding, continues}
use Rattle.call_laws.specs.Ledgers.{at_here, at_other, sum_one}
use Rattle.kernel_laws.specs.Rest.{SettlesToRest}
use Rattle.kernel_laws.specs.Soundness.{WorksOn, AnswersRightly, ReplayWorks}
use Rattle.kernel_laws.proofs.InstructionLemmas.{instructions_work}
use Rattle.kernel_laws.proofs.BodyLemmas.{AnswersWholly, answer_right, micro_wholly}
use Rattle.kernel_laws.proofs.HistoryLemmas.{histories_work}
use Rattle.kernel_laws.proofs.StepLemmas.{niceless_lives, alike_disk, right_answer, others_files}
use Rattle.kernel_laws.proofs.FrameLemmas.{contrary}
use Rattle.kernel_model.specs.Quiet.{both_hold}

-- ---- what a kernel needs for its steps

-- the state and the blocks are sound, each call in flight stands, and who stands in the order has a call in flight
pub record CanStep (m : Meaning) (v : World) (images : ImageTable) (s : Objects) (blocks : Blocks)
    (call : ℕ → Option Call) (order : List Waiter) : Type 0 where
  pub store : IsSoundStore v s
  pub disk : FitsDisk v s.things.cache
  pub whole : HasWholeBlocks v blocks
  pub callers : (p : ℕ) (c : Call) → call p ≡ Some c → lives s.things.queue p ≡ true
  pub granted : (p : ℕ) (c : Call) → call p ≡ Some c → is_ok (m.early v images p c.stage.call) ≡ true
  pub fit : (p : ℕ) (c : Call) → call p ≡ Some c → m.fits v s p c.stage ≡ true
  pub entries : list_all (λ (e : Waiter). is_some (call e.process)) order ≡ true

-- a run can go on so
abbrev pub GoesOn : Meaning → Run → Type 0
GoesOn m r = CanStep m r.kernel.world r.kernel.images r.kernel.objects r.blocks r.kernel.call r.kernel.order

-- a call stands, and where its next step is a piece fewer than n are left
pub record IsOn (m : Meaning) (v : World) (images : ImageTable) (p n : ℕ) (u : Objects) (d : Call) : Type 0 where
  pub caller : lives u.things.queue p ≡ true
  pub granted : is_ok (m.early v images p d.stage.call) ≡ true
  pub fits : m.fits v u p d.stage ≡ true
  pub fewer : is_at_piece (Some d) ≡ true → m.left v u p d.stage < n

-- the same where there is one
abbrev pub OwnAfter : (m : Meaning) (v : World) (images : ImageTable) (p n : ℕ) → Objects → Option Call → Type 0
OwnAfter m v images p n u None = ⊤
OwnAfter m v images p n u (Some d) = IsOn m v images p n u d

-- what a step of p's call, before which n pieces were left, leaves
pub record HasStepped (m : Meaning) (p n : ℕ) (r u : Run) : Type 0 where
  pub world : u.kernel.world ≡ r.kernel.world
  pub images : u.kernel.images ≡ r.kernel.images
  pub order : u.kernel.order ≡ r.kernel.order
  pub store : IsSoundStore r.kernel.world u.kernel.objects
  pub disk : FitsDisk r.kernel.world u.kernel.objects.things.cache
  pub whole : HasWholeBlocks r.kernel.world u.blocks
  pub calls : (q : ℕ) → q ≢ p → u.kernel.call q ≡ r.kernel.call q
  pub live : (q : ℕ) → q ≢ p → lives r.kernel.objects.things.queue q ≡ true →
      lives u.kernel.objects.things.queue q ≡ true
  pub files : (q : ℕ) → q ≢ p → SameFiles q r.kernel.objects u.kernel.objects
  pub own : OwnAfter m r.kernel.world r.kernel.images p n u.kernel.objects (u.kernel.call p)

-- a state is alike to itself
pub alike_self : (s : Objects) → AreAlike s s
alike_self s =
    record {
      files = λ p fd. refl;
      queue = refl;
      handlers = refl;
      lru = refl;
      frames = λ f. refl;
      locks = λ l. refl;
      policies = λ kind. refl;
    }

module _ (m : Meaning) (laws : Laws m) where
  -- ---- the ends of a step

  -- nothing changes, where the next step is none of a piece
  stays : (p n : ℕ) (c : Call) (r : Run) → GoesOn m r → r.kernel.call p ≡ Some c →
      is_at_piece (Some c) ≡ false → HasStepped m p n r r
  stays p n c r h e away =
      record {
        world = refl;
        images = refl;
        order = refl;
        store = h.store;
        disk = h.disk;
        whole = h.whole;
        calls = λ q ne. refl;
        live = λ q ne alive. alive;
        files = λ q ne fd. refl;
        own = subst (OwnAfter m r.kernel.world r.kernel.images p n r.kernel.objects) (sym e)
            (record {
              caller = h.callers p c e;
              granted = h.granted p c e;
              fits = h.fit p c e;
              fewer = λ piece. absurd (contrary (sym piece ∙ away));
            });
      }

  -- the history changes
  marks_after : (p n : ℕ) (c : Call) (ks : List Mark) (r : Run) → GoesOn m r →
      r.kernel.call p ≡ Some c → HasStepped m p n r (with_marks p c ks r)
  marks_after p n c ks r h e =
      let d : Call = record c { marks = Some ks } in
      record {
        world = refl;
        images = refl;
        order = refl;
        store = h.store;
        disk = h.disk;
        whole = h.whole;
        calls = λ q ne. at_other p q (Some d) r.kernel.call ne;
        live = λ q ne alive. alive;
        files = λ q ne fd. refl;
        own =
            subst (OwnAfter m r.kernel.world r.kernel.images p n r.kernel.objects)
            (sym (at_here p (Some d) r.kernel.call))
            (record {
              caller = h.callers p c e;
              granted = h.granted p c e;
              fits = h.fit p c e;
              fewer = λ piece. absurd (contrary (sym piece));
            });
      }

  -- the call after a piece
  own_after : (v : World) (images : ImageTable) (s w : Objects) (blocks : Blocks) (p : ℕ) (c : Call)
      (answer : Option Answer) (io : List Bool) (a : After) →
      IsReady m v images w p c.stage answer → AreAlike s w → (m.piece v images w blocks p c.stage answer io).after ≡ a →
      OwnAfter m v images p (m.left v s p c.stage)
      (m.piece v images w blocks p c.stage answer io).objects (call_after c a)
  own_after v images s w blocks p c answer io (EndsWith reply) ready alike e = tt
  own_after v images s w blocks p c answer io (Fails refusal) ready alike e = tt
  own_after v images s w blocks p c answer io (Continues t) ready alike e =
      record {
        caller = laws.piece.caller_lives v images w blocks p c.stage answer io ready (ap continues e);
        granted =
            ap (λ x. is_ok (m.early v images p x)) (laws.stages.same_call_next v images w blocks p
            c.stage t answer io ready e) ∙ ready.standing.granted;
        fits = laws.stages.next v images w blocks p c.stage t answer io ready e;
        fewer =
            λ piece. subst (λ k. m.left v (m.piece v images w blocks p c.stage answer io).objects p
            t < k) (sym (laws.stages.left_same v s w p c.stage (alike.files p)))
            (laws.stages.left_falls v images w blocks p c.stage t answer io ready e);
      }

  -- a piece is done, on a state that is alike to the committed one
  finish_after : (p : ℕ) (c : Call) (w : Objects) (answer : Option Answer) (r : Run) → GoesOn m r →
      IsReady m r.kernel.world r.kernel.images w p c.stage answer → AreAlike r.kernel.objects w →
      HasStepped m p (m.left r.kernel.world r.kernel.objects p c.stage) r (finish_on m p c w answer r)
  finish_after p c w answer r h ready alike =
      let v = r.kernel.world in
      let s = r.kernel.objects in
      let q = m.piece v r.kernel.images w r.blocks p c.stage answer r.io in
      record {
        world = refl;
        images = refl;
        order = refl;
        store = laws.piece.store v r.kernel.images w r.blocks p c.stage answer r.io ready h.whole;
        disk = laws.piece.disk v r.kernel.images w r.blocks p c.stage answer r.io ready;
        whole = laws.piece.whole_blocks v r.kernel.images w r.blocks p c.stage answer r.io ready h.whole;
        calls = λ i ne. at_other p i (call_after c q.after) r.kernel.call ne;
        live = λ i ne alive. laws.piece.others_live v r.kernel.images w r.blocks p i c.stage answer r.io ready ne
            (sym (niceless_lives s.things.queue w.things.queue i alike.queue) ∙ alive);
        files =
            λ i ne fd. alike.files i fd ∙ ap windowless (others_files m laws v r.kernel.images w
            r.blocks p i c.stage answer r.io ready h.whole ne fd);
        own =
            subst (OwnAfter m v r.kernel.images p (m.left v s p c.stage) q.objects)
            (sym (at_here p (call_after c q.after) r.kernel.call))
            (own_after v r.kernel.images s w r.blocks p c answer r.io q.after ready alike refl);
      }

  -- ---- one step

  -- a call stands on a state that is alike to the committed one
  stands_on : (p : ℕ) (c : Call) (w : Objects) (r : Run) → GoesOn m r → r.kernel.call p ≡ Some c →
      IsSoundStore r.kernel.world w → AreAlike r.kernel.objects w →
      IsStanding m r.kernel.world r.kernel.images w p c.stage
  stands_on p c w r h e sound alike =
      record {
        store = sound;
        caller = sym (niceless_lives r.kernel.objects.things.queue w.things.queue p alike.queue) ∙ h.callers p c e;
        granted = h.granted p c e;
        fits = sym (laws.stages.fits_same r.kernel.world r.kernel.objects w p c.stage (alike.files p)) ∙ h.fit p c e;
      }

  -- the default finishes a piece
  default_after : (p : ℕ) (c : Call) (r : Run) → GoesOn m r → r.kernel.call p ≡ Some c →
      HasStepped m p (m.left r.kernel.world r.kernel.objects p c.stage) r (finish_on m p c r.kernel.objects None r)
  default_after p c r h e =
      finish_after p c r.kernel.objects None r h
      (record {
        standing = stands_on p c r.kernel.objects r h e h.store (alike_self r.kernel.objects);
        disk = h.disk;
        right = tt;
        body = tt;
      }) (alike_self r.kernel.objects)

  piece_at_after : (p : ℕ) (c : Call) (g : Option GraftValue) (r : Run) → GoesOn m r → r.kernel.call p ≡ Some c →
      HasStepped m p (m.left r.kernel.world r.kernel.objects p c.stage) r (piece_at m p c g r)
  piece_at_after p c None r h e = default_after p c r h e
  piece_at_after p c (Some g) r h e = marks_after p (m.left r.kernel.world r.kernel.objects p c.stage) c [] r h e

  piece_after : (p : ℕ) (c : Call) (a : Option Point) (r : Run) → GoesOn m r → r.kernel.call p ≡ Some c →
      HasStepped m p (m.left r.kernel.world r.kernel.objects p c.stage) r (piece_step m p c a r)
  piece_after p c None r h e = default_after p c r h e
  piece_after p c (Some a) r h e = piece_at_after p c (r.kernel.objects.accounts.graft a.installer a.point) r h e

  -- a note that was written before
  after_note_of : (p n : ℕ) (x : Note) (r u : Run) → HasStepped m p n (noted x r) u → HasStepped m p n r u
  after_note_of p n x r u h =
      record {
        world = h.world;
        images = h.images;
        order = h.order;
        store = h.store;
        disk = h.disk;
        whole = h.whole;
        calls = h.calls;
        live = h.live;
        files = h.files;
        own = h.own;
      }

  -- an instruction's outcome
  outcome_after : (p : ℕ) (c : Call) (a : Point) (t : Trace) (ks : List Mark) (o : Outcome)
      (said : Micro) (r : Run) → GoesOn m r → r.kernel.call p ≡ Some c →
      c.marks ≡ Some ks → m.asks r.kernel.world r.kernel.objects p c.stage ≡ Some a →
      WorksOn r.kernel.world r.kernel.objects a o.config →
      AnswersRightly a o.config.now.things said → AnswersWholly t.config.levels said →
      HasStepped m p (m.left r.kernel.world r.kernel.objects p c.stage) r (after_outcome m p c t ks o said r)
  outcome_after p c a t ks o Micro.Went r h e marked asked works right whole =
      marks_after p (m.left r.kernel.world r.kernel.objects p c.stage) c (ks ++ Stepped ∷ []) r h e
  outcome_after p c a t ks o (Micro.Blocked object holder by_user) r h e marked asked works right whole =
      stays p (m.left r.kernel.world r.kernel.objects p c.stage) c r h e
      (ap (λ (x : Option (List Mark)). elim x as (λ _. Bool) [ None ↦ true | Some y ↦ false ])
      marked)
  outcome_after p c a t ks o (Micro.Completed answer) r h e marked asked works right whole =
      let now = works.works.1.0 in
      finish_after p c o.config.now (Some (answer_of answer t.config.levels)) r h
      (record {
        standing = stands_on p c o.config.now r h e now.store now.alike;
        disk = alike_disk r.kernel.world r.kernel.objects o.config.now now.alike h.disk;
        right = answer_right o.config.now (m.asks r.kernel.world o.config.now p c.stage) answer t.config.levels
            (right_answer m laws r.kernel.world r.kernel.objects o.config.now p c.stage a answer
            (h.fit p c e) now.alike asked right);
        body = whole;
      }) now.alike
  outcome_after p c a t ks o (Micro.Dropped zero q pt cause) r h e marked asked works right whole =
      let base = works.works.0 in
      let w = lost_objects o.config.now r.kernel.objects in
      let said = Dropped c.number q pt cause in
      after_note_of p (m.left r.kernel.world r.kernel.objects p c.stage) said r (finish_on m p c w None (noted said r))
      (finish_after p c w None (noted said r) h
      (record {
        standing = stands_on p c w r h e base.store base.alike;
        disk = h.disk;
        right = tt;
        body = tt;
      }) base.alike)
  outcome_after p c a t ks o (Micro.Dropped (suc d) q pt cause) r h e marked asked works right whole =
      let said = Dropped c.number q pt cause in
      let marks = fallen t ks o.effects (suc d) in
      after_note_of p (m.left r.kernel.world r.kernel.objects p c.stage) said r (with_marks p c marks (noted said r))
      (marks_after p (m.left r.kernel.world r.kernel.objects p c.stage) c marks (noted said r) h e)

  graft_after : (p : ℕ) (c : Call) (ks : List Mark) (x : Option Trace) (ask : Option Point)
      (r : Run) → GoesOn m r → r.kernel.call p ≡ Some c →
      c.marks ≡ Some ks → m.asks r.kernel.world r.kernel.objects p c.stage ≡ ask →
      ReplayWorks r.kernel.world r.kernel.objects ask x →
      HasStepped m p (m.left r.kernel.world r.kernel.objects p c.stage) r (graft_step m p c ks x r)
  graft_after p c ks None ask r h e marked asked works =
      stays p (m.left r.kernel.world r.kernel.objects p c.stage) c r h e
      (ap (λ (x : Option (List Mark)). elim x as (λ _. Bool) [ None ↦ true | Some y ↦ false ])
      marked)
  graft_after p c ks (Some t) None r h e marked asked works = absurd works
  graft_after p c ks (Some t) (Some a) r h e marked asked works =
      let o = micro r.kernel.world r.kernel.images p t.config in
      let k = instructions_work r.kernel.world r.kernel.images p r.kernel.objects a t.config works in
      outcome_after p c a t ks o o.said r h e marked asked k.0 k.1
      (micro_wholly r.kernel.world r.kernel.images p t.config)

  marked_after : (p : ℕ) (c : Call) (ks : Option (List Mark)) (r : Run) → GoesOn m r →
      r.kernel.call p ≡ Some c → c.marks ≡ ks →
      HasStepped m p (m.left r.kernel.world r.kernel.objects p c.stage) r (marked_step m p c ks r)
  marked_after p c None r h e marked = piece_after p c (m.asks r.kernel.world r.kernel.objects p c.stage) r h e
  marked_after p c (Some ks) r h e marked =
      let v = r.kernel.world in
      let s = r.kernel.objects in
      let same : replay m v r.kernel.images s p c.stage ks ≡ trace_of m r.kernel p (Some c) =
      ap (λ (x : Option (List Mark)). elim x as (λ _. Option Trace) [
        | None ↦ None
        | Some y ↦ replay m v r.kernel.images s p c.stage y
      ]) (sym marked) in
      graft_after p c ks (trace_of m r.kernel p (Some c)) (m.asks v s p c.stage) r h e marked refl
      (subst (ReplayWorks v s (m.asks v s p c.stage)) same (histories_work m v r.kernel.images s p c.stage ks h.store))

  -- a step of a call in flight
  call_has_stepped : (p : ℕ) (c : Call) (r : Run) → GoesOn m r → r.kernel.call p ≡ Some c →
      HasStepped m p (m.left r.kernel.world r.kernel.objects p c.stage) r (call_step m p (r.kernel.call p) r)
  call_has_stepped p c r h e =
      subst (λ x. HasStepped m p (m.left r.kernel.world r.kernel.objects p c.stage) r
      (call_step m p x r)) (sym e) (marked_after p c c.marks r h e refl)

-- ---- the order after a step

-- an entry of p is left out, and another stays
pub less_own : (p : ℕ) (e : Waiter) (es : List Waiter) → (e.process == p) ≡ true →
    less_entry p (e ∷ es) ≡ less_entry p es
less_own p e es h = ap (λ b. cond (not b) (e ∷ less_entry p es) (less_entry p es)) h

pub less_other : (p : ℕ) (e : Waiter) (es : List Waiter) → (e.process == p) ≡ false →
    less_entry p (e ∷ es) ≡ e ∷ less_entry p es
less_other p e es h = ap (λ b. cond (not b) (e ∷ less_entry p es) (less_entry p es)) h

-- two tests that both pass
pub both_pass : (a b : Bool) → a ≡ true → b ≡ true → (a && b) ≡ true
both_pass a b h k = ap (λ x. x && b) h ∙ k

-- numbers that aren't one
apart : (x y : ℕ) → (x == y) ≡ false → x ≢ y
apart x y h = λ e. differ x y h e
  where
    differ : (x y : ℕ) → (x == y) ≡ false → x ≡ y → ⊥
    differ x y h e = grind (arith, nat_tests)

-- what holds of each entry but p's holds of the order less p
all_less : (f g : ℕ → Bool) (p : ℕ) (es : List Waiter) → ((q : ℕ) → q ≢ p → g q ≡ f q) →
    list_all (λ (e : Waiter). f e.process) es ≡ true →
    list_all (λ (e : Waiter). g e.process) (less_entry p es) ≡ true
all_less f g p [] same h = refl
all_less f g p (e ∷ es) same h =
    let both = both_hold (f e.process) (list_all (λ (x : Waiter). f x.process) es) h in
    elim (cases_Bool (e.process == p)) [
      | inl own ↦ ap (list_all (λ (x : Waiter). g x.process)) (less_own p e es own) ∙ all_less f g p es same both.1
      | inr other ↦ ap (list_all (λ (x : Waiter). g x.process)) (less_other p e es other)
          ∙ both_pass (g e.process) (list_all (λ (x : Waiter). g x.process) (less_entry p es))
          (same e.process (apart e.process p other) ∙ both.0) (all_less f g p es same both.1)
    ]

-- of two orders end to end
all_both : (f : ℕ → Bool) (xs ys : List Waiter) → list_all (λ (e : Waiter). f e.process) xs ≡ true →
    list_all (λ (e : Waiter). f e.process) ys ≡ true →
    list_all (λ (e : Waiter). f e.process) (xs ++ ys) ≡ true
all_both f [] ys h k = k
all_both f (e ∷ xs) ys h k =
    let both = both_hold (f e.process) (list_all (λ (x : Waiter). f x.process) xs) h in
    both_pass (f e.process) (list_all (λ (x : Waiter). f x.process) (xs ++ ys)) both.0 (all_both f xs ys both.1 k)

-- of the entry that has just joined, if it has
all_new : (f : ℕ → Bool) (p : ℕ) (b : Bool) → (b ≡ true → f p ≡ true) →
    list_all (λ (e : Waiter). f e.process) (cond b (new_entry p ∷ []) []) ≡ true
all_new f p true h = both_pass (f p) true (h refl) refl
all_new f p false h = refl

-- who stands in two orders end to end
pub in_both : (q : ℕ) (xs ys : List Waiter) → in_order q (xs ++ ys) ≡ (in_order q xs || in_order q ys)
in_both q [] ys = refl
in_both q (e ∷ xs) ys = grind (arith, in_both q xs ys)

-- p doesn't stand in the order less p, and others stand there as before
pub in_less_own : (p : ℕ) (es : List Waiter) → in_order p (less_entry p es) ≡ false
in_less_own p [] = refl
in_less_own p (e ∷ es) = elim (cases_Bool (e.process == p)) [
  | inl own ↦ ap (in_order p) (less_own p e es own) ∙ in_less_own p es
  | inr other ↦ ap (in_order p) (less_other p e es other)
      ∙ ap (λ b. b || in_order p (less_entry p es)) other ∙ in_less_own p es
]

pub in_less_other : (p q : ℕ) (es : List Waiter) → q ≢ p → in_order q (less_entry p es) ≡ in_order q es
in_less_other p q [] ne = refl
in_less_other p q (e ∷ es) ne = elim (cases_Bool (e.process == p)) [
  | inl own ↦ ap (in_order q) (less_own p e es own) ∙ in_less_other p q es ne
      ∙ sym (ap (λ b. b || in_order q es) (not_it e.process p q own ne))
  | inr other ↦ ap (in_order q) (less_other p e es other) ∙ ap (λ b. e.process == q || b) (in_less_other p q es ne)
]
  where
    not_it : (x p q : ℕ) → (x == p) ≡ true → q ≢ p → (x == q) ≡ false
    not_it x p q h ne = grind (arith, nat_tests)

-- p alone
pub in_new_own : (p : ℕ) (b : Bool) → in_order p (cond b (new_entry p ∷ []) []) ≡ b
in_new_own p true = ap (λ b. b || false) (is_itself p)
  where
    is_itself : (p : ℕ) → (p == p) ≡ true
    is_itself p = grind (arith, nat_tests)
in_new_own p false = refl

pub in_new_other : (p q : ℕ) (b : Bool) → q ≢ p → in_order q (cond b (new_entry p ∷ []) []) ≡ false
in_new_other p q true ne = ap (λ b. b || false) (differs p q ne)
  where
    differs : (p q : ℕ) → q ≢ p → (p == q) ≡ false
    differs p q ne = grind (arith, nat_tests)
in_new_other p q false ne = refl

-- the order after a step of p
abbrev pub order_after : ℕ → Bool → List Waiter → List Waiter
order_after p b es = less_entry p es ++ cond b (new_entry p ∷ []) []

pub own_in_after : (p : ℕ) (b : Bool) (es : List Waiter) → in_order p (order_after p b es) ≡ b
own_in_after p b es =
    in_both p (less_entry p es) (cond b (new_entry p ∷ []) [])
    ∙ ap (λ x. x || in_order p (cond b (new_entry p ∷ []) [])) (in_less_own p es)
    ∙ in_new_own p b

pub other_in_after : (p q : ℕ) (b : Bool) (es : List Waiter) → q ≢ p → in_order q (order_after p b es) ≡ in_order q es
other_in_after p q b es ne =
    in_both q (less_entry p es) (cond b (new_entry p ∷ []) [])
    ∙ ap (λ x. in_order q (less_entry p es) || x) (in_new_other p q b ne)
    ∙ or_false (in_order q (less_entry p es)) ∙ in_less_other p q es ne
  where
    or_false : (b : Bool) → (b || false) ≡ b
    or_false true = refl
    or_false false = refl

-- ---- how many steps are left

-- how many pieces of a call are left
abbrev pub left_of : (m : Meaning) → World → Objects → ℕ → Option Call → ℕ
left_of m v s p None = 0
left_of m v s p (Some c) = m.left v s p c.stage

-- how many steps a process can still take from the order
abbrev weight : (m : Meaning) → World → Objects → (ℕ → Option Call) → List Waiter → ℕ → ℕ
weight m v s call order p = cond (in_order p order) (left_of m v s p (call p)) 0

-- how many all can take
abbrev steps_left : (m : Meaning) → World → Objects → (ℕ → Option Call) → List Waiter → ℕ
steps_left m v s call order = sum_below 16 (weight m v s call order)

module _ (m : Meaning) (laws : Laws m) where
  -- the call of another process
  pub left_of_same : (v : World) (s u : Objects) (q : ℕ) (x : Option Call) → SameFiles q s u →
      left_of m v u q x ≡ left_of m v s q x
  left_of_same v s u q None same = refl
  left_of_same v s u q (Some c) same = sym (laws.stages.left_same v s u q c.stage same)

  -- what stands where there is a call
  on_call : (v : World) (images : ImageTable) (p n : ℕ) (u : Objects) (x : Option Call) (d : Call) →
      OwnAfter m v images p n u x → x ≡ Some d → IsOn m v images p n u d
  on_call v images p n u x d own e = subst (OwnAfter m v images p n u) e own

  -- after a step of p, and its new place in the order, each call in flight stands
  stands_after : (p n : ℕ) (r u : Run) → GoesOn m r → HasStepped m p n r u →
      CanStep m r.kernel.world r.kernel.images u.kernel.objects u.blocks u.kernel.call
      (order_after p (is_at_piece (u.kernel.call p)) r.kernel.order)
  stands_after p n r u h k =
      let v = r.kernel.world in
      let mine = λ (q : ℕ) (d : Call) (same : q ≡ p) (e : u.kernel.call q ≡ Some d).
      on_call v r.kernel.images p n u.kernel.objects (u.kernel.call p) d k.own
      (ap u.kernel.call (sym same) ∙ e) in
      record {
        store = k.store;
        disk = k.disk;
        whole = k.whole;
        callers = λ q d e. elim (cases_eq q p) [
          | inl same ↦ ap (lives u.kernel.objects.things.queue) same ∙ (mine q d same e).caller
          | inr ne ↦ k.live q ne (h.callers q d (sym (k.calls q ne) ∙ e))
        ];
        granted = λ q d e. elim (cases_eq q p) [
          | inl same ↦ ap (λ i. is_ok (m.early v r.kernel.images i d.stage.call)) same ∙ (mine q d same e).granted
          | inr ne ↦ h.granted q d (sym (k.calls q ne) ∙ e)
        ];
        fit = λ q d e. elim (cases_eq q p) [
          | inl same ↦ ap (λ i. m.fits v u.kernel.objects i d.stage) same ∙ (mine q d same e).fits
          | inr ne ↦ sym (laws.stages.fits_same v r.kernel.objects u.kernel.objects q d.stage
              (k.files q ne)) ∙ h.fit q d (sym (k.calls q ne) ∙ e)
        ];
        entries =
            all_both (λ q. is_some (u.kernel.call q)) (less_entry p r.kernel.order)
            (cond (is_at_piece (u.kernel.call p)) (new_entry p ∷ []) [])
            (all_less (λ q. is_some (r.kernel.call q)) (λ q. is_some (u.kernel.call q)) p
            r.kernel.order (λ q ne. ap is_some (k.calls q ne)) h.entries)
            (all_new (λ q. is_some (u.kernel.call q)) p (is_at_piece (u.kernel.call p))
            (some_at_piece (u.kernel.call p)));
      }
    where
      some_at_piece : (x : Option Call) → is_at_piece x ≡ true → is_some x ≡ true
      some_at_piece None e = absurd cc
      some_at_piece (Some c) e = refl

  -- fewer steps of p are left
  own_falls : (v : World) (images : ImageTable) (p n : ℕ) (u : Objects) (x : Option Call) → 1 ≤ n →
      OwnAfter m v images p n u x →
      cond (is_at_piece x) (left_of m v u p x) 0 < n
  own_falls v images p n u None some own = omega arith
  own_falls v images p n u (Some d) some own = own_falls_by (is_at_piece (Some d)) refl
    where
      own_falls_by : (b : Bool) → is_at_piece (Some d) ≡ b → cond b (m.left v u p d.stage) 0 < n
      own_falls_by true e = own.fewer e
      own_falls_by false e = omega arith

  -- so fewer steps are left in all
  steps_fall : (p : ℕ) (c : Call) (r u : Run) → GoesOn m r → r.kernel.call p ≡ Some c →
      in_order p r.kernel.order ≡ true →
      HasStepped m p (m.left r.kernel.world r.kernel.objects p c.stage) r u →
      steps_left m r.kernel.world u.kernel.objects u.kernel.call
      (order_after p (is_at_piece (u.kernel.call p)) r.kernel.order)
      < steps_left m r.kernel.world r.kernel.objects r.kernel.call r.kernel.order
  steps_fall p c r u h e stands k =
      let v = r.kernel.world in
      let n = m.left v r.kernel.objects p c.stage in
      let b = is_at_piece (u.kernel.call p) in
      let after = weight m v u.kernel.objects u.kernel.call (order_after p b r.kernel.order) in
      let before = weight m v r.kernel.objects r.kernel.call r.kernel.order in
      let low = h.store.numbers p (h.callers p c e) in
      let standing : IsStanding m v r.kernel.images r.kernel.objects p c.stage =
      record { store = h.store; caller = h.callers p c e; granted = h.granted p c e; fits = h.fit p c e } in
      let some = (laws.stages.some_left v r.kernel.images r.kernel.objects p c.stage standing).0 in
      let was : before p ≡ n =
      ap (λ x. cond x (left_of m v r.kernel.objects p (r.kernel.call p)) 0) stands
      ∙ ap (left_of m v r.kernel.objects p) e in
      let is_now : after p ≡ cond b (left_of m v u.kernel.objects p (u.kernel.call p)) 0 =
      ap (λ x. cond x (left_of m v u.kernel.objects p (u.kernel.call p)) 0) (own_in_after p b r.kernel.order) in
      let falls = own_falls v r.kernel.images p n u.kernel.objects (u.kernel.call p) some k.own in
      let sums = sum_one 16 p after before low (λ q less ne.
      ap (λ x. cond x (left_of m v u.kernel.objects q (u.kernel.call q)) 0) (other_in_after p q b r.kernel.order ne)
      ∙ ap (λ x. cond (in_order q r.kernel.order) (left_of m v u.kernel.objects q x) 0) (k.calls q ne)
      ∙ ap (λ x. cond (in_order q r.kernel.order) x 0)
      (left_of_same v r.kernel.objects u.kernel.objects q (r.kernel.call q) (k.files q ne))) in
      smaller (sum_below 16 after) (sum_below 16 before) (after p) (before p) n
      (cond b (left_of m v u.kernel.objects p (u.kernel.call p)) 0) sums was is_now falls
    where
      smaller : (x y a b n d : ℕ) → x + b ≡ y + a → b ≡ n → a ≡ d → d < n → x < y
      smaller x y a b n d sums was is_now falls = omega arith

-- ---- rest

-- two blockers that pass as one are one
same_call_is : (a b : Option ℕ) → same_call a b ≡ true → a ≡ b
same_call_is None None h = refl
same_call_is (Some x) (Some y) h = ap Some (same_number x y h)
  where
    same_number : (x y : ℕ) → (x == y) ≡ true → x ≡ y
    same_number x y h = grind (arith, nat_tests)
same_call_is None (Some y) h = absurd cc
same_call_is (Some x) None h = absurd cc

same_blocker_is : (a b : Option Blocker) → same_blocker a b ≡ true → a ≡ b
same_blocker_is None None h = refl
same_blocker_is (Some a) (Some b) h =
    let first = both_hold (same_object a.object b.object && a.holder == b.holder) (same_call a.call b.call) h in
    let both = both_hold (same_object a.object b.object) (a.holder == b.holder) first.0 in
    ap (λ o. Some (record a { object = o })) (same_object_is a.object b.object both.0)
    ∙ ap (λ q. Some (record b { holder = q; call = a.call })) (same_number a.holder b.holder both.1)
    ∙ ap (λ c. Some (record b { call = c })) (same_call_is a.call b.call first.1)
  where
    same_number : (x y : ℕ) → (x == y) ≡ true → x ≡ y
    same_number x y h = grind (arith, nat_tests)
same_blocker_is None (Some b) h = absurd cc
same_blocker_is (Some a) None h = absurd cc

module _ (m : Meaning) where
  -- an entry that is blocked by what it keeps as its blocker
  abbrev IsBlocked : Kernel → LockTable → Waiter → Type 0
  IsBlocked k locks e = (is_some e.blocker ≡ true) × (blocker_in m k locks e.process ≡ e.blocker)

  -- an entry with its blocker
  entry_blocked : (k : Kernel) (locks : LockTable) (e : Waiter) (b : Option Blocker) (same : Bool) →
      same_blocker e.blocker b ≡ same →
      blocker_in m k locks e.process ≡ b → is_some b ≡ true →
      IsBlocked k locks (elim same as (λ _. Waiter) [
        | true ↦ e
        | false ↦ record { process = e.process; blocker = b; count = 0 }
      ])
  entry_blocked k locks e b true is found some =
      let same = same_blocker_is e.blocker b is in (ap is_some same ∙ some, found ∙ sym same)
  entry_blocked k locks e b false is found some = (some, found)

  -- where nothing is free each entry is blocked
  each_blocked : (k : Kernel) (locks : LockTable) (es : List Waiter) →
      first_free_in m k locks es ≡ None → AllByRecursion (IsBlocked k locks) (order_in m k locks es)
  each_blocked k locks [] h = tt
  each_blocked k locks (e ∷ es) h = each_by (blocker_in m k locks e.process) refl (each_blocked k locks es) h
    where
      each_by : (b : Option Blocker) → blocker_in m k locks e.process ≡ b →
          (first_free_in m k locks es ≡ None → AllByRecursion (IsBlocked k locks) (order_in m k locks es)) →
          elim b as (λ _. Option ℕ) [ None ↦ Some e.process | Some x ↦ first_free_in m k locks es ]
          ≡ None → AllByRecursion (IsBlocked k locks) (order_in m k locks (e ∷ es))
      each_by None found rest none = absurd cc
      each_by (Some b) found rest none = (
        subst (λ x. IsBlocked k locks (entry_with e x)) (sym found) (entry_blocked k locks e
            (Some b) (same_blocker e.blocker (Some b)) refl found refl),
        rest none,
      )

  -- a run in which nothing is free comes to rest
  comes_to_rest : (r : Run) (es : List Waiter) → r.kernel.order ≡ es →
      first_free m r.kernel es ≡ None → IsAtRest m (rested m r).kernel
  comes_to_rest r [] order none =
      subst (λ (es : List Waiter). (e : Waiter) → Contains (rested_order m r.kernel es) e →
      (is_some e.blocker ≡ true) × (blocker m r.kernel e.process ≡ e.blocker)) (sym order)
      (λ e c. absurd (none_below c.0 c.1))
    where
      none_below : (k : ℕ) → k < 0 → ⊥
      none_below k h = omega arith
  comes_to_rest r (x ∷ es) order none =
      subst (λ (es : List Waiter). (e : Waiter) → Contains (rested_order m r.kernel es) e →
      (is_some e.blocker ≡ true) × (blocker m r.kernel e.process ≡ e.blocker)) (sym order)
      (λ e c. All-contains (IsBlocked r.kernel (holds m r.kernel)) (order_in m r.kernel (holds m r.kernel) (x ∷ es)) e
      (All-from_recursion (IsBlocked r.kernel (holds m r.kernel)) (order_in m r.kernel
      (holds m r.kernel) (x ∷ es)) (each_blocked r.kernel (holds m r.kernel) (x ∷ es) none)) c)

  -- the first that is free stands in the order
  free_stands : (k : Kernel) (locks : LockTable) (es : List Waiter) (p : ℕ) →
      first_free_in m k locks es ≡ Some p → in_order p es ≡ true
  free_stands k locks [] p h = absurd cc
  free_stands k locks (e ∷ es) p h = free_by (blocker_in m k locks e.process) (free_stands k locks es p) h
    where
      free_by : (b : Option Blocker) → (first_free_in m k locks es ≡ Some p → in_order p es ≡ true) →
          elim b as (λ _. Option ℕ) [
            | None ↦ Some e.process
            | Some x ↦ first_free_in m k locks es
          ] ≡ Some p → in_order p (e ∷ es) ≡ true
      free_by None rest found = ap (λ b. b || in_order p es) (same_some e.process p found)
        where
          same_some : (x y : ℕ) → Some x ≡ Some y → (x == y) ≡ true
          same_some x y h = grind (arith, nat_tests)
      free_by (Some b) rest found = ap (λ x. e.process == p || x) (rest found) ∙ or_true (e.process == p)
        where
          or_true : (b : Bool) → (b || true) ≡ true
          or_true true = refl
          or_true false = refl

  pub first_stands : (k : Kernel) (es : List Waiter) (p : ℕ) → first_free m k es ≡ Some p → in_order p es ≡ true
  first_stands k [] p h = absurd cc
  first_stands k (e ∷ es) p h = free_stands k (holds m k) (e ∷ es) p h

  -- who stands in the order has a call
  has_call : (call : ℕ → Option Call) (es : List Waiter) (p : ℕ) →
      list_all (λ (e : Waiter). is_some (call e.process)) es ≡ true → in_order p es ≡ true →
      is_some (call p) ≡ true
  has_call call [] p h stands = absurd cc
  has_call call (e ∷ es) p h stands =
      let both = both_hold (is_some (call e.process)) (list_all (λ (x : Waiter). is_some (call x.process)) es) h in
      elim (cases_Bool (e.process == p)) [
        | inl own ↦ ap (λ i. is_some (call i)) (sym (same_number e.process p own)) ∙ both.0
        | inr other ↦ has_call call es p both.1 (sym (ap (λ b. b || in_order p es) other) ∙ stands)
      ]
    where
      same_number : (x y : ℕ) → (x == y) ≡ true → x ≡ y
      same_number x y h = grind (arith, nat_tests)

  module _ (laws : Laws m) where
    -- one step of the first that is free
    abbrev LeavesFewer : Run → Run → Type 0
    LeavesFewer r u =
        GoesOn m u × (steps_left m u.kernel.world u.kernel.objects u.kernel.call u.kernel.order
        < steps_left m r.kernel.world r.kernel.objects r.kernel.call r.kernel.order)

    fewer_after : (p : ℕ) (c : Call) (r : Run) → GoesOn m r → r.kernel.call p ≡ Some c →
        in_order p r.kernel.order ≡ true → LeavesFewer r (step m p r)
    fewer_after p c r h e stands =
        let u = call_step m p (r.kernel.call p) r in
        let k = call_has_stepped m laws p c r h e in
        let b = is_at_piece (u.kernel.call p) in
        let go = stands_after m laws p (m.left r.kernel.world r.kernel.objects p c.stage) r u h k in
        let fall = steps_fall m laws p c r u h e stands k in (
          subst (λ v. CanStep m v u.kernel.images u.kernel.objects u.blocks u.kernel.call
              (order_after p b u.kernel.order)) (sym k.world)
              (subst (λ i. CanStep m r.kernel.world i u.kernel.objects u.blocks u.kernel.call
              (order_after p b u.kernel.order)) (sym k.images)
              (subst (λ (es : List Waiter). CanStep m r.kernel.world r.kernel.images u.kernel.objects
              u.blocks u.kernel.call (order_after p b es)) (sym k.order) go)),
          subst (λ v. steps_left m v u.kernel.objects u.kernel.call (order_after p b u.kernel.order)
              < steps_left m r.kernel.world r.kernel.objects r.kernel.call r.kernel.order)
              (sym k.world)
              (subst (λ (es : List Waiter). steps_left m r.kernel.world u.kernel.objects
              u.kernel.call (order_after p b es) < steps_left m r.kernel.world r.kernel.objects
              r.kernel.call r.kernel.order) (sym k.order) fall),
        )

    fewer_by : (p : ℕ) (x : Option Call) (r : Run) → GoesOn m r → r.kernel.call p ≡ x →
        is_some x ≡ true → in_order p r.kernel.order ≡ true → LeavesFewer r (step m p r)
    fewer_by p None r h e some stands = absurd cc
    fewer_by p (Some c) r h e some stands = fewer_after p c r h e stands

    fewer : (p : ℕ) (r : Run) → GoesOn m r → first_free m r.kernel r.kernel.order ≡ Some p → LeavesFewer r (step m p r)
    fewer p r h free =
        let stands = first_stands r.kernel r.kernel.order p free in
        fewer_by p (r.kernel.call p) r h refl (has_call r.kernel.call r.kernel.order p h.entries stands) stands

    -- with as many steps as are left a run comes to rest
    settles : (n : ℕ) (r : Run) → GoesOn m r →
        steps_left m r.kernel.world r.kernel.objects r.kernel.call r.kernel.order ≤ n →
        IsAtRest m (settle m n r).kernel
    settles zero r h le = settles_at (first_free m r.kernel r.kernel.order) refl
      where
        settles_at : (x : Option ℕ) → first_free m r.kernel r.kernel.order ≡ x → IsAtRest m (rested m r).kernel
        settles_at None free = comes_to_rest r r.kernel.order refl free
        settles_at (Some p) free =
            absurd (no_fewer (steps_left m (step m p r).kernel.world (step m p r).kernel.objects
            (step m p r).kernel.call (step m p r).kernel.order) (steps_left m r.kernel.world
            r.kernel.objects r.kernel.call r.kernel.order) (fewer p r h free).1 le)
          where
            no_fewer : (x y : ℕ) → x < y → y ≤ 0 → ⊥
            no_fewer x y less le = omega arith
    settles (suc n) r h le = settles_by (first_free m r.kernel r.kernel.order) refl (λ u go less. settles n u go less)
      where
        settles_by : (x : Option ℕ) → first_free m r.kernel r.kernel.order ≡ x →
            ((u : Run) → GoesOn m u → steps_left m u.kernel.world u.kernel.objects u.kernel.call
            u.kernel.order ≤ n → IsAtRest m (settle m n u).kernel) →
            IsAtRest m (elim x as (λ _. Run) [ None ↦ rested m r | Some p ↦ settle m n (step m p r) ]).kernel
        settles_by None free again = comes_to_rest r r.kernel.order refl free
        settles_by (Some p) free again =
            let k = fewer p r h free in
            again (step m p r) k.0 (at_most (steps_left m (step m p r).kernel.world (step m p
            r).kernel.objects (step m p r).kernel.call (step m p r).kernel.order) (steps_left m
            r.kernel.world r.kernel.objects r.kernel.call r.kernel.order) n k.1 le)
          where
            at_most : (x y n : ℕ) → x < y → y ≤ suc n → x ≤ n
            at_most x y n less le = omega arith

-- ---- from a sound kernel

-- a sum of small numbers
pub sum_most : (n : ℕ) (f : ℕ → ℕ) → ((i : ℕ) → f i ≤ 15) → sum_below n f ≤ 15 * n
unfolding sum_below
sum_most zero f h = omega arith
sum_most (suc n) f h = let k = sum_most n f h in let e = h n in omega arith

-- what holds of each entry passes for all
all_from : (f : Waiter → Bool) (es : List Waiter) → ((e : Waiter) → Contains es e → f e ≡ true) →
    list_all f es ≡ true
all_from f [] h = refl
all_from f (e ∷ es) h =
    both_pass (f e) (list_all f es) (h e (0, below_suc (length es), refl))
    (all_from f es (λ x c. h x (Contains-append_right (e ∷ []) es x c)))
  where
    below_suc : (n : ℕ) → 0 < suc n
    below_suc n = omega arith

module _ (m : Meaning) (laws : Laws m) where
  -- at most 15 steps of each process are left
  few_of : (v : World) (images : ImageTable) (s : Objects) (p : ℕ) (x : Option Call) →
      ((c : Call) → x ≡ Some c → IsStanding m v images s p c.stage) → left_of m v s p x ≤ 15
  few_of v images s p None h = omega arith
  few_of v images s p (Some c) h = (laws.stages.some_left v images s p c.stage (h c refl)).1

  few_steps : (r : Run) → GoesOn m r → steps_left m r.kernel.world r.kernel.objects r.kernel.call r.kernel.order ≤ 240
  few_steps r h =
      let v = r.kernel.world in
      let s = r.kernel.objects in
      sum_most 16 (weight m v s r.kernel.call r.kernel.order)
      (λ p. few_by (in_order p r.kernel.order) (left_of m v s p (r.kernel.call p))
      (few_of v r.kernel.images s p (r.kernel.call p) (λ c e. record {
        store = h.store;
        caller = h.callers p c e;
        granted = h.granted p c e;
        fits = h.fit p c e;
      })))
    where
      few_by : (b : Bool) (n : ℕ) → n ≤ 15 → cond b n 0 ≤ 15
      few_by true n h = h
      few_by false n h = omega arith

  -- who stands in the order of a sound kernel has a call
  entry_calls : (k : Kernel) → IsSoundKernel m k → (e : Waiter) → Contains k.order e →
      is_some (k.call e.process) ≡ true
  entry_calls k h e c = elim (cases_Bool (is_at_piece (k.call e.process))) [
    | inl piece ↦ some_piece (k.call e.process) piece
    | inr away ↦ some_level (k.call e.process) (h.others e c away).1
  ]
    where
      some_piece : (x : Option Call) → is_at_piece x ≡ true → is_some x ≡ true
      some_piece None e = absurd cc
      some_piece (Some d) e = refl

      some_level : (x : Option Call) → 1 ≤ length (levels_in (config_in (trace_of m k e.process x))) → is_some x ≡ true
      some_level None some = absurd (none_some some)
        where
          none_some : 1 ≤ 0 → ⊥
          none_some h = omega arith
      some_level (Some d) some = refl

  -- a sound kernel over whole blocks can take its steps
  sound_goes_on : (r : Run) → IsSoundKernel m r.kernel → HasWholeBlocks r.kernel.world r.blocks → GoesOn m r
  sound_goes_on r h whole =
      record {
        store = h.state.store;
        disk = h.state.disk;
        whole = whole;
        callers = h.callers;
        granted = h.granted;
        fit = h.fit;
        entries = all_from (λ (e : Waiter). is_some (r.kernel.call e.process)) r.kernel.order (entry_calls r.kernel h);
      }

-- from a sound kernel 256 steps are enough to rest
pub settles_to_rest : (m : Meaning) → Laws m → SettlesToRest m
settles_to_rest m laws r h whole =
    let go = sound_goes_on m laws r h whole in
    settles m laws 256 r go (at_most (steps_left m r.kernel.world r.kernel.objects r.kernel.call
    r.kernel.order) (few_steps m laws r go))
  where
    at_most : (n : ℕ) → n ≤ 240 → n ≤ 256
    at_most n le = omega arith
