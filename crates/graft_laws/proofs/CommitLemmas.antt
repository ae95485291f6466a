-- What the end of a piece commits, and what it leaves to the other calls.
use Rattle.std.specs.Prelude.{◌≡◌, ◌≢◌, ℕ, zero, suc, ◌<◌, ◌≤◌, ◌&&◌, nat_lt, Bool, true, false}
use Rattle.std.specs.Prelude.{List, [], ◌∷◌, ◌++◌, length, slice_index, Option, Some, None, ⊤}
use Rattle.std.proofs.Common.{arith, refl, subst, sym, ap, ◌∙◌, inl, inr}
use Rattle.std.proofs.lemmas.Bool.{cases_Bool, and_parts}
use Rattle.std.proofs.lemmas.Bool.Decides.{nat_tests}
use Rattle.kernel_model.specs.declared.Micro.{Micro}
use Rattle.kernel_model.specs.declared.Note.{Note}
use Rattle.kernel_model.specs.declared.Note.TheVariants.{Dropped}
use Rattle.kernel_model.specs.declared.Object.{Object}
use Rattle.kernel_model.specs.declared.Object.TheVariants.{Graft, Acct, Cell, OpenFile, Queue, Cache, Lock, Pol}
use Rattle.kernel_model.specs.declared.Point.{Point}
use Rattle.kernel_model.specs.World.{World, ImageTable, Blocks}
use Rattle.kernel_model.specs.Objects.{Objects, GraftValue, SameAt}
use Rattle.kernel_model.specs.Policies.{lives, valid}
use Rattle.kernel_model.specs.Meaning.{Meaning, Stage, Answer}
use Rattle.kernel_model.specs.Levels.{Outcome, answer_of}
use Rattle.kernel_model.specs.History.{Mark, Stepped, Trace, fallen}
use Rattle.kernel_model.specs.Kernel.{Call, Run, call_after, noted, with_marks}
use Rattle.kernel_model.specs.Settle.{lost_objects, finish_on, after_outcome}
use Rattle.kernel_model.specs.Sound.{IsSoundStore, FitsDisk, HasWholeBlocks}
use Rattle.kernel_model.specs.Alike.{AreAlike, SameFiles, windowless, is_needed_exclusively}
use Rattle.kernel_model.specs.Laws.{Laws, IsReady, IsStanding, IsInRange, SameKindOfPoint, before_point}
use Rattle.call_laws.specs.Ledgers.{at_other}
use Rattle.kernel_laws.specs.Soundness.{IsGraftsWork}
use Rattle.kernel_laws.proofs.BodyLemmas.{answer_whole, answer_right}
use Rattle.kernel_laws.proofs.StepLemmas.{niceless_lives, alike_disk, right_answer, others_files}
use Rattle.graft_laws.specs.Histories.{HasRange}
use Rattle.graft_laws.proofs.EffectLemmas.{same_back}
use Rattle.kernel_laws.proofs.SettleLemmas.{alike_self}
use Rattle.kernel_laws.proofs.FrameLemmas.{same_then}
use Rattle.call_laws.specs.FileChanges.{same_self}

-- what a step or a drop of p's call leaves, which may change all but what is free
pub record Commits (p : ℕ) (free : Object → Type 0) (r u : Run) : Type 0 where
  pub world : u.kernel.world ≡ r.kernel.world
  pub images : u.kernel.images ≡ r.kernel.images
  pub calls : (q : ℕ) → q ≢ p → u.kernel.call q ≡ r.kernel.call q
  pub store : IsSoundStore r.kernel.world u.kernel.objects
  pub disk : FitsDisk r.kernel.world u.kernel.objects.things.cache
  pub whole : HasWholeBlocks r.kernel.world u.blocks
  pub live : (q : ℕ) → q ≢ p → lives r.kernel.objects.things.queue q ≡ true →
      lives u.kernel.objects.things.queue q ≡ true
  pub files : (q : ℕ) → q ≢ p → SameFiles q r.kernel.objects u.kernel.objects
  pub changes : (o : Object) → HasRange o → free o → SameAt o r.kernel.objects u.kernel.objects

-- a run whose call of p stands, on a sound state and whole blocks
pub record Stands (m : Meaning) (p : ℕ) (c : Call) (r : Run) : Type 0 where
  pub standing : IsStanding m r.kernel.world r.kernel.images r.kernel.objects p c.stage
  pub disk : FitsDisk r.kernel.world r.kernel.objects.things.cache
  pub whole : HasWholeBlocks r.kernel.world r.blocks

-- ---- objects out of their ranges

-- no graft stands there
graft_out : (v : World) (s : Objects) (q pt : ℕ) (g : Option GraftValue) → IsSoundStore v s →
    s.accounts.graft q pt ≡ g → (nat_lt q 16 && nat_lt pt 16) ≡ false → g ≡ None
graft_out v s q pt None h e out = refl
graft_out v s q pt (Some g) h e out =
    let here = h.grafts q pt g e in absurd (inside q pt (h.numbers q here.1) here.0 out)
  where
    inside : (q pt : ℕ) → q < 16 → pt < 16 → (nat_lt q 16 && nat_lt pt 16) ≡ false → ⊥
    inside q pt a b e = grind (arith, nat_tests)

-- sound states that agree on the objects in range agree on those that levels may hold
pub in_range_enough : (v : World) (s u : Objects) (o : Object) → IsSoundStore v s →
    IsSoundStore v u → (IsInRange o → SameAt o s u) → HasRange o → SameAt o s u
in_range_enough v s u (Graft q pt) first second h range = elim (cases_Bool (nat_lt q 16 && nat_lt pt 16)) [
  | inl within ↦ let b = and_parts (nat_lt q 16) (nat_lt pt 16) within in h (below q b.0, below pt b.1)
  | inr out ↦ (
    graft_out v s q pt (s.accounts.graft q pt) first refl out
        ∙ sym (graft_out v u q pt (u.accounts.graft q pt) second refl out),
    first.segments q pt out
        ∙ sym (second.segments q pt out),
  )
]
  where
    below : (x : ℕ) → nat_lt x 16 ≡ true → x < 16
    below x e = grind (arith, nat_tests)
in_range_enough v s u (Acct q) first second h range = h range
in_range_enough v s u (Cell q k) first second h range = h range
in_range_enough v s u (OpenFile q fd) first second h range = h range
in_range_enough v s u Queue first second h range = h range
in_range_enough v s u Cache first second h range = h range
in_range_enough v s u (Lock l) first second h range = h range
in_range_enough v s u (Pol k) first second h range = h range

module _ (m : Meaning) (laws : Laws m) where
  -- ---- the ends of a step

  -- the history alone changes
  pub marks_commit : (p : ℕ) (c : Call) (ks : List Mark) (free : Object → Type 0) (r : Run) →
      Stands m p c r → Commits p free r (with_marks p c ks r)
  marks_commit p c ks free r h =
      let d : Call = record c { marks = Some ks } in
      record {
        world = refl;
        images = refl;
        calls = λ q ne. at_other p q (Some d) r.kernel.call ne;
        store = h.standing.store;
        disk = h.disk;
        whole = h.whole;
        live = λ q ne alive. alive;
        files = λ q ne fd. refl;
        changes = λ o range e. same_self o r.kernel.objects;
      }

  -- nothing changes
  pub nothing_commits : (p : ℕ) (c : Call) (free : Object → Type 0) (r : Run) → Stands m p c r → Commits p free r r
  nothing_commits p c free r h =
      record {
        world = refl;
        images = refl;
        calls = λ q ne. refl;
        store = h.standing.store;
        disk = h.disk;
        whole = h.whole;
        live = λ q ne alive. alive;
        files = λ q ne fd. refl;
        changes = λ o range e. same_self o r.kernel.objects;
      }

  -- a note that was written before
  pub noted_commits : (p : ℕ) (x : Note) (free : Object → Type 0) (r u : Run) →
      Commits p free (noted x r) u → Commits p free r u
  noted_commits p x free r u h =
      record {
        world = h.world;
        images = h.images;
        calls = h.calls;
        store = h.store;
        disk = h.disk;
        whole = h.whole;
        live = h.live;
        files = h.files;
        changes = h.changes;
      }

  -- a piece is done on a state that is alike to the committed one
  pub finish_commits : (p : ℕ) (c : Call) (w : Objects) (answer : Option Answer) (free : Object →
      Type 0) (r : Run) → Stands m p c r →
      IsReady m r.kernel.world r.kernel.images w p c.stage answer → AreAlike r.kernel.objects w →
      ((o : Object) → free o → SameAt o r.kernel.objects w) →
      ((o : Object) → IsInRange o → free o → SameAt o
      (m.piece r.kernel.world r.kernel.images w r.blocks p c.stage answer r.io).objects w) →
      Commits p free r (finish_on m p c w answer r)
  finish_commits p c w answer free r h ready alike before after =
      let v = r.kernel.world in
      let s = r.kernel.objects in
      let q = m.piece v r.kernel.images w r.blocks p c.stage answer r.io in
      let store = laws.piece.store v r.kernel.images w r.blocks p c.stage answer r.io ready h.whole in
      record {
        world = refl;
        images = refl;
        calls = λ i ne. at_other p i (call_after c q.after) r.kernel.call ne;
        store = store;
        disk = laws.piece.disk v r.kernel.images w r.blocks p c.stage answer r.io ready;
        whole = laws.piece.whole_blocks v r.kernel.images w r.blocks p c.stage answer r.io ready h.whole;
        live = λ i ne alive. laws.piece.others_live v r.kernel.images w r.blocks p i c.stage answer r.io ready ne
            (sym (niceless_lives s.things.queue w.things.queue i alike.queue) ∙ alive);
        files =
            λ i ne fd. alike.files i fd ∙ ap windowless (others_files m laws v r.kernel.images w
            r.blocks p i c.stage answer r.io ready h.whole ne fd);
        changes = λ o range e. in_range_enough v s q.objects o h.standing.store store
            (λ within. same_then o s w q.objects (before o e) (same_back o q.objects w (after o within e))) range;
      }

  -- a call stands on a state that is alike to the committed one
  pub stands_on : (v : World) (images : ImageTable) (s w : Objects) (p : ℕ) (t : Stage) →
      IsStanding m v images s p t → IsSoundStore v w → AreAlike s w → IsStanding m v images w p t
  stands_on v images s w p t h sound alike =
      record {
        store = sound;
        caller = sym (niceless_lives s.things.queue w.things.queue p alike.queue) ∙ h.caller;
        granted = h.granted;
        fits = sym (laws.stages.fits_same v s w p t (alike.files p)) ∙ h.fits;
      }

  -- the default finishes a piece at which no history begins
  pub default_commits : (p : ℕ) (c : Call) (r : Run) → Stands m p c r →
      Commits p (λ o. is_needed_exclusively o (m.need r.kernel.world r.kernel.objects p c.stage)
      ≡ false) r (finish_on m p c r.kernel.objects None r)
  default_commits p c r h =
      let s = r.kernel.objects in
      let ready : IsReady m r.kernel.world r.kernel.images s p c.stage None =
      record { standing = h.standing; disk = h.disk; right = tt; body = tt } in
      finish_commits p c s None
      (λ o. is_needed_exclusively o (m.need r.kernel.world s p c.stage) ≡ false) r h ready
      (alike_self s) (λ o e. same_self o s)
      (λ o within e. laws.footprint.changes r.kernel.world r.kernel.images s r.blocks p c.stage None
      r.io o ready within e)

  -- ---- a graft call ends

  -- what a piece that asks changes, on a state that is alike
  asked_changes : (v : World) (images : ImageTable) (s w : Objects) (blocks : Blocks) (p : ℕ) (t :
      Stage) (answer : Option Answer) (io : List Bool) (a : Point) (x : Option Point) (o : Object) →
      IsReady m v images w p t answer → m.fits v s p t ≡ true → AreAlike s w →
      m.asks v s p t ≡ Some a → m.asks v w p t ≡ x → SameKindOfPoint (Some a) x → IsInRange o →
      is_needed_exclusively o (before_point s a (m.need v s p t)) ≡ false →
      SameAt o (m.piece v images w blocks p t answer io).objects w
  asked_changes v images s w blocks p t answer io a None o ready fits alike asks e kind range free = absurd kind
  asked_changes v images s w blocks p t answer io a (Some b) o ready fits alike asks e kind range free =
      laws.footprint.asking_changes v images w blocks p t answer io b o ready range e
      (subst (λ ns. is_needed_exclusively o ns ≡ false) (laws.ask.alike_before v s w p t a b fits alike asks e) free)

  -- what the end of a graft call's level 0 comes to: an answer, or a drop
  abbrev pub EndsWell : (v : World) (s : Objects) (a : Point) (free : Object → Type 0) → Outcome → Micro → Type 0
  EndsWell v s a free o (Micro.Completed answer) =
      IsGraftsWork v s o.config.now.accounts o.config.now.things × (valid o.config.now.things
      a.installer a.point a.args (slice_index answer 0) (slice_index answer 1) ≡ true)
      × ((b : Object) → free b → SameAt b s o.config.now)
  EndsWell v s a free o (Micro.Dropped d q pt cause) =
      elim d [
        | zero ↦ IsGraftsWork v s o.config.now.accounts s.things
            × ((b : Object) → free b → SameAt b s (lost_objects o.config.now s))
        | suc n ↦ ⊤
      ]
  EndsWell v s a free o said = ⊤

  pub outcome_commits : (p : ℕ) (c : Call) (t : Trace) (ks : List Mark) (a : Point) (o : Outcome)
      (said : Micro) (free : Object → Type 0) (r : Run) → Stands m p c r →
      m.asks r.kernel.world r.kernel.objects p c.stage ≡ Some a →
      ((b : Object) → free b → is_needed_exclusively b (before_point r.kernel.objects a
      (m.need r.kernel.world r.kernel.objects p c.stage)) ≡ false) →
      1 ≤ length t.config.levels → EndsWell r.kernel.world r.kernel.objects a free o said →
      Commits p free r (after_outcome m p c t ks o said r)
  outcome_commits p c t ks a o Micro.Went free r h asks base some ends = marks_commit p c (ks ++ Stepped ∷ []) free r h
  outcome_commits p c t ks a o (Micro.Blocked object holder by_user) free r h asks base some ends =
      nothing_commits p c free r h
  outcome_commits p c t ks a o (Micro.Completed answer) free r h asks base some ends =
      let v = r.kernel.world in
      let s = r.kernel.objects in
      let w = o.config.now in
      let ready : IsReady m v r.kernel.images w p c.stage (Some (answer_of answer t.config.levels)) =
      record {
        standing = stands_on v r.kernel.images s w p c.stage h.standing ends.0.store ends.0.alike;
        disk = alike_disk v s w ends.0.alike h.disk;
        right =
            answer_right w (m.asks v w p c.stage) answer t.config.levels
            (right_answer m laws v s w p c.stage a answer h.standing.fits ends.0.alike asks ends.1);
        body = answer_whole answer t.config.levels some;
      } in
      finish_commits p c w (Some (answer_of answer t.config.levels)) free r h ready ends.0.alike ends.2
      (λ b within e. asked_changes v r.kernel.images s w r.blocks p c.stage
      (Some (answer_of answer t.config.levels)) r.io a (m.asks v w p c.stage) b ready
      h.standing.fits ends.0.alike asks refl
      (subst (λ x. SameKindOfPoint x (m.asks v w p c.stage)) asks
      (laws.ask.alike v s w p c.stage h.standing.fits ends.0.alike)) within (base b e))
  outcome_commits p c t ks a o (Micro.Dropped zero q pt cause) free r h asks base some ends =
      let v = r.kernel.world in
      let s = r.kernel.objects in
      let w = lost_objects o.config.now s in
      let said = Dropped c.number q pt cause in
      let ready : IsReady m v r.kernel.images w p c.stage None =
      record {
        standing = stands_on v r.kernel.images s w p c.stage h.standing ends.0.store ends.0.alike;
        disk = h.disk;
        right = tt;
        body = tt;
      } in
      noted_commits p said free r (finish_on m p c w None (noted said r))
      (finish_commits p c w None free (noted said r) (record {
        standing = h.standing;
        disk = h.disk;
        whole = h.whole;
      }) ready ends.0.alike ends.1
      (λ b within e. asked_changes v r.kernel.images s w r.blocks p c.stage None r.io a
      (m.asks v w p c.stage) b ready h.standing.fits ends.0.alike asks refl
      (subst (λ x. SameKindOfPoint x (m.asks v w p c.stage)) asks
      (laws.ask.alike v s w p c.stage h.standing.fits ends.0.alike)) within (base b e)))
  outcome_commits p c t ks a o (Micro.Dropped (suc d) q pt cause) free r h asks base some ends =
      let said = Dropped c.number q pt cause in
      let marks = fallen t ks o.effects (suc d) in
      noted_commits p said free r (with_marks p c marks (noted said r))
      (marks_commit p c marks free (noted said r) (record { standing = h.standing; disk = h.disk; whole = h.whole }))
