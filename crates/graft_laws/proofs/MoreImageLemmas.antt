-- A sound kernel stays sound, and its calls in grafts where they are, once more images are loaded.
use Rattle.std.specs.Prelude.{◌≡◌, ℕ, ◌≤◌, cond, true, List, [], ◌∷◌, length, map, Option, Some}
use Rattle.std.specs.Prelude.{None, Ok, Err, Result, is_some}
use Rattle.std.specs.Result.{is_ok}
use Rattle.std.proofs.Common.{refl, subst, sym, ap, ◌∙◌}
use Rattle.kernel_model.specs.declared.Object.{Object}
use Rattle.kernel_model.specs.declared.Point.{Point}
use Rattle.kernel_model.specs.declared.Need.{Need}
use Rattle.kernel_model.specs.declared.Refusal.{Refusal}
use Rattle.kernel_model.specs.declared.SysCall.{SysCall}
use Rattle.kernel_model.specs.World.{World, Image, ImageTable, processes}
use Rattle.kernel_model.specs.Objects.{Objects, Accounts, GraftValue}
use Rattle.kernel_model.specs.Machine.{first_machine, fed, next_call}
use Rattle.kernel_model.specs.Meaning.{Meaning, Stage}
use Rattle.kernel_model.specs.Locks.{touch_all, untouched}
use Rattle.kernel_model.specs.Levels.{Level, Config, image_of, code_in, keeps_in, segment_with, base_of}
use Rattle.kernel_model.specs.GraftStep.{is_spent, instruction_needs, next_needs}
use Rattle.kernel_model.specs.History.{Mark, Stepped, Fell, Trace, begin_with, first_trace}
use Rattle.kernel_model.specs.History.{stepped, fell_on, mark_on, marks_on, replay}
use Rattle.kernel_model.specs.Kernel.{Call, Kernel, Run}
use Rattle.kernel_model.specs.Blocking.{config_in, config_of, levels_in, levels_of, trace_of}
use Rattle.kernel_model.specs.Blocking.{locks_from, holds, needs_at, needs_in, needs}
use Rattle.kernel_model.specs.Sound.{ImagesAreLoaded, IsSoundKernel, clash}
use Rattle.kernel_model.specs.Alike.{Extends}
use Rattle.kernel_model.specs.Laws.{Laws, IsStanding, NeedsGraftsExclusively}
use Rattle.kernel_laws.proofs.ImageLemmas.{more_images}
use Rattle.graft_laws.specs.Histories.{IsReplayed}
use Rattle.graft_laws.specs.Kernels.{IsSoundRun, ImagesStaySound}
use Rattle.graft_laws.proofs.StandLemmas.{AllStand}
use Rattle.graft_laws.proofs.MarkLemmas.{marks_split, replay_split}
use Rattle.graft_laws.proofs.HistoryReplayLemmas.{mark_replays, marks_stood}
use Rattle.graft_laws.proofs.BeginningLemmas.{all_stand, beginnings_stand}
use Rattle.graft_laws.proofs.GraftOriginLemmas.{images_from, mark_come, marks_come}
use Rattle.graft_laws.proofs.StepCommitLemmas.{stands_in, trace_is, config_is}
use Rattle.graft_laws.proofs.StabilityLemmas.{has_graft}

-- where a call begins the state is the committed one
begin_now : (images : ImageTable) (s : Objects) (p : ℕ) (ns : List Need) (feed : List ℕ)
    (x : Option Point) (c : Config) → begin_with images s p ns feed x ≡ Some c → s ≡ c.now
begin_now images s p ns feed None c e = absurd cc
begin_now images s p ns feed (Some a) c e = cc

-- ---- histories

module _ (v : World) (images more : ImageTable) (extends : Extends images more) where
  -- an image that is loaded
  loaded_same : (slot : ℕ) (x : Option Image) → images slot ≡ x → is_some x ≡ true → more slot ≡ images slot
  loaded_same slot None e some = absurd cc
  loaded_same slot (Some i) e some = extends slot i e ∙ sym e

  -- the image of a graft that stands, or of none
  image_same : (a : Accounts) (q pt : ℕ) → ImagesAreLoaded images a →
      image_of more (a.graft q pt) ≡ image_of images (a.graft q pt)
  image_same a q pt loaded = by_graft (a.graft q pt) refl
    where
      by_graft : (g : Option GraftValue) → a.graft q pt ≡ g → image_of more g ≡ image_of images g
      by_graft None e = refl
      by_graft (Some g) e = loaded_same g.image (images g.image) refl (loaded q pt g e)

  -- where a call begins
  begin_same : (s : Objects) (p : ℕ) (ns : List Need) (feed : List ℕ) (x : Option Point) →
      ImagesAreLoaded images s.accounts →
      begin_with more s p ns feed x ≡ begin_with images s p ns feed x
  begin_same s p ns feed None loaded = refl
  begin_same s p ns feed (Some a) loaded =
      ap (λ (y : Option Image). Some (record {
        now = s;
        levels = record {
          owner = a.installer;
          point = a.point;
          machine =
              first_machine (base_of p 0) a.args
              (fed feed (segment_with y (keeps_in y) (s.things.segment a.installer a.point)));
          count = 0;
          touched = touch_all ns untouched;
          args = a.args;
          records = [];
          kept = s.things;
        } ∷ [];
      }))
      (image_same s.accounts a.installer a.point loaded)

  mark_same : (p : ℕ) (k : Mark) (t : Trace) → ImagesAreLoaded images t.config.now.accounts →
      mark_on v more p k t ≡ mark_on v images p k t
  mark_same p Stepped t loaded = ap (stepped t) (more_images v images more p t.config extends loaded)
  mark_same p (Fell es) t loaded =
      ap (λ o. elim (stepped t o) as (λ _. Option Trace) [
        | None ↦ None
        | Some u ↦ fell_on v es (length t.config.levels) u
      ]) (more_images v images more p t.config extends loaded)

  marks_same : (p : ℕ) (s : Objects) (ks : List Mark) (t z : Trace) →
      marks_on v images p ks t ≡ Some z → IsReplayed v s t.config →
      AllStand z.config.now.accounts z.config.levels →
      ImagesAreLoaded images t.config.now.accounts → marks_on v more p ks t ≡ Some z
  marks_same p s [] t z e h stand loaded = e
  marks_same p s (k ∷ ks) t z e h stand loaded =
      let f = marks_split v images p k ks t z e in
      ap (λ (x : Option Trace). elim x as (λ _. Option Trace) [
        | None ↦ None
        | Some u ↦ marks_on v more p ks u
      ]) (mark_same p k t loaded ∙ f.1)
      ∙ marks_same p s ks f.0 z f.2 (mark_replays v images p s k t f.0 f.1 h
      (marks_stood v images p ks f.0 z f.2 stand)) stand
      (images_from images t.config.now.accounts f.0.config.now.accounts (mark_come v images p s k t f.0 f.1 h) loaded)

  -- what the next instruction needs
  next_same : (a : Accounts) (ls : List Level) → ImagesAreLoaded images a →
      next_needs v more a ls ≡ next_needs v images a ls
  next_same a [] loaded = refl
  next_same a (l ∷ ls) loaded =
      ap (λ (x : Option Image). cond (is_spent a l) [] (instruction_needs v l
      (next_call (code_in x) l.machine))) (image_same a l.owner l.point loaded)

-- a history, and where it leads
record LeadsOn (m : Meaning) (v : World) (images more : ImageTable) (s : Objects) (p : ℕ)
    (t : Stage) (ks : List Mark) (z : Trace) : Type 0 where
  same : replay m v more s p t ks ≡ Some z
  loaded : ImagesAreLoaded images z.config.now.accounts

leads_on : (m : Meaning) (laws : Laws m) (owns : NeedsGraftsExclusively m) (v : World)
    (images more : ImageTable) (extends : Extends images more) (s : Objects) (p : ℕ) (t : Stage)
    (ks : List Mark)
    (z : Trace) → IsStanding m v images s p t → replay m v images s p t ks ≡ Some z →
    AllStand z.config.now.accounts z.config.levels → ImagesAreLoaded images s.accounts →
    LeadsOn m v images more s p t ks z
leads_on m laws owns v images more extends s p t ks z standing e stand loaded =
    let f = replay_split m v images s p t ks z e in
    let first = beginnings_stand m laws owns v images s p t f.0 standing f.1
    (marks_stood v images p ks (first_trace f.0) z f.2 stand) in
    let begun = subst (λ (w : Objects). ImagesAreLoaded images w.accounts)
    (begin_now images s p (m.need v s p t) (m.feed t) (m.asks v s p t) f.0 f.1) loaded in
    record {
      same =
          ap (λ (x : Option Config). elim x as (λ _. Option Trace) [
            | None ↦ None
            | Some c ↦ marks_on v more p ks (first_trace c)
          ])
          (begin_same v images more extends s p (m.need v s p t) (m.feed t) (m.asks v s p t) loaded ∙ f.1)
          ∙ marks_same v images more extends p s ks (first_trace f.0) z f.2 first stand begun;
      loaded =
          images_from images f.0.now.accounts z.config.now.accounts
          (marks_come v images p s ks (first_trace f.0) z f.2 first stand) begun;
    }

-- ---- kernels

map_same : {A : Type 0} (f g : ℕ → A) (xs : List ℕ) → ((x : ℕ) → f x ≡ g x) → map f xs ≡ map g xs
map_same f g [] h = refl
map_same f g (x ∷ xs) h = ap (λ y. y ∷ map f xs) (h x) ∙ ap (λ ys. g x ∷ ys) (map_same f g xs h)

module _ (m : Meaning) (laws : Laws m) (owns : NeedsGraftsExclusively m) (r : Run)
    (sound : IsSoundRun m r) (more : ImageTable) (extends : Extends r.kernel.images more) where
  -- the kernel with more images
  abbrev grown : Kernel
  grown = record (r.kernel) { images = more }

  -- a call's history
  leads : (p : ℕ) (c : Call) (ks : List Mark) (z : Trace) →
      r.kernel.call p ≡ Some c → c.marks ≡ Some ks →
      replay m r.kernel.world r.kernel.images r.kernel.objects p c.stage ks ≡ Some z →
      LeadsOn m r.kernel.world r.kernel.images more r.kernel.objects p c.stage ks z
  leads p c ks z e marked f =
      let k = r.kernel in
      leads_on m laws owns k.world k.images more extends k.objects p c.stage ks z
      (stands_in m laws owns r p c sound.kernel sound.blocks e).standing f
      (all_stand z.config (λ l i. sound.kernel.grafts p z.config l (config_is m laws owns k p c z e
      (sym (trace_is m laws owns k p c ks marked) ∙ f)) i)) sound.kernel.state.images_loaded

  trace_same : (p : ℕ) (x : Option Call) → r.kernel.call p ≡ x → trace_of m grown p x ≡ trace_of m r.kernel p x
  trace_same p None e = refl
  trace_same p (Some c) e = by_marks c.marks refl
    where
      k : Kernel
      k = r.kernel

      by_marks : (y : Option (List Mark)) → c.marks ≡ y →
          elim y as (λ _. Option Trace) [ None ↦ None | Some ks ↦ replay m k.world more k.objects p c.stage ks ]
          ≡ elim y as (λ _. Option Trace) [ None ↦ None | Some ks ↦ replay m k.world k.images k.objects p c.stage ks ]
      by_marks None marked = refl
      by_marks (Some ks) marked = by_trace (replay m k.world k.images k.objects p c.stage ks) refl
        where
          nothing : (x : Option Trace) → x ≡ None → is_some x ≡ true → ⊥
          nothing x e some = cc

          by_trace : (x : Option Trace) → replay m k.world k.images k.objects p c.stage ks ≡ x →
              replay m k.world more k.objects p c.stage ks
              ≡ replay m k.world k.images k.objects p c.stage ks
          by_trace None f =
              absurd (nothing (trace_of m k p (Some c))
              (sym (trace_is m laws owns k p c ks marked) ∙ f) (sound.kernel.runs p c ks e marked))
          by_trace (Some z) f = (leads p c ks z e marked f).same ∙ sym f

  config_same : (p : ℕ) → config_of m grown p ≡ config_of m r.kernel p
  config_same p = ap config_in (trace_same p (r.kernel.call p) refl)

  holds_same : (p d : ℕ) (o : Object) → holds m grown p d o ≡ holds m r.kernel p d o
  holds_same p d o =
      ap (λ table. locks_from table p d o) (map_same (levels_of m grown) (levels_of m r.kernel)
      processes (λ q. ap levels_in (config_same q)))

  needs_same : (p : ℕ) → needs m grown p ≡ needs m r.kernel p
  needs_same p = by_call (r.kernel.call p)
    where
      at_config : (x : Option Config) → config_of m r.kernel p ≡ x → needs_at m grown x ≡ needs_at m r.kernel x
      at_config None e = refl
      at_config (Some c) e =
          let k = r.kernel in
          let g = has_graft m k p c e in
          let z = leads p g.call g.marks g.trace g.is g.marked
          (trace_is m laws owns k p g.call g.marks g.marked ∙ g.leads) in
          next_same k.world k.images more extends c.now.accounts c.levels
          (subst (λ (d : Config). ImagesAreLoaded k.images d.now.accounts) g.config z.loaded)

      by_marks : (c : Call) (y : Option (List Mark)) →
          elim y as (λ _. List Need) [
            | None ↦ m.need r.kernel.world r.kernel.objects p c.stage
            | Some ks ↦ needs_at m grown (config_of m grown p)
          ]
          ≡ elim y as (λ _. List Need) [
            | None ↦ m.need r.kernel.world r.kernel.objects p c.stage
            | Some ks ↦ needs_at m r.kernel (config_of m r.kernel p)
          ]
      by_marks c None = refl
      by_marks c (Some ks) = ap (needs_at m grown) (config_same p) ∙ at_config (config_of m r.kernel p) refl

      by_call : (x : Option Call) → needs_in m grown p x ≡ needs_in m r.kernel p x
      by_call None = refl
      by_call (Some c) = by_marks c c.marks

  granted_more : (p : ℕ) (c : SysCall) → is_ok (m.early r.kernel.world r.kernel.images p c) ≡ true →
      is_ok (m.early r.kernel.world more p c) ≡ true
  granted_more p c h = by_early (m.early r.kernel.world r.kernel.images p c) refl h
    where
      by_early : (x : Result Stage Refusal) → m.early r.kernel.world r.kernel.images p c ≡ x →
          is_ok x ≡ true → is_ok (m.early r.kernel.world more p c) ≡ true
      by_early (Err why) e h = absurd cc
      by_early (Ok t) e h = ap is_ok (laws.stages.more_images r.kernel.world r.kernel.images more p c t extends e)

  loaded_more : ImagesAreLoaded more r.kernel.objects.accounts
  loaded_more q pt g e =
      let h = sound.kernel.state.images_loaded q pt g e in
      ap is_some (loaded_same r.kernel.world r.kernel.images more extends g.image
      (r.kernel.images g.image) refl h) ∙ h

  grown_sound : IsSoundKernel m grown
  grown_sound =
      let h = sound.kernel in
      record {
        state = record { store = h.state.store; images_loaded = loaded_more; disk = h.state.disk };
        runs = λ p c ks e marked. ap is_some (trace_same p (Some c) e) ∙ h.runs p c ks e marked;
        grafts = λ p f l e i. h.grafts p f l (sym (config_same p) ∙ e) i;
        apart =
            λ p q d e o ne. ap (λ x. clash x (holds m grown q e o)) (holds_same p d o)
            ∙ ap (clash (holds m r.kernel p d o)) (holds_same q e o) ∙ h.apart p q d e o ne;
        callers = h.callers;
        granted = λ p c e. granted_more p c.stage.call (h.granted p c e);
        fit = h.fit;
        pieces = h.pieces;
        others = λ e i at_piece.
            let x = h.others e i at_piece in (
              x.0,
              subst (λ n. 1 ≤ n) (sym (ap length (ap levels_in (config_same e.process)))) x.1,
              subst (λ n. 1 ≤ n) (sym (ap length (needs_same e.process))) x.2,
            );
      }

pub images_stay_sound : (m : Meaning) → ImagesStaySound m
images_stay_sound m r more laws sound extends = (
  record {
    kernel = grown_sound m laws laws.need.grafts r sound more extends;
    blocks = sound.blocks;
  },
  config_same m laws laws.need.grafts r sound more extends,
)
