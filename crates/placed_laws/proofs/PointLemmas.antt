-- Which point a piece asks on states that are alike, policies out of range apart.
use Rattle.std.specs.Prelude.{◌≡◌, ℕ, ◌<◌, nat_lt, Bool, true, false, cond, List, Option, Some, None, slice_index}
use Rattle.std.proofs.Common.{arith, refl, subst, sym, ap, ◌∙◌}
use Rattle.std.proofs.lemmas.Bool.Decides.{nat_tests}
use Rattle.kernel_model.specs.declared.Object.{Object}
use Rattle.kernel_model.specs.declared.Object.TheVariants.{Graft, Acct, Cell, OpenFile, Queue, Cache, Lock, Pol}
use Rattle.kernel_model.specs.declared.Point.{Point}
use Rattle.kernel_model.specs.World.{World, ImageTable}
use Rattle.kernel_model.specs.Objects.{Objects, SameAt}
use Rattle.kernel_model.specs.Policies.{PointKind, Ahead, Victim, Next, Serve, Stream, kind_of, valid, valid_by}
use Rattle.kernel_model.specs.Meaning.{Meaning, Stage}
use Rattle.kernel_model.specs.Sound.{IsSoundStore, IsSoundPolicy}
use Rattle.kernel_model.specs.Alike.{AgreeOn, AreAlike}
use Rattle.kernel_model.specs.Laws.{Laws, IsInRange, IsStanding, IsRightAnswer, SameKindOfPoint}
use Rattle.kernel_model.specs.Laws.{accepted_by, before_point}
use Rattle.kernel_laws.proofs.StepLemmas.{right_answer}
use Rattle.graft_laws.specs.Histories.{HasRange}
use Rattle.graft_laws.proofs.EffectLemmas.{same_back}
use Rattle.graft_laws.proofs.RangeLemmas.{needed_contains}
use Rattle.placed_laws.proofs.SourceLemmas.{shown}
use Rattle.graft_laws.proofs.AlikeHistoryLemmas.{needs_same as same_needs}
use Rattle.graft_laws.proofs.BeginningLemmas.{in_range}

-- ---- needs

-- ---- policies out of range

pub shown_same : (s y : Objects) (o : Object) → HasRange o → SameAt o (shown s y) y
shown_same s y (Graft q pt) range = (refl, refl)
shown_same s y (Acct q) range = refl
shown_same s y (Cell q k) range = refl
shown_same s y (OpenFile q fd) range = refl
shown_same s y Queue range = (refl, refl)
shown_same s y Cache range = refl
shown_same s y (Lock u) range = refl
shown_same s y (Pol kind) range = ap (λ b. cond b (y.things.pol kind) (s.things.pol kind)) (low kind range)
  where
    low : (kind : ℕ) → kind < 3 → nat_lt kind 3 ≡ true
    low kind h = grind (arith, nat_tests)

shown_sound : (v : World) (s y : Objects) → IsSoundStore v y → IsSoundStore v (shown s y)
shown_sound v s y h =
    record {
      world = h.world;
      root = h.root;
      once = h.once;
      numbers = h.numbers;
      nices = h.nices;
      in_use = h.in_use;
      frame_numbers = h.frame_numbers;
      one_frame = h.one_frame;
      frames = h.frames;
      holders = h.holders;
      grafts = h.grafts;
      gone =
          λ p dead. let none = h.gone p dead in record {
            cells = none.cells;
            files = none.files;
            balances = none.balances;
            spent = none.spent;
          };
      files = h.files;
      policies =
          λ kind low. subst (IsSoundPolicy kind) (same_back (Pol kind) (shown s y) y
          (shown_same s y (Pol kind) low)) (h.policies kind low);
      handlers = h.handlers;
      handlers_live = h.handlers_live;
      segments = h.segments;
      ledgers = h.ledgers;
    }

-- where a state alone differs from an alike one in policies out of range
pub near_alike : (s y : Objects) → AreAlike s y → AreAlike s (shown s y)
near_alike s y h =
    record {
      files = h.files;
      queue = h.queue;
      handlers = h.handlers;
      lru = h.lru;
      frames = h.frames;
      locks = h.locks;
      policies = λ kind. chosen_by kind (nat_lt kind 3);
    }
  where
    chosen_by : (kind : ℕ) (b : Bool) →
        (s.things.pol kind).chosen ≡ (cond b (y.things.pol kind) (s.things.pol kind)).chosen
    chosen_by kind true = h.policies kind
    chosen_by kind false = refl

-- ---- the point

-- a point is asked on a state, and the objects before it are those on another
pub record PointOn (m : Meaning) (v : World) (s y : Objects) (p : ℕ) (t : Stage) (a : Point) : Type 0 where
  pub point : Point
  pub asks : m.asks v y p t ≡ Some point
  pub before : before_point y point (m.need v y p t) ≡ before_point s a (m.need v s p t)
  pub right : (answer : List ℕ) → valid y.things a.installer a.point a.args (slice_index answer 0)
      (slice_index answer 1) ≡ true → IsRightAnswer y (m.asks v y p t) (Some answer)

accepted_shown : (k : PointKind) (s y : Objects) (args answer : List ℕ) →
    accepted_by k (shown s y) args answer ≡ accepted_by k y args answer
accepted_shown Ahead s y args answer = refl
accepted_shown Victim s y args answer = refl
accepted_shown Next s y args answer = refl
accepted_shown Serve s y args answer = refl
accepted_shown Stream s y args answer = refl

right_shown : (s y : Objects) (ask : Option Point) (answer : List ℕ) →
    IsRightAnswer (shown s y) ask (Some answer) → IsRightAnswer y ask (Some answer)
right_shown s y None answer h = h
right_shown s y (Some a) answer h = sym (accepted_shown (kind_of a.point) s y a.args answer) ∙ h

module _ (m : Meaning) (laws : Laws m) (v : World) (images : ImageTable) (s y : Objects) (p : ℕ)
    (t : Stage) (a : Point) (fits : m.fits v s p t ≡ true) (asks : m.asks v s p t ≡ Some a)
    (near : AreAlike s (shown s y)) (standing : IsStanding m v images y p t) where
  shown_fits : m.fits v (shown s y) p t ≡ true
  shown_fits = laws.stages.fits_same v (shown s y) y p t (λ fd. refl) ∙ standing.fits

  shown_stands : IsStanding m v images (shown s y) p t
  shown_stands =
      record {
        store = shown_sound v s y standing.store;
        caller = standing.caller;
        granted = standing.granted;
        fits = shown_fits;
      }

  agree : AgreeOn (m.need v (shown s y) p t) (shown s y) y
  agree o need =
      let n = needed_contains o (m.need v (shown s y) p t) need in
      shown_same s y o (in_range o (subst IsInRange (sym n.2)
      (laws.need.ranges v images (shown s y) p t n.0 shown_stands n.1)))

  needs_same : m.need v (shown s y) p t ≡ m.need v y p t
  needs_same = same_needs m laws v (shown s y) y p t shown_fits standing.fits agree

  asks_same : m.asks v (shown s y) p t ≡ m.asks v y p t
  asks_same = laws.ask.looks v (shown s y) y p t shown_fits standing.fits agree

  pub point_on : PointOn m v s y p t a
  point_on =
      by_ask (m.asks v (shown s y) p t) refl (subst (λ x. SameKindOfPoint x
      (m.asks v (shown s y) p t)) asks (laws.ask.alike v s (shown s y) p t fits near))
    where
      by_ask : (x : Option Point) → m.asks v (shown s y) p t ≡ x → SameKindOfPoint (Some a) x → PointOn m v s y p t a
      by_ask None e same = absurd same
      by_ask (Some b) e same =
          record {
            point = b;
            asks = sym asks_same ∙ e;
            before =
                ap (before_point y b) (sym needs_same)
                ∙ sym (laws.ask.alike_before v s (shown s y) p t a b fits near asks e);
            right = λ answer h. subst (λ x. IsRightAnswer y x (Some answer)) asks_same
                (right_shown s y (m.asks v (shown s y) p t) answer (right_answer m laws v s
                (shown s y) p t a answer fits near asks (valid_shown answer h)));
          }
        where
          valid_shown : (answer : List ℕ) → valid y.things a.installer a.point a.args
              (slice_index answer 0) (slice_index answer 1) ≡ true →
              valid (shown s y).things a.installer a.point a.args (slice_index answer 0) (slice_index answer 1) ≡ true
          valid_shown answer h = valid_by_kind (kind_of a.point) ∙ h
            where
              valid_by_kind : (k : PointKind) → valid_by k (shown s y).things a.installer a.args
                  (slice_index answer 0) (slice_index answer 1) ≡ valid_by k y.things a.installer
                  a.args (slice_index answer 0) (slice_index answer 1)
              valid_by_kind Ahead = refl
              valid_by_kind Victim = refl
              valid_by_kind Next = refl
              valid_by_kind Serve = refl
              valid_by_kind Stream = refl
