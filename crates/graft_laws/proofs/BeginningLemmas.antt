-- Where a graft call begins, and where whole histories lead.
use Rattle.std.specs.Prelude.{◌≡◌, ◌≢◌, ℕ, ◌<◌, ◌&&◌, ◌||◌, true, false, List, [], ◌∷◌, ◌++◌}
use Rattle.std.specs.Prelude.{Contains, Option, Some, None, is_some}
use Rattle.std.proofs.Common.{◌⊎◌, arith, refl, subst, sym, ap, inl, inr}
use Rattle.kernel_model.specs.Access.{Found}
use Rattle.kernel_model.specs.declared.Held.{Held}
use Rattle.kernel_model.specs.declared.Need.{Need}
use Rattle.kernel_model.specs.declared.Point.{Point}
use Rattle.kernel_model.specs.declared.Object.{Object}
use Rattle.kernel_model.specs.declared.Object.TheVariants.{Graft, Acct, Cell, OpenFile, Queue, Cache, Lock, Pol}
use Rattle.kernel_model.specs.World.{World, ImageTable}
use Rattle.kernel_model.specs.Objects.{Objects, Things, GraftValue, SameThing}
use Rattle.kernel_model.specs.Locks.{is_held, is_held_exclusively, touch_all, untouched}
use Rattle.kernel_model.specs.Levels.{Level, Config, new_level}
use Rattle.kernel_model.specs.History.{begin, begin_at, begin_with, first_trace}
use Rattle.kernel_model.specs.Meaning.{Meaning, Stage}
use Rattle.kernel_model.specs.Needs.{payer_needs}
use Rattle.kernel_model.specs.Alike.{is_needed, is_needed_exclusively, is_exclusive, is_held_in}
use Rattle.kernel_model.specs.Laws.{Laws, IsStanding, IsInRange, before_point, needs_of_point, NeedsGraftsExclusively}
use Rattle.kernel_model.specs.Objects.{same_object}
use Rattle.kernel_model.specs.SameObject.{same_object_self}
use Rattle.kernel_laws.proofs.LevelLemmas.{each_from, held_so}
use Rattle.graft_laws.specs.Histories.{GraftsStand, HasRange, IsReplayed, BeginningsReplay, HistoriesReplay}
use Rattle.graft_laws.proofs.PointLemmas.{or_right}
use Rattle.graft_laws.proofs.HoldLemmas.{touch_all_from, touch_all_takes}
use Rattle.graft_laws.proofs.RangeLemmas.{needed_contains}
use Rattle.graft_laws.proofs.TurnParts.{not_going}
use Rattle.graft_laws.proofs.ShapeLemmas.{found_at_level}
use Rattle.graft_laws.proofs.StandLemmas.{AllStand}
use Rattle.graft_laws.proofs.ReplayLemmas.{sound_from}
use Rattle.graft_laws.proofs.HistoryReplayLemmas.{marks_stood, marks_replay}
use Rattle.graft_laws.proofs.MarkLemmas.{replay_split}
use Rattle.kernel_laws.proofs.SoundConfigLemmas.{AreDifferent, at_below}
use Rattle.call_laws.specs.FileChanges.{same_self}

-- ---- the beginning

taken_append : (o : Object) (xs ys : List Need) → is_needed_exclusively o ys ≡ true →
    is_needed_exclusively o (xs ++ ys) ≡ true
taken_append o [] ys h = h
taken_append o (n ∷ xs) ys h =
    or_right (is_exclusive n.mode && same_object o n.object)
    (is_needed_exclusively o (xs ++ ys)) (taken_append o xs ys h)

-- a point that is asked has its graft needed exclusively, and its installer's account where the graft stands
graft_taken : (s : Objects) (a : Point) → is_needed_exclusively (Graft a.installer a.point) (needs_of_point s a) ≡ true
graft_taken s a =
    ap (λ b. b || is_needed_exclusively (Graft a.installer a.point) (payer_needs a.installer
    (s.accounts.graft a.installer a.point))) (same_object_self (Graft a.installer a.point))

acct_taken : (s : Objects) (a : Point) → is_some (s.accounts.graft a.installer a.point) ≡ true →
    is_needed_exclusively (Acct a.installer) (needs_of_point s a) ≡ true
acct_taken s a some =
    or_right (same_object (Acct a.installer) (Graft a.installer a.point)) (is_needed_exclusively
    (Acct a.installer) (payer_needs a.installer (s.accounts.graft a.installer a.point)))
    (payer_taken a.installer (s.accounts.graft a.installer a.point) some)
  where
    payer_taken : (q : ℕ) (g : Option GraftValue) → is_some g ≡ true →
        is_needed_exclusively (Acct q) (payer_needs q g) ≡ true
    payer_taken q None some = not_going some
    payer_taken q (Some g) some = ap (λ b. b || false) (same_object_self (Acct q))

pub in_range : (o : Object) → IsInRange o → HasRange o
in_range (Graft q pt) h = tt
in_range (Acct q) h = h
in_range (Cell q k) h = h
in_range (OpenFile q fd) h = h
in_range Queue h = h
in_range Cache h = h
in_range (Lock u) h = h
in_range (Pol k) h = h

begin_replays : (m : Meaning) (laws : Laws m) (owns : NeedsGraftsExclusively m)
    (v : World) (images : ImageTable) (s : Objects) (p : ℕ) (t : Stage) (a : Point) →
    IsStanding m v images s p t →
    m.asks v s p t ≡ Some a → is_some (s.accounts.graft a.installer a.point) ≡ true →
    IsReplayed v s (begin_at images s p (m.need v s p t) (m.feed t) a)
begin_replays m laws owns v images s p t a standing asks stands =
    let base = m.need v s p t in
    let l = new_level images s p 0 a.installer a.point a.args (m.feed t) (touch_all base untouched) in
    let parts = laws.need.point v s p t a standing.fits asks in
    let taken = λ (o : Object) (h : is_needed_exclusively o (needs_of_point s a) ≡ true).
    touch_all_takes base untouched o
    (subst (λ ns. is_needed_exclusively o ns ≡ true) (sym parts)
    (taken_append o (before_point s a base) (needs_of_point s a) h)) in
    let held_needed = λ (o : Object) (h : is_held_in (l ∷ []) o ≡ true). needed_of base o
    (touch_all_from base untouched o (only_held (touch_all base untouched o) h)) in
    record {
      sound = sound_from v s (l ∷ []) standing.store (some_not_none l)
          (record {
            each = (
              record {
                stands = stands;
                graft = taken (Graft a.installer a.point) (graft_taken s a);
                acct = taken (Acct a.installer) (acct_taken s a stands);
              },
              tt,
            );
            apart = (refl, tt);
            recorded = (λ i c. absurd (nothing i c), tt);
            few = omega arith;
            most = omega arith;
            kept = refl;
          })
          (one_level l) (standing.store, tt);
      asks = tt;
      grafts =
          λ q pt h. touch_all_takes base untouched (Graft q pt)
          (owns v s p t q pt standing.fits (held_needed (Graft q pt) h));
      accounts =
          λ q h. held_so (touch_all base untouched (Acct q))
          (only_changed (touch_all base untouched (Acct q)) h);
      ranges =
          λ o h. let n = needed_contains o base (held_needed o h) in subst HasRange (sym n.2)
          (in_range n.0.object (laws.need.ranges v images s p t n.0 standing n.1));
      now = λ o none. same_self o s;
      kept = λ n k o e none. found_at_level s.things (l ∷ []) n k o (λ b f. thing_self b s.things, tt) e none;
    }
  where
    some_not_none : (l : Level) → l ∷ [] ≢ []
    some_not_none l h = cc

    nothing : (i : Found) → Contains [] i → ⊥
    nothing i c = none_below c.0 c.1
      where
        none_below : (k : ℕ) → k < 0 → ⊥
        none_below k h = omega arith

    one_level : (l : Level) → AreDifferent (l ∷ [])
    one_level l d e x y hd he owner point = both_zero d e (at_below d (l ∷ []) x hd) (at_below e (l ∷ []) y he)
      where
        both_zero : (d e : ℕ) → d < 1 → e < 1 → d ≡ e
        both_zero d e h k = omega arith

    only_held : (h : Held) → (is_held h || false) ≡ true → is_held h ≡ true
    only_held Held.Free e = e
    only_held Held.Shared e = e
    only_held Held.Exclusive e = e

    only_changed : (h : Held) → (is_held_exclusively h || false) ≡ true → is_held_exclusively h ≡ true
    only_changed Held.Free e = e
    only_changed Held.Shared e = e
    only_changed Held.Exclusive e = e

    needed_of : (ns : List Need) (o : Object) →
        (is_held (untouched o) ≡ true) ⊎ (is_needed o ns ≡ true) → is_needed o ns ≡ true
    needed_of ns o (inl h) = not_going h
    needed_of ns o (inr h) = h

    thing_self : (o : Object) (w : Things) → SameThing o w w
    thing_self (Graft q pt) w = refl
    thing_self (Acct q) w = tt
    thing_self (Cell q k) w = refl
    thing_self (OpenFile q fd) w = refl
    thing_self Queue w = (refl, refl)
    thing_self Cache w = refl
    thing_self (Lock u) w = refl
    thing_self (Pol k) w = refl

-- the graft of each level stands
pub all_stand : (c : Config) → GraftsStand c → AllStand c.now.accounts c.levels
all_stand c h = each_from (λ (l : Level). is_some (c.now.accounts.graft l.owner l.point) ≡ true) c.levels h

pub beginnings_stand : (m : Meaning) (laws : Laws m) (owns : NeedsGraftsExclusively m)
    (v : World) (images : ImageTable) (s : Objects) (p : ℕ) (t : Stage) (c : Config) →
    IsStanding m v images s p t →
    begin m v images s p t ≡ Some c → AllStand c.now.accounts c.levels → IsReplayed v s c
beginnings_stand m laws owns v images s p t c standing e stand = by_asks (m.asks v s p t) refl e
  where
    is_it : (c d : Config) → Some c ≡ Some d → c ≡ d
    is_it c d h = cc

    by_asks : (x : Option Point) → m.asks v s p t ≡ x →
        begin_with images s p (m.need v s p t) (m.feed t) x ≡ Some c → IsReplayed v s c
    by_asks None f e = absurd cc
    by_asks (Some a) f e =
        let same = is_it (begin_at images s p (m.need v s p t) (m.feed t) a) c e in
        subst (IsReplayed v s) same
        (begin_replays m laws owns v images s p t a standing f
        (subst (λ (d : Config). AllStand d.now.accounts d.levels) (sym same) stand).0)

pub beginnings_replay : (m : Meaning) → BeginningsReplay m
beginnings_replay m v images s p t c laws standing e stand =
    beginnings_stand m laws laws.need.grafts v images s p t c standing e (all_stand c stand)

-- ---- whole histories

pub histories_replay : (m : Meaning) → HistoriesReplay m
histories_replay m v images s p t ks z laws standing e stand =
    let f = replay_split m v images s p t ks z e in
    let all = all_stand z.config stand in
    marks_replay v images p s ks (first_trace f.0) z f.2 (beginnings_stand m laws laws.need.grafts v
    images s p t f.0 standing f.1 (marks_stood v images p ks (first_trace f.0) z f.2 all)) all
