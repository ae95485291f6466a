-- Whole histories: each event leaves a good world.
use Rattle.std.proofs.Common.{arith, ◌≡◌, ℕ, zero, suc, Bool, true, false, List, [], ◌∷◌, Option}
use Rattle.std.proofs.Common.{None, Some, refl, sym, ap, ◌∙◌}
use Rattle.std.specs.Prelude.{◌==◌, ◌&&◌, ◌||◌, not, slice_get, length, nat_le}
use Rattle.std.proofs.lemmas.Bool.{or_parts, or_from, and_parts, eq-eqb, not_from_false}
use Rattle.vino_host.specs.declared.Request.{Request}
use Rattle.vino_host.specs.declared.Stop.TheVariants as stop
use Rattle.vino_host.specs.declared.Word.{Word}
use Rattle.vino_host.specs.Plugins.{code_of}
use Rattle.vino_host.specs.Calls.{Pause, Found, found, first_frame, begun, call_says, resumed, is_call}
use Rattle.vino_host.specs.Codes.{is_refusal}
use Rattle.vino_host.specs.HostRuns.{state, host_run, with_r0}
use Rattle.host_laws.specs.Histories.{Waiting, World, Event, Begins, Answers, number_of, is_new}
use Rattle.host_laws.specs.Histories.{without, whole, alone, after_answer}
use Rattle.host_laws.specs.Histories.{after_stop, begun_story, answered_story, after_event, after}
use Rattle.host_laws.specs.Histories.{one_by_one, touches, is_touched, IsFree, CallsAreOneAtATime}
use Rattle.host_laws.proofs.Touching.{owner_at, readers_at, seen_alone}
use Rattle.host_laws.proofs.Waiting.{Apart, Stands, IsReplayed, total_at, total_none, all_at}
use Rattle.host_laws.proofs.Waiting.{all_without, apart_at, distinct_without, new_apart}
use Rattle.host_laws.proofs.Waiting.{touched_owner}
use Rattle.host_laws.proofs.Slicing.{Good, Slice}
use Rattle.host_laws.proofs.Interleaving.{Comes, slice_good, drops_good}

-- ---- a call begins

begin_slice : (w : World) (first : List Word) (request : Request) (fed : List ℕ) → Good w first →
    is_call request fed ≡ true → is_new request.number w.waiting ≡ true →
    Slice request.number w.table (one_by_one w.ended first) w.waiting []
begin_slice w first request fed good asked new =
    let apart : Apart request.number w.waiting = new_apart request.number w.waiting new in
    let one = and_parts (not (request.number == 0) && nat_le request.point 15) (nat_le (length fed) 512) asked in
    let two = and_parts (not (request.number == 0)) (nat_le request.point 15) one.0 in
    let some : request.number ≡ 0 → ⊥ = λ h. not_zero (request.number == 0) two.0 (eq-eqb request.number 0 h) in
    record {
      some = some;
      apart = apart;
      distinct = good.distinct;
      stands = good.stands;
      held = λ k h. cc;
      owns = λ k o. absurd (some (sym o
          ∙ good.owners k (touched_owner w.table (one_by_one w.ended first) w.waiting k
          request.number good.stands apart some o)));
      before = λ k h. cc;
      count = λ k. let is = good.count k in omega (arith, is);
      owners = λ k h g. good.owners k g;
      words = good.words;
      clean = good.clean;
    }
  where
    not_zero : (b : Bool) → not b ≡ true → b ≡ true → ⊥
    not_zero true h g = cc
    not_zero false h g = cc

begin_comes : (table : List Word) (plugin : List ℕ) (request : Request) (fed segment : List ℕ) →
    Comes (begun_story plugin request fed segment) (first_frame request fed segment) (code_of plugin) request.limit
    (begun plugin request fed segment) table []
unfolding alone
begin_comes table plugin request fed segment b h = record { over = b; on = λ k g. cc; off = λ k g. refl; says = refl }

-- ---- a call is answered

none_else : (cs : List Waiting) (i : ℕ) (c : Waiting) (k : ℕ) → slice_get cs i ≡ Some c →
    touches c.pause.records k ≡ false →
    is_touched (without i cs) k ≡ false → is_touched cs k ≡ false
none_else [] i c k at h g = cc
none_else (d ∷ cs) zero c k at h g =
    let same : d ≡ c = cc in
    or_from (touches d.pause.records k) (is_touched cs k)
    (ap (λ (x : Waiting). touches x.pause.records k) same ∙ h) g
none_else (d ∷ cs) (suc i) c k at h g =
    let parts = or_parts (touches d.pause.records k) (is_touched (without i cs) k) g in
    or_from (touches d.pause.records k) (is_touched cs k) parts.0 (none_else cs i c k at h parts.1)

answer_slice : (w : World) (first : List Word) (i : ℕ) (c : Waiting) → Good w first → slice_get w.waiting i ≡ Some c →
    Slice (number_of c) w.table (one_by_one w.ended first) (without i w.waiting) c.pause.records
answer_slice w first i c good at =
    let s : Stands w.table (one_by_one w.ended first) c =
    all_at (λ d. Stands w.table (one_by_one w.ended first) d) w.waiting i c good.stands at in
    record {
      some = s.some;
      apart = apart_at w.waiting i c good.distinct at;
      distinct = distinct_without w.waiting i good.distinct;
      stands = all_without (λ d. Stands w.table (one_by_one w.ended first) d) w.waiting i good.stands;
      held = s.held;
      owns = s.owns;
      before = s.before;
      count = λ k.
          let is = good.count k in
          let all = total_at w.waiting i c k at in omega (arith, is, all);
      owners = λ k h g. good.owners k (none_else w.waiting i c k at h g);
      words = good.words;
      clean = good.clean;
    }

answer_comes : (table serial : List Word) (c : Waiting) (how x : ℕ) → (how == 0) ≡ true → Stands table serial c →
    Comes (answered_story c.story how x) c.pause.frame (code_of c.story.plugin) c.pause.left
    (with_r0 x c.pause.machine) table
    c.pause.records
unfolding alone
answer_comes table serial c how x word s b h =
    let r : IsReplayed table c b = s.replays b h in
    record {
      over = (whole c.story b).table;
      on = r.on;
      off = r.off;
      says = by_pause (whole c.story b) r.pause ∙ by_word (how == 0) word;
    }
  where
    by_pause : (f : Found) → f.pause ≡ Some c.pause →
        after_answer c.story.plugin how x f ≡ resumed c.story.plugin c.pause how x f.table
    by_pause f e =
        ap (λ (o : Option Pause). elim o as (λ _. Found) [
          | None ↦ f
          | Some p ↦
              resumed c.story.plugin p how x f.table
        ]) e

    by_word : (t : Bool) → t ≡ true →
        elim t as (λ _. Found) [
          | true ↦ found c.pause.frame
              (host_run c.pause.frame.number (code_of c.story.plugin) c.pause.left
              (state (with_r0 x c.pause.machine) (whole c.story b).table c.pause.records))
          | false ↦ found c.pause.frame (record {
            stop = stop.Drops how c.pause.id;
            left = c.pause.left;
            state = state c.pause.machine (whole c.story b).table c.pause.records;
          })
        ]
        ≡ found c.pause.frame
        (host_run c.pause.frame.number (code_of c.story.plugin) c.pause.left
        (state (with_r0 x c.pause.machine) (whole c.story b).table c.pause.records))
    by_word true e = refl
    by_word false e = cc

answer_good : (w : World) (first : List Word) (i : ℕ) (c : Waiting) (how x : ℕ) → Good w first →
    slice_get w.waiting i ≡ Some c →
    (how == 0 || is_refusal how) ≡ true →
    Good (after_stop w.ended (without i w.waiting) (answered_story c.story how x)
    (resumed c.story.plugin c.pause how x w.table)) first
answer_good w first i c how x good at asked = by_word (how == 0) refl
  where
    by_word : (t : Bool) → (how == 0) ≡ t →
        Good (after_stop w.ended (without i w.waiting) (answered_story c.story how x)
        (elim t as (λ _. Found) [
          | true ↦ found c.pause.frame
              (host_run c.pause.frame.number (code_of c.story.plugin) c.pause.left
              (state (with_r0 x c.pause.machine) w.table c.pause.records))
          | false ↦ found c.pause.frame (record {
            stop = stop.Drops how c.pause.id;
            left = c.pause.left;
            state = state c.pause.machine w.table c.pause.records;
          })
        ])) first
    by_word true e =
        slice_good (answered_story c.story how x) c.pause.frame (code_of c.story.plugin)
        c.pause.left (with_r0 x c.pause.machine)
        w.table w.ended first (without i w.waiting) c.pause.records good.calls (answer_slice w first i c good at)
        (answer_comes w.table (one_by_one w.ended first) c how x e
        (all_at (λ d. Stands w.table (one_by_one w.ended first) d) w.waiting i c good.stands at))
    by_word false e =
        drops_good (answered_story c.story how x) c.pause.frame c.pause.left c.pause.machine w.table
        w.table w.ended first
        (without i w.waiting) c.pause.records c.pause.records how c.pause.id good.calls
        (answer_slice w first i c good at) refl
        (not_from_false (how == 0) e)

-- ---- events

event_good : (w : World) (first : List Word) (e : Event) → Good w first → Good (after_event w e) first
event_good w first (Begins plugin request fed segment) good =
    by_test (is_call request fed && is_new request.number w.waiting) refl
  where
    by_test : (t : Bool) → (is_call request fed && is_new request.number w.waiting) ≡ t →
        Good (elim t as (λ _. World) [
          | true ↦ after_stop w.ended w.waiting (begun_story plugin request fed segment)
              (call_says plugin request fed segment w.table)
          | false ↦ w
        ]) first
    by_test false e = good
    by_test true e =
        let parts = and_parts (is_call request fed) (is_new request.number w.waiting) e in
        slice_good (begun_story plugin request fed segment) (first_frame request fed segment)
        (code_of plugin) request.limit
        (begun plugin request fed segment) w.table w.ended first w.waiting [] good.calls
        (begin_slice w first request fed good parts.0 parts.1) (begin_comes w.table plugin request fed segment)
event_good w first (Answers i how x) good = by_call (slice_get w.waiting i) refl
  where
    by_call : (o : Option Waiting) → slice_get w.waiting i ≡ o →
        Good (elim o as (λ _. World) [
          | None ↦ w
          | Some c ↦ elim (how == 0 || is_refusal how) as (λ _. World) [
            | true ↦ after_stop w.ended (without i w.waiting) (answered_story c.story how x)
                (resumed c.story.plugin c.pause how x w.table)
            | false ↦ w
          ]
        ]) first
    by_call None e = good
    by_call (Some c) e = by_test (how == 0 || is_refusal how) refl
      where
        by_test : (t : Bool) → (how == 0 || is_refusal how) ≡ t →
            Good (elim t as (λ _. World) [
              | true ↦ after_stop w.ended (without i w.waiting) (answered_story c.story how x)
                  (resumed c.story.plugin c.pause how x w.table)
              | false ↦ w
            ]) first
        by_test true a = answer_good w first i c how x good e a
        by_test false a = good

no_readers : (o : Option Word) → ((w : Word) → o ≡ Some w → w.readers ≡ 0) → readers_at o ≡ 0
no_readers None h = refl
no_readers (Some w) h = h w refl

no_owner : (o : Option Word) → ((w : Word) → o ≡ Some w → w.owner ≡ 0) → owner_at o ≡ 0
no_owner None h = refl
no_owner (Some w) h = h w refl

all_good : (events : List Event) (first : List Word) → IsFree first → Good (after events first) first
unfolding after one_by_one
all_good [] first free =
    let none : (k : ℕ) → readers_at (slice_get first k) ≡ 0 = λ k. no_readers (slice_get first k)
    (λ w h. (free k w h).1) in
    let nobody : (k : ℕ) → owner_at (slice_get first k) ≡ 0 = λ k. no_owner (slice_get first k)
    (λ w h. (free k w h).0) in
    record {
      calls = tt;
      distinct = tt;
      stands = tt;
      count = none;
      owners = λ k h. nobody k;
      words = λ k h. sym (seen_alone (slice_get first k) (none k));
      clean = nobody;
    }
all_good (e ∷ events) first free = event_good (after events first) first e (all_good events first free)

pub calls_are_one_at_a_time : CallsAreOneAtATime
calls_are_one_at_a_time events table free =
    let good : Good (after events table) table = all_good events table free in
    record {
      calls = good.calls;
      words = λ k g.
          sym (seen_alone (slice_get (after events table).table k)
          (good.count k ∙ total_none (after events table).waiting k g))
          ∙ sym (good.words k (good.owners k g));
    }
