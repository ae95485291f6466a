-- Calls that completed in a history, as their programs say.
use Rattle.std.proofs.Common.{◌≡◌, ℕ, zero, suc, ◌-◌, ◌^◌, ◌<◌, Bool, true, false, cond, List, [], ◌∷◌, ◌++◌}
use Rattle.std.proofs.Common.{Option, None, Some, refl, sym, ap, subst, ◌∙◌}
use Rattle.std.specs.Prelude.{⊤, ◌==◌, ◌&&◌, ◌||◌, slice_get}
use Rattle.std.proofs.lemmas.Bool.{eqb-true}
use Rattle.graft_code.specs.SandboxClaims.{Sandbox, Rewriting}
use Rattle.graft_loader.specs.Laws.{SealedImagesLoad}
use Rattle.box_rewriter.specs.Laws.{RewrittenIsBoxed}
use Rattle.graft_texts.specs.LanguageMeaning.{Answered}
use Rattle.vino_host.specs.declared.Answer.{Answer}
use Rattle.vino_host.specs.declared.Stop.TheVariants as stop
use Rattle.vino_host.specs.declared.Word.{Word}
use Rattle.vino_host.specs.Codes.{RETURNED, is_refusal}
use Rattle.vino_host.specs.Plugins.{code_of}
use Rattle.vino_host.specs.Calls.{Pause, Found, found, plain_answer, call_says, resumed, is_call}
use Rattle.vino_host.specs.HostMachine.{by_place}
use Rattle.vino_host.specs.HostRuns.{state, ended, host_run, with_r0}
use Rattle.vino_host.specs.Tables.{undone}
use Rattle.host_laws.specs.Histories.{Story, Waiting, Ending, World, Event, Begins, Answers, is_new, without}
use Rattle.host_laws.specs.Histories.{after_answer, alone, after_stop, begun_story, answered_story}
use Rattle.host_laws.specs.Histories.{after_event, after, one_by_one, IsSameCall, AreSameCalls, CallsAreOneAtATime}
use Rattle.host_laws.specs.Talks.{answered_with}
use Rattle.host_laws.specs.Written.{HasWords, FitTable, FitWords}
use Rattle.host_laws.specs.WrittenHistories.{FitEvent, FitEvents, words_of, AreAsWritten}
use Rattle.host_laws.specs.WrittenHistories.{CompletedCallsAreAsWritten}
use Rattle.host_laws.proofs.Completing.{outcome, left_fits, program_ended}

-- ---- what the host gave a call

-- each answer was a word
abbrev AreGiven : List (ℕ × ℕ) → Type 0
AreGiven [] = ⊤
AreGiven (a ∷ earlier) = (a.0 ≡ 0) × AreGiven earlier

-- a call was given words alone, which fit 32 bits
record IsTold (s : Story) : Type 0 where
  request : HasWords s.request
  given : AreGiven s.answers
  words : FitWords (words_of s.answers)

-- a call was told so, and completed
record IsComplete (e : Ending) : Type 0 where
  told : IsTold e.story
  kind : e.answer.kind ≡ RETURNED

abbrev AllTold : List Waiting → Type 0
AllTold [] = ⊤
AllTold (c ∷ cs) = IsTold c.story × AllTold cs

abbrev AllComplete : List Ending → Type 0
AllComplete [] = ⊤
AllComplete (e ∷ es) = IsComplete e × AllComplete es

record IsHonest (w : World) : Type 0 where
  waiting : AllTold w.waiting
  ended : AllComplete w.ended

one_more_fits : (xs : List ℕ) (x : ℕ) → FitWords xs → x < 2 ^ 32 → FitWords (xs ++ x ∷ [])
one_more_fits [] x h g = (g, tt)
one_more_fits (y ∷ ys) x h g = (h.0, one_more_fits ys x h.1 g)

told_without : (cs : List Waiting) (i : ℕ) → AllTold cs → AllTold (without i cs)
told_without [] i h = tt
told_without (c ∷ cs) zero h = h.1
told_without (c ∷ cs) (suc i) h = (h.0, told_without cs i h.1)

told_at : (cs : List Waiting) (i : ℕ) (c : Waiting) → AllTold cs → slice_get cs i ≡ Some c →
    IsTold c.story
told_at [] i c h e = cc
told_at (d ∷ cs) zero c h e =
    let same : d ≡ c = cc in subst (λ (x : Waiting). IsTold x.story) same h.0
told_at (d ∷ cs) (suc i) c h e = told_at cs i c h.1 e

-- ---- a call stops

stops_honest : (es : List Ending) (cs : List Waiting) (s : Story) (f : Found) → AllComplete es →
    AllTold cs → IsTold s → IsHonest (after_stop es cs s f)
stops_honest es cs s f complete told is = by_pause f.pause
  where
    more : List Ending
    more = record { story = s; answer = f.answer; segment = f.segment } ∷ es

    by_kind : (t : Bool) → (f.answer.kind == RETURNED) ≡ t → AllComplete (cond t more es)
    by_kind true e = (record { told = is; kind = eqb-true f.answer.kind RETURNED e }, complete)
    by_kind false e = complete

    by_pause : (o : Option Pause) → IsHonest (elim o as (λ _. World) [
      | Some p ↦
          record { table = f.table; waiting = record { story = s; pause = p } ∷ cs; ended = es }
      | None ↦
          record { table = f.table; waiting = cs; ended = cond (f.answer.kind == RETURNED) more es }
    ])
    by_pause (Some p) = record { waiting = (is, told); ended = complete }
    by_pause None = record { waiting = told; ended = by_kind (f.answer.kind == RETURNED) refl }

-- a refused call leaves no trace
refused_honest : (es : List Ending) (cs : List Waiting) (s : Story) (answer : Answer)
    (segment : ℕ → ℕ) (table : List Word) → AllComplete es → AllTold cs →
    (answer.kind == RETURNED) ≡ false →
    IsHonest (after_stop es cs s
    (record { answer = answer; segment = segment; table = table; pause = None }))
refused_honest es cs s answer segment table complete told not =
    by_kind (answer.kind == RETURNED) not
  where
    by_kind : (t : Bool) → t ≡ false → IsHonest (record {
      table = table;
      waiting = cs;
      ended = cond t (record { story = s; answer = answer; segment = segment } ∷ es) es;
    })
    by_kind true e = cc
    by_kind false e = record { waiting = told; ended = complete }

-- ---- events

answer_honest : (w : World) (i : ℕ) (c : Waiting) (how x : ℕ) → IsHonest w →
    slice_get w.waiting i ≡ Some c → x < 2 ^ 32 →
    IsHonest (after_stop w.ended (without i w.waiting) (answered_story c.story how x)
    (resumed c.story.plugin c.pause how x w.table))
answer_honest w i c how x honest at small = by_word (how == 0) refl
  where
    told : IsTold c.story
    told = told_at w.waiting i c honest.waiting at

    others : AllTold (without i w.waiting)
    others = told_without w.waiting i honest.waiting

    by_word : (t : Bool) → (how == 0) ≡ t →
        IsHonest (after_stop w.ended (without i w.waiting) (answered_story c.story how x)
        (elim t as (λ _. Found) [
          | true ↦ found c.pause.frame
              (host_run c.pause.frame.number (code_of c.story.plugin) c.pause.left
              (state (with_r0 x c.pause.machine) w.table c.pause.records))
          | false ↦ found c.pause.frame
              (ended (stop.Drops how c.pause.id) c.pause.left
              (state c.pause.machine w.table c.pause.records))
        ]))
    by_word true e =
        stops_honest w.ended (without i w.waiting) (answered_story c.story how x)
        (found c.pause.frame
        (host_run c.pause.frame.number (code_of c.story.plugin) c.pause.left
        (state (with_r0 x c.pause.machine) w.table c.pause.records))) honest.ended others
        (record {
          request = told.request;
          given = (eqb-true how 0 e, told.given);
          words = one_more_fits (words_of c.story.answers) x told.words small;
        })
    by_word false e =
        refused_honest w.ended (without i w.waiting) (answered_story c.story how x)
        (plain_answer how c.pause.id (c.pause.frame.limit - c.pause.left))
        (by_place c.pause.frame.segment)
        (undone c.pause.records w.table) honest.ended others e

event_honest : (w : World) (e : Event) → FitEvent e → IsHonest w → IsHonest (after_event w e)
event_honest w (Begins plugin request fed segment) fit honest =
    by_test (is_call request fed && is_new request.number w.waiting)
  where
    by_test : (t : Bool) → IsHonest (elim t as (λ _. World) [
      | true ↦ after_stop w.ended w.waiting (begun_story plugin request fed segment)
          (call_says plugin request fed segment w.table)
      | false ↦ w
    ])
    by_test false = honest
    by_test true =
        stops_honest w.ended w.waiting (begun_story plugin request fed segment)
        (call_says plugin request fed segment w.table) honest.ended honest.waiting
        (record { request = fit; given = tt; words = tt })
event_honest w (Answers i how x) fit honest = by_call (slice_get w.waiting i) refl
  where
    by_call : (o : Option Waiting) → slice_get w.waiting i ≡ o →
        IsHonest (elim o as (λ _. World) [
          | None ↦ w
          | Some c ↦ elim (how == 0 || is_refusal how) as (λ _. World) [
            | true ↦ after_stop w.ended (without i w.waiting) (answered_story c.story how x)
                (resumed c.story.plugin c.pause how x w.table)
            | false ↦ w
          ]
        ])
    by_call None e = honest
    by_call (Some c) e = by_test (how == 0 || is_refusal how)
      where
        by_test : (t : Bool) → IsHonest (elim t as (λ _. World) [
          | true ↦ after_stop w.ended (without i w.waiting) (answered_story c.story how x)
              (resumed c.story.plugin c.pause how x w.table)
          | false ↦ w
        ])
        by_test true = answer_honest w i c how x honest e fit
        by_test false = honest

all_honest : (events : List Event) (table : List Word) → FitEvents events →
    IsHonest (after events table)
unfolding after
all_honest [] table fit = record { waiting = tt; ended = tt }
all_honest (e ∷ earlier) table fit =
    event_honest (after earlier table) e fit.0 (all_honest earlier table fit.1)

-- ---- a story of words is a call that is answered in turn

answered_more : (plugin xs : List ℕ) (x : ℕ) (f : Found) →
    answered_with plugin (xs ++ x ∷ []) f ≡ after_answer plugin 0 x (answered_with plugin xs f)
answered_more plugin [] x f = by_pause f.pause
  where
    by_pause : (o : Option Pause) →
        ◌≡◌ {A = Found} (elim o as (λ _. Found) [
          | None ↦ f
          | Some p ↦ answered_with plugin [] (resumed plugin p 0 x f.table)
        ]) (elim o as (λ _. Found) [ None ↦ f | Some p ↦ resumed plugin p 0 x f.table ])
    by_pause None = refl
    by_pause (Some p) = refl
answered_more plugin (y ∷ ys) x f = by_pause (λ g. answered_more plugin ys x g) f.pause refl
  where
    by_pause : ((g : Found) → answered_with plugin (ys ++ x ∷ []) g
        ≡ after_answer plugin 0 x (answered_with plugin ys g)) → (o : Option Pause) → f.pause ≡ o →
        ◌≡◌ {A = Found} (elim o as (λ _. Found) [
          | None ↦ f
          | Some p ↦ answered_with plugin (ys ++ x ∷ []) (resumed plugin p 0 y f.table)
        ]) (after_answer plugin 0 x (elim o as (λ _. Found) [
          | None ↦ f
          | Some p ↦ answered_with plugin ys (resumed plugin p 0 y f.table)
        ]))
    by_pause rest None e =
        sym (ap (λ (o : Option Pause). elim o as (λ _. Found) [
          | None ↦ f
          | Some p ↦ resumed plugin p 0 x f.table
        ]) e)
    by_pause rest (Some p) e = rest (resumed plugin p 0 y f.table)

answered_in_turn : (s : Story) (answers : List (ℕ × ℕ)) (table : List Word) → AreGiven answers →
    alone s answers table ≡ outcome s.plugin s.request s.fed s.segment (words_of answers) table
unfolding alone
answered_in_turn s [] table h = refl
answered_in_turn s (a ∷ earlier) table h =
    ap (λ (how : ℕ). after_answer s.plugin how a.1 (alone s earlier table)) h.0
    ∙ ap (λ (f : Found). after_answer s.plugin 0 a.1 f) (answered_in_turn s earlier table h.1)
    ∙ sym (answered_more s.plugin (words_of earlier) a.1
    (call_says s.plugin s.request s.fed s.segment table))

-- ---- the law

-- what completed before fits, and each call is as its program says
record Holds (es : List Ending) (table : List Word) : Type 0 where
  fit : FitTable (one_by_one es table)
  written : AreAsWritten es table

holds : Sandbox → RewrittenIsBoxed → Rewriting → SealedImagesLoad → (es : List Ending)
    (table : List Word) → AllComplete es → AreSameCalls es table → FitTable table → Holds es table
unfolding one_by_one
holds sandbox is_boxed rewriting sealed [] table complete same fit =
    record { fit = fit; written = tt }
holds sandbox is_boxed rewriting sealed (e ∷ earlier) table complete same fit =
    let rest = holds sandbox is_boxed rewriting sealed earlier table complete.1 same.1 fit in
    let s = e.story in
    let told = complete.0.told in
    let before = one_by_one earlier table in
    let is : IsSameCall e before = same.0 in
    let turn = answered_in_turn s s.answers before told.given in
    let answer : (outcome s.plugin s.request s.fed s.segment (words_of s.answers) before).answer
    ≡ e.answer =
    ap (λ (f : Found). f.answer) (sym turn) ∙ is.answer in
    let kind = ap (λ (a : Answer). a.kind) answer ∙ complete.0.kind in
    record {
      fit = subst (λ (f : Found). FitTable f.table) (sym turn)
          (left_fits s.plugin s.request s.fed s.segment (words_of s.answers) before told.request
          rest.fit told.words kind);
      written = (
        λ text image compiled p keys keep spells boxed loads size.
            program_ended sandbox is_boxed rewriting sealed text image compiled p keys keep s.plugin
            s.request s.fed s.segment (words_of s.answers) before spells boxed loads size
            told.request rest.fit told.words kind
            ∙ ap (λ (a : Answer). Some (Answered a.r0 a.r1)) answer,
        rest.written,
      );
    }

pub completed : Sandbox → RewrittenIsBoxed → Rewriting → SealedImagesLoad → CallsAreOneAtATime →
    CompletedCallsAreAsWritten
completed sandbox is_boxed rewriting sealed law events table free fit events_fit =
    (holds sandbox is_boxed rewriting sealed (after events table).ended table
    (all_honest events table events_fit).ended (law events table free).calls fit).written
