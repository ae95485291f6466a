-- Many calls at once over the same words: any interleaving of beginnings, answers and ends. The calls
-- that completed are as if they had been made one at a time, each from its beginning to its end, in the
-- order in which they ended.
use Rattle.std.specs.Prelude.{◌≡◌, ⊤, ℕ, zero, suc, ◌==◌, Bool, true, false, cond, ◌&&◌, ◌||◌, not}
use Rattle.std.specs.Prelude.{List, [], ◌∷◌, None, Some, slice_get}
use Rattle.vino_host.specs.declared.Answer.{Answer}
use Rattle.vino_host.specs.declared.Record.{Record}
use Rattle.vino_host.specs.declared.Request.{Request}
use Rattle.vino_host.specs.declared.Word.{Word}
use Rattle.vino_host.specs.Codes.{RETURNED, is_refusal}
use Rattle.vino_host.specs.Calls.{Pause, Found, call_says, resumed, is_call}

-- ---- one call by itself

-- all that a host gives a call: how it begins, and the answers to what it calls, newest first
pub record Story : Type 0 where
  pub plugin : List ℕ
  pub request : Request
  pub fed : List ℕ
  pub segment : List ℕ
  pub answers : List (ℕ × ℕ)

-- what a call leaves after one more answer, if it waits for one
abbrev pub after_answer : (plugin : List ℕ) → (how x : ℕ) → Found → Found
after_answer plugin how x f =
    elim f.pause [
      | None ↦ f
      | Some p ↦ resumed plugin p how x f.table
    ]

-- what a call leaves of a table after these answers, where nothing else happens meanwhile
unfoldable pub alone : Story → (answers : List (ℕ × ℕ)) → List Word → Found
alone s [] table = call_says s.plugin s.request s.fed s.segment table
alone s (a ∷ earlier) table = after_answer s.plugin a.0 a.1 (alone s earlier table)

-- a call made at once, from its beginning to its last answer
abbrev pub whole : Story → List Word → Found
whole s table = alone s s.answers table

-- ---- many calls

-- a call that waits
pub record Waiting : Type 0 where
  pub story : Story
  pub pause : Pause

-- a call that completed, and what its caller found
pub record Ending : Type 0 where
  pub story : Story
  pub answer : Answer
  pub segment : ℕ → ℕ

-- the words, the calls that wait, and those that completed, newest first
pub record World : Type 0 where
  pub table : List Word
  pub waiting : List Waiting
  pub ended : List Ending

-- the number of a call that waits
abbrev pub number_of : Waiting → ℕ
number_of c = c.pause.frame.number

-- no call that waits has this number
abbrev pub is_new : (number : ℕ) → List Waiting → Bool
is_new number [] = true
is_new number (c ∷ cs) = not (number_of c == number) && is_new number cs

-- a list without what stands at a place
abbrev pub without : (place : ℕ) → List Waiting → List Waiting
without place [] = []
without zero (c ∷ cs) = cs
without (suc place) (c ∷ cs) = c ∷ without place cs

-- what happens: a call begins, or the call at a place of those that wait is answered
pub data Event : Type 0 where
  Begins : (plugin : List ℕ) → Request → (fed segment : List ℕ) → Event
  Answers : (place how x : ℕ) → Event

-- a world in which a call stopped: it waits, completed, or is dropped and leaves no trace
abbrev pub after_stop : List Ending → (others : List Waiting) → Story → Found → World
after_stop ended others s f =
    elim f.pause [
      | Some p ↦ record {
        table = f.table;
        waiting = record { story = s; pause = p } ∷ others;
        ended = ended;
      }
      | None ↦ record {
        table = f.table;
        waiting = others;
        ended = cond (f.answer.kind == RETURNED)
            (record { story = s; answer = f.answer; segment = f.segment } ∷ ended) ended;
      }
    ]

-- a call as it begins
abbrev pub begun_story : (plugin : List ℕ) → Request → (fed segment : List ℕ) → Story
begun_story plugin request fed segment =
    record { plugin = plugin; request = request; fed = fed; segment = segment; answers = [] }

-- a call with one more answer
abbrev pub answered_story : Story → (how x : ℕ) → Story
answered_story s how x =
    record {
      plugin = s.plugin;
      request = s.request;
      fed = s.fed;
      segment = s.segment;
      answers = (how, x) ∷ s.answers;
    }

-- A world after what happened. A call begins where it is asked for as it must be, and its number is
-- that of no call that waits; an answer is a word (0) or a refusal. All else does nothing.
abbrev pub after_event : World → Event → World
after_event w (Begins plugin request fed segment) =
    elim (is_call request fed && is_new request.number w.waiting) [
      | true ↦ after_stop w.ended w.waiting (begun_story plugin request fed segment)
          (call_says plugin request fed segment w.table)
      | false ↦ w
    ]
after_event w (Answers place how x) =
    elim (slice_get w.waiting place) [
      | None ↦ w
      | Some c ↦ elim (how == 0 || is_refusal how) [
        | true ↦ after_stop w.ended (without place w.waiting) (answered_story c.story how x)
            (resumed c.story.plugin c.pause how x w.table)
        | false ↦ w
      ]
    ]

-- a world after events, newest first, that began with a table and no call
unfoldable pub after : List Event → List Word → World
after [] table = record { table = table; waiting = []; ended = [] }
after (e ∷ earlier) table = after_event (after earlier table) e

-- ---- the claim

-- the table after calls one at a time, newest first
unfoldable pub one_by_one : List Ending → List Word → List Word
one_by_one [] table = table
one_by_one (e ∷ earlier) table = (whole e.story (one_by_one earlier table)).table

-- a call, made at once over this table, completes with the same answer and the same segment
pub record IsSameCall (e : Ending) (table : List Word) : Type 0 where
  pub answer : (whole e.story table).answer ≡ e.answer
  pub segment : (whole e.story table).segment ≡ e.segment
  pub ends : (whole e.story table).pause ≡ None

-- each call that completed is the same after those that completed before it
abbrev pub AreSameCalls : List Ending → List Word → Type 0
AreSameCalls [] table = ⊤
AreSameCalls (e ∷ earlier) table = IsSameCall e (one_by_one earlier table) × AreSameCalls earlier table

-- a place has a record
abbrev pub touches : List Record → ℕ → Bool
touches [] k = false
touches (r ∷ rs) k = r.place == k || touches rs k

-- a call that waits touched a word
abbrev pub is_touched : List Waiting → ℕ → Bool
is_touched [] k = false
is_touched (c ∷ cs) k = touches c.pause.records k || is_touched cs k

-- no call changed or read a word
abbrev pub IsFree : List Word → Type 0
IsFree table = (k : ℕ) (w : Word) → slice_get table k ≡ Some w → (w.owner ≡ 0) × (w.readers ≡ 0)

-- Whatever happens over words that belong to nobody at first: each call that completed gave what it
-- gives one at a time, in the order of the ends; and each word that no waiting call touched is as
-- these calls leave it one at a time. So where none waits, all words are.
pub record IsOneAtATime (events : List Event) (table : List Word) : Type 0 where
  pub calls : AreSameCalls (after events table).ended table
  pub words : (k : ℕ) → is_touched (after events table).waiting k ≡ false →
      slice_get (after events table).table k ≡ slice_get (one_by_one (after events table).ended table) k

abbrev pub CallsAreOneAtATime : Type 0
CallsAreOneAtATime = (events : List Event) (table : List Word) → IsFree table → IsOneAtATime events table
