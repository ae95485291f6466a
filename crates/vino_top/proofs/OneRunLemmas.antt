-- Proofs that what a run writes is one function of what it was given.
use Rattle.std.specs.Prelude.{◌≡◌, ◌≤◌, ℕ, zero, suc, ◌+◌, ◌-◌, Bool, List, [], ◌∷◌, ◌++◌, length}
use Rattle.std.specs.Prelude.{flat_map, Option, Some, None}
use Rattle.std.proofs.Common.{arith, refl, subst, sym, ap, ◌∙◌, ◌⊎◌, inl, inr, length-append}
use Rattle.std.proofs.lemmas.Bool.{cases_lt}
use Rattle.std.specs.Io.KnownBytes.{Appends}
use Rattle.vino_base.specs.Calls.{Plan, after_call, call_fails}
use Rattle.call_pieces.specs.Calls.{Knows, blocks_in, planned, plan_after}
use Rattle.script_model.specs.Session.{Session}
use Rattle.script_model.specs.Outcome.{Outcome, written}
use Rattle.vino_top.specs.Run.{Place, Uses, UsesAll, IsFirst, line_run, first_on, outcome_at, script_lines}
use Rattle.vino_top.specs.OneRun.{all_calls, ArePlanned, CallsAreOne, RunSeen, IsRun, BeginsOver, EndAlike, RunsAreOne}

-- ---- what a plan gives

-- first some calls, and then more
planned_both : (n k : ℕ) (p : Plan) → planned (n + k) p ≡ planned n p ++ planned k (plan_after n p)
planned_both zero k p = ap (λ n. planned n p) (omega arith)
planned_both (suc n) k p =
    let count : suc n + k ≡ suc (n + k) = omega arith in
    ap (λ m. planned m p) count ∙ ap (λ io. call_fails p ∷ io) (planned_both n k (after_call p))

-- of a list that begins and goes on, the beginning, and what is behind it
first_same : (x y : Bool) (xs ys : List Bool) → x ∷ xs ≡ y ∷ ys → x ≡ y
first_same x y xs ys e = cc

rest_same : (x y : Bool) (xs ys : List Bool) → x ∷ xs ≡ y ∷ ys → xs ≡ ys
rest_same x y xs ys e = cc

-- calls that are planned are planned from their beginning on, and those behind a beginning from there on
front_planned : (xs ys : List Bool) (p : Plan) → ArePlanned p (xs ++ ys) → ArePlanned p xs
front_planned [] ys p h = refl
front_planned (x ∷ xs) ys p h =
    let tail = front_planned xs ys (after_call p)
    (rest_same x (call_fails p) (xs ++ ys) (planned (length (xs ++ ys)) (after_call p)) h) in
    ap (λ b. b ∷ xs) (first_same x (call_fails p) (xs ++ ys)
    (planned (length (xs ++ ys)) (after_call p)) h) ∙ ap (λ io. call_fails p ∷ io) tail

back_planned : (xs ys : List Bool) (p : Plan) → ArePlanned p (xs ++ ys) → ArePlanned (plan_after (length xs) p) ys
back_planned [] ys p h = h
back_planned (x ∷ xs) ys p h =
    back_planned xs ys (after_call p)
    (rest_same x (call_fails p) (xs ++ ys) (planned (length (xs ++ ys)) (after_call p)) h)

-- ---- one line

-- a list that goes on with nothing
none_behind : (io rest : List Bool) → rest ≡ [] → io ++ rest ≡ io
none_behind [] rest e = e
none_behind (x ∷ io) rest e = ap (λ xs. x ∷ xs) (none_behind io rest e)

-- of two lists that a plan gives, the longer goes on behind the shorter; if the line makes its
-- calls by both, it is no longer
no_longer : (c : Place) (p : Plan) (a : Session) (text : List ℕ) (io jo : List Bool) →
    length io ≤ length jo → ArePlanned p io → ArePlanned p jo →
    Uses c a text io → Uses c a text jo → io ≡ jo
no_longer c p a text io jo few first second one other =
    let k = length jo - length io in
    let rest = planned k (plan_after (length io) p) in
    let goes_on : jo ≡ io ++ rest =
    second ∙ ap (λ n. planned n p) (omega (arith, few)) ∙ planned_both (length io) k p
    ∙ ap (λ xs. xs ++ rest) (sym first) in
    let left : rest ≡ [] =
    sym (one.left rest)
    ∙ ap (λ xs. (line_run c a text xs).io) (sym goes_on ∙ sym (none_behind jo [] refl))
    ∙ other.left [] in
    sym (none_behind io rest left) ∙ sym goes_on

-- the list of a line is one
line_is_one : (c : Place) (p : Plan) (a : Session) (text : List ℕ) (io jo : List Bool) →
    ArePlanned p io → ArePlanned p jo →
    Uses c a text io → Uses c a text jo → io ≡ jo
line_is_one c p a text io jo first second one other = elim (cases_lt (length jo) (length io)) [
  | inl less ↦ sym (no_longer c p a text jo io (omega (arith, less)) second first other one)
  | inr more ↦ no_longer c p a text io jo (omega (arith, more)) first second one other
]

-- ---- all lines

pub calls_are_one : CallsAreOne
calls_are_one c p a [] [] [] n m used made first second = refl
calls_are_one c p a [] [] (jo ∷ jos) n m used made first second = absurd (omega (arith, m))
calls_are_one c p a [] (io ∷ ios) jos n m used made first second = absurd (omega (arith, n))
calls_are_one c p a (text ∷ lines) [] jos n m used made first second = absurd (omega (arith, n))
calls_are_one c p a (text ∷ lines) (io ∷ ios) [] n m used made first second = absurd (omega (arith, m))
calls_are_one c p a (text ∷ lines) (io ∷ ios) (jo ∷ jos) n m used made first second =
    let same : io ≡ jo =
    line_is_one c p a text io jo (front_planned io (all_calls ios) p first)
    (front_planned jo (all_calls jos) p second) used.0 made.0 in
    let later = subst (λ xs. UsesAll c (line_run c a text xs).session lines jos) (sym same) made.1 in
    let behind = subst (λ (xs : List Bool). ArePlanned (plan_after (length xs) p) (all_calls jos))
    (sym same) (back_planned jo (all_calls jos) p second) in
    let rest : ios ≡ jos =
    calls_are_one c (plan_after (length io) p) (line_run c a text io).session lines ios jos
    (omega (arith, n)) (omega (arith, m)) used.1 later
    (back_planned io (all_calls ios) p first) behind in
    ap (λ (x : List Bool). x ∷ ios) same ∙ ap (λ (xs : List (List Bool)). jo ∷ xs) rest

-- ---- runs

-- the session before the first line, over a disk that tells these blocks
begins : (c : Place) (bs : List (List ℕ)) (known : Option (List (List ℕ))) → known ≡ Some bs →
    IsFirst c.size known (first_on c.size (blocks_in bs))
begins c bs known e =
    subst (λ t. IsFirst c.size t (first_on c.size (blocks_in bs))) (sym e)
    (record { session = refl; blocks = refl })

-- runs come to the same
pub runs_are_one : RunsAreOne
runs_are_one c bs p x y one other here there bytes ended =
    let a = first_on c.size (blocks_in bs) in
    let from = begins c bs x.disk.known here.known in
    let to = begins c bs y.disk.known there.known in
    let same : one.ios ≡ other.ios =
    calls_are_one c p a (script_lines one.taken) one.ios other.ios one.one_each
    (subst (λ t. length other.ios ≡ length (script_lines t)) (sym bytes) other.one_each) (one.used a from)
    (subst (λ t. UsesAll c a (script_lines t) other.ios) (sym bytes) (other.used a to))
    (one.calls.calls p here.plan) (other.calls.calls p there.plan) in
    let outcomes : outcome_at c a.blocks one.taken one.ending one.ios
    ≡ outcome_at c a.blocks other.taken other.ending other.ios =
    ap (λ t. outcome_at c a.blocks t one.ending one.ios) bytes
    ∙ ap (λ e. outcome_at c a.blocks other.taken e one.ios) ended
    ∙ ap (λ ios. outcome_at c a.blocks other.taken other.ending ios) same in
    record {
      status = one.status_is a from ∙ ap (λ (o : Outcome). o.status) outcomes ∙ sym (other.status_is a to);
      bytes = written (outcome_at c a.blocks one.taken one.ending one.ios);
      first = one.appended a from;
      second =
          subst (λ (o : Outcome). Appends y.sink.got y.sink_new.got (written o)) (sym outcomes)
          (other.appended a to);
      blocks = (outcome_at c a.blocks one.taken one.ending one.ios).blocks;
      first_blocks = one.blocks a from;
      second_blocks = subst (λ (o : Outcome). Knows y.disk_new.known o.blocks) (sym outcomes) (other.blocks a to);
      plan =
          one.calls.plan_is p here.plan
          ∙ ap (λ (ios : List (List Bool)). Some (plan_after (length (all_calls ios)) p)) same
          ∙ sym (other.calls.plan_is p there.plan);
    }
