-- Where a call in flight stands in a sound kernel that rests, and the note of it.
use Rattle.std.specs.Prelude.{◌≡◌, ℕ, suc, ◌≤◌, ◌==◌, ◌||◌, Bool, true, false, List, [], ◌∷◌}
use Rattle.std.specs.Prelude.{length, is_some, Contains, Option, Some, None}
use Rattle.std.proofs.Common.{arith, refl, subst, sym, ap, ◌∙◌, inl, inr}
use Rattle.std.proofs.lemmas.Bool.{cases_Bool, eqb-true}
use Rattle.script_model.specs.declared.Note.{Note}
use Rattle.script_model.specs.declared.Note.TheVariants.{Waits, InGraft}
use Rattle.script_model.specs.World.{Blocks}
use Rattle.script_model.specs.Meaning.{Meaning}
use Rattle.script_model.specs.Levels.{Level}
use Rattle.script_model.specs.History.{Mark, Trace}
use Rattle.script_model.specs.Kernel.{Call, Blocker, Waiter, Kernel, Run, noted, is_at_piece}
use Rattle.script_model.specs.Blocking.{config_in, levels_in, trace_of, config_of, levels_of, blocker}
use Rattle.script_model.specs.Events.{in_order, waits_note, graft_note, last_note}
use Rattle.script_model.specs.Sound.{count_of, in_the_order, IsSoundKernel, IsAtRest, HasWholeBlocks}
use Rattle.script_model.specs.Laws.{Laws}
use Rattle.graft_laws.proofs.OrderLemmas.{count_away}
use Rattle.graft_laws.proofs.OwnCallLemmas.{calls_replay}
use Rattle.graft_laws.proofs.SettleSoundLemmas.{away_from}
use Rattle.graft_laws.specs.Notes.{is_end}
use Rattle.graft_laws.proofs.SoundCallLemmas.{contains_first, contains_later}
use Rattle.session_laws.specs.NoteNumbers.{number_of, is_answer}
use Rattle.session_laws.specs.Answers.{SaysWhere}
use Rattle.kernel_laws.proofs.FrameLemmas.{contrary}

-- an entry of a process in the order
entry_of : (p : ℕ) (es : List Waiter) → in_order p es ≡ true →
    (e : Waiter) × Contains es e × (e.process ≡ p)
entry_of p [] h = absurd (contrary (sym h))
entry_of p (e ∷ es) h = by_test (e.process == p) refl (entry_of p es)
  where
    by_test : (b : Bool) → (e.process == p) ≡ b →
        (in_order p es ≡ true → (f : Waiter) × Contains es f × (f.process ≡ p)) →
        (f : Waiter) × Contains (e ∷ es) f × (f.process ≡ p)
    by_test true is further = (e, contains_first e es, eqb-true e.process p is)
    by_test false is further =
        let f = further (sym (ap (λ t. t || in_order p es) is) ∙ h) in
        (f.0, contains_later e f.0 es f.1, f.2)

-- what the last note of an event says of a call in flight
pub record IsPlace (m : Meaning) (k : Kernel) (p : ℕ) (c : Call) : Type 0 where
  pub note : Note
  pub number : number_of note ≡ c.number
  pub answers : is_answer note ≡ true
  pub no_end : is_end note ≡ false
  pub says : SaysWhere m k p note
  pub is : (r : Run) → r.kernel ≡ k → last_note m p (Some c) r ≡ noted note r

module _ (m : Meaning) (laws : Laws m) where
  -- a call in the order waits, for what it keeps as its blocker
  waits_place : (k : Kernel) (p : ℕ) (c : Call) → IsAtRest m k → in_order p k.order ≡ true →
      IsPlace m k p c
  waits_place k p c rests inside =
      let e = entry_of p k.order inside in
      let rest = rests e.0 e.1 in
      by_blocker e.0.blocker rest.0 (sym (ap (blocker m k) e.2) ∙ rest.1)
    where
      by_blocker : (x : Option Blocker) → is_some x ≡ true → blocker m k p ≡ x → IsPlace m k p c
      by_blocker None some is = absurd (contrary (sym some))
      by_blocker (Some b) some is =
          record {
            note = Waits c.number b.object b.holder;
            number = refl;
            answers = refl;
            no_end = refl;
            says = (inside, b, is, refl, refl);
            is = λ r same.
                ap (λ (y : Kernel). elim (in_order p y.order) as (λ _. Run) [
                  | true ↦ waits_note c.number (blocker m y p) r
                  | false ↦ graft_note c.number (levels_of m y p) r
                ]) same
                ∙ ap (λ (test : Bool). elim test as (λ _. Run) [
                  | true ↦ waits_note c.number (blocker m k p) r
                  | false ↦ graft_note c.number (levels_of m k p) r
                ]) inside
                ∙ ap (λ y. waits_note c.number y r) is;
          }

  -- a call that isn't there is in a graft
  graft_place : (k : Kernel) (blocks : Blocks) (p : ℕ) (c : Call) → IsSoundKernel m k →
      HasWholeBlocks k.world blocks → k.call p ≡ Some c → in_order p k.order ≡ false → IsPlace m k p c
  graft_place k blocks p c sound whole is away =
      by_levels (levels_of m k p) refl (by_marks c.marks refl)
    where
      r : Run
      r = record { kernel = k; blocks = blocks; notes = []; io = [] }

      none_is_one : (n : ℕ) → n ≡ 0 → n ≡ 1 → ⊥
      none_is_one n e f = omega (arith, e, f)

      at_piece : c.marks ≡ None → is_at_piece (k.call p) ≡ true
      at_piece none =
          ap is_at_piece is
          ∙ ap (λ (x : Option (List Mark)). elim x as (λ _. Bool) [ None ↦ true | Some ks ↦ false ]) none

      by_trace : (t : Option Trace) → trace_of m k p (Some c) ≡ t → is_some t ≡ true →
          1 ≤ length (levels_of m k p)
      by_trace None e some = absurd (contrary (sym some))
      by_trace (Some t) e some =
          let config : config_of m k p ≡ Some t.config = ap (λ x. config_in (trace_of m k p x)) is ∙ ap config_in e in
          subst (λ ls. 1 ≤ length ls) (sym (ap levels_in config))
          (calls_replay m r p t.config laws (record { kernel = sound; blocks = whole }) config).sound.some

      by_marks : (x : Option (List Mark)) → c.marks ≡ x → 1 ≤ length (levels_of m k p)
      by_marks None none =
          absurd
          (none_is_one (count_of p (in_the_order k)) (count_away p k.order (away_from p k.order away))
          (sound.pieces p (at_piece none)))
      by_marks (Some ks) marked = by_trace (trace_of m k p (Some c)) refl (sound.runs p c ks is marked)

      nothing : 1 ≤ 0 → ⊥
      nothing h = omega (arith, h)

      by_levels : (ls : List Level) → levels_of m k p ≡ ls → 1 ≤ length (levels_of m k p) → IsPlace m k p c
      by_levels [] e some = absurd (nothing (subst (λ ls. 1 ≤ length ls) e some))
      by_levels (l ∷ outer) e some =
          record {
            note = InGraft c.number l.owner l.point (suc (length outer));
            number = refl;
            answers = refl;
            no_end = refl;
            says = (away, l, outer, e, refl, refl, refl);
            is = λ r same.
                ap (λ (y : Kernel). elim (in_order p y.order) as (λ _. Run) [
                  | true ↦ waits_note c.number (blocker m y p) r
                  | false ↦ graft_note c.number (levels_of m y p) r
                ]) same
                ∙ ap (λ (test : Bool). elim test as (λ _. Run) [
                  | true ↦ waits_note c.number (blocker m k p) r
                  | false ↦ graft_note c.number (levels_of m k p) r
                ]) away
                ∙ ap (λ ls. graft_note c.number ls r) e;
          }

  pub call_place : (k : Kernel) (blocks : Blocks) (p : ℕ) (c : Call) → IsSoundKernel m k →
      IsAtRest m k → HasWholeBlocks k.world blocks → k.call p ≡ Some c → IsPlace m k p c
  call_place k blocks p c sound rests whole is = elim (cases_Bool (in_order p k.order)) [
    | inl inside ↦ waits_place k p c rests inside
    | inr away ↦ graft_place k blocks p c sound whole is away
  ]
