-- An event leaves few notes.
use Rattle.std.specs.Prelude.{◌≡◌, ℕ, zero, suc, ◌+◌, ◌≤◌, ◌&&◌, nat_le, Bool, true, false}
use Rattle.std.specs.Prelude.{cond, List, [], ◌∷◌, ◌++◌, length, Option, Some, None, is_some}
use Rattle.std.specs.Prelude.{Result, Ok, Err}
use Rattle.std.specs.Result.{is_ok}
use Rattle.std.proofs.Common.{arith, refl, subst, sym, ap, ◌∙◌, inl, inr}
use Rattle.std.proofs.lemmas.Bool.{cases_eq}
use Rattle.kernel_model.specs.declared.Event.{Event}
use Rattle.kernel_model.specs.declared.Event.TheVariants.{Tick, Step, Sys}
use Rattle.kernel_model.specs.declared.Note.{Note}
use Rattle.kernel_model.specs.declared.Note.TheVariants.{Ticked, Refused, Ran, Waits, InGraft}
use Rattle.kernel_model.specs.declared.Refusal.{Refusal}
use Rattle.kernel_model.specs.declared.Refusal.TheVariants.{NoProcess, Busy, BadIndex}
use Rattle.kernel_model.specs.declared.SysCall.{SysCall}
use Rattle.kernel_model.specs.World.{Blocks}
use Rattle.kernel_model.specs.Policies.{lives}
use Rattle.kernel_model.specs.Meaning.{Meaning, Stage}
use Rattle.kernel_model.specs.Levels.{Level}
use Rattle.kernel_model.specs.Kernel.{Call, Blocker, Kernel, Run, noted, joins, with_call}
use Rattle.kernel_model.specs.Blocking.{levels_of, blocker}
use Rattle.kernel_model.specs.Settle.{settled}
use Rattle.kernel_model.specs.Events.{MOST_STEPS, in_order, waits_note, graft_note, ticked}
use Rattle.kernel_model.specs.Events.{last_note, begun, sys_event, steps, step_event, actions}
use Rattle.kernel_model.specs.Events.{event_on}
use Rattle.kernel_model.specs.Sound.{IsSoundKernel, HasWholeBlocks, once_if, sum_below}
use Rattle.kernel_model.specs.Laws.{Laws}
use Rattle.kernel_model.specs.Claims.{EffectsStaySound}
use Rattle.call_laws.specs.Ledgers.{at_here, at_other}
use Rattle.kernel_laws.specs.Soundness.{InstructionsWork, HistoriesWork}
use Rattle.graft_laws.specs.Notes.{is_end, is_data, is_line, note_count, AreFewButDrops, LeavesFewNotes}
use Rattle.graft_laws.proofs.MoveLemmas.{count_more, Stands, StandsAt}
use Rattle.graft_laws.proofs.GoLemmas.{pieces_left, calls_left, Goes, goes_self, settled_goes, steps_go, actions_go}
use Rattle.kernel_laws.proofs.SettleLemmas.{left_of, sum_most}
use Rattle.call_laws.specs.AskRanges.{once_few}

-- ---- sums

pub sum_ones : (n : ℕ) (f : ℕ → ℕ) → ((i : ℕ) → f i ≤ 1) → sum_below n f ≤ n
unfolding sum_below
sum_ones zero f h = omega arith
sum_ones (suc n) f h = let k = sum_ones n f h in let e = h n in omega arith

-- at most 16 calls are in flight
calls_most : (call : ℕ → Option Call) → calls_left call ≤ 16
calls_most call = sum_ones 16 (λ p. once_if (is_some (call p))) (λ p. once_few (is_some (call p)))

-- ---- a line more

-- the notes of a run, apart from drops, are at most so many lines beside 16 ends and 240 of bytes
record AreFew (most : ℕ) (notes : List Note) : Type 0 where
  ends : note_count is_end notes ≤ 16
  data_notes : note_count is_data notes ≤ 240
  lines : note_count is_line notes ≤ most

-- one refusal
one_refusal : (n : ℕ) (why : Refusal) → AreFew 0 (Refused n why ∷ [])
one_refusal n why = record { ends = one_few; data_notes = none_few; lines = no_line }
  where
    one_few : 1 ≤ 16
    one_few = omega arith

    none_few : 0 ≤ 240
    none_few = omega arith

    no_line : 0 ≤ 0
    no_line = omega arith

-- a line more
one_line : (l : ℕ) (ns : List Note) (x : Note) → is_end x ≡ false → is_data x ≡ false →
    is_line x ≡ true → AreFew l ns → AreFew (suc l) (ns ++ x ∷ [])
one_line l ns x no_end no_data line h =
    record {
      ends =
          as_many (note_count is_end (ns ++ x ∷ [])) (note_count is_end ns) (note_count is_end
          (x ∷ [])) 16 (count_more is_end ns (x ∷ [])) (ap (λ b. cond b 1 0) no_end) h.ends;
      data_notes =
          as_many (note_count is_data (ns ++ x ∷ [])) (note_count is_data ns)
          (note_count is_data (x ∷ [])) 240 (count_more is_data ns (x ∷ []))
          (ap (λ b. cond b 1 0) no_data) h.data_notes;
      lines =
          one_more (note_count is_line (ns ++ x ∷ [])) (note_count is_line ns) (note_count is_line
          (x ∷ [])) l (count_more is_line ns (x ∷ [])) (ap (λ b. cond b 1 0) line) h.lines;
    }
  where
    as_many : (n a b most : ℕ) → n ≡ a + b → b ≡ 0 → a ≤ most → n ≤ most
    as_many n a b most e f h = omega arith

    one_more : (n a b l : ℕ) → n ≡ a + b → b ≡ 1 → a ≤ l → n ≤ suc l
    one_more n a b l e f h = omega arith

-- fewer lines are no more
more_lines : (l k : ℕ) (ns : List Note) → l ≤ k → AreFew l ns → AreFew k ns
more_lines l k ns le h =
    record {
      ends = h.ends;
      data_notes = h.data_notes;
      lines = at_most (note_count is_line ns) l k h.lines le;
    }
  where
    at_most : (n l k : ℕ) → n ≤ l → l ≤ k → n ≤ k
    at_most n l k h e = omega arith

module _ (m : Meaning) (laws : Laws m) where
  -- ---- calls that stand

  pieces_most : (r : Run) → StandsAt m r → pieces_left m r.kernel.world r.kernel.objects r.kernel.call ≤ 240
  pieces_most r h =
      sum_most 16 (λ p. left_of m r.kernel.world r.kernel.objects p (r.kernel.call p))
      (λ p. few_of p (r.kernel.call p) refl)
    where
      few_of : (p : ℕ) (x : Option Call) → r.kernel.call p ≡ x → left_of m r.kernel.world r.kernel.objects p x ≤ 15
      few_of p None e = omega arith
      few_of p (Some c) e =
          (laws.stages.some_left r.kernel.world r.kernel.images r.kernel.objects p c.stage
          (record { store = h.store; caller = h.callers p c e; granted = h.granted p c e; fits = h.fit p c e })).1

  -- what a run writes that begins with no more than some lines
  writes_few : (l : ℕ) (r u : Run) → StandsAt m r → note_count is_end r.notes ≡ 0 →
      note_count is_data r.notes ≡ 0 → note_count is_line r.notes ≡ l → Goes m r u →
      AreFew l u.notes
  writes_few l r u h no_end no_data lines g =
      subst (AreFew l) (sym g.notes) (record {
        ends =
            paid (note_count is_end (r.notes ++ g.new)) (note_count is_end r.notes)
            (note_count is_end g.new) (calls_left u.kernel.call) (calls_left r.kernel.call) 16
            (count_more is_end r.notes g.new) no_end g.ends (calls_most r.kernel.call);
        data_notes =
            paid (note_count is_data (r.notes ++ g.new)) (note_count is_data r.notes)
            (note_count is_data g.new)
            (pieces_left m u.kernel.world u.kernel.objects u.kernel.call)
            (pieces_left m r.kernel.world r.kernel.objects r.kernel.call) 240
            (count_more is_data r.notes g.new) no_data g.data_notes (pieces_most r h);
        lines =
            as_many (note_count is_line (r.notes ++ g.new)) (note_count is_line r.notes)
            (note_count is_line g.new) l (count_more is_line r.notes g.new) lines g.lines;
      })
    where
      paid : (n a b x y most : ℕ) → n ≡ a + b → a ≡ 0 → b + x ≤ y → y ≤ most → n ≤ most
      paid n a b x y most e f g h = omega arith

      as_many : (n a b l : ℕ) → n ≡ a + b → a ≡ l → b ≡ 0 → n ≤ l
      as_many n a b l e f g = omega arith

  -- ---- the last line

  last_few : (l p : ℕ) (x : Option Call) (r : Run) → AreFew l r.notes → AreFew (suc l) (last_note m p x r).notes
  last_few l p None r h = more_lines l (suc l) r.notes (one_up l) h
    where
      one_up : (l : ℕ) → l ≤ suc l
      one_up l = omega arith
  last_few l p (Some c) r h = last_by (in_order p r.kernel.order)
    where
      waits_few : (b : Option Blocker) → AreFew (suc l) (waits_note c.number b r).notes
      waits_few None = more_lines l (suc l) r.notes (one_up l) h
        where
          one_up : (l : ℕ) → l ≤ suc l
          one_up l = omega arith
      waits_few (Some b) = one_line l r.notes (Waits c.number b.object b.holder) refl refl refl h

      graft_few : (ls : List Level) → AreFew (suc l) (graft_note c.number ls r).notes
      graft_few [] = more_lines l (suc l) r.notes (one_up l) h
        where
          one_up : (l : ℕ) → l ≤ suc l
          one_up l = omega arith
      graft_few (x ∷ ls) = one_line l r.notes (InGraft c.number x.owner x.point (suc (length ls))) refl refl refl h

      last_by : (b : Bool) →
          AreFew (suc l) (elim b as (λ _. Run) [
            | true ↦ waits_note c.number (blocker m r.kernel p) r
            | false ↦ graft_note c.number (levels_of m r.kernel p) r
          ]).notes
      last_by true = waits_few (blocker m r.kernel p)
      last_by false = graft_few (levels_of m r.kernel p)

  -- ---- a call that begins

  -- the call of a process that has none
  pub begun_stands : (number p : ℕ) (call : SysCall) (t : Stage) (r : Run) → StandsAt m r →
      lives r.kernel.objects.things.queue p ≡ true →
      m.early r.kernel.world r.kernel.images p call ≡ Ok t → StandsAt m
      (joins p (with_call p (Some (record { number = number; stage = t; marks = None })) r))
  begun_stands number p call t r h alive e =
      let v = r.kernel.world in
      let s = r.kernel.objects in
      let new : Call = record { number = number; stage = t; marks = None } in
      record {
        store = h.store;
        disk = h.disk;
        whole = h.whole;
        callers = λ q c f. elim (cases_eq q p) [
          | inl same ↦ ap (lives s.things.queue) same ∙ alive
          | inr ne ↦ h.callers q c (sym (at_other p q (Some new) r.kernel.call ne) ∙ f)
        ];
        granted = λ q c f. elim (cases_eq q p) [
          | inl same ↦ ap (λ (x : Call). is_ok (m.early v r.kernel.images q x.stage.call)) (sym (own_is q c same f))
              ∙ ap (λ i. is_ok (m.early v r.kernel.images i t.call)) same
              ∙ ap (λ x. is_ok (m.early v r.kernel.images p x))
              (laws.stages.same_call v r.kernel.images p call t e) ∙ ap is_ok e
          | inr ne ↦ h.granted q c (sym (at_other p q (Some new) r.kernel.call ne) ∙ f)
        ];
        fit = λ q c f. elim (cases_eq q p) [
          | inl same ↦ ap (λ (x : Call). m.fits v s q x.stage) (sym (own_is q c same f))
              ∙ ap (λ i. m.fits v s i t) same ∙ laws.stages.first v r.kernel.images s p call t e
          | inr ne ↦ h.fit q c (sym (at_other p q (Some new) r.kernel.call ne) ∙ f)
        ];
      }
    where
      same_some : (x y : Call) → Some x ≡ Some y → x ≡ y
      same_some x y h = cc

      own_is : (q : ℕ) (c : Call) → q ≡ p → (with_call p
          (Some (record { number = number; stage = t; marks = None })) r).kernel.call q ≡ Some c →
          record { number = number; stage = t; marks = None } ≡ c
      own_is q c same f =
          let new : Call = record { number = number; stage = t; marks = None } in
          same_some new c (sym (at_here p (Some new) r.kernel.call)
          ∙ ap (with_call p (Some new) r).kernel.call (sym same) ∙ f)

  module _ (instructions : InstructionsWork) (histories : HistoriesWork m) (effects : EffectsStaySound) where
    -- ---- events

    -- a run that has written nothing
    writes_none : (r u : Run) → StandsAt m r → r.notes ≡ [] → Goes m r u → AreFew 0 u.notes
    writes_none r u h none g =
        writes_few 0 r u h (ap (note_count is_end) none) (ap (note_count is_data) none)
        (ap (note_count is_line) none) g

    begun_few : (number p : ℕ) (call : SysCall) (x : Result Stage Refusal) (r : Run) →
        StandsAt m r → r.notes ≡ [] → lives r.kernel.objects.things.queue p ≡ true →
        m.early r.kernel.world r.kernel.images p call ≡ x → AreFew 0 (begun m number p x r).notes
    begun_few number p call (Err why) r h none alive e =
        subst (λ ns. AreFew 0 (ns ++ Refused number why ∷ [])) (sym none) (one_refusal number why)
    begun_few number p call (Ok t) r h none alive e =
        let u = joins p (with_call p (Some (record { number = number; stage = t; marks = None })) r) in
        let stands = begun_stands number p call t r h alive e in
        writes_none u (settled m u) stands none (settled_goes m laws instructions histories u u (goes_self m u stands))

    call_few : (number p : ℕ) (call : SysCall) (x : Option Call) (r : Run) → StandsAt m r →
        r.notes ≡ [] → lives r.kernel.objects.things.queue p ≡ true →
        AreFew 1 (sys_event m number p call x r).notes
    call_few number p call (Some c) r h none alive =
        subst (λ ns. AreFew 1 (ns ++ Refused number (Busy c.number) ∷ [])) (sym none) (more_lines 0
        1 (Refused number (Busy c.number) ∷ []) zero_one (one_refusal number (Busy c.number)))
      where
        zero_one : 0 ≤ 1
        zero_one = omega arith
    call_few number p call None r h none alive =
        let u = begun m number p (m.early r.kernel.world r.kernel.images p call) r in
        last_few 0 p (u.kernel.call p) u (begun_few number p call
        (m.early r.kernel.world r.kernel.images p call) r h none alive refl)

    step_few : (number p n : ℕ) (r : Run) → StandsAt m r → r.notes ≡ [] → AreFew 2 (step_event m number p n r).notes
    step_few number p n r h none =
        let s = steps m p n 0 r in
        let u = noted (Ran number s.0) s.1 in
        last_few 1 p (u.kernel.call p) u (one_line 0 s.1.notes (Ran number s.0) refl refl refl
        (writes_none r s.1 h none (steps_go m laws instructions histories p n 0 r h)))

    tick_few : (number : ℕ) (r : Run) → StandsAt m r → r.notes ≡ [] → AreFew 1 (actions m 288 (ticked number r)).notes
    tick_few number r h none =
        let u = ticked number r in
        let only : u.notes ≡ Ticked number (suc r.kernel.clock) ∷ [] =
        ap (λ ns. ns ++ Ticked number (suc r.kernel.clock) ∷ []) none in
        let stands : StandsAt m u = record {
          store = h.store;
          disk = h.disk;
          whole = h.whole;
          callers = h.callers;
          granted = h.granted;
          fit = h.fit;
        } in
        writes_few 1 u (actions m 288 u) stands (ap (note_count is_end) only)
        (ap (note_count is_data) only) (ap (note_count is_line) only)
        (actions_go m laws instructions histories effects 288 u stands)

    -- at most two lines
    at_most_two : (l : ℕ) (ns : List Note) → l ≤ 2 → AreFew l ns → AreFewButDrops ns
    at_most_two l ns le h =
        record {
          ends = h.ends;
          data_notes = h.data_notes;
          lines = at_most (note_count is_line ns) l h.lines le;
        }
      where
        at_most : (n l : ℕ) → n ≤ l → l ≤ 2 → n ≤ 2
        at_most n l h e = omega arith

    refused_few : (n : ℕ) (why : Refusal) (r : Run) → r.notes ≡ [] → AreFewButDrops (noted (Refused n why) r).notes
    refused_few n why r none =
        subst (λ ns. AreFewButDrops (ns ++ Refused n why ∷ [])) (sym none)
        (at_most_two 0 (Refused n why ∷ []) zero_two (one_refusal n why))
      where
        zero_two : 0 ≤ 2
        zero_two = omega arith

    event_few : (number : ℕ) (e : Event) (r : Run) → StandsAt m r → r.notes ≡ [] →
        AreFewButDrops (event_on m number e r).notes
    event_few number Tick r h none =
        at_most_two 1 (actions m 288 (ticked number r)).notes one_two (tick_few number r h none)
      where
        one_two : 1 ≤ 2
        one_two = omega arith
    event_few number (Step p n) r h none =
        step_by (lives r.kernel.objects.things.queue p) (nat_le 1 n && nat_le n MOST_STEPS)
      where
        two_two : 2 ≤ 2
        two_two = omega arith

        step_by : (alive right : Bool) → AreFewButDrops (elim alive as (λ _. Run) [
          | false ↦ noted (Refused number NoProcess) r
          | true ↦ elim right as (λ _. Run) [
            | true ↦ step_event m number p n r
            | false ↦ noted (Refused number BadIndex) r
          ]
        ]).notes
        step_by false right = refused_few number NoProcess r none
        step_by true false = refused_few number BadIndex r none
        step_by true true = at_most_two 2 (step_event m number p n r).notes two_two (step_few number p n r h none)
    event_few number (Sys p call) r h none = sys_by (lives r.kernel.objects.things.queue p) refl
      where
        one_two : 1 ≤ 2
        one_two = omega arith

        sys_by : (alive : Bool) → lives r.kernel.objects.things.queue p ≡ alive →
            AreFewButDrops (elim alive as (λ _. Run) [
              | false ↦ noted (Refused number NoProcess) r
              | true ↦ sys_event m number p call (r.kernel.call p) r
            ]).notes
        sys_by false e = refused_few number NoProcess r none
        sys_by true e =
            at_most_two 1 (sys_event m number p call (r.kernel.call p) r).notes one_two
            (call_few number p call (r.kernel.call p) r h none e)

-- the calls of a sound kernel stand
pub sound_stands : (m : Meaning) (k : Kernel) (blocks : Blocks) → IsSoundKernel m k →
    HasWholeBlocks k.world blocks → Stands m k.world k.images k.objects blocks k.call
sound_stands m k blocks h whole =
    record {
      store = h.state.store;
      disk = h.state.disk;
      whole = whole;
      callers = h.callers;
      granted = h.granted;
      fit = h.fit;
    }

-- an event from a sound kernel leaves few notes
pub leaves_few_notes : (m : Meaning) → Laws m → InstructionsWork → HistoriesWork m → EffectsStaySound → LeavesFewNotes m
leaves_few_notes m laws instructions histories effects k blocks number e io sound whole =
    event_few m laws instructions histories effects number e
    (record { kernel = k; blocks = blocks; notes = []; io = io })
    (sound_stands m k blocks sound whole) refl
