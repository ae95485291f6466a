-- One slice of a call among others that wait: what it leaves, whether it waits, completes or is dropped.
use Rattle.std.proofs.Common.{◌+◌, ◌<◌, ◌≤◌, arith, ◌≡◌, ℕ, Bool, true, false, List, Option, refl}
use Rattle.std.proofs.Common.{sym, ap, ◌∙◌, ◌⊎◌, inl, inr}
use Rattle.std.specs.Prelude.{slice_get}
use Rattle.std.proofs.lemmas.Bool.{cases_eq, cases_Bool}
use Rattle.graft_code.specs.Machine.{Machine}
use Rattle.graft_code.specs.declared.Instr.{Instr}
use Rattle.vino_host.specs.declared.Record.{Record}
use Rattle.vino_host.specs.declared.Word.{Word}
use Rattle.vino_host.specs.HostRuns.{state, Ended, host_run}
use Rattle.vino_host.specs.Tables.{readings, undone}
use Rattle.vino_host.proofs.Kept.{run_kept}
use Rattle.host_laws.specs.Alone.{seen}
use Rattle.host_laws.specs.Histories.{Waiting, Ending, World, touches, is_touched, one_by_one}
use Rattle.host_laws.specs.Histories.{AreSameCalls}
use Rattle.host_laws.proofs.Aloneness.{run_grows}
use Rattle.host_laws.proofs.Holding.{Holds, run_holds}
use Rattle.host_laws.proofs.Touching.{owner_at, readers_at, owner_seen, same_owner, touched_has}
use Rattle.host_laws.proofs.Touching.{has_touched, undone_off, undone_readers}
use Rattle.host_laws.proofs.Waiting.{All, Apart, Distinct, Stands, IsBefore, HoldsWord, Beside, total, others_beside}

-- what holds of a world, where its completed calls leave `serial` one at a time
pub record Good (w : World) (first : List Word) : Type 0 where
  pub calls : AreSameCalls w.ended first
  pub distinct : Distinct w.waiting
  pub stands : All (λ c. Stands w.table (one_by_one w.ended first) c) w.waiting
  pub count : (k : ℕ) → readers_at (slice_get w.table k) ≡ total w.waiting k
  pub owners : (k : ℕ) → is_touched w.waiting k ≡ false → owner_at (slice_get w.table k) ≡ 0
  pub words : (k : ℕ) → owner_at (slice_get w.table k) ≡ 0 →
      slice_get (one_by_one w.ended first) k ≡ seen 0 (slice_get w.table k)
  pub clean : (k : ℕ) → owner_at (slice_get (one_by_one w.ended first) k) ≡ 0

-- a call that has made these records goes on over this table, beside others that wait
pub record Slice (n : ℕ) (table serial : List Word) (others : List Waiting) (records : List Record) : Type 0 where
  pub some : n ≡ 0 → ⊥
  pub apart : Apart n others
  pub distinct : Distinct others
  pub stands : All (λ c. Stands table serial c) others
  pub held : (k : ℕ) → touches records k ≡ true → HoldsWord n (readings k records) (slice_get table k)
  pub owns : (k : ℕ) → owner_at (slice_get table k) ≡ n → touches records k ≡ true
  pub before : IsBefore table records serial
  pub count : (k : ℕ) → readers_at (slice_get table k) ≡ total others k + readings k records
  pub owners : (k : ℕ) → touches records k ≡ false → is_touched others k ≡ false → owner_at (slice_get table k) ≡ 0
  pub words : (k : ℕ) → owner_at (slice_get table k) ≡ 0 → slice_get serial k ≡ seen 0 (slice_get table k)
  pub clean : (k : ℕ) → owner_at (slice_get serial k) ≡ 0

pub absurd_bool : (b : Bool) → b ≡ true → b ≡ false → ⊥
absurd_bool true h g = cc
absurd_bool false h g = cc

-- a word that is held by two calls is read by both
pub both_hold : (n m own other : ℕ) (o : Option Word) → HoldsWord n own o → HoldsWord m other o →
    (m ≡ n → ⊥) → (n ≡ 0 → ⊥) →
    (m ≡ 0 → ⊥) → owner_at o ≡ 0
both_hold n m own other o (inl e) (inl f) apart some more = absurd (apart (sym f ∙ e))
both_hold n m own other o (inl e) (inr f) apart some more = f.0
both_hold n m own other o (inr e) f apart some more = e.0

-- ---- a drop

dropped_beside : (n : ℕ) (table serial : List Word) (others : List Waiting) (records : List Record) →
    Slice n table serial others records → Beside n (total others) table serial (undone records table) serial
dropped_beside n table serial others records s =
    record {
      stays = λ k m own holds few some other. by_touch k m own holds some other (cases_Bool (touches records k));
      stays_serial = λ k m own holds few some other. refl;
      came = λ k some other. came k some (cases_Bool (touches records k));
    }
  where
    by_touch : (k m own : ℕ) → HoldsWord m own (slice_get table k) → (m ≡ 0 → ⊥) → (m ≡ n → ⊥) →
        (touches records k ≡ true) ⊎ (touches records k ≡ false) →
        seen 0 (slice_get (undone records table) k) ≡ seen 0 (slice_get table k)
    by_touch k m own holds some other (inl g) =
        sym (s.before k g)
        ∙ s.words k (both_hold n m (readings k records) own (slice_get table k) (s.held k g) holds other s.some some)
    by_touch k m own holds some other (inr g) = ap (λ (o : Option Word). seen 0 o) (undone_off records table k g)

    came : (k : ℕ) → (owner_at (slice_get (undone records table) k) ≡ 0 → ⊥) →
        (touches records k ≡ true) ⊎ (touches records k ≡ false) →
        owner_at (slice_get (undone records table) k) ≡ owner_at (slice_get table k)
    came k some (inl g) =
        absurd (some (sym (owner_seen 0 (slice_get (undone records table) k))
        ∙ ap (λ (o : Option Word). owner_at o) (sym (s.before k g)) ∙ s.clean k))
    came k some (inr g) = ap (λ (o : Option Word). owner_at o) (undone_off records table k g)

-- a dropped call leaves no trace
pub dropped_good : (n : ℕ) (table : List Word) (ends : List Ending) (first : List Word)
    (others : List Waiting) (records : List Record) →
    AreSameCalls ends first → Slice n table (one_by_one ends first) others records →
    Good (record { table = undone records table; waiting = others; ended = ends }) first
dropped_good n table ends first others records calls s =
    record {
      calls = calls;
      distinct = s.distinct;
      stands = others_beside n (total others) table (one_by_one ends first) (undone records table)
          (one_by_one ends first) others
          (dropped_beside n table (one_by_one ends first) others records s)
          (λ k. let all : total others k ≤ total others k = omega arith in all) s.stands s.apart;
      count = λ k.
          let a = undone_readers records table k in
          let b = s.count k in omega (arith, a, b);
      owners = λ k g. by_owner k g (cases_Bool (touches records k));
      words = λ k o. by_word k o (cases_Bool (touches records k));
      clean = s.clean;
    }
  where
    by_owner : (k : ℕ) → is_touched others k ≡ false → (touches records k ≡ true) ⊎ (touches records k ≡ false) →
        owner_at (slice_get (undone records table) k) ≡ 0
    by_owner k g (inl t) =
        sym (owner_seen 0 (slice_get (undone records table) k))
        ∙ ap (λ (o : Option Word). owner_at o) (sym (s.before k t)) ∙ s.clean k
    by_owner k g (inr t) = ap (λ (o : Option Word). owner_at o) (undone_off records table k t) ∙ s.owners k t g

    by_word : (k : ℕ) → owner_at (slice_get (undone records table) k) ≡ 0 →
        (touches records k ≡ true) ⊎ (touches records k ≡ false) →
        slice_get (one_by_one ends first) k ≡ seen 0 (slice_get (undone records table) k)
    by_word k o (inl t) = s.before k t
    by_word k o (inr t) =
        s.words k (sym (ap (λ (x : Option Word). owner_at x) (undone_off records table k t)) ∙ o)
        ∙ ap (λ (x : Option Word). seen 0 x) (sym (undone_off records table k t))

-- ---- a run among others

-- what a run leaves
pub record Ran (n : ℕ) (table serial : List Word) (others : List Waiting) (records : List Record)
    (e : Ended) : Type 0 where
  pub grows : (k : ℕ) → touches records k ≡ true → touches e.state.records k ≡ true
  pub holds : Holds n (total others) table e.state.table e.state.records
  pub kept : undone e.state.records e.state.table ≡ undone records table
  pub before : IsBefore e.state.table e.state.records serial
  -- what other calls hold is seen as it was
  pub stays : (k m own : ℕ) → HoldsWord m own (slice_get table k) → own ≤ total others k → (m ≡ 0 → ⊥) → (m ≡ n → ⊥) →
      seen 0 (slice_get e.state.table k) ≡ seen 0 (slice_get table k)

pub ran : (n : ℕ) (code : List Instr) (left : ℕ) (m : Machine) (table serial : List Word)
    (others : List Waiting) (records : List Record) →
    Slice n table serial others records → Ran n table serial others records
    (host_run n code left (state m table records))
ran n code left m table serial others records s =
    let e : Ended = host_run n code left (state m table records) in
    let grows : (k : ℕ) → touches records k ≡ true → touches e.state.records k ≡ true =
    λ k g. has_touched e.state.records k (run_grows n code left (state m table records) k (touched_has records k g)) in
    let begins : Holds n (total others) table table records =
    record {
      count = s.count;
      shared = λ k h. refl;
      foreign = λ k a b. refl;
      off = λ k g. refl;
      held = s.held;
      owns = s.owns;
      unchanged = λ k h. refl;
    } in
    let holds : Holds n (total others) table e.state.table e.state.records =
    run_holds n code left (state m table records) (total others) table s.some begins in
    let kept : undone e.state.records e.state.table ≡ undone records table =
    run_kept n code left (state m table records) in
    record {
      grows = grows;
      holds = holds;
      kept = kept;
      before = λ k g.
          by_touch e.state.table e.state.records k kept (holds.held k g)
          (λ a b. holds.foreign k a b) (cases_Bool (touches records k));
      stays = λ k i own held few some other. by_holding e.state.table k i own held few some other
          (λ h. holds.shared k h) (λ a b. holds.foreign k a b);
    }
  where
    by_holding : (new : List Word) (k i own : ℕ) → HoldsWord i own (slice_get table k) →
        own ≤ total others k → (i ≡ 0 → ⊥) → (i ≡ n → ⊥) →
        (0 < total others k → seen 0 (slice_get new k) ≡ seen 0 (slice_get table k)) →
        ((owner_at (slice_get table k) ≡ 0 → ⊥) → (owner_at (slice_get table k) ≡ n → ⊥) →
        seen 0 (slice_get new k) ≡ seen 0 (slice_get table k)) →
        seen 0 (slice_get new k) ≡ seen 0 (slice_get table k)
    by_holding new k i own (inl o) few some other shared foreign = foreign (λ z. some (sym o ∙ z))
        (λ z. other (sym o ∙ z))
    by_holding new k i own (inr p) few some other shared foreign =
        let much = p.1 in let more : 0 < total others k = omega (arith, much, few) in shared more

    by_touch : (new : List Word) (made : List Record) (k : ℕ) → undone made new ≡ undone records table →
        HoldsWord n (readings k made) (slice_get new k) →
        ((owner_at (slice_get table k) ≡ 0 → ⊥) → (owner_at (slice_get table k) ≡ n → ⊥) →
        seen 0 (slice_get new k) ≡ seen 0 (slice_get table k)) →
        (touches records k ≡ true) ⊎ (touches records k ≡ false) → slice_get serial k
        ≡ seen 0 (slice_get (undone made new) k)
    by_touch new made k kept held foreign (inl g) =
        s.before k g ∙ ap (λ (t : List Word). seen 0 (slice_get t k)) (sym kept)
    by_touch new made k kept held foreign (inr g) =
        s.words k (free (cases_eq (owner_at (slice_get table k)) 0))
        ∙ ap (λ (o : Option Word). seen 0 o) (sym (undone_off records table k g))
        ∙ ap (λ (t : List Word). seen 0 (slice_get t k)) (sym kept)
      where
        not_mine : owner_at (slice_get table k) ≡ n → ⊥
        not_mine o = absurd_bool (touches records k) (s.owns k o) g

        by_held : (owner_at (slice_get table k) ≡ 0 → ⊥) → HoldsWord n (readings k made) (slice_get new k) → ⊥
        by_held some (inl o) =
            not_mine (sym (same_owner (slice_get new k) (slice_get table k) (foreign some not_mine)) ∙ o)
        by_held some (inr p) =
            some (sym (same_owner (slice_get new k) (slice_get table k) (foreign some not_mine)) ∙ p.0)

        free : (owner_at (slice_get table k) ≡ 0) ⊎ (owner_at (slice_get table k) ≡ 0 → ⊥) →
            owner_at (slice_get table k) ≡ 0
        free (inl z) = z
        free (inr some) = absurd (by_held some held)
