-- A slice among others that wait leaves a good world, however it stops.
use Rattle.std.proofs.Common.{◌≤◌, arith, ◌≡◌, ℕ, Bool, true, false, cond, List, ◌∷◌, Option, None}
use Rattle.std.proofs.Common.{Some, refl, sym, ap, subst, ◌∙◌, ◌⊎◌, inl, inr}
use Rattle.std.specs.Prelude.{◌==◌, not, slice_get}
use Rattle.std.proofs.lemmas.Bool.{cases_Bool, or_parts}
use Rattle.graft_code.specs.Machine.{Machine}
use Rattle.graft_code.specs.declared.Instr.{Instr}
use Rattle.vino_host.specs.declared.Record.{Record}
use Rattle.vino_host.specs.declared.Stop.{Stop}
use Rattle.vino_host.specs.declared.Stop.TheVariants as stop
use Rattle.vino_host.specs.declared.Word.{Word}
use Rattle.vino_host.specs.Calls.{Frame, Found, found, found_by, judged}
use Rattle.vino_host.specs.Codes.{is_taken}
use Rattle.vino_host.specs.HostRuns.{state, Ended, ended, host_run}
use Rattle.vino_host.specs.Tables.{readings, undone, released}
use Rattle.vino_host.proofs.Kept.{run_kept}
use Rattle.host_laws.specs.Alone.{seen, goes_well, IsSameRun}
use Rattle.host_laws.specs.Histories.{Story, Waiting, Ending, World, touches, is_touched, whole}
use Rattle.host_laws.specs.Histories.{after_stop, one_by_one, AreSameCalls}
use Rattle.host_laws.proofs.Sound.{has_cause, run_cause}
use Rattle.host_laws.proofs.Aloneness.{runs_hang_on_their_words}
use Rattle.host_laws.proofs.Readings.{readings_none}
use Rattle.host_laws.proofs.Touching.{owner_at, readers_at, seen_seen, owner_seen, same_owner}
use Rattle.host_laws.proofs.Touching.{seen_alone, has_touched, undone_off, released_off}
use Rattle.host_laws.proofs.Touching.{released_same, released_owner, released_readers}
use Rattle.host_laws.proofs.Touching.{released_kept}
use Rattle.host_laws.proofs.Waiting.{IsBefore, HoldsWord, Beside, total, others_beside}
use Rattle.host_laws.proofs.Slicing.{Good, Slice, Ran, ran, dropped_good, both_hold, absurd_bool}

-- a call, made from its beginning over the table b, comes to where it goes on
pub record Came (story : Story) (f : Frame) (code : List Instr) (left : ℕ) (m : Machine) (table : List Word)
    (records : List Record) (b : List Word) : Type 0 where
  pub over : List Word
  pub on : (k : ℕ) → touches records k ≡ true → slice_get over k ≡ seen (readings k records) (slice_get table k)
  pub off : (k : ℕ) → touches records k ≡ false → slice_get over k ≡ slice_get b k
  pub says : whole story b ≡ found f (host_run f.number code left (state m over records))

-- a call, made from its beginning over the table b, stops as it did
record Again (story : Story) (f : Frame) (e : Ended) (b : List Word) : Type 0 where
  table : List Word
  says : whole story b ≡ found f (ended e.stop e.left (state e.state.machine table e.state.records))
  on : (k : ℕ) → touches e.state.records k ≡ true →
      slice_get table k ≡ seen (readings k e.state.records) (slice_get e.state.table k)
  off : (k : ℕ) → touches e.state.records k ≡ false → slice_get table k ≡ slice_get b k

as_first : (touched : ℕ → Bool) (e g : Ended) (other : List Word) → IsSameRun touched e g other →
    g ≡ ended e.stop e.left (state e.state.machine g.state.table e.state.records)
as_first touched e g other same =
    ap (λ (x : Stop). ended x g.left (state g.state.machine g.state.table g.state.records)) same.stop
    ∙ ap (λ (x : ℕ). ended e.stop x (state g.state.machine g.state.table g.state.records)) same.left
    ∙ ap (λ (x : Machine). ended e.stop e.left (state x g.state.table g.state.records)) same.machine
    ∙ ap (λ (x : List Record). ended e.stop e.left (state e.state.machine g.state.table x)) same.records

not_before : (records made : List Record) (k : ℕ) → (touches records k ≡ true → touches made k
    ≡ true) → touches made k ≡ false →
    touches records k ≡ false
not_before records made k grows h = by_touch (touches records k) refl
  where
    by_touch : (b : Bool) → touches records k ≡ b → b ≡ false
    by_touch false g = refl
    by_touch true g = absurd (absurd_bool (touches made k) (grows g) h)

-- what a slice comes from
abbrev pub Comes : Story → Frame → List Instr → ℕ → Machine → List Word → List Record → Type 0
Comes story f code left m table records =
    (b : List Word) → IsBefore table records b → Came story f code left m table records b

again : (story : Story) (f : Frame) (code : List Instr) (left : ℕ) (m : Machine) (table serial : List Word)
    (others : List Waiting) (records : List Record) (b : List Word) → Slice f.number table serial others records →
    Ran f.number table serial others records (host_run f.number code left (state m table records)) →
    goes_well (host_run f.number code left (state m table records)).stop ≡ true →
    Comes story f code left m table records →
    IsBefore (host_run f.number code left (state m table records)).state.table
    (host_run f.number code left (state m table records)).state.records b →
    Again story f (host_run f.number code left (state m table records)) b
again story f code left m table serial others records b s r well comes h =
    let e : Ended = host_run f.number code left (state m table records) in
    let at : (k : ℕ) → seen 0 (slice_get (undone e.state.records e.state.table) k)
    ≡ seen 0 (slice_get (undone records table) k) =
    λ k. ap (λ (t : List Word). seen 0 (slice_get t k)) r.kept in
    let c : Came story f code left m table records b = comes b (λ k g. h k (r.grows k g) ∙ at k) in
    let same : IsSameRun (λ k. touches e.state.records k) e
    (host_run f.number code left (state m c.over records)) c.over =
    runs_hang_on_their_words f.number code left (state m table records) c.over (λ k. touches e.state.records k) well
    (λ k w i o. r.grows k (s.owns k (ap (λ (x : Option Word). owner_at x) i ∙ o)))
    (λ k g. has_touched e.state.records k g)
    (λ k g. by_touch c.over k (λ t. c.on k t) (λ t. c.off k t) (h k g ∙ at k) (cases_Bool (touches records k))) in
    record {
      table = (host_run f.number code left (state m c.over records)).state.table;
      says = c.says
          ∙ ap (λ (x : Ended). found f x)
          (as_first (λ k. touches e.state.records k) e
          (host_run f.number code left (state m c.over records)) c.over same);
      on = same.on;
      off = λ k g. same.off k g ∙ c.off k (not_before records e.state.records k (r.grows k) g);
    }
  where
    by_touch : (over : List Word) (k : ℕ) →
        (touches records k ≡ true → slice_get over k ≡ seen (readings k records) (slice_get table k)) →
        (touches records k ≡ false → slice_get over k ≡ slice_get b k) → slice_get b k
        ≡ seen 0 (slice_get (undone records table) k) →
        (touches records k ≡ true) ⊎ (touches records k ≡ false) → slice_get over k
        ≡ seen (readings k records) (slice_get table k)
    by_touch over k on off e (inl g) = on g
    by_touch over k on off e (inr g) =
        off g ∙ e ∙ ap (λ (o : Option Word). seen 0 o) (undone_off records table k g)
        ∙ ap (λ (n : ℕ). seen n (slice_get table k)) (sym (readings_none k records g))

-- ---- it waits

waits_beside : (n : ℕ) (table serial : List Word) (others : List Waiting) (records : List Record) (e : Ended) →
    Ran n table serial others records e → Beside n (total others) table serial e.state.table serial
waits_beside n table serial others records e r =
    record {
      stays = r.stays;
      stays_serial = λ k m own holds few some other. refl;
      came = λ k some other. by_touch k some other (cases_Bool (touches e.state.records k));
    }
  where
    by_held : (k : ℕ) → (owner_at (slice_get e.state.table k) ≡ 0 → ⊥) →
        (owner_at (slice_get e.state.table k) ≡ n → ⊥) →
        HoldsWord n (readings k e.state.records) (slice_get e.state.table k) → ⊥
    by_held k some other (inl o) = other o
    by_held k some other (inr p) = some p.0

    by_touch : (k : ℕ) → (owner_at (slice_get e.state.table k) ≡ 0 → ⊥) →
        (owner_at (slice_get e.state.table k) ≡ n → ⊥) →
        (touches e.state.records k ≡ true) ⊎ (touches e.state.records k ≡ false) →
        owner_at (slice_get e.state.table k) ≡ owner_at (slice_get table k)
    by_touch k some other (inl g) = absurd (by_held k some other (r.holds.held k g))
    by_touch k some other (inr g) = same_owner (slice_get e.state.table k) (slice_get table k) (r.holds.off k g)

-- a run that stops, by how it does
abbrev Stopping : List Ending → List Word → List Waiting → Story → Frame → Ended → Stop → Type 0
Stopping ends first others story f e j = Good (after_stop ends others story (found_by f e.left e.state j)) first

waits_good : (story : Story) (f : Frame) (code : List Instr) (left : ℕ) (m : Machine) (table : List Word)
    (ends : List Ending) (first : List Word) (others : List Waiting) (records : List Record) (id : ℕ) →
    AreSameCalls ends first → Slice f.number table (one_by_one ends first) others records →
    Comes story f code left m table records →
    goes_well (host_run f.number code left (state m table records)).stop ≡ true →
    judged f (host_run f.number code left (state m table records)).stop
    ((host_run f.number code left (state m table records)).state.machine.regs 0) ≡ stop.Waits id →
    Stopping ends first others story f (host_run f.number code left (state m table records)) (stop.Waits id)
waits_good story f code left m table ends first others records id calls s comes well is =
    let serial : List Word = one_by_one ends first in
    let e : Ended = host_run f.number code left (state m table records) in
    let r : Ran f.number table serial others records e = ran f.number code left m table serial others records s in
    record {
      calls = calls;
      distinct = (s.apart, s.distinct);
      stands = (
        record {
          some = s.some;
          held = r.holds.held;
          owns = r.holds.owns;
          replays = λ b h.
              let a : Again story f e b = again story f code left m table serial others records b s r well comes h in
              let to : whole story b
              ≡ found_by f e.left (state e.state.machine a.table e.state.records) (stop.Waits id) =
              a.says ∙ ap (λ (x : Stop). found_by f e.left (state e.state.machine a.table e.state.records) x) is in
              record {
                pause = ap (λ (x : Found). x.pause) to;
                on = λ k g. ap (λ (x : Found). slice_get x.table k) to ∙ a.on k g;
                off = λ k g. ap (λ (x : Found). slice_get x.table k) to ∙ a.off k g;
              };
          before = r.before;
        },
        others_beside f.number (total others) table serial e.state.table serial others
            (waits_beside f.number table serial others records e r)
            (λ k. let all : total others k ≤ total others k = omega arith in all) s.stands s.apart,
      );
      count = λ k. let is = r.holds.count k in omega (arith, is);
      owners = λ k g.
          let parts = or_parts (touches e.state.records k) (is_touched others k) g in
          same_owner (slice_get e.state.table k) (slice_get table k) (r.holds.off k parts.0)
          ∙ s.owners k (not_before records e.state.records k (r.grows k) parts.0) parts.1;
      words = λ k o.
          let same = r.holds.unchanged k o in
          s.words k (sym (same_owner (slice_get e.state.table k) (slice_get table k) same) ∙ o) ∙ sym same;
      clean = s.clean;
    }

-- ---- it completes

readers_seen : (n : ℕ) (o : Option Word) → readers_at (seen n o) ≤ n
readers_seen n None = omega arith
readers_seen n (Some w) = omega arith

-- what a completed call leaves: `t` is the table where it was made at once
record Freed (n : ℕ) (table serial : List Word) (others : List Waiting) (records : List Record)
    (e : Ended) (t : List Word) : Type 0 where
  unowned : (k : ℕ) → touches e.state.records k ≡ true →
      owner_at (slice_get (released e.state.records e.state.table) k) ≡ 0
  alike : (k : ℕ) → touches e.state.records k ≡ true →
      slice_get (released e.state.records t) k ≡ seen 0 (slice_get (released e.state.records e.state.table) k)
  stays : (k m own : ℕ) → HoldsWord m own (slice_get table k) → own ≤ total others k → (m ≡ 0 → ⊥) → (m ≡ n → ⊥) →
      seen 0 (slice_get (released e.state.records e.state.table) k) ≡ seen 0 (slice_get table k)
  free : (k m own : ℕ) → HoldsWord m own (slice_get table k) → own ≤ total others k → (m ≡ 0 → ⊥) → (m ≡ n → ⊥) →
      touches e.state.records k ≡ true → owner_at (slice_get table k) ≡ 0

freed : (n : ℕ) (table serial : List Word) (others : List Waiting) (records : List Record) (e : Ended) (t : List Word) →
    Slice n table serial others records → Ran n table serial others records e →
    ((k : ℕ) → touches e.state.records k ≡ true → slice_get t k ≡ seen (readings k e.state.records)
    (slice_get e.state.table k)) →
    Freed n table serial others records e t
freed n table serial others records e t s r on =
    record {
      unowned = unowned;
      alike = alike;
      stays = λ k m own holds few some other. staying k m own holds few some other
          (cases_Bool (touches e.state.records k));
      free = λ k m own holds few some other g.
          sym (same_owner (slice_get e.state.table k) (slice_get table k) (r.stays k m own holds few some other))
          ∙ both k m own holds few some other g;
    }
  where
    unowned : (k : ℕ) → touches e.state.records k ≡ true →
        owner_at (slice_get (released e.state.records e.state.table) k) ≡ 0
    unowned k g =
        released_owner e.state.records e.state.table k g
        ∙ sym (owner_seen 0 (slice_get (undone e.state.records e.state.table) k))
        ∙ ap (λ (o : Option Word). owner_at o) (sym (r.before k g)) ∙ s.clean k

    alike : (k : ℕ) → touches e.state.records k ≡ true →
        slice_get (released e.state.records t) k ≡ seen 0 (slice_get (released e.state.records e.state.table) k)
    alike k g =
        let same : seen 0 (slice_get t k) ≡ seen 0 (slice_get e.state.table k) =
        ap (λ (o : Option Word). seen 0 o) (on k g) ∙ seen_seen 0 (readings k e.state.records)
        (slice_get e.state.table k) in
        let count = released_readers e.state.records t k in
        let own : readers_at (slice_get t k) ≡ readers_at (seen (readings k e.state.records)
        (slice_get e.state.table k)) =
        ap (λ (o : Option Word). readers_at o) (on k g) in
        let most = readers_seen (readings k e.state.records) (slice_get e.state.table k) in
        let none : readers_at (slice_get (released e.state.records t) k) ≡ 0 = omega (arith, count, own, most) in
        sym (seen_alone (slice_get (released e.state.records t) k) none)
        ∙ released_same e.state.records t e.state.table k same

    moved : (k m own : ℕ) → owner_at (slice_get e.state.table k) ≡ owner_at (slice_get table k) →
        HoldsWord m own (slice_get table k) → HoldsWord m own (slice_get e.state.table k)
    moved k m own h (inl o) = inl (h ∙ o)
    moved k m own h (inr p) = inr (h ∙ p.0, p.1)

    both : (k m own : ℕ) → HoldsWord m own (slice_get table k) → own ≤ total others k → (m ≡ 0 → ⊥) → (m ≡ n → ⊥) →
        touches e.state.records k ≡ true → owner_at (slice_get e.state.table k) ≡ 0
    both k m own holds few some other g =
        both_hold n m (readings k e.state.records) own (slice_get e.state.table k) (r.holds.held k g)
        (moved k m own (same_owner (slice_get e.state.table k) (slice_get table k)
        (r.stays k m own holds few some other)) holds)
        other s.some some

    staying : (k m own : ℕ) → HoldsWord m own (slice_get table k) → own ≤ total others k → (m ≡ 0 → ⊥) → (m ≡ n → ⊥) →
        (touches e.state.records k ≡ true) ⊎ (touches e.state.records k ≡ false) →
        seen 0 (slice_get (released e.state.records e.state.table) k) ≡ seen 0 (slice_get table k)
    staying k m own holds few some other (inl g) =
        released_kept e.state.records e.state.table k (unowned k g ∙ sym (both k m own holds few some other g))
        ∙ r.stays k m own holds few some other
    staying k m own holds few some other (inr g) =
        ap (λ (o : Option Word). seen 0 o) (released_off e.state.records e.state.table k g)
        ∙ r.stays k m own holds few some other

completes_good : (story : Story) (f : Frame) (code : List Instr) (left : ℕ) (m : Machine) (table : List Word)
    (ends : List Ending) (first : List Word) (others : List Waiting) (records : List Record) →
    AreSameCalls ends first → Slice f.number table (one_by_one ends first) others records →
    Comes story f code left m table records →
    goes_well (host_run f.number code left (state m table records)).stop ≡ true →
    judged f (host_run f.number code left (state m table records)).stop
    ((host_run f.number code left (state m table records)).state.machine.regs 0) ≡ stop.Returns →
    Stopping ends first others story f (host_run f.number code left (state m table records)) stop.Returns
unfolding one_by_one
completes_good story f code left m table ends first others records calls s comes well is =
    let serial : List Word = one_by_one ends first in
    let e : Ended = host_run f.number code left (state m table records) in
    let r : Ran f.number table serial others records e = ran f.number code left m table serial others records s in
    let a : Again story f e serial = again story f code left m table serial others records serial s
    r well comes r.before in
    let to : whole story serial ≡ found_by f e.left (state e.state.machine a.table e.state.records) stop.Returns =
    a.says ∙ ap (λ (x : Stop). found_by f e.left (state e.state.machine a.table e.state.records) x) is in
    let at : (k : ℕ) → slice_get (whole story serial).table k ≡ slice_get (released e.state.records a.table) k =
    λ k. ap (λ (x : Found). slice_get x.table k) to in
    let fr : Freed f.number table serial others records e a.table =
    freed f.number table serial others records e a.table s r a.on in
    record {
      calls = (
        record {
          answer = ap (λ (x : Found). x.answer) to;
          segment = ap (λ (x : Found). x.segment) to;
          ends = ap (λ (x : Found). x.pause) to;
        },
        calls,
      );
      distinct = s.distinct;
      stands = others_beside f.number (total others) table serial
          (released e.state.records e.state.table) (whole story serial).table others
          (record {
            stays = fr.stays;
            stays_serial = λ k i own holds few some other.
                at k ∙ serial_stays e a.table a.off fr k i own holds few some other
                (cases_Bool (touches e.state.records k));
            came = λ k some other. coming e a.table r fr k some (cases_Bool (touches e.state.records k));
          })
          (λ k. let all : total others k ≤ total others k = omega arith in all) s.stands s.apart;
      count = λ k.
          let x = released_readers e.state.records e.state.table k in
          let y = r.holds.count k in omega (arith, x, y);
      owners = λ k g. owning e a.table r fr k g (cases_Bool (touches e.state.records k));
      words = λ k o. at k ∙ wording e a.table a.off r fr k o (cases_Bool (touches e.state.records k));
      clean = λ k.
          ap (λ (x : Option Word). owner_at x) (at k) ∙ cleaning e a.table a.off fr k
          (cases_Bool (touches e.state.records k));
    }
  where
    serial_stays : (e : Ended) (t : List Word) → ((k : ℕ) → touches e.state.records k ≡ false →
        slice_get t k ≡ slice_get (one_by_one ends first) k) →
        Freed f.number table (one_by_one ends first) others records e t →
        (k i own : ℕ) → HoldsWord i own (slice_get table k) → own ≤ total others k → (i ≡ 0 → ⊥) → (i ≡ f.number → ⊥) →
        (touches e.state.records k ≡ true) ⊎ (touches e.state.records k ≡ false) →
        slice_get (released e.state.records t) k ≡ slice_get (one_by_one ends first) k
    serial_stays e t off fr k i own holds few some other (inl g) =
        fr.alike k g ∙ fr.stays k i own holds few some other ∙ sym (s.words k (fr.free k i own holds few some other g))
    serial_stays e t off fr k i own holds few some other (inr g) = released_off e.state.records t k g ∙ off k g

    coming : (e : Ended) (t : List Word) → Ran f.number table (one_by_one ends first) others records e →
        Freed f.number table (one_by_one ends first) others records e t → (k : ℕ) →
        (owner_at (slice_get (released e.state.records e.state.table) k) ≡ 0 → ⊥) →
        (touches e.state.records k ≡ true) ⊎ (touches e.state.records k ≡ false) →
        owner_at (slice_get (released e.state.records e.state.table) k) ≡ owner_at (slice_get table k)
    coming e t r fr k some (inl g) = absurd (some (fr.unowned k g))
    coming e t r fr k some (inr g) =
        ap (λ (o : Option Word). owner_at o) (released_off e.state.records e.state.table k g)
        ∙ same_owner (slice_get e.state.table k) (slice_get table k) (r.holds.off k g)

    owning : (e : Ended) (t : List Word) → Ran f.number table (one_by_one ends first) others records e →
        Freed f.number table (one_by_one ends first) others records e t → (k : ℕ) → is_touched others k ≡ false →
        (touches e.state.records k ≡ true) ⊎ (touches e.state.records k ≡ false) →
        owner_at (slice_get (released e.state.records e.state.table) k) ≡ 0
    owning e t r fr k free (inl g) = fr.unowned k g
    owning e t r fr k free (inr g) =
        ap (λ (o : Option Word). owner_at o) (released_off e.state.records e.state.table k g)
        ∙ same_owner (slice_get e.state.table k) (slice_get table k) (r.holds.off k g)
        ∙ s.owners k (not_before records e.state.records k (r.grows k) g) free

    wording : (e : Ended) (t : List Word) → ((k : ℕ) → touches e.state.records k ≡ false →
        slice_get t k ≡ slice_get (one_by_one ends first) k) →
        Ran f.number table (one_by_one ends first) others records e →
        Freed f.number table (one_by_one ends first) others records e t →
        (k : ℕ) → owner_at (slice_get (released e.state.records e.state.table) k) ≡ 0 →
        (touches e.state.records k ≡ true) ⊎ (touches e.state.records k ≡ false) →
        slice_get (released e.state.records t) k ≡ seen 0 (slice_get (released e.state.records e.state.table) k)
    wording e t off r fr k o (inl g) = fr.alike k g
    wording e t off r fr k o (inr g) =
        let same = r.holds.off k g in
        let stay = released_off e.state.records e.state.table k g in
        let owner : owner_at (slice_get table k) ≡ 0 =
        sym (same_owner (slice_get e.state.table k) (slice_get table k) same)
        ∙ sym (ap (λ (x : Option Word). owner_at x) stay) ∙ o in
        released_off e.state.records t k g ∙ off k g ∙ s.words k owner ∙ sym same
        ∙ ap (λ (x : Option Word). seen 0 x) (sym stay)

    cleaning : (e : Ended) (t : List Word) → ((k : ℕ) → touches e.state.records k ≡ false →
        slice_get t k ≡ slice_get (one_by_one ends first) k) →
        Freed f.number table (one_by_one ends first) others records e t →
        (k : ℕ) → (touches e.state.records k ≡ true) ⊎ (touches e.state.records k ≡ false) →
        owner_at (slice_get (released e.state.records t) k) ≡ 0
    cleaning e t off fr k (inl g) =
        ap (λ (o : Option Word). owner_at o) (fr.alike k g)
        ∙ owner_seen 0 (slice_get (released e.state.records e.state.table) k) ∙ fr.unowned k g
    cleaning e t off fr k (inr g) =
        ap (λ (o : Option Word). owner_at o) (released_off e.state.records t k g ∙ off k g) ∙ s.clean k

-- ---- however it stops

judged_well : (f : Frame) (why : Stop) (r0 : ℕ) (j : Stop) → judged f why r0 ≡ j → goes_well j
    ≡ true → goes_well why ≡ true
judged_well f stop.Returns r0 j h well = refl
judged_well f (stop.Waits id) r0 j h well = refl
judged_well f (stop.Drops cause detail) r0 j h well = ap (λ (x : Stop). goes_well x) h ∙ well

judged_cause : (f : Frame) (why : Stop) (r0 : ℕ) → has_cause why ≡ true → has_cause (judged f why r0) ≡ true
judged_cause f stop.Returns r0 h = by_taken (is_taken f.point f.fed r0)
  where
    by_taken : (b : Bool) → has_cause (cond b stop.Returns (stop.Drops 12 r0)) ≡ true
    by_taken true = refl
    by_taken false = refl
judged_cause f (stop.Waits id) r0 h = refl
judged_cause f (stop.Drops cause detail) r0 h = h

-- a world in which nothing else happened
abbrev left_with : List Waiting → List Ending → List Word → World
left_with others ends t = record { table = t; waiting = others; ended = ends }

-- a world in which a call was dropped
pub drops_good : (story : Story) (f : Frame) (left : ℕ) (m : Machine) (table old : List Word)
    (ends : List Ending) (first : List Word)
    (others : List Waiting) (records made : List Record) (cause detail : ℕ) → AreSameCalls ends first →
    Slice f.number old (one_by_one ends first) others records → undone made table ≡ undone records old →
    not (cause == 0) ≡ true →
    Good (after_stop ends others story (found_by f left (state m table made) (stop.Drops cause detail))) first
drops_good story f left m table old ends first others records made cause detail calls s kept some =
    subst (λ (w : World). Good w first)
    (sym (by_cause (cause == 0) some ∙ ap (λ (t : List Word). left_with others ends t) kept))
    (dropped_good f.number old ends first others records calls s)
  where
    by_cause : (b : Bool) → not b ≡ true →
        ◌≡◌ {A = World} (record {
          table = undone made table;
          waiting = others;
          ended = cond b (record {
            story = story;
            answer = (found_by f left (state m table made) (stop.Drops cause detail)).answer;
            segment = (found_by f left (state m table made) (stop.Drops cause detail)).segment;
          } ∷ ends) ends;
        }) (left_with others ends (undone made table))
    by_cause false h = refl
    by_cause true h = cc

-- a slice leaves a good world
pub slice_good : (story : Story) (f : Frame) (code : List Instr) (left : ℕ) (m : Machine) (table : List Word)
    (ends : List Ending) (first : List Word) (others : List Waiting) (records : List Record) →
    AreSameCalls ends first → Slice f.number table (one_by_one ends first) others records →
    Comes story f code left m table records →
    Good (after_stop ends others story (found f (host_run f.number code left (state m table records)))) first
slice_good story f code left m table ends first others records calls s comes =
    let e : Ended = host_run f.number code left (state m table records) in
    by_stop (judged f e.stop (e.state.machine.regs 0)) refl
  where
    by_stop : (j : Stop) →
        judged f (host_run f.number code left (state m table records)).stop
        ((host_run f.number code left (state m table records)).state.machine.regs 0) ≡ j →
        Stopping ends first others story f (host_run f.number code left (state m table records)) j
    by_stop stop.Returns h =
        let e : Ended = host_run f.number code left (state m table records) in
        completes_good story f code left m table ends first others records calls s comes
        (judged_well f e.stop (e.state.machine.regs 0) stop.Returns h refl) h
    by_stop (stop.Waits id) h =
        let e : Ended = host_run f.number code left (state m table records) in
        waits_good story f code left m table ends first others records id calls s comes
        (judged_well f e.stop (e.state.machine.regs 0) (stop.Waits id) h refl) h
    by_stop (stop.Drops cause detail) h =
        let e : Ended = host_run f.number code left (state m table records) in
        let some : has_cause (stop.Drops cause detail) ≡ true =
        ap (λ (x : Stop). has_cause x) (sym h)
        ∙ judged_cause f e.stop (e.state.machine.regs 0) (run_cause f.number code left (state m table records)) in
        drops_good story f e.left e.state.machine e.state.table table ends first others records
        e.state.records cause detail
        calls s (run_kept f.number code left (state m table records)) some
