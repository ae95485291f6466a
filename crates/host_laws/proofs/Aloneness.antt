-- A run that stops well hangs on the words that it touched, and on no others.
use Rattle.std.proofs.Common.{◌≤◌, ◌<◌, arith, ◌≡◌, ℕ, zero, suc, Bool, true, false, cond, not}
use Rattle.std.proofs.Common.{List, [], ◌∷◌, ◌++◌, length}
use Rattle.std.proofs.Common.{Option, None, Some, refl, sym, ap, subst, ◌∙◌, ◌⊎◌, inl, inr}
use Rattle.std.specs.Prelude.{◌==◌, ◌||◌, nat_le, nat_lt, slice_get, slice_set}
use Rattle.std.proofs.lemmas.Bool.{and_parts, and_from, or_parts, or_cases, or_from, or_right}
use Rattle.std.proofs.lemmas.Bool.{cases_eq, eqb-true, ltb-true, le-leb, leb-true, leb-false}
use Rattle.std.proofs.lemmas.Bool.{false_from_ne_true}
use Rattle.graft_code.specs.Machine.{Done}
use Rattle.graft_code.specs.declared.Instr.{Instr}
use Rattle.vino_host.specs.declared.Record.{Record}
use Rattle.vino_host.specs.declared.Stop.{Stop}
use Rattle.vino_host.specs.declared.Stop.TheVariants as stop
use Rattle.vino_host.specs.declared.Word.{Word}
use Rattle.vino_host.specs.Codes.{BUSY, NO_RECORDS, BAD_ARGUMENT, NOT_CALLABLE}
use Rattle.vino_host.specs.HostMachine.{host_step}
use Rattle.vino_host.specs.HostRuns.{State, state, Ended, ended, Stops, after_word, answered}
use Rattle.vino_host.specs.HostRuns.{after_answer, after_done, host_run, with_r0}
use Rattle.vino_host.specs.Tables.{Serves, Gives, Refuses, is_open_to, may_serve, is_held, is_full}
use Rattle.vino_host.specs.Tables.{taken, record_of, readings, serves_word, serves}
use Rattle.host_laws.specs.Alone.{HasRecord, goes_well, seen, Agree, OwnsTouched, RecordsTouched}
use Rattle.host_laws.specs.Alone.{IsSameRun, RunsHangOnTheirWords}
use Rattle.host_laws.proofs.Others.{get_other}
use Rattle.host_laws.proofs.Readings.{get_same, readings_most, readings_has, readings_last, readings_beside}

has_more : (k : ℕ) (rs more : List Record) → HasRecord k rs → HasRecord k (rs ++ more)
has_more k [] more h = absurd h
has_more k (r ∷ rs) more (inl e) = inl e
has_more k (r ∷ rs) more (inr h) = inr (has_more k rs more h)

has_last : (id k : ℕ) (w : Word) (rs : List Record) → HasRecord k (rs ++ record_of id k w ∷ [])
has_last id k w [] = inl refl
has_last id k w (r ∷ rs) = inr (has_last id k w rs)

-- ---- records stay

not_gives : (c x : ℕ) (t : List Word) (q : List Record) → Refuses c ≡ Gives x t q → ⊥
not_gives c x t q h = cc

gives_grow : (number id k v : ℕ) (table : List Word) (records : List Record) (x : ℕ) (t : List Word)
    (q : List Record) (j : ℕ) →
    serves number id k v table records ≡ Gives x t q → HasRecord j records → HasRecord j q
gives_grow number id k v table records x t q j h has = by_word (slice_get table k) h
  where
    as_records : (rs : List Record) → rs ≡ q → HasRecord j rs → HasRecord j q
    as_records rs same g = subst (λ (ys : List Record). HasRecord j ys) same g

    by_tests : (a b c : Bool) (w : Word) →
        cond (not a) (Refuses BUSY) (cond b (Gives w.value table records)
        (cond c (Refuses NO_RECORDS)
        (Gives w.value (slice_set table k (taken number id v w)) (records ++ record_of id k w ∷ []))))
        ≡ Gives x t q → HasRecord j q
    by_tests false b c w h = absurd (not_gives BUSY x t q h)
    by_tests true true c w h = let same : records ≡ q = cc in as_records records same has
    by_tests true false true w h = absurd (not_gives NO_RECORDS x t q h)
    by_tests true false false w h =
        let same : records ++ record_of id k w ∷ [] ≡ q = cc in
        as_records (records ++ record_of id k w ∷ []) same (has_more j records (record_of id k w ∷ []) has)

    by_word : (o : Option Word) →
        elim o [ None ↦ Refuses BAD_ARGUMENT | Some w ↦ serves_word number id k v table records w ] ≡ Gives x t q →
        HasRecord j q
    by_word None h = absurd (not_gives BAD_ARGUMENT x t q h)
    by_word (Some w) h = by_tests (may_serve number id k records w) (is_held number id k records w)
        (is_full records w) w h

answer_grows : (number id : ℕ) (rest : State → Ended) (left : ℕ) (s : State) (j : ℕ) →
    ((q : State) → HasRecord j q.records → HasRecord j (rest q).state.records) → HasRecord j s.records →
    HasRecord j (after_answer rest left (answered number id s)).state.records
answer_grows number id rest left s j h has = by_id (nat_le id 1) (nat_le id 15)
  where
    by_serves : (q : Serves) → serves number id (s.machine.regs 0) (s.machine.regs 1) s.table s.records ≡ q →
        HasRecord j (after_answer rest left (after_word id s q)).state.records
    by_serves (Refuses cause) e = has
    by_serves (Gives x t r) e =
        h (state (with_r0 x s.machine) t r)
        (gives_grow number id (s.machine.regs 0) (s.machine.regs 1) s.table s.records x t r j e has)

    by_id : (a b : Bool) →
        HasRecord j (after_answer rest left (elim a [
          | true ↦ after_word id s (serves number id (s.machine.regs 0) (s.machine.regs 1) s.table s.records)
          | false ↦ elim b [ true ↦ Stops (stop.Waits id) s | false ↦ Stops (stop.Drops NOT_CALLABLE id) s ]
        ])).state.records
    by_id true b = by_serves (serves number id (s.machine.regs 0) (s.machine.regs 1) s.table s.records) refl
    by_id false true = has
    by_id false false = has

done_grows : (number : ℕ) (rest : State → Ended) (left : ℕ) (d : Done) (s : State) (j : ℕ) →
    ((q : State) → HasRecord j q.records → HasRecord j (rest q).state.records) → HasRecord j s.records →
    HasRecord j (after_done number rest left d s).state.records
done_grows number rest left (Done.Went m) s j h has = h (state m s.table s.records) has
done_grows number rest left (Done.Called id m) s j h has = answer_grows number id rest left
    (state m s.table s.records) j h has
done_grows number rest left Done.Returned s j h has = has
done_grows number rest left Done.DividedByZero s j h has = has
done_grows number rest left (Done.Trapped code) s j h has = has
done_grows number rest left Done.Outside s j h has = has
done_grows number rest left Done.PastEnd s j h has = has

pub run_grows : (number : ℕ) (code : List Instr) (n : ℕ) (s : State) (j : ℕ) → HasRecord j s.records →
    HasRecord j (host_run number code n s).state.records
unfolding host_run
run_grows number code zero s j has = has
run_grows number code (suc n) s j has =
    done_grows number (host_run number code n) n (host_step code s.machine) s j
    (λ q g. run_grows number code n q j g) has

-- ---- one word

-- the same word is given by another table that agrees on what is touched
record IsServedSame (number id k v : ℕ) (touched : ℕ → Bool) (t other : List Word)
    (records : List Record) (x : ℕ) (q : List Record) : Type 0 where
  table : List Word
  says : serves number id k v other records ≡ Gives x table q
  agree : Agree touched q t table
  owns : OwnsTouched number touched t
  off : (j : ℕ) → touched j ≡ false → slice_get table j ≡ slice_get other j

-- what is answered of a word by its three tests
abbrev shape : (number id k v : ℕ) → List Record → Word → List Word → (a b c : Bool) → Serves
shape number id k v records w table a b c =
    cond (not a) (Refuses BUSY) (cond b (Gives w.value table records)
    (cond c (Refuses NO_RECORDS)
    (Gives w.value (slice_set table k (taken number id v w)) (records ++ record_of id k w ∷ []))))

-- a word with so many readers
abbrev read_by : ℕ → Word → Word
read_by n w = record { value = w.value; owner = w.owner; readers = n }

serves_same : (number id k v : ℕ) (touched : ℕ → Bool) (table other : List Word) (records : List Record) (x : ℕ)
    (t : List Word) (q : List Record) → serves number id k v table records ≡ Gives x t q →
    OwnsTouched number touched table → ((j : ℕ) → HasRecord j q → touched j ≡ true) →
    Agree touched records table other →
    IsServedSame number id k v touched t other records x q
serves_same number id k v touched table other records x t q h owns places agree = by_word (slice_get table k) refl h
  where
    told : (w : Word) (a b c : Bool) → slice_get other k ≡ Some w → may_serve number id k records w ≡ a →
        is_held number id k records w ≡ b → is_full records w ≡ c →
        serves number id k v other records ≡ shape number id k v records w other a b c
    told w a b c there ea eb ec =
        ap (λ (o : Option Word). elim o as (λ _. Serves) [
          | None ↦ Refuses BAD_ARGUMENT
          | Some y ↦ serves_word number id k v other records y
        ]) there
        ∙ ap (λ (z : Bool). shape number id k v records w other z (is_held number id k records w)
        (is_full records w)) ea
        ∙ ap (λ (z : Bool). shape number id k v records w other a z (is_full records w)) eb
        ∙ ap (λ (z : Bool). shape number id k v records w other a b z) ec

    may : (w : Word) → may_serve number id k records w ≡ true →
        may_serve number id k records (read_by (readings k records) w) ≡ true
    may w e =
        let all : readings k records ≤ readings k records = omega arith in
        and_from (is_open_to number w) (not (id == 1) || nat_le (readings k records) (readings k records))
        (and_parts (is_open_to number w) (not (id == 1) || nat_le w.readers (readings k records)) e).0
        (or_right (not (id == 1)) (nat_le (readings k records) (readings k records))
        (le-leb (readings k records) (readings k records) all))

    room : (w : Word) → is_full records w ≡ false → is_full records (read_by (readings k records) w) ≡ false
    room w e =
        let few = (or_parts (nat_le 64 (length records)) (nat_le 4294967295 w.readers) e).0 in
        or_from (nat_le 64 (length records)) (nat_le 4294967295 (readings k records)) few
        (false_from_ne_true (nat_le 4294967295 (readings k records)) (λ g.
        let big : 4294967295 ≤ readings k records = leb-true 4294967295 (readings k records) g in
        let small : length records < 64 = leb-false 64 (length records) few in
        let most : readings k records ≤ length records = readings_most k records in
        omega (arith, big, small, most)))

    by_tests : (a b c : Bool) (w : Word) → slice_get table k ≡ Some w → may_serve number id k records w ≡ a →
        is_held number id k records w ≡ b → is_full records w ≡ c → shape number id k v records w
        table a b c ≡ Gives x t q →
        IsServedSame number id k v touched t other records x q
    by_tests false b c w at ea eb ec h = absurd (not_gives BUSY x t q h)
    by_tests true true c w at ea eb ec h =
        let same : table ≡ t = cc in
        let value : w.value ≡ x = cc in
        let grown : records ≡ q = cc in
        let here : touched k ≡ true =
        by_holding w at grown
        (or_cases (w.owner == number) (nat_lt 0 (readings k records))
        (and_parts (not (id == 1)) (w.owner == number || nat_lt 0 (readings k records)) eb).1) in
        record {
          table = other;
          says = told (read_by (readings k records) w) true true (is_full records (read_by (readings k records) w))
              (agree k here ∙ ap (λ (o : Option Word). seen (readings k records) o) at) (may w ea) eb refl
              ∙ ap (λ (y : ℕ). Gives y other records) value ∙ ap (λ (ys : List Record). Gives x other ys) grown;
          agree = subst (λ (ys : List Record). Agree touched ys t other) grown
              (subst (λ (u : List Word). Agree touched records u other) same agree);
          owns = subst (λ (u : List Word). OwnsTouched number touched u) same owns;
          off = λ j g. refl;
        }
      where
        by_holding : (w : Word) → slice_get table k ≡ Some w → records ≡ q →
            ((w.owner == number) ≡ true) ⊎ (nat_lt 0 (readings k records) ≡ true) → touched k ≡ true
        by_holding w at grown (inl e) = owns k w at (eqb-true w.owner number e)
        by_holding w at grown (inr e) =
            places k (subst (λ (rs : List Record). HasRecord k rs) grown
            (readings_has k records (ltb-true 0 (readings k records) e)))
    by_tests true false true w at ea eb ec h = absurd (not_gives NO_RECORDS x t q h)
    by_tests true false false w at ea eb ec h =
        let grown : records ++ record_of id k w ∷ [] ≡ q = cc in
        let here : touched k ≡ true =
        places k (subst (λ (rs : List Record). HasRecord k rs) grown (has_last id k w records)) in
        let there : slice_get other k ≡ Some (read_by (readings k records) w) =
        agree k here ∙ ap (λ (o : Option Word). seen (readings k records) o) at in
        let same : slice_set table k (taken number id v w) ≡ t = cc in
        let value : w.value ≡ x = cc in
        let new : Word = taken number id v (read_by (readings k records) w) in
        record {
          table = slice_set other k new;
          says = told (read_by (readings k records) w) true false false there (may w ea) eb (room w ec)
              ∙ ap (λ (y : ℕ). Gives y (slice_set other k new) (records ++ record_of id k w ∷ [])) value
              ∙ ap (λ (ys : List Record). Gives x (slice_set other k new) ys) grown;
          agree = subst (λ (ys : List Record). Agree touched ys t (slice_set other k new)) grown
              (subst (λ (u : List Word). Agree touched (records ++ record_of id k w ∷ []) u
              (slice_set other k new)) same
              (λ j g. by_place j (cases_eq j k) there g));
          owns = subst (λ (u : List Word). OwnsTouched number touched u) same
              (λ j y e o. owned_place j y (cases_eq j k) here e o);
          off = λ j g. off_place j (cases_eq j k) here g;
        }
      where
        by_place : (j : ℕ) → (j ≡ k) ⊎ (j ≡ k → ⊥) → slice_get other k
            ≡ Some (read_by (readings k records) w) → touched j ≡ true →
            slice_get (slice_set other k (taken number id v (read_by (readings k records) w))) j
            ≡ seen (readings j (records ++ record_of id k w ∷ []))
            (slice_get (slice_set table k (taken number id v w)) j)
        by_place j (inl e) there g =
            let new : Word = taken number id v w in
            ap (λ (i : ℕ). slice_get (slice_set other k (taken number id v (read_by (readings k records) w))) i) e
            ∙ get_same other k (read_by (readings k records) w)
            (taken number id v (read_by (readings k records) w)) there
            ∙ ap (λ (n : ℕ). Some (read_by n new)) (sym (readings_last id k w records))
            ∙ ap (λ (o : Option Word). seen (readings k (records ++ record_of id k w ∷ [])) o)
            (sym (get_same table k w new at))
            ∙ ap (λ (i : ℕ). seen (readings i (records ++ record_of id k w ∷ []))
            (slice_get (slice_set table k new) i)) (sym e)
        by_place j (inr n) there g =
            get_other other k j (taken number id v (read_by (readings k records) w)) n ∙ agree j g
            ∙ ap (λ (m : ℕ). seen m (slice_get table j)) (sym (readings_beside id k w records j n))
            ∙ ap (λ (o : Option Word). seen (readings j (records ++ record_of id k w ∷ [])) o)
            (sym (get_other table k j (taken number id v w) n))

        owned_place : (j : ℕ) (y : Word) → (j ≡ k) ⊎ (j ≡ k → ⊥) → touched k ≡ true →
            slice_get (slice_set table k (taken number id v w)) j ≡ Some y → y.owner ≡ number → touched j ≡ true
        owned_place j y (inl e) here g o = ap (λ (i : ℕ). touched i) e ∙ here
        owned_place j y (inr n) here g o = owns j y (sym (get_other table k j (taken number id v w) n) ∙ g) o

        off_place : (j : ℕ) → (j ≡ k) ⊎ (j ≡ k → ⊥) → touched k ≡ true → touched j ≡ false →
            slice_get (slice_set other k (taken number id v (read_by (readings k records) w))) j ≡ slice_get other j
        off_place j (inl e) here g =
            let bad : true ≡ false = sym here ∙ ap (λ (i : ℕ). touched i) (sym e) ∙ g in cc
        off_place j (inr n) here g = get_other other k j (taken number id v (read_by (readings k records) w)) n

    by_word : (o : Option Word) → slice_get table k ≡ o →
        elim o [ None ↦ Refuses BAD_ARGUMENT | Some w ↦ serves_word number id k v table records w ] ≡ Gives x t q →
        IsServedSame number id k v touched t other records x q
    by_word None e h = absurd (not_gives BAD_ARGUMENT x t q h)
    by_word (Some w) e h =
        by_tests (may_serve number id k records w) (is_held number id k records w)
        (is_full records w) w e refl refl refl h

-- ---- a whole run

false_true : false ≡ true → ⊥
false_true h = cc

-- what is claimed of the rest of a run
abbrev Same : (number : ℕ) → (ℕ → Bool) → (State → Ended) → Type 0
Same number touched rest =
    (q : State) (other : List Word) → goes_well (rest q).stop ≡ true → OwnsTouched number touched q.table →
    RecordsTouched touched (rest q).state.records → Agree touched q.records q.table other →
    IsSameRun touched (rest q) (rest (state q.machine other q.records)) other

abbrev Grows : (State → Ended) → Type 0
Grows rest = (q : State) (j : ℕ) → HasRecord j q.records → HasRecord j (rest q).state.records

stopped_same : (touched : ℕ → Bool) (why : Stop) (left : ℕ) (s : State) (other : List Word) →
    Agree touched s.records s.table other →
    IsSameRun touched (ended why left s) (ended why left (state s.machine other s.records)) other
stopped_same touched why left s other agree =
    record { stop = refl; left = refl; machine = refl; records = refl; on = agree; off = λ j g. refl }

word_same : (number id : ℕ) (touched : ℕ → Bool) (rest : State → Ended) (left : ℕ) (s : State)
    (other : List Word) (a : Serves) →
    Same number touched rest → Grows rest → OwnsTouched number touched s.table → Agree touched s.records s.table other →
    serves number id (s.machine.regs 0) (s.machine.regs 1) s.table s.records ≡ a →
    goes_well (after_answer rest left (after_word id s a)).stop ≡ true →
    RecordsTouched touched (after_answer rest left (after_word id s a)).state.records →
    IsSameRun touched (after_answer rest left (after_word id s a))
    (after_answer rest left (after_word id (state s.machine other s.records)
    (serves number id (s.machine.regs 0) (s.machine.regs 1) other s.records))) other
word_same number id touched rest left s other (Refuses cause) same grow owns agree e well places =
    absurd (false_true well)
word_same number id touched rest left s other (Gives x t r) same grow owns agree e well places =
    let q = state (with_r0 x s.machine) t r in
    let one = serves_same number id (s.machine.regs 0) (s.machine.regs 1) touched s.table other s.records x t r e owns
    (λ j g. places j (grow q j g)) agree in
    let all = same q one.table well one.owns places one.agree in
    subst (λ (f : Ended). IsSameRun touched (rest q) f other)
    (sym (ap (λ (z : Serves). after_answer rest left (after_word id (state s.machine other s.records) z)) one.says))
    (record {
      stop = all.stop;
      left = all.left;
      machine = all.machine;
      records = all.records;
      on = all.on;
      off = λ j g. all.off j g ∙ one.off j g;
    })

answer_same : (number id : ℕ) (touched : ℕ → Bool) (rest : State → Ended) (left : ℕ) (s : State) (other : List Word) →
    Same number touched rest → Grows rest → OwnsTouched number touched s.table → Agree touched s.records s.table other →
    goes_well (after_answer rest left (answered number id s)).stop ≡ true →
    RecordsTouched touched (after_answer rest left (answered number id s)).state.records →
    IsSameRun touched (after_answer rest left (answered number id s))
    (after_answer rest left (answered number id (state s.machine other s.records))) other
answer_same number id touched rest left s other same grow owns agree = by_id (nat_le id 1) (nat_le id 15)
  where
    by_id : (a b : Bool) →
        goes_well (after_answer rest left (elim a [
          | true ↦ after_word id s (serves number id (s.machine.regs 0) (s.machine.regs 1) s.table s.records)
          | false ↦ elim b [ true ↦ Stops (stop.Waits id) s | false ↦ Stops (stop.Drops NOT_CALLABLE id) s ]
        ])).stop ≡ true →
        RecordsTouched touched (after_answer rest left (elim a [
          | true ↦ after_word id s (serves number id (s.machine.regs 0) (s.machine.regs 1) s.table s.records)
          | false ↦ elim b [ true ↦ Stops (stop.Waits id) s | false ↦ Stops (stop.Drops NOT_CALLABLE id) s ]
        ])).state.records →
        IsSameRun touched (after_answer rest left (elim a [
          | true ↦ after_word id s (serves number id (s.machine.regs 0) (s.machine.regs 1) s.table s.records)
          | false ↦ elim b [ true ↦ Stops (stop.Waits id) s | false ↦ Stops (stop.Drops NOT_CALLABLE id) s ]
        ])) (after_answer rest left (elim a [
          | true ↦ after_word id (state s.machine other s.records)
              (serves number id (s.machine.regs 0) (s.machine.regs 1) other s.records)
          | false ↦ elim b [
            | true ↦ Stops (stop.Waits id) (state s.machine other s.records)
            | false ↦ Stops (stop.Drops NOT_CALLABLE id) (state s.machine other s.records)
          ]
        ])) other
    by_id true b well places =
        word_same number id touched rest left s other
        (serves number id (s.machine.regs 0) (s.machine.regs 1) s.table s.records) same grow owns agree refl well places
    by_id false true well places = stopped_same touched (stop.Waits id) left s other agree
    by_id false false well places = absurd (false_true well)

done_same : (number : ℕ) (touched : ℕ → Bool) (rest : State → Ended) (left : ℕ) (d : Done)
    (s : State) (other : List Word) →
    Same number touched rest → Grows rest → OwnsTouched number touched s.table → Agree touched s.records s.table other →
    goes_well (after_done number rest left d s).stop ≡ true →
    RecordsTouched touched (after_done number rest left d s).state.records →
    IsSameRun touched (after_done number rest left d s)
    (after_done number rest left d (state s.machine other s.records)) other
done_same number touched rest left (Done.Went m) s other same grow owns agree well places =
    same (state m s.table s.records) other well owns places agree
done_same number touched rest left (Done.Called id m) s other same grow owns agree well places =
    answer_same number id touched rest left (state m s.table s.records) other same grow owns agree well places
done_same number touched rest left Done.Returned s other same grow owns agree well places =
    stopped_same touched stop.Returns left s other agree
done_same number touched rest left Done.DividedByZero s other same grow owns agree well places =
    absurd (false_true well)
done_same number touched rest left (Done.Trapped code) s other same grow owns agree well places =
    absurd (false_true well)
done_same number touched rest left Done.Outside s other same grow owns agree well places = absurd (false_true well)
done_same number touched rest left Done.PastEnd s other same grow owns agree well places = absurd (false_true well)

pub runs_hang_on_their_words : RunsHangOnTheirWords
unfolding host_run
runs_hang_on_their_words number code zero s other touched well owns places agree = absurd (false_true well)
runs_hang_on_their_words number code (suc n) s other touched well owns places agree =
    done_same number touched (host_run number code n) n (host_step code s.machine) s other
    (λ q o w g p a. runs_hang_on_their_words number code n q o touched w g p a)
    (λ q j g. run_grows number code n q j g) owns agree well places
