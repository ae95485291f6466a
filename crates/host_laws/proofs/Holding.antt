-- What a run does to the words of the others, and what it holds of its own.
use Rattle.std.proofs.Common.{◌+◌, ◌<◌, ◌≤◌, arith, ◌≡◌, ℕ, zero, suc, Bool, true, false, cond, not}
use Rattle.std.proofs.Common.{List, [], ◌∷◌, ◌++◌}
use Rattle.std.proofs.Common.{Option, None, Some, refl, sym, ap, subst, ◌∙◌, ◌⊎◌, inl, inr}
use Rattle.std.specs.Prelude.{◌==◌, ◌||◌, nat_le, slice_get, slice_set}
use Rattle.std.proofs.lemmas.Bool.{cases_eq, or_cases, and_parts, eqb-true, or_left, or_right, eq-eqb, leb-true}
use Rattle.graft_code.specs.Machine.{Done}
use Rattle.graft_code.specs.declared.Instr.{Instr}
use Rattle.vino_host.specs.declared.Record.{Record}
use Rattle.vino_host.specs.declared.Stop.TheVariants as stop
use Rattle.vino_host.specs.declared.Word.{Word}
use Rattle.vino_host.specs.Codes.{BUSY, NO_RECORDS, BAD_ARGUMENT, NOT_CALLABLE}
use Rattle.vino_host.specs.HostMachine.{host_step}
use Rattle.vino_host.specs.HostRuns.{State, state, Ended, Stops, after_word, answered, after_answer}
use Rattle.vino_host.specs.HostRuns.{after_done, host_run, with_r0}
use Rattle.vino_host.specs.Tables.{Serves, Gives, Refuses, is_open_to, may_serve, is_held, is_full}
use Rattle.vino_host.specs.Tables.{taken, record_of, readings, serves_word, serves}
use Rattle.host_laws.specs.Histories.{touches}
use Rattle.host_laws.proofs.Others.{get_other}
use Rattle.host_laws.specs.Alone.{seen}
use Rattle.host_laws.proofs.Readings.{get_same, readings_last, readings_beside}
use Rattle.host_laws.proofs.Touching.{owner_at, readers_at, same_owner}

-- ---- what each word that is given keeps, a run keeps

-- each word that a call is given keeps a property of table and records
abbrev pub Keeps : (number : ℕ) (P : List Word → List Record → Type 0) → Type 0
Keeps number P =
    (id k v : ℕ) (t : List Word) (r : List Record) (x : ℕ) (u : List Word) (q : List Record) → P t r →
    serves number id k v t r ≡ Gives x u q → P u q

-- a property of where a run is
abbrev Of : (P : List Word → List Record → Type 0) → State → Type 0
Of P s = P s.table s.records

answer_keeps : (P : List Word → List Record → Type 0) (number id : ℕ) (rest : State → Ended) (left : ℕ) (s : State) →
    Keeps number P → ((q : State) → Of P q → Of P (rest q).state) → Of P s →
    Of P (after_answer rest left (answered number id s)).state
answer_keeps P number id rest left s keeps h has = by_id (nat_le id 1) (nat_le id 15)
  where
    by_serves : (q : Serves) → serves number id (s.machine.regs 0) (s.machine.regs 1) s.table s.records ≡ q →
        Of P (after_answer rest left (after_word id s q)).state
    by_serves (Refuses cause) e = has
    by_serves (Gives x t r) e =
        h (state (with_r0 x s.machine) t r)
        (keeps id (s.machine.regs 0) (s.machine.regs 1) s.table s.records x t r has e)

    by_id : (a b : Bool) →
        Of P (after_answer rest left (elim a [
          | true ↦ after_word id s (serves number id (s.machine.regs 0) (s.machine.regs 1) s.table s.records)
          | false ↦ elim b [ true ↦ Stops (stop.Waits id) s | false ↦ Stops (stop.Drops NOT_CALLABLE id) s ]
        ])).state
    by_id true b = by_serves (serves number id (s.machine.regs 0) (s.machine.regs 1) s.table s.records) refl
    by_id false true = has
    by_id false false = has

done_keeps : (P : List Word → List Record → Type 0) (number : ℕ) (rest : State → Ended) (left : ℕ)
    (d : Done) (s : State) →
    Keeps number P → ((q : State) → Of P q → Of P (rest q).state) → Of P s →
    Of P (after_done number rest left d s).state
done_keeps P number rest left (Done.Went m) s keeps h has = h (state m s.table s.records) has
done_keeps P number rest left (Done.Called id m) s keeps h has = answer_keeps P number id rest left
    (state m s.table s.records) keeps h has
done_keeps P number rest left Done.Returned s keeps h has = has
done_keeps P number rest left Done.DividedByZero s keeps h has = has
done_keeps P number rest left (Done.Trapped code) s keeps h has = has
done_keeps P number rest left Done.Outside s keeps h has = has
done_keeps P number rest left Done.PastEnd s keeps h has = has

pub run_keeps : (P : List Word → List Record → Type 0) (number : ℕ) (code : List Instr) (n : ℕ) (s : State) →
    Keeps number P → Of P s → Of P (host_run number code n s).state
unfolding host_run
run_keeps P number code zero s keeps has = has
run_keeps P number code (suc n) s keeps has =
    done_keeps P number (host_run number code n) n (host_step code s.machine) s keeps
    (λ q g. run_keeps P number code n q keeps g) has

-- ---- what a call holds

-- A call of number n has begun a slice over the table `first`, where other calls have so many readings;
-- now the table is `t`, and its records are `r`.
pub record Holds (n : ℕ) (others : ℕ → ℕ) (first t : List Word) (r : List Record) : Type 0 where
  pub count : (k : ℕ) → readers_at (slice_get t k) ≡ others k + readings k r
  pub shared : (k : ℕ) → 0 < others k → seen 0 (slice_get t k) ≡ seen 0 (slice_get first k)
  pub foreign : (k : ℕ) → (owner_at (slice_get first k) ≡ 0 → ⊥) → (owner_at (slice_get first k) ≡ n → ⊥) →
      seen 0 (slice_get t k) ≡ seen 0 (slice_get first k)
  pub off : (k : ℕ) → touches r k ≡ false → seen 0 (slice_get t k) ≡ seen 0 (slice_get first k)
  pub held : (k : ℕ) → touches r k ≡ true →
      (owner_at (slice_get t k) ≡ n) ⊎ ((owner_at (slice_get t k) ≡ 0) × (0 < readings k r))
  pub owns : (k : ℕ) → owner_at (slice_get t k) ≡ n → touches r k ≡ true
  pub unchanged : (k : ℕ) → owner_at (slice_get t k) ≡ 0 → seen 0 (slice_get t k) ≡ seen 0 (slice_get first k)

pub touches_more : (rs more : List Record) (k : ℕ) → touches rs k ≡ true → touches (rs ++ more) k ≡ true
touches_more [] more k h = cc
touches_more (r ∷ rs) more k h = by_test (λ g. touches_more rs more k g) (or_cases (r.place == k) (touches rs k) h)
  where
    by_test : (touches rs k ≡ true → touches (rs ++ more) k ≡ true) → ((r.place == k) ≡ true) ⊎ (touches rs k ≡ true) →
        (r.place == k || touches (rs ++ more) k) ≡ true
    by_test g (inl e) = or_left (r.place == k) (touches (rs ++ more) k) e
    by_test g (inr e) = or_right (r.place == k) (touches (rs ++ more) k) (g e)

touches_last : (rs : List Record) (id k : ℕ) (w : Word) → touches (rs ++ record_of id k w ∷ []) k ≡ true
touches_last [] id k w = or_left (k == k) false (eq-eqb k k refl)
touches_last (r ∷ rs) id k w = or_right (r.place == k) (touches (rs ++ record_of id k w ∷ []) k)
    (touches_last rs id k w)

touches_behind : (rs : List Record) (id k : ℕ) (w : Word) (j : ℕ) → touches (rs ++ record_of id k w ∷ []) j ≡ true →
    (k ≡ j) ⊎ (touches rs j ≡ true)
touches_behind [] id k w j h = by_test (or_cases (k == j) false h)
  where
    by_test : ((k == j) ≡ true) ⊎ (false ≡ true) → (k ≡ j) ⊎ (false ≡ true)
    by_test (inl e) = inl (eqb-true k j e)
    by_test (inr e) = inr e
touches_behind (r ∷ rs) id k w j h =
    by_test (λ g. touches_behind rs id k w j g) (or_cases (r.place == j) (touches (rs ++ record_of id k w ∷ []) j) h)
  where
    deeper : (k ≡ j) ⊎ (touches rs j ≡ true) → (k ≡ j) ⊎ ((r.place == j || touches rs j) ≡ true)
    deeper (inl e) = inl e
    deeper (inr e) = inr (or_right (r.place == j) (touches rs j) e)

    by_test : (touches (rs ++ record_of id k w ∷ []) j ≡ true → (k ≡ j) ⊎ (touches rs j ≡ true)) →
        ((r.place == j) ≡ true) ⊎ (touches (rs ++ record_of id k w ∷ []) j ≡ true) →
        (k ≡ j) ⊎ ((r.place == j || touches rs j) ≡ true)
    by_test g (inl e) = inr (or_left (r.place == j) (touches rs j) e)
    by_test g (inr e) = deeper (g e)

-- a call takes a word
set_holds : (n id k v : ℕ) (others : ℕ → ℕ) (first t : List Word) (r : List Record) (w : Word) → (n ≡ 0 → ⊥) →
    Holds n others first t r → slice_get t k ≡ Some w → may_serve n id k r w ≡ true →
    Holds n others first (slice_set t k (taken n id v w)) (r ++ record_of id k w ∷ [])
set_holds n id k v others first t r w some has at may =
    record {
      count = λ j. by_count j (cases_eq j k);
      shared = λ j h. by_shared j (cases_eq j k) h (id == 1) refl;
      foreign = λ j a b. by_foreign j (cases_eq j k) a b;
      off = λ j g. by_off j (cases_eq j k) g;
      held = λ j g. by_held j (cases_eq j k) g;
      owns = λ j e. by_owns j (cases_eq j k) e;
      unchanged = λ j e. by_unchanged j (cases_eq j k) e (id == 1) refl;
    }
  where
    there : (j : ℕ) → j ≡ k → slice_get (slice_set t k (taken n id v w)) j ≡ Some (taken n id v w)
    there j e =
        ap (λ (i : ℕ). slice_get (slice_set t k (taken n id v w)) i) e ∙ get_same t k w (taken n id v w) at

    was : (j : ℕ) → j ≡ k → slice_get t j ≡ Some w
    was j e = ap (λ (i : ℕ). slice_get t i) e ∙ at

    else_ : (j : ℕ) → (j ≡ k → ⊥) → slice_get (slice_set t k (taken n id v w)) j ≡ slice_get t j
    else_ j other = get_other t k j (taken n id v w) other

    open_to : (w.owner ≡ 0) ⊎ (w.owner ≡ n)
    open_to =
        by_or (or_cases (w.owner == 0) (w.owner == n)
        (and_parts (is_open_to n w) (not (id == 1) || nat_le w.readers (readings k r)) may).0)
      where
        by_or : ((w.owner == 0) ≡ true) ⊎ ((w.owner == n) ≡ true) → (w.owner ≡ 0) ⊎ (w.owner ≡ n)
        by_or (inl e) = inl (eqb-true w.owner 0 e)
        by_or (inr e) = inr (eqb-true w.owner n e)

    by_count : (j : ℕ) → (j ≡ k) ⊎ (j ≡ k → ⊥) →
        readers_at (slice_get (slice_set t k (taken n id v w)) j) ≡ others j + readings j (r ++ record_of id k w ∷ [])
    by_count j (inl e) =
        let a : readers_at (slice_get (slice_set t k (taken n id v w)) j) ≡ w.readers + cond (id == 1) 0 1 =
        ap (λ (o : Option Word). readers_at o) (there j e) in
        let b : w.readers ≡ others j + readings j r =
        sym (ap (λ (o : Option Word). readers_at o) (was j e)) ∙ has.count j in
        let c : readings j (r ++ record_of id k w ∷ []) ≡ readings j r + cond (id == 1) 0 1 =
        ap (λ (i : ℕ). readings i (r ++ record_of id k w ∷ [])) e ∙ readings_last id k w r
        ∙ ap (λ (i : ℕ). readings i r + cond (id == 1) 0 1) (sym e) in
        omega (arith, a, b, c)
    by_count j (inr other) =
        ap (λ (o : Option Word). readers_at o) (else_ j other) ∙ has.count j
        ∙ ap (λ (m : ℕ). others j + m) (sym (readings_beside id k w r j other))

    -- where it isn't changed, value and owner stay
    reads : (j : ℕ) → j ≡ k → (id == 1) ≡ false →
        seen 0 (slice_get (slice_set t k (taken n id v w)) j) ≡ seen 0 (slice_get t j)
    reads j e f =
        ap (λ (o : Option Word). seen 0 o) (there j e)
        ∙ ap (λ (b : Bool). seen 0 (Some (record {
          value = cond b v w.value;
          owner = cond b n w.owner;
          readers = w.readers + cond b 0 1;
        }))) f
        ∙ ap (λ (o : Option Word). seen 0 o) (sym (was j e))

    by_shared : (j : ℕ) → (j ≡ k) ⊎ (j ≡ k → ⊥) → 0 < others j → (b : Bool) → (id == 1) ≡ b →
        seen 0 (slice_get (slice_set t k (taken n id v w)) j) ≡ seen 0 (slice_get first j)
    by_shared j (inl e) h false f = reads j e f ∙ has.shared j h
    by_shared j (inl e) h true f =
        let low : (not (id == 1) || nat_le w.readers (readings k r)) ≡ true =
        (and_parts (is_open_to n w) (not (id == 1) || nat_le w.readers (readings k r)) may).1 in
        let most : nat_le w.readers (readings k r) ≡ true =
        ap (λ (b : Bool). not b || nat_le w.readers (readings k r)) (sym f) ∙ low in
        let le : w.readers ≤ readings k r = leb-true w.readers (readings k r) most in
        let c : w.readers ≡ others j + readings j r =
        sym (ap (λ (o : Option Word). readers_at o) (was j e)) ∙ has.count j in
        let d : readings j r ≡ readings k r = ap (λ (i : ℕ). readings i r) e in
        absurd (omega (arith, le, c, d, h))
    by_shared j (inr other) h b f = ap (λ (o : Option Word). seen 0 o) (else_ j other) ∙ has.shared j h

    by_foreign : (j : ℕ) → (j ≡ k) ⊎ (j ≡ k → ⊥) → (owner_at (slice_get first j) ≡ 0 → ⊥) →
        (owner_at (slice_get first j) ≡ n → ⊥) →
        seen 0 (slice_get (slice_set t k (taken n id v w)) j) ≡ seen 0 (slice_get first j)
    by_foreign j (inr other) a b = ap (λ (o : Option Word). seen 0 o) (else_ j other) ∙ has.foreign j a b
    by_foreign j (inl e) a b =
        let same : owner_at (slice_get first j) ≡ w.owner =
        sym (same_owner (slice_get t j) (slice_get first j) (has.foreign j a b))
        ∙ ap (λ (o : Option Word). owner_at o) (was j e) in
        by_open same open_to
      where
        by_open : owner_at (slice_get first j) ≡ w.owner → (w.owner ≡ 0) ⊎ (w.owner ≡ n) →
            seen 0 (slice_get (slice_set t k (taken n id v w)) j) ≡ seen 0 (slice_get first j)
        by_open same (inl z) = absurd (a (same ∙ z))
        by_open same (inr z) = absurd (b (same ∙ z))

    by_off : (j : ℕ) → (j ≡ k) ⊎ (j ≡ k → ⊥) → touches (r ++ record_of id k w ∷ []) j ≡ false →
        seen 0 (slice_get (slice_set t k (taken n id v w)) j) ≡ seen 0 (slice_get first j)
    by_off j (inl e) g =
        let bad : true ≡ false =
        sym (touches_last r id k w) ∙ ap (λ (i : ℕ). touches (r ++ record_of id k w ∷ []) i) (sym e) ∙ g in cc
    by_off j (inr other) g =
        ap (λ (o : Option Word). seen 0 o) (else_ j other)
        ∙ has.off j (before (touches r j) refl)
      where
        before : (b : Bool) → touches r j ≡ b → b ≡ false
        before false h = refl
        before true h = let bad : true ≡ false = sym (touches_more r (record_of id k w ∷ []) j h) ∙ g in cc

    by_held : (j : ℕ) → (j ≡ k) ⊎ (j ≡ k → ⊥) → touches (r ++ record_of id k w ∷ []) j ≡ true →
        (owner_at (slice_get (slice_set t k (taken n id v w)) j) ≡ n)
        ⊎ ((owner_at (slice_get (slice_set t k (taken n id v w)) j) ≡ 0) ×
        (0 < readings j (r ++ record_of id k w ∷ [])))
    by_held j (inl e) g = by_change (id == 1) refl open_to
      where
        owner : owner_at (slice_get (slice_set t k (taken n id v w)) j) ≡ cond (id == 1) n w.owner
        owner = ap (λ (o : Option Word). owner_at o) (there j e)

        by_change : (b : Bool) → (id == 1) ≡ b → (w.owner ≡ 0) ⊎ (w.owner ≡ n) →
            (owner_at (slice_get (slice_set t k (taken n id v w)) j) ≡ n)
            ⊎ ((owner_at (slice_get (slice_set t k (taken n id v w)) j) ≡ 0) ×
            (0 < readings j (r ++ record_of id k w ∷ [])))
        by_change true f o = inl (owner ∙ ap (λ (b : Bool). cond b n w.owner) f)
        by_change false f (inr o) = inl (owner ∙ ap (λ (b : Bool). cond b n w.owner) f ∙ o)
        by_change false f (inl o) =
            let c : readings j (r ++ record_of id k w ∷ []) ≡ readings k r + 1 =
            ap (λ (i : ℕ). readings i (r ++ record_of id k w ∷ [])) e ∙ readings_last id k w r
            ∙ ap (λ (b : Bool). readings k r + cond b 0 1) f in
            inr (owner ∙ ap (λ (b : Bool). cond b n w.owner) f ∙ o, omega (arith, c))
    by_held j (inr other) g = by_old (has.held j (by_behind (touches_behind r id k w j g)))
      where
        by_behind : (k ≡ j) ⊎ (touches r j ≡ true) → touches r j ≡ true
        by_behind (inl e) = absurd (other (sym e))
        by_behind (inr h) = h

        by_old : (owner_at (slice_get t j) ≡ n) ⊎ ((owner_at (slice_get t j) ≡ 0) × (0 < readings j r)) →
            (owner_at (slice_get (slice_set t k (taken n id v w)) j) ≡ n)
            ⊎ ((owner_at (slice_get (slice_set t k (taken n id v w)) j) ≡ 0) ×
            (0 < readings j (r ++ record_of id k w ∷ [])))
        by_old (inl e) = inl (ap (λ (o : Option Word). owner_at o) (else_ j other) ∙ e)
        by_old (inr p) =
            inr (
              ap (λ (o : Option Word). owner_at o) (else_ j other) ∙ p.0,
              subst (λ (m : ℕ). 0 < m) (sym (readings_beside id k w r j other)) p.1,
            )

    by_owns : (j : ℕ) → (j ≡ k) ⊎ (j ≡ k → ⊥) → owner_at (slice_get (slice_set t k (taken n id v w)) j) ≡ n →
        touches (r ++ record_of id k w ∷ []) j ≡ true
    by_owns j (inl e) h = ap (λ (i : ℕ). touches (r ++ record_of id k w ∷ []) i) e ∙ touches_last r id k w
    by_owns j (inr other) h =
        touches_more r (record_of id k w ∷ []) j
        (has.owns j (sym (ap (λ (o : Option Word). owner_at o) (else_ j other)) ∙ h))

    by_unchanged : (j : ℕ) → (j ≡ k) ⊎ (j ≡ k → ⊥) → owner_at (slice_get (slice_set t k (taken n id v w)) j) ≡ 0 →
        (b : Bool) → (id == 1) ≡ b → seen 0 (slice_get (slice_set t k (taken n id v w)) j) ≡ seen 0 (slice_get first j)
    by_unchanged j (inl e) h true f =
        absurd (some (sym (ap (λ (b : Bool). cond b n w.owner) f)
        ∙ sym (ap (λ (o : Option Word). owner_at o) (there j e)) ∙ h))
    by_unchanged j (inl e) h false f =
        reads j e f ∙ has.unchanged j
        (sym (same_owner (slice_get (slice_set t k (taken n id v w)) j) (slice_get t j)
        (reads j e f)) ∙ h)
    by_unchanged j (inr other) h b f =
        ap (λ (o : Option Word). seen 0 o) (else_ j other)
        ∙ has.unchanged j (sym (ap (λ (o : Option Word). owner_at o) (else_ j other)) ∙ h)

gives_holds : (n : ℕ) (others : ℕ → ℕ) (first : List Word) → (n ≡ 0 → ⊥) → Keeps n (λ t r. Holds n others first t r)
gives_holds n others first some id k v t r x u q has h = by_word (slice_get t k) refl h
  where
    as_is : (t2 : List Word) (r2 : List Record) → t2 ≡ u → r2 ≡ q → Holds n others first t2 r2 →
        Holds n others first u q
    as_is t2 r2 et er g =
        subst (λ (y : List Word). Holds n others first y q) et
        (subst (λ (y : List Record). Holds n others first t2 y) er g)

    by_tests : (a b c : Bool) (w : Word) → slice_get t k ≡ Some w → may_serve n id k r w ≡ a →
        cond (not a) (Refuses BUSY) (cond b (Gives w.value t r)
        (cond c (Refuses NO_RECORDS)
        (Gives w.value (slice_set t k (taken n id v w)) (r ++ record_of id k w ∷ []))))
        ≡ Gives x u q → Holds n others first u q
    by_tests false b c w e may h = cc
    by_tests true true c w e may h = let et : t ≡ u = cc in let er : r ≡ q = cc in as_is t r et er has
    by_tests true false true w e may h = cc
    by_tests true false false w e may h =
        let et : slice_set t k (taken n id v w) ≡ u = cc in
        let er : r ++ record_of id k w ∷ [] ≡ q = cc in
        as_is (slice_set t k (taken n id v w)) (r ++ record_of id k w ∷ []) et er
        (set_holds n id k v others first t r w some has e may)

    by_word : (o : Option Word) → slice_get t k ≡ o →
        elim o [ None ↦ Refuses BAD_ARGUMENT | Some w ↦ serves_word n id k v t r w ] ≡ Gives x u q →
        Holds n others first u q
    by_word None e h = cc
    by_word (Some w) e h = by_tests (may_serve n id k r w) (is_held n id k r w) (is_full r w) w e refl h

-- what a call holds it holds after a run too
pub run_holds : (n : ℕ) (code : List Instr) (left : ℕ) (s : State) (others : ℕ → ℕ)
    (first : List Word) → (n ≡ 0 → ⊥) →
    Holds n others first s.table s.records →
    Holds n others first (host_run n code left s).state.table (host_run n code left s).state.records
run_holds n code left s others first some has =
    run_keeps (λ t r. Holds n others first t r) n code left s (gives_holds n others first some) has
