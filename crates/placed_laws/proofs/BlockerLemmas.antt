-- Who blocks whom is the same over the one store.
use Rattle.std.specs.Prelude.{◌≡◌, ℕ, suc, ◌<◌, ◌≤◌, ◌==◌, ◌||◌, nat_lt, Bool, true, false, cond}
use Rattle.std.specs.Prelude.{List, [], ◌∷◌, length, map, take, option_map, Option, Some, None}
use Rattle.std.specs.Prelude.{Contains}
use Rattle.std.specs.List.{AllByRecursion}
use Rattle.std.proofs.Common.{arith, refl, subst, sym, ap, ◌∙◌, inl, inr}
use Rattle.std.proofs.lemmas.Bool.{cases_Bool}
use Rattle.std.proofs.lemmas.Bool.Decides.{nat_tests}
use mathlib.Core.Path.{fun_ext}
use Rattle.kernel_model.specs.declared.Cause.{Cause}
use Rattle.kernel_model.specs.declared.Kind.TheVariants.{Steps}
use Rattle.kernel_model.specs.declared.Mode.{Mode}
use Rattle.kernel_model.specs.declared.Need.{Need}
use Rattle.kernel_model.specs.declared.Object.{Object}
use Rattle.kernel_model.specs.declared.Object.TheVariants.{Graft, Acct}
use Rattle.kernel_model.specs.World.{World, ImageTable}
use Rattle.kernel_model.specs.Objects.{Objects, Accounts, Things, GraftValue, AcctValue, same_object}
use Rattle.kernel_model.specs.SameObject.{same_object_self}
use Rattle.kernel_model.specs.Access.{early_refusal}
use Rattle.kernel_model.specs.Machine.{next_call}
use Rattle.kernel_model.specs.Charges.{payer_balance}
use Rattle.kernel_model.specs.Locks.{LockTable, Hindrance, lowest_holder, first_hindrance}
use Rattle.kernel_model.specs.Locks.{hindrance_by, user_hindrance, user_of}
use Rattle.kernel_model.specs.Meaning.{Meaning}
use Rattle.kernel_model.specs.Levels.{Level, Config, touched_at, image_of, code_in, limit_in}
use Rattle.kernel_model.specs.GraftStep.{lock_user, call_needs, instruction_needs, next_needs}
use Rattle.kernel_model.specs.UndoLog.{undo_all}
use Rattle.kernel_model.specs.Kernel.{Call, Blocker, Waiter, Kernel}
use Rattle.kernel_model.specs.Blocking.{levels_in, config_of, levels_of, holds, needs, needs_in}
use Rattle.kernel_model.specs.Blocking.{number_of_call, blocker_from, blocker}
use Rattle.kernel_model.specs.Settle.{first_free_in, first_free, order_in, rested_order, entry_with}
use Rattle.kernel_model.specs.Events.{wanted}
use Rattle.kernel_model.specs.InPlace.{is_changed_in}
use Rattle.kernel_model.specs.Alike.{LevelsAlike}
use Rattle.kernel_model.specs.Laws.{Laws}
use Rattle.graft_laws.proofs.EffectLemmas.{same_back}
use Rattle.graft_laws.proofs.HoldLemmas.{changed_held}
use Rattle.graft_laws.proofs.InPlaceLemmas.{row_low, row_high}
use Rattle.graft_laws.proofs.SoundCallLemmas.{contains_first}
use Rattle.graft_laws.proofs.SteadyLemmas.{alike_touched}
use Rattle.placed_laws.specs.Agreeing.{SameStages, SameBlockers}
use Rattle.placed_laws.specs.Placed.{PlacedCall, PlacedLevel, Placed, bare, placed_levels}
use Rattle.placed_laws.specs.Placed.{placed_holds, placed_blocker_from, placed_needs_at}
use Rattle.placed_laws.specs.Placed.{placed_needs_in, placed_needs, placed_blocker}
use Rattle.placed_laws.specs.PlacedSteps.{placed_first_free_in, placed_first_free, placed_rested_order}
use Rattle.placed_laws.specs.Stands.{without_history}
use Rattle.placed_laws.proofs.LevelLemmas.{relaid, relaid_alike, length_bare}
use Rattle.placed_laws.proofs.GraftedLemmas.{grafted}
use Rattle.placed_laws.proofs.SourceLemmas.{IsPlaced, held_same, living, files, locks}
use Rattle.placed_laws.proofs.AlignLemmas.{over_store, aligned, placed_of}
use Rattle.placed_laws.proofs.FreeLemmas.{StandsWhere, AtPiece, InGraft, stands_where, piece_agrees}
use Rattle.placed_laws.proofs.NeedLemmas.{taken_among}
use Rattle.kernel_laws.proofs.LevelLemmas.{outer_changed}

-- ---- lists of needs

-- what hinders a need
abbrev hinder : LockTable → (ℕ → Option ℕ) → (p u : ℕ) → Need → Option Hindrance
hinder locks users p u n = hindrance_by users u n (lowest_holder locks p n.object n.mode)

-- what hinders the first is the same, and is wanted in the same mode
record SameFirst (locks : LockTable) (users : ℕ → Option ℕ) (p u : ℕ) (xs ys : List Need) : Type 0 where
  first : first_hindrance locks users p u xs ≡ first_hindrance locks users p u ys
  modes : (h : Hindrance) → first_hindrance locks users p u xs ≡ Some h → wanted h.object xs ≡ wanted h.object ys

-- a hindrance is of the needed object
hinders_it : (users : ℕ → Option ℕ) (u : ℕ) (n : Need) (x : Option ℕ) (h : Hindrance) →
    hindrance_by users u n x ≡ Some h → h.object ≡ n.object
hinders_it users u n (Some q) h e = cc
hinders_it users u n None h e = by_user n.by_user (user_of users n.object) e
  where
    by_other : (q : ℕ) (b : Bool) →
        cond b None (Some (record { object = n.object; holder = q; by_user = true })) ≡ Some h →
        h.object ≡ n.object
    by_other q true e = absurd cc
    by_other q false e = cc

    by_user : (b : Bool) (y : Option ℕ) → cond b (user_hindrance u n.object y) None ≡ Some h → h.object ≡ n.object
    by_user false y e = absurd cc
    by_user true None e = absurd cc
    by_user true (Some q) e = by_other q (q == u) e

-- lists whose next needs are the same as long as nothing hinders
same_first : (locks : LockTable) (users : ℕ → Option ℕ) (p u : ℕ) (xs ys : List Need) →
    ((i : ℕ) → AllByRecursion (λ (n : Need). lowest_holder locks p n.object n.mode ≡ None) (take i xs) →
    take (suc i) xs ≡ take (suc i) ys) → SameFirst locks users p u xs ys
same_first locks users p u [] [] next = record { first = refl; modes = λ h e. refl }
same_first locks users p u [] (y ∷ ys) next = absurd (none_some (next 0 tt))
  where
    none_some : take 1 [] ≡ take 1 (y ∷ ys) → ⊥
    none_some e = cc
same_first locks users p u (x ∷ xs) [] next = absurd (none_some (next 0 tt))
  where
    none_some : take 1 (x ∷ xs) ≡ take 1 [] → ⊥
    none_some e = cc
same_first locks users p u (x ∷ xs) (y ∷ ys) next =
    subst (λ (z : Need). SameFirst locks users p u (x ∷ xs) (z ∷ ys)) (head_is (next 0 tt))
    (by_holder (same_first locks users p u xs ys) (lowest_holder locks p x.object x.mode) refl)
  where
    head_is : take 1 (x ∷ xs) ≡ take 1 (y ∷ ys) → x ≡ y
    head_is e = ap (λ (zs : List Need). elim zs as (λ _. Need) [ [] ↦ x | z ∷ rest ↦ z ]) e

    tail_is : (i : ℕ) → take (suc (suc i)) (x ∷ xs) ≡ take (suc (suc i)) (y ∷ ys) → take (suc i) xs ≡ take (suc i) ys
    tail_is i e = ap (λ (zs : List Need). elim zs as (λ _. List Need) [ [] ↦ [] | z ∷ rest ↦ rest ]) e

    hindered : (h : Hindrance) → hinder locks users p u x ≡ Some h → SameFirst locks users p u (x ∷ xs) (x ∷ ys)
    hindered h e =
        record {
          first = here xs ∙ sym (here ys);
          modes = λ i f. at_once i (sym f ∙ here xs);
        }
      where
        here : (zs : List Need) → first_hindrance locks users p u (x ∷ zs) ≡ Some h
        here zs =
            ap (λ (o : Option Hindrance). elim o as (λ _. Option Hindrance) [
              | Some j ↦ Some j
              | None ↦ first_hindrance locks users p u zs
            ]) e

        at_once : (i : Hindrance) → Some i ≡ Some h → wanted i.object (x ∷ xs) ≡ wanted i.object (x ∷ ys)
        at_once i f =
            both (same_object x.object i.object)
            (ap (same_object x.object) (object_is f) ∙ same_object_self x.object)
          where
            object_is : Some i ≡ Some h → i.object ≡ x.object
            object_is f = hinders_it users u x (lowest_holder locks p x.object x.mode) i (e ∙ sym f)

            both : (b : Bool) → b ≡ true →
                elim b as (λ _. Mode) [ true ↦ x.mode | false ↦ wanted i.object xs ]
                ≡ elim b as (λ _. Mode) [ true ↦ x.mode | false ↦ wanted i.object ys ]
            both true e = refl
            both false e = absurd cc

    passed : hinder locks users p u x ≡ None → SameFirst locks users p u xs ys →
        SameFirst locks users p u (x ∷ xs) (x ∷ ys)
    passed e rest =
        record {
          first = here xs ∙ rest.first ∙ sym (here ys);
          modes = λ i f. both i (same_object x.object i.object) (rest.modes i (sym (here xs) ∙ f));
        }
      where
        here : (zs : List Need) → first_hindrance locks users p u (x ∷ zs) ≡ first_hindrance locks users p u zs
        here zs =
            ap (λ (o : Option Hindrance). elim o as (λ _. Option Hindrance) [
              | Some j ↦ Some j
              | None ↦ first_hindrance locks users p u zs
            ]) e

        both : (i : Hindrance) (b : Bool) → wanted i.object xs ≡ wanted i.object ys →
            elim b as (λ _. Mode) [ true ↦ x.mode | false ↦ wanted i.object xs ]
            ≡ elim b as (λ _. Mode) [ true ↦ x.mode | false ↦ wanted i.object ys ]
        both i true e = refl
        both i false e = e

    by_hinder : (((i : ℕ) → AllByRecursion (λ (n : Need). lowest_holder locks p n.object n.mode ≡ None)
        (take i xs) → take (suc i) xs ≡ take (suc i) ys) → SameFirst locks users p u xs ys) →
        lowest_holder locks p x.object x.mode ≡ None → (o : Option Hindrance) →
        hinder locks users p u x ≡ o → SameFirst locks users p u (x ∷ xs) (x ∷ ys)
    by_hinder rest free (Some h) e = hindered h e
    by_hinder rest free None e = passed e (rest (λ i each. tail_is i (next (suc i) (free, each))))

    by_holder : (((i : ℕ) → AllByRecursion (λ (n : Need). lowest_holder locks p n.object n.mode ≡ None)
        (take i xs) → take (suc i) xs ≡ take (suc i) ys) → SameFirst locks users p u xs ys) →
        (o : Option ℕ) → lowest_holder locks p x.object x.mode ≡ o → SameFirst locks users p u (x ∷ xs) (x ∷ ys)
    by_holder rest (Some q) e =
        hindered (record { object = x.object; holder = q; by_user = false })
        (ap (hindrance_by users u x) e)
    by_holder rest None e = by_hinder rest e (hinder locks users p u x) refl

-- ---- instructions

-- what an instruction needs doesn't look at what its level found
kept_needs : (v : World) (l : Level) (y : Things) (x : Option ℕ) →
    instruction_needs v (record l { kept = y }) x ≡ instruction_needs v l x
kept_needs v l y None = refl
kept_needs v l y (Some id) = by_early (early_refusal v.callable id (l.machine.regs 0) (l.machine.regs 1) l.owner)
  where
    by_early : (c : Option Cause) → call_needs v (record l { kept = y }) id c ≡ call_needs v l id c
    by_early (Some cause) = refl
    by_early None = refl

-- nor at other accounts than its payer's
next_same : (v : World) (images : ImageTable) (a b : Accounts) (l : Level) (y : Things)
    (ls ks : List Level) → a.graft l.owner l.point ≡ b.graft l.owner l.point →
    a.acct l.owner ≡ b.acct l.owner →
    next_needs v images a (record l { kept = y } ∷ ks) ≡ next_needs v images b (l ∷ ls)
next_same v images a b l y ls ks graft acct =
    ap (λ (g : Option GraftValue). needs_by (record l { kept = y }) g (a.acct l.owner)) graft
    ∙ ap (λ (c : AcctValue). needs_by (record l { kept = y }) (b.graft l.owner l.point) c) acct
    ∙ ap (λ ns. cond (l.count == limit_in (b.graft l.owner l.point)
    || payer_balance Steps (b.acct l.owner) (b.graft l.owner l.point) == 0) [] ns)
    (kept_needs v l y (next_call (code_in (image_of images (b.graft l.owner l.point))) l.machine))
  where
    needs_by : Level → Option GraftValue → AcctValue → List Need
    needs_by i g c =
        cond (i.count == limit_in g || payer_balance Steps c g == 0) []
        (instruction_needs v i (next_call (code_in (image_of images g)) i.machine))

-- ---- over the one store

module _ (m : Meaning) (laws : Laws m) (k : Kernel) (x : Objects) (here : IsPlaced m k x) where
  -- the levels of the calls
  levels_alike : (p : ℕ) → LevelsAlike (levels_of m k p) (placed_levels (over_store m x k) p)
  levels_alike p = relaid_alike x.things (levels_of m k p)

  pub same_holds : (q d : ℕ) (o : Object) → placed_holds (over_store m x k) q d o ≡ holds m k q d o
  same_holds q d o = elim (cases_Bool (nat_lt q 16)) [
    | inl low ↦
        ap (λ ls. touched_at ls d o) (row_low (placed_levels (over_store m x k)) q (below q low))
        ∙ alike_touched (levels_of m k q) (relaid x.things (levels_of m k q)) d o
        (levels_alike q)
        ∙ ap (λ ls. touched_at ls d o) (sym (row_low (levels_of m k) q (below q low)))
    | inr high ↦ ap (λ ls. touched_at ls d o) (row_high (placed_levels (over_store m x k)) q
        (beyond q high) ∙ sym (row_high (levels_of m k) q (beyond q high)))
  ]
    where
      below : (q : ℕ) → nat_lt q 16 ≡ true → q < 16
      below q h = grind (arith, nat_tests)

      beyond : (q : ℕ) → nat_lt q 16 ≡ false → 16 ≤ q
      beyond q h = grind (arith, nat_tests)

  holds_is : placed_holds (over_store m x k) ≡ holds m k
  holds_is = fun_ext (λ q. fun_ext (λ d. fun_ext (λ o. same_holds q d o)))

  users_are : x.things.lock ≡ k.objects.things.lock
  users_are = fun_ext (λ u. sym (locks m laws k x here u))

  user_is : (p : ℕ) (ls ks : List Level) → LevelsAlike ls ks → lock_user p ks ≡ lock_user p ls
  user_is p [] [] h = refl
  user_is p [] (i ∷ ks) h = absurd h
  user_is p (l ∷ ls) [] h = absurd h
  user_is p (l ∷ ls) (i ∷ ks) h = ap (λ (y : Level). y.owner) (sym h.0)

  -- the first of a piece's needs that is hindered
  piece_first : (p : ℕ) (c : Call) → k.call p ≡ Some c → levels_of m k p ≡ [] → (u : ℕ) →
      SameFirst (holds m k) k.objects.things.lock p u (m.need k.world k.objects p c.stage) (m.need k.world x p c.stage)
  piece_first p c e none u =
      same_first (holds m k) k.objects.things.lock p u (m.need k.world k.objects p c.stage) (m.need k.world x p c.stage)
      (λ i each. laws.need.prefix k.world k.objects x p c.stage i (here.kernel.fit p c e)
      (sym (laws.stages.fits_same k.world k.objects x p c.stage (files m laws k x here p))
      ∙ here.kernel.fit p c e)
      (λ o need. same_back o x k.objects
      (piece_agrees m laws k x here p c (take i (m.need k.world k.objects p c.stage)) o e none
      (λ a h. taken_among i (m.need k.world k.objects p c.stage) a h) each need)))

  -- an instruction's needs
  pub next_is : (p : ℕ) (f : Config) → config_of m k p ≡ Some f → next_needs k.world k.images
      x.accounts (relaid x.things f.levels) ≡ next_needs k.world k.images f.now.accounts f.levels
  next_is p f is = by_levels f.levels refl
    where
      by_levels : (ls : List Level) → f.levels ≡ ls → next_needs k.world k.images x.accounts
          (relaid x.things ls) ≡ next_needs k.world k.images f.now.accounts ls
      by_levels [] e = refl
      by_levels (l ∷ ls) e =
          let g = grafted m laws k here.kernel p f is in
          let paid = g.replayed.sound.paid l (subst (λ ks. Contains ks l) (sym e) (contains_first l ls)) in
          let same = λ (o : Object) (h : is_changed_in f.levels o ≡ true). same_back o f.now x
          (held_same m laws k x here p f o is (changed_held f.levels o h)) in
          next_same k.world k.images x.accounts f.now.accounts l (undo_all l.records x.things) ls
          (relaid (undo_all l.records x.things) ls)
          ((same (Graft l.owner l.point) (outer_changed f.levels (Graft l.owner l.point)
          paid.0)).0) (same (Acct l.owner) (outer_changed f.levels (Acct l.owner) paid.1))

  -- levels that are there
  placed_next : (y : Placed) (p : ℕ) (c : PlacedCall) (bs : List PlacedLevel) → 1 ≤ length bs →
      placed_needs_at m y p c bs ≡ next_needs y.world y.images y.objects.accounts
      (placed_levels y p)
  placed_next y p c [] some = absurd (none_some some)
    where
      none_some : 1 ≤ 0 → ⊥
      none_some h = omega arith
  placed_next y p c (b ∷ bs) some = refl

  pub placed_next_is : (p : ℕ) (c : PlacedCall) (f : Config) → config_of m k p ≡ Some f →
      placed_needs_at m (over_store m x k) p c (map bare (levels_of m k p))
      ≡ next_needs k.world k.images f.now.accounts f.levels
  placed_next_is p c f is =
      let some = (grafted m laws k here.kernel p f is).replayed.sound.some in
      placed_next (over_store m x k) p c (map bare (levels_of m k p)) (subst (λ n. 1 ≤ n)
      (sym (length_bare (levels_of m k p) ∙ ap (λ y. length (levels_in y)) is)) some)
      ∙ ap (λ ls. next_needs k.world k.images x.accounts (relaid x.things ls)) (ap levels_in is) ∙ next_is p f is

  -- a call's needs, as far as they aren't hindered
  call_first : (p : ℕ) (c : Call) → k.call p ≡ Some c → (u : ℕ) →
      SameFirst (holds m k) k.objects.things.lock p u (needs m k p)
      (placed_needs_in m (over_store m x k) p (without_history (Some c)))
  call_first p c e u = by_where (stands_where m k p c e (λ ks marked. here.kernel.runs p c ks e marked))
    where
      pc : PlacedCall
      pc = record { number = c.number; stage = c.stage }

      itself : (ns : List Need) → SameFirst (holds m k) k.objects.things.lock p u ns ns
      itself ns = record { first = refl; modes = λ h f. refl }

      by_where : StandsWhere m k p c → SameFirst (holds m k) k.objects.things.lock p u (needs m k p)
          (placed_needs_in m (over_store m x k) p (Some pc))
      by_where (AtPiece marked none needed) =
          subst (λ ns. SameFirst (holds m k) k.objects.things.lock p u ns
          (placed_needs_in m (over_store m x k) p (Some pc))) (sym needed)
          (subst (λ ls. SameFirst (holds m k) k.objects.things.lock p u (m.need k.world k.objects
          p c.stage) (placed_needs_at m (over_store m x k) p pc (map bare ls))) (sym none)
          (piece_first p c e none u))
      by_where (InGraft f ks marked is needed) =
          subst (λ ns. SameFirst (holds m k) k.objects.things.lock p u ns
          (placed_needs_in m (over_store m x k) p (Some pc))) (sym needed)
          (subst (λ ns. SameFirst (holds m k) k.objects.things.lock p u (next_needs k.world k.images
          f.now.accounts f.levels) ns) (sym (placed_next_is p pc f is))
          (itself (next_needs k.world k.images f.now.accounts f.levels)))

  needs_first : (p u : ℕ) → SameFirst (holds m k) k.objects.things.lock p u (needs m k p)
      (placed_needs m (over_store m x k) p)
  needs_first p u = by_call (k.call p) refl
    where
      by_call : (y : Option Call) → k.call p ≡ y → SameFirst (holds m k) k.objects.things.lock p u
          (needs m k p) (placed_needs_in m (over_store m x k) p (without_history (k.call p)))
      by_call None e =
          subst (λ z. SameFirst (holds m k) k.objects.things.lock p u (needs_in m k p z)
          (placed_needs_in m (over_store m x k) p (without_history z))) (sym e)
          (record { first = refl; modes = λ h f. refl })
      by_call (Some c) e =
          subst (λ z. SameFirst (holds m k) k.objects.things.lock p u (needs m k p)
          (placed_needs_in m (over_store m x k) p (without_history z))) (sym e)
          (call_first p c e u)

  -- a blocker tells the number of the same call
  from_is : (h : Hindrance) → placed_blocker_from (over_store m x k) h ≡ blocker_from k h
  from_is h =
      ap (λ (n : Option ℕ). record {
        object = h.object;
        holder = h.holder;
        call = cond h.by_user None n;
      }) (by_call (k.call h.holder))
    where
      by_call : (y : Option Call) → option_map (λ (c : PlacedCall). c.number) (without_history y) ≡ number_of_call y
      by_call None = refl
      by_call (Some c) = refl

  pub blocker_is : (p : ℕ) → placed_blocker m (over_store m x k) p ≡ blocker m k p
  blocker_is p =
      let u = lock_user p (levels_of m k p) in
      let ns = placed_needs m (over_store m x k) p in
      ap (λ t. option_map (placed_blocker_from (over_store m x k)) (first_hindrance t x.things.lock
      p (lock_user p (placed_levels (over_store m x k) p)) ns)) holds_is
      ∙ ap (λ l. option_map (placed_blocker_from (over_store m x k)) (first_hindrance (holds m k) l
      p (lock_user p (placed_levels (over_store m x k) p)) ns)) users_are
      ∙ ap (λ i. option_map (placed_blocker_from (over_store m x k))
      (first_hindrance (holds m k) k.objects.things.lock p i ns))
      (user_is p (levels_of m k p) (placed_levels (over_store m x k) p) (levels_alike p))
      ∙ ap (option_map (placed_blocker_from (over_store m x k))) (sym (needs_first p u).first)
      ∙ ap (λ (f : Hindrance → Blocker). option_map f
      (first_hindrance (holds m k) k.objects.things.lock p u (needs m k p))) (fun_ext from_is)

  pub modes_are : (p : ℕ) (b : Blocker) → blocker m k p ≡ Some b →
      wanted b.object (placed_needs m (over_store m x k) p) ≡ wanted b.object (needs m k p)
  modes_are p b e =
      by_first (first_hindrance (holds m k) k.objects.things.lock p (lock_user p (levels_of m k p))
      (needs m k p)) refl e
    where
      object_is : (h : Hindrance) → Some (blocker_from k h) ≡ Some b → h.object ≡ b.object
      object_is h f = ap (λ (y : Option Blocker). elim y as (λ _. Object) [ None ↦ h.object | Some z ↦ z.object ]) f

      by_first : (y : Option Hindrance) →
          first_hindrance (holds m k) k.objects.things.lock p (lock_user p (levels_of m k p))
          (needs m k p) ≡ y → option_map (blocker_from k) y ≡ Some b →
          wanted b.object (placed_needs m (over_store m x k) p) ≡ wanted b.object (needs m k p)
      by_first None f g = absurd cc
      by_first (Some h) f g =
          subst (λ o. wanted o (placed_needs m (over_store m x k) p) ≡ wanted o (needs m k p))
          (object_is h g) (sym ((needs_first p (lock_user p (levels_of m k p))).modes h f))

  -- ---- the order

  blockers_are : (es : List Waiter) → placed_first_free_in m (over_store m x k)
      (placed_holds (over_store m x k)) es ≡ first_free_in m k (holds m k) es
  blockers_are [] = refl
  blockers_are (e ∷ es) =
      ap (λ (b : Option Blocker). elim b as (λ _. Option ℕ) [
        | None ↦ Some e.process
        | Some y ↦ placed_first_free_in m (over_store m x k) (placed_holds (over_store m x k)) es
      ]) (blocker_is e.process)
      ∙ ap (λ (y : Option ℕ). elim (blocker m k e.process) as (λ _. Option ℕ) [
        | None ↦ Some e.process
        | Some b ↦ y
      ]) (blockers_are es)

  pub free_is : (es : List Waiter) → placed_first_free m (over_store m x k) es ≡ first_free m k es
  free_is [] = refl
  free_is (e ∷ es) = blockers_are (e ∷ es)

  orders_are : (es : List Waiter) → placed_rested_order m (over_store m x k) es ≡ order_in m k (holds m k) es
  orders_are [] = refl
  orders_are (e ∷ es) =
      ap (λ b. entry_with e b ∷ placed_rested_order m (over_store m x k) es) (blocker_is e.process)
      ∙ ap (λ ys. entry_with e (blocker m k e.process) ∷ ys) (orders_are es)

  pub order_is : (es : List Waiter) → placed_rested_order m (over_store m x k) es ≡ rested_order m k es
  order_is [] = refl
  order_is (e ∷ es) = orders_are (e ∷ es)

pub same_stages : (m : Meaning) (laws : Laws m) → SameStages m
same_stages m laws =
    record {
      living = λ x k q h. living m laws k x.objects (placed_of m x k h) q;
      fits =
          λ x k p t h. ap (λ v. m.fits v x.objects p t) h.world ∙ sym (laws.stages.fits_same k.world
          k.objects x.objects p t (files m laws k x.objects (placed_of m x k h) p));
      left =
          λ x k p t h. ap (λ v. m.left v x.objects p t) h.world ∙ sym (laws.stages.left_same k.world
          k.objects x.objects p t (files m laws k x.objects (placed_of m x k h) p));
    }

pub same_blockers : (m : Meaning) (laws : Laws m) → SameBlockers m
same_blockers m laws =
    record {
      blockers =
          λ x k p h. ap (λ y. placed_blocker m y p) (aligned m x k h)
          ∙ blocker_is m laws k x.objects (placed_of m x k h) p;
      modes =
          λ x k p b h e. ap (λ y. wanted b.object (placed_needs m y p)) (aligned m x k h)
          ∙ modes_are m laws k x.objects (placed_of m x k h) p b e;
      held =
          λ x k q d o h. ap (λ y. placed_holds y q d o) (aligned m x k h)
          ∙ same_holds m laws k x.objects (placed_of m x k h) q d o;
      free =
          λ x k h. ap (λ (y : Placed). placed_first_free m y y.order) (aligned m x k h)
          ∙ free_is m laws k x.objects (placed_of m x k h) k.order;
      order =
          λ x k h. ap (λ (y : Placed). placed_rested_order m y y.order) (aligned m x k h)
          ∙ order_is m laws k x.objects (placed_of m x k h) k.order;
    }
