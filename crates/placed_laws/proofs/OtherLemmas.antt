-- Notes, calls that begin and end, the order of waiting, the clock and images: a kernel in place
-- goes on to stand for the abstract one.
use Rattle.std.specs.Prelude.{◌≡◌, ◌≢◌, ℕ, suc, ◌≤◌, ◌==◌, true, cond, List, [], ◌∷◌, ◌++◌, length}
use Rattle.std.specs.Prelude.{map, Option, Some, None, Ok, ◌⊎◌}
use Rattle.std.proofs.Common.{arith, refl, subst, sym, ap, ◌∙◌, inl, inr}
use Rattle.kernel_model.specs.declared.Note.{Note}
use Rattle.kernel_model.specs.declared.Note.TheVariants.{Ticked}
use Rattle.kernel_model.specs.declared.Object.{Object}
use Rattle.kernel_model.specs.declared.Object.TheVariants.{Queue}
use Rattle.kernel_model.specs.declared.SysCall.{SysCall}
use Rattle.kernel_model.specs.World.{processes}
use Rattle.kernel_model.specs.Objects.{SameAt, at}
use Rattle.kernel_model.specs.Policies.{lives}
use Rattle.kernel_model.specs.Meaning.{Meaning, Stage}
use Rattle.kernel_model.specs.Levels.{Level}
use Rattle.kernel_model.specs.Kernel.{Call, Waiter, Kernel, Run, noted, joins, requeue, with_call}
use Rattle.kernel_model.specs.Kernel.{new_entry, less_entry, is_at_piece}
use Rattle.kernel_model.specs.Blocking.{config_in, levels_in, trace_of, config_of, levels_of, blocker}
use Rattle.kernel_model.specs.Settle.{rested_order}
use Rattle.kernel_model.specs.Events.{counted, in_order}
use Rattle.kernel_model.specs.InPlace.{Cut, no_cut, in_place, over, store_with}
use Rattle.kernel_model.specs.Sound.{IsSoundKernel}
use Rattle.kernel_model.specs.Alike.{Extends}
use Rattle.kernel_model.specs.Laws.{Laws}
use Rattle.call_laws.specs.Ledgers.{at_here, at_other}
use Rattle.graft_laws.specs.Histories.{HasRange}
use Rattle.graft_laws.specs.Kernels.{IsSoundRun, with_images}
use Rattle.graft_laws.proofs.OrderLemmas.{with_order, config_same}
use Rattle.graft_laws.proofs.SettleSoundLemmas.{rested_sound, timed_out_sound, joined_call_sound}
use Rattle.graft_laws.proofs.EventLemmas.{joins_sound, ticked_sound}
use Rattle.graft_laws.proofs.MoreImageLemmas.{images_stay_sound}
use Rattle.placed_laws.specs.Placed.{has_some, PlacedCall, PlacedLevel, Placed, PlacedRun, bare, placed_blocker}
use Rattle.placed_laws.specs.PlacedSteps.{is_placed_at_piece, placed_rested_order}
use Rattle.placed_laws.specs.Stands.{without_history, StandsFor, RunStandsFor}
use Rattle.placed_laws.specs.Keeping.{OthersStand, first_call, first_placed}
use Rattle.placed_laws.proofs.GraftedLemmas.{grafted}
use Rattle.placed_laws.proofs.SourceLemmas.{living}
use Rattle.placed_laws.proofs.AlignLemmas.{aligned, placed_of}
use Rattle.placed_laws.proofs.AfterLemmas.{number_cases}
use Rattle.placed_laws.proofs.FreeLemmas.{StandsWhere, AtPiece, InGraft, stands_where}
use Rattle.placed_laws.proofs.BlockerLemmas.{blocker_is, order_is}
use Rattle.placed_laws.proofs.GoLemmas.{history_at}
use Rattle.placed_laws.proofs.PieceLemmas.{level_is}
use Rattle.placed_laws.proofs.StandLemmas.{call_there}

-- ---- another kernel with the same objects and configs

-- the store in place is the same
store_same : (m : Meaning) (k l : Kernel) (cut : Cut) (ps : List ℕ) → l.objects ≡ k.objects →
    ((p : ℕ) → config_of m l p ≡ config_of m k p) → store_with m l cut ps ≡ store_with m k cut ps
store_same m k l cut [] objects configs = objects
store_same m k l cut (p ∷ ps) objects configs =
    ap (λ c. over c (cut p) (store_with m l cut ps)) (configs p)
    ∙ ap (over (config_of m k p) (cut p)) (store_same m k l cut ps objects configs)

-- what stands for a kernel but for calls, the order, the clock and images stands for one with the same configs
record Moved (m : Meaning) (x : Placed) (k l : Kernel) : Type 0 where
  levels : (p : ℕ) → x.levels p ≡ map bare (levels_of m l p)
  objects : (o : Object) → HasRange o → SameAt o x.objects (in_place m l)

moved : (m : Meaning) (x : Placed) (k l : Kernel) → StandsFor m x k → l.objects ≡ k.objects →
    ((p : ℕ) → config_of m l p ≡ config_of m k p) → Moved m x k l
moved m x k l h objects configs =
    record {
      levels = λ p. h.levels p ∙ ap (λ c. map bare (levels_in c)) (sym (configs p));
      objects =
          λ o range. subst (SameAt o x.objects)
          (sym (store_same m k l no_cut processes objects configs)) (h.objects o range);
    }

-- the configs of calls that stay
config_beside : (m : Meaning) (k : Kernel) (call : ℕ → Option Call) (es : List Waiter) (p : ℕ) →
    call p ≡ k.call p → config_of m (record k { call = call; order = es }) p ≡ config_of m k p
config_beside m k call es p same =
    ap (λ c. config_in (trace_of m (record k { call = call; order = es }) p c)) same
    ∙ by_call (k.call p)
  where
    by_call : (c : Option Call) → config_in (trace_of m (record k { call = call; order = es }) p c)
        ≡ config_in (trace_of m k p c)
    by_call None = refl
    by_call (Some c) = refl

-- a call without a history has no config
no_config : (m : Meaning) (k : Kernel) (p : ℕ) (c : Option Call) →
    ((d : Call) → c ≡ Some d → d.marks ≡ None) → config_in (trace_of m k p c) ≡ None
no_config m k p None h = refl
no_config m k p (Some d) h = ap config_in (no_trace (h d refl))
  where
    no_trace : d.marks ≡ None → trace_of m k p (Some d) ≡ None
    no_trace marked = rw marked refl

-- a run whose kernel has another order and clock
reordered : (m : Meaning) (x : PlacedRun) (r : Run) (n : ℕ) (es : List Waiter) → RunStandsFor m x r →
    IsSoundKernel m (with_order r.kernel n es) →
    StandsFor m (record (x.placed) { clock = n; order = es }) (with_order r.kernel n es)
reordered m x r n es h sound =
    let k = h.kernel in
    let on = moved m x.placed r.kernel (with_order r.kernel n es) k refl (config_same m r.kernel n es) in
    record {
      world = k.world;
      images = k.images;
      clock = refl;
      order = refl;
      calls = k.calls;
      levels = on.levels;
      objects = on.objects;
      store = k.store;
      kernel = sound;
    }

module _ (m : Meaning) (laws : Laws m) where
  sound_run : (x : PlacedRun) (r : Run) → RunStandsFor m x r → IsSoundRun m r
  sound_run x r h = record { kernel = h.kernel.kernel; blocks = h.whole }

  -- who blocks a call
  pub blocker_there : (x : PlacedRun) (r : Run) (p : ℕ) → RunStandsFor m x r →
      placed_blocker m x.placed p ≡ blocker m r.kernel p
  blocker_there x r p h =
      ap (λ (y : Placed). placed_blocker m y p) (aligned m x.placed r.kernel h.kernel)
      ∙ blocker_is m laws r.kernel x.placed.objects (placed_of m x.placed r.kernel h.kernel) p

  -- no call in place is none of the abstract kernel
  none_there : (y : Option Call) → without_history y ≡ None → y ≡ None
  none_there None h = refl
  none_there (Some c) h = absurd cc

  -- a call begins
  begins : (x : PlacedRun) (r : Run) (p number : ℕ) (call : SysCall) (t : Stage) →
      RunStandsFor m x r → x.placed.call p ≡ None → lives x.placed.objects.things.queue p ≡ true →
      m.early x.placed.world x.placed.images p call ≡ Ok t → let l =
      (joins p (with_call p (Some (first_call number t)) r)).kernel in
      StandsFor m (record (x.placed) {
        call = at p (Some (first_placed number t)) x.placed.call;
        order = x.placed.order ++ new_entry p ∷ [];
      }) l
  begins x r p number call t h none alive early =
      let k = h.kernel in
      let c = first_call number t in
      let calls = at p (Some c) r.kernel.call in
      let es = r.kernel.order ++ new_entry p ∷ [] in
      let l = (joins p (with_call p (Some c) r)).kernel in
      let no_call = none_there (r.kernel.call p) (sym (k.calls p) ∙ none) in
      let lively = sym (living m laws r.kernel x.placed.objects (placed_of m x.placed r.kernel k) p) ∙ alive in
      let granted = ap (λ v. m.early v r.kernel.images p call) (sym k.world)
      ∙ ap (λ i. m.early x.placed.world i p call) (sym k.images) ∙ early in
      let sound = joined_call_sound m laws laws.need.grafts number p call t r (sound_run x r h)
      no_call lively granted in
      let on = moved m x.placed r.kernel l k refl (λ q. by_number calls es q no_call (number_cases q p)) in
      record {
        world = k.world;
        images = k.images;
        clock = k.clock;
        order = ap (λ ys. ys ++ new_entry p ∷ []) k.order;
        calls = λ q. same_at q (λ i. k.calls i);
        levels = on.levels;
        objects = on.objects;
        store = k.store;
        kernel = sound.kernel;
      }
    where
      same_at : (q : ℕ) → ((i : ℕ) → x.placed.call i ≡ without_history (r.kernel.call i)) →
          at p (Some (first_placed number t)) x.placed.call q
          ≡ without_history (at p (Some (first_call number t)) r.kernel.call q)
      same_at q same =
          ap (λ y. cond (q == p) (Some (first_placed number t)) y) (same q)
          ∙ history_at p q (Some (first_call number t)) r.kernel.call

      by_number : (calls : ℕ → Option Call) (es : List Waiter) (q : ℕ) → r.kernel.call p ≡ None → (q ≡ p) ⊎ (q ≢ p) →
          config_of m (record (r.kernel) {
            call = at p (Some (first_call number t)) r.kernel.call;
            order = es;
          }) q ≡ config_of m r.kernel q
      by_number calls es q no_call (inr ne) =
          config_beside m r.kernel (at p (Some (first_call number t)) r.kernel.call) es q
          (at_other p q (Some (first_call number t)) r.kernel.call ne)
      by_number calls es q no_call (inl e) =
          subst (λ i. config_of m (record (r.kernel) {
            call = at p (Some (first_call number t))
                r.kernel.call;
            order = es;
          }) i ≡ config_of m r.kernel i) (sym e)
          (ap (λ y. config_in (trace_of m (record (r.kernel) {
            call = at p
                (Some (first_call number t)) r.kernel.call;
            order = es;
          }) p y))
          (at_here p (Some (first_call number t)) r.kernel.call)
          ∙ sym (ap (λ y. config_in (trace_of m r.kernel p y)) no_call))

  -- a call without levels has no history
  no_marks : (x : PlacedRun) (r : Run) (p : ℕ) (c : Call) → RunStandsFor m x r →
      r.kernel.call p ≡ Some c → x.placed.levels p ≡ [] → c.marks ≡ None
  no_marks x r p c h e none =
      by_where (stands_where m r.kernel p c e (λ ks marked. h.kernel.kernel.runs p c ks e marked))
    where
      length_bare : (ls : List Level) → map bare ls ≡ [] → length ls ≡ 0
      length_bare [] e = refl
      length_bare (l ∷ ls) e = absurd (bad (bare l) (map bare ls) e)
        where
          bad : (b : PlacedLevel) (bs : List PlacedLevel) → b ∷ bs ≡ [] → ⊥
          bad b bs e = cc

      none_some : (n : ℕ) → n ≡ 0 → 1 ≤ n → ⊥
      none_some n e h = omega arith

      by_where : StandsWhere m r.kernel p c → c.marks ≡ None
      by_where (AtPiece marked gone needed) = marked
      by_where (InGraft f ks marked leads needed) =
          absurd (none_some (length f.levels) (ap (λ y. length (levels_in y)) (sym leads)
          ∙ length_bare (levels_of m r.kernel p) (sym (h.kernel.levels p) ∙ none))
          (grafted m laws r.kernel h.kernel.kernel p f leads).replayed.sound.some)

  -- a call ends
  ends : (x : PlacedRun) (r : Run) (p : ℕ) (c : PlacedCall) (n : Note) → RunStandsFor m x r →
      x.placed.call p ≡ Some c → x.placed.levels p ≡ [] →
      let l = (requeue p (noted n (with_call p None r))).kernel in
      StandsFor m (record (x.placed) {
        call = at p None x.placed.call;
        order =
            less_entry p x.placed.order ++ cond (is_placed_at_piece (at p None x.placed.call p)
            (x.placed.levels p)) (new_entry p ∷ []) [];
      }) l
  ends x r p c n h there none =
      let k = h.kernel in
      let l = (requeue p (noted n (with_call p None r))).kernel in
      let d = call_there (r.kernel.call p) c (sym (k.calls p) ∙ there) in
      let marked = no_marks x r p d.0 h d.1 none in
      let sound = timed_out_sound m laws laws.need.grafts p
      (record { object = Queue; holder = 0; call = None }) d.0 r (sound_run x r h) d.1 in
      let on = moved m x.placed r.kernel l k refl (λ q. by_number l.order q d.0 d.1 marked (number_cases q p)) in
      record {
        world = k.world;
        images = k.images;
        clock = k.clock;
        order =
            ap (λ ys. less_entry p ys ++ cond (is_placed_at_piece (at p None x.placed.call p)
            (x.placed.levels p)) (new_entry p ∷ []) []) k.order
            ∙ ap (λ b. less_entry p r.kernel.order ++ cond b (new_entry p ∷ []) [])
            (ap (λ y. is_placed_at_piece y (x.placed.levels p)) (at_here p None x.placed.call)
            ∙ sym (ap is_at_piece (at_here p None r.kernel.call)));
        calls = λ q. ap (λ y. cond (q == p) None y) (k.calls q) ∙ history_at p q None r.kernel.call;
        levels = on.levels;
        objects = on.objects;
        store = k.store;
        kernel = sound.kernel;
      }
    where
      is_it : (a b : Call) → Some a ≡ Some b → a ≡ b
      is_it a b h = cc

      by_number : (es : List Waiter) (q : ℕ) (d : Call) → r.kernel.call p ≡ Some d →
          d.marks ≡ None → (q ≡ p) ⊎ (q ≢ p) →
          config_of m (record (r.kernel) { call = at p None r.kernel.call; order = es }) q ≡ config_of m r.kernel q
      by_number es q d e marked (inr ne) =
          config_beside m r.kernel (at p None r.kernel.call) es q
          (at_other p q None r.kernel.call ne)
      by_number es q d e marked (inl same) =
          subst (λ i. config_of m (record (r.kernel) { call = at p None r.kernel.call; order = es })
          i ≡ config_of m r.kernel i) (sym same)
          (ap (λ y. config_in
          (trace_of m (record (r.kernel) { call = at p None r.kernel.call; order = es }) p y))
          (at_here p None r.kernel.call)
          ∙ sym (no_config m r.kernel p (r.kernel.call p)
          (λ b f. ap (λ (y : Call). y.marks) (is_it b d (sym f ∙ e)) ∙ marked)))

  pub others_stand : OthersStand m
  others_stand =
      record {
        notes =
            λ x r n h. record {
              kernel = h.kernel;
              blocks = h.blocks;
              notes = ap (λ ns. ns ++ n ∷ []) h.notes;
              io = h.io;
              whole = h.whole;
            };
        beginning = λ x r p number call t h none alive early.
            record {
              kernel = begins x r p number call t h none alive early;
              blocks = h.blocks;
              notes = h.notes;
              io = h.io;
              whole = h.whole;
            };
        ending = λ x r p c n h there none.
            record {
              kernel = ends x r p c n h there none;
              blocks = h.blocks;
              notes = ap (λ ns. ns ++ n ∷ []) h.notes;
              io = h.io;
              whole = h.whole;
            };
        joining = λ x r p b h some away blocked.
            let k = h.kernel in
            let level = level_is m laws r.kernel k.kernel p ∙ ap has_some (sym (k.levels p)) ∙ some in
            let sound = joins_sound m laws laws.need.grafts p b r
            (sound_run x r h) level (ap (in_order p) (sym k.order) ∙ away)
            (sym (blocker_there x r p h) ∙ blocked) in
            let on = reordered m x r r.kernel.clock (r.kernel.order ++ new_entry p ∷ []) h sound.kernel in
            record {
              kernel = record {
                world = on.world;
                images = on.images;
                clock = k.clock;
                order = ap (λ es. es ++ new_entry p ∷ []) k.order;
                calls = on.calls;
                levels = on.levels;
                objects = on.objects;
                store = on.store;
                kernel = sound.kernel;
              };
              blocks = h.blocks;
              notes = h.notes;
              io = h.io;
              whole = h.whole;
            };
        resting = λ x r h.
            let k = h.kernel in
            let sound = rested_sound m laws laws.need.grafts r (sound_run x r h) in
            let on = reordered m x r r.kernel.clock (rested_order m r.kernel r.kernel.order) h sound.kernel in
            record {
              kernel = record {
                world = on.world;
                images = on.images;
                clock = k.clock;
                order =
                    ap (λ (y : Placed). placed_rested_order m y y.order)
                    (aligned m x.placed r.kernel k) ∙ order_is m laws r.kernel x.placed.objects
                    (placed_of m x.placed r.kernel k) r.kernel.order;
                calls = on.calls;
                levels = on.levels;
                objects = on.objects;
                store = on.store;
                kernel = sound.kernel;
              };
              blocks = h.blocks;
              notes = h.notes;
              io = h.io;
              whole = h.whole;
            };
        ticking = λ x r number h.
            let k = h.kernel in
            let sound = ticked_sound m laws laws.need.grafts number r (sound_run x r h) in
            let on = reordered m x r (suc r.kernel.clock) (counted r.kernel.order) h sound.kernel in
            record {
              kernel = record {
                world = on.world;
                images = on.images;
                clock = ap suc k.clock;
                order = ap counted k.order;
                calls = on.calls;
                levels = on.levels;
                objects = on.objects;
                store = on.store;
                kernel = sound.kernel;
              };
              blocks = h.blocks;
              notes =
                  ap (λ n. x.notes ++ Ticked number (suc n) ∷ []) k.clock
                  ∙ ap (λ ns. ns ++ Ticked number (suc r.kernel.clock) ∷ []) h.notes;
              io = h.io;
              whole = h.whole;
            };
        images = λ x r more h extends.
            let k = h.kernel in
            let stays = images_stay_sound m r more laws (sound_run x r h)
            (subst (λ i. Extends i more) k.images extends) in
            let on = moved m x.placed r.kernel (with_images more r).kernel k refl stays.1 in
            record {
              kernel = record {
                world = k.world;
                images = refl;
                clock = k.clock;
                order = k.order;
                calls = k.calls;
                levels = on.levels;
                objects = on.objects;
                store = k.store;
                kernel = stays.0.kernel;
              };
              blocks = h.blocks;
              notes = h.notes;
              io = h.io;
              whole = h.whole;
            };
      }
