-- Grafts that stand for all, and calls in flight, pay for drops.
use Rattle.std.specs.Prelude.{◌≡◌, ◌≢◌, ℕ, suc, ◌+◌, ◌<◌, ◌≤◌, ◌==◌, ◌&&◌, ◌||◌, Bool, true, false}
use Rattle.std.specs.Prelude.{not, List, [], ◌∷◌, ◌++◌, length, is_some, Option, Some, None, ◌⊎◌}
use Rattle.std.specs.List.{list_all}
use Rattle.std.proofs.Common.{arith, refl, subst, sym, ap, ◌∙◌, inl, inr}
use Rattle.std.proofs.lemmas.Bool.{cases_Bool, cases_eq, and_parts, eqb-true}
use Rattle.std.proofs.lemmas.Bool.Decides.{nat_tests}
use Rattle.kernel_model.specs.declared.Note.{Note}
use Rattle.kernel_model.specs.declared.Object.{Object}
use Rattle.kernel_model.specs.declared.Object.TheVariants.{Graft}
use Rattle.kernel_model.specs.World.{processes}
use Rattle.kernel_model.specs.Objects.{Objects}
use Rattle.kernel_model.specs.Meaning.{Meaning, After, Continues, EndsWith, Fails, Answer}
use Rattle.kernel_model.specs.Levels.{Level, Config, level_at, touched_in, touched_at, outermost_touched}
use Rattle.kernel_model.specs.History.{Mark, replay}
use Rattle.kernel_model.specs.Kernel.{Call, Kernel, Run, gave_note, after_note, call_after, with_marks, requeue}
use Rattle.kernel_model.specs.Blocking.{config_in, trace_of, config_of}
use Rattle.kernel_model.specs.Settle.{finish_on}
use Rattle.kernel_model.specs.Sound.{IsSoundKernel, once_if}
use Rattle.kernel_model.specs.Laws.{Laws, IsReady, continues, is_new_graft}
use Rattle.kernel_model.specs.Claims.{IsStable}
use Rattle.call_laws.specs.Ledgers.{at_here, at_other, sum_one}
use Rattle.kernel_laws.specs.Soundness.{HistoriesWork}
use Rattle.graft_laws.specs.Notes.{is_drop, note_count}
use Rattle.graft_laws.proofs.InPlaceLemmas.{is_in, low_stands, caller_low}
use Rattle.graft_laws.proofs.MoveLemmas.{count_more, gave_counts, after_counts}
use Rattle.graft_laws.proofs.GoLemmas.{calls_left}
use Rattle.graft_laws.proofs.GraftLemmas.{GraftsFrom, from_stands}
use Rattle.graft_laws.proofs.SoundCallLemmas.{in_graft, call_comes, call_has_come}
use Rattle.graft_laws.proofs.SumLemmas.{sum_pairs, pairs_fall, pairs_one, pairs_none, pairs_few}
use Rattle.graft_laws.proofs.EffectLemmas.{outer_held}
use Rattle.call_laws.specs.AskRanges.{once_few}

-- ---- grafts that stand for all

-- a graft stands in a call's working state, if it has one
abbrev pub stands_in : Option Config → ℕ → ℕ → Bool
stands_in None q pt = true
stands_in (Some c) q pt = is_some (c.now.accounts.graft q pt)

-- a graft is committed, and each call in flight has it
abbrev pub stands_for_all : Meaning → Kernel → ℕ → ℕ → Bool
stands_for_all m k q pt =
    is_some (k.objects.accounts.graft q pt)
    && list_all (λ p. stands_in (config_of m k p) q pt) processes

-- how many
abbrev pub grafts_left : Meaning → Kernel → ℕ
grafts_left m k = sum_pairs (λ q pt. once_if (stands_for_all m k q pt))

-- how many drops there can still be
abbrev pub drops_left : Meaning → Kernel → ℕ
drops_left m k = grafts_left m k + calls_left k.call

all_true : (f : ℕ → Bool) (xs : List ℕ) → ((p : ℕ) → f p ≡ true) → list_all f xs ≡ true
all_true f [] h = refl
all_true f (x ∷ xs) h = both_true (f x) (list_all f xs) (h x) (all_true f xs h)
  where
    both_true : (a b : Bool) → a ≡ true → b ≡ true → (a && b) ≡ true
    both_true true b h k = k
    both_true false b h k = h

all_at : (f : ℕ → Bool) (xs : List ℕ) (p : ℕ) → list_all f xs ≡ true → is_in p xs ≡ true → f p ≡ true
all_at f [] p h stands = absurd cc
all_at f (x ∷ xs) p h stands =
    let both = and_parts (f x) (list_all f xs) h in
    elim (cases_Bool (x == p)) [
      | inl here ↦ ap f (sym (eqb-true x p here)) ∙ both.0
      | inr other ↦ all_at f xs p both.1 (sym (ap (λ b. b || is_in p xs) other) ∙ stands)
    ]

pub stands_from : (m : Meaning) (k : Kernel) (q pt : ℕ) →
    is_some (k.objects.accounts.graft q pt) ≡ true →
    ((p : ℕ) → stands_in (config_of m k p) q pt ≡ true) → stands_for_all m k q pt ≡ true
stands_from m k q pt h all =
    both_true (is_some (k.objects.accounts.graft q pt))
    (list_all (λ p. stands_in (config_of m k p) q pt) processes) h
    (all_true (λ p. stands_in (config_of m k p) q pt) processes all)
  where
    both_true : (a b : Bool) → a ≡ true → b ≡ true → (a && b) ≡ true
    both_true true b h k = k
    both_true false b h k = h

pub stands_committed : (m : Meaning) (k : Kernel) (q pt : ℕ) → stands_for_all m k q pt ≡ true →
    is_some (k.objects.accounts.graft q pt) ≡ true
stands_committed m k q pt h =
    (and_parts (is_some (k.objects.accounts.graft q pt))
    (list_all (λ p. stands_in (config_of m k p) q pt) processes) h).0

pub stands_call : (m : Meaning) (k : Kernel) (q pt p : ℕ) → p < 16 →
    stands_for_all m k q pt ≡ true → stands_in (config_of m k p) q pt ≡ true
stands_call m k q pt p low h =
    all_at (λ p. stands_in (config_of m k p) q pt) processes p
    (and_parts (is_some (k.objects.accounts.graft q pt))
    (list_all (λ p. stands_in (config_of m k p) q pt) processes) h).1 (low_stands p low)

-- level 0's holds are those of depth 0
pub outermost_at : (ls : List Level) (o : Object) → 1 ≤ length ls → touched_at ls 0 o ≡ outermost_touched ls o
outermost_at [] o some = refl
outermost_at (l ∷ []) o some = refl
outermost_at (l ∷ k ∷ ls) o some =
    ap (λ b. touched_in
    (elim b as (λ _. Option Level) [ true ↦ Some l | false ↦ level_at 0 (k ∷ ls) ]) o)
    (not_first (length ls)) ∙ outermost_at (k ∷ ls) o (some_more (length ls))
  where
    not_first : (n : ℕ) → (suc n == 0) ≡ false
    not_first n = grind (arith, nat_tests)

    some_more : (n : ℕ) → 1 ≤ suc n
    some_more n = omega arith

-- one test implies another
pub once_less : (a b : Bool) (d n : ℕ) → (a ≡ true → b ≡ true) → d ≡ 0 → once_if a + d ≤ once_if b + n
once_less true true d n h e = omega arith
once_less true false d n h e = absurd (contrary (sym (h refl)))
  where
    contrary : true ≡ false → ⊥
    contrary h = cc
once_less false b d n h e = omega arith

module _ (m : Meaning) (laws : Laws m) (histories : HistoriesWork m) (r : Run)
    (sound : IsSoundKernel m r.kernel) (p : ℕ) (c : Call) (is : r.kernel.call p ≡ Some c) where
  -- the run after a change of p's call, that has taken its place
  abbrev pub Placed : Run → Kernel
  Placed u = (requeue p u).kernel

  -- drops so far, and those that there can be, are no more than they were
  abbrev pub Pays : Run → Type 0
  Pays u = note_count is_drop u.notes + drops_left m (Placed u) ≤ note_count is_drop r.notes + drops_left m r.kernel

  -- calls in flight, by p's
  pub calls_by : (call : ℕ → Option Call) → ((q : ℕ) → q ≢ p → call q ≡ r.kernel.call q) → p < 16 →
      calls_left call + 1 ≡ calls_left r.kernel.call + once_if (is_some (call p))
  calls_by call others low =
      sum_is (calls_left call) (calls_left r.kernel.call) (once_if (is_some (call p)))
      (once_if (is_some (r.kernel.call p)))
      (sum_one 16 p (λ q. once_if (is_some (call q))) (λ q. once_if (is_some (r.kernel.call q))) low
      (λ q less ne. ap (λ x. once_if (is_some x)) (others q ne)))
      (ap (λ x. once_if (is_some x)) is)
    where
      sum_is : (x y a b : ℕ) → x + b ≡ y + a → b ≡ 1 → x + 1 ≡ y + a
      sum_is x y a b e f = omega arith

  low : p < 16
  low = sound.state.store.numbers p (sound.callers p c is)

  -- ---- the history changes

  -- a graft that stands for all afterwards did so before, where p's new config has no other than it had
  marks_point : (ks : List Mark) (ns : List Note) (f : Config) →
      config_in (replay m r.kernel.world r.kernel.images r.kernel.objects p c.stage ks) ≡ Some f →
      ((q pt : ℕ) → is_some (f.now.accounts.graft q pt) ≡ true →
      stands_in (config_of m r.kernel p) q pt ≡ true) → (q pt : ℕ) →
      stands_for_all m (Placed (with_marks p c ks (record r { notes = ns }))) q pt ≡ true →
      stands_for_all m r.kernel q pt ≡ true
  marks_point ks ns f leads own q pt h =
      let l = Placed (with_marks p c ks (record r { notes = ns })) in
      let d : Call = record c { marks = Some ks } in
      let own_is : config_of m l p ≡ Some f =
      ap (λ x. config_in (trace_of m l p x)) (at_here p (Some d) r.kernel.call) ∙ leads in
      stands_from m r.kernel q pt (stands_committed m l q pt h) (λ i. elim (cases_eq i p) [
        | inl same ↦ subst (λ j. stands_in (config_of m r.kernel j) q pt ≡ true) (sym same)
            (own q pt (sym (ap (λ x. stands_in x q pt) own_is) ∙ stands_call m l q pt p low h))
        | inr ne ↦ other_by i (config_of m r.kernel i) refl
            (ap (λ x. config_in (trace_of m l i x)) (at_other p i (Some d) r.kernel.call ne)) h
      ])
    where
      other_by : (i : ℕ) (x : Option Config) → config_of m r.kernel i ≡ x → config_of m
          (Placed (with_marks p c ks (record r { notes = ns }))) i ≡ config_of m r.kernel i →
          stands_for_all m (Placed (with_marks p c ks (record r { notes = ns }))) q pt ≡ true → stands_in x q pt ≡ true
      other_by i None e same h = refl
      other_by i (Some g) e same h =
          sym (ap (λ x. stands_in x q pt) (same ∙ e))
          ∙ stands_call m (Placed (with_marks p c ks (record r { notes = ns }))) q pt i
          (caller_low m r.kernel sound i g e) h

  -- the calls are as many
  marks_calls : (ks : List Mark) (ns : List Note) → calls_left
      (Placed (with_marks p c ks (record r { notes = ns }))).call ≡ calls_left r.kernel.call
  marks_calls ks ns =
      let d : Call = record c { marks = Some ks } in
      let call = λ (i : ℕ). (with_marks p c ks (record r { notes = ns })).kernel.call i in
      same_sum (calls_left call) (calls_left r.kernel.call) (once_if (is_some (call p)))
      (calls_by call (λ i ne. at_other p i (Some d) r.kernel.call ne) low)
      (ap (λ x. once_if (is_some x)) (at_here p (Some d) r.kernel.call))
    where
      same_sum : (x y a : ℕ) → x + 1 ≡ y + a → a ≡ 1 → x ≡ y
      same_sum x y a e f = omega arith

  -- without a drop
  pub marks_pays : (ks : List Mark) (f : Config) →
      config_in (replay m r.kernel.world r.kernel.images r.kernel.objects p c.stage ks) ≡ Some f →
      ((q pt : ℕ) → is_some (f.now.accounts.graft q pt) ≡ true →
      stands_in (config_of m r.kernel p) q pt ≡ true) → Pays (with_marks p c ks r)
  marks_pays ks f leads own =
      let l = Placed (with_marks p c ks r) in
      paid (note_count is_drop r.notes) (grafts_left m l)
      (grafts_left m r.kernel) (calls_left l.call) (calls_left r.kernel.call)
      (sum_pairs (λ q pt. 0)) (pairs_none (λ q pt. 0) (λ q pt. refl))
      (pairs_fall (λ q pt. once_if (stands_for_all m l q pt))
      (λ q pt. once_if (stands_for_all m r.kernel q pt)) (λ q pt. 0) (λ q pt. 0)
      (λ q pt low low_pt. once_less (stands_for_all m l q pt) (stands_for_all m r.kernel q pt) 0 0
      (marks_point ks r.notes f leads own q pt) refl)) (marks_calls ks r.notes)
    where
      paid : (n g h a b z : ℕ) → z ≡ 0 → g + z ≤ h + z → a ≡ b → n + (g + a) ≤ n + (h + b)
      paid n g h a b z e k f = omega arith

  -- with a drop of the graft at (i, j), which stood for all and is gone
  pub marks_pays_drop : (ks : List Mark) (x : Note) (f : Config) (i j : ℕ) →
      config_in (replay m r.kernel.world r.kernel.images r.kernel.objects p c.stage ks) ≡ Some f →
      ((q pt : ℕ) → is_some (f.now.accounts.graft q pt) ≡ true →
      stands_in (config_of m r.kernel p) q pt ≡ true) →
      is_some (f.now.accounts.graft i j) ≡ false →
      stands_for_all m r.kernel i j ≡ true → i < 16 → j < 16 → note_count is_drop (x ∷ []) ≡ 1 →
      Pays (with_marks p c ks (record r { notes = r.notes ++ x ∷ [] }))
  marks_pays_drop ks x f i j leads own gone stood low_i low_j one =
      let ns = r.notes ++ x ∷ [] in
      let l = Placed (with_marks p c ks (record r { notes = ns })) in
      paid (note_count is_drop ns) (note_count is_drop r.notes) (note_count is_drop (x ∷ []))
      (grafts_left m l) (grafts_left m r.kernel) (calls_left l.call) (calls_left r.kernel.call)
      (sum_pairs (λ q pt. once_if (q == i && pt == j))) (sum_pairs (λ q pt. 0)) (count_more is_drop
      r.notes (x ∷ [])) one (pairs_one i j low_i low_j) (pairs_none (λ q pt. 0) (λ q pt. refl))
      (pairs_fall (λ q pt. once_if (stands_for_all m l q pt)) (λ q pt. once_if
      (stands_for_all m r.kernel q pt)) (λ q pt. once_if (q == i && pt == j)) (λ q pt. 0)
      (λ q pt low low_pt. at_pair q pt (cases_Bool (q == i && pt == j)))) (marks_calls ks ns)
    where
      paid : (n a b g h x y d z : ℕ) → n ≡ a + b → b ≡ 1 → d ≡ 1 → z ≡ 0 → g + d ≤ h + z → x ≡ y →
          n + (g + x) ≤ a + (h + y)
      paid n a b g h x y d z e f k l s t = omega arith

      not_standing : stands_for_all m
          (Placed (with_marks p c ks (record r { notes = r.notes ++ x ∷ [] }))) i j ≡ true → ⊥
      not_standing h =
          let l = Placed (with_marks p c ks (record r { notes = r.notes ++ x ∷ [] })) in
          let d : Call = record c { marks = Some ks } in
          let own_is : config_of m l p ≡ Some f =
          ap (λ x. config_in (trace_of m l p x)) (at_here p (Some d) r.kernel.call) ∙ leads in
          contrary (sym (sym (ap (λ x. stands_in x i j) own_is) ∙ stands_call m l i j p low h) ∙ gone)
        where
          contrary : true ≡ false → ⊥
          contrary h = cc

      here_less : (a b : Bool) → (a ≡ true → ⊥) → b ≡ true → once_if a + 1 ≤ once_if b + 0
      here_less true b never h = absurd (never refl)
      here_less false true never h = omega arith
      here_less false false never h = absurd cc

      at_pair : (q pt : ℕ) → ((q == i && pt == j) ≡ true) ⊎ ((q == i && pt == j) ≡ false) →
          once_if (stands_for_all m
          (Placed (with_marks p c ks (record r { notes = r.notes ++ x ∷ [] }))) q pt)
          + once_if (q == i && pt == j) ≤ once_if (stands_for_all m r.kernel q pt) + 0
      at_pair q pt (inl here) =
          let l = Placed (with_marks p c ks (record r { notes = r.notes ++ x ∷ [] })) in
          let both = and_parts (q == i) (pt == j) here in
          subst (λ b. once_if (stands_for_all m l q pt) + once_if b
          ≤ once_if (stands_for_all m r.kernel q pt) + 0) (sym here)
          (subst (λ a. once_if (stands_for_all m l a pt) + 1
          ≤ once_if (stands_for_all m r.kernel a pt) + 0) (sym (eqb-true q i both.0))
          (subst (λ a. once_if (stands_for_all m l i a) + 1
          ≤ once_if (stands_for_all m r.kernel i a) + 0) (sym (eqb-true pt j both.1))
          (here_less (stands_for_all m l i j) (stands_for_all m r.kernel i j) not_standing stood)))
      at_pair q pt (inr other) =
          let l = Placed (with_marks p c ks (record r { notes = r.notes ++ x ∷ [] })) in
          once_less (stands_for_all m l q pt) (stands_for_all m r.kernel q pt)
          (once_if (q == i && pt == j)) 0 (marks_point ks (r.notes ++ x ∷ []) f leads own q pt)
          (ap once_if other)

  -- ---- a piece is done

  module _ (w : Objects) (answer : Option Answer)
      (ready : IsReady m r.kernel.world r.kernel.images w p c.stage answer)
      (from : GraftsFrom r.kernel.objects.accounts w.accounts)
      (own : (q pt : ℕ) → is_some (w.accounts.graft q pt) ≡ true →
      stands_in (config_of m r.kernel p) q pt ≡ true) (ns : List Note) where
    -- the run after the piece
    abbrev Done : Run
    Done = finish_on m p c w answer (record r { notes = ns })

    -- the piece puts a graft in place
    abbrev is_new : ℕ → ℕ → Bool
    is_new q pt = is_new_graft w (m.piece r.kernel.world r.kernel.images w r.blocks p c.stage answer r.io).objects q pt

    module _ (steady : (q : ℕ) → q ≢ p → IsStable m r.kernel (Placed Done) q) where
      -- a graft that stood on the state of the piece, and stands for all afterwards, did so before
      finish_point : (q pt : ℕ) → is_some (w.accounts.graft q pt) ≡ true →
          stands_for_all m (Placed Done) q pt ≡ true → stands_for_all m r.kernel q pt ≡ true
      finish_point q pt at_w h =
          let committed = from_stands (w.accounts.graft q pt) (r.kernel.objects.accounts.graft q pt) (from q pt) at_w in
          stands_from m r.kernel q pt committed (λ i. elim (cases_eq i p) [
            | inl same ↦ subst (λ j. stands_in (config_of m r.kernel j) q pt ≡ true) (sym same) (own q pt at_w)
            | inr ne ↦ other_by i (config_of m r.kernel i) refl committed ne
          ])
        where
          other_by : (i : ℕ) (x : Option Config) → config_of m r.kernel i ≡ x →
              is_some (r.kernel.objects.accounts.graft q pt) ≡ true → i ≢ p →
              stands_in x q pt ≡ true
          other_by i None e committed ne = refl
          other_by i (Some f) e committed ne =
              let d = steady i ne f e in
              let g = in_graft m r.kernel i f e in
              let come = call_has_come m laws histories r.kernel sound i f e g
              (call_comes m laws histories r.kernel sound i f e g) in
              elim (come.before q pt) [
                | inl same ↦ same ∙ committed
                | inr held ↦ ap is_some (d.2.now (Graft q pt) (outer_held f.levels (Graft q pt) held)).0
                    ∙ sym (ap (λ x. stands_in x q pt) d.1)
                    ∙ stands_call m (Placed Done) q pt i (caller_low m r.kernel sound i f e) h
              ]

      -- a graft that stands for all afterwards did so before, or is new
      pair_less : (q pt : ℕ) → once_if (stands_for_all m (Placed Done) q pt) + 0
          ≤ once_if (stands_for_all m r.kernel q pt) + once_if (is_new q pt)
      pair_less q pt = less_by (is_some (w.accounts.graft q pt)) refl (stands_for_all m (Placed Done) q pt) refl
        where
          less_new : (a b c : Bool) → (a ≡ true → b ≡ true ⊎ c ≡ true) → once_if a + 0 ≤ once_if b + once_if c
          less_new false b c h = omega arith
          less_new true true c h = by_c c
            where
              by_c : (c : Bool) → 1 + 0 ≤ 1 + once_if c
              by_c true = omega arith
              by_c false = omega arith
          less_new true false true h = omega arith
          less_new true false false h = absurd (elim (h refl) [ inl e ↦ contrary e | inr e ↦ contrary e ])
            where
              contrary : false ≡ true → ⊥
              contrary h = cc

          new_is : (b d : Bool) → b ≡ false → d ≡ true → (not b && d) ≡ true
          new_is true d e f = absurd cc
          new_is false d e f = f

          less_by : (b : Bool) → is_some (w.accounts.graft q pt) ≡ b → (a : Bool) →
              stands_for_all m (Placed Done) q pt ≡ a →
              once_if (stands_for_all m (Placed Done) q pt) + 0
              ≤ once_if (stands_for_all m r.kernel q pt) + once_if (is_new q pt)
          less_by true at_w a e =
              less_new (stands_for_all m (Placed Done) q pt) (stands_for_all m r.kernel q pt)
              (is_new q pt) (λ h. inl (finish_point q pt at_w h))
          less_by false at_w a e =
              less_new (stands_for_all m (Placed Done) q pt)
              (stands_for_all m r.kernel q pt) (is_new q pt)
              (λ h. inr (new_is (is_some (w.accounts.graft q pt))
              (is_some ((Placed Done).objects.accounts.graft q pt)) at_w
              (stands_committed m (Placed Done) q pt h)))

      -- a new graft is one alone, and ends the call
      new_ends : sum_pairs (λ q pt. once_if (is_new q pt)) + calls_left (Placed Done).call ≤ calls_left r.kernel.call
      new_ends = by_after (m.piece r.kernel.world r.kernel.images w r.blocks p c.stage answer r.io).after refl
        where
          one_new : (b : Bool) → 1 ≤ once_if b → b ≡ true
          one_new true h = refl
          one_new false h = absurd (none_some h)
            where
              none_some : 1 ≤ 0 → ⊥
              none_some h = omega arith

          few : sum_pairs (λ q pt. once_if (is_new q pt)) ≤ 1
          few =
              pairs_few (λ q pt. once_if (is_new q pt)) (λ q pt. once_few (is_new q pt))
              (λ q pt i j a b. laws.piece.one_graft r.kernel.world r.kernel.images w
              r.blocks p c.stage answer r.io q pt i j ready (one_new (is_new q pt) a)
              (one_new (is_new i j) b))

          none_new : (b : Bool) → (b ≡ true → ⊥) → once_if b ≡ 0
          none_new true h = absurd (h refl)
          none_new false h = refl

          none : (t : After) →
              (m.piece r.kernel.world r.kernel.images w r.blocks p c.stage answer r.io).after ≡ t →
              continues t ≡ true → sum_pairs (λ q pt. once_if (is_new q pt)) ≡ 0
          none t e goes_on =
              pairs_none (λ q pt. once_if (is_new q pt))
              (λ q pt. none_new (is_new q pt)
              (λ new. contrary (sym (ap continues e ∙ goes_on) ∙ laws.piece.graft_ends
              r.kernel.world r.kernel.images w r.blocks p c.stage answer r.io q pt ready new)))
            where
              contrary : true ≡ false → ⊥
              contrary h = cc

          calls : (t : After) → (m.piece r.kernel.world r.kernel.images w r.blocks p c.stage answer r.io).after ≡ t →
              calls_left (Placed Done).call + 1 ≡ calls_left r.kernel.call + once_if (is_some (call_after c t))
          calls t e =
              calls_by (λ (i : ℕ). Done.kernel.call i)
              (λ i ne. at_other p i (call_after c (m.piece r.kernel.world r.kernel.images w
              r.blocks p c.stage answer r.io).after) r.kernel.call ne) low
              ∙ ap (λ x. calls_left r.kernel.call + once_if (is_some x)) (at_here p (call_after c
              (m.piece r.kernel.world r.kernel.images w r.blocks p c.stage answer r.io).after)
              r.kernel.call)
              ∙ ap (λ x. calls_left r.kernel.call + once_if (is_some (call_after c x))) e

          goes : (n x y : ℕ) → n ≡ 0 → x + 1 ≡ y + 1 → n + x ≤ y
          goes n x y e f = omega arith

          ended : (n x y : ℕ) → n ≤ 1 → x + 1 ≡ y + 0 → n + x ≤ y
          ended n x y e f = omega arith

          by_after : (t : After) →
              (m.piece r.kernel.world r.kernel.images w r.blocks p c.stage answer r.io).after ≡ t →
              sum_pairs (λ q pt. once_if (is_new q pt)) + calls_left (Placed Done).call
              ≤ calls_left r.kernel.call
          by_after (Continues t) e =
              goes (sum_pairs (λ q pt. once_if (is_new q pt))) (calls_left (Placed Done).call)
              (calls_left r.kernel.call) (none (Continues t) e refl) (calls (Continues t) e)
          by_after (EndsWith reply) e =
              ended (sum_pairs (λ q pt. once_if (is_new q pt))) (calls_left (Placed Done).call)
              (calls_left r.kernel.call) few (calls (EndsWith reply) e)
          by_after (Fails refusal) e =
              ended (sum_pairs (λ q pt. once_if (is_new q pt))) (calls_left (Placed Done).call)
              (calls_left r.kernel.call) few (calls (Fails refusal) e)

      -- drops among the notes are those before
      done_drops : note_count is_drop Done.notes ≡ note_count is_drop ns
      done_drops =
          let q = m.piece r.kernel.world r.kernel.images w r.blocks p c.stage answer r.io in
          sum_is (note_count is_drop Done.notes)
          (note_count is_drop (ns ++ gave_note c.number q.gave))
          (note_count is_drop ns) (note_count is_drop (gave_note c.number q.gave))
          (note_count is_drop (after_note c.number q.after))
          (count_more is_drop (ns ++ gave_note c.number q.gave) (after_note c.number q.after))
          (count_more is_drop ns (gave_note c.number q.gave)) (gave_counts c.number q.gave).0
          (after_counts c.number q.after).0
        where
          sum_is : (n x a b d : ℕ) → n ≡ x + d → x ≡ a + b → b ≡ 0 → d ≡ 0 → n ≡ a
          sum_is n x a b d e f g h = omega arith

      -- without a drop
      pub finish_pays : note_count is_drop ns ≡ note_count is_drop r.notes → Pays Done
      finish_pays same =
          paid (note_count is_drop Done.notes) (note_count is_drop ns)
          (note_count is_drop r.notes) (grafts_left m (Placed Done)) (grafts_left m r.kernel)
          (sum_pairs (λ q pt. once_if (is_new q pt)))
          (calls_left (Placed Done).call) (calls_left r.kernel.call)
          (sum_pairs (λ q pt. 0)) done_drops same (pairs_none (λ q pt. 0) (λ q pt. refl))
          (pairs_fall (λ q pt. once_if (stands_for_all m (Placed Done) q pt))
          (λ q pt. once_if (stands_for_all m r.kernel q pt)) (λ q pt. 0)
          (λ q pt. once_if (is_new q pt)) (λ q pt low low_pt. pair_less q pt)) new_ends
        where
          paid : (n a b g h k x y z : ℕ) → n ≡ a → a ≡ b → z ≡ 0 → g + z ≤ h + k → k + x ≤ y → n + (g + x) ≤ b + (h + y)
          paid n a b g h k x y z e f i l s = omega arith

      -- with a drop of the graft at (i, j), which stood for all and isn't in the state of the piece
      pub finish_pays_drop : (i j : ℕ) → is_some (w.accounts.graft i j) ≡ false →
          stands_for_all m r.kernel i j ≡ true → i < 16 → j < 16 →
          note_count is_drop ns ≡ note_count is_drop r.notes + 1 → Pays Done
      finish_pays_drop i j gone stood low_i low_j one =
          paid (note_count is_drop Done.notes) (note_count is_drop ns)
          (note_count is_drop r.notes) (grafts_left m (Placed Done)) (grafts_left m r.kernel)
          (sum_pairs (λ q pt. once_if (is_new q pt)))
          (calls_left (Placed Done).call) (calls_left r.kernel.call)
          (sum_pairs (λ q pt. once_if (q == i && pt == j))) done_drops one
          (pairs_one i j low_i low_j)
          (pairs_fall (λ q pt. once_if (stands_for_all m (Placed Done) q pt))
          (λ q pt. once_if (stands_for_all m r.kernel q pt))
          (λ q pt. once_if (q == i && pt == j)) (λ q pt. once_if (is_new q pt))
          (λ q pt low low_pt. at_pair q pt (cases_Bool (q == i && pt == j)))) new_ends
        where
          paid : (n a b g h k x y z : ℕ) → n ≡ a → a ≡ b + 1 → z ≡ 1 → g + z ≤ h + k → k + x ≤ y →
              n + (g + x) ≤ b + (h + y)
          paid n a b g h k x y z e f i l s = omega arith

          new_is : (b d : Bool) → b ≡ false → d ≡ true → (not b && d) ≡ true
          new_is true d e f = absurd cc
          new_is false d e f = f

          here_less : (a b k : Bool) → (a ≡ true → k ≡ true) → b ≡ true → once_if a + 1 ≤ once_if b + once_if k
          here_less true true true h e = omega arith
          here_less true true false h e = absurd (contrary (sym (h refl)))
            where
              contrary : true ≡ false → ⊥
              contrary h = cc
          here_less false true k h e = by_k k
            where
              by_k : (k : Bool) → 0 + 1 ≤ 1 + once_if k
              by_k true = omega arith
              by_k false = omega arith
          here_less a false k h e = absurd cc

          at_pair : (q pt : ℕ) → ((q == i && pt == j) ≡ true) ⊎ ((q == i && pt == j) ≡ false) →
              once_if (stands_for_all m (Placed Done) q pt) + once_if (q == i && pt == j)
              ≤ once_if (stands_for_all m r.kernel q pt) + once_if (is_new q pt)
          at_pair q pt (inl here) =
              let l = Placed Done in
              let both = and_parts (q == i) (pt == j) here in
              subst (λ b. once_if (stands_for_all m l q pt) + once_if b
              ≤ once_if (stands_for_all m r.kernel q pt) + once_if (is_new q pt)) (sym here)
              (subst (λ a. once_if (stands_for_all m l a pt) + 1 ≤ once_if (stands_for_all m
              r.kernel a pt) + once_if (is_new a pt)) (sym (eqb-true q i both.0))
              (subst (λ a. once_if (stands_for_all m l i a) + 1 ≤ once_if (stands_for_all m r.kernel
              i a) + once_if (is_new i a)) (sym (eqb-true pt j both.1))
              (here_less (stands_for_all m l i j) (stands_for_all m r.kernel i j)
              (is_new i j) (λ h. new_is (is_some (w.accounts.graft i j)) (is_some
              (l.objects.accounts.graft i j)) gone (stands_committed m l i j h)) stood)))
          at_pair q pt (inr other) =
              subst (λ b. once_if (stands_for_all m (Placed Done) q pt) + b
              ≤ once_if (stands_for_all m r.kernel q pt) + once_if (is_new q pt))
              (sym (ap once_if other)) (pair_less q pt)
