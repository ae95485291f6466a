-- What is shown of a kernel in place is what is shown of the abstract kernel.
use Rattle.std.specs.Prelude.{◌≡◌, ℕ, suc, ◌<◌, nat_lt, Bool, true, false, cond, List, [], ◌∷◌}
use Rattle.std.specs.Prelude.{◌++◌, length, map, filter, filter_map, flat_map, option_map, reverse}
use Rattle.std.specs.Prelude.{Option, Some, None}
use Rattle.std.specs.List.{AllByRecursion, range_with_len}
use Rattle.std.proofs.Common.{arith, refl, sym, ap, ◌∙◌, inl, inr}
use Rattle.std.proofs.lemmas.Bool.{cases_Bool}
use Rattle.std.proofs.lemmas.Bool.Decides.{nat_tests}
use mathlib.Core.Path.{fun_ext}
use Rattle.kernel_model.specs.declared.Object.{Object}
use Rattle.kernel_model.specs.declared.Object.TheVariants.{Graft, Acct, Cell, OpenFile, Queue, Cache, Lock, Pol}
use Rattle.kernel_model.specs.declared.RawRow.{RawRow}
use Rattle.kernel_model.specs.declared.FrameRow.{FrameRow}
use Rattle.kernel_model.specs.declared.OpenRow.{OpenRow}
use Rattle.kernel_model.specs.declared.QueueRow.{QueueRow}
use Rattle.kernel_model.specs.declared.Kind.TheVariants.{Steps, Records, Locks}
use Rattle.kernel_model.specs.World.{World, processes, file_row}
use Rattle.kernel_model.specs.Objects.{Objects, GraftValue, AcctValue, FrameValue, CacheValue, PolValue, SameAt}
use Rattle.kernel_model.specs.Policies.{lives}
use Rattle.kernel_model.specs.Meaning.{Meaning}
use Rattle.kernel_model.specs.Levels.{Level}
use Rattle.kernel_model.specs.UndoLog.{undo_log, numbered_log}
use Rattle.kernel_model.specs.declared.Note.TheVariants.{InGraft}
use Rattle.kernel_model.specs.Kernel.{Call, Kernel, Run, noted}
use Rattle.kernel_model.specs.Blocking.{levels_of}
use Rattle.kernel_model.specs.Events.{innermost, graft_note}
use Rattle.kernel_model.specs.InPlace.{in_place}
use Rattle.kernel_model.specs.RawRows.{living, points, acct_row, cells_row, name_of_file}
use Rattle.kernel_model.specs.RawRows.{open_rows, graft_rows, shown_param, pol_row, lock_row}
use Rattle.kernel_model.specs.RawRows.{wait_row, top_of, rows_of_levels, undo_row, call_row}
use Rattle.kernel_model.specs.RawRows.{level_rows, undo_rows, rows_on, raw_rows}
use Rattle.kernel_model.specs.Sound.{IsSoundStore}
use Rattle.kernel_model.specs.Alike.{LevelsAlike}
use Rattle.kernel_model.specs.Laws.{Laws}
use Rattle.kernel_laws.proofs.StepLemmas.{no_file_high, no_file_beyond}
use Rattle.graft_laws.proofs.LevelsAlikeLemmas.{length_alike}
use Rattle.graft_laws.proofs.InPlaceLemmas.{in_place_reads, changer, changer_config}
use Rattle.placed_laws.specs.Agreeing.{SameShown}
use Rattle.placed_laws.specs.Placed.{has_some, PlacedCall, Placed, placed_levels}
use Rattle.placed_laws.specs.PlacedSteps.{is_placed_at_piece}
use Rattle.placed_laws.specs.PlacedRows.{placed_call_row, placed_level_rows, placed_undo_rows, placed_rows}
use Rattle.placed_laws.specs.Stands.{without_history}
use Rattle.placed_laws.proofs.LevelLemmas.{relaid, relaid_alike}
use Rattle.placed_laws.proofs.GraftedLemmas.{grafted}
use Rattle.placed_laws.proofs.SourceLemmas.{IsPlaced, locks}
use Rattle.placed_laws.proofs.AlignLemmas.{over_store, aligned, placed_of}
use Rattle.placed_laws.proofs.PieceLemmas.{level_is, piece_is}

-- ---- levels

rows_alike : (p : ℕ) (ls ks : List Level) → LevelsAlike ls ks → rows_of_levels p ls ≡ rows_of_levels p ks
rows_alike p [] [] h = refl
rows_alike p [] (k ∷ ks) h = absurd h
rows_alike p (l ∷ ls) [] h = absurd h
rows_alike p (l ∷ ls) (k ∷ ks) h =
    ap (λ n. RawRow.Level p n l.owner l.point l.count ∷ rows_of_levels p ls) (length_alike ls ks h.1)
    ∙ ap (λ (y : Level). RawRow.Level p (length ks) y.owner y.point y.count ∷ rows_of_levels p ls)
    h.0 ∙ ap (λ rows. RawRow.Level p (length ks) k.owner k.point k.count ∷ rows)
    (rows_alike p ls ks h.1)

top_alike : (ls ks : List Level) → LevelsAlike ls ks → top_of ls ≡ top_of ks
top_alike [] [] h = refl
top_alike [] (k ∷ ks) h = absurd h
top_alike (l ∷ ls) [] h = absurd h
top_alike (l ∷ ls) (k ∷ ks) h =
    ap (λ (y : Level). top_of (y ∷ ls)) h.0 ∙ ap (λ (n : ℕ). Some
    (record { installer = k.owner; point = k.point; depth = suc n })) (length_alike ls ks h.1)

log_alike : (ls ks : List Level) → LevelsAlike ls ks → undo_log ls ≡ undo_log ks
log_alike [] [] h = refl
log_alike [] (k ∷ ks) h = absurd h
log_alike (l ∷ ls) [] h = absurd h
log_alike (l ∷ ls) (k ∷ ks) h =
    ap (λ (y : Level). y.records ∷ undo_log ls) h.0
    ∙ ap (λ log. k.records ∷ log) (log_alike ls ks h.1)

note_alike : (n : ℕ) (r : Run) (ls ks : List Level) → LevelsAlike ls ks → graft_note n ls r ≡ graft_note n ks r
note_alike n r [] [] h = refl
note_alike n r [] (k ∷ ks) h = absurd h
note_alike n r (l ∷ ls) [] h = absurd h
note_alike n r (l ∷ ls) (k ∷ ks) h =
    ap (λ (y : Level). graft_note n (y ∷ ls) r) h.0
    ∙ ap (λ (i : ℕ). noted (InGraft n k.owner k.point (suc i)) r) (length_alike ls ks h.1)

inner_alike : (ls ks : List Level) → LevelsAlike ls ks → innermost ls ≡ innermost ks
inner_alike [] [] h = refl
inner_alike [] (k ∷ ks) h = absurd h
inner_alike (l ∷ ls) [] h = absurd h
inner_alike (l ∷ ls) (k ∷ ks) h = ap Some (length_alike ls ks h.1)

-- ---- lists

map_kept : {A : Type 0} (f g : ℕ → A) (test : ℕ → Bool) (xs : List ℕ) → AllByRecursion (λ i. f i ≡ g i) xs →
    map f (filter test xs) ≡ map g (filter test xs)
map_kept f g test [] h = refl
map_kept f g test (x ∷ xs) h = by_test (test x) (map_kept f g test xs h.1)
  where
    by_test : (b : Bool) → map f (filter test xs) ≡ map g (filter test xs) →
        map f (cond b (x ∷ filter test xs) (filter test xs))
        ≡ map g (cond b (x ∷ filter test xs) (filter test xs))
    by_test true rest = ap (λ y. y ∷ map f (filter test xs)) h.0 ∙ ap (λ ys. g x ∷ ys) rest
    by_test false rest = rest

-- what holds below 16 holds of each process
each_process : (P : ℕ → Type 0) → ((p : ℕ) → p < 16 → P p) → AllByRecursion P processes
each_process P h =
    all_low processes (
      refl,
      (
        refl,
        (
          refl,
          (
            refl,
            (
              refl,
              (refl, (refl, (refl, (refl, (refl, (refl, (refl, (refl, (refl, (refl, (refl, tt))))))))))),
            ),
          ),
        ),
      ),
    )
  where
    below : (p : ℕ) → nat_lt p 16 ≡ true → p < 16
    below p e = grind (arith, nat_tests)

    all_low : (xs : List ℕ) → AllByRecursion (λ p. nat_lt p 16 ≡ true) xs → AllByRecursion P xs
    all_low [] low = tt
    all_low (x ∷ xs) low = (h x (below x low.0), all_low xs low.1)

-- ---- all rows by their parts

frames_by : CacheValue → List FrameRow
frames_by y =
    filter_map (λ i. option_map (λ (x : FrameValue). record {
      frame = i;
      owner = x.owner;
      block = x.block;
      dirty = x.dirty;
      mark = x.mark;
    }) (y.frame i)) y.lru

join : ℕ → List QueueRow → (a b c d e : List RawRow) → List FrameRow →
    (f calls levels records : List RawRow) → List RawRow
join n queue a b c d e l f calls levels records =
    RawRow.Clock n ∷ RawRow.Queue queue ∷ a ++ b ++ c ++ d ++ e ++ RawRow.Lru l ∷ f ++ calls
    ++ levels ++ records

-- the rows of objects, and of calls
rows_by : ℕ → World → Objects → (calls levels records : List RawRow) → List RawRow
rows_by n v w calls levels records =
    join n w.things.queue (map (acct_row w) (living w)) (map (cells_row w) (living w))
    (flat_map (open_rows v w) processes) (flat_map (graft_rows w) processes)
    (map (pol_row w) (0 ∷ 1 ∷ 2 ∷ [])) (frames_by w.things.cache) (filter_map (lock_row w) points) calls levels records

placed_parts : (x : Placed) →
    placed_rows x ≡ rows_by x.clock x.world x.objects (filter_map (placed_call_row x) processes)
    (flat_map (placed_level_rows x) processes) (flat_map (placed_undo_rows x) processes)
unfolding frames_by join rows_by
placed_parts x = refl

raw_parts : (m : Meaning) (k : Kernel) (s : Objects) →
    rows_on m k s ≡ rows_by k.clock k.world s (filter_map (call_row m k) processes)
    (flat_map (level_rows m k) processes) (flat_map (undo_rows m k) processes)
unfolding frames_by join rows_by
raw_parts m k s = refl

-- ---- rows of objects

module _ (m : Meaning) (laws : Laws m) (k : Kernel) (w : Objects) (here : IsPlaced m k w) where
  lower_is : (x y : ℕ) → nat_lt x y ≡ true → x < y
  lower_is x y h = grind (arith, nat_tests)

  -- a sound state that has an object as the store in place has it
  placed_from : (o : Object) → (u : Objects) × IsSoundStore k.world u
      × ((i : ℕ) → k.objects.things.lock i ≡ u.things.lock i) × SameAt o (in_place m k) u
  placed_from o = elim (changer m k here.kernel o) [
    | inl found ↦
        let f = changer_config m k here.kernel found.0 o found.1 in
        let work = (grafted m laws k here.kernel found.0 f.0 f.1).works.works.1.0 in (
          f.0.now,
          work.store,
          work.alike.locks,
          (in_place_reads m).own k found.0 f.0 o
              here.kernel f.1 f.2,
        )
    | inr none ↦ (k.objects, here.kernel.state.store, λ i. refl, (in_place_reads m).committed k o none)
  ]

  lock_is : (u : ℕ) → w.things.lock u ≡ (in_place m k).things.lock u
  lock_is u = let f = placed_from (Lock u) in sym (locks m laws k w here u) ∙ f.2 u ∙ sym f.3

  file_is : (p fd : ℕ) → w.things.file p fd ≡ (in_place m k).things.file p fd
  file_is p fd =
      let f = placed_from (OpenFile p fd) in
      elim (cases_Bool (nat_lt p 16)) [
        | inr beyond ↦ no_file_beyond k.world w p fd (lives w.things.queue p) here.store refl beyond
            ∙ sym (f.3 ∙ no_file_beyond k.world f.0 p fd (lives f.0.things.queue p) f.1 refl beyond)
        | inl within ↦ elim (cases_Bool (nat_lt fd 4)) [
          | inr high ↦ no_file_high k.world w p fd (w.things.file p fd) here.store refl high
              ∙ sym (f.3 ∙ no_file_high k.world f.0 p fd (f.0.things.file p fd) f.1 refl high)
          | inl low ↦ here.objects (OpenFile p fd) (lower_is p 16 within, lower_is fd 4 low)
        ]
      ]

  acct_is : (p : ℕ) → p < 16 → acct_row w p ≡ acct_row (in_place m k) p
  acct_is p low =
      ap (λ (a : AcctValue). RawRow.Acct p (a.balance Steps ∷ a.balance Records ∷ a.balance Locks
      ∷ a.spent Steps ∷ a.spent Records ∷ a.spent Locks ∷ [])) (here.objects (Acct p) low)

  cells_are : (p : ℕ) → p < 16 → cells_row w p ≡ cells_row (in_place m k) p
  cells_are p low =
      let x = (in_place m k).things in
      ap (λ n. RawRow.Cells p (n ∷ w.things.cell p 1 ∷ w.things.cell p 2 ∷ w.things.cell p 3 ∷ []))
      (here.objects (Cell p 0) (low, lower_is 0 4 refl))
      ∙ ap (λ n. RawRow.Cells p (x.cell p 0 ∷ n ∷ w.things.cell p 2 ∷ w.things.cell p 3 ∷ []))
      (here.objects (Cell p 1) (low, lower_is 1 4 refl))
      ∙ ap (λ n. RawRow.Cells p (x.cell p 0 ∷ x.cell p 1 ∷ n ∷ w.things.cell p 3 ∷ []))
      (here.objects (Cell p 2) (low, lower_is 2 4 refl))
      ∙ ap (λ n. RawRow.Cells p (x.cell p 0 ∷ x.cell p 1 ∷ x.cell p 2 ∷ n ∷ []))
      (here.objects (Cell p 3) (low, lower_is 3 4 refl))

  pol_is : (kind : ℕ) → kind < 3 → pol_row w kind ≡ pol_row (in_place m k) kind
  pol_is kind low = ap (λ (y : PolValue). RawRow.Pol kind y.chosen (shown_param kind y)) (here.objects (Pol kind) low)

  queue_is : w.things.queue ≡ (in_place m k).things.queue
  queue_is = (here.objects Queue tt).0

  cache_is : w.things.cache ≡ (in_place m k).things.cache
  cache_is = here.objects Cache tt

  -- the parts of the store's rows are those of the store in place
  accts : map (acct_row w) (living w) ≡ map (acct_row (in_place m k)) (living (in_place m k))
  accts =
      map_kept (acct_row w) (acct_row (in_place m k)) (lives w.things.queue) processes
      (each_process (λ p. acct_row w p ≡ acct_row (in_place m k) p) acct_is)
      ∙ ap (λ queue. map (acct_row (in_place m k)) (filter (lives queue) processes)) queue_is

  cells : map (cells_row w) (living w) ≡ map (cells_row (in_place m k)) (living (in_place m k))
  cells =
      map_kept (cells_row w) (cells_row (in_place m k)) (lives w.things.queue) processes
      (each_process (λ p. cells_row w p ≡ cells_row (in_place m k) p) cells_are)
      ∙ ap (λ queue. map (cells_row (in_place m k)) (filter (lives queue) processes)) queue_is

  opens : flat_map (open_rows k.world w) processes ≡ flat_map (open_rows k.world (in_place m k)) processes
  opens =
      ap (λ (file : ℕ → ℕ → Option OpenRow). flat_map
      (λ p. filter_map (λ fd. option_map (λ (o : OpenRow). RawRow.OpenFile p fd
      (name_of_file (file_row k.world o.file)) o) (file p fd)) (range_with_len 0 4)) processes)
      (fun_ext (λ p. fun_ext (λ fd. file_is p fd)))

  grafts : flat_map (graft_rows w) processes ≡ flat_map (graft_rows (in_place m k)) processes
  grafts =
      ap (λ (graft : ℕ → ℕ → Option GraftValue).
      flat_map (λ q. filter_map (λ pt. option_map (λ (g : GraftValue). RawRow.Graft q pt
      g.image g.limit g.billed (g.balance Steps ∷ g.balance Records ∷ g.balance Locks ∷ []))
      (graft q pt)) points) processes)
      (fun_ext (λ q. fun_ext (λ pt. (here.objects (Graft q pt) tt).0)))

  pols : map (pol_row w) (0 ∷ 1 ∷ 2 ∷ []) ≡ map (pol_row (in_place m k)) (0 ∷ 1 ∷ 2 ∷ [])
  pols =
      let x = in_place m k in
      ap (λ y. y ∷ pol_row w 1 ∷ pol_row w 2 ∷ []) (pol_is 0 (lower_is 0 3 refl))
      ∙ ap (λ y. pol_row x 0 ∷ y ∷ pol_row w 2 ∷ []) (pol_is 1 (lower_is 1 3 refl))
      ∙ ap (λ y. pol_row x 0 ∷ pol_row x 1 ∷ y ∷ []) (pol_is 2 (lower_is 2 3 refl))

  lock_rows : filter_map (lock_row w) points ≡ filter_map (lock_row (in_place m k)) points
  lock_rows =
      ap (λ (lock : ℕ → Option ℕ). filter_map (λ u. option_map (λ p. RawRow.Lock u p) (lock u))
      points) (fun_ext lock_is)

  -- the rows of calls
  call_is : (p : ℕ) → placed_call_row (over_store m w k) p ≡ call_row m k p
  call_is p =
      ap (λ y. option_map (λ (c : PlacedCall). RawRow.Call p c.number (wait_row k p) y)
      (without_history (k.call p))) (sym (top_alike (levels_of m k p)
      (relaid w.things (levels_of m k p)) (relaid_alike w.things (levels_of m k p))))
      ∙ by_call (k.call p)
    where
      by_call : (y : Option Call) → option_map (λ (c : PlacedCall). RawRow.Call p c.number
          (wait_row k p) (top_of (levels_of m k p))) (without_history y)
          ≡ option_map (λ (c : Call). RawRow.Call p c.number (wait_row k p) (top_of (levels_of m k p))) y
      by_call None = refl
      by_call (Some c) = refl

  level_rows_are : (p : ℕ) → placed_level_rows (over_store m w k) p ≡ level_rows m k p
  level_rows_are p =
      ap reverse (sym (rows_alike p (levels_of m k p) (relaid w.things (levels_of m k p))
      (relaid_alike w.things (levels_of m k p))))

  undo_rows_are : (p : ℕ) → placed_undo_rows (over_store m w k) p ≡ undo_rows m k p
  undo_rows_are p =
      ap (λ log. map (undo_row p) (numbered_log log)) (sym (log_alike (levels_of m k p)
      (relaid w.things (levels_of m k p)) (relaid_alike w.things (levels_of m k p))))

  objects_are : (g h i : List RawRow) → rows_by k.clock k.world w g h i ≡ rows_by k.clock k.world (in_place m k) g h i
  unfolding rows_by
  objects_are g h i =
      let x = in_place m k in
      let n = k.clock in
      let a = map (acct_row w) (living w) in
      let b = map (cells_row w) (living w) in
      let c = flat_map (open_rows k.world w) processes in
      let d = flat_map (graft_rows w) processes in
      let e = map (pol_row w) (0 ∷ 1 ∷ 2 ∷ []) in
      let l = frames_by w.things.cache in
      let f = filter_map (lock_row w) points in
      let a2 = map (acct_row x) (living x) in
      let b2 = map (cells_row x) (living x) in
      let c2 = flat_map (open_rows k.world x) processes in
      let d2 = flat_map (graft_rows x) processes in
      let e2 = map (pol_row x) (0 ∷ 1 ∷ 2 ∷ []) in
      ap (λ q. join n q a b c d e l f g h i) queue_is
      ∙ ap (λ z. join n x.things.queue z b c d e l f g h i) accts
      ∙ ap (λ z. join n x.things.queue a2 z c d e l f g h i) cells
      ∙ ap (λ z. join n x.things.queue a2 b2 z d e l f g h i) opens
      ∙ ap (λ z. join n x.things.queue a2 b2 c2 z e l f g h i) grafts
      ∙ ap (λ z. join n x.things.queue a2 b2 c2 d2 z l f g h i) pols
      ∙ ap (λ z. join n x.things.queue a2 b2 c2 d2 e2 (frames_by z) f g h i) cache_is
      ∙ ap (λ z. join n x.things.queue a2 b2 c2 d2 e2 (frames_by x.things.cache) z g h i) lock_rows

  pub rows_are : placed_rows (over_store m w k) ≡ raw_rows m k
  rows_are =
      let y = over_store m w k in
      let x = in_place m k in
      placed_parts y ∙ objects_are (filter_map (placed_call_row y) processes)
      (flat_map (placed_level_rows y) processes) (flat_map (placed_undo_rows y) processes)
      ∙ ap (λ f. rows_by k.clock k.world x (filter_map f processes) (flat_map (placed_level_rows y)
      processes) (flat_map (placed_undo_rows y) processes)) (fun_ext call_is)
      ∙ ap (λ f. rows_by k.clock k.world x (filter_map (call_row m k) processes)
      (flat_map f processes) (flat_map (placed_undo_rows y) processes)) (fun_ext level_rows_are)
      ∙ ap (λ f. rows_by k.clock k.world x (filter_map (call_row m k) processes)
      (flat_map (level_rows m k) processes) (flat_map f processes)) (fun_ext undo_rows_are)
      ∙ sym (raw_parts m k x)

pub same_shown : (m : Meaning) (laws : Laws m) → SameShown m
same_shown m laws =
    record {
      rows = λ x k h. ap placed_rows (aligned m x k h) ∙ rows_are m laws k x.objects (placed_of m x k h);
      lines = λ x k p n r h. ap (λ (y : Placed). graft_note n (placed_levels y p) r) (aligned m x k h)
          ∙ sym (note_alike n r (levels_of m k p) (relaid x.objects.things (levels_of m k p))
          (relaid_alike x.objects.things (levels_of m k p)));
      inner = λ x k p h. ap (λ (y : Placed). innermost (placed_levels y p)) (aligned m x k h)
          ∙ sym (inner_alike (levels_of m k p) (relaid x.objects.things (levels_of m k p))
          (relaid_alike x.objects.things (levels_of m k p)));
      level = λ x k p h. level_is m laws k h.kernel p ∙ ap has_some (sym (h.levels p));
      piece =
          λ x k p h. ap (λ (y : Placed). is_placed_at_piece (y.call p) (y.levels p))
          (aligned m x k h) ∙ piece_is m laws k h.kernel p;
    }
