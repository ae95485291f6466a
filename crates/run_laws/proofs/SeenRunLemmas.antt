-- What is seen of blocks changes by writes alone, through each move of a run.
use Rattle.std.specs.Prelude.{◌≡◌, ◌⊎◌, ℕ, ◌+◌, List, [], ◌∷◌, ◌++◌, length}
use Rattle.std.specs.List.{AllByRecursion}
use Rattle.std.specs.Prelude.{slice_range, Contains, Option, Some, None}
use Rattle.std.proofs.Common.{arith, refl, subst, sym, ap, ◌∙◌, inl, inr}
use Rattle.std.proofs.lemmas.Bool.{cases_eq}
use Rattle.std.proofs.lemmas.List.{append-nil}
use Rattle.std.proofs.lemmas.List.Elements.{Contains-append_left, Contains-append_right}
use Rattle.script_model.specs.declared.Cause.{Cause}
use Rattle.script_model.specs.declared.Note.{Note}
use Rattle.script_model.specs.declared.Note.TheVariants.{Gave}
use Rattle.script_model.specs.declared.OpenRow.{OpenRow}
use Rattle.script_model.specs.declared.Reply.TheVariants.{Plain, One, Two}
use Rattle.script_model.specs.declared.SysCall.TheVariants.{Read, StreamRead}
use Rattle.script_model.specs.World.{World, Blocks}
use Rattle.script_model.specs.Alike.{AreAlike, windowless}
use Rattle.script_model.specs.AllCalls.{all_calls}
use Rattle.script_model.specs.Events.{drop_call, entry_action, times_out}
use Rattle.script_model.specs.Fetch.{bytes_with}
use Rattle.script_model.specs.FilePieces.{well}
use Rattle.script_model.specs.Kernel.{Call, Waiter, Run, call_after, gave_note, after_note}
use Rattle.script_model.specs.Laws.{IsReady}
use Rattle.script_model.specs.Meaning.{Stage, Answer, Piece, After, Continues, EndsWith, Fails}
use Rattle.script_model.specs.Objects.{Objects, CacheValue, FrameValue, at}
use Rattle.script_model.specs.Session.{whole}
use Rattle.script_model.specs.Settle.{step}
use Rattle.kernel_model.specs.Needs.{file_block}
use Rattle.call_laws.specs.Ledgers.{at_here, at_other}
use Rattle.call_laws.specs.SoundCaches.{cache_of_store}
use Rattle.kernel_laws.proofs.LevelLemmas.{each_contains}
use Rattle.graft_laws.specs.Kernels.{IsSoundRun}
use Rattle.graft_laws.proofs.SoundCallLemmas.{contains_first}
use Rattle.run_laws.specs.Moves.{Move, Steps, Acts, run_before, run_after, moves_of}
use Rattle.run_laws.specs.Seen.{seen_block, IsCoherent, ShowsSame, ShowsPut, Put, put_by, KeepsShown}
use Rattle.run_laws.specs.SeenRuns.{seen_in, Names, GoesOn, MoveKeepsShown, RunsKeepShown, RunsAreCoherent}
use Rattle.run_laws.specs.SeenRuns.{BlocksWereSeen}
use Rattle.run_laws.specs.Streams.{answer_given}
use Rattle.run_laws.proofs.CommitLemmas.{piece_on, Commits, Done, Stays, step_commits, drop_commits}
use Rattle.run_laws.proofs.MoveLemmas.{Kept, event_kept}
use Rattle.run_laws.proofs.PieceSeenLemmas.{cores_shown, markless_core, laws_of_all_calls, pieces_keep_shown}
use Rattle.run_laws.proofs.RunLemmas.{run_at, IsKept, runs_kept}
use Rattle.run_laws.proofs.SeenLemmas.{shows_same}

abbrev cache_in : Run → CacheValue
cache_in r = r.kernel.objects.things.cache

-- ---- states that are alike

-- a file's block doesn't hang on the window
file_same : (v : World) (x y : Option OpenRow) (i off len : ℕ) → windowless x ≡ windowless y →
    file_block v x i off len ≡ file_block v y i off len
file_same v x y i off len e =
    sym (unwindowed x) ∙ ap (λ z. file_block v z i off len) e ∙ unwindowed y
  where
    unwindowed : (z : Option OpenRow) → file_block v (windowless z) i off len ≡ file_block v z i off len
    unwindowed None = refl
    unwindowed (Some o) = refl

-- ---- a move that does nothing

pub nothing_shown : (r u : Run) → IsCoherent (cache_in r) r.blocks → u.kernel.objects ≡ r.kernel.objects →
    u.blocks ≡ r.blocks →
    ((q : ℕ) (d : Call) → u.kernel.call q ≡ Some d →
    (e : Call) × (r.kernel.call q ≡ Some e) × (d.stage ≡ e.stage)) → MoveKeepsShown r u
nothing_shown r u coherent objects blocks calls =
    record {
      coherent =
          subst (λ (s : Objects). IsCoherent s.things.cache u.blocks) (sym objects)
          (subst (λ (x : Blocks). IsCoherent (cache_in r) x) (sym blocks) coherent);
      disk = λ b. inl (ap (λ (x : Blocks). x b) blocks);
      shows = inl (λ b. ap (λ (s : Objects). seen_block s.things.cache u.blocks b) objects
          ∙ ap (λ (x : Blocks). seen_block (cache_in r) x b) blocks);
      read = λ p fd i off len c d is goes. absurd (no_move p c d goes);
      taken = λ p fd i off len c d is goes. absurd (no_move p c d goes);
    }
  where
    call_is : (a b : Call) → Some a ≡ Some b → a ≡ b
    call_is a b e = cc

    not_both : (n : ℕ) → n ≡ 0 → n ≡ 1 → ⊥
    not_both n e f = omega arith

    no_move : (p : ℕ) (c d : Call) → GoesOn r u p c d → ⊥
    no_move p c d goes =
        let x = calls p d goes.after in
        let same = call_is x.0 c (sym x.1 ∙ goes.before) in
        not_both c.stage.piece goes.first
        (sym (ap (λ (t : Stage). t.piece) (x.2 ∙ ap (λ (y : Call). y.stage) same)) ∙ goes.second)

-- ---- a piece that is done

module _ (r u : Run) (q : ℕ) (c : Call) (is : r.kernel.call q ≡ Some c) (sound : IsSoundRun all_calls r)
    (coherent : IsCoherent (cache_in r) r.blocks) (w : Objects) (answer : Option Answer)
    (ready : IsReady all_calls r.kernel.world r.kernel.images w q c.stage answer)
    (alike : AreAlike r.kernel.objects w)
    (objects : u.kernel.objects ≡ (piece_on all_calls q c w answer r).objects)
    (blocks : u.blocks ≡ (piece_on all_calls q c w answer r).blocks)
    (calls : u.kernel.call ≡ at q (call_after c (piece_on all_calls q c w answer r).after) r.kernel.call)
    (pre : List Note)
    (notes : u.notes ≡ ((r.notes ++ pre) ++ gave_note c.number (piece_on all_calls q c w answer r).gave)
    ++ after_note c.number (piece_on all_calls q c w answer r).after) where
  abbrev done : Piece
  done = piece_on all_calls q c w answer r

  abbrev v : World
  v = r.kernel.world

  -- the state on which it is done shows the same
  shown_on : IsCoherent w.things.cache r.blocks × ShowsSame (cache_in r) r.blocks w.things.cache r.blocks
  shown_on =
      let h = cores_shown v r.kernel.objects r.blocks w.things.cache sound.kernel.state.store coherent
      (λ f. markless_core (r.kernel.objects.things.cache.frame f) (w.things.cache.frame f) (alike.frames f)) in (
        h.coherent,
        shows_same v w.things.queue (cache_in r) r.blocks w.things.cache r.blocks
            (cache_of_store v w ready.standing.store) h,
      )

  piece_keeps : KeepsShown v w r.blocks q c.stage done
  piece_keeps =
      pieces_keep_shown v r.kernel.images w r.blocks q c.stage answer r.io ready sound.blocks shown_on.0

  same_file : (fd i off len : ℕ) →
      file_block v (r.kernel.objects.things.file q fd) i off len ≡ file_block v (w.things.file q fd) i off len
  same_file fd i off len =
      file_same v (r.kernel.objects.things.file q fd) (w.things.file q fd) i off len (alike.files q fd)

  abbrev Shows : Objects → Blocks → Type 0
  Shows s after = ShowsSame (cache_in r) r.blocks s.things.cache after
      ⊎ ((put : Put) × (put_by c.stage ≡ Some put) × (b : ℕ)
      × Names r q put.file put.block put.offset (length put.bytes) b
      × ShowsPut b put.offset put.bytes (cache_in r) r.blocks s.things.cache after)

  same_shows : ShowsSame w.things.cache r.blocks done.objects.things.cache done.blocks → Shows done.objects done.blocks
  same_shows h = inl (λ b. h b ∙ shown_on.1 b)

  puts_shows : (put : Put) → put_by c.stage ≡ Some put → done.after ≡ well → Shows done.objects done.blocks
  puts_shows put by ends =
      let k = piece_keeps.puts put by ends in
      inr (
        put,
        by,
        k.0,
        same_file put.file put.block put.offset (length put.bytes) ∙ k.1,
        (k.2.0 ∙ ap (bytes_with put.offset put.bytes) (shown_on.1 k.0), λ other ne. k.2.1 other ne ∙ shown_on.1 other),
      )

  any_shows : Shows done.objects done.blocks
  any_shows = by_put (put_by c.stage) refl
    where
      not_well : (a : After) → done.after ≡ a → (a ≡ well → ⊥) → Shows done.objects done.blocks
      not_well a e other = same_shows (piece_keeps.failed (λ h. other (sym e ∙ h)))

      by_after : (put : Put) → put_by c.stage ≡ Some put → (a : After) → done.after ≡ a →
          Shows done.objects done.blocks
      by_after put by (Continues t) e = not_well (Continues t) e (λ h. absurd cc)
      by_after put by (EndsWith Plain) e = puts_shows put by e
      by_after put by (EndsWith (One n)) e = not_well (EndsWith (One n)) e (λ h. absurd cc)
      by_after put by (EndsWith (Two n i)) e = not_well (EndsWith (Two n i)) e (λ h. absurd cc)
      by_after put by (Fails why) e = not_well (Fails why) e (λ h. absurd cc)

      by_put : (x : Option Put) → put_by c.stage ≡ x → Shows done.objects done.blocks
      by_put None by = same_shows (piece_keeps.others by)
      by_put (Some put) by = by_after put by done.after refl

  -- the call goes on to a stage
  pub goes_is : (p : ℕ) (x d : Call) → GoesOn r u p x d →
      (p ≡ q) × (x ≡ c) × (t : Stage) × (done.after ≡ Continues t) × (d.stage ≡ t)
  goes_is p x d goes = elim (cases_eq p q) [
    | inl same ↦
        let after = by_after done.after refl (sym (at_here q (call_after c done.after) r.kernel.call)
        ∙ ap (at q (call_after c done.after) r.kernel.call) (sym same) ∙ sym (ap (λ f. f p) calls) ∙ goes.after) in
        (same, call_is x c (sym goes.before ∙ ap r.kernel.call same ∙ is), after.0, after.1, after.2)
    | inr ne ↦ absurd (not_both x.stage.piece goes.first
        (ap (λ (y : Call). y.stage.piece) (call_is x d (sym goes.before
        ∙ sym (at_other q p (call_after c done.after) r.kernel.call ne) ∙ sym (ap (λ f. f p) calls) ∙ goes.after))
        ∙ goes.second))
  ]
    where
      call_is : (a b : Call) → Some a ≡ Some b → a ≡ b
      call_is a b e = cc

      not_both : (n : ℕ) → n ≡ 0 → n ≡ 1 → ⊥
      not_both n e f = omega arith

      no_call : None ≡ Some d → ⊥
      no_call e = cc

      by_after : (a : After) → done.after ≡ a → call_after c a ≡ Some d →
          (t : Stage) × (done.after ≡ Continues t) × (d.stage ≡ t)
      by_after (Continues t) e after = (
        t,
        e,
        sym (ap (λ (y : Call). y.stage) (call_is (record { number = c.number; stage = t; marks = None }) d after)),
      )
      by_after (EndsWith reply) e after = absurd (no_call after)
      by_after (Fails why) e after = absurd (no_call after)

  reads : (p fd i off len : ℕ) (x d : Call) → x.stage.call ≡ Read fd i off len → GoesOn r u p x d →
      (b : ℕ) × Names r p fd i off len b × (earlier : List Note)
      × (u.notes ≡ earlier ++ Gave x.number (slice_range (seen_in r b) off (off + len)) ∷ [])
  reads p fd i off len x d call goes =
      let k = goes_is p x d goes in
      let gives = piece_keeps.read fd i off len k.2 (ap (λ (y : Call). y.stage.call) (sym k.1) ∙ call)
      (ap (λ (y : Call). y.stage.piece) (sym k.1) ∙ goes.first) k.3 in
      let bytes = slice_range (seen_block w.things.cache r.blocks gives.0) off (off + len) in (
        gives.0,
        subst (λ z. Names r z fd i off len gives.0) (sym k.0) (same_file fd i off len ∙ gives.1),
        r.notes ++ pre,
        notes ∙ ap (λ g. ((r.notes ++ pre) ++ gave_note c.number g) ++ after_note c.number done.after) gives.2
            ∙ ap (λ a. ((r.notes ++ pre) ++ Gave c.number bytes ∷ []) ++ after_note c.number a) k.3
            ∙ append-nil ((r.notes ++ pre) ++ Gave c.number bytes ∷ [])
            ∙ ap (λ ys. (r.notes ++ pre) ++ Gave c.number (slice_range ys off (off + len)) ∷ []) (shown_on.1 gives.0)
            ∙ ap (λ (y : Call). (r.notes ++ pre) ++ Gave y.number (slice_range (seen_in r gives.0) off
            (off + len)) ∷ [])
            (sym k.1),
      )

  takes : (p fd i off len : ℕ) (x d : Call) → x.stage.call ≡ StreamRead fd i off len → GoesOn r u p x d →
      (b : ℕ) × Names r p fd i off len b × (d.stage.bytes ≡ slice_range (seen_in r b) off (off + len))
  takes p fd i off len x d call goes =
      let k = goes_is p x d goes in
      let taken = piece_keeps.taken fd i off len k.2 (ap (λ (y : Call). y.stage.call) (sym k.1) ∙ call)
      (ap (λ (y : Call). y.stage.piece) (sym k.1) ∙ goes.first) k.3 in (
        taken.0,
        subst (λ z. Names r z fd i off len taken.0) (sym k.0) (same_file fd i off len ∙ taken.1),
        ap (λ (t : Stage). t.bytes) k.4 ∙ taken.2
            ∙ ap (λ ys. slice_range ys off (off + len)) (shown_on.1 taken.0),
      )

  pub piece_shown : MoveKeepsShown r u
  piece_shown =
      record {
        coherent =
            subst (λ (s : Objects). IsCoherent s.things.cache u.blocks) (sym objects)
            (subst (λ (x : Blocks). IsCoherent done.objects.things.cache x) (sym blocks) piece_keeps.coherent);
        disk = λ b. elim (piece_keeps.disk b) [
          | inl same ↦ inl (ap (λ (x : Blocks). x b) blocks ∙ same)
          | inr seen ↦ inr (ap (λ (x : Blocks). x b) blocks ∙ seen ∙ shown_on.1 b)
        ];
        shows = elim (subst (λ (s : Objects). Shows s u.blocks) (sym objects)
            (subst (λ (x : Blocks). Shows done.objects x) (sym blocks) any_shows)) [
              | inl same ↦ inl same
              | inr put ↦ inr (record {
                process = q;
                call = c;
                is = is;
                put = put.0;
                by = put.1;
                block = put.2;
                named = put.3;
                shown = put.4;
              })
            ];
        read = reads;
        taken = takes;
      }

-- ---- any move

pub commits_shown : (r u : Run) (q : ℕ) (c : Call) (x : Option Answer) → r.kernel.call q ≡ Some c →
    IsSoundRun all_calls r → IsCoherent (cache_in r) r.blocks → Commits all_calls q c x r u → MoveKeepsShown r u
commits_shown r u q c x is sound coherent (Done w answer pre given ready alike objects blocks calls notes) =
    piece_shown r u q c is sound coherent w answer ready alike objects blocks calls pre notes
commits_shown r u q c x is sound coherent (Stays objects blocks calls stand) =
    nothing_shown r u coherent objects blocks calls

-- ---- what is kept

abbrev Keeps : Move → Type 0
Keeps x = MoveKeepsShown (run_before x) (run_after all_calls x)

-- each block of the disk is as it was, or as it was seen before some of these moves
abbrev WereSeen : Blocks → List Move → Blocks → Type 0
WereSeen first l blocks =
    (b : ℕ) → (blocks b ≡ first b) ⊎ ((x : Move) × Contains l x × (blocks b ≡ seen_in (run_before x) b))

record SeenSoFar (first : Blocks) (l : List Move) (c : CacheValue) (blocks : Blocks) : Type 0 where
  coherent : IsCoherent c blocks
  moves : AllByRecursion Keeps l
  disk : WereSeen first l blocks

each_more : (l : List Move) (x : Move) → AllByRecursion Keeps l → Keeps x → AllByRecursion Keeps (l ++ x ∷ [])
each_more [] x h k = (k, tt)
each_more (y ∷ l) x h k = (h.0, each_more l x h.1 k)

-- a move more
one_more : (first : Blocks) (l : List Move) (x : Move) (r u : Run) → run_before x ≡ r → run_after all_calls x ≡ u →
    SeenSoFar first l (cache_in r) r.blocks → MoveKeepsShown r u → SeenSoFar first (l ++ x ∷ []) (cache_in u) u.blocks
one_more first l x r u before after h k =
    record {
      coherent = k.coherent;
      moves = each_more l x h.moves
          (subst (λ y. MoveKeepsShown y (run_after all_calls x)) (sym before)
          (subst (MoveKeepsShown r) (sym after) k));
      disk = λ b. elim (k.disk b) [
        | inl same ↦ elim (h.disk b) [
          | inl kept ↦ inl (same ∙ kept)
          | inr seen ↦ inr (seen.0, Contains-append_left l (x ∷ []) seen.0 seen.1, same ∙ seen.2)
        ]
        | inr seen ↦ inr (
          x,
          Contains-append_right l (x ∷ []) x (contains_first x []),
          seen ∙ ap (λ y. seen_in y b) (sym before),
        )
      ];
    }

seen_kept : (first : Blocks) → Kept all_calls (λ l r. SeenSoFar first l (cache_in r) r.blocks)
seen_kept first = record {
  steps = λ l p c r sound is free h.
      one_more first l (Steps p r) r (step all_calls p r) refl refl h
      (commits_shown r (step all_calls p r) p c (answer_given all_calls (Steps p r)) is sound h.coherent
      (step_commits all_calls laws_of_all_calls p c r sound is));
  drops = λ l e p n cause r sound low does h.
      dropped l e p n cause r sound does (r.kernel.call p) refl h;
  ends = λ l e p b c r sound is none does h.
      one_more first l (Acts e r) r (times_out all_calls p b c r) refl does h
      (nothing_shown r (times_out all_calls p b c r) h.coherent refl refl (others r p));
  idle = λ l e r does h.
      one_more first l (Acts e r) r r refl does h
      (nothing_shown r r h.coherent refl refl (λ q d is. (d, is, refl)));
  notes = λ l x r other h. h;
  begins = λ l number p call t r sound none alive early h. h;
  joined = λ l p b r sound level away blocked h. h;
  rests = λ l r sound h. h;
  ticks = λ l number r sound h. h;
}
  where
    no_call : (d : Call) → None ≡ Some d → ⊥
    no_call d e = cc

    others : (r : Run) (p q : ℕ) (d : Call) → at p None r.kernel.call q ≡ Some d →
        (e : Call) × (r.kernel.call q ≡ Some e) × (d.stage ≡ e.stage)
    others r p q d is = elim (cases_eq q p) [
      | inl same ↦ absurd (no_call d (sym (ap (at p None r.kernel.call) same ∙ at_here p None r.kernel.call) ∙ is))
      | inr ne ↦ (d, sym (at_other p q None r.kernel.call ne) ∙ is, refl)
    ]

    dropped : (l : List Move) (e : Waiter) (p n : ℕ) (cause : Cause) (r : Run) → IsSoundRun all_calls r →
        entry_action all_calls e e.blocker r ≡ drop_call all_calls p (r.kernel.call p) (Some n) cause r →
        (x : Option Call) → r.kernel.call p ≡ x → SeenSoFar first l (cache_in r) r.blocks →
        let u = drop_call all_calls p (r.kernel.call p) (Some n) cause r in
        SeenSoFar first (l ++ Acts e r ∷ []) (cache_in u) u.blocks
    dropped l e p n cause r sound does (Some c) is h =
        let u = drop_call all_calls p (r.kernel.call p) (Some n) cause r in
        one_more first l (Acts e r) r u refl does h
        (commits_shown r u p c None is sound h.coherent
        (drop_commits all_calls laws_of_all_calls p c n cause r sound is))
    dropped l e p n cause r sound does None is h =
        let u = drop_call all_calls p (r.kernel.call p) (Some n) cause r in
        let same = ap (λ y. drop_call all_calls p y (Some n) cause r) is in
        one_more first l (Acts e r) r u refl does h
        (subst (MoveKeepsShown r) (sym same)
        (nothing_shown r r h.coherent refl refl (λ q d there. (d, there, refl))))

-- ---- runs

seen_so_far : (first : Blocks) → IsKept all_calls (λ blocks. blocks ≡ first)
    (λ l notes k blocks. SeenSoFar first l k.objects.things.cache blocks)
seen_so_far first = record {
  opens = λ v blocks sound before. record {
    coherent = λ f x is clean. absurd (no_frame x is);
    moves = tt;
    disk = λ b. inl (ap (λ (x : Blocks). x b) before);
  };
  images = λ l notes k blocks slot i sound free h. h;
  events = λ l notes k blocks number e io sound h.
      (event_kept all_calls laws_of_all_calls (λ l r. SeenSoFar first l (cache_in r) r.blocks) (seen_kept first)
      number e l
      (run_at k blocks io) (sound io, h)).1;
}
  where
    no_frame : (x : FrameValue) → None ≡ Some x → ⊥
    no_frame x e = cc

pub runs_keep_shown : RunsKeepShown
runs_keep_shown keys d texts ios k x h is among =
    let so = runs_kept whole keys d texts ios k (λ blocks. blocks ≡ d.block)
    (λ l notes k blocks. SeenSoFar d.block l k.objects.things.cache blocks) (seen_so_far d.block) h refl is in
    each_contains Keeps (moves_of whole keys d texts ios) x so.moves among

pub runs_are_coherent : RunsAreCoherent
runs_are_coherent keys d texts ios k h is =
    (runs_kept whole keys d texts ios k (λ blocks. blocks ≡ d.block)
    (λ l notes k blocks. SeenSoFar d.block l k.objects.things.cache blocks) (seen_so_far d.block) h refl is).coherent

pub blocks_were_seen : BlocksWereSeen
blocks_were_seen keys d texts ios k b h is =
    (runs_kept whole keys d texts ios k (λ blocks. blocks ≡ d.block)
    (λ l notes k blocks. SeenSoFar d.block l k.objects.things.cache blocks) (seen_so_far d.block) h refl is).disk b
