-- What streams give and put, through each move of a run.
use Rattle.std.specs.Prelude.{◌≡◌, ℕ, zero, suc, ◌+◌, ◌-◌, ◌<◌, ◌≤◌, nat_lt, ⊤, Bool, true}
use Rattle.std.specs.Prelude.{false, cond, List, [], ◌∷◌, ◌++◌, length, drop, slice_range, Option, Some}
use Rattle.std.specs.Prelude.{None, Result, Ok, Err}
use Rattle.std.specs.List.{AllByRecursion}
use Rattle.std.specs.Result.{is_ok}
use Rattle.std.proofs.Common.{arith, refl, subst, sym, ap, ◌∙◌, inl, inr}
use Rattle.std.proofs.lemmas.Bool.{cases_eq}
use Rattle.std.proofs.lemmas.Bool.Decides.{nat_tests}
use Rattle.std.proofs.lemmas.List.{length-take, length-drop}
use Rattle.script_model.specs.declared.Cause.{Cause}
use Rattle.script_model.specs.declared.Note.{Note}
use Rattle.script_model.specs.declared.Note.TheVariants.{Gave, Ended, Refused}
use Rattle.script_model.specs.declared.QueueRow.{QueueRow}
use Rattle.script_model.specs.declared.Refusal.{Refusal}
use Rattle.script_model.specs.declared.Refusal.TheVariants.{BadFd, BadIndex, TimedOut}
use Rattle.script_model.specs.declared.Reply.{Reply}
use Rattle.script_model.specs.declared.SysCall.{SysCall}
use Rattle.script_model.specs.declared.SysCall.TheVariants.{StreamRead, StreamWrite}
use Rattle.script_model.specs.World.{World, ImageTable, Blocks}
use Rattle.script_model.specs.AllCalls.{all_calls}
use Rattle.script_model.specs.Early.{TOP_POINT, refused, call_refusal, begins_unless}
use Rattle.script_model.specs.EventPoints.{is_event_call, event_points, event_refusal}
use Rattle.script_model.specs.Events.{drop_call, entry_action, times_out}
use Rattle.script_model.specs.FilePieces.{leaves, well}
use Rattle.script_model.specs.Kernel.{Call, Blocker, Waiter, Kernel, Run, call_after, gave_note, after_note}
use Rattle.script_model.specs.Kernel.{joins, with_call}
use Rattle.script_model.specs.Laws.{IsReady, IsRightAnswer}
use Rattle.script_model.specs.Meaning.{Meaning, Stage, stage, Answer, Piece, After, Continues, EndsWith, Fails}
use Rattle.script_model.specs.Meaning.{registers_of}
use Rattle.script_model.specs.Objects.{Objects, CacheValue, FrameValue, at}
use Rattle.script_model.specs.Pieces.{plain_calls}
use Rattle.script_model.specs.Session.{whole}
use Rattle.script_model.specs.Settle.{step}
use Rattle.script_model.specs.Sound.{IsSoundStore}
use Rattle.script_model.specs.StreamPoints.{READ_POINT, WRITE_POINT, is_stream_call, stream_refusal, stream_piece}
use Rattle.script_model.specs.StreamPoints.{stream_read_piece, stream_write_piece, stream_ask, stream_read_ask}
use Rattle.script_model.specs.StreamPoints.{stream_write_ask, stream_write_asks, stream_changed, through}
use Rattle.kernel_model.specs.Beside.{beside}
use Rattle.kernel_model.specs.Needs.{file_block}
use Rattle.call_laws.specs.Ledgers.{at_here, at_other}
use Rattle.call_laws.specs.SoundCaches.{cache_of_store}
use Rattle.call_laws.specs.SoundFiles.{file_block_is}
use Rattle.call_laws.specs.StreamCarried.{through_length}
use Rattle.kernel_laws.proofs.LevelLemmas.{each_contains}
use Rattle.graft_laws.specs.Kernels.{IsSoundRun}
use Rattle.run_laws.specs.Moves.{Move, Steps, Acts, run_before, run_after, moves_of}
use Rattle.run_laws.specs.Seen.{IsCoherent}
use Rattle.run_laws.specs.SeenRuns.{seen_in, Names, GoesOn, MoveKeepsShown}
use Rattle.run_laws.specs.Streams.{answer_given, MoveKeepsStreams, RunsKeepStreams}
use Rattle.run_laws.proofs.CommitLemmas.{piece_on, Commits, Done, Stays, step_commits, drop_commits}
use Rattle.run_laws.proofs.MoveLemmas.{new_call, Kept, event_kept}
use Rattle.run_laws.proofs.PieceSeenLemmas.{laws_of_all_calls}
use Rattle.run_laws.proofs.RunLemmas.{run_at, IsKept, runs_kept}
use Rattle.run_laws.proofs.SeenLemmas.{Place, Held, Nowhere, seen_held, seen_nowhere, place_of}
use Rattle.run_laws.proofs.SeenRunLemmas.{nothing_shown, goes_is, piece_shown}

-- ---- lists

-- two lists with one more at the end are the same only if that is, and the rest
last_same : (xs ys : List Note) (x y : Note) → xs ++ x ∷ [] ≡ ys ++ y ∷ [] → (xs ≡ ys) × (x ≡ y)
last_same [] [] x y e = (refl, head_same x y [] [] e)
  where
    head_same : (x y : Note) (xs ys : List Note) → x ∷ xs ≡ y ∷ ys → x ≡ y
    head_same x y xs ys e = cc
last_same [] (z ∷ ys) x y e = absurd (none ys y (tail_same x z [] (ys ++ y ∷ []) e))
  where
    tail_same : (x y : Note) (xs ys : List Note) → x ∷ xs ≡ y ∷ ys → xs ≡ ys
    tail_same x y xs ys e = cc

    none : (ys : List Note) (y : Note) → [] ≡ ys ++ y ∷ [] → ⊥
    none [] y e = cc
    none (z ∷ ys) y e = cc
last_same (z ∷ xs) [] x y e = absurd (none xs x (tail_same z y (xs ++ x ∷ []) [] e))
  where
    tail_same : (x y : Note) (xs ys : List Note) → x ∷ xs ≡ y ∷ ys → xs ≡ ys
    tail_same x y xs ys e = cc

    none : (ys : List Note) (y : Note) → ys ++ y ∷ [] ≡ [] → ⊥
    none [] y e = cc
    none (z ∷ ys) y e = cc
last_same (z ∷ xs) (w ∷ ys) x y e =
    let rest = last_same xs ys x y (tail_same z w (xs ++ x ∷ []) (ys ++ y ∷ []) e) in
    (both z w xs ys (head_same z w (xs ++ x ∷ []) (ys ++ y ∷ []) e) rest.0, rest.1)
  where
    head_same : (x y : Note) (xs ys : List Note) → x ∷ xs ≡ y ∷ ys → x ≡ y
    head_same x y xs ys e = cc

    tail_same : (x y : Note) (xs ys : List Note) → x ∷ xs ≡ y ∷ ys → xs ≡ ys
    tail_same x y xs ys e = cc

    both : (x y : Note) (xs ys : List Note) → x ≡ y → xs ≡ ys → x ∷ xs ≡ y ∷ ys
    both x y xs ys e f = ap (λ z. z ∷ xs) e ∙ ap (λ zs. y ∷ zs) f

-- ---- what is carried

-- each stream read in flight before its second piece carries as many bytes as it asked for
abbrev CarriesAll : Kernel → Type 0
CarriesAll k =
    (p fd i off len : ℕ) (c : Call) → k.call p ≡ Some c → c.stage.call ≡ StreamRead fd i off len →
    c.stage.piece ≡ 1 → length c.stage.bytes ≡ len

-- a part of a whole block is as long as it says
part_length : (bytes : List ℕ) (off len : ℕ) → length bytes ≡ 512 → off + len ≤ 512 →
    length (slice_range bytes off (off + len)) ≡ len
part_length bytes off len whole within =
    let taken = length-take (off + len - off) (drop off bytes) in
    let left = length-drop off bytes in
    omega (arith, taken, left, whole, within)

-- what is seen of a block of the disk is whole
seen_whole : (r : Run) → IsSoundRun all_calls r → (b : ℕ) → b < r.kernel.world.disk_size → length (seen_in r b) ≡ 512
seen_whole r sound b low =
    by_place (place_of r.kernel.world queue cache (cache_of_store r.kernel.world r.kernel.objects store) b)
  where
    store : IsSoundStore r.kernel.world r.kernel.objects
    store = sound.kernel.state.store

    cache : CacheValue
    cache = r.kernel.objects.things.cache

    queue : List QueueRow
    queue = r.kernel.objects.things.queue

    by_place : Place cache b → length (seen_in r b) ≡ 512
    by_place (Held f x is same) =
        ap (λ i. length (seen_in r i)) (sym same)
        ∙ ap (λ (ys : List ℕ). length ys) (seen_held r.kernel.world queue cache
        (cache_of_store r.kernel.world r.kernel.objects store) r.blocks f x is)
        ∙ (store.frames f x is).bytes
    by_place (Nowhere none) =
        ap (λ (ys : List ℕ). length ys) (seen_nowhere r.kernel.world queue cache
        (cache_of_store r.kernel.world r.kernel.objects store) r.blocks b none) ∙ sound.blocks b low

-- a stream call that isn't refused reads or writes within a block
within_block : (c : SysCall) (over far : Bool) (n : ℕ) → nat_lt 512 n ≡ far →
    is_ok (begins_unless c (refused over BadFd (refused far BadIndex None))) ≡ true → n ≤ 512
within_block c true far n e ok = absurd cc
within_block c false true n e ok = absurd cc
within_block c false false n e ok = at_most n e
  where
    at_most : (n : ℕ) → nat_lt 512 n ≡ false → n ≤ 512
    at_most n e = grind (arith, nat_tests)

-- what a stream read takes is as long as it asked for
taken_length : (r : Run) (p fd i off len b : ℕ) (c : Call) → IsSoundRun all_calls r → r.kernel.call p ≡ Some c →
    c.stage.call ≡ StreamRead fd i off len → Names r p fd i off len b →
    length (slice_range (seen_in r b) off (off + len)) ≡ len
taken_length r p fd i off len b c sound is call named =
    part_length (seen_in r b) off len
    (seen_whole r sound b (file_block_is r.kernel.world (r.kernel.objects.things.file p fd) i off len b
    r.kernel.objects.things.cache sound.kernel.state.store.world sound.kernel.state.disk named).on_disk)
    (within_block (StreamRead fd i off len) (nat_lt 3 fd) (nat_lt 512 (off + len)) (off + len) refl
    (subst (λ x. is_ok (all_calls.early r.kernel.world r.kernel.images p x) ≡ true) call (sound.kernel.granted p c is)))

none_some : (c : Call) → None ≡ Some c → ⊥
none_some c e = cc

call_is : (a b : Call) → Some a ≡ Some b → a ≡ b
call_is a b e = cc

-- ---- a move that does nothing

nothing_streams : (r u : Run) (x : Option Answer) →
    ((q : ℕ) (d : Call) → u.kernel.call q ≡ Some d →
    (e : Call) × (r.kernel.call q ≡ Some e) × (d.stage ≡ e.stage)) →
    ((q : ℕ) (e : Call) → r.kernel.call q ≡ Some e → (d : Call) × (u.kernel.call q ≡ Some d)) →
    MoveKeepsStreams x r u
nothing_streams r u x calls stand =
    record {
      taken = λ p fd i off len c d is goes. absurd (no_move p c d goes);
      gives = λ p fd i off len c reply notes before is second after ends.
          let d = stand p c before in absurd (none_some d.0 (sym after ∙ d.1));
      made = λ p fd i off given c d is goes. absurd (no_move p c d goes);
    }
  where
    not_both : (n : ℕ) → n ≡ 0 → n ≡ 1 → ⊥
    not_both n e f = omega arith

    no_move : (p : ℕ) (c d : Call) → GoesOn r u p c d → ⊥
    no_move p c d goes =
        let x = calls p d goes.after in
        let same = call_is x.0 c (sym x.1 ∙ goes.before) in
        not_both c.stage.piece goes.first
        (sym (ap (λ (t : Stage). t.piece) (x.2 ∙ ap (λ (y : Call). y.stage) same)) ∙ goes.second)

-- ---- a piece that is done

module _ (r u : Run) (q : ℕ) (c : Call) (is : r.kernel.call q ≡ Some c) (sound : IsSoundRun all_calls r)
    (shown : MoveKeepsShown r u) (carries : CarriesAll r.kernel) (w : Objects) (answer : Option Answer)
    (ready : IsReady all_calls r.kernel.world r.kernel.images w q c.stage answer)
    (calls : u.kernel.call ≡ at q (call_after c (piece_on all_calls q c w answer r).after) r.kernel.call)
    (pre : List Note)
    (notes : u.notes ≡ ((r.notes ++ pre) ++ gave_note c.number (piece_on all_calls q c w answer r).gave)
    ++ after_note c.number (piece_on all_calls q c w answer r).after)
    (goes_is : (p : ℕ) (x d : Call) → GoesOn r u p x d → (p ≡ q) × (x ≡ c) × (t : Stage)
    × ((piece_on all_calls q c w answer r).after ≡ Continues t) × (d.stage ≡ t)) where
  abbrev done : Piece
  done = piece_on all_calls q c w answer r

  abbrev v : World
  v = r.kernel.world

  abbrev t : Stage
  t = c.stage

  -- the tables below that of streams
  abbrev below : Meaning
  below = beside is_event_call event_points plain_calls

  done_is : (call : SysCall) → t.call ≡ call →
      done ≡ cond (is_stream_call call) (stream_piece call t v w r.blocks q answer r.io)
      (below.piece v r.kernel.images w r.blocks q t answer r.io)
  done_is call e =
      ap (λ x. cond (is_stream_call x) (stream_piece x t v w r.blocks q answer r.io)
      (below.piece v r.kernel.images w r.blocks q t answer r.io)) e

  asks_is : (call : SysCall) → t.call ≡ call →
      all_calls.asks v w q t ≡ cond (is_stream_call call) (stream_ask call t v w.things q) (below.asks v w q t)
  asks_is call e = ap (λ x. cond (is_stream_call x) (stream_ask x t v w.things q) (below.asks v w q t)) e

  -- the second piece of a stream read
  second_is : (fd i off len : ℕ) → t.call ≡ StreamRead fd i off len → t.piece ≡ 1 →
      done ≡ record (leaves w r.blocks well) { gave = Some (through answer t.bytes) }
  second_is fd i off len e second =
      done_is (StreamRead fd i off len) e
      ∙ ap (λ n. stream_read_piece n t v w r.blocks q fd i off len answer r.io) second

  given_length : (fd i off len : ℕ) → t.call ≡ StreamRead fd i off len → t.piece ≡ 1 → len ≤ 512 →
      length (through answer t.bytes) ≡ len
  given_length fd i off len e second few =
      let carried = carries q fd i off len c is e second in
      through_length w q READ_POINT i off fd t.bytes answer (omega (arith, carried, few)) refl
      (subst (λ x. IsRightAnswer w x (registers_of answer))
      (asks_is (StreamRead fd i off len) e
      ∙ ap (λ n. stream_read_ask n v w.things q fd i off len (length t.bytes)) second) ready.right)
      ready.body ∙ carried

  few_asked : (fd i off len : ℕ) → t.call ≡ StreamRead fd i off len → len ≤ 512
  few_asked fd i off len e =
      let within = within_block (StreamRead fd i off len) (nat_lt 3 fd) (nat_lt 512 (off + len)) (off + len) refl
      (subst (λ x. is_ok (all_calls.early v r.kernel.images q x) ≡ true) e ready.standing.granted) in
      omega (arith, within)

  gives : (p fd i off len : ℕ) (x : Call) (reply : Reply) (before : List Note) → r.kernel.call p ≡ Some x →
      x.stage.call ≡ StreamRead fd i off len → x.stage.piece ≡ 1 → u.kernel.call p ≡ None →
      u.notes ≡ before ++ Ended x.number reply ∷ [] → (earlier : List Note)
      × (before ≡ earlier ++ Gave x.number (through answer x.stage.bytes) ∷ [])
      × (length (through answer x.stage.bytes) ≡ len)
  gives p fd i off len x reply before there call second after ends = elim (cases_eq p q) [
    | inr ne ↦ absurd (none_some x (sym after ∙ ap (λ f. f p) calls
        ∙ at_other q p (call_after c done.after) r.kernel.call ne ∙ there))
    | inl same ↦
        let one = call_is x c (sym there ∙ ap r.kernel.call same ∙ is) in
        let e = ap (λ (y : Call). y.stage.call) (sym one) ∙ call in
        let next = ap (λ (y : Call). y.stage.piece) (sym one) ∙ second in
        let bytes = through answer t.bytes in
        let told = notes
        ∙ ap (λ (d : Piece). ((r.notes ++ pre) ++ gave_note c.number d.gave) ++ after_note c.number d.after)
        (second_is fd i off len e next) in
        let last = last_same before ((r.notes ++ pre) ++ Gave c.number bytes ∷ []) (Ended x.number reply)
        (Ended c.number Reply.Plain) (sym ends ∙ told) in (
          r.notes ++ pre,
          last.0 ∙ ap (λ (y : Call). (r.notes ++ pre) ++ Gave y.number (through answer y.stage.bytes) ∷ []) (sym one),
          ap (λ (y : Call). length (through answer y.stage.bytes)) one
              ∙ given_length fd i off len e next (few_asked fd i off len e),
        )
  ]

  -- the first piece of a stream write
  made : (p fd i off : ℕ) (given : List ℕ) (x d : Call) → x.stage.call ≡ StreamWrite fd i off given →
      GoesOn r u p x d → (d.stage.bytes ≡ through answer given) × (length d.stage.bytes ≡ length given)
  made p fd i off given x d call goes =
      let k = goes_is p x d goes in
      let e = ap (λ (y : Call). y.stage.call) (sym k.1) ∙ call in
      let first = ap (λ (y : Call). y.stage.piece) (sym k.1) ∙ goes.first in
      let piece = done_is (StreamWrite fd i off given) e
      ∙ ap (λ n. stream_write_piece n t v w r.blocks q fd i off given answer r.io) first in
      let asks = asks_is (StreamWrite fd i off given) e
      ∙ ap (λ n. stream_write_ask n v w.things q fd i off given t.bytes) first in
      by_block (file_block v (w.things.file q fd) i off (length given)) refl
      (sym (ap (λ (y : Piece). y.after) piece) ∙ k.3)
      (subst (λ x. IsRightAnswer w x (registers_of answer)) asks ready.right)
      k.4
      (within_block (StreamWrite fd i off given) (nat_lt 3 fd) (nat_lt 512 (off + length given))
      (off + length given) refl
      (subst (λ x. is_ok (all_calls.early v r.kernel.images q x) ≡ true) e ready.standing.granted))
    where
      stage_is : (a b : Stage) → Continues a ≡ Continues b → a ≡ b
      stage_is a b e = cc

      fails_goes : (why : Refusal) (u : Stage) → Fails why ≡ Continues u → ⊥
      fails_goes why u e = cc

      few : (n : ℕ) → off + n ≤ 512 → n ≤ 512
      few n h = omega (arith, h)

      by_block : (y : Result ℕ Refusal) → file_block v (w.things.file q fd) i off (length given) ≡ y →
          {s : Stage} → (stream_changed y t.call w r.blocks (through answer given)).after ≡ Continues s →
          IsRightAnswer w (stream_write_asks q fd i off (length given) y) (registers_of answer) → d.stage ≡ s →
          off + length given ≤ 512 →
          (d.stage.bytes ≡ through answer given) × (length d.stage.bytes ≡ length given)
      by_block (Err why) e {s} goes right at within = absurd (fails_goes why s goes)
      by_block (Ok b) e {s} goes right at within =
          let bytes = ap (λ (y : Stage). y.bytes) at ∙ ap (λ (y : Stage). y.bytes) (sym (stage_is (record {
            call = t.call;
            piece = 1;
            handlers = [];
            answers = 0;
            bytes = through answer given;
          }) s goes)) in (
            bytes,
            ap (λ (ys : List ℕ). length ys) bytes
                ∙ through_length w q WRITE_POINT i off fd given answer (few
                (length given) within) refl right ready.body,
          )

  piece_streams : MoveKeepsStreams answer r u
  piece_streams =
      record {
        taken = λ p fd i off len x d call goes.
            let h = shown.taken p fd i off len x d call goes in
            ap (λ (ys : List ℕ). length ys) h.2
            ∙ taken_length r p fd i off len h.0 x sound goes.before call h.1;
        gives = gives;
        made = made;
      }

  -- what is carried then
  piece_carries : CarriesAll u.kernel
  piece_carries p fd i off len d after call second = elim (cases_eq p q) [
    | inr ne ↦ carries p fd i off len d
        (sym (ap (λ f. f p) calls ∙ at_other q p (call_after c done.after) r.kernel.call ne) ∙ after) call second
    | inl same ↦ by_after done.after refl (sym (ap (λ f. f p) calls
        ∙ ap (at q (call_after c done.after) r.kernel.call) same ∙ at_here q (call_after c done.after) r.kernel.call)
        ∙ after) same
  ]
    where
      by_piece : (s : Stage) → done.after ≡ Continues s → d.stage ≡ s → p ≡ q → (n : ℕ) → t.piece ≡ n →
          t.call ≡ StreamRead fd i off len → length d.stage.bytes ≡ len
      by_piece s goes there same zero first e =
          let move : GoesOn r u p c d = record {
            before = ap r.kernel.call same ∙ is;
            first = first;
            after = after;
            second = second;
          } in
          let h = shown.taken p fd i off len c d e move in
          ap (λ (ys : List ℕ). length ys) h.2
          ∙ taken_length r p fd i off len h.0 c sound (ap r.kernel.call same ∙ is) e h.1
      by_piece s goes there same (suc n) later e =
          absurd (ends s (sym (ap (λ (y : Piece). y.after) (done_is (StreamRead fd i off len) e
          ∙ ap (λ i2. stream_read_piece i2 t v w r.blocks q fd i off len answer r.io) later)) ∙ goes))
        where
          ends : (s : Stage) → well ≡ Continues s → ⊥
          ends s e = cc

      by_after : (a : After) → done.after ≡ a → call_after c a ≡ Some d → p ≡ q → length d.stage.bytes ≡ len
      by_after (Continues s) goes there same =
          let stands = sym (ap (λ (y : Call). y.stage)
          (call_is (record { number = c.number; stage = s; marks = None }) d there)) in
          by_piece s goes stands same t.piece refl
          (sym (laws_of_all_calls.stages.same_call_next v r.kernel.images w r.blocks q t s answer r.io ready goes)
          ∙ ap (λ (y : Stage). y.call) (sym stands) ∙ call)
      by_after (EndsWith reply) goes there same = absurd (none_some d there)
      by_after (Fails why) goes there same = absurd (none_some d there)

-- ---- what is kept

abbrev Keeps : Move → Type 0
Keeps x = MoveKeepsStreams (answer_given all_calls x) (run_before x) (run_after all_calls x)

record StreamsSoFar (l : List Move) (k : Kernel) (blocks : Blocks) : Type 0 where
  coherent : IsCoherent k.objects.things.cache blocks
  carries : CarriesAll k
  moves : AllByRecursion Keeps l

each_more : (l : List Move) (x : Move) → AllByRecursion Keeps l → Keeps x → AllByRecursion Keeps (l ++ x ∷ [])
each_more [] x h k = (k, tt)
each_more (y ∷ l) x h k = (h.0, each_more l x h.1 k)

-- a move's streams, and what is carried behind it
abbrev Moved : Option Answer → Run → Run → Type 0
Moved x r u = MoveKeepsStreams x r u × CarriesAll u.kernel × IsCoherent u.kernel.objects.things.cache u.blocks

one_more : (l : List Move) (x : Move) (r u : Run) → run_before x ≡ r → run_after all_calls x ≡ u →
    StreamsSoFar l r.kernel r.blocks → Moved (answer_given all_calls x) r u →
    StreamsSoFar (l ++ x ∷ []) u.kernel u.blocks
one_more l x r u before after h k =
    record {
      coherent = k.2;
      carries = k.1;
      moves = each_more l x h.moves
          (subst (λ y. MoveKeepsStreams (answer_given all_calls x) y (run_after all_calls x)) (sym before)
          (subst (MoveKeepsStreams (answer_given all_calls x) r) (sym after) k.0));
    }

-- calls that stay at their stages carry what they did
stays_carried : (r u : Run) → ((q : ℕ) (d : Call) → u.kernel.call q ≡ Some d →
    (e : Call) × (r.kernel.call q ≡ Some e) × (d.stage ≡ e.stage)) → CarriesAll r.kernel → CarriesAll u.kernel
stays_carried r u calls h p fd i off len c is call second =
    let x = calls p c is in
    ap (λ (t : Stage). length t.bytes) x.2
    ∙ h p fd i off len x.0 x.1 (ap (λ (t : Stage). t.call) (sym x.2) ∙ call)
    (ap (λ (t : Stage). t.piece) (sym x.2) ∙ second)

commits_streams : (r u : Run) (q : ℕ) (c : Call) (x : Option Answer) → r.kernel.call q ≡ Some c →
    IsSoundRun all_calls r → StreamsSoFar [] r.kernel r.blocks → Commits all_calls q c x r u → Moved x r u
commits_streams r u q c x is sound h (Done w answer pre given ready alike objects blocks calls notes) =
    let shown = piece_shown r u q c is sound h.coherent w answer ready alike objects blocks calls pre notes in
    let goes = goes_is r u q c is sound h.coherent w answer ready alike objects blocks calls pre notes in (
      subst (λ y. MoveKeepsStreams y r u) given
          (piece_streams r u q c is sound shown h.carries w answer ready calls pre notes goes),
      piece_carries r u q c is sound shown h.carries w answer ready calls pre notes goes,
      shown.coherent,
    )
commits_streams r u q c x is sound h (Stays objects blocks calls stand) =
    let shown = nothing_shown r u h.coherent objects blocks calls in
    (nothing_streams r u x calls stand, stays_carried r u calls h.carries, shown.coherent)

-- the first stage of a call is before its first piece
first_piece : (v : World) (images : ImageTable) (p : ℕ) (call : SysCall) (t : Stage) →
    all_calls.early v images p call ≡ Ok t → t.piece ≡ 0
first_piece v images p call t e =
    by_table (is_stream_call call) (is_event_call call) (stream_refusal v images p call) (event_refusal v images p call)
    (call_refusal TOP_POINT v images p call) e
  where
    stage_is : (a b : Stage) → ◌≡◌ {A = Result Stage Refusal} (Ok a) (Ok b) → a ≡ b
    stage_is a b e = cc

    refused_not : (why : Refusal) → ◌≡◌ {A = Result Stage Refusal} (Err why) (Ok t) → ⊥
    refused_not why e = cc

    by_refusal : (x : Option Refusal) → begins_unless call x ≡ Ok t → t.piece ≡ 0
    by_refusal None e = ap (λ (y : Stage). y.piece) (sym (stage_is (stage call 0) t e))
    by_refusal (Some why) e = absurd (refused_not why e)

    by_table : (a b : Bool) (x y z : Option Refusal) →
        cond a (begins_unless call x) (cond b (begins_unless call y) (begins_unless call z)) ≡ Ok t → t.piece ≡ 0
    by_table true b x y z e = by_refusal x e
    by_table false true x y z e = by_refusal y e
    by_table false false x y z e = by_refusal z e

-- a call that begins carries nothing yet
begins_carried : (r : Run) (number p : ℕ) (call : SysCall) (new : Stage) →
    all_calls.early r.kernel.world r.kernel.images p call ≡ Ok new → CarriesAll r.kernel →
    CarriesAll (joins p (with_call p (Some (new_call number new)) r)).kernel
begins_carried r number p call new early h q fd i off len c is reads second = elim (cases_eq q p) [
  | inr ne ↦ h q fd i off len c (sym (at_other p q (Some (new_call number new)) r.kernel.call ne) ∙ is) reads second
  | inl same ↦ absurd (not_both c.stage.piece
      (ap (λ (y : Call). y.stage.piece) (sym (call_is (new_call number new) c
      (sym (ap (at p (Some (new_call number new)) r.kernel.call) same
      ∙ at_here p (Some (new_call number new)) r.kernel.call) ∙ is)))
      ∙ first_piece r.kernel.world r.kernel.images p call new early) second)
]
  where
    not_both : (n : ℕ) → n ≡ 0 → n ≡ 1 → ⊥
    not_both n e f = omega arith

plain_so_far : (l : List Move) (k : Kernel) (blocks : Blocks) → StreamsSoFar l k blocks → StreamsSoFar [] k blocks
plain_so_far l k blocks h = record { coherent = h.coherent; carries = h.carries; moves = tt }

streams_kept : Kept all_calls (λ l r. StreamsSoFar l r.kernel r.blocks)
streams_kept = record {
  steps = λ l p c r sound is free h.
      one_more l (Steps p r) r (step all_calls p r) refl refl h
      (commits_streams r (step all_calls p r) p c (answer_given all_calls (Steps p r)) is sound
      (plain_so_far l r.kernel r.blocks h) (step_commits all_calls laws_of_all_calls p c r sound is));
  drops = λ l e p n cause r sound low does h. dropped l e p n cause r sound does (r.kernel.call p) refl h;
  ends = λ l e p b c r sound is none does h. ended l e p b c r is does h;
  idle = λ l e r does h.
      one_more l (Acts e r) r r refl does h
      (nothing_streams r r None (λ q d is. (d, is, refl)) (λ q d is. (d, is)), h.carries, h.coherent);
  notes = λ l x r other h. record { coherent = h.coherent; carries = h.carries; moves = h.moves };
  begins = λ l number p call t r sound none alive early h. record {
    coherent = h.coherent;
    carries = begins_carried r number p call t early h.carries;
    moves = h.moves;
  };
  joined = λ l p b r sound level away blocked h.
      record { coherent = h.coherent; carries = h.carries; moves = h.moves };
  rests = λ l r sound h. record { coherent = h.coherent; carries = h.carries; moves = h.moves };
  ticks = λ l number r sound h. record { coherent = h.coherent; carries = h.carries; moves = h.moves };
}
  where
    dropped : (l : List Move) (e : Waiter) (p n : ℕ) (cause : Cause) (r : Run) → IsSoundRun all_calls r →
        entry_action all_calls e e.blocker r ≡ drop_call all_calls p (r.kernel.call p) (Some n) cause r →
        (x : Option Call) → r.kernel.call p ≡ x → StreamsSoFar l r.kernel r.blocks →
        let u = drop_call all_calls p (r.kernel.call p) (Some n) cause r in
        StreamsSoFar (l ++ Acts e r ∷ []) u.kernel u.blocks
    dropped l e p n cause r sound does (Some c) is h =
        let u = drop_call all_calls p (r.kernel.call p) (Some n) cause r in
        one_more l (Acts e r) r u refl does h
        (commits_streams r u p c None is sound (plain_so_far l r.kernel r.blocks h)
        (drop_commits all_calls laws_of_all_calls p c n cause r sound is))
    dropped l e p n cause r sound does None is h =
        let u = drop_call all_calls p (r.kernel.call p) (Some n) cause r in
        let same = ap (λ y. drop_call all_calls p y (Some n) cause r) is in
        one_more l (Acts e r) r u refl does h
        (subst (Moved None r) (sym same)
        (nothing_streams r r None (λ q d is. (d, is, refl)) (λ q d is. (d, is)), h.carries, h.coherent))

    -- a call that timed out is refused, and gives nothing
    ended : (l : List Move) (e : Waiter) (p : ℕ) (b : Blocker) (c : Call) (r : Run) → r.kernel.call p ≡ Some c →
        entry_action all_calls e e.blocker r ≡ times_out all_calls p b c r → StreamsSoFar l r.kernel r.blocks →
        let u = times_out all_calls p b c r in StreamsSoFar (l ++ Acts e r ∷ []) u.kernel u.blocks
    ended l e p b c r is does h =
        let u = times_out all_calls p b c r in
        one_more l (Acts e r) r u refl does h (
          record {
            taken = λ q fd i off len x d call goes. absurd (no_move q x d goes);
            gives = λ q fd i off len x reply notes before call second after ends.
                absurd (refused_ends (last_same r.notes notes (Refused c.number (TimedOut b.object b.holder))
                (Ended x.number reply) ends).1);
            made = λ q fd i off given x d call goes. absurd (no_move q x d goes);
          },
          stays_carried r u others h.carries,
          h.coherent,
        )
      where
        refused_ends : {n i : ℕ} {why : Refusal} {reply : Reply} → Refused n why ≡ Ended i reply → ⊥
        refused_ends e = cc

        others : (q : ℕ) (d : Call) → at p None r.kernel.call q ≡ Some d →
            (e : Call) × (r.kernel.call q ≡ Some e) × (d.stage ≡ e.stage)
        others q d there = elim (cases_eq q p) [
          | inl same ↦ absurd (none_some d
              (sym (ap (at p None r.kernel.call) same ∙ at_here p None r.kernel.call) ∙ there))
          | inr ne ↦ (d, sym (at_other p q None r.kernel.call ne) ∙ there, refl)
        ]

        not_both : (n : ℕ) → n ≡ 0 → n ≡ 1 → ⊥
        not_both n e f = omega arith

        no_move : (q : ℕ) (x d : Call) → GoesOn r (times_out all_calls p b c r) q x d → ⊥
        no_move q x d goes =
            let y = others q d goes.after in
            let same = call_is y.0 x (sym y.1 ∙ goes.before) in
            not_both x.stage.piece goes.first
            (sym (ap (λ (t : Stage). t.piece) (y.2 ∙ ap (λ (z : Call). z.stage) same)) ∙ goes.second)

-- ---- runs

streams_so_far : IsKept all_calls (λ blocks. ⊤) (λ l notes k blocks. StreamsSoFar l k blocks)
streams_so_far = record {
  opens = λ v blocks sound before. record {
    coherent = λ f x is clean. absurd (no_frame x is);
    carries = λ p fd i off len c is call second. absurd (none_some c is);
    moves = tt;
  };
  images = λ l notes k blocks slot i sound free h.
      record { coherent = h.coherent; carries = h.carries; moves = h.moves };
  events = λ l notes k blocks number e io sound h.
      (event_kept all_calls laws_of_all_calls (λ l r. StreamsSoFar l r.kernel r.blocks) streams_kept number e l
      (run_at k blocks io) (sound io, h)).1;
}
  where
    no_frame : (x : FrameValue) → None ≡ Some x → ⊥
    no_frame x e = cc

pub runs_keep_streams : RunsKeepStreams
runs_keep_streams keys d texts ios k x h is among =
    let so = runs_kept whole keys d texts ios k (λ blocks. ⊤) (λ l notes k blocks. StreamsSoFar l k blocks)
    streams_so_far h tt is in
    each_contains Keeps (moves_of whole keys d texts ios) x so.moves among
