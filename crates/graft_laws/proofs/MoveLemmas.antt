-- What one step of a call leaves to the others, and what notes it writes.
use Rattle.std.specs.Prelude.{◌≡◌, ◌≢◌, ℕ, suc, ◌+◌, ◌<◌, ◌≤◌, Bool, true, false, cond, map, sum}
use Rattle.std.specs.Prelude.{List, [], ◌∷◌, ◌++◌, Option, Some, None, is_some, ⊤}
use Rattle.std.specs.Result.{is_ok}
use Rattle.std.proofs.Common.{arith, refl, subst, sym, ap, ◌∙◌}
use Rattle.std.proofs.lemmas.List.{append_assoc, append-nil}
use Rattle.kernel_model.specs.declared.Note.{Note}
use Rattle.kernel_model.specs.declared.QueueRow.{QueueRow}
use Rattle.kernel_model.specs.World.{World, ImageTable, Blocks}
use Rattle.kernel_model.specs.Objects.{Objects}
use Rattle.kernel_model.specs.Policies.{lives}
use Rattle.kernel_model.specs.Meaning.{Meaning, After, Continues, EndsWith, Fails, Answer}
use Rattle.kernel_model.specs.History.{Mark}
use Rattle.kernel_model.specs.Kernel.{Call, Run, has_level, gave_note, after_note, call_after, with_marks}
use Rattle.kernel_model.specs.Settle.{finish_on}
use Rattle.kernel_model.specs.Sound.{IsSoundStore, FitsDisk, HasWholeBlocks, once_if}
use Rattle.kernel_model.specs.Alike.{AreAlike, SameFiles, niceless, windowless}
use Rattle.kernel_model.specs.Laws.{Laws, IsReady, continues, slices_in}
use Rattle.call_laws.specs.Ledgers.{at_here, at_other}
use Rattle.graft_laws.specs.Notes.{is_drop, is_end, is_data, is_line, note_count}
use Rattle.kernel_laws.proofs.StepLemmas.{niceless_lives, others_files}
use Rattle.kernel_laws.proofs.SettleLemmas.{left_of}

-- ---- notes

pub count_more : (test : Note → Bool) (xs ys : List Note) →
    note_count test (xs ++ ys) ≡ note_count test xs + note_count test ys
count_more test [] ys = omega arith
count_more test (x ∷ xs) ys =
    more_by (test x) (note_count test (xs ++ ys)) (note_count test xs) (note_count test ys)
    (count_more test xs ys)
  where
    more_by : (b : Bool) (n x y : ℕ) → n ≡ x + y → cond b (suc n) n ≡ cond b (suc x) x + y
    more_by true n x y e = omega arith
    more_by false n x y e = e

-- notes before a piece's: at most one, of a drop, where the bound allows it
pub record ArePartOf (bound : ℕ) (pre : List Note) : Type 0 where
  pub drops : note_count is_drop pre ≤ bound
  pub ends : note_count is_end pre ≡ 0
  pub data_notes : note_count is_data pre ≡ 0
  pub lines : note_count is_line pre ≡ 0

pub no_part : (n : ℕ) → ArePartOf n []
no_part n = record { drops = omega arith; ends = refl; data_notes = refl; lines = refl }

-- ---- calls that stand

-- the state and the blocks are sound, and each call in flight stands
pub record Stands (m : Meaning) (v : World) (images : ImageTable) (s : Objects) (blocks : Blocks)
    (call : ℕ → Option Call) : Type 0 where
  pub store : IsSoundStore v s
  pub disk : FitsDisk v s.things.cache
  pub whole : HasWholeBlocks v blocks
  pub callers : (p : ℕ) (c : Call) → call p ≡ Some c → lives s.things.queue p ≡ true
  pub granted : (p : ℕ) (c : Call) → call p ≡ Some c → is_ok (m.early v images p c.stage.call) ≡ true
  pub fit : (p : ℕ) (c : Call) → call p ≡ Some c → m.fits v s p c.stage ≡ true

-- of a run
abbrev pub StandsAt : Meaning → Run → Type 0
StandsAt m r = Stands m r.kernel.world r.kernel.images r.kernel.objects r.blocks r.kernel.call

-- a call stands
pub record IsOn (m : Meaning) (v : World) (images : ImageTable) (p : ℕ) (u : Objects) (d : Call) : Type 0 where
  pub caller : lives u.things.queue p ≡ true
  pub granted : is_ok (m.early v images p d.stage.call) ≡ true
  pub fits : m.fits v u p d.stage ≡ true

-- the same where there is one
abbrev pub OwnAfter : (m : Meaning) (v : World) (images : ImageTable) (p : ℕ) → Objects → Option Call → Type 0
OwnAfter m v images p u None = ⊤
OwnAfter m v images p u (Some d) = IsOn m v images p u d

-- what a step of p's call leaves, and what it writes
pub record Moves (m : Meaning) (p : ℕ) (r u : Run) : Type 0 where
  pub world : u.kernel.world ≡ r.kernel.world
  pub images : u.kernel.images ≡ r.kernel.images
  pub order : u.kernel.order ≡ r.kernel.order
  pub store : IsSoundStore r.kernel.world u.kernel.objects
  pub disk : FitsDisk r.kernel.world u.kernel.objects.things.cache
  pub whole : HasWholeBlocks r.kernel.world u.blocks
  pub calls : (q : ℕ) → q ≢ p → u.kernel.call q ≡ r.kernel.call q
  pub live : (q : ℕ) → q ≢ p → lives r.kernel.objects.things.queue q ≡ true →
      lives u.kernel.objects.things.queue q ≡ true
  pub files : (q : ℕ) → q ≢ p → SameFiles q r.kernel.objects u.kernel.objects
  pub own : OwnAfter m r.kernel.world r.kernel.images p u.kernel.objects (u.kernel.call p)
  pub new : List Note
  pub notes : u.notes ≡ r.notes ++ new
  pub drops : note_count is_drop new ≤ once_if (has_level (r.kernel.call p))
  pub data_notes : note_count is_data new + left_of m r.kernel.world u.kernel.objects p
      (u.kernel.call p) ≤ left_of m r.kernel.world r.kernel.objects p (r.kernel.call p)
  pub ends : note_count is_end new + once_if (is_some (u.kernel.call p)) ≤ once_if (is_some (r.kernel.call p))
  pub lines : note_count is_line new ≡ 0
  pub slices : slices_in u.kernel.objects.things.queue + once_if (is_some (u.kernel.call p))
      ≤ slices_in r.kernel.objects.things.queue + once_if (is_some (r.kernel.call p))

-- the rest of it, for a call of which so much is left
pub record OwnMoves (m : Meaning) (v : World) (images : ImageTable) (p left : ℕ) (u : Objects)
    (x : Option Call) (new : List Note) : Type 0 where
  pub own : OwnAfter m v images p u x
  pub data_notes : note_count is_data new + left_of m v u p x ≤ left
  pub ends : note_count is_end new + once_if (is_some x) ≤ 1

-- rows that differ in nices alone have as many slices
niceless_slices : (xs ys : List QueueRow) → niceless xs ≡ niceless ys → slices_in xs ≡ slices_in ys
niceless_slices xs ys e = sym (slices_niceless xs) ∙ ap slices_in e ∙ slices_niceless ys
  where
    same_slices : (rows : List QueueRow) →
        map (λ (r : QueueRow). r.slices) (niceless rows) ≡ map (λ (r : QueueRow). r.slices) rows
    same_slices [] = refl
    same_slices (r ∷ rows) = ap (λ ns. r.slices ∷ ns) (same_slices rows)

    slices_niceless : (rows : List QueueRow) → slices_in (niceless rows) ≡ slices_in rows
    slices_niceless rows = ap sum (same_slices rows)

-- a note of bytes, at most, and no other
pub gave_counts : (n : ℕ) (gave : Option (List ℕ)) → let ns = gave_note n gave in
    (note_count is_drop ns ≡ 0) × (note_count is_end ns ≡ 0) × (note_count is_data ns ≤ 1) × (note_count is_line ns ≡ 0)
gave_counts n None = (refl, refl, zero_one, refl)
  where
    zero_one : 0 ≤ 1
    zero_one = omega arith
gave_counts n (Some bytes) = (refl, refl, one_one, refl)
  where
    one_one : 1 ≤ 1
    one_one = omega arith

-- an end, at most, and no other
pub after_counts : (n : ℕ) (a : After) → let ns = after_note n a in
    (note_count is_drop ns ≡ 0) × (note_count is_data ns ≡ 0) × (note_count is_line ns ≡ 0)
after_counts n (Continues t) = (refl, refl, refl)
after_counts n (EndsWith reply) = (refl, refl, refl)
after_counts n (Fails refusal) = (refl, refl, refl)

-- what stands of notes in three parts
three_parts : (test : Note → Bool) (xs ys zs : List Note) → note_count test (xs ++ (ys ++ zs))
    ≡ note_count test xs + (note_count test ys + note_count test zs)
three_parts test xs ys zs = count_more test xs (ys ++ zs) ∙ ap (λ n. note_count test xs + n) (count_more test ys zs)

module _ (m : Meaning) (laws : Laws m) where
  -- ---- the ends of a step

  -- the history changes, or nothing does
  pub marks_move : (p : ℕ) (c : Call) (ks : List Mark) (r : Run) (pre : List Note) → StandsAt m r →
      r.kernel.call p ≡ Some c →
      ArePartOf (once_if (has_level (r.kernel.call p))) pre →
      Moves m p r (with_marks p c ks (record r { notes = r.notes ++ pre }))
  marks_move p c ks r pre h e part =
      let d : Call = record c { marks = Some ks } in
      let v = r.kernel.world in
      let here = at_here p (Some d) r.kernel.call in
      record {
        world = refl;
        images = refl;
        order = refl;
        store = h.store;
        disk = h.disk;
        whole = h.whole;
        calls = λ q ne. at_other p q (Some d) r.kernel.call ne;
        live = λ q ne alive. alive;
        files = λ q ne fd. refl;
        own =
            subst (OwnAfter m v r.kernel.images p r.kernel.objects) (sym here)
            (record { caller = h.callers p c e; granted = h.granted p c e; fits = h.fit p c e });
        new = pre;
        notes = refl;
        drops = part.drops;
        data_notes =
            same_left (note_count is_data pre) (left_of m v r.kernel.objects p (r.kernel.call p))
            (left_of m v r.kernel.objects p _) part.data_notes
            (ap (left_of m v r.kernel.objects p) e) (ap (left_of m v r.kernel.objects p) here);
        ends =
            same_end (note_count is_end pre) (once_if (is_some (r.kernel.call p)))
            (once_if (is_some _)) part.ends (ap (λ x. once_if (is_some x)) e)
            (ap (λ x. once_if (is_some x)) here);
        lines = part.lines;
        slices = same_slices (slices_in r.kernel.objects.things.queue) (once_if (is_some (r.kernel.call p)))
            (once_if (is_some _)) (ap (λ x. once_if (is_some x)) e) (ap (λ x. once_if (is_some x)) here);
      }
    where
      same_left : (a n k : ℕ) → a ≡ 0 → n ≡ m.left r.kernel.world r.kernel.objects p c.stage →
          k ≡ m.left r.kernel.world r.kernel.objects p c.stage → a + k ≤ n
      same_left a n k z e f = omega arith

      same_end : (a n k : ℕ) → a ≡ 0 → n ≡ 1 → k ≡ 1 → a + k ≤ n
      same_end a n k z e f = omega arith

      same_slices : (x n k : ℕ) → n ≡ 1 → k ≡ 1 → x + k ≤ x + n
      same_slices x n k e f = omega arith

  pub stays : (p : ℕ) (c : Call) (r : Run) → StandsAt m r → r.kernel.call p ≡ Some c → Moves m p r r
  stays p c r h e =
      record {
        world = refl;
        images = refl;
        order = refl;
        store = h.store;
        disk = h.disk;
        whole = h.whole;
        calls = λ q ne. refl;
        live = λ q ne alive. alive;
        files = λ q ne fd. refl;
        own = subst (OwnAfter m r.kernel.world r.kernel.images p r.kernel.objects) (sym e)
            (record { caller = h.callers p c e; granted = h.granted p c e; fits = h.fit p c e });
        new = [];
        notes = sym (append-nil r.notes);
        drops = none_most (once_if (has_level (r.kernel.call p)));
        data_notes = itself (left_of m r.kernel.world r.kernel.objects p (r.kernel.call p));
        ends = itself (once_if (is_some (r.kernel.call p)));
        lines = refl;
        slices = no_more (slices_in r.kernel.objects.things.queue + once_if (is_some (r.kernel.call p)));
      }
    where
      no_more : (n : ℕ) → n ≤ n
      no_more n = omega arith

      none_most : (n : ℕ) → 0 ≤ n
      none_most n = omega arith

      itself : (n : ℕ) → 0 + n ≤ n
      itself n = omega arith

  -- the call after a piece
  own_after : (v : World) (images : ImageTable) (s w : Objects) (blocks : Blocks) (p : ℕ) (c : Call)
      (answer : Option Answer) (io : List Bool) (pre : List Note) (b : ℕ) (a : After) →
      IsReady m v images w p c.stage answer → AreAlike s w → ArePartOf b pre → let q =
      m.piece v images w blocks p c.stage answer io in q.after ≡ a →
      OwnMoves m v images p (m.left v s p c.stage) q.objects (call_after c a)
      (pre ++ (gave_note c.number q.gave ++ after_note c.number a))
  own_after v images s w blocks p c answer io pre b a ready alike part e = own_by a e
    where
      left : m.left v w p c.stage ≡ m.left v s p c.stage
      left = sym (laws.stages.left_same v s w p c.stage (alike.files p))

      some : 1 ≤ m.left v s p c.stage
      some = subst (λ n. 1 ≤ n) left (laws.stages.some_left v images w p c.stage ready.standing).0

      few_data : (x y z d k n : ℕ) → x ≡ y + (z + d) → y ≡ 0 → z ≤ 1 → d ≡ 0 → k < n → x + k ≤ n
      few_data x y z d k n e f g h less = omega arith

      one_end : (x y z d k : ℕ) → x ≡ y + (z + d) → y ≡ 0 → z ≡ 0 → d + k ≡ 1 → x + k ≤ 1
      one_end x y z d k e f g h = omega arith

      own_by : (a : After) → (m.piece v images w blocks p c.stage answer io).after ≡ a → let q =
          m.piece v images w blocks p c.stage answer io in
          OwnMoves m v images p (m.left v s p c.stage) q.objects (call_after c a)
          (pre ++ (gave_note c.number q.gave ++ after_note c.number a))
      own_by (Continues t) e =
          let q = m.piece v images w blocks p c.stage answer io in
          let gave = gave_counts c.number q.gave in
          record {
            own = record {
              caller = laws.piece.caller_lives v images w blocks p c.stage answer io ready (ap continues e);
              granted =
                  ap (λ x. is_ok (m.early v images p x)) (laws.stages.same_call_next v images w
                  blocks p c.stage t answer io ready e) ∙ ready.standing.granted;
              fits = laws.stages.next v images w blocks p c.stage t answer io ready e;
            };
            data_notes =
                few_data (note_count is_data (pre ++ (gave_note c.number q.gave ++ [])))
                (note_count is_data pre) (note_count is_data (gave_note c.number q.gave)) 0
                (m.left v q.objects p t) (m.left v s p c.stage) (three_parts is_data pre
                (gave_note c.number q.gave) []) part.data_notes gave.2 refl
                (subst (λ n. m.left v q.objects p t < n) left
                (laws.stages.left_falls v images w blocks p c.stage t answer io ready e));
            ends =
                one_end (note_count is_end (pre ++ (gave_note c.number q.gave ++ [])))
                (note_count is_end pre) (note_count is_end (gave_note c.number q.gave)) 0 1
                (three_parts is_end pre (gave_note c.number q.gave) []) part.ends gave.1 refl;
          }
      own_by (EndsWith reply) e =
          let q = m.piece v images w blocks p c.stage answer io in
          let gave = gave_counts c.number q.gave in
          let last = after_note c.number (EndsWith reply) in
          record {
            own = tt;
            data_notes =
                few_data (note_count is_data (pre ++ (gave_note c.number q.gave ++ last)))
                (note_count is_data pre) (note_count is_data (gave_note c.number q.gave)) 0
                0 (m.left v s p c.stage) (three_parts is_data pre (gave_note c.number q.gave) last)
                part.data_notes gave.2 refl some;
            ends =
                one_end (note_count is_end (pre ++ (gave_note c.number q.gave ++ last)))
                (note_count is_end pre) (note_count is_end (gave_note c.number q.gave)) 1 0
                (three_parts is_end pre (gave_note c.number q.gave) last) part.ends gave.1 refl;
          }
      own_by (Fails refusal) e =
          let q = m.piece v images w blocks p c.stage answer io in
          let gave = gave_counts c.number q.gave in
          let last = after_note c.number (Fails refusal) in
          record {
            own = tt;
            data_notes =
                few_data (note_count is_data (pre ++ (gave_note c.number q.gave ++ last)))
                (note_count is_data pre) (note_count is_data (gave_note c.number q.gave)) 0
                0 (m.left v s p c.stage) (three_parts is_data pre (gave_note c.number q.gave) last)
                part.data_notes gave.2 refl some;
            ends =
                one_end (note_count is_end (pre ++ (gave_note c.number q.gave ++ last)))
                (note_count is_end pre) (note_count is_end (gave_note c.number q.gave)) 1 0
                (three_parts is_end pre (gave_note c.number q.gave) last) part.ends gave.1 refl;
          }

  -- what a piece leaves of slices, where a call in flight counts as one
  slices_after : (v : World) (images : ImageTable) (s w : Objects) (blocks : Blocks) (p : ℕ) (c : Call)
      (answer : Option Answer) (io : List Bool) (a : After) →
      IsReady m v images w p c.stage answer → AreAlike s w →
      let q = m.piece v images w blocks p c.stage answer io in
      q.after ≡ a →
      slices_in q.objects.things.queue + once_if (is_some (call_after c a)) ≤ slices_in s.things.queue + 1
  slices_after v images s w blocks p c answer io a ready alike e = by_after a e
    where
      new : ℕ
      new = slices_in (m.piece v images w blocks p c.stage answer io).objects.things.queue

      one : new ≤ slices_in w.things.queue + 1
      one = laws.piece.one_slice v images w blocks p c.stage answer io ready

      same : slices_in w.things.queue ≡ slices_in s.things.queue
      same = sym (niceless_slices s.things.queue w.things.queue alike.queue)

      ended : (x y z : ℕ) → x ≤ y + 1 → y ≡ z → x + 0 ≤ z + 1
      ended x y z h e = omega arith

      contrary : true ≡ false → ⊥
      contrary h = cc

      goes : (x y z : ℕ) → (y < x → ⊥) → y ≡ z → x + 1 ≤ z + 1
      goes x y z never e = grind (arith, never)

      by_after : (a : After) → (m.piece v images w blocks p c.stage answer io).after ≡ a →
          new + once_if (is_some (call_after c a)) ≤ slices_in s.things.queue + 1
      by_after (Continues t) e =
          goes new (slices_in w.things.queue) (slices_in s.things.queue)
          (λ more. contrary (sym (ap continues e)
          ∙ laws.piece.slice_ends v images w blocks p c.stage answer io ready more)) same
      by_after (EndsWith reply) e = ended new (slices_in w.things.queue) (slices_in s.things.queue) one same
      by_after (Fails refusal) e = ended new (slices_in w.things.queue) (slices_in s.things.queue) one same

  -- a piece is done, on a state that is alike to the committed one, after these notes
  pub finish_moves : (p : ℕ) (c : Call) (w : Objects) (answer : Option Answer) (r : Run)
      (pre : List Note) → StandsAt m r → r.kernel.call p ≡ Some c →
      ArePartOf (once_if (has_level (r.kernel.call p))) pre →
      IsReady m r.kernel.world r.kernel.images w p c.stage answer →
      AreAlike r.kernel.objects w →
      Moves m p r (finish_on m p c w answer (record r { notes = r.notes ++ pre }))
  finish_moves p c w answer r pre h e part ready alike =
      let v = r.kernel.world in
      let s = r.kernel.objects in
      let q = m.piece v r.kernel.images w r.blocks p c.stage answer r.io in
      let here = at_here p (call_after c q.after) r.kernel.call in
      let new = pre ++ (gave_note c.number q.gave ++ after_note c.number q.after) in
      let mine = own_after v r.kernel.images s w r.blocks p c answer r.io pre
      (once_if (has_level (r.kernel.call p))) q.after ready alike part refl in
      let gave = gave_counts c.number q.gave in
      let last = after_counts c.number q.after in
      record {
        world = refl;
        images = refl;
        order = refl;
        store = laws.piece.store v r.kernel.images w r.blocks p c.stage answer r.io ready h.whole;
        disk = laws.piece.disk v r.kernel.images w r.blocks p c.stage answer r.io ready;
        whole = laws.piece.whole_blocks v r.kernel.images w r.blocks p c.stage answer r.io ready h.whole;
        calls = λ i ne. at_other p i (call_after c q.after) r.kernel.call ne;
        live = λ i ne alive. laws.piece.others_live v r.kernel.images w r.blocks p i c.stage answer r.io ready ne
            (sym (niceless_lives s.things.queue w.things.queue i alike.queue) ∙ alive);
        files =
            λ i ne fd. alike.files i fd ∙ ap windowless (others_files m laws v r.kernel.images w
            r.blocks p i c.stage answer r.io ready h.whole ne fd);
        own = subst (OwnAfter m v r.kernel.images p q.objects) (sym here) mine.own;
        new = new;
        notes =
            append_assoc (r.notes ++ pre) (gave_note c.number q.gave) (after_note c.number q.after)
            ∙ append_assoc r.notes pre (gave_note c.number q.gave ++ after_note c.number q.after);
        drops = subst (λ n. n ≤ once_if (has_level (r.kernel.call p)))
            (sym (three_parts is_drop pre (gave_note c.number q.gave) (after_note c.number q.after)))
            (as_many (note_count is_drop pre) (note_count is_drop (gave_note c.number q.gave))
            (note_count is_drop (after_note c.number q.after))
            (once_if (has_level (r.kernel.call p))) part.drops gave.0 last.0);
        data_notes =
            subst (λ n. note_count is_data new + n ≤ left_of m v s p (r.kernel.call p))
            (ap (left_of m v q.objects p) (sym here))
            (subst (λ n. note_count is_data new + left_of m v q.objects p (call_after c q.after)
            ≤ n) (ap (left_of m v s p) (sym e)) mine.data_notes);
        ends =
            subst (λ n. note_count is_end new + n ≤ once_if (is_some (r.kernel.call p)))
            (ap (λ x. once_if (is_some x)) (sym here))
            (subst (λ n. note_count is_end new + once_if (is_some (call_after c q.after)) ≤ n)
            (ap (λ x. once_if (is_some x)) (sym e)) mine.ends);
        lines = three_parts is_line pre (gave_note c.number q.gave) (after_note c.number q.after)
            ∙ all_none (note_count is_line pre) (note_count is_line (gave_note c.number q.gave))
            (note_count is_line (after_note c.number q.after)) part.lines gave.3 last.2;
        slices = same_slices (slices_in q.objects.things.queue) (slices_in s.things.queue)
            (once_if (is_some (call_after c q.after))) (once_if (is_some _)) (once_if (is_some (r.kernel.call p)))
            (slices_after v r.kernel.images s w r.blocks p c answer r.io q.after ready alike refl)
            (ap (λ x. once_if (is_some x)) here) (ap (λ x. once_if (is_some x)) e);
      }
    where
      same_slices : (x y a b n : ℕ) → x + a ≤ y + 1 → b ≡ a → n ≡ 1 → x + b ≤ y + n
      same_slices x y a b n h e f = omega arith

      as_many : (a b c n : ℕ) → a ≤ n → b ≡ 0 → c ≡ 0 → a + (b + c) ≤ n
      as_many a b c n h e f = omega arith

      all_none : (a b c : ℕ) → a ≡ 0 → b ≡ 0 → c ≡ 0 → a + (b + c) ≡ 0
      all_none a b c h e f = omega arith
