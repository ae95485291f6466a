-- A call that is alone in flight runs to its end at its own event, however many pieces it has.
-- These laws hold for every table of calls; the crate `kernel_laws` has a function for each of the
-- three statements.
use Rattle.std.specs.Prelude.{◌≡◌, ℕ, zero, suc, ◌≤◌, ◌==◌, Bool, true, false, not, ◌&&◌, List, []}
use Rattle.std.specs.Prelude.{◌∷◌, ◌++◌, Option, Some, None, is_some, length, ◌<◌, Contains, Ok, ⊤}
use Rattle.std.specs.Prelude.{refl}
use Rattle.std.specs.Result.{is_ok}
use Rattle.std.specs.List.{list_all}
use Rattle.std.proofs.Common.{arith, sym, subst, ap, ◌∙◌, inl, inr}
use Rattle.std.proofs.lemmas.Bool.{cases_Bool}
use Rattle.std.proofs.lemmas.Cmp.{nat_eq_equiv}
use Rattle.std.proofs.lemmas.List.Elements.{Contains-append_right}
use Rattle.kernel_data.specs.declared.Need.{Need}
use Rattle.kernel_data.specs.declared.SysCall.{SysCall}
use Rattle.kernel_data.specs.declared.SysCall.TheVariants.{TakeLock}
use Rattle.kernel_data.specs.declared.Event.TheVariants.{Sys}
use Rattle.kernel_data.specs.declared.Note.{Note}
use Rattle.kernel_data.specs.declared.Note.TheVariants.{Ended, Refused, Gave}
use Rattle.kernel_data.specs.World.{World, ImageTable, Blocks}
use Rattle.kernel_data.specs.Objects.{Objects, GraftValue}
use Rattle.kernel_data.specs.Policies.{lives}
use Rattle.kernel_model.specs.Meaning.{Meaning, Stage, Piece, After, Continues, EndsWith, Fails}
use Rattle.kernel_model.specs.Kernel.{Kernel, Run, gave_note, after_note}
use Rattle.kernel_model.specs.Locks.{user_of}
use Rattle.kernel_data.specs.declared.Object.{Object}
use Rattle.kernel_model.specs.Settle.{settle}
use Rattle.kernel_model.specs.Events.{event, last, last_note}
use Rattle.kernel_model.specs.Quiet.{quiet, at_rest, begins_alone, goes_alone, left_by, is_others}
use Rattle.kernel_model.specs.Quiet.{is_unhindered, HasNoGraft, settle_alone, settle_rests}
use Rattle.kernel_model.specs.Quiet.{granted_alone, both_hold}
use Rattle.kernel_model.specs.Sound.{IsSoundStore, FitsDisk, HasWholeBlocks}
use Rattle.kernel_model.specs.Laws.{Laws, IsReady, continues, is_new_graft, waits_for_user}

module _ (m : Meaning) where
  -- ---- pieces one after another

  -- the next piece of a call of p, with the default answer
  abbrev pub next_piece : ℕ → Stage → Run → Piece
  next_piece p t r = m.piece r.kernel.world r.kernel.images r.kernel.objects r.blocks p t None r.io

  -- At most the given number of pieces of a call of p, one after another, with the default answers.
  -- Each adds its notes.
  abbrev pub pieces_from : ℕ → (p number : ℕ) → Stage → Run → Run
  pieces_from zero p number t r = r
  pieces_from (suc n) p number t r =
      elim (next_piece p t r).after [
        | Continues u ↦ pieces_from n p number u (left_by number (next_piece p t r) r)
        | EndsWith reply ↦ left_by number (next_piece p t r) r
        | Fails refusal ↦ left_by number (next_piece p t r) r
      ]

  -- no user lock of another process keeps p from the next piece
  abbrev pub is_free : ℕ → Stage → Run → Bool
  is_free p t r =
      is_unhindered r.kernel.objects.things.lock p (m.need r.kernel.world r.kernel.objects p t)

  -- no user lock of another process keeps p from any of at most the given number of pieces
  abbrev pub are_free : ℕ → (p number : ℕ) → Stage → Run → Bool
  are_free zero p number t r = true
  are_free (suc n) p number t r =
      is_free p t r && elim (next_piece p t r).after [
        | Continues u ↦ are_free n p number u (left_by number (next_piece p t r) r)
        | EndsWith reply ↦ true
        | Fails refusal ↦ true
      ]

  -- At most the given number of pieces bring the call to its end, and before each of them no graft
  -- is installed and no user lock of another process keeps p from it.
  abbrev pub GoesToItsEnd : ℕ → (p number : ℕ) → Stage → Run → Type 0
  GoesToItsEnd zero p number t r = ⊥
  GoesToItsEnd (suc n) p number t r =
      HasNoGraft r.kernel.objects × (is_free p t r ≡ true)
      × elim (next_piece p t r).after as (λ _. Type 0) [
        | Continues u ↦ GoesToItsEnd n p number u (left_by number (next_piece p t r) r)
        | EndsWith reply ↦ ⊤
        | Fails refusal ↦ ⊤
      ]

  -- ---- the event of such a call

  -- settling after a piece of a call that is alone, by what comes after the piece
  settle_after : (n k p number : ℕ) (a : After) (r : Run) (v : World) (images : ImageTable)
      (s : Objects) (clock : ℕ) (blocks : Blocks) (notes : List Note) (io : List Bool) →
      r ≡ at_rest v images s clock blocks notes io →
      ((u : Stage) → GoesToItsEnd n p number u r →
      settle m k (begins_alone p number u r) ≡ pieces_from n p number u r) →
      elim a as (λ _. Type 0) [
        | Continues u ↦ GoesToItsEnd n p number u r
        | EndsWith reply ↦ ⊤
        | Fails refusal ↦ ⊤
      ] →
      settle m k (goes_alone p number a r)
      ≡ elim a as (λ _. Run) [
        | Continues u ↦ pieces_from n p number u r
        | EndsWith reply ↦ r
        | Fails refusal ↦ r
      ]
  settle_after n k p number (Continues u) r v images s clock blocks notes io e h rest = h u rest
  settle_after n k p number (EndsWith reply) r v images s clock blocks notes io e h rest =
      ap (settle m k) e ∙ settle_rests m k v images s clock blocks notes io ∙ sym e
  settle_after n k p number (Fails refusal) r v images s clock blocks notes io e h rest =
      ap (settle m k) e ∙ settle_rests m k v images s clock blocks notes io ∙ sym e

  -- settling a call that is alone in flight does its pieces
  settle_pieces : (n k p number : ℕ) (t : Stage) (v : World) (images : ImageTable) (s : Objects)
      (clock : ℕ) (blocks : Blocks) (notes : List Note) (io : List Bool) →
      n ≤ k → GoesToItsEnd n p number t (at_rest v images s clock blocks notes io) →
      settle m k (begins_alone p number t (at_rest v images s clock blocks notes io))
      ≡ pieces_from n p number t (at_rest v images s clock blocks notes io)
  settle_pieces zero k p number t v images s clock blocks notes io le h = absurd h
  settle_pieces (suc n) zero p number t v images s clock blocks notes io le h =
      absurd (not_below n le)
    where
      not_below : (n : ℕ) → suc n ≤ 0 → ⊥
      not_below n le = omega arith
  settle_pieces (suc n) (suc k) p number t v images s clock blocks notes io le h =
      let r = at_rest v images s clock blocks notes io in
      let q = m.piece v images s blocks p t None io in
      let l = left_by number q r in
      settle_alone m k p number t v images s clock blocks notes io h.0 h.1
      ∙ settle_after n k p number q.after l v images q.objects clock q.blocks l.notes l.io refl
      (λ u g. settle_pieces n k p number u v images q.objects clock q.blocks l.notes l.io
      (omega arith) g) h.2

  -- pieces change only the objects of the kernel
  kept_by_pieces : (n p number : ℕ) (t : Stage) (r : Run) →
      (pieces_from n p number t r).kernel
      ≡ record (r.kernel) { objects = (pieces_from n p number t r).kernel.objects }
  kept_by_pieces zero p number t r = refl
  kept_by_pieces (suc n) p number t r =
      kept_after number (next_piece p t r).after r (next_piece p t r)
      (λ u. pieces_from n p number u (left_by number (next_piece p t r) r))
      (λ u. kept_by_pieces n p number u (left_by number (next_piece p t r) r))
    where
      kept_after : (number : ℕ) (a : After) (r : Run) (q : Piece) (f : Stage → Run) →
          ((u : Stage) → (f u).kernel ≡ record (r.kernel) { objects = (f u).kernel.objects }) →
          let x : Run = elim a as (λ _. Run) [
            | Continues u ↦ f u
            | EndsWith reply ↦ left_by number q r
            | Fails refusal ↦ left_by number q r
          ] in
          x.kernel ≡ record (r.kernel) { objects = x.kernel.objects }
      kept_after number (Continues u) r q f h = h u
      kept_after number (EndsWith reply) r q f h = refl
      kept_after number (Fails refusal) r q f h = refl

  -- if no call of p is in flight, nothing more is written about it
  none_last : (p : ℕ) (r : Run) (k : Kernel) → r.kernel ≡ k → k.call p ≡ None → last m p r ≡ r
  none_last p r k e h = ap (λ c. last_note m p c r) (ap (λ (l : Kernel). l.call p) e ∙ h)

  -- If no call is in flight, the event of a call that goes to its end in at most n pieces is these
  -- pieces. This needs no law of the table.
  pub event_of_pieces : (n p number : ℕ) (c : SysCall) (t : Stage) (v : World) (images : ImageTable)
      (s : Objects) (clock : ℕ) (blocks : Blocks) (io : List Bool) →
      lives s.things.queue p ≡ true → m.early v images p c ≡ Ok t → n ≤ 256 →
      GoesToItsEnd n p number t (at_rest v images s clock blocks [] io) →
      event m (quiet v images s clock) blocks number (Sys p c) io
      ≡ pieces_from n p number t (at_rest v images s clock blocks [] io)
  event_of_pieces n p number c t v images s clock blocks io alive granted le h =
      let r = at_rest v images s clock blocks [] io in
      let x = pieces_from n p number t r in
      granted_alone m p number c t v images s clock blocks io alive granted
      ∙ ap (last m p) (settle_pieces n 256 p number t v images s clock blocks [] io le h)
      ∙ none_last p x (quiet v images x.kernel.objects clock) (kept_by_pieces n p number t r) refl

  -- ---- if the laws hold

  -- a call of p may go on alone: it is at its stage, the state and the disk are sound, and no graft
  -- is installed
  pub record MayGoOn (v : World) (images : ImageTable) (s : Objects) (blocks : Blocks) (p : ℕ)
      (t : Stage) : Type 0 where
    pub ready : IsReady m v images s p t None
    pub whole : HasWholeBlocks v blocks
    pub no_graft : HasNoGraft s

  -- if a point had no graft and got no new one, it has none
  still_none : (s u : Objects) (q pt : ℕ) → s.accounts.graft q pt ≡ None →
      is_new_graft s u q pt ≡ false → u.accounts.graft q pt ≡ None
  still_none s u q pt none h =
      none_by (u.accounts.graft q pt)
      (ap (λ x. not (is_some x) && is_some (u.accounts.graft q pt)) (sym none) ∙ h)
    where
      none_by : (x : Option GraftValue) → is_some x ≡ false → x ≡ None
      none_by None h = refl
      none_by (Some g) h = absurd cc

  -- a piece that isn't the last installs no graft
  no_new_graft : (laws : Laws m) (p : ℕ) (t u : Stage) (v : World) (images : ImageTable)
      (s : Objects) (blocks : Blocks) (io : List Bool) (q pt : ℕ) →
      IsReady m v images s p t None → (m.piece v images s blocks p t None io).after ≡ Continues u →
      is_new_graft s (m.piece v images s blocks p t None io).objects q pt ≡ false
  no_new_graft laws p t u v images s blocks io q pt h e =
      elim (cases_Bool (is_new_graft s (m.piece v images s blocks p t None io).objects q pt)) [
        | inl new ↦ absurd (contrary (sym (ap continues e)
            ∙ laws.piece.graft_ends v images s blocks p t None io q pt h new))
        | inr old ↦ old
      ]
    where
      contrary : true ≡ false → ⊥
      contrary h = cc

  -- after a piece that isn't the last, the call may go on alone
  goes_on_after : (laws : Laws m) (p : ℕ) (t u : Stage) (v : World) (images : ImageTable)
      (s : Objects) (blocks : Blocks) (io : List Bool) →
      MayGoOn v images s blocks p t →
      let q = m.piece v images s blocks p t None io in
      q.after ≡ Continues u → MayGoOn v images q.objects q.blocks p u
  goes_on_after laws p t u v images s blocks io h e =
      let q = m.piece v images s blocks p t None io in
      let same : u.call ≡ t.call =
      laws.stages.same_call_next v images s blocks p t u None io h.ready e in
      record {
        ready = record {
          standing = record {
            store = laws.piece.store v images s blocks p t None io h.ready h.whole;
            caller = laws.piece.caller_lives v images s blocks p t None io h.ready (ap continues e);
            granted = ap (λ c. is_ok (m.early v images p c)) same ∙ h.ready.standing.granted;
            fits = laws.stages.next v images s blocks p t u None io h.ready e;
          };
          disk = laws.piece.disk v images s blocks p t None io h.ready;
          right = tt;
          body = tt;
        };
        whole = laws.piece.whole_blocks v images s blocks p t None io h.ready h.whole;
        no_graft = λ r pt. still_none s q.objects r pt (h.no_graft r pt)
            (no_new_graft laws p t u v images s blocks io r pt h.ready e);
      }

  -- after a piece, what is left goes to its end too
  ends_after : (n p number : ℕ) (a : After) (l : Run) →
      ((u : Stage) → a ≡ Continues u → GoesToItsEnd n p number u l) →
      elim a as (λ _. Type 0) [
        | Continues u ↦ GoesToItsEnd n p number u l
        | EndsWith reply ↦ ⊤
        | Fails refusal ↦ ⊤
      ]
  ends_after n p number (Continues u) l h = h u refl
  ends_after n p number (EndsWith reply) l h = tt
  ends_after n p number (Fails refusal) l h = tt

  -- and the pieces that are left are free too
  free_after : (n p number : ℕ) (a : After) (u : Stage) (l : Run) → a ≡ Continues u →
      elim a as (λ _. Bool) [
        | Continues w ↦ are_free n p number w l
        | EndsWith reply ↦ true
        | Fails refusal ↦ true
      ] ≡ true → are_free n p number u l ≡ true
  free_after n p number a u l e h =
      ap (λ (x : After). elim x as (λ _. Bool) [
        | Continues w ↦ are_free n p number w l
        | EndsWith reply ↦ true
        | Fails refusal ↦ true
      ]) (sym e) ∙ h

  -- a call whose pieces are free goes to its end in as many pieces as are left
  pub goes_to_its_end : (laws : Laws m) (n p number : ℕ) (t : Stage) (v : World)
      (images : ImageTable) (s : Objects) (clock : ℕ) (blocks : Blocks) (notes : List Note)
      (io : List Bool) →
      MayGoOn v images s blocks p t → m.left v s p t ≤ n →
      are_free n p number t (at_rest v images s clock blocks notes io) ≡ true →
      GoesToItsEnd n p number t (at_rest v images s clock blocks notes io)
  goes_to_its_end laws zero p number t v images s clock blocks notes io h le free =
      absurd (omega (arith, (laws.stages.some_left v images s p t h.ready.standing).0))
  goes_to_its_end laws (suc n) p number t v images s clock blocks notes io h le free =
      let r = at_rest v images s clock blocks notes io in
      let q = m.piece v images s blocks p t None io in
      let l = left_by number q r in
      let both = both_hold (is_free p t r)
      (elim q.after as (λ _. Bool) [
        | Continues u ↦ are_free n p number u l
        | EndsWith reply ↦ true
        | Fails refusal ↦ true
      ]) free in (
        h.no_graft,
        both.0,
        ends_after n p number q.after l
            (λ u e. let less = laws.stages.left_falls v images s blocks p t u None io h.ready e in
            goes_to_its_end laws n p number u v images q.objects clock q.blocks l.notes l.io
            (goes_on_after laws p t u v images s blocks io h e) (omega arith)
            (free_after n p number q.after u l e both.1)),
      )

-- ---- statements

-- a call takes a user lock
abbrev pub is_lock : SysCall → Bool
is_lock (TakeLock u) = true
is_lock c = false

-- a call that is granted may begin alone: the state and the disk are sound, its process lives, and
-- no graft is installed
pub record BeginsAlone (m : Meaning) (v : World) (images : ImageTable) (s : Objects)
    (blocks : Blocks) (p : ℕ) (c : SysCall) (t : Stage) : Type 0 where
  pub store : IsSoundStore v s
  pub disk : FitsDisk v s.things.cache
  pub whole : HasWholeBlocks v blocks
  pub no_graft : HasNoGraft s
  pub caller : lives s.things.queue p ≡ true
  pub granted : m.early v images p c ≡ Ok t

-- If no call is in flight, no graft is installed and no user lock of another process hinders its
-- pieces, a call runs to its end at its own event: piece after piece, with the default answers, in
-- as many pieces as are left.
abbrev pub CallsRunAlone : Meaning → Type 0
CallsRunAlone m =
    (n p number : ℕ) (c : SysCall) (t : Stage) (v : World) (images : ImageTable) (s : Objects)
    (clock : ℕ) (blocks : Blocks) (io : List Bool) →
    BeginsAlone m v images s blocks p c t → m.left v s p t ≤ n → n ≤ 256 →
    are_free m n p number t (at_rest v images s clock blocks [] io) ≡ true →
    event m (quiet v images s clock) blocks number (Sys p c) io
    ≡ pieces_from m n p number t (at_rest v images s clock blocks [] io)

-- no user lock hinders a call other than `lock`
abbrev pub OthersAreFree : Meaning → Type 0
OthersAreFree m =
    (n p number : ℕ) (c : SysCall) (t : Stage) (v : World) (images : ImageTable) (s : Objects)
    (clock : ℕ) (blocks : Blocks) (io : List Bool) →
    BeginsAlone m v images s blocks p c t → is_lock c ≡ false →
    are_free m n p number t (at_rest v images s clock blocks [] io) ≡ true

-- a note of bytes that the call of this number gave
abbrev pub is_gift : ℕ → Note → Bool
is_gift number (Gave n bytes) = n == number
is_gift number _ = false

-- the note of the end of the call of this number
abbrev pub is_end : ℕ → Note → Bool
is_end number (Ended n reply) = n == number
is_end number (Refused n refusal) = n == number
is_end number _ = false

-- the notes of the whole call of this number: the bytes that it gave, and then its end
abbrev pub is_whole_call : ℕ → List Note → Bool
is_whole_call number [] = false
is_whole_call number (a ∷ []) = is_end number a
is_whole_call number (a ∷ b ∷ notes) = is_gift number a && is_whole_call number (b ∷ notes)

-- A call that runs alone leaves no call in flight and nothing in the order, and writes only lines
-- of its own, up to its end: no `waits` and no `graft` line.
abbrev pub NothingIsLeft : Meaning → Type 0
NothingIsLeft m =
    (n p number : ℕ) (c : SysCall) (t : Stage) (v : World) (images : ImageTable) (s : Objects)
    (clock : ℕ) (blocks : Blocks) (io : List Bool) →
    BeginsAlone m v images s blocks p c t → m.left v s p t ≤ n → n ≤ 256 →
    are_free m n p number t (at_rest v images s clock blocks [] io) ≡ true →
    let r = event m (quiet v images s clock) blocks number (Sys p c) io in
    (r.kernel ≡ quiet v images r.kernel.objects clock) × (is_whole_call number r.notes ≡ true)

-- ---- their proofs

-- a call that may begin alone may go on alone
may_begin : (m : Meaning) (laws : Laws m) (v : World) (images : ImageTable) (s : Objects)
    (blocks : Blocks) (p : ℕ) (c : SysCall) (t : Stage) →
    BeginsAlone m v images s blocks p c t → MayGoOn m v images s blocks p t
may_begin m laws v images s blocks p c t h =
    record {
      ready = record {
        standing = record {
          store = h.store;
          caller = h.caller;
          granted = ap (λ x. is_ok (m.early v images p x))
              (laws.stages.same_call v images p c t h.granted) ∙ ap is_ok h.granted;
          fits = laws.stages.first v images s p c t h.granted;
        };
        disk = h.disk;
        right = tt;
        body = tt;
      };
      whole = h.whole;
      no_graft = h.no_graft;
    }

-- a call whose pieces are free runs piece after piece
pub calls_run_alone : (m : Meaning) → Laws m → CallsRunAlone m
calls_run_alone m laws n p number c t v images s clock blocks io h left most free =
    event_of_pieces m n p number c t v images s clock blocks io h.caller h.granted most
    (goes_to_its_end m laws n p number t v images s clock blocks [] io
    (may_begin m laws v images s blocks p c t h) left free)

-- no user lock hinders needs if none of them is for a user lock
each_free : (users : ℕ → Option ℕ) (p : ℕ) (ns : List Need) →
    ((x : Need) → Contains ns x → x.by_user ≡ false) → is_unhindered users p ns ≡ true
each_free users p [] h = refl
each_free users p (x ∷ ns) h =
    ap (λ b. not (b && is_others p (user_of users x.object))
    && is_unhindered users p ns) (h x (0, below_suc (length ns), refl))
    ∙ each_free users p ns (λ y c. h y (Contains-append_right (x ∷ []) ns y c))
  where
    below_suc : (n : ℕ) → 0 < suc n
    below_suc n = omega arith

-- a call other than `lock` waits for no user lock
no_lock_waits : (c : SysCall) (o : Object) → is_lock c ≡ false → waits_for_user c o ≡ false
no_lock_waits (TakeLock u) o h = absurd cc
no_lock_waits c o h = refl

-- so its pieces are free
free_pieces : (m : Meaning) (laws : Laws m) (n p number : ℕ) (t : Stage) (v : World)
    (images : ImageTable) (s : Objects) (clock : ℕ) (blocks : Blocks) (notes : List Note)
    (io : List Bool) →
    MayGoOn m v images s blocks p t → is_lock t.call ≡ false →
    are_free m n p number t (at_rest v images s clock blocks notes io) ≡ true
free_pieces m laws zero p number t v images s clock blocks notes io h other = refl
free_pieces m laws (suc n) p number t v images s clock blocks notes io h other =
    let q = m.piece v images s blocks p t None io in
    let l = left_by number q (at_rest v images s clock blocks notes io) in
    both_free (is_free m p t (at_rest v images s clock blocks notes io)) q.after l
    (each_free s.things.lock p (m.need v s p t)
    (λ x c. laws.need.user v s p t x h.ready.standing.fits c ∙ no_lock_waits t.call x.object other))
    (λ u e. free_pieces m laws n p number u v images q.objects clock q.blocks l.notes l.io
    (goes_on_after m laws p t u v images s blocks io h e)
    (ap is_lock (laws.stages.same_call_next v images s blocks p t u None io h.ready e) ∙ other))
  where
    both_free : (b : Bool) (a : After) (l : Run) → b ≡ true →
        ((u : Stage) → a ≡ Continues u → are_free m n p number u l ≡ true) →
        (b && elim a as (λ _. Bool) [
          | Continues u ↦ are_free m n p number u l
          | EndsWith reply ↦ true
          | Fails refusal ↦ true
        ]) ≡ true
    both_free b (Continues u) l e h = ap (λ x. x && are_free m n p number u l) e ∙ h u refl
    both_free b (EndsWith reply) l e h = ap (λ x. x && true) e
    both_free b (Fails refusal) l e h = ap (λ x. x && true) e

-- no user lock hinders a call other than `lock`
pub others_are_free : (m : Meaning) → Laws m → OthersAreFree m
others_are_free m laws n p number c t v images s clock blocks io h other =
    free_pieces m laws n p number t v images s clock blocks [] io
    (may_begin m laws v images s blocks p c t h)
    (ap is_lock (laws.stages.same_call v images p c t h.granted) ∙ other)

-- gifts and then a whole call make a whole call
gifts_before : (number : ℕ) (gifts : List Note) (b : Note) (notes : List Note) →
    list_all (is_gift number) gifts ≡ true →
    is_whole_call number (b ∷ notes) ≡ true → is_whole_call number (gifts ++ b ∷ notes) ≡ true
gifts_before number [] b notes h whole = whole
gifts_before number (a ∷ []) b notes h whole =
    ap (λ x. x && is_whole_call number (b ∷ notes)) (both_hold (is_gift number a) true h).0 ∙ whole
gifts_before number (a ∷ c ∷ gifts) b notes h whole =
    let both = both_hold (is_gift number a) (list_all (is_gift number) (c ∷ gifts)) h in
    ap (λ x. x && is_whole_call number (c ∷ gifts ++ b ∷ notes)) both.0
    ∙ gifts_before number (c ∷ gifts) b notes both.1 whole

-- what a piece gives is a gift
gift_note : (number : ℕ) (gave : Option (List ℕ)) →
    list_all (is_gift number) (gave_note number gave) ≡ true
gift_note number None = refl
gift_note number (Some bytes) = ap (λ b. b && true) (nat_eq_equiv.refl number)

-- gifts and more gifts are gifts
more_gifts : (number : ℕ) (gifts more : List Note) → list_all (is_gift number) gifts ≡ true →
    list_all (is_gift number) more ≡ true →
    list_all (is_gift number) (gifts ++ more) ≡ true
more_gifts number [] more h k = k
more_gifts number (a ∷ gifts) more h k =
    let both = both_hold (is_gift number a) (list_all (is_gift number) gifts) h in
    ap (λ b. b && list_all (is_gift number) (gifts ++ more)) both.0
    ∙ more_gifts number gifts more both.1 k

-- gifts, more gifts and then the note of the end make a whole call
last_note_of : (number : ℕ) (gifts given : List Note) (b : Note) (ends : List Note) →
    list_all (is_gift number) gifts ≡ true →
    list_all (is_gift number) given ≡ true → ends ≡ b ∷ [] → is_end number b ≡ true →
    is_whole_call number (gifts ++ given ++ ends) ≡ true
last_note_of number gifts given b ends h k e end =
    ap (λ xs. is_whole_call number (gifts ++ given ++ xs)) e
    ∙ gifts_before number (gifts ++ given) b [] (more_gifts number gifts given h k) end

module _ (m : Meaning) where
  -- a piece and what comes after it write a whole call, if the pieces after it do
  whole_after : (n p number : ℕ) (r : Run) (q : Piece) (a : After) → q.after ≡ a →
      list_all (is_gift number) r.notes ≡ true →
      ((u : Stage) → GoesToItsEnd m n p number u (left_by number q r) →
      list_all (is_gift number) (left_by number q r).notes ≡ true →
      is_whole_call number (pieces_from m n p number u (left_by number q r)).notes ≡ true) →
      elim a as (λ _. Type 0) [
        | Continues u ↦ GoesToItsEnd m n p number u (left_by number q r)
        | EndsWith reply ↦ ⊤
        | Fails refusal ↦ ⊤
      ] →
      let x : Run = elim a as (λ _. Run) [
        | Continues u ↦ pieces_from m n p number u (left_by number q r)
        | EndsWith reply ↦ left_by number q r
        | Fails refusal ↦ left_by number q r
      ] in
      is_whole_call number x.notes ≡ true
  whole_after n p number r q (Continues u) e gifts h rest =
      h u rest (more_gifts number (r.notes ++ gave_note number q.gave) (after_note number q.after)
      (more_gifts number r.notes (gave_note number q.gave) gifts (gift_note number q.gave))
      (ap (λ x. list_all (is_gift number) (after_note number x)) e))
  whole_after n p number r q (EndsWith reply) e gifts h rest =
      last_note_of number r.notes (gave_note number q.gave) (Ended number reply)
      (after_note number q.after) gifts (gift_note number q.gave)
      (ap (after_note number) e) (nat_eq_equiv.refl number)
  whole_after n p number r q (Fails refusal) e gifts h rest =
      last_note_of number r.notes (gave_note number q.gave) (Refused number refusal)
      (after_note number q.after) gifts (gift_note number q.gave)
      (ap (after_note number) e) (nat_eq_equiv.refl number)

  -- pieces that go to their end write a whole call
  pub whole_pieces : (n p number : ℕ) (t : Stage) (r : Run) → GoesToItsEnd m n p number t r →
      list_all (is_gift number) r.notes ≡ true →
      is_whole_call number (pieces_from m n p number t r).notes ≡ true
  whole_pieces zero p number t r h gifts = absurd h
  whole_pieces (suc n) p number t r h gifts =
      let q = next_piece m p t r in
      whole_after n p number r q q.after refl gifts
      (λ u g k. whole_pieces n p number u (left_by number q r) g k) h.2

-- a call that runs alone leaves nothing in flight and writes only its own notes
pub nothing_is_left : (m : Meaning) → Laws m → NothingIsLeft m
nothing_is_left m laws n p number c t v images s clock blocks io h left most free =
    let r = at_rest v images s clock blocks [] io in
    let same = calls_run_alone m laws n p number c t v images s clock blocks io h left most free in
    let end = goes_to_its_end m laws n p number t v images s clock blocks [] io
    (may_begin m laws v images s blocks p c t h) left free in (
      subst (λ (x : Run). x.kernel ≡ quiet v images x.kernel.objects clock) (sym same)
          (kept_by_pieces m n p number t r),
      ap (λ (x : Run). is_whole_call number x.notes) same ∙ whole_pieces m n p number t r end refl,
    )
