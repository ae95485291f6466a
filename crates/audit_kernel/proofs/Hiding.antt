-- A call that steps is out of its place meanwhile: what a step makes of a run doesn't depend on the
-- call that stood there.
use Rattle.std.proofs.Common.{◌≡◌, ℕ, ◌==◌, Bool, true, false, cond, List, [], ◌++◌, drop, Option, Some, None, is_some, refl, ap, ◌∙◌, sym, arith}
use Rattle.std.proofs.Math.Path.{fun_ext}
use Rattle.std.proofs.lemmas.Bool.Decides.{nat_tests}
use Rattle.kernel_model.specs.declared.Point.{Point}
use Rattle.kernel_model.specs.Objects.{Objects, GraftValue, at}
use Rattle.kernel_model.specs.Meaning.{Piece, Answer}
use Rattle.kernel_model.specs.History.{Mark}
use Rattle.kernel_model.specs.AllCalls.{all_calls}
use Rattle.kernel_model.specs.Kernel.{Run, Call, finish, with_call, with_marks, gave_note, after_note, call_after}
use Rattle.kernel_model.specs.Settle.{finish_on, piece_at, piece_step}
use Rattle.audit_kernel.specs.Asked.{is_grafted}

-- one place changed twice
pub at_twice : {A : Type 0} (p : ℕ) (c d : A) (f : ℕ → A) → at p c (at p d f) ≡ at p c f
at_twice {A = A} p c d f = fun_ext (λ q. by (q == p) (f q))
  where
    by : (b : Bool) (x : A) → cond b c (cond b d x) ≡ cond b c x
    by true x = refl
    by false x = refl

-- a place gets back what it had
pub put_back : {A : Type 0} (p : ℕ) (c : A) (f g : ℕ → A) → f p ≡ c →
    ((q : ℕ) → (q == p) ≡ false → g q ≡ f q) → at p c g ≡ f
put_back p c f g had others = fun_ext (λ q. go q (q == p) refl)
  where
    go : (q : ℕ) (b : Bool) → (q == p) ≡ b → cond (q == p) c (g q) ≡ f q
    go q true h =
        let same : p ≡ q = grind (arith, nat_tests, h) in
        ap (λ (b : Bool). cond b c (g q)) h ∙ sym had ∙ ap f same
    go q false h = ap (λ (b : Bool). cond b c (g q)) h ∙ others q h

-- a piece that is committed
pub finish_hides : (p : ℕ) (c : Call) (q : Piece) (d : Option Call) (r : Run) →
    finish p c q (with_call p d r) ≡ finish p c q r
finish_hides p c q d r =
    ap (λ (f : ℕ → Option Call). let s : Run = record {
      kernel = record (r.kernel) { objects = q.objects; call = f };
      blocks = q.blocks;
      notes = r.notes ++ gave_note c.number q.gave ++ after_note c.number q.after;
      io = drop q.calls r.io;
    } in s) (at_twice p (call_after c q.after) d r.kernel.call)

-- a piece with an answer or by default
pub finish_on_hides : (p : ℕ) (c : Call) (s : Objects) (a : Option Answer) (d : Option Call) (r : Run) →
    finish_on all_calls p c s a (with_call p d r) ≡ finish_on all_calls p c s a r
finish_on_hides p c s a d r =
    finish_hides p c
    (all_calls.piece r.kernel.world r.kernel.images s r.blocks p c.stage a r.io) d r

-- a history
pub marks_hide : (p : ℕ) (c : Call) (ks : List Mark) (d : Option Call) (r : Run) →
    with_marks p c ks (with_call p d r) ≡ with_marks p c ks r
marks_hide p c ks d r =
    ap (λ (f : ℕ → Option Call). let s : Run = record r { kernel = record (r.kernel) { call = f } } in s)
    (at_twice p (Some (record c { marks = Some ks })) d r.kernel.call)

-- a piece, by the graft at its point
pub piece_at_hides : (p : ℕ) (c : Call) (g : Option GraftValue) (d : Option Call) (r : Run) →
    piece_at all_calls p c g (with_call p d r) ≡ piece_at all_calls p c g r
piece_at_hides p c None d r = finish_on_hides p c r.kernel.objects None d r
piece_at_hides p c (Some g) d r = marks_hide p c [] d r

-- a piece, by the point that it asks
pub piece_hides : (p : ℕ) (c : Call) (a : Option Point) (d : Option Call) (r : Run) →
    piece_step all_calls p c a (with_call p d r) ≡ piece_step all_calls p c a r
piece_hides p c None d r = piece_at_hides p c None d r
piece_hides p c (Some a) d r =
    piece_at_hides p c (r.kernel.objects.accounts.graft a.installer a.point) d r

-- where no graft stands at its point, the default finishes the piece
pub by_default : (p : ℕ) (c : Call) (a : Option Point) (r : Run) → is_grafted r.kernel.objects a ≡ false →
    finish_on all_calls p c r.kernel.objects None r ≡ piece_step all_calls p c a r
by_default p c None r h = refl
by_default p c (Some a) r h = by (r.kernel.objects.accounts.graft a.installer a.point) h
  where
    by : (g : Option GraftValue) → is_some g ≡ false →
        finish_on all_calls p c r.kernel.objects None r ≡ piece_at all_calls p c g r
    by None h = refl
    by (Some g) h = absurd (grind (arith, h))

-- where one does, a history begins
pub by_graft : (p : ℕ) (c : Call) (a : Option Point) (r : Run) → is_grafted r.kernel.objects a ≡ true →
    with_marks p c [] r ≡ piece_step all_calls p c a r
by_graft p c None r h = absurd (grind (arith, h))
by_graft p c (Some a) r h = by (r.kernel.objects.accounts.graft a.installer a.point) h
  where
    by : (g : Option GraftValue) → is_some g ≡ true → with_marks p c [] r ≡ piece_at all_calls p c g r
    by None h = absurd (grind (arith, h))
    by (Some g) h = refl
