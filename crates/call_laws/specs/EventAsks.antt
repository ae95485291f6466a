-- The table of event points meets the laws of the points that pieces ask.
use Rattle.std.specs.Prelude.{◌≡◌, ℕ, zero, suc, ◌<◌, ◌^◌, true, List, [], ◌∷◌, length, slice_index, Option, Some, None}
use Rattle.std.proofs.Common.{arith, refl, sym, subst, ◌∙◌}
use Rattle.kernel_model.specs.declared.Point.{Point}
use Rattle.kernel_model.specs.declared.SysCall.{SysCall}
use Rattle.kernel_model.specs.declared.SysCall.TheVariants.{Serve}
use Rattle.kernel_model.specs.World.{World, ImageTable}
use Rattle.kernel_model.specs.Policies.{PointKind, kind_of}
use Rattle.kernel_model.specs.Laws.{AskLaws, IsRightPoint, SameKindOfPoint, SameAheadAsk}
use Rattle.kernel_model.specs.EventPoints.{event_ask, event_fits, event_points}
use Rattle.call_laws.specs.EventGranted.{IsBegun, serve_begun, stage_of, handler_stands}
use Rattle.call_laws.specs.EventNeeds.{asked_alone}

-- four words
words_of_four : (a b c : ℕ) → a < 2 ^ 32 → b < 2 ^ 32 → c < 2 ^ 32 → (i : ℕ) →
    slice_index (a ∷ b ∷ c ∷ 0 ∷ []) i < 2 ^ 32
words_of_four a b c l m n zero = l
words_of_four a b c l m n (suc zero) = m
words_of_four a b c l m n (suc (suc zero)) = n
words_of_four a b c l m n (suc (suc (suc zero))) = omega arith
words_of_four a b c l m n (suc (suc (suc (suc i)))) = omega arith

-- the point of a handler: its numbers are in their ranges, and its arguments are words
asked_right : (c : SysCall) (n : ℕ) (hs : List (ℕ × ℕ)) (answers : ℕ) (bytes : List ℕ) (v : World)
    (images : ImageTable) (p : ℕ) (a : Point) → p < 16 → IsBegun v images p c →
    event_fits c (stage_of c n hs answers bytes) ≡ true → event_ask c n hs p ≡ Some a →
    IsRightPoint a
asked_right (Serve port event) zero hs answers bytes v images p a low begun fits e = cc
asked_right (Serve port event) (suc n) [] answers bytes v images p a low begun fits e = cc
asked_right (Serve port event) (suc n) (h ∷ hs) answers bytes v images p a low begun fits e =
    let k = handler_stands port n h hs answers fits in
    let l = k.low in
    let at = k.point in
    let few = (serve_begun v images p port event begun).1 in
    let same : record {
      installer = h.0;
      point = h.1;
      args = port ∷ length event ∷ p ∷ 0 ∷ [];
    } ≡ a = cc in
    subst IsRightPoint same (record {
      graft = (k.process, omega arith);
      four = refl;
      words = words_of_four port (length event) p (omega arith) (omega arith) (omega arith);
    })
asked_right c n hs answers bytes v images p a low begun fits e = cc

-- a point is of its own kind
same_kind : (a : Option Point) → SameKindOfPoint a a
same_kind None = tt
same_kind (Some a) = refl

-- and is the same ask as itself
same_ask : (kind : PointKind) (a : Point) → SameAheadAsk kind a a
same_ask PointKind.Ahead a = (refl, refl, refl, refl, refl)
same_ask PointKind.Victim a = tt
same_ask PointKind.Next a = tt
same_ask PointKind.Serve a = refl
same_ask PointKind.Stream a = refl

-- as is another that is asked for the same reason
both_ask : (ask : Option Point) (a b : Point) → ask ≡ Some a → ask ≡ Some b →
    SameAheadAsk (kind_of a.point) a b
both_ask ask a b e f =
    let both : Some a ≡ Some b = sym e ∙ f in
    let same : a ≡ b = cc in
    subst (λ (x : Point). SameAheadAsk (kind_of a.point) a x) same (same_ask (kind_of a.point) a)

-- the laws of asked points hold of event points
pub asks_of_events : AskLaws event_points
asks_of_events =
    record {
      looks = λ v s u p t h k a. refl;
      ranges = λ v images s p t a h e.
          asked_right t.call t.piece t.handlers t.answers t.bytes v images p a
          (h.store.numbers p h.caller) h.granted h.fits e;
      alike = λ v s u p t h a. same_kind (event_ask t.call t.piece t.handlers p);
      alike_before = λ v s u p t a b h k e f.
          asked_alone t.call t.piece t.handlers s p a e
          ∙ sym (asked_alone t.call t.piece t.handlers u p b f);
      alike_ahead = λ v s u p t a b h k e f.
          both_ask (event_ask t.call t.piece t.handlers p) a b e f;
    }
