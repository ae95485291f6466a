-- A count of kernels that an event raises by at most one stays within the events of a session.
use Rattle.std.specs.Prelude.{◌≡◌, ℕ, suc, ◌≤◌, nat_lt, Bool, true, false, List, codes, Option}
use Rattle.std.specs.Prelude.{Some, None, Result, Ok, Err, ⊤}
use Rattle.std.proofs.Common.{arith, refl}
use Rattle.script_model.specs.declared.Event.{Event}
use Rattle.script_model.specs.declared.Keys.{Keys}
use Rattle.script_model.specs.World.{World, Image, Blocks}
use Rattle.script_model.specs.Images.{LoadFault}
use Rattle.script_model.specs.Kernel.{Kernel}
use Rattle.script_model.specs.Events.{event}
use Rattle.script_model.specs.Meaning.{Meaning}
use Rattle.script_model.specs.Opening.{opening_kernel}
use Rattle.script_model.specs.Session.{Build, Session, after_line}
use Rattle.script_model.specs.ImageLines.{add_image, image_added, image_answer}
use Rattle.session_laws.proofs.LineLemmas.{Holds, GoesOnFrom, line_holds}

-- a count that is 0 at boot, and that an image leaves
pub record IsEventCount (f : Kernel → ℕ) : Type 0 where
  pub opens : (v : World) → f (opening_kernel v) ≡ 0
  pub images : (slot : ℕ) (i : Image) (k : Kernel) → f (add_image slot i k) ≡ f k

module _ (f : Kernel → ℕ) where
  -- a kernel's count is at most so many events
  abbrev Within : ℕ → Kernel → Type 0
  Within n k = f k ≤ n

  -- the same, if there is a kernel
  abbrev pub WithinEvents : ℕ → Option Kernel → Type 0
  WithinEvents = Holds Within

  -- that of a session is
  abbrev pub IsWithin : Session → Type 0
  IsWithin s = WithinEvents s.events s.kernel

  -- the next event raises it by at most one
  abbrev pub RaisesByOne : Meaning → ℕ → Blocks → Option Kernel → Type 0
  RaisesByOne m n blocks None = ⊤
  RaisesByOne m n blocks (Some k) =
      (e : Event) (io : List Bool) → f (event m k blocks (suc n) e io).kernel ≤ suc (f k)

  -- an image line leaves the count
  pub image_leaves : IsEventCount f → (slot : ℕ) (x : Result Image LoadFault) (k : Kernel) →
      f (image_answer slot x k).0 ≡ f k
  image_leaves count slot x k = by_slot (nat_lt 31 slot)
    where
      by_image : (x : Result Image LoadFault) → f (image_added slot x k).0 ≡ f k
      by_image (Err fault) = refl
      by_image (Ok i) = count.images slot i k

      by_free : (y : Option Image) →
          f (elim y as (λ _. Kernel × List ℕ)
          [ Some i ↦ (k, codes "E10") | None ↦ image_added slot x k ]).0 ≡ f k
      by_free None = by_image x
      by_free (Some i) = refl

      by_slot : (high : Bool) →
          f (elim high as (λ _. Kernel × List ℕ) [
            | true ↦ (k, codes "E8")
            | false ↦ elim (k.images slot) as
                (λ _. Kernel × List ℕ) [ Some i ↦ (k, codes "E10") | None ↦ image_added slot x k ]
          ]).0 ≡ f k
      by_slot true = refl
      by_slot false = by_free (k.images slot)

  -- it stays within the events
  goes_on : IsEventCount f → (m : Meaning) (n : ℕ) (blocks : Blocks) (x : Option Kernel) →
      RaisesByOne m n blocks x → WithinEvents n x → GoesOnFrom Within m n blocks x
  goes_on count m n blocks None raises h = tt
  goes_on count m n blocks (Some k) raises h =
      record {
        same = one_more (f k) n h;
        images = λ slot i free. as_many (f (add_image slot i k)) (f k) n (count.images slot i k) h;
        events = λ e io. raised (f (event m k blocks (suc n) e io).kernel) (f k) n (raises e io) h;
      }
    where
      one_more : (c n : ℕ) → c ≤ n → c ≤ suc n
      one_more c n h = omega arith

      as_many : (x c n : ℕ) → x ≡ c → c ≤ n → x ≤ suc n
      as_many x c n e h = omega arith

      raised : (x c n : ℕ) → x ≤ suc c → c ≤ n → x ≤ suc n
      raised x c n e h = omega arith

  -- a line of a session whose next event raises the count by at most one
  pub line_within : IsEventCount f → (b : Build) (keys : Keys) (size : ℕ) (s : Session)
      (text : List ℕ) (io : List Bool) →
      RaisesByOne b.meaning s.events s.blocks s.kernel → IsWithin s →
      IsWithin (after_line b keys size s text io).session
  line_within count b keys size s text io raises h =
      line_holds Within opens b keys size s text io
      (goes_on count b.meaning s.events s.blocks s.kernel raises h) h
    where
      opens : (n : ℕ) (v : World) → f (opening_kernel v) ≤ n
      opens n v = none (f (opening_kernel v)) n (count.opens v)
        where
          none : (x n : ℕ) → x ≡ 0 → x ≤ n
          none x n e = omega arith
