-- What a call is that was granted.
use Rattle.std.proofs.Common.{◌≡◌, ℕ, ◌+◌, ◌<◌, ◌≤◌, ◌==◌, ◌||◌, not, Bool, true, false, nat_lt}
use Rattle.std.proofs.Common.{nat_le, List, length, Option, Some, None, refl, arith, subst, ap}
use Rattle.std.specs.Option.{is_some}
use Rattle.std.specs.Result.{is_ok}
use Rattle.std.proofs.lemmas.Bool.Decides.{nat_tests}
use Rattle.kernel_model.specs.declared.SysCall.{SysCall}
use Rattle.kernel_model.specs.declared.Kind.{Kind}
use Rattle.kernel_model.specs.declared.SysCall.TheVariants.{Exit, CloseFd, Read, Write, TakeLock}
use Rattle.kernel_model.specs.declared.SysCall.TheVariants.{FreeLock, Poke, Peek, Tune, Choose}
use Rattle.kernel_model.specs.declared.SysCall.TheVariants.{Give, Install, Remove, Fund, Bill}
use Rattle.kernel_model.specs.declared.Refusal.{Refusal}
use Rattle.kernel_model.specs.declared.Refusal.TheVariants.{NoProcess, Denied, BadPoint, BadFd, BadIndex, NoImage}
use Rattle.kernel_model.specs.World.{World, ImageTable}
use Rattle.kernel_model.specs.Early.{plain_early, call_refusal, begins_unless, refused, policy_count}
use Rattle.kernel_model.specs.declared.BareCall.{BareCall}
use Rattle.kernel_model.specs.Bare.{call_with}
use Rattle.call_needs.specs.declared.Work.{Work}
use Rattle.call_needs.specs.Works.{call_of}

-- a refusal that doesn't hold
not_refused : (test : Bool) (r : Refusal) (next : Option Refusal) → refused test r next ≡ None →
    (test ≡ false) × (next ≡ None)
not_refused true r next is = absurd (cc)
not_refused false r next is = (refl, is)

-- a call that was granted, with some images loaded
abbrev pub Granted : (top : ℕ) → World → ℕ → SysCall → Type 0
Granted top v p c = (images : ImageTable) × (is_ok (plain_early top v images p c) ≡ true)

granted_none : (c : SysCall) (x : Option Refusal) → is_ok (begins_unless c x) ≡ true → x ≡ None
granted_none c None is = refl
granted_none c (Some r) is = absurd (cc)

-- no refusal of the call by its name
granted_as : (top : ℕ) (v : World) (p : ℕ) (c k : SysCall) (h : Granted top v p c) → c ≡ k →
    call_refusal top v h.0 p k ≡ None
granted_as top v p c k h is =
    let none = granted_none c (call_refusal top v h.0 p c) h.1 in
    subst (λ (x : SysCall). call_refusal top v h.0 p x ≡ None) is none

pub exit_granted : (top : ℕ) (v : World) (p : ℕ) (c : SysCall) → Granted top v p c → c ≡ Exit → 0 < p
exit_granted top v p c h is =
    let other = (not_refused (p == 0) Denied None (granted_as top v p c Exit h is)).0 in
    grind (arith, nat_tests, other)

pub close_granted : (top : ℕ) (v : World) (p : ℕ) (c : SysCall) (fd : ℕ) → Granted top v p c → c ≡ CloseFd fd → fd < 4
close_granted top v p c fd h is =
    let small = (not_refused (nat_lt 3 fd) BadFd None (granted_as top v p c (CloseFd fd) h is)).0 in
    grind (arith, nat_tests, small)

pub poke_granted : (top : ℕ) (v : World) (p : ℕ) (c : SysCall) (k x : ℕ) → Granted top v p c → c ≡ Poke k x → k < 4
poke_granted top v p c k x h is =
    let small = (not_refused (nat_lt 3 k) BadIndex None (granted_as top v p c (Poke k x) h is)).0 in
    grind (arith, nat_tests, small)

pub peek_granted : (top : ℕ) (v : World) (p : ℕ) (c : SysCall) (k : ℕ) → Granted top v p c → c ≡ Peek k → k < 4
peek_granted top v p c k h is =
    let small = (not_refused (nat_lt 3 k) BadIndex None (granted_as top v p c (Peek k) h is)).0 in
    grind (arith, nat_tests, small)

pub take_granted : (top : ℕ) (v : World) (p : ℕ) (c : SysCall) (u : ℕ) → Granted top v p c → c ≡ TakeLock u → u < 16
take_granted top v p c u h is =
    let small =
    (not_refused (nat_lt 15 u) BadIndex None (granted_as top v p c (TakeLock u) h is)).0 in
    grind (arith, nat_tests, small)

pub free_granted : (top : ℕ) (v : World) (p : ℕ) (c : SysCall) (u : ℕ) → Granted top v p c → c ≡ FreeLock u → u < 16
free_granted top v p c u h is =
    let small =
    (not_refused (nat_lt 15 u) BadIndex None (granted_as top v p c (FreeLock u) h is)).0 in
    grind (arith, nat_tests, small)

pub give_granted : (top : ℕ) (v : World) (p : ℕ) (c : SysCall) (q : ℕ) (kind : Kind) (n : ℕ) →
    Granted top v p c → c ≡ Give q kind n → q < 16
give_granted top v p c q kind n h is =
    let small =
    (not_refused (nat_lt 15 q) NoProcess None (granted_as top v p c (Give q kind n) h is)).0 in
    grind (arith, nat_tests, small)

pub remove_granted : (top : ℕ) (v : World) (p : ℕ) (c : SysCall) (pt : ℕ) → top ≤ 15 →
    Granted top v p c → c ≡ Remove pt → pt < 16
remove_granted top v p c pt few h is =
    let small =
    (not_refused (nat_lt top pt) BadPoint None (granted_as top v p c (Remove pt) h is)).0 in
    grind (arith, nat_tests, small)

pub fund_granted : (top : ℕ) (v : World) (p : ℕ) (c : SysCall) (pt : ℕ) (kind : Kind) (n : ℕ) →
    top ≤ 15 → Granted top v p c → c ≡ Fund pt kind n → pt < 16
fund_granted top v p c pt kind n few h is =
    let small =
    (not_refused (nat_lt top pt) BadPoint None (granted_as top v p c (Fund pt kind n) h is)).0 in
    grind (arith, nat_tests, small)

pub bill_granted : (top : ℕ) (v : World) (p : ℕ) (c : SysCall) (pt : ℕ) → top ≤ 15 →
    Granted top v p c → c ≡ Bill pt → pt < 16
bill_granted top v p c pt few h is =
    let small =
    (not_refused (nat_lt top pt) BadPoint None (granted_as top v p c (Bill pt) h is)).0 in
    grind (arith, nat_tests, small)

pub read_granted : (top : ℕ) (v : World) (p : ℕ) (c : SysCall) (fd i off len : ℕ) →
    Granted top v p c → c ≡ Read fd i off len → (fd < 4) × (off + len ≤ 512)
read_granted top v p c fd i off len h is =
    let first = not_refused (nat_lt 3 fd) BadFd (refused (nat_lt 512 (off + len)) BadIndex None)
    (granted_as top v p c (Read fd i off len) h is) in
    let small = first.0 in
    let few = (not_refused (nat_lt 512 (off + len)) BadIndex None first.1).0 in
    (grind (arith, nat_tests, small), grind (arith, nat_tests, few))

pub write_granted : (top : ℕ) (v : World) (p : ℕ) (c : SysCall) (fd i off : ℕ) (bytes : List ℕ) →
    Granted top v p c → c ≡ Write fd i off bytes → (fd < 4) × (off + length bytes ≤ 512)
write_granted top v p c fd i off bytes h is =
    let first = not_refused (nat_lt 3 fd) BadFd (refused (nat_lt 512 (off + length bytes)) BadIndex
    None) (granted_as top v p c (Write fd i off bytes) h is) in
    let small = first.0 in
    let few = (not_refused (nat_lt 512 (off + length bytes)) BadIndex None first.1).0 in
    (grind (arith, nat_tests, small), grind (arith, nat_tests, few))

pub tune_granted : (top : ℕ) (v : World) (p : ℕ) (c : SysCall) (kind k x : ℕ) → Granted top v p c →
    c ≡ Tune kind k x → kind < 3
tune_granted top v p c kind k x h is =
    let root = not_refused (not (p == 0)) Denied (refused (nat_lt 2 kind) BadPoint None)
    (granted_as top v p c (Tune kind k x) h is) in
    let small = (not_refused (nat_lt 2 kind) BadPoint None root.1).0 in grind (arith, nat_tests, small)

-- neither of two tests holds
neither : (a b : Bool) → (a || b) ≡ false → (a ≡ false) × (b ≡ false)
neither true b h = absurd (cc)
neither false b h = (refl, h)

below : (n j : ℕ) → nat_le n j ≡ false → j < n
below n j h = grind (arith, nat_tests)

pub choose_granted : (top : ℕ) (v : World) (p : ℕ) (c : SysCall) (kind j : ℕ) → Granted top v p c →
    c ≡ Choose kind j → (kind < 3) × (j < policy_count kind)
choose_granted top v p c kind j h is =
    let root = not_refused (not (p == 0)) Denied
    (refused (nat_lt 2 kind || nat_le (policy_count kind) j) BadPoint None)
    (granted_as top v p c (Choose kind j) h is) in
    let both = neither (nat_lt 2 kind) (nat_le (policy_count kind) j)
    (not_refused (nat_lt 2 kind || nat_le (policy_count kind) j) BadPoint None root.1).0 in
    let first = both.0 in
    (grind (arith, nat_tests, first), below (policy_count kind) j both.1)

-- what is to be installed: its point, its image, its limit
pub record Installs (pt image limit : ℕ) : Type 0 where
  pub point : pt < 16
  pub number : image < 32
  pub some : 1 ≤ limit
  pub most : limit ≤ 65536

pub install_granted : (top : ℕ) (v : World) (p : ℕ) (c : SysCall) (pt i limit : ℕ) → top ≤ 15 →
    Granted top v p c → c ≡ Install pt i limit → Installs pt i limit
install_granted top v p c pt i limit few h is =
    let known = nat_lt 31 i || not (is_some (h.0 i)) in
    let first = not_refused (nat_lt top pt) BadPoint (refused (limit == 0 || nat_lt 65536 limit)
    BadIndex (refused known NoImage None)) (granted_as top v p c (Install pt i limit) h is) in
    let second = not_refused (limit == 0 || nat_lt 65536 limit) BadIndex (refused known NoImage None) first.1 in
    let third = (not_refused known NoImage None second.1).0 in
    let a = first.0 in
    let b = neither (limit == 0) (nat_lt 65536 limit) second.0 in
    let d = neither (nat_lt 31 i) (not (is_some (h.0 i))) third in
    let b0 = b.0 in
    let b1 = b.1 in
    let d0 = d.0 in
    record {
      point = grind (arith, nat_tests, a);
      number = grind (arith, nat_tests, d0);
      some = grind (arith, nat_tests, b0);
      most = grind (arith, nat_tests, b1);
    }

-- a call by the name of what it is without its bytes
pub named : (w : Work) (k : BareCall) → w.call ≡ k → call_of w ≡ call_with k w.bytes.items
named w k is = ap (λ x. call_with x w.bytes.items) is
