-- What an instruction needs has numbers in their ranges.
use Rattle.std.specs.Prelude.{◌≡◌, ℕ, suc, ◌<◌, ◌≤◌, ◌==◌, Bool, true, false, cond, List, [], ◌∷◌}
use Rattle.std.specs.Prelude.{◌++◌, length, Contains, Option, Some, None, ⊤}
use Rattle.std.proofs.Common.{arith, refl, subst, sym, ◌∙◌, inl, inr}
use Rattle.std.proofs.lemmas.Bool.Decides.{nat_tests}
use Rattle.std.proofs.lemmas.List.Elements.{Contains-append_right}
use Rattle.kernel_model.specs.declared.Cause.{Cause}
use Rattle.kernel_model.specs.declared.Mode.TheVariants.{Shared}
use Rattle.kernel_model.specs.declared.Need.{Need}
use Rattle.kernel_model.specs.declared.Object.{Object}
use Rattle.kernel_model.specs.declared.Object.TheVariants.{Graft, Acct, Cell, OpenFile, Queue, Cache, Lock, Pol}
use Rattle.kernel_model.specs.World.{World, ImageTable}
use Rattle.kernel_model.specs.Objects.{Accounts, same_object}
use Rattle.kernel_model.specs.SameObject.{same_object_is}
use Rattle.kernel_model.specs.Machine.{next_call}
use Rattle.kernel_model.specs.Access.{Callable, CellGet, CellSet, NiceGet, NiceSet, WindowGet}
use Rattle.kernel_model.specs.Access.{WindowSet, FramesMine, FrameAt, FrameBlock, FrameMark}
use Rattle.kernel_model.specs.Access.{TuneGet, TuneSet, TakeLock, callable, early_refusal, is_ask}
use Rattle.kernel_model.specs.Access.{accessed, needed, asked_objects, asked_graft}
use Rattle.kernel_model.specs.Levels.{Level, code_of}
use Rattle.kernel_model.specs.GraftStep.{is_spent, call_needs, instruction_needs, next_needs}
use Rattle.kernel_model.specs.Alike.{is_needed}
use Rattle.graft_laws.specs.Histories.{HasRange}
use Rattle.graft_laws.proofs.PointLemmas.{needed_cases}
use Rattle.graft_laws.proofs.AccessSameLemmas.{object_of, accessed_object}
use Rattle.call_laws.specs.NeedGrafts.{or_cases}
use Rattle.kernel_laws.proofs.AccessLemmas.{window_id, tune_id, tune_range}

-- a needed object is that of a need in the list
pub needed_contains : (o : Object) (ns : List Need) → is_needed o ns ≡ true →
    (n : Need) × Contains ns n × (o ≡ n.object)
needed_contains o [] h = absurd cc
needed_contains o (n ∷ ns) h = elim (or_cases (same_object o n.object) (is_needed o ns) h) [
  | inl here ↦ (n, (0, below_suc (length ns), refl), same_object_is o n.object here)
  | inr later ↦ let k = needed_contains o ns later in (k.0, Contains-append_right (n ∷ []) ns k.0 k.1, k.2)
]
  where
    below_suc : (n : ℕ) → 0 < suc n
    below_suc n = omega arith

-- ---- the objects of instructions

-- an object that an instruction may need: no account, and with numbers in their ranges, where it isn't a graft
abbrev pub IsReached : Object → Type 0
IsReached (Acct q) = ⊥
IsReached o = HasRange o

pub reached_range : (o : Object) → IsReached o → HasRange o
reached_range (Graft q pt) h = tt
reached_range (Acct q) h = absurd h
reached_range (Cell q k) h = h
reached_range (OpenFile q fd) h = h
reached_range Queue h = h
reached_range Cache h = h
reached_range (Lock u) h = h
reached_range (Pol k) h = h

-- no graft
abbrev IsNoGraft : Object → Type 0
IsNoGraft (Graft q pt) = ⊥
IsNoGraft o = ⊤

object_no_graft : (c : Callable) (r0 q : ℕ) → IsNoGraft (object_of c r0 q)
object_no_graft CellGet r0 q = tt
object_no_graft CellSet r0 q = tt
object_no_graft NiceGet r0 q = tt
object_no_graft NiceSet r0 q = tt
object_no_graft WindowGet r0 q = tt
object_no_graft WindowSet r0 q = tt
object_no_graft FramesMine r0 q = tt
object_no_graft FrameAt r0 q = tt
object_no_graft FrameBlock r0 q = tt
object_no_graft FrameMark r0 q = tt
object_no_graft TuneGet r0 q = tt
object_no_graft TuneSet r0 q = tt
object_no_graft TakeLock r0 q = tt

-- an accessor needs no graft
pub no_graft : (id r0 q r pu : ℕ) → is_needed (Graft r pu) (accessed id r0 q ∷ []) ≡ true → ⊥
no_graft id r0 q r pu h = elim (or_cases (same_object (Graft r pu) (accessed id r0 q).object) false h) [
  | inl same ↦ subst IsNoGraft (sym (same_object_is (Graft r pu) (accessed id r0 q).object same
      ∙ accessed_object id r0 q)) (object_no_graft (callable id) r0 q)
  | inr none ↦ absurd cc
]

-- nor does an ask, before the graft of its point
pub no_graft_asked : (id r0 q r pu : ℕ) → is_needed (Graft r pu) (asked_objects id r0 q) ≡ true → ⊥
no_graft_asked id r0 q r pu h = none_by (id == 13) (id == 14) h
  where
    neither : (a b : Object) → IsNoGraft a → IsNoGraft b →
        is_needed (Graft r pu) (needed a Shared ∷ needed b Shared ∷ []) ≡ true → ⊥
    neither a b x y h = elim (or_cases (same_object (Graft r pu) a) (is_needed (Graft r pu) (needed b Shared ∷ [])) h) [
      | inl same ↦ subst IsNoGraft (sym (same_object_is (Graft r pu) a same)) x
      | inr later ↦ elim (or_cases (same_object (Graft r pu) b) false later) [
        | inl same ↦ subst IsNoGraft (sym (same_object_is (Graft r pu) b same)) y
        | inr none ↦ absurd cc
      ]
    ]

    none_by : (a b : Bool) →
        is_needed (Graft r pu)
        (cond a (needed (OpenFile q r0) Shared ∷ needed (Pol 0) Shared ∷ [])
        (cond b (needed Cache Shared ∷ needed (Pol 1) Shared ∷ [])
        (needed Queue Shared ∷ needed (Pol 2) Shared ∷ []))) ≡ true → ⊥
    none_by true b h = neither (OpenFile q r0) (Pol 0) tt tt h
    none_by false true h = neither Cache (Pol 1) tt tt h
    none_by false false h = neither Queue (Pol 2) tt tt h

-- ---- the ids of accessors

cell_get_id : (id : ℕ) → callable id ≡ CellGet → id ≡ 0
cell_get_id id h = grind (arith, nat_tests)

cell_set_id : (id : ℕ) → callable id ≡ CellSet → id ≡ 1
cell_set_id id h = grind (arith, nat_tests)

window_get_id : (id : ℕ) → callable id ≡ WindowGet → id ≡ 4
window_get_id id h = grind (arith, nat_tests)

tune_get_id : (id : ℕ) → callable id ≡ TuneGet → id ≡ 10
tune_get_id id h = grind (arith, nat_tests)

lock_id : (id highest r0 r1 q : ℕ) → callable id ≡ TakeLock → is_ask id ≡ false → highest ≤ 15 →
    early_refusal highest id r0 r1 q ≡ None → id ≡ 12
lock_id id highest r0 r1 q h ask low early = grind (arith, nat_tests)

-- ---- ranges that early refusals keep

cell_get_low : (highest r0 r1 q : ℕ) → early_refusal highest 0 r0 r1 q ≡ None → r0 < 4
cell_get_low highest r0 r1 q h = grind (arith, nat_tests)

cell_set_low : (highest r0 r1 q : ℕ) → early_refusal highest 1 r0 r1 q ≡ None → r0 < 4
cell_set_low highest r0 r1 q h = grind (arith, nat_tests)

window_get_low : (highest r0 r1 q : ℕ) → early_refusal highest 4 r0 r1 q ≡ None → r0 < 4
window_get_low highest r0 r1 q h = grind (arith, nat_tests)

window_set_low : (highest r0 r1 q : ℕ) → early_refusal highest 5 r0 r1 q ≡ None → r0 < 4
window_set_low highest r0 r1 q h = grind (arith, nat_tests)

tune_get_low : (highest r0 r1 q : ℕ) → early_refusal highest 10 r0 r1 q ≡ None → r0 < 3
tune_get_low highest r0 r1 q h = grind (arith, nat_tests)

lock_low : (highest r0 r1 q : ℕ) → early_refusal highest 12 r0 r1 q ≡ None → r0 < 16
lock_low highest r0 r1 q h = grind (arith, nat_tests)

ahead_low : (highest r0 r1 q : ℕ) → early_refusal highest 13 r0 r1 q ≡ None → r0 < 4
ahead_low highest r0 r1 q h = grind (arith, nat_tests)

module _ (highest id r0 r1 q : ℕ) (most : highest ≤ 15) (low : q < 16)
    (early : early_refusal highest id r0 r1 q ≡ None) where
  -- the same refusal at the id itself
  early_at : (n : ℕ) → id ≡ n → early_refusal highest n r0 r1 q ≡ None
  early_at n e = subst (λ i. early_refusal highest i r0 r1 q ≡ None) e early

  -- the object of an accessor
  object_range : (c : Callable) → callable id ≡ c → is_ask id ≡ false → IsReached (object_of c r0 q)
  object_range CellGet e ask = (low, cell_get_low highest r0 r1 q (early_at 0 (cell_get_id id e)))
  object_range CellSet e ask = (low, cell_set_low highest r0 r1 q (early_at 1 (cell_set_id id e)))
  object_range NiceGet e ask = tt
  object_range NiceSet e ask = tt
  object_range WindowGet e ask = (low, window_get_low highest r0 r1 q (early_at 4 (window_get_id id e)))
  object_range WindowSet e ask = (low, window_set_low highest r0 r1 q (early_at 5 (window_id id e)))
  object_range FramesMine e ask = tt
  object_range FrameAt e ask = tt
  object_range FrameBlock e ask = tt
  object_range FrameMark e ask = tt
  object_range TuneGet e ask = tune_get_low highest r0 r1 q (early_at 10 (tune_get_id id e))
  object_range TuneSet e ask = tune_range highest r0 r1 q (early_at 11 (tune_id id e))
  object_range TakeLock e ask = lock_low highest r0 r1 q (early_at 12 (lock_id id highest r0 r1 q e ask most early))

  -- the object of one need, or of more
  first_or : (o : Object) (n : Need) (ns : List Need) → is_needed o (n ∷ ns) ≡ true →
      IsReached n.object → (is_needed o ns ≡ true → IsReached o) → IsReached o
  first_or o n ns h here later = elim (or_cases (same_object o n.object) (is_needed o ns) h) [
    | inl same ↦ subst IsReached (sym (same_object_is o n.object same)) here
    | inr rest ↦ later rest
  ]

  none_needed : (o : Object) → is_needed o [] ≡ true → IsReached o
  none_needed o h = absurd cc

  -- the objects of an ask
  asked_range : (o : Object) → is_needed o (asked_objects id r0 q) ≡ true → IsReached o
  asked_range o h = range_by (id == 13) (id == 14) (λ e. ahead_low highest r0 r1 q (early_at 13 (is_it id e))) h
    where
      is_it : (id : ℕ) → (id == 13) ≡ true → id ≡ 13
      is_it id e = grind (arith, nat_tests)

      policy_low : (k : ℕ) → k < 3 → IsReached (Pol k)
      policy_low k h = h

      range_by : (a b : Bool) → (a ≡ true → r0 < 4) →
          is_needed o
          (cond a (needed (OpenFile q r0) Shared ∷ needed (Pol 0) Shared ∷ [])
          (cond b (needed Cache Shared ∷ needed (Pol 1) Shared ∷ [])
          (needed Queue Shared ∷ needed (Pol 2) Shared ∷ []))) ≡ true → IsReached o
      range_by true b few h =
          first_or o (needed (OpenFile q r0) Shared) (needed (Pol 0) Shared ∷ []) h (low, few refl)
          (λ k. first_or o (needed (Pol 0) Shared) [] k (policy_low 0 (omega arith))
          (none_needed o))
      range_by false true few h =
          first_or o (needed Cache Shared) (needed (Pol 1) Shared ∷ []) h tt (λ k. first_or o
          (needed (Pol 1) Shared) [] k (policy_low 1 (omega arith)) (none_needed o))
      range_by false false few h =
          first_or o (needed Queue Shared) (needed (Pol 2) Shared ∷ []) h tt (λ k. first_or o
          (needed (Pol 2) Shared) [] k (policy_low 2 (omega arith)) (none_needed o))

  -- what a call needs
  granted_range : (o : Object) (ask : Bool) → is_ask id ≡ ask →
      is_needed o (cond ask (asked_objects id r0 q ++ asked_graft id r0 q ∷ [])
      (accessed id r0 q ∷ [])) ≡ true → IsReached o
  granted_range o true e h = elim (needed_cases o (asked_objects id r0 q) (asked_graft id r0 q) h) [
    | inl objects ↦ asked_range o objects
    | inr graft ↦ subst IsReached (sym (same_object_is o (asked_graft id r0 q).object graft)) tt
  ]
  granted_range o false e h =
      first_or o (accessed id r0 q) [] h (subst IsReached (sym (accessed_object id r0 q))
      (object_range (callable id) refl e)) (none_needed o)

-- what an instruction of a level of a process needs
pub needs_range : (v : World) (images : ImageTable) (a : Accounts) (l : Level) (ls : List Level)
    (o : Object) → v.callable ≤ 15 → l.owner < 16 →
    is_needed o (next_needs v images a (l ∷ ls)) ≡ true → IsReached o
needs_range v images a l ls o most low h = by_spent (is_spent a l) h
  where
    by_early : (id : ℕ) (c : Option Cause) →
        early_refusal v.callable id (l.machine.regs 0) (l.machine.regs 1) l.owner ≡ c →
        is_needed o (call_needs v l id c) ≡ true → IsReached o
    by_early id (Some cause) e h = absurd cc
    by_early id None e h =
        granted_range v.callable id (l.machine.regs 0) (l.machine.regs 1) l.owner most low e o
        (is_ask id) refl h

    by_call : (x : Option ℕ) → is_needed o (instruction_needs v l x) ≡ true → IsReached o
    by_call None h = absurd cc
    by_call (Some id) h = by_early id (early_refusal v.callable id (l.machine.regs 0) (l.machine.regs 1) l.owner) refl h

    by_spent : (b : Bool) → is_needed o (cond b [] (instruction_needs v l
        (next_call (code_of images a l.owner l.point) l.machine))) ≡ true → IsReached o
    by_spent true h = absurd cc
    by_spent false h = by_call (next_call (code_of images a l.owner l.point) l.machine) h
