-- A call in a graft is kept as a history of marks, and is run again from the committed state
-- whenever it is needed. A level that was dropped on the way is one mark of the history, with those
-- effects of its levels that outlive them. So nothing that read an object is run again after that
-- object was let go.
use Rattle.std.specs.Prelude.{ℕ, suc, Bool, true, false, cond, ◌&&◌, ◌==◌, not, nat_le, List, []}
use Rattle.std.specs.Prelude.{◌∷◌, ◌++◌, Option, Some, None, is_some, length, take, reverse}
use Rattle.kernel_data.specs.declared.Need.{Need}
use Rattle.kernel_data.specs.declared.Point.{Point}
use Rattle.kernel_data.specs.declared.Object.TheVariants.{Graft}
use Rattle.kernel_data.specs.Objects.{Objects, Accounts, with_accounts}
use Rattle.kernel_data.specs.World.{World, ImageTable}
use Rattle.kernel_data.specs.Policies.{default_of}
use Rattle.kernel_model.specs.Locks.{touch_all, untouched, is_held}
use Rattle.kernel_model.specs.Charges.{funds, charge, removed}
use Rattle.kernel_model.specs.Meaning.{Meaning, Stage}
use Rattle.kernel_model.specs.Levels.{Level, Config, Effect, Asked, Charged, Removed, Outcome}
use Rattle.kernel_model.specs.Levels.{is_going_on, new_level, touch_outermost, outermost_touched}
use Rattle.kernel_model.specs.Levels.{answer_innermost}
use Rattle.kernel_model.specs.GraftStep.{micro}

-- ---- histories

-- a mark: an instruction, or an ask whose level was dropped, with those effects of its levels that
-- outlive them
pub data Mark : Type 0 where
  Stepped : Mark
  Fell : List Effect → Mark

-- what happened since a level began: how many marks are before its ask, and the effects since then,
-- newest first
pub record Past : Type 0 where
  pub began : ℕ
  pub effects : List Effect

-- where a history leads: the config, how many marks it has, and the past of each level, innermost
-- first
pub record Trace : Type 0 where
  pub config : Config
  pub marks : ℕ
  pub pasts : List Past

-- ---- the beginning

-- the config whose only level has just begun, with the base objects
abbrev pub begin_at : ImageTable → Objects → ℕ → List Need → (feed : List ℕ) → Point → Config
begin_at images s p base feed a =
    record {
      now = s;
      levels = new_level images s p 0 a.installer a.point a.args feed (touch_all base untouched)
          ∷ [];
    }

-- the same if a point is asked
abbrev pub begin_with : ImageTable → Objects → ℕ → List Need → (feed : List ℕ) → Option Point →
    Option Config
begin_with images s p base feed None = None
begin_with images s p base feed (Some a) = Some (begin_at images s p base feed a)

-- A graft call begins on the committed state with level 0 at the asked point, which holds the
-- objects of the piece and is fed the piece's bytes.
abbrev pub begin : Meaning → World → ImageTable → Objects → ℕ → Stage → Option Config
begin m v images s p t = begin_with images s p (m.need v s p t) (m.feed t) (m.asks v s p t)

-- a trace of no marks
abbrev pub first_trace : Config → Trace
first_trace c = record { config = c; marks = 0; pasts = record { began = 0; effects = [] } ∷ [] }

-- ---- an instruction's mark

-- effects, oldest first, are added to the innermost level's past
abbrev pub with_effects : List Effect → List Past → List Past
with_effects es [] = []
with_effects es (a ∷ outer) = record a { effects = reverse es ++ a.effects } ∷ outer

-- the innermost level completes: its past becomes part of its asker's
abbrev pub joined_pasts : List Past → List Past
joined_pasts [] = []
joined_pasts (a ∷ []) = a ∷ []
joined_pasts (a ∷ b ∷ rest) = record b { effects = a.effects ++ b.effects } ∷ rest

-- the pasts after an instruction, by the number of levels before it and the number after it; n
-- marks are before it
abbrev pub pasts_after : (n before after : ℕ) → List Past → List Past
pasts_after n before after ps =
    cond (after == suc before) (record { began = n; effects = [] } ∷ ps)
    (cond (before == suc after) (joined_pasts ps) ps)

-- the trace after an instruction, if the call goes on
abbrev pub trace_after : Trace → Outcome → Trace
trace_after t r =
    record {
      config = r.config;
      marks = suc t.marks;
      pasts = pasts_after t.marks (length t.config.levels) (length r.config.levels)
          (with_effects r.effects t.pasts);
    }

-- the trace after an instruction; there is none if it ends a level in another way than by an answer
abbrev pub stepped : Trace → Outcome → Option Trace
stepped t r = elim (is_going_on r.said) [ true ↦ Some (trace_after t r) | false ↦ None ]

-- ---- a fallen level's mark

-- a graft of q is installed, and level 0 holds it
abbrev pub is_found : (q pt : ℕ) → Config → Bool
is_found q pt c = is_some (c.now.accounts.graft q pt)
    && is_held (outermost_touched c.levels (Graft q pt))

-- a config with these accounts and grafts
abbrev pub with_accounts_of : Accounts → Config → Config
with_accounts_of a c = record c { now = with_accounts a c.now }

-- a config, if the test holds
abbrev pub config_if : Bool → Config → Option Config
config_if true c = Some c
config_if false c = None

-- An effect of a graft of q is made again: an ask touches its graft for level 0, a charge is taken
-- from the payer, a removed graft is taken out. A charge or a removal can't be made again if the
-- graft isn't installed, level 0 doesn't hold it, or nothing is left to charge.
abbrev pub effect : ℕ → Effect → Config → Option Config
effect q (Asked pt) c = Some (record c { levels = touch_outermost (Graft q pt) c.levels })
effect q (Charged pt k) c =
    config_if (is_found q pt c && not (funds c.now.accounts q pt k == 0))
    (with_accounts_of (charge k q pt c.now.accounts) c)
effect q (Removed pt) c =
    config_if (is_found q pt c) (with_accounts_of (removed q pt c.now.accounts) c)

-- effects in order
abbrev pub effects_on : ℕ → List Effect → Config → Option Config
effects_on q [] c = Some c
effects_on q (e ∷ es) c = elim (effect q e c) [ None ↦ None | Some u ↦ effects_on q es u ]

-- the innermost level ends, and its asker gets the default
abbrev pub level_ends : World → Objects → List Level → Config
level_ends v w [] = record { now = w; levels = [] }
level_ends v w (l ∷ ls) =
    let d = default_of v w.things l.owner l.point in
    record { now = w; levels = answer_innermost l.point d.0 d.1 ls }

-- the pasts without the innermost level's
abbrev pub outer_pasts : List Past → List Past
outer_pasts [] = []
outer_pasts (a ∷ outer) = outer

-- the trace u after an ask, with the effects of the level that it began and that level's end
abbrev pub trace_fallen : World → List Effect → Trace → Config → Trace
trace_fallen v es u c =
    record {
      config = level_ends v c.now c.levels;
      marks = u.marks;
      pasts = with_effects es (outer_pasts u.pasts);
    }

-- the same, if the effects can be made again
abbrev pub fallen_if : World → List Effect → Trace → Option Config → Option Trace
fallen_if v es u None = None
fallen_if v es u (Some c) = Some (trace_fallen v es u c)

-- the installer of the innermost level
abbrev pub owner_among : List Level → ℕ
owner_among [] = 0
owner_among (l ∷ ls) = l.owner

-- a level that fell: u is the trace after its ask, which began a level, and n is how many levels
-- there were before
abbrev pub fell_on : World → List Effect → (n : ℕ) → Trace → Option Trace
fell_on v es n u =
    elim (length u.config.levels == suc n) [
      | true ↦ fallen_if v es u (effects_on (owner_among u.config.levels) es u.config)
      | false ↦ None
    ]

-- ---- replay

-- a mark on a trace
abbrev pub mark_on : World → ImageTable → ℕ → Mark → Trace → Option Trace
mark_on v images p Stepped t = stepped t (micro v images p t.config)
mark_on v images p (Fell es) t =
    elim (stepped t (micro v images p t.config)) [
      | None ↦ None
      | Some u ↦ fell_on v es (length t.config.levels) u
    ]

-- marks in order
abbrev pub marks_on : World → ImageTable → ℕ → List Mark → Trace → Option Trace
marks_on v images p [] t = Some t
marks_on v images p (k ∷ ks) t =
    elim (mark_on v images p k t) [ None ↦ None | Some u ↦ marks_on v images p ks u ]

-- Replaying a history runs its marks, in order, from the current committed state. It knows no other
-- call.
abbrev pub replay : Meaning → World → ImageTable → Objects → ℕ → Stage → List Mark → Option Trace
replay m v images s p t ks =
    elim (begin m v images s p t) [ None ↦ None | Some c ↦ marks_on v images p ks (first_trace c) ]

-- ---- a history after the drop of a level above 0

-- the effects since level d began, newest first; the pasts are innermost first
abbrev pub effects_since : ℕ → List Past → List Effect
effects_since d [] = []
effects_since d (a ∷ outer) =
    elim (nat_le d (length outer)) [ true ↦ a.effects ++ effects_since d outer | false ↦ [] ]

-- how many marks are before the ask that began level d
abbrev pub marks_before : ℕ → List Past → ℕ
marks_before d [] = 0
marks_before d (a ∷ outer) =
    elim (length outer == d) [ true ↦ a.began | false ↦ marks_before d outer ]

-- When level d above 0 is dropped, one mark replaces the marks from its ask on. It holds what its
-- levels and those inside asked, were charged and lost, in order, followed by the drop's own,
-- `last`.
abbrev pub fallen : Trace → List Mark → (last : List Effect) → (d : ℕ) → List Mark
fallen t ks last d = take (marks_before d t.pasts) ks
    ++ Fell (reverse (effects_since d t.pasts) ++ last) ∷ []
