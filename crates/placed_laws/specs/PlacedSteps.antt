-- One step of a call in place, and the drop of one of its levels.
use Rattle.std.specs.Prelude.{ℕ, zero, suc, Bool, true, false, cond, List, [], ◌∷◌, ◌++◌, Option, Some, None, map, drop}
use Rattle.kernel_model.specs.declared.Cause.{Cause}
use Rattle.kernel_model.specs.declared.Micro.{Micro}
use Rattle.kernel_model.specs.declared.Note.{Note}
use Rattle.kernel_model.specs.declared.Note.TheVariants.{Dropped, Ticked}
use Rattle.kernel_model.specs.declared.Point.{Point}
use Rattle.kernel_model.specs.World.{ImageTable}
use Rattle.kernel_model.specs.Objects.{Objects, GraftValue, at}
use Rattle.kernel_model.specs.Meaning.{Meaning, Piece, After, Continues, EndsWith, Fails, Answer}
use Rattle.kernel_model.specs.Levels.{Config, Outcome, answer_of, drop_level}
use Rattle.kernel_model.specs.GraftStep.{micro}
use Rattle.kernel_model.specs.History.{begin_at}
use Rattle.kernel_model.specs.Kernel.{Waiter, gave_note, after_note, new_entry, less_entry}
use Rattle.kernel_model.specs.Settle.{entry_with}
use Rattle.kernel_model.specs.Locks.{LockTable}
use Rattle.kernel_model.specs.Events.{counted}
use Rattle.placed_laws.specs.Placed.{PlacedCall, PlacedLevel, Placed, PlacedRun, bare}
use Rattle.placed_laws.specs.Placed.{placed_levels, placed_config, placed_holds, placed_blocker_in}

-- ---- changes

-- a process has this call
abbrev pub with_placed_call : ℕ → Option PlacedCall → PlacedRun → PlacedRun
with_placed_call p c r = record r { placed = record (r.placed) { call = at p c r.placed.call } }

-- one more note
abbrev pub placed_noted : Note → PlacedRun → PlacedRun
placed_noted n r = record r { notes = r.notes ++ n ∷ [] }

-- a process's call comes to this config: the store, and the levels
abbrev pub with_config : ℕ → Config → PlacedRun → PlacedRun
with_config p c r =
    record r {
      placed = record (r.placed) {
        objects = c.now;
        levels = at p (map bare c.levels) r.placed.levels;
      };
    }

-- a call after its piece
abbrev pub placed_after : PlacedCall → After → Option PlacedCall
placed_after c (Continues t) = Some (record { number = c.number; stage = t })
placed_after c (EndsWith reply) = None
placed_after c (Fails refusal) = None

-- a piece of the call of p is done: what it leaves is in the store, and the call has no level and
-- goes on or ends
abbrev pub placed_finish : ℕ → PlacedCall → Piece → PlacedRun → PlacedRun
placed_finish p c q r =
    record {
      placed = record (r.placed) {
        objects = q.objects;
        call = at p (placed_after c q.after) r.placed.call;
        levels = at p [] r.placed.levels;
      };
      blocks = q.blocks;
      notes = r.notes ++ gave_note c.number q.gave ++ after_note c.number q.after;
      io = drop q.calls r.io;
    }

-- ---- the order of waiting

-- the next step of a call is a piece
abbrev pub is_placed_at_piece : Option PlacedCall → List PlacedLevel → Bool
is_placed_at_piece None ls = false
is_placed_at_piece (Some c) [] = true
is_placed_at_piece (Some c) (l ∷ ls) = false

-- the call of p joins the order at its end
abbrev pub placed_joins : ℕ → PlacedRun → PlacedRun
placed_joins p r =
    record r { placed = record (r.placed) { order = r.placed.order ++ new_entry p ∷ [] } }

-- after a step of p: in the order, at its end, exactly where its next step is a piece
abbrev pub placed_requeue : ℕ → PlacedRun → PlacedRun
placed_requeue p r =
    record r {
      placed = record (r.placed) {
        order = less_entry p r.placed.order
            ++ cond (is_placed_at_piece (r.placed.call p) (r.placed.levels p)) (new_entry p ∷ [])
            [];
      };
    }

-- the order of waiting becomes this one
abbrev pub with_placed_order : List Waiter → PlacedRun → PlacedRun
with_placed_order es r = record r { placed = record (r.placed) { order = es } }

-- the clock and all counts rise by one
abbrev pub placed_ticked : ℕ → PlacedRun → PlacedRun
placed_ticked number r =
    placed_noted (Ticked number (suc r.placed.clock))
    (record r {
      placed = record (r.placed) {
        clock = suc r.placed.clock;
        order = counted r.placed.order;
      };
    })

-- these images are loaded
abbrev pub with_placed_images : ImageTable → PlacedRun → PlacedRun
with_placed_images images r = record r { placed = record (r.placed) { images = images } }

module _ (m : Meaning) where
  -- ---- one step

  -- the piece of a call on a state, with an answer or by default
  abbrev pub placed_finish_on : ℕ → PlacedCall → Objects → Option Answer → PlacedRun → PlacedRun
  placed_finish_on p c s answer r =
      placed_finish p c (m.piece r.placed.world r.placed.images s r.blocks p c.stage answer r.io) r

  -- a piece that asks a point: a level begins where a graft stands there, else the default finishes
  -- the piece
  abbrev pub placed_piece_at : ℕ → PlacedCall → Point → Option GraftValue → PlacedRun → PlacedRun
  placed_piece_at p c a None r = placed_finish_on p c r.placed.objects None r
  placed_piece_at p c a (Some g) r =
      with_config p (begin_at r.placed.images r.placed.objects p
      (m.need r.placed.world r.placed.objects p c.stage) (m.feed c.stage) a) r

  -- a piece, by the point that it asks, if it asks one
  abbrev pub placed_piece_step : ℕ → PlacedCall → Option Point → PlacedRun → PlacedRun
  placed_piece_step p c None r = placed_finish_on p c r.placed.objects None r
  placed_piece_step p c (Some a) r =
      placed_piece_at p c a (r.placed.objects.accounts.graft a.installer a.point) r

  -- a level was dropped: level 0's default finishes the piece on what level 0 found, and another's
  -- goes to its asker
  abbrev pub placed_after_drop : ℕ → PlacedCall → Config → (d : ℕ) → PlacedRun → PlacedRun
  placed_after_drop p c f zero r = placed_finish_on p c f.now None r
  placed_after_drop p c f (suc d) r = with_config p f r

  -- what an instruction, or the drop of a level, makes of a call; one that runs alone is never
  -- blocked
  abbrev pub placed_after_outcome : ℕ → PlacedCall → Config → Micro → PlacedRun → PlacedRun
  placed_after_outcome p c f Micro.Went r = with_config p f r
  placed_after_outcome p c f (Micro.Blocked object holder by_user) r = r
  placed_after_outcome p c f (Micro.Completed answer) r =
      placed_finish_on p c f.now (Some (answer_of answer (placed_levels r.placed p))) r
  placed_after_outcome p c f (Micro.Dropped d q pt cause) r =
      placed_after_drop p c f d (placed_noted (Dropped c.number q pt cause) r)

  -- the same by what is said of the outcome
  abbrev pub placed_outcome : ℕ → PlacedCall → Outcome → PlacedRun → PlacedRun
  placed_outcome p c o r = placed_after_outcome p c o.config o.said r

  -- a piece, or an instruction where the call has a level
  abbrev pub placed_step_by : ℕ → PlacedCall → List PlacedLevel → PlacedRun → PlacedRun
  placed_step_by p c [] r =
      placed_piece_step p c (m.asks r.placed.world r.placed.objects p c.stage) r
  placed_step_by p c (l ∷ ls) r =
      placed_outcome p c (micro r.placed.world r.placed.images p (placed_config r.placed p)) r

  -- one step of a call, if there is one
  abbrev pub placed_call_step : ℕ → Option PlacedCall → PlacedRun → PlacedRun
  placed_call_step p None r = r
  placed_call_step p (Some c) r = placed_step_by p c (r.placed.levels p) r

  -- one step of the call of p, which then stands in the order exactly where its next step is a
  -- piece
  abbrev pub placed_step : ℕ → PlacedRun → PlacedRun
  placed_step p r = placed_requeue p (placed_call_step p (r.placed.call p) r)

  -- ---- the drop of a level

  -- level d of a call is dropped, if the call has a level, and the call takes its place in the
  -- order
  abbrev pub placed_drop_by : ℕ → Option PlacedCall → List PlacedLevel → (d : ℕ) → Cause →
      PlacedRun → PlacedRun
  placed_drop_by p None ls d cause r = r
  placed_drop_by p (Some c) [] d cause r = r
  placed_drop_by p (Some c) (l ∷ ls) d cause r =
      let f = placed_config r.placed p in
      placed_requeue p (placed_outcome p c (drop_level r.placed.world f.now f.levels d cause) r)

  -- level d of the call of p is dropped, if there is one
  abbrev pub placed_drop : ℕ → (d : ℕ) → Cause → PlacedRun → PlacedRun
  placed_drop p d cause r = placed_drop_by p (r.placed.call p) (r.placed.levels p) d cause r

  -- ---- the order and its blockers

  -- the first of these entries that nothing blocks, where the table tells what calls hold
  abbrev pub placed_first_free_in : Placed → LockTable → List Waiter → Option ℕ
  placed_first_free_in x locks [] = None
  placed_first_free_in x locks (e ∷ es) =
      elim (placed_blocker_in m x locks e.process) [
        | None ↦ Some e.process
        | Some b ↦ placed_first_free_in x locks es
      ]

  -- the first of these entries that nothing blocks
  abbrev pub placed_first_free : Placed → List Waiter → Option ℕ
  placed_first_free x es = placed_first_free_in x (placed_holds x) es

  -- each entry with its blocker
  abbrev pub placed_rested_order : Placed → List Waiter → List Waiter
  placed_rested_order x es =
      map (λ (e : Waiter). entry_with e (placed_blocker_in m x (placed_holds x) e.process)) es
