-- The laws of this crate, each by its function's name: proofs of other crates cite them here.
use Rattle.kernel_model.specs.Meaning.{Meaning}
use Rattle.kernel_model.specs.Laws.{Laws}
use Rattle.kernel_model.specs.Claims.{FallsReplay, InPlaceReads, UndoneIsBelow}
use Rattle.kernel_laws.proofs.Laws.{settles_to_rest, instructions_work, histories_work}
use Rattle.kernel_laws.proofs.Laws.{configs_stay_sound, drops_stay_sound, effects_stay_sound}
use Rattle.kernel_laws.proofs.Laws.{inverses_undo, inverses_change_one_object}
use Rattle.kernel_laws.proofs.Laws.{changes_are_of_one_object}
use Rattle.graft_laws.proofs.Laws.{calls_are_stable}
use Rattle.graft_laws.specs.Notes.{LeavesFewNotes, CallsLeaveFewDrops, EventsLeaveFewNotes}
use Rattle.graft_laws.specs.SoundCalls.{CallsAreSound}
use Rattle.graft_laws.specs.Ticks.{TicksEnd}
use Rattle.graft_laws.proofs.HistoryKernelStepLemmas.{Known}
use Rattle.graft_laws.proofs.SoundCallLemmas.{call_sound}
use Rattle.graft_laws.proofs.DropLemmas as Drop
use Rattle.graft_laws.proofs.EventDropLemmas as EventDrop
use Rattle.graft_laws.proofs.InPlaceLemmas as InPlace
use Rattle.graft_laws.proofs.NoteLemmas as Note
use Rattle.graft_laws.proofs.SettleDropLemmas as SettleDrop
use Rattle.graft_laws.proofs.TickLemmas as Tick
use Rattle.graft_laws.proofs.UndoneLemmas as Undone

pub known : (m : Meaning) → Laws m → Known m
known m laws = record {
  laws = laws;
  instructions = instructions_work;
  histories = histories_work m;
  effects = effects_stay_sound;
  undoes = inverses_undo;
  own = changes_are_of_one_object;
  configs = configs_stay_sound;
  drops = drops_stay_sound;
}

-- ---- histories

pub falls_replay : (m : Meaning) → FallsReplay m
falls_replay = Drop.falls_replay

pub calls_are_sound : (m : Meaning) → Laws m → CallsAreSound m
calls_are_sound m laws k p f sound is =
    call_sound m laws (histories_work m) k sound p f is inverses_undo changes_are_of_one_object

-- ---- notes

pub leaves_few_notes : (m : Meaning) → Laws m → LeavesFewNotes m
leaves_few_notes m laws = Note.leaves_few_notes m laws instructions_work (histories_work m) effects_stay_sound

pub calls_leave_few_drops : (m : Meaning) → Laws m → CallsLeaveFewDrops m
calls_leave_few_drops m laws = SettleDrop.calls_leave_few_drops m laws instructions_work (histories_work m)

pub events_leave_few_notes : (m : Meaning) → Laws m → EventsLeaveFewNotes m
events_leave_few_notes m laws = EventDrop.events_leave_few_notes m (known m laws) (calls_are_stable m)

-- ---- store

pub in_place_reads : (m : Meaning) → InPlaceReads m
in_place_reads = InPlace.in_place_reads

pub undone_is_below : (m : Meaning) → UndoneIsBelow m
undone_is_below = Undone.undone_is_below inverses_undo inverses_change_one_object changes_are_of_one_object

-- ---- ticks

pub ticks_end : (m : Meaning) → Laws m → TicksEnd m
ticks_end m laws = Tick.ticks_end m (known m laws) (settles_to_rest m laws) (calls_are_stable m)
