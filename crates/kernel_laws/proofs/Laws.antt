-- Laws of this crate, each by its function's name: proofs of other crates cite them here.
use Rattle.kernel_model.specs.Meaning.{Meaning}
use Rattle.kernel_model.specs.Laws.{Laws}
use Rattle.kernel_model.specs.Claims.{ConfigsStaySound, EffectsStaySound}
use Rattle.kernel_laws.specs.Rest.{SettlesToRest}
use Rattle.kernel_laws.specs.Soundness.{OpeningKernelIsSound, InstructionsWork, HistoriesWork, DropsStaySound}
use Rattle.kernel_laws.specs.Undoing.{InversesUndo, InversesChangeOneObject, ChangesAreOfOneObject}
use Rattle.kernel_laws.proofs.HistoryLemmas as History
use Rattle.kernel_laws.proofs.InstructionLemmas as Instruction
use Rattle.kernel_laws.proofs.OpeningLemmas as Opening
use Rattle.kernel_laws.proofs.SettleLemmas as Settle
use Rattle.kernel_laws.proofs.SoundConfigLemmas as SoundConfig
use Rattle.kernel_laws.proofs.UndoingLemmas as Undoing

-- ---- rest

pub settles_to_rest : (m : Meaning) → Laws m → SettlesToRest m
settles_to_rest = Settle.settles_to_rest

-- ---- soundness

pub opening_kernel_is_sound : (m : Meaning) → OpeningKernelIsSound m
opening_kernel_is_sound = Opening.opening_kernel_is_sound

pub instructions_work : InstructionsWork
instructions_work = Instruction.instructions_work

pub histories_work : (m : Meaning) → HistoriesWork m
histories_work = History.histories_work

pub configs_stay_sound : ConfigsStaySound
configs_stay_sound = SoundConfig.configs_stay_sound

pub drops_stay_sound : DropsStaySound
drops_stay_sound = SoundConfig.drops_stay_sound

pub effects_stay_sound : EffectsStaySound
effects_stay_sound = SoundConfig.effects_stay_sound

-- ---- undoing

pub inverses_undo : InversesUndo
inverses_undo = Undoing.inverses_undo

pub inverses_change_one_object : InversesChangeOneObject
inverses_change_one_object = Undoing.inverses_change_one_object

pub changes_are_of_one_object : ChangesAreOfOneObject
changes_are_of_one_object = Undoing.changes_are_of_one_object
