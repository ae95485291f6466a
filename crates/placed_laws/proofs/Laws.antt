-- The laws of this crate, each by its function's name: proofs of other crates cite them here.
use Rattle.kernel_model.specs.Meaning.{Meaning}
use Rattle.kernel_model.specs.Laws.{Laws}
use Rattle.placed_laws.specs.Agreeing.{SameStages, SameBlockers, SameShown}
use Rattle.placed_laws.specs.Keeping.{QuietKernelsStand, StepsStand, DropsStand, OthersStand}
use Rattle.placed_laws.specs.Keeping.{EventsStand, HeldStays, ImagesKeepRest}
use Rattle.placed_laws.specs.Owners.{OwnersStay}
use Rattle.placed_laws.specs.Resting.{Resting}
use Rattle.placed_laws.specs.Soundness.{SoundInPlace, ReadyInPlace}
use Rattle.placed_laws.specs.Stretch.{Stretches}
use Rattle.placed_laws.proofs.BlockerLemmas as Blocker
use Rattle.placed_laws.proofs.EventLemmas as Event
use Rattle.placed_laws.proofs.HeldLemmas as Held
use Rattle.placed_laws.proofs.OtherLemmas as Other
use Rattle.placed_laws.proofs.OwnerLemmas as Owner
use Rattle.placed_laws.proofs.QuietLemmas as Quiet
use Rattle.placed_laws.proofs.RestLemmas as Rest
use Rattle.placed_laws.proofs.RestingLemmas as Still
use Rattle.placed_laws.proofs.RowLemmas as Row
use Rattle.placed_laws.proofs.SoundLemmas as Sound
use Rattle.placed_laws.proofs.StandLemmas as Stand
use Rattle.placed_laws.proofs.StretchIterating as Stretch

-- ---- agreeing

pub same_stages : (m : Meaning) → Laws m → SameStages m
same_stages = Blocker.same_stages

pub same_blockers : (m : Meaning) → Laws m → SameBlockers m
same_blockers = Blocker.same_blockers

pub same_shown : (m : Meaning) → Laws m → SameShown m
same_shown = Row.same_shown

-- ---- keeping

pub quiet_kernels_stand : (m : Meaning) → QuietKernelsStand m
quiet_kernels_stand = Quiet.quiet_kernels_stand

pub steps_stand : (m : Meaning) → Laws m → StepsStand m
steps_stand = Stand.steps_stand

pub drops_stand : (m : Meaning) → Laws m → DropsStand m
drops_stand = Stand.drops_stand

pub others_stand : (m : Meaning) → Laws m → OthersStand m
others_stand = Other.others_stand

pub events_stand : (m : Meaning) → Laws m → EventsStand m
events_stand = Event.events_stand

pub held_stays : (m : Meaning) → Laws m → HeldStays m
held_stays = Held.held_stays

pub images_keep_rest : (m : Meaning) → Laws m → ImagesKeepRest m
images_keep_rest = Rest.images_keep_rest

-- ---- owners

pub owners_stay : OwnersStay
owners_stay = Owner.owners_stay

-- ---- resting

pub resting : (m : Meaning) → Laws m → Resting m
resting = Still.resting

-- ---- soundness

pub sound_in_place : (m : Meaning) → Laws m → SoundInPlace m
sound_in_place = Sound.sound_in_place

pub ready_in_place : (m : Meaning) → Laws m → ReadyInPlace m
ready_in_place = Sound.ready_in_place

-- ---- stretching

pub stretches : (m : Meaning) → Laws m → Stretches m
stretches = Stretch.stretches
