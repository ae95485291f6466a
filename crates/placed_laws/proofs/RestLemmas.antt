-- A kernel that rests goes on to rest once more images are loaded.
use Rattle.std.specs.Prelude.{◌≡◌, ℕ, List, [], map, option_map, replicate}
use Rattle.std.specs.Prelude.{Option, Some, None}
use Rattle.std.proofs.Common.{refl, subst, ap, ◌∙◌}
use Rattle.std.proofs.lemmas.List.{length-replicate}
use mathlib.Core.Path.{fun_ext}
use Rattle.kernel_model.specs.declared.Need.{Need}
use Rattle.kernel_model.specs.World.{ImageTable, processes}
use Rattle.kernel_model.specs.Locks.{LockTable, first_hindrance}
use Rattle.kernel_model.specs.Meaning.{Meaning}
use Rattle.kernel_model.specs.Levels.{Level, Config}
use Rattle.kernel_model.specs.GraftStep.{lock_user}
use Rattle.kernel_model.specs.History.{Mark}
use Rattle.kernel_model.specs.Kernel.{Call, Blocker, Kernel, Run}
use Rattle.kernel_model.specs.Blocking.{config_of, levels_in, levels_of, locks_from, holds}
use Rattle.kernel_model.specs.Blocking.{needs_at, needs_in, needs, blocker_from, blocker}
use Rattle.kernel_model.specs.Sound.{IsSoundKernel, ImagesAreLoaded}
use Rattle.kernel_model.specs.Alike.{Extends}
use Rattle.kernel_model.specs.Laws.{Laws}
use Rattle.graft_laws.specs.Kernels.{IsSoundRun}
use Rattle.graft_laws.proofs.GraftOriginLemmas.{images_from}
use Rattle.graft_laws.proofs.KernelSoundLemmas.{history_come}
use Rattle.graft_laws.proofs.LoadedImageLemmas.{next_same}
use Rattle.graft_laws.proofs.MoreImageLemmas.{images_stay_sound}
use Rattle.graft_laws.proofs.StabilityLemmas.{has_graft}
use Rattle.placed_laws.specs.Keeping.{ImagesKeepRest}

module _ (m : Meaning) (laws : Laws m) (k : Kernel) (sound : IsSoundKernel m k) (more : ImageTable)
    (extends : Extends k.images more) where
  -- the kernel with more images
  abbrev grown : Kernel
  grown = record k { images = more }

  -- a run of the kernel over a disk of whole blocks
  abbrev whole_run : Run
  whole_run = record { kernel = k; blocks = λ b. replicate 512 0; notes = []; io = [] }

  sound_run : IsSoundRun m whole_run
  sound_run = record { kernel = sound; blocks = λ b low. length-replicate {A = ℕ} 512 0 }

  pub config_grown : (p : ℕ) → config_of m grown p ≡ config_of m k p
  config_grown p = (images_stay_sound m whole_run more laws sound_run extends).1 p

  -- the images of grafts where a call in a graft stands
  images_known : (p : ℕ) (c : Config) → config_of m k p ≡ Some c → ImagesAreLoaded k.images c.now.accounts
  images_known p c is =
      let h = has_graft m k p c is in
      let come = history_come m laws laws.need.grafts whole_run p h.call h.marks h.trace sound
      sound_run.blocks h.is h.marked h.leads in
      subst (λ (d : Config). ImagesAreLoaded k.images d.now.accounts) h.config (images_from k.images
      k.objects.accounts h.trace.config.now.accounts come sound.state.images_loaded)

  levels_grown : levels_of m grown ≡ levels_of m k
  levels_grown = fun_ext (λ p. ap levels_in (config_grown p))

  holds_grown : holds m grown ≡ holds m k
  holds_grown = ap (λ (f : ℕ → List Level). locks_from (map f processes)) levels_grown

  pub needs_grown : (p : ℕ) → needs m grown p ≡ needs m k p
  needs_grown p = by_call (k.call p)
    where
      at_config : (x : Option Config) → config_of m k p ≡ x → needs_at m grown x ≡ needs_at m k x
      at_config None e = refl
      at_config (Some c) e = next_same k.world k.images more c.now.accounts c.levels extends (images_known p c e)

      by_marks : (c : Call) (y : Option (List Mark)) →
          elim y as (λ _. List Need) [
            | None ↦ m.need k.world k.objects p c.stage
            | Some ks ↦ needs_at m grown (config_of m grown p)
          ]
          ≡ elim y as (λ _. List Need) [
            | None ↦ m.need k.world k.objects p c.stage
            | Some ks ↦ needs_at m k (config_of m k p)
          ]
      by_marks c None = refl
      by_marks c (Some ks) = ap (needs_at m grown) (config_grown p) ∙ at_config (config_of m k p) refl

      by_call : (x : Option Call) → needs_in m grown p x ≡ needs_in m k p x
      by_call None = refl
      by_call (Some c) = by_marks c c.marks

  -- the same calls are blocked, by the same blockers
  pub blocker_grown : (p : ℕ) → blocker m grown p ≡ blocker m k p
  blocker_grown p =
      ap (λ t. blocked t (levels_of m grown p) (needs m grown p)) holds_grown
      ∙ ap (λ (f : ℕ → List Level). blocked (holds m k) (f p) (needs m grown p)) levels_grown
      ∙ ap (blocked (holds m k) (levels_of m k p)) (needs_grown p)
    where
      blocked : LockTable → List Level → List Need → Option Blocker
      blocked t ls ns = option_map (blocker_from k) (first_hindrance t k.objects.things.lock p (lock_user p ls) ns)

pub images_keep_rest : (m : Meaning) → Laws m → ImagesKeepRest m
images_keep_rest m laws k more sound extends rests e among =
    let rest = rests e among in (rest.0, blocker_grown m laws k sound more extends e.process ∙ rest.1)
