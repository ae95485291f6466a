-- What blocks a call of a sound kernel blocks it still where more images are loaded.
use Rattle.std.specs.Prelude.{◌≡◌, ℕ, List, map, option_map, Option, Some, None}
use Rattle.std.proofs.Common.{refl, subst, ap, ◌∙◌}
use mathlib.Core.Path.{fun_ext}
use Rattle.script_model.specs.declared.Need.{Need}
use Rattle.script_model.specs.World.{ImageTable, processes}
use Rattle.script_model.specs.Locks.{LockTable, first_hindrance}
use Rattle.script_model.specs.Meaning.{Meaning}
use Rattle.script_model.specs.Levels.{Level, Config}
use Rattle.script_model.specs.GraftStep.{lock_user}
use Rattle.script_model.specs.History.{Mark}
use Rattle.script_model.specs.Kernel.{Call, Blocker, Kernel, Run}
use Rattle.script_model.specs.Blocking.{config_of, levels_in, levels_of, locks_from, holds}
use Rattle.script_model.specs.Blocking.{needs_at, needs_in, needs, blocker_from, blocker}
use Rattle.script_model.specs.Sound.{ImagesAreLoaded}
use Rattle.script_model.specs.Alike.{Extends}
use Rattle.script_model.specs.Laws.{Laws}
use Rattle.graft_laws.specs.Kernels.{IsSoundRun, with_images}
use Rattle.graft_laws.proofs.GraftOriginLemmas.{images_from}
use Rattle.graft_laws.proofs.KernelSoundLemmas.{history_come}
use Rattle.graft_laws.proofs.LoadedImageLemmas.{next_same}
use Rattle.graft_laws.proofs.MoreImageLemmas.{images_stay_sound}
use Rattle.graft_laws.proofs.StabilityLemmas.{has_graft}

module _ (m : Meaning) (laws : Laws m) (r : Run) (sound : IsSoundRun m r) (more : ImageTable)
    (extends : Extends r.kernel.images more) where
  abbrev grown : Kernel
  grown = (with_images more r).kernel

  config_grown : (p : ℕ) → config_of m grown p ≡ config_of m r.kernel p
  config_grown p = (images_stay_sound m r more laws sound extends).1 p

  levels_grown : levels_of m grown ≡ levels_of m r.kernel
  levels_grown = fun_ext (λ p. ap levels_in (config_grown p))

  holds_grown : holds m grown ≡ holds m r.kernel
  holds_grown = ap (λ (f : ℕ → List Level). locks_from (map f processes)) levels_grown

  -- the images of grafts where a call in a graft stands
  images_known : (p : ℕ) (c : Config) → config_of m r.kernel p ≡ Some c →
      ImagesAreLoaded r.kernel.images c.now.accounts
  images_known p c is =
      let k = r.kernel in
      let h = has_graft m k p c is in
      let come = history_come m laws laws.need.grafts r p h.call h.marks h.trace sound.kernel sound.blocks
      h.is h.marked h.leads in
      subst (λ (d : Config). ImagesAreLoaded k.images d.now.accounts) h.config
      (images_from k.images k.objects.accounts h.trace.config.now.accounts come
      sound.kernel.state.images_loaded)

  needs_grown : (p : ℕ) → needs m grown p ≡ needs m r.kernel p
  needs_grown p = by_call (r.kernel.call p)
    where
      k : Kernel
      k = r.kernel

      at_config : (x : Option Config) → config_of m k p ≡ x → needs_at m grown x ≡ needs_at m k x
      at_config None e = refl
      at_config (Some c) e =
          next_same k.world k.images more c.now.accounts c.levels extends (images_known p c e)

      by_marks : (c : Call) (y : Option (List Mark)) →
          elim y as (λ _. List Need) [
            | None ↦ m.need k.world k.objects p c.stage
            | Some ks ↦ needs_at m grown (config_of m grown p)
          ]
          ≡ elim y as (λ _. List Need) [
            | None ↦ m.need k.world k.objects p c.stage
            | Some ks ↦ needs_at m k (config_of m k p)
          ]
      by_marks c None = refl
      by_marks c (Some ks) =
          ap (needs_at m grown) (config_grown p) ∙ at_config (config_of m k p) refl

      by_call : (x : Option Call) → needs_in m grown p x ≡ needs_in m k p x
      by_call None = refl
      by_call (Some c) = by_marks c c.marks

  pub blocker_grown : (p : ℕ) → blocker m grown p ≡ blocker m r.kernel p
  blocker_grown p =
      ap (λ t. blocked t (levels_of m grown p) (needs m grown p)) holds_grown
      ∙ ap (λ (f : ℕ → List Level). blocked (holds m r.kernel) (f p) (needs m grown p)) levels_grown
      ∙ ap (blocked (holds m r.kernel) (levels_of m r.kernel p)) (needs_grown p)
    where
      blocked : LockTable → List Level → List Need → Option Blocker
      blocked t ls ns =
          option_map (blocker_from r.kernel)
          (first_hindrance t r.kernel.objects.things.lock p (lock_user p ls) ns)
