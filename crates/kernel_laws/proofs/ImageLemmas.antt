-- An instruction is the same once more images are loaded.
use Rattle.std.specs.Prelude.{◌≡◌, ℕ, ◌+◌, Bool, true, false, List, [], ◌∷◌, length, Option, Some, None, is_some}
use Rattle.std.proofs.Common.{refl, sym, ap, ◌∙◌, inl, inr}
use Rattle.kernel_model.specs.declared.Kind.{Kind}
use Rattle.kernel_model.specs.declared.Kind.TheVariants.{Steps}
use Rattle.kernel_model.specs.declared.Cause.{Cause}
use Rattle.kernel_model.specs.declared.Instr.{Instr}
use Rattle.kernel_model.specs.World.{World, Image, ImageTable}
use Rattle.kernel_model.specs.Objects.{Objects, Accounts, GraftValue, with_accounts}
use Rattle.kernel_model.specs.Machine.{Machine, Done, Called, Returned, Trapped, Outside, PastEnd}
use Rattle.kernel_model.specs.Machine.{seg_step, first_machine, fed}
use Rattle.kernel_model.specs.Policies.{kind_of, args_by, valid}
use Rattle.kernel_model.specs.Charges.{taken_from, charge, charge_by, charge_account, charge_graft}
use Rattle.kernel_model.specs.Access.{early_refusal, is_ask, asked_point, asked_objects, asked_graft}
use Rattle.kernel_model.specs.Locks.{untouched}
use Rattle.kernel_model.specs.Levels.{Level, image_of, code_in, code_of, keeps_in, segment_with}
use Rattle.kernel_model.specs.Levels.{base_of, with_machine, with_touched, touch_outermost}
use Rattle.kernel_model.specs.Levels.{goes_on, with_effect, Asked, Charged}
use Rattle.kernel_model.specs.GraftStep.{ask_refusal, ask_answered, after_ask, granted_call}
use Rattle.kernel_model.specs.GraftStep.{after_call, after_answer, after_return, after_machine}
use Rattle.kernel_model.specs.GraftStep.{is_spent, charged_step, micro_on}
use Rattle.kernel_model.specs.Alike.{Extends}
use Rattle.kernel_model.specs.Sound.{ImagesAreLoaded}
use Rattle.kernel_model.specs.Claims.{MoreImages}
use Rattle.kernel_laws.proofs.StoreLemmas.{found_at}

module _ (v : World) (images more : ImageTable) (p : ℕ) (extends : Extends images more) where
  -- an image that is loaded
  loaded_same : (slot : ℕ) (x : Option Image) → images slot ≡ x → is_some x ≡ true → more slot ≡ images slot
  loaded_same slot None e some = absurd cc
  loaded_same slot (Some i) e some = extends slot i e ∙ sym e

  -- the image of a graft that stands, or of none
  image_same : (a : Accounts) (q pt : ℕ) (g : Option GraftValue) → a.graft q pt ≡ g →
      ImagesAreLoaded images a → image_of more g ≡ image_of images g
  image_same a q pt None e loaded = refl
  image_same a q pt (Some g) e loaded = loaded_same g.image (images g.image) refl (loaded q pt g e)

  -- after a charge the same images are loaded
  charged_loaded : (a : Accounts) (q pt : ℕ) (k : Kind) → ImagesAreLoaded images a →
      ImagesAreLoaded images (charge k q pt a)
  charged_loaded a q pt k loaded = loaded_by (a.graft q pt) refl
    where
      same_image : (g x : GraftValue) → Some (taken_from k g) ≡ Some x → g.image ≡ x.image
      same_image g x e = ap (λ (o : Option GraftValue). elim o as (λ _. ℕ) [ None ↦ g.image | Some y ↦ y.image ]) e

      loaded_if : (billed : Bool) (g : GraftValue) → a.graft q pt ≡ Some g →
          ImagesAreLoaded images (elim billed as (λ _. Accounts) [
            | true ↦ charge_account k q a
            | false ↦ charge_graft k q pt g a
          ])
      loaded_if true g e = loaded
      loaded_if false g e = λ r pu x stands. elim (found_at q pt r pu (Some (taken_from k g)) a.graft) [
        | inl here ↦ ap (λ slot. is_some (images slot)) (sym (same_image g x (sym here.2 ∙ stands))) ∙ loaded q pt g e
        | inr other ↦ loaded r pu x (sym other ∙ stands)
      ]

      loaded_by : (g : Option GraftValue) → a.graft q pt ≡ g → ImagesAreLoaded images (charge_by k q pt g a)
      loaded_by None e = loaded
      loaded_by (Some g) e = loaded_if g.billed g e

  -- an ask
  answered_same : (w : Objects) (q pt : ℕ) (ks : List Level) (g : Option GraftValue) →
      w.accounts.graft q pt ≡ g → ImagesAreLoaded images w.accounts →
      ask_answered v more w p q pt ks g ≡ ask_answered v images w p q pt ks g
  answered_same w q pt ks None e loaded = refl
  answered_same w q pt ks (Some g) e loaded =
      ap (λ (x : Option Image). goes_on w (record {
        owner = q;
        point = pt;
        machine = first_machine (base_of p (length ks)) (args_by (kind_of pt) v w.things q pt)
            (fed [] (segment_with x (keeps_in x) (w.things.segment q pt)));
        count = 0;
        touched = untouched;
        args = args_by (kind_of pt) v w.things q pt;
        records = [];
        kept = w.things;
      } ∷ ks)) (image_same w.accounts q pt (w.accounts.graft q pt) refl loaded)

  ask_same : (w : Objects) (l : Level) (ls : List Level) (m : Machine) (id pt : ℕ)
      (x : Option Cause) → ImagesAreLoaded images w.accounts →
      after_ask v more w p l ls m id pt x ≡ after_ask v images w p l ls m id pt x
  ask_same w l ls m id pt (Some cause) loaded = refl
  ask_same w l ls m id pt None loaded =
      ap (with_effect (Asked pt))
      (answered_same w l.owner pt
      (touch_outermost (asked_graft id (l.machine.regs 0) l.owner).object
      (with_touched (asked_objects id (l.machine.regs 0) l.owner) (with_machine m l) ∷ ls))
      (w.accounts.graft l.owner pt) refl loaded)

  granted_same : (w : Objects) (l : Level) (ls : List Level) (m : Machine) (id : ℕ) (ask : Bool) →
      ImagesAreLoaded images w.accounts →
      granted_call v more w p l ls m id ask ≡ granted_call v images w p l ls m id ask
  granted_same w l ls m id true loaded =
      ask_same w l ls m id (asked_point id (l.machine.regs 0))
      (ask_refusal w l.owner (asked_point id (l.machine.regs 0)) id (l ∷ ls)) loaded
  granted_same w l ls m id false loaded = refl

  call_same : (w : Objects) (l : Level) (ls : List Level) (m : Machine) (id : ℕ)
      (x : Option Cause) → ImagesAreLoaded images w.accounts →
      after_call v more w p l ls m id x ≡ after_call v images w p l ls m id x
  call_same w l ls m id (Some cause) loaded = refl
  call_same w l ls m id None loaded = granted_same w l ls m id (is_ask id) loaded

  -- an answer
  return_same : (w : Objects) (l : Level) (ls : List Level) (is_valid : Bool) → ImagesAreLoaded images w.accounts →
      after_return v more w l ls is_valid ≡ after_return v images w l ls is_valid
  return_same w l ls true loaded =
      ap (λ (x : Option Image). after_answer v w l ls (keeps_in x))
      (image_same w.accounts l.owner l.point (w.accounts.graft l.owner l.point) refl loaded)
  return_same w l ls false loaded = refl

  machine_same : (w : Objects) (l : Level) (ls : List Level) (x : Done) → ImagesAreLoaded images w.accounts →
      after_machine v more p w l ls x ≡ after_machine v images p w l ls x
  machine_same w l ls (Called id m) loaded =
      call_same w l ls m id
      (early_refusal v.callable id (l.machine.regs 0) (l.machine.regs 1) l.owner) loaded
  machine_same w l ls (Done.Went m) loaded = refl
  machine_same w l ls Returned loaded =
      return_same w l ls
      (valid w.things l.owner l.point l.args (l.machine.regs 0) (l.machine.regs 1)) loaded
  machine_same w l ls Done.DividedByZero loaded = refl
  machine_same w l ls (Trapped code) loaded = refl
  machine_same w l ls Outside loaded = refl
  machine_same w l ls PastEnd loaded = refl

  step_same : (w : Objects) (l : Level) (ls : List Level) (spent : Bool) → ImagesAreLoaded images w.accounts →
      charged_step v more p w l ls spent ≡ charged_step v images p w l ls spent
  step_same w l ls true loaded = refl
  step_same w l ls false loaded =
      let u = with_accounts (charge Steps l.owner l.point w.accounts) w in
      let n = record l { count = l.count + 1 } in
      let code = ap code_in (image_same w.accounts l.owner l.point (w.accounts.graft l.owner l.point) refl loaded) in
      ap (λ (c : List Instr). with_effect (Charged l.point Steps)
      (after_machine v more p u n ls (seg_step c l.machine))) code
      ∙ ap (with_effect (Charged l.point Steps))
      (machine_same u n ls (seg_step (code_of images w.accounts l.owner l.point) l.machine)
      (charged_loaded w.accounts l.owner l.point Steps loaded))

  levels_same : (w : Objects) (ls : List Level) → ImagesAreLoaded images w.accounts →
      micro_on v more p w ls ≡ micro_on v images p w ls
  levels_same w [] loaded = refl
  levels_same w (l ∷ ls) loaded = step_same w l ls (is_spent w.accounts l) loaded

-- an instruction is the same once more images are loaded
pub more_images : MoreImages
more_images v images more p c extends loaded = levels_same v images more p extends c.now c.levels loaded
