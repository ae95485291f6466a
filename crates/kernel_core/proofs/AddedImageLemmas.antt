-- What an image line makes of a kernel, by the slot and the bytes.
use Rattle.std.proofs.Common.{◌≡◌, ℕ, ◌<◌, ◌≤◌, Bool, true, false, is_some, List, Option, Some}
use Rattle.std.proofs.Common.{None, Result, Ok, Err, codes, length, arith, refl, sym, ap, ◌∙◌}
use Rattle.std.proofs.Common.{subst}
use Rattle.std.specs.Prelude.{nat_lt}
use Rattle.std.proofs.lemmas.Bool.Decides.{nat_tests}
use Rattle.kernel_model.specs.World.{Image, ImageTable}
use Rattle.kernel_model.specs.Images.{LoadFault}
use Rattle.kernel_model.specs.Kernel.{Kernel}
use Rattle.kernel_model.specs.Meaning.{Meaning}
use Rattle.kernel_model.specs.ImageLines.{add_image, image_added, image_answer}
use Rattle.kernel_model.specs.Sound.{IsAtRest}
use Rattle.kernel_model.specs.ImageTexts.{image_text}
use Rattle.graft_loader.specs.declared.LoadFault.{LoadFault as LoaderFault}
use Rattle.graft_loader.specs.Faults.{IsRefused, refusal_of, refusal_text}
use Rattle.placed_laws.specs.Placed.{Placed}
use Rattle.placed_laws.specs.Stands.{StandsFor}
use Rattle.kernel_core.specs.declared.images.ImageRefusal.{ImageRefusal}
use Rattle.kernel_core.specs.declared.images.ImageRefusal.TheVariants.{BadSlot, Taken, Unloaded}
use Rattle.kernel_core.specs.AddedImages.{slot_refused, has_memory, refusal_said, image_said, ImageIsAdded}

-- the answer to an image line, by the two tests
abbrev answer_by : (high : Bool) → Option Image → ℕ → Result Image LoadFault → Kernel → Kernel × List ℕ
answer_by high old slot r k =
    elim high as (λ _. Kernel × List ℕ) [
      | true ↦ (k, codes "E8")
      | false ↦ elim old as (λ _. Kernel × List ℕ) [ Some i ↦ (k, codes "E10") | None ↦ image_added slot r k ]
    ]

-- the refusal of a slot, by the two tests
abbrev refused_by : (high : Bool) → Option Image → Option ImageRefusal
refused_by high old =
    elim high as (λ _. Option ImageRefusal) [
      | true ↦ Some BadSlot
      | false ↦ elim old as (λ _. Option ImageRefusal) [ Some i ↦ Some Taken | None ↦ None ]
    ]

refused_is : (high : Bool) (old : Option Image) (images : ImageTable) (slot : ℕ) →
    nat_lt 31 slot ≡ high → images slot ≡ old →
    slot_refused images slot ≡ refused_by high old
refused_is true old images slot h i = rw h refl
refused_is false None images slot h i = rw (h, i) refl
refused_is false (Some x) images slot h i = rw (h, i) refl

-- a refused slot leaves the kernel, and says so
left_by : (high : Bool) (old : Option Image) (slot : ℕ) (r : Result Image LoadFault) (k : Kernel)
    (refusal : ImageRefusal) →
    refused_by high old ≡ Some refusal → answer_by high old slot r k ≡ (k, refusal_said refusal)
left_by true old slot r k refusal h = let same : BadSlot ≡ refusal = cc in rw (← same) refl
left_by false (Some i) slot r k refusal h = let same : Taken ≡ refusal = cc in rw (← same) refl
left_by false None slot r k refusal h = cc

-- in a free slot the bytes decide
free_by : (high : Bool) (old : Option Image) (slot : ℕ) (r : Result Image LoadFault) (k : Kernel) →
    refused_by high old ≡ None → answer_by high old slot r k ≡ image_added slot r k
free_by true old slot r k h = cc
free_by false (Some i) slot r k h = cc
free_by false None slot r k h = refl

-- the same of the kernel in place
answers_refused : (x : Placed) (k : Kernel) (slot : ℕ) (r : Result Image LoadFault)
    (refusal : ImageRefusal) → x.images ≡ k.images →
    slot_refused x.images slot ≡ Some refusal → image_answer slot r k ≡ (k, refusal_said refusal)
answers_refused x k slot r refusal same h =
    left_by (nat_lt 31 slot) (k.images slot) slot r k refusal
    (sym (refused_is (nat_lt 31 slot) (k.images slot) k.images slot refl refl)
    ∙ ap (λ (t : ImageTable). slot_refused t slot) (sym same) ∙ h)

answers_free : (x : Placed) (k : Kernel) (slot : ℕ) (r : Result Image LoadFault) → x.images ≡ k.images →
    slot_refused x.images slot ≡ None → image_answer slot r k ≡ image_added slot r k
answers_free x k slot r same h =
    free_by (nat_lt 31 slot) (k.images slot) slot r k
    (sym (refused_is (nat_lt 31 slot) (k.images slot) k.images slot refl refl)
    ∙ ap (λ (t : ImageTable). slot_refused t slot) (sym same) ∙ h)

-- this answer leaves this kernel
added_as : (m : Meaning) (slot : ℕ) (r : Result Image LoadFault) (k l : Kernel) (y : Placed) (said : List ℕ) →
    image_answer slot r k ≡ (l, said) → StandsFor m y l → IsAtRest m l → ImageIsAdded m slot r k y said
added_as m slot r k l y said is stands rests =
    let kernel : l ≡ (image_answer slot r k).0 = sym (ap (λ (a : Kernel × List ℕ). a.0) is) in
    record {
      said_is = ap (λ (a : Kernel × List ℕ). a.1) is;
      stands = subst (λ (j : Kernel). StandsFor m y j) kernel stands;
      rests = subst (λ (j : Kernel). IsAtRest m j) kernel rests;
    }

-- a slot that is refused
pub slot_is_refused : (m : Meaning) (x : Placed) (slot : ℕ) (r : Result Image LoadFault)
    (k : Kernel) (refusal : ImageRefusal) →
    slot_refused x.images slot ≡ Some refusal → StandsFor m x k → IsAtRest m k →
    ImageIsAdded m slot r k x (refusal_said refusal)
slot_is_refused m x slot r k refusal h stands rests =
    added_as m slot r k k x (refusal_said refusal) (answers_refused x k slot r refusal stands.images h) stands rests

-- bytes that are refused
added_none : (slot : ℕ) (r : Result Image LoadFault) (k : Kernel) (refusal : Option LoadFault) →
    is_some refusal ≡ true →
    IsRefused refusal r → image_added slot r k ≡ (k, refusal_text refusal)
added_none slot r k None some h = cc
added_none slot r k (Some fault) some h = rw h refl

pub bytes_are_refused : (m : Meaning) (x : Placed) (slot : ℕ) (r : Result Image LoadFault)
    (k : Kernel) (refusal : Option LoadFault) →
    slot_refused x.images slot ≡ None → is_some refusal ≡ true → IsRefused refusal r → StandsFor m x k → IsAtRest m k →
    ImageIsAdded m slot r k x (refusal_text refusal)
bytes_are_refused m x slot r k refusal free some h stands rests =
    added_as m slot r k k x (refusal_text refusal)
    (answers_free x k slot r stands.images free ∙ added_none slot r k refusal some h) stands rests

-- an image that is loaded, of so many instructions and data bytes
pub image_is_added : (m : Meaning) (x y : Placed) (slot : ℕ) (r : Result Image LoadFault)
    (i : Image) (k : Kernel) (n d : ℕ) →
    slot_refused x.images slot ≡ None → r ≡ Ok i → n ≡ length i.code → d ≡ length i.body →
    StandsFor m x k → StandsFor m y (add_image slot i k) → IsAtRest m (add_image slot i k) →
    ImageIsAdded m slot r k y (image_said (Ok (n, d)))
image_is_added m x y slot r i k n d free is n_is d_is before stands rests =
    let said : image_text i ≡ image_said (Ok (n, d)) = rw (n_is, d_is) refl in
    added_as m slot r k (add_image slot i k) y (image_said (Ok (n, d)))
    (answers_free x k slot r before.images free ∙ ap (λ (a : Result Image LoadFault). image_added slot a k) is
    ∙ ap (λ (text : List ℕ). (add_image slot i k, text)) said) stands rests

-- ---- what the slot and the fault say

pub high_slot : (images : ImageTable) (slot : ℕ) → 31 < slot → slot_refused images slot ≡ Some BadSlot
high_slot images slot high = let is : nat_lt 31 slot ≡ true = grind (arith, nat_tests, high) in rw is refl

pub used_slot : (images : ImageTable) (slot : ℕ) → slot ≤ 31 → is_some (images slot) ≡ true →
    slot_refused images slot ≡ Some Taken
used_slot images slot low used =
    let is : nat_lt 31 slot ≡ false = grind (arith, nat_tests, low) in rw (is, used) refl

-- a fault that isn't want of memory is a refusal
pub known_fault : (fault : LoaderFault) → has_memory (Err (Unloaded fault)) ≡ true → is_some (refusal_of fault) ≡ true
known_fault LoaderFault.Length h = refl
known_fault LoaderFault.Magic h = refl
known_fault LoaderFault.Version h = refl
known_fault LoaderFault.TooLarge h = refl
known_fault LoaderFault.BadFlags h = refl
known_fault LoaderFault.NoKey h = refl
known_fault LoaderFault.Seal h = refl
known_fault (LoaderFault.BadOp pc) h = refl
known_fault (LoaderFault.Register pc) h = refl
known_fault (LoaderFault.Jump pc) h = refl
known_fault (LoaderFault.Memory pc) h = refl
known_fault (LoaderFault.Call pc) h = refl
known_fault LoaderFault.End h = refl
known_fault LoaderFault.NoMemory h = cc
