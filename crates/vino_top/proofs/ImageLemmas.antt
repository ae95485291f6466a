-- What an image line makes of a session, and of its bounds.
use Rattle.std.proofs.Common.{decimal, is_some, Ok, ◌≡◌, ◌<◌, ◌-◌, ◌^◌, ℕ, suc, ◌+◌, ◌++◌, ◌∙◌}
use Rattle.std.proofs.Common.{true, false, Bool, List, ◌∷◌, Some, None, Option, arith, refl, sym}
use Rattle.std.proofs.Common.{ap, subst, add-one}
use Rattle.std.specs.Prelude.{nat_lt}
use Rattle.std.proofs.lemmas.Bool.Decides.{nat_tests}
use Rattle.kernel_data.specs.World.{Image, ImageTable}
use Rattle.script_model.specs.Meaning.{Meaning}
use Rattle.script_model.specs.Sound.{IsAtRest}
use Rattle.vino_base.specs.Disks.{DiskSeen}
use Rattle.kernel_core.specs.declared.images.ImageRefusal.TheVariants.{BadSlot, Taken}
use Rattle.kernel_core.specs.AddedImages.{slot_refused, ImageIsAdded}
use Rattle.kernel_core.specs.EventRefines.{IsKernel}
use Rattle.placed_laws.specs.Placed.{Placed}
use Rattle.placed_laws.specs.Stands as kernels
use Rattle.script_model.specs.Images.{load}
use Rattle.script_model.specs.Kernel as abstract
use Rattle.script_model.specs.Script.{Entry, OwnWord, Loads, parsed_line}
use Rattle.script_model.specs.ImageLines.{image_answer}
use Rattle.script_model.specs.Session.{after_image, after_entry, running_in}
use Rattle.script_model.specs.Text.{line}
use Rattle.vino_top.specs.Built.{build_over}
use Rattle.vino_top.specs.Standing.{Seen}
use Rattle.vino_top.specs.Run.{Place, Left, LeavesText, LineMatches, LoadsFree, WantsAt, RunsEntry}
use Rattle.vino_top.specs.Bounds.{IsSessionOver, IsOnLine}
use Rattle.vino_top.specs.declared.session.Session.{Session}
use Rattle.vino_top.proofs.SessionLemmas.{alone, up_is_down}

-- a slot that isn't refused is in range and free
slot_is_free : (high used : Bool) (images : ImageTable) (slot : ℕ) → nat_lt 31 slot ≡ high →
    is_some (images slot) ≡ used →
    slot_refused images slot ≡ None → (slot < 32) × (is_some (images slot) ≡ false)
slot_is_free true used images slot h i free = absurd (let no : Some BadSlot ≡ None = rw h at free in cc)
slot_is_free false true images slot h i free = absurd (let no : Some Taken ≡ None = rw (h, i) at free in cc)
slot_is_free false false images slot h i free = (grind (arith, nat_tests, h), i)

pub free_slot : (images : ImageTable) (slot : ℕ) → slot_refused images slot ≡ None →
    (slot < 32) × (is_some (images slot) ≡ false)
free_slot images slot free = slot_is_free (nat_lt 31 slot) (is_some (images slot)) images slot refl refl free

-- a slot of a kernel in place has an image where that of the abstract one has
pub same_slot : {m : Meaning} (x : Placed) (k : abstract.Kernel) (slot : ℕ) (b : Bool) →
    kernels.StandsFor m x k → is_some (x.images slot) ≡ b → is_some (k.images slot) ≡ b
same_slot x k slot b stands h = ap (λ (t : ImageTable). is_some (t slot)) (sym stands.images) ∙ h

-- a slot that is free has no image
no_image : (old : Option Image) → is_some old ≡ false → old ≡ None
no_image None h = refl
no_image (Some i) h = up_is_down h

-- a line that loads an image into a slot that is free, once it is counted, wants memory
pub wants_free : (own : List OwnWord) (m : Meaning) (s : Seen) (text : List ℕ) (e : Entry) → s.refused ≡ false →
    parsed_line own s.booted text ≡ Ok e →
    LoadsFree (record s { lines = s.lines + 1 }) e → WantsAt own m s text
wants_free own m s text e going is loads = λ known a stands.
    let has = stands.booted loads.booted in
    record {
      going = stands.refused ∙ going;
      kernel = has.kernel;
      runs = has.is;
      slot = loads.slot;
      bytes = loads.bytes;
      says = ap (λ b. parsed_line own b text) (sym loads.booted) ∙ is ∙ ap (λ (x : Entry). Ok x) loads.is;
      in_range = loads.in_range;
      free =
          no_image (has.kernel.images loads.slot)
          (same_slot s.placed has.kernel loads.slot false has.stands loads.free);
    }

-- a session goes on by an image line
pub image_runs : (c : Place) (s t : Seen) (slot : ℕ) (bytes : List ℕ) (y : Placed) (answer : List ℕ)
    (out : Left) (d : DiskSeen) →
    s.booted ≡ true → t ≡ record s { placed = y; events = s.events + 1 } →
    ((k : abstract.Kernel) → kernels.StandsFor c.meaning s.placed k → IsAtRest c.meaning k →
    ImageIsAdded c.meaning slot (load c.keys bytes) k y answer) →
    LeavesText out (line (decimal (s.events + 1) ++ 32 ∷ answer)) → RunsEntry c (Loads slot bytes) s t d d out
image_runs c s t slot bytes y answer out d booted state said written =
    let u = record s { placed = y; events = s.events + 1 } in
    subst (λ (x : Seen). RunsEntry c (Loads slot bytes) s x d d out) (sym state)
    (alone c (Loads slot bytes) s u out d refl written.no_notes (λ a rest stands.
    let has = stands.booted booted in
    let n = suc a.events in
    let number : s.events + 1 ≡ n = add-one s.events ∙ ap suc (sym stands.events) in
    let new = said has.kernel has.stands has.rests in
    let left_over = (image_answer slot (load c.keys bytes) has.kernel).0 in
    let run : after_entry (build_over c.meaning) c.keys c.size a (Loads slot bytes) rest
    ≡ after_image a n (left_over, answer) rest =
    ap (λ (o : Option abstract.Kernel). running_in (build_over c.meaning) c.keys c.size a
    (Loads slot bytes) o rest) has.is
    ∙ ap (λ (text : List ℕ). after_image a n (left_over, text) rest) new.said_is in
    subst (λ w. LineMatches c.meaning u d.known out w rest) (sym run) (record {
      stands = record {
        setup = stands.setup;
        lines = stands.lines;
        events = sym number;
        refused = stands.refused;
        unbooted = λ down. up_is_down (sym booted ∙ down);
        booted = λ up. record { kernel = left_over; is = refl; stands = new.stands; rests = new.rests };
        blocks = stands.blocks;
      };
      left = refl;
      notes = written.no_notes;
      bytes = written.bytes_are ∙ ap (λ (m : ℕ). line (decimal m ++ 32 ∷ answer)) number;
    })))

-- one event more, in a session whose kernel runs and has the same store
pub one_later : {C B M : Type 0} {P : _} {m : Meaning} (size : ℕ) (s t u : Session C B M P) →
    s.booted ≡ true → s.events < s.lines →
    t ≡ record s { kernel = u.kernel; events = s.events + 1 } →
    u.kernel.running.store ≡ s.kernel.running.store →
    IsKernel m s.events u.kernel.running →
    IsSessionOver m size s → IsSessionOver m size t
one_later {m = m} size s t u up fresh state store kernel within =
    subst (λ (x : Session _ _ _ _). IsSessionOver m size x) (sym state) (record {
      frames_least = within.frames_least;
      frames_most = within.frames_most;
      events = omega (arith, fresh);
      kernel =
          λ b. record {
            running = kernel.running;
            abstraction = kernel.abstraction;
            clock = omega (arith, kernel.clock);
          };
      size_is = λ b. rw store (within.size_is b);
      unbooted = λ down. up_is_down (sym up ∙ down);
    })

-- a session whose line was counted and refused
pub refused_later : {C B M : Type 0} {P : _} {m : Meaning} (size : ℕ) (s t : Session C B M P) →
    t ≡ record s { lines = s.lines + 1; refused = true } →
    IsSessionOver m size s → IsSessionOver m size t
refused_later {m = m} size s t state within =
    subst (λ (x : Session _ _ _ _). IsSessionOver m size x) (sym state) (record {
      frames_least = within.frames_least;
      frames_most = within.frames_most;
      events = omega (arith, within.events);
      kernel = within.kernel;
      size_is = within.size_is;
      unbooted = within.unbooted;
    })

-- a session whose line was counted
pub on_line : {C B M : Type 0} {P : _} {m : Meaning} (size : ℕ) (s : Session C B M P) →
    s.lines < 2 ^ 32 - 2 → IsSessionOver m size s →
    IsOnLine m size (record s { lines = s.lines + 1 })
on_line size s room within =
    record {
      room = omega (arith, room);
      fresh = omega (arith, within.events);
      within = record {
        frames_least = within.frames_least;
        frames_most = within.frames_most;
        events = omega (arith, within.events);
        kernel = within.kernel;
        size_is = within.size_is;
        unbooted = within.unbooted;
      };
    }
