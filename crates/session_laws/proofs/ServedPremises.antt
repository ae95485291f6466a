-- A run in which a handler's answer is sent; and premises of the law that can't be left out: for
-- each a small example in which the law would be false.
use Rattle.std.specs.Prelude.{◌≡◌, ℕ, ◌<◌, false, List, [], ◌∷◌, ◌++◌, Some, None}
use Rattle.std.proofs.Common.{arith, refl}
use Rattle.script_model.specs.declared.Event.{Event}
use Rattle.script_model.specs.declared.Event.TheVariants.{Sys, Step}
use Rattle.script_model.specs.declared.Op.TheVariants.{Ret}
use Rattle.script_model.specs.declared.SysCall.TheVariants.{Serve}
use Rattle.script_model.specs.World.{World, ImageTable, plain_image}
use Rattle.script_model.specs.Objects.{Objects, at, at2}
use Rattle.script_model.specs.Meaning.{stage}
use Rattle.script_model.specs.Kernel.{Kernel, new_entry}
use Rattle.script_model.specs.Opening.{opening_kernel, opening_objects}
use Rattle.script_model.specs.AllCalls.{all_calls}
use Rattle.session_laws.specs.Shown.{run_from}
use Rattle.session_laws.specs.Sent.{those, sent, given, run_answers, run_completed, run_taken}
use Rattle.session_laws.specs.Served.{TellAnswers}

-- a world of the least size
abbrev small_world : World
small_world = record { frames = 2; patience = λ kind. 10; grant = 0; disk_size = 1; directory = []; callable = 15 }

-- each image answers at once with its arguments: the number of the port, and so as many bytes of what it is fed
abbrev answering : ImageTable
answering slot = Some (plain_image (record { op = Ret; a = 0; b = 0; c = 0; imm = 0 } ∷ []) [])

-- process 0 has a handler at port 1, which can pay for ten steps
abbrev with_handler : Objects
with_handler =
    let s = opening_objects 0 in
    record {
      accounts = record (s.accounts) {
        graft = at2 0 7 (Some (record { image = 0; limit = 10; billed = false; balance = λ k. 10 })) s.accounts.graft;
      };
      things = record (s.things) { handlers = (0, 7) ∷ [] };
    }

abbrev handling : Kernel
handling = record (opening_kernel small_world) { images = answering; objects = with_handler }

-- ---- an answer is sent

-- the port is served, and an instruction is taken
abbrev served_once : List (ℕ × Event)
served_once = (1, Sys 0 (Serve 1 (7 ∷ 9 ∷ []))) ∷ (2, Step 0 1) ∷ []

answer_is_sent : sent 1 (run_answers all_calls handling (λ i. []) served_once []) ≡ (7 ∷ []) ∷ []
answer_is_sent = refl

notes_tell_it : given 1 (run_from all_calls handling (λ i. []) served_once []).notes ≡ (7 ∷ []) ∷ []
notes_tell_it = refl

handler_completes : those 1 (run_completed all_calls handling (λ i. []) served_once []) ≡ (0, 7) ∷ []
handler_completes = refl

handler_is_taken : those 1 (run_taken all_calls handling (λ i. []) served_once []) ≡ (0, 7) ∷ []
handler_is_taken = refl

-- ---- numbers

-- the number stands with a later event too: the first call ended with one answer, and there are two
abbrev served_twice : List (ℕ × Event)
served_twice = served_once ++ (1, Sys 0 (Serve 1 (9 ∷ []))) ∷ (3, Step 0 1) ∷ []

other_numbers_needed :
    TellAnswers 1 (run_from all_calls handling (λ i. []) served_twice []).notes
    (run_answers all_calls handling (λ i. []) served_twice [])
    (run_completed all_calls handling (λ i. []) served_twice [])
    (run_taken all_calls handling (λ i. []) served_twice []) →
    ⊥
other_numbers_needed h = apart (h.number 1 (2, within, refl))
  where
    within : 2 < 8
    within = omega arith

    apart : ◌≡◌ {A = ℕ} 1 2 → ⊥
    apart e = omega arith

-- a call in flight has the number already: it ends with the three answers of an earlier time, and there is none
abbrev serving : Kernel
serving =
    let k = opening_kernel small_world in
    record k {
      objects = record (k.objects) {
        things = record (k.objects.things) {
          queue = record { process = 0; nice = 20; slices = 0 } ∷ record { process = 1; nice = 20; slices = 0 } ∷ [];
        };
      };
      call =
          at 0 (Some (record {
            number = 1;
            stage = record (stage (Serve 1 []) 1) { answers = 3 };
            marks = None;
          })) k.call;
      order = new_entry 0 ∷ [];
    }

abbrev serves_beside : List (ℕ × Event)
serves_beside = (1, Sys 1 (Serve 1 [])) ∷ []

new_number_needed :
    TellAnswers 1 (run_from all_calls serving (λ i. []) serves_beside []).notes
    (run_answers all_calls serving (λ i. []) serves_beside [])
    (run_completed all_calls serving (λ i. []) serves_beside [])
    (run_taken all_calls serving (λ i. []) serves_beside []) →
    ⊥
new_number_needed h = apart (h.number 3 (0, within, refl))
  where
    within : 0 < 2
    within = omega arith

    apart : ◌≡◌ {A = ℕ} 3 0 → ⊥
    apart e = omega arith
