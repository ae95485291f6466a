-- Codes, kinds and numbers of policies; the chosen policy alone answers as the value of its kind.
use Rattle.std.proofs.Common.{◌≡◌, ℕ, ◌<◌, max, Bool, true, cond, ◌==◌, List, slice_index, refl, sym, ◌∙◌, ap, arith}
use Rattle.std.proofs.Math.Path.{fun_ext}
use Rattle.std.proofs.lemmas.Bool.Decides.{nat_tests}
use Rattle.kernel_model.specs.declared.FrameRow.{FrameRow}
use Rattle.kernel_model.specs.declared.QueueRow.{QueueRow}
use Rattle.kernel_model.specs.Objects.{PolValue}
use Rattle.kernel_model.specs.Early.{policy_count}
use Rattle.kernel_model.specs.Access.{param_top}
use Rattle.kernel_model.specs.Policies.{least, or_zero, process_in, ahead_count}
use Rattle.graft_points.specs.declared.ask.Ask.{Ask}
use Rattle.graft_points.specs.declared.ask.Ask.TheVariants.{Ahead, Victim, Next}
use Rattle.graft_points.specs.Views.{PolicyView, kind_of_code, number_of_code, top_of_code}
use Rattle.graft_points.specs.Views.{as_chosen, asked_kind, answer_by, answer_of, frame_in}
use Rattle.graft_points.specs.Shelf.{IsShelf, code_of, view_at, is_policy, param_on, pol_of}

pub code_below : (kind c : ℕ) → kind < 3 → c < policy_count kind → code_of kind c < 7
code_below kind c h i = grind (arith, nat_tests)

pub kind_of_its_code : (kind c : ℕ) → kind < 3 → c < policy_count kind → kind_of_code (code_of kind c) ≡ kind
kind_of_its_code kind c h i = grind (arith, nat_tests)

pub number_of_its_code : (kind c : ℕ) → kind < 3 → c < policy_count kind → number_of_code (code_of kind c) ≡ c
number_of_its_code kind c h i = rw (kind_of_its_code kind c h i) (omega arith)

pub top_of_its_code : (kind c : ℕ) → kind < 3 → c < policy_count kind → top_of_code (code_of kind c) ≡ param_top kind c
top_of_its_code kind c h i =
    rw (number_of_its_code kind c h i) (ap (λ k. param_top k c) (kind_of_its_code kind c h i))

-- the policy of a code, among those of a kind, is one that the kind has
pub is_its_policy : (kind c : ℕ) → kind < 3 → c < policy_count kind → is_policy kind c ≡ true
is_its_policy kind c h i = grind (arith, nat_tests)

ahead_alike : (p q : PolValue) (seq : Bool) (window left : ℕ) → p.chosen ≡ q.chosen → q.chosen < 3 →
    p.param q.chosen ≡ q.param q.chosen → ahead_count p seq window left ≡ ahead_count q seq window left
ahead_alike p q seq window left e h same = grind (arith, nat_tests)

key_alike : (p q : PolValue) (n : ℕ) → p.chosen ≡ q.chosen → q.chosen < 2 → p.param q.chosen ≡ q.param q.chosen →
    cond (p.chosen == 0) 0 (max n (p.param 1)) ≡ cond (q.chosen == 0) 0 (max n (q.param 1))
key_alike p q n e h same = grind (arith, nat_tests)

-- two values that agree on which policy is chosen, and on its parameter, answer alike
pub answers_alike : (p q : PolValue) (ask : Ask) → p.chosen ≡ q.chosen → q.chosen < policy_count (asked_kind ask) →
    p.param q.chosen ≡ q.param q.chosen → answer_by p ask ≡ answer_by q ask
answers_alike p q (Ahead seq window left) e h same = ahead_alike p q seq window left e h same
answers_alike p q (Victim rows) e h same =
    ap (λ key. or_zero (frame_in (least key rows.now))) (fun_ext (λ (r : FrameRow). key_alike p q r.mark e h same))
answers_alike p q (Next rows) e h same =
    ap (λ key. or_zero (process_in (least key rows.now))) (fun_ext (λ (r : QueueRow). key_alike p q r.nice e h same))

-- the chosen policy of a kind answers as the value of the kind says
pub chosen_answers : (views : List PolicyView) (choice : List ℕ) (kind : ℕ) (ask : Ask) → IsShelf views → kind < 3 →
    slice_index choice kind < policy_count kind → asked_kind ask ≡ kind →
    answer_of (view_at views (code_of kind (slice_index choice kind))) ask ≡ answer_by (pol_of views choice kind) ask
chosen_answers views choice kind ask shelf h i asked =
    let c = slice_index choice kind in
    let here = (shelf.each (code_of kind c) (code_below kind c h i)).code in
    let number : number_of_code (view_at views (code_of kind c)).code ≡ c = ap number_of_code here
    ∙ number_of_its_code kind c h i in
    let param : param_on views kind c ≡ slice_index (view_at views (code_of kind c)).params 0 =
    rw (is_its_policy kind c h i) refl in
    answers_alike (as_chosen (view_at views (code_of kind c))) (pol_of views choice kind) ask number
    (rw asked i) (sym param)
