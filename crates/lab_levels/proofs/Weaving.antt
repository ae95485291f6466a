-- What the woven text is: the kernel's bytes and the watcher's lines, all and in their order.
use Rattle.std.proofs.Common.{◌≡◌, ℕ, ◌-◌, ◌≤◌, Bool, true, false, cond, List, [], ◌∷◌, ◌++◌}
use Rattle.std.proofs.Common.{length, take, drop, slice_range, flat_map, arith, refl, sym, ap}
use Rattle.std.proofs.Common.{subst, ◌∙◌, append_assoc}
use Rattle.std.proofs.lemmas.Bool.Decides.{nat_tests}
use Rattle.std.proofs.lemmas.List.Elements.{All-cons, All-nil}
use Rattle.std.proofs.lemmas.List.Folds.{drop_split}
use Rattle.lab_levels.specs.Lines.{Own}
use Rattle.lab_levels.specs.Woven.{Woven, is_whole, own_line, both, kernel_part, Weaves}
use Rattle.lab_levels.specs.Woven.{WeavesLines, reached, standing, woven}

-- a part that ends with a whole line
abbrev Ends : Woven → Type 0
Ends w = is_whole w.kernel ≡ true

-- a line more before what is woven
one : (kernel : List ℕ) (at to : ℕ) (o : Own) (text : List ℕ) (lines : List Own) → at ≤ to →
    is_whole (slice_range kernel at to) ≡ true → WeavesLines text (drop to kernel) lines →
    WeavesLines (slice_range kernel at to ++ own_line o.text ++ text) (drop at kernel) (o ∷ lines)
one kernel at to o text lines order ends w =
    let part : Woven = record { kernel = slice_range kernel at to; text = o.text } in
    record {
      weaves = record {
        parts = part ∷ w.weaves.parts;
        whole = All-cons Ends part w.weaves.parts ends w.weaves.whole;
        last = w.weaves.last;
        text_is =
            ap (λ t. both part ++ t) w.weaves.text_is
            ∙ sym (append_assoc (both part) (flat_map both w.weaves.parts) w.weaves.last);
        kernel_is =
            drop_split kernel at to order
            ∙ ap (λ t. slice_range kernel at to ++ t) w.weaves.kernel_is
            ∙ sym (append_assoc (slice_range kernel at to) (flat_map kernel_part w.weaves.parts) w.weaves.last);
      };
      lines_are = ap (λ ts. o.text ∷ ts) w.lines_are;
    }

-- a line stands no earlier than the one before
pub later : (kernel : List ℕ) (at place : ℕ) → at ≤ length kernel → at ≤ standing kernel at place
later kernel at place inside = grind (arith, nat_tests)

-- and no later than the end
pub within : (kernel : List ℕ) (at place : ℕ) → at ≤ length kernel → standing kernel at place ≤ length kernel
within kernel at place inside = grind (arith, nat_tests)

-- behind a whole line
ends_by : (kernel : List ℕ) (at to : ℕ) (b : Bool) → is_whole (slice_range kernel at to) ≡ b →
    is_whole (slice_range kernel at (cond b to at)) ≡ true
ends_by kernel at to true e = e
ends_by kernel at to false e =
    let none : at - at ≡ 0 = omega arith in ap (λ k. is_whole (take k (drop at kernel))) none

pub weaving : (kernel : List ℕ) (at : ℕ) (lines : List Own) → at ≤ length kernel →
    WeavesLines (woven kernel at lines) (drop at kernel) lines
weaving kernel at [] inside =
    record {
      weaves = record {
        parts = [];
        whole = All-nil Ends;
        last = drop at kernel;
        text_is = refl;
        kernel_is = refl;
      };
      lines_are = refl;
    }
weaving kernel at (o ∷ lines) inside =
    let to = standing kernel at o.place in
    one kernel at to o (woven kernel to lines) lines (later kernel at o.place inside)
    (ends_by kernel at (reached kernel at o.place) (is_whole (slice_range kernel at (reached kernel at o.place))) refl)
    (weaving kernel to lines (within kernel at o.place inside))

-- all of it
pub weaves_lines : (text kernel : List ℕ) (lines : List Own) → text ≡ woven kernel 0 lines →
    WeavesLines text kernel lines
weaves_lines text kernel lines is =
    subst (λ t. WeavesLines t kernel lines) (sym is) (weaving kernel 0 lines (omega arith))

pub weaves : (text kernel : List ℕ) (lines : List Own) → text ≡ woven kernel 0 lines →
    Weaves text kernel
weaves text kernel lines is = (weaves_lines text kernel lines is).weaves
