use Rattle.std.proofs.Common.{refl, ap, ◌∙◌, ◌++◌}
use Rattle.lab_codes.specs.Rows.{part}
use Rattle.lab_codes.proofs.Joined.{joined}
use Rattle.lab_codes.proofs.explain.append_explained.Goals as goal

pub returns : goal.returns
returns c =
    let old = c.args.out.now.items in
    let code = c.in_ok-append.ensures ∙ ap (λ t. old ++ t) c.text_of.ensures in
    let meaning = joined _ _ _ _ _ _ code c.in_ok-append_part.ensures refl in
    let cause = joined _ _ _ _ _ _ meaning c.in_ok-append_part-2.ensures refl in
    let page = joined _ _ _ _ _ _ cause c.in_ok-append_part-3.ensures (ap (part _) c.page_of.ensures) in
    let example = joined _ _ _ _ _ _ page c.in_ok-append_part-4.ensures refl in
    joined _ _ _ _ _ _ example c.in_ok-append-2.ensures refl
