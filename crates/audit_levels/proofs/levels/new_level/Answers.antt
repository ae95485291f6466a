use Rattle.std.proofs.Common.{◌≡◌, ℕ, Option, List, map, ap, ◌∙◌}
use Rattle.std.specs.Prelude.{option_copied, option_map}
use Rattle.kernel_model.specs.World.{Image}
use Rattle.kernel_model.specs.Machine.{first_machine, fed}
use Rattle.kernel_model.specs.Objects.{Objects}
use Rattle.kernel_model.specs.Levels as model
use Rattle.graft_loader.specs.Slots.{table_of}
use Rattle.audit_table.specs.Tables.{by_place}
use Rattle.audit_state.specs.Accounts.{accounts_of}
use Rattle.audit_state.specs.Things.{things_of, kept_of}
use Rattle.audit_levels.specs.declared.Record.{Record}
use Rattle.audit_levels.specs.Levels.{touched_of, found_of}
use Rattle.audit_levels.proofs.Dropping.{begun_is}
use Rattle.audit_levels.proofs.levels.new_level.Goals as goal

pub returns : goal.returns
returns c = λ bytes.
    let images = table_of c.args.place.now.images.now in
    let p = c.args.place.now.process in
    let b = c.args.begins in
    let w : Objects = record {
      accounts = accounts_of c.args.accounts.now;
      things =
          things_of bytes c.args.things.now;
    } in
    let kept = option_map kept_of (option_copied c.kept-kept.result) in
    let segment : by_place c.segment_of-segment.result.now ≡ model.first_segment images w b.owner b.point =
    c.segment_of-segment.ensures
    ∙ ap (λ (i : Option Image). model.segment_with i (model.keeps_in i) kept) c.image_of-image.ensures
    ∙ ap (λ (k : Option (ℕ → ℕ)). model.segment_with
    (model.image_of images (w.accounts.graft b.owner b.point))
    (model.keeps_in (model.image_of images (w.accounts.graft b.owner b.point))) k)
    (c.kept-kept.ensures bytes) in
    begun_is images w p b.depth b.owner b.point b.args b.fed.now (touched_of b.touched.items) _ _ _
    (c.in_ok-machine.ensures
    ∙ ap (λ (n : ℕ). first_machine n b.args
    (fed b.fed.now (by_place c.segment_of-segment.result.now))) c.base_of-base.ensures
    ∙ ap (λ (f : ℕ → ℕ). first_machine (model.base_of p b.depth) b.args (fed b.fed.now f)) segment)
    (ap (λ (rs : List Record). map found_of rs) c.new.ensures.items)
    (c.in_ok-copy.ensures bytes)
