use Rattle.std.proofs.Common.{sym, subst}
use Rattle.kernel_data.specs.World.{ImageTable}
use Rattle.kernel_model.specs.Alike.{Extends}
use Rattle.kernel_model.specs.ImageLines as image_lines
use Rattle.graft_levels.specs.Slots.{table_of}
use Rattle.placed_laws.proofs.Laws.{others_stand, images_keep_rest}
use Rattle.running_kernel.specs.Views.{placed_of}
use Rattle.running_kernel.proofs.OpeningLemmas.{extends_at, runs_with_more, stands_added, rests_added}
use Rattle.running_kernel.proofs.running.Running.add_image.Goals as goal

pub returns-clause-stands : goal.returns-clause-stands
returns-clause-stands g c =
    let m = g.C.Meaning.Rules.meaning in
    λ k stands.
    let x = placed_of c.args.self.now in
    stands_added m (others_stand m g.C.Meaning.Rules.laws) x k c.args.slot c.args.image
    (table_of c.add.new.self) c.add.ensures.table c.requires.free stands

pub returns-clause-rests : goal.returns-clause-rests
returns-clause-rests g c =
    let m = g.C.Meaning.Rules.meaning in
    λ k stands rests.
    let x = placed_of c.args.self.now in
    rests_added m (images_keep_rest m g.C.Meaning.Rules.laws) x k c.args.slot c.args.image c.requires.free stands rests

pub returns-clause-sound : goal.returns-clause-sound
returns-clause-sound g c =
    let m = g.C.Meaning.Rules.meaning in
    let x = placed_of c.args.self.now in
    let k = c.requires.sound.abstraction.kernel in
    record {
      running = runs_with_more c.args.self.now c.add.new.self c.requires.sound.running
          (subst (λ (t : ImageTable). Extends (table_of c.args.self.now.images) t)
          (sym c.add.ensures.table) (extends_at c.args.slot c.args.image
          (table_of c.args.self.now.images) c.requires.free));
      abstraction = record {
        kernel = image_lines.add_image c.args.slot c.args.image k;
        stands =
            stands_added m (others_stand m g.C.Meaning.Rules.laws) x k c.args.slot
            c.args.image (table_of c.add.new.self) c.add.ensures.table c.requires.free
            c.requires.sound.abstraction.stands;
      };
    }
