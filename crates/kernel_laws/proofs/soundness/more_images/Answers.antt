use Rattle.kernel_laws.proofs.ImageLemmas.{more_images}
use Rattle.kernel_laws.proofs.soundness.more_images.Goals as goal

pub returns : goal.returns
returns c = more_images
