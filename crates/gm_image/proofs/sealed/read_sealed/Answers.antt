use Rattle.gm_image.proofs.Splitting.{refused}
use Rattle.gm_image.proofs.sealed.read_sealed.Goals as goal

pub returns-in-Some-clause-err : goal.returns-in-Some-clause-err
returns-in-Some-clause-err c = refused c.in-Some.fault c.args.bytes.now cc
