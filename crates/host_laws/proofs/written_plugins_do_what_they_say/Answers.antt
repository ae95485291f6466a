use Rattle.host_laws.proofs.Written.{written}
use Rattle.host_laws.proofs.written_plugins_do_what_they_say.Goals as goal

pub returns : goal.returns
returns c = written c.sealed_images_load.ensures c.boxed_calls_are_raw.ensures
