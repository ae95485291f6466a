use Rattle.ram_space.proofs.Pages.{blank_length}
use Rattle.ram_space.proofs.Ram.new.Goals as goal

pub returns-in-Ok-clause-size : goal.returns-in-Ok-clause-size
returns-in-Ok-clause-size c =
    blank_length c.no_places.result c.in-Ok.bytes.items c.no_places.ensures c.in-Ok.ensures.zeros
