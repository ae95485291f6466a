use Rattle.call_laws.specs.StreamWrites.{writes_put_what_came_out}
use Rattle.call_laws.proofs.streams.writes_put_what_came_out.Goals as goal

pub returns : goal.returns
returns c = writes_put_what_came_out
