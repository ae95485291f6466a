use Rattle.host_laws.proofs.WrittenHistories.{completed}
use Rattle.host_laws.proofs.completed_calls_are_as_written.Goals as goal

pub returns : goal.returns
returns c =
    completed c.stays_inside.ensures c.rewritten_is_boxed.ensures c.boxed_does_what_raw_does.ensures
    c.sealed_images_load.ensures c.calls_are_one_at_a_time.ensures
