use Rattle.mailbox_kernel.proofs.load_and_play.Goals as goal

pub play-requires : goal.play-requires
play-requires g c = record { host = c.load.ensures.host _ c.requires.host }
