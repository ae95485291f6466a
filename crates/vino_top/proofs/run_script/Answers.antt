use Rattle.vino_top.proofs.run_script.Goals as goal

pub run_script_with-requires : goal.run_script_with-requires
run_script_with-requires g c = c.requires

pub returns : goal.returns
returns g c = rw c.no_words.ensures at c.run_script_with.ensures
