use Rattle.accessor_list.proofs.Names.{name-id, id-name}
use Rattle.accessor_list.proofs.laws.names_are_ids.Goals as goal

pub returns : goal.returns
returns c id name = (name-id id name, id-name id name)
