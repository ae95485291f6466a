use Rattle.ram_space.proofs.Pages.{first_page}
use Rattle.ram_space.proofs.zero_page.Goals as goal

pub returns-clause-zeros : goal.returns-clause-zeros
returns-clause-zeros c =
    first_page c.in_ok-bytes.bytes.items c.reach.new.self.items c.reach.ensures.items
    c.in_ok-bytes.ensures.items
