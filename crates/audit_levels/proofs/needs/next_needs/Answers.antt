use Rattle.std.proofs.Common.{◌≡◌, ◌≤◌, List, length, get_or, subst}
use Rattle.graft_loader.specs.Slots.{table_of}
use Rattle.audit_state.specs.Accounts.{accounts_of}
use Rattle.audit_state.specs.Worlds.{world_of}
use Rattle.audit_levels.specs.declared.Level.{Level}
use Rattle.audit_levels.proofs.Going.{if_ok}
use Rattle.audit_levels.proofs.Innermost.{needs_of_first}
use Rattle.audit_levels.proofs.needs.next_needs.Goals as goal

pub returns-in-len1-up : goal.returns-in-len1-up
returns-in-len1-up c =
    let l = c.l-item.result in
    let items = c.as_slice.ensures.value in
    if_ok c.level_needs.result
    (λ ns said bytes.
    needs_of_first bytes (world_of c.args.place.now.world.now) (table_of c.args.place.now.images.now)
    (accounts_of c.args.config.now.accounts) c.args.config.now.levels.items l ns.items
    (subst (λ (xs : List Level). 1 ≤ length xs) items c.in-len1-up.len_at_least)
    (subst (λ (xs : List Level). l ≡ get_or xs 0 l) items c.l-item.is) (said bytes))
    c.level_needs.ensures
