use Rattle.kernel_model.specs.declared.BareCall.TheVariants as bare
use Rattle.call_pieces.specs.Stores.{objects_of}
use Rattle.call_pieces.specs.Works.{answer_seen, stage_of}
use Rattle.event_points.proofs.LeftLaws.{of_call, gives_none}
use Rattle.event_points.proofs.pieces.piece.Goals as goal

pub returns-in-Serve-clause-does : goal.returns-in-Serve-clause-does
returns-in-Serve-clause-does g c =
    λ blocks known tells.
    let w = c.args.work.now in
    let s = c.args.store.now in
    of_call w (bare.Serve c.in-Serve.port) (objects_of s) _ blocks
    (answer_seen s.ram w.caller c.args.answer) known _ _ c.in-Serve.is
    (c.serve.ensures.does blocks known tells)

pub returns-in-Install-clause-does : goal.returns-in-Install-clause-does
returns-in-Install-clause-does g c =
    λ blocks known tells.
    let w = c.args.work.now in
    let s = c.args.store.now in
    gives_none w (bare.Install c.in-Install.pt c.in-Install.image c.in-Install.limit) (objects_of s) _ blocks
    (answer_seen s.ram w.caller c.args.answer) known _ _ c.in-Install.is c.clear.ensures
    (c.install.ensures.done.does blocks known (stage_of w) tells)

pub returns-in-Remove-clause-does : goal.returns-in-Remove-clause-does
returns-in-Remove-clause-does g c =
    λ blocks known tells.
    let w = c.args.work.now in
    let s = c.args.store.now in
    gives_none w (bare.Remove c.in-Remove.pt) (objects_of s) _ blocks
    (answer_seen s.ram w.caller c.args.answer) known _ _ c.in-Remove.is c.clear.ensures
    (c.remove.ensures.done.does blocks known (stage_of w) tells)

pub returns-in-Fund-clause-does : goal.returns-in-Fund-clause-does
returns-in-Fund-clause-does g c =
    λ blocks known tells.
    let w = c.args.work.now in
    let s = c.args.store.now in
    gives_none w (bare.Fund c.in-Fund.pt c.in-Fund.kind c.in-Fund.n) (objects_of s) _ blocks
    (answer_seen s.ram w.caller c.args.answer) known _ _ c.in-Fund.is c.clear.ensures
    (c.fund.ensures.done.does blocks known (stage_of w) tells)

pub returns-in-Bill-clause-does : goal.returns-in-Bill-clause-does
returns-in-Bill-clause-does g c =
    λ blocks known tells.
    let w = c.args.work.now in
    let s = c.args.store.now in
    gives_none w (bare.Bill c.in-Bill.pt) (objects_of s) _ blocks
    (answer_seen s.ram w.caller c.args.answer) known _ _ c.in-Bill.is c.clear.ensures
    (c.bill.ensures.done.does blocks known (stage_of w) tells)
