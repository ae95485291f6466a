use Rattle.kernel_model.specs.FilePieces.{with_ahead}
use Rattle.kernel_state.specs.Stores.{objects_of}
use Rattle.call_pieces.proofs.ReadLaws.{file_here, changed_file, goes_second}
use Rattle.call_pieces.proofs.reads.second.Goals as goal

pub returns-clause-next : goal.returns-clause-next
returns-clause-next g c =
    λ _.
    let r = c.args.r in
    let s = objects_of c.args.store.now in
    let t = objects_of c.set_ahead.new.self in
    let ahead = c.reach-ahead.result in
    goes_second c.args.opened _ _
    (file_here s t r.p r.fd _
    (changed_file s t r.p r.fd (with_ahead ahead.start ahead.count) c.args.opened c.requires.file
    c.set_ahead.ensures.objects))
    c.if-ahead-eq0.false c.reach-ahead.ensures.sound.count
