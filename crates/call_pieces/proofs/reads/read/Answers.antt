use Rattle.std.proofs.Common.{rules, ◌≡◌, ℕ, arith, Option, None, sym, ap, ◌∙◌, subst}
use Rattle.kernel_model.specs.declared.OpenRow.{OpenRow}
use Rattle.kernel_model.specs.declared.Refusal.TheVariants.{BadFd}
use Rattle.kernel_model.specs.FilePieces.{read_piece}
use Rattle.kernel_state.specs.Stores.{world_of_store, objects_of}
use Rattle.call_needs.specs.Fetching.{store_moment}
use Rattle.call_pieces.specs.Shared.{Serves, read_stage, read_of, first_of, second_of, later_of}
use Rattle.call_pieces.proofs.ReadLaws.{read_zero, read_one, read_later, few_kinds}
use Rattle.call_pieces.proofs.ServesLaws.{serves_as, serves_at_once, serves_refused}
use Rattle.call_pieces.proofs.reads.read.Goals as goal

pub returns-in_default-clause-done : goal.returns-in_default-clause-done
returns-in_default-clause-done g c =
    rw c.requires.nothing
    (let s = c.args.store.now in
    let r = c.args.r in
    let o = objects_of s in
    serves_refused (read_of s c.args.piece.now r) s (g.D.Disk.seen c.args.disk.now) c.args.log.now
    BadFd _ c.requires.ready.fresh
    (λ blocks w. ap (λ (x : Option OpenRow). read_piece c.args.piece.now (world_of_store s) o blocks
    r.p r.fd r.i r.off r.len x r.answer w) (sym c.file.ensures.value ∙ c.in_default.is))
    (search rules))

pub returns-in-0-clause-done : goal.returns-in-0-clause-done
returns-in-0-clause-done g c =
    let s = c.args.store.now in
    let r = c.args.r in
    serves_as (read_of s c.args.piece.now r) (first_of s r c.in-Some.opened)
    (store_moment s (g.D.Disk.seen c.args.disk.now) c.args.log.now)
    (store_moment c.first.new.store (g.D.Disk.seen c.first.new.disk) c.first.new.log) c.first.new.gave
    c.first.result (read_stage r 1)
    (λ blocks w. read_zero c.args.piece.now (world_of_store s) (objects_of s) blocks r.p r.fd r.i
    r.off r.len _ c.in-Some.opened r.answer w c.in-0.is (sym c.file.ensures.value ∙ c.in-Some.is))
    c.first.ensures.done

pub returns-in-1-clause-done : goal.returns-in-1-clause-done
returns-in-1-clause-done g c =
    rw c.requires.nothing
    (let s = c.args.store.now in
    let r = c.args.r in
    serves_at_once (read_of s c.args.piece.now r) (second_of s r c.in-Some.opened) s
    c.second.new.store (g.D.Disk.seen c.args.disk.now) c.args.log.now c.second.result (read_stage r 2)
    c.requires.ready.fresh
    (λ blocks w. read_one c.args.piece.now (world_of_store s) (objects_of s) blocks r.p r.fd r.i
    r.off r.len _ c.in-Some.opened r.answer w c.in-1.is (sym c.file.ensures.value ∙ c.in-Some.is))
    c.second.ensures.done)

pub returns-in_default-piece-clause-done : goal.returns-in_default-piece-clause-done
returns-in_default-piece-clause-done g c =
    rw c.requires.nothing
    (let s = c.args.store.now in
    let r = c.args.r in
    let before = store_moment s (g.D.Disk.seen c.args.disk.now) c.args.log.now in
    let after = store_moment c.later.new.store (g.D.Disk.seen c.later.new.disk) c.later.new.log in
    let few = few_kinds r.fd c.args.piece.now _ c.requires.fits in
    let third : c.args.piece.now ≡ 2 = omega arith in
    subst (λ (k : ℕ). Serves (read_of s c.args.piece.now r) before after None c.later.result
    (read_stage r k)) (sym third)
    (serves_as (read_of s c.args.piece.now r) (later_of s r c.in-Some.opened) before after None
    c.later.result (read_stage r 2)
    (λ blocks w. read_later c.args.piece.now (world_of_store s) (objects_of s) blocks r.p r.fd r.i
    r.off r.len _ c.in-Some.opened r.answer w third (sym c.file.ensures.value ∙ c.in-Some.is))
    c.later.ensures.done))
