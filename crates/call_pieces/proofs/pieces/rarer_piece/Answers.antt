use Rattle.std.proofs.Common.{rules, ℕ, List, None, length, refl, subst}
use Rattle.kernel_model.specs.declared.SysCall.TheVariants.{Spawn, Exit, OpenName, CloseFd, Write}
use Rattle.kernel_model.specs.declared.SysCall.TheVariants.{Sync, Tune, Choose, Give, Install}
use Rattle.kernel_model.specs.declared.SysCall.TheVariants.{Remove, Fund, Bill}
use Rattle.kernel_model.specs.World.{file_named}
use Rattle.kernel_model.specs.Needs.{file_block}
use Rattle.kernel_model.specs.FilePieces.{open_piece, free_descriptor, write_piece}
use Rattle.kernel_state.specs.Stores.{world_of_store, objects_of}
use Rattle.call_needs.specs.Fetching.{store_moment}
use Rattle.call_needs.specs.Works.{bare_stage_of, call_of}
use Rattle.call_needs.proofs.Grants.{exit_granted, close_granted, tune_granted, choose_granted}
use Rattle.call_needs.proofs.Grants.{give_granted, install_granted, remove_granted, fund_granted}
use Rattle.call_needs.proofs.Grants.{bill_granted, write_granted, named}
use Rattle.call_pieces.specs.Shared.{EndsAtOnce, Serves}
use Rattle.call_pieces.proofs.ServesLaws.{by_name, ends_by_name, serves_last}
use Rattle.call_pieces.proofs.pieces.rarer_piece.Goals as goal

-- ---- what each piece asks

pub exit-requires : goal.exit-requires
exit-requires g c =
    record {
      lives = search rules;
      child = exit_granted c.requires.can.due.top (world_of_store c.args.store.now) c.args.work.now.caller
          (call_of c.args.work.now) (c.requires.can.due.due.images, c.requires.can.due.due.granted)
          (named c.args.work.now _ c.in-Exit.is);
    }

pub close-requires : goal.close-requires
close-requires g c =
    record {
      lives = search rules;
      number = close_granted c.requires.can.due.top (world_of_store c.args.store.now) c.args.work.now.caller
          (call_of c.args.work.now) c.in-CloseFd.fd (c.requires.can.due.due.images, c.requires.can.due.due.granted)
          (named c.args.work.now _ c.in-CloseFd.is);
    }

pub write-requires-clause-ready : goal.write-requires-clause-ready
write-requires-clause-ready g c =
    let due = c.requires.can.due.due in
    let x = c.in-Write in
    let granted = write_granted c.requires.can.due.top (world_of_store c.args.store.now)
    c.args.work.now.caller (call_of c.args.work.now) x.fd x.i x.off c.args.work.now.bytes.items
    (due.images, due.granted) (named c.args.work.now _ x.is) in
    record {
      alive = search rules;
      descriptor = granted.0;
      inside = rw c.as_slice-bytes.ensures.value granted.1;
      disk = c.requires.can.disk.disk;
      fresh = c.requires.can.disk.fresh;
    }

pub tune-requires : goal.tune-requires
tune-requires g c =
    record {
      granted = tune_granted c.requires.can.due.top (world_of_store c.args.store.now) c.args.work.now.caller
          (call_of c.args.work.now) c.in-Tune.kind c.in-Tune.k c.in-Tune.v
          (c.requires.can.due.due.images, c.requires.can.due.due.granted)
          (named c.args.work.now _ c.in-Tune.is);
    }

pub choose-requires-clause-kind : goal.choose-requires-clause-kind
choose-requires-clause-kind g c =
    (choose_granted c.requires.can.due.top (world_of_store c.args.store.now) c.args.work.now.caller
    (call_of c.args.work.now) c.in-Choose.kind c.in-Choose.j
    (c.requires.can.due.due.images, c.requires.can.due.due.granted)
    (named c.args.work.now _ c.in-Choose.is)).0

pub choose-requires-clause-granted : goal.choose-requires-clause-granted
choose-requires-clause-granted g c =
    (choose_granted c.requires.can.due.top (world_of_store c.args.store.now) c.args.work.now.caller
    (call_of c.args.work.now) c.in-Choose.kind c.in-Choose.j
    (c.requires.can.due.due.images, c.requires.can.due.due.granted)
    (named c.args.work.now _ c.in-Choose.is)).1

pub give-requires : goal.give-requires
give-requires g c =
    record {
      lives = search rules;
      receiver = give_granted c.requires.can.due.top (world_of_store c.args.store.now) c.args.work.now.caller
          (call_of c.args.work.now) c.in-Give.q c.in-Give.kind c.in-Give.n
          (c.requires.can.due.due.images, c.requires.can.due.due.granted)
          (named c.args.work.now _ c.in-Give.is);
    }

pub install-requires-clause-place : goal.install-requires-clause-place
install-requires-clause-place g c =
    record {
      lives = search rules;
      point = (install_granted c.requires.can.due.top (world_of_store c.args.store.now) c.args.work.now.caller
          (call_of c.args.work.now) c.in-Install.pt c.in-Install.image c.in-Install.limit
          c.requires.can.due.few (c.requires.can.due.due.images, c.requires.can.due.due.granted)
          (named c.args.work.now _ c.in-Install.is)).point;
    }

pub install-requires-clause-image : goal.install-requires-clause-image
install-requires-clause-image g c =
    (install_granted c.requires.can.due.top (world_of_store c.args.store.now) c.args.work.now.caller
    (call_of c.args.work.now) c.in-Install.pt c.in-Install.image c.in-Install.limit
    c.requires.can.due.few (c.requires.can.due.due.images, c.requires.can.due.due.granted)
    (named c.args.work.now _ c.in-Install.is)).number

pub install-requires-clause-some : goal.install-requires-clause-some
install-requires-clause-some g c =
    (install_granted c.requires.can.due.top (world_of_store c.args.store.now) c.args.work.now.caller
    (call_of c.args.work.now) c.in-Install.pt c.in-Install.image c.in-Install.limit
    c.requires.can.due.few (c.requires.can.due.due.images, c.requires.can.due.due.granted)
    (named c.args.work.now _ c.in-Install.is)).some

pub install-requires-clause-most : goal.install-requires-clause-most
install-requires-clause-most g c =
    (install_granted c.requires.can.due.top (world_of_store c.args.store.now) c.args.work.now.caller
    (call_of c.args.work.now) c.in-Install.pt c.in-Install.image c.in-Install.limit
    c.requires.can.due.few (c.requires.can.due.due.images, c.requires.can.due.due.granted)
    (named c.args.work.now _ c.in-Install.is)).most

pub remove-requires : goal.remove-requires
remove-requires g c =
    record {
      place = record {
        lives = search rules;
        point = remove_granted c.requires.can.due.top (world_of_store c.args.store.now) c.args.work.now.caller
            (call_of c.args.work.now) c.in-Remove.pt c.requires.can.due.few
            (c.requires.can.due.due.images, c.requires.can.due.due.granted)
            (named c.args.work.now _ c.in-Remove.is);
      };
    }

pub fund-requires : goal.fund-requires
fund-requires g c =
    record {
      place = record {
        lives = search rules;
        point = fund_granted c.requires.can.due.top (world_of_store c.args.store.now) c.args.work.now.caller
            (call_of c.args.work.now) c.in-Fund.pt c.in-Fund.kind c.in-Fund.n c.requires.can.due.few
            (c.requires.can.due.due.images, c.requires.can.due.due.granted)
            (named c.args.work.now _ c.in-Fund.is);
      };
    }

pub bill-requires : goal.bill-requires
bill-requires g c =
    record {
      place = record {
        lives = search rules;
        point = bill_granted c.requires.can.due.top (world_of_store c.args.store.now) c.args.work.now.caller
            (call_of c.args.work.now) c.in-Bill.pt c.requires.can.due.few
            (c.requires.can.due.due.images, c.requires.can.due.due.granted)
            (named c.args.work.now _ c.in-Bill.is);
      };
    }

-- ---- what came of each piece

pub returns-in-Spawn-clause-done : goal.returns-in-Spawn-clause-done
returns-in-Spawn-clause-done g c =
    rw c.requires.nothing
    (ends_by_name c.args.work.now c.args.answer c.args.store.now c.spawn.new.store
    (g.D.Disk.seen c.args.disk.now) c.args.log.now c.spawn.result Spawn _
    (named c.args.work.now _ c.in-Spawn.is) c.requires.can.disk.fresh (λ blocks io. refl)
    c.spawn.ensures.done)

pub returns-in-Exit-clause-done : goal.returns-in-Exit-clause-done
returns-in-Exit-clause-done g c =
    rw c.requires.nothing
    (ends_by_name c.args.work.now c.args.answer c.args.store.now c.exit.new.store
    (g.D.Disk.seen c.args.disk.now) c.args.log.now c.exit.result Exit _
    (named c.args.work.now _ c.in-Exit.is) c.requires.can.disk.fresh (λ blocks io. refl)
    c.exit.ensures.done)

pub returns-in-OpenName-clause-done : goal.returns-in-OpenName-clause-done
returns-in-OpenName-clause-done g c =
    rw c.requires.nothing
    (ends_by_name c.args.work.now c.args.answer c.args.store.now c.open.new.store
    (g.D.Disk.seen c.args.disk.now) c.args.log.now c.open.result (OpenName c.args.work.now.bytes.items) _
    (named c.args.work.now _ c.in-OpenName.is) c.requires.can.disk.fresh (λ blocks io. refl)
    (let s = c.args.store.now in
    let o = objects_of s in
    let p = c.args.work.now.caller in
    subst (λ (name : List ℕ). EndsAtOnce (open_piece o p (file_named (world_of_store s) name)
    (free_descriptor o.things p 4 0)) s c.open.new.store c.open.result) c.as_slice.ensures.value
    c.open.ensures.done))

pub returns-in-CloseFd-clause-done : goal.returns-in-CloseFd-clause-done
returns-in-CloseFd-clause-done g c =
    rw c.requires.nothing
    (ends_by_name c.args.work.now c.args.answer c.args.store.now c.close.new.store
    (g.D.Disk.seen c.args.disk.now) c.args.log.now c.close.result (CloseFd c.in-CloseFd.fd) _
    (named c.args.work.now _ c.in-CloseFd.is) c.requires.can.disk.fresh (λ blocks io. refl)
    c.close.ensures.done)

pub returns-in-Write-clause-done : goal.returns-in-Write-clause-done
returns-in-Write-clause-done g c =
    rw c.requires.nothing
    (let w = c.args.work.now in
    let s = c.args.store.now in
    let v = world_of_store s in
    let o = objects_of s in
    let x = c.in-Write in
    let before = store_moment s (g.D.Disk.seen c.args.disk.now) c.args.log.now in
    let after = store_moment c.write.new.store (g.D.Disk.seen c.write.new.disk) c.write.new.log in
    by_name w c.args.answer before after None c.write.result (Write x.fd x.i x.off w.bytes.items)
    (λ k. bare_stage_of w) (named w _ x.is)
    (subst (λ (bytes : List ℕ). Serves (λ blocks io. write_piece (file_block v
    (o.things.file w.caller x.fd) x.i x.off (length bytes)) v o blocks w.caller x.off bytes
    c.args.answer io) before after None c.write.result (bare_stage_of w))
    c.as_slice-bytes.ensures.value
    (serves_last _ before after c.write.result (bare_stage_of w) c.write.ensures)))

pub returns-in-Sync-clause-done : goal.returns-in-Sync-clause-done
returns-in-Sync-clause-done g c =
    rw c.requires.nothing
    (let w = c.args.work.now in
    let before = store_moment c.args.store.now (g.D.Disk.seen c.args.disk.now) c.args.log.now in
    let after = store_moment c.sync.new.store (g.D.Disk.seen c.sync.new.disk) c.sync.new.log in
    by_name w c.args.answer before after None c.sync.result Sync (λ k. bare_stage_of w)
    (named w _ c.in-Sync.is)
    (serves_last _ before after c.sync.result (bare_stage_of w) c.sync.ensures.done))

pub returns-in-Tune-clause-done : goal.returns-in-Tune-clause-done
returns-in-Tune-clause-done g c =
    rw c.requires.nothing
    (ends_by_name c.args.work.now c.args.answer c.args.store.now c.tune.new.store
    (g.D.Disk.seen c.args.disk.now) c.args.log.now c.tune.result (Tune c.in-Tune.kind c.in-Tune.k c.in-Tune.v) _
    (named c.args.work.now _ c.in-Tune.is) c.requires.can.disk.fresh (λ blocks io. refl)
    c.tune.ensures.done)

pub returns-in-Choose-clause-done : goal.returns-in-Choose-clause-done
returns-in-Choose-clause-done g c =
    rw c.requires.nothing
    (ends_by_name c.args.work.now c.args.answer c.args.store.now c.choose.new.store
    (g.D.Disk.seen c.args.disk.now) c.args.log.now c.choose.result (Choose c.in-Choose.kind c.in-Choose.j) _
    (named c.args.work.now _ c.in-Choose.is) c.requires.can.disk.fresh (λ blocks io. refl)
    c.choose.ensures.done)

pub returns-in-Give-clause-done : goal.returns-in-Give-clause-done
returns-in-Give-clause-done g c =
    rw c.requires.nothing
    (ends_by_name c.args.work.now c.args.answer c.args.store.now c.give.new.store
    (g.D.Disk.seen c.args.disk.now) c.args.log.now c.give.result (Give c.in-Give.q c.in-Give.kind c.in-Give.n) _
    (named c.args.work.now _ c.in-Give.is) c.requires.can.disk.fresh (λ blocks io. refl)
    c.give.ensures.done)

pub returns-in-Install-clause-done : goal.returns-in-Install-clause-done
returns-in-Install-clause-done g c =
    rw c.requires.nothing
    (ends_by_name c.args.work.now c.args.answer c.args.store.now c.install.new.store
    (g.D.Disk.seen c.args.disk.now) c.args.log.now c.install.result
    (Install c.in-Install.pt c.in-Install.image c.in-Install.limit) _
    (named c.args.work.now _ c.in-Install.is) c.requires.can.disk.fresh (λ blocks io. refl)
    c.install.ensures.done)

pub returns-in-Remove-clause-done : goal.returns-in-Remove-clause-done
returns-in-Remove-clause-done g c =
    rw c.requires.nothing
    (ends_by_name c.args.work.now c.args.answer c.args.store.now c.remove.new.store
    (g.D.Disk.seen c.args.disk.now) c.args.log.now c.remove.result (Remove c.in-Remove.pt) _
    (named c.args.work.now _ c.in-Remove.is) c.requires.can.disk.fresh (λ blocks io. refl)
    c.remove.ensures.done)

pub returns-in-Fund-clause-done : goal.returns-in-Fund-clause-done
returns-in-Fund-clause-done g c =
    rw c.requires.nothing
    (ends_by_name c.args.work.now c.args.answer c.args.store.now c.fund.new.store
    (g.D.Disk.seen c.args.disk.now) c.args.log.now c.fund.result (Fund c.in-Fund.pt c.in-Fund.kind c.in-Fund.n) _
    (named c.args.work.now _ c.in-Fund.is) c.requires.can.disk.fresh (λ blocks io. refl)
    c.fund.ensures.done)

pub returns-in-Bill-clause-done : goal.returns-in-Bill-clause-done
returns-in-Bill-clause-done g c =
    rw c.requires.nothing
    (ends_by_name c.args.work.now c.args.answer c.args.store.now c.bill.new.store
    (g.D.Disk.seen c.args.disk.now) c.args.log.now c.bill.result (Bill c.in-Bill.pt) _
    (named c.args.work.now _ c.in-Bill.is) c.requires.can.disk.fresh (λ blocks io. refl)
    c.bill.ensures.done)
