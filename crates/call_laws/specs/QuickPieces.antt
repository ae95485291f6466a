-- The calls whose one piece ends them and leaves the disk alone: all but yield, read, write and
-- sync.
use Rattle.std.specs.Prelude.{◌≡◌, ℕ, Bool, true, false, nat_lt, ◌==◌, List, Option, Some, None}
use Rattle.std.proofs.Common.{refl}
use Rattle.kernel_model.specs.declared.Kind.{Kind}
use Rattle.kernel_model.specs.declared.Refusal.{Refusal}
use Rattle.kernel_model.specs.declared.Refusal.TheVariants.{DiskFault}
use Rattle.kernel_model.specs.declared.SysCall.{SysCall}
use Rattle.kernel_model.specs.declared.SysCall.TheVariants.{Spawn, Exit, Yield, OpenName, CloseFd}
use Rattle.kernel_model.specs.declared.SysCall.TheVariants.{Read, Write, Sync, TakeLock, FreeLock}
use Rattle.kernel_model.specs.declared.SysCall.TheVariants.{Poke, Peek, Tune, Choose, Give, Install}
use Rattle.kernel_model.specs.declared.SysCall.TheVariants.{Remove, Fund, Bill}
use Rattle.kernel_model.specs.declared.OpenRow.{OpenRow}
use Rattle.kernel_model.specs.World.{World, Blocks, file_named}
use Rattle.kernel_model.specs.Objects.{Objects, GraftValue}
use Rattle.kernel_model.specs.Policies.{lives}
use Rattle.kernel_model.specs.Access.{param_top, in_range}
use Rattle.kernel_model.specs.Meaning.{Piece, After, Fails}
use Rattle.kernel_model.specs.Needs.{free_process}
use Rattle.kernel_model.specs.FilePieces.{free_descriptor, open_piece, close_piece}
use Rattle.kernel_model.specs.Pieces.{spawn_piece, lock_piece, unlock_piece, tune_piece, pay_piece}
use Rattle.kernel_model.specs.Pieces.{give_piece, new_graft, install_piece, remove_piece}
use Rattle.kernel_model.specs.Pieces.{fund_piece, bill_piece, piece_of}
use Rattle.kernel_model.specs.Laws.{continues}

-- a refusal is that of a failed call of the disk
abbrev pub is_disk_fault : Refusal → Bool
is_disk_fault DiskFault = true
is_disk_fault _ = false

-- the call is refused for a failed call of the disk
abbrev pub is_faulty : After → Bool
is_faulty (Fails why) = is_disk_fault why
is_faulty _ = false

-- a piece that ends its call and makes no call of the disk
pub record IsQuick (x : Piece) : Type 0 where
  pub stops : continues x.after ≡ false
  pub calls : x.calls ≡ 0
  pub faultless : is_faulty x.after ≡ false

-- the call has one piece, which is quick
abbrev pub is_quick : SysCall → Bool
is_quick Yield = false
is_quick (Read fd i off len) = false
is_quick (Write fd i off bytes) = false
is_quick Sync = false
is_quick c = true

-- the piece of a spawn, for the number that is free
quick_spawn : (s : Objects) (c : Option ℕ) (blocks : Blocks) → IsQuick (spawn_piece s c blocks)
quick_spawn s None blocks = record { stops = refl; calls = refl; faultless = refl }
quick_spawn s (Some c) blocks = record { stops = refl; calls = refl; faultless = refl }

-- the piece of an open, for the file and the descriptor
quick_open : (s : Objects) (p : ℕ) (file fd : Option ℕ) (blocks : Blocks) →
    IsQuick (open_piece s p file fd blocks)
quick_open s p None fd blocks = record { stops = refl; calls = refl; faultless = refl }
quick_open s p (Some n) None blocks = record { stops = refl; calls = refl; faultless = refl }
quick_open s p (Some n) (Some fd) blocks = record { stops = refl; calls = refl; faultless = refl }

-- the piece of a close, for what stands open
quick_close : (s : Objects) (p fd : ℕ) (o : Option OpenRow) (blocks : Blocks) →
    IsQuick (close_piece s p fd o blocks)
quick_close s p fd None blocks = record { stops = refl; calls = refl; faultless = refl }
quick_close s p fd (Some o) blocks = record { stops = refl; calls = refl; faultless = refl }

-- the piece of a lock, for its holder
quick_lock : (s : Objects) (p u : ℕ) (h : Option ℕ) (blocks : Blocks) →
    IsQuick (lock_piece s p u h blocks)
quick_lock s p u None blocks = record { stops = refl; calls = refl; faultless = refl }
quick_lock s p u (Some h) blocks = record { stops = refl; calls = refl; faultless = refl }

-- of two quick pieces either is quick
quick_either : (b : Bool) (x y : Piece) → IsQuick x → IsQuick y →
    IsQuick (elim b [ true ↦ x | false ↦ y ])
quick_either true x y k l = k
quick_either false x y k l = l

-- the piece of an unlock, for the lock's holder
quick_unlock : (s : Objects) (p u : ℕ) (h : Option ℕ) (blocks : Blocks) →
    IsQuick (unlock_piece s p u h blocks)
quick_unlock s p u None blocks = record { stops = refl; calls = refl; faultless = refl }
quick_unlock s p u (Some h) blocks =
    quick_either (h == p) _ _ (record { stops = refl; calls = refl; faultless = refl })
    (record { stops = refl; calls = refl; faultless = refl })

-- the piece of a tuning
quick_tune : (s : Objects) (kind k x : ℕ) (blocks : Blocks) → IsQuick (tune_piece s kind k x blocks)
quick_tune s kind k x blocks =
    quick_either (in_range (param_top kind (s.things.pol kind).chosen) k x) _ _
    (record { stops = refl; calls = refl; faultless = refl })
    (record { stops = refl; calls = refl; faultless = refl })

-- a payment, for whether the account has too little
quick_pay : (s : Objects) (p q : ℕ) (k : Kind) (n : ℕ) (blocks : Blocks) (short : Bool) →
    IsQuick (pay_piece s p q k n blocks short)
quick_pay s p q k n blocks true = record { stops = refl; calls = refl; faultless = refl }
quick_pay s p q k n blocks false = record { stops = refl; calls = refl; faultless = refl }

-- the piece of a gift, for whether the receiver lives
quick_give : (s : Objects) (p q : ℕ) (k : Kind) (n : ℕ) (blocks : Blocks) (alive : Bool) →
    IsQuick (give_piece s p q k n blocks alive)
quick_give s p q k n blocks false = record { stops = refl; calls = refl; faultless = refl }
quick_give s p q k n blocks true =
    quick_pay s p q k n blocks (nat_lt ((s.accounts.acct p).balance k) n)

-- the piece of an install, for what stands at the point
quick_install : (s : Objects) (p pt : ℕ) (g : GraftValue) (o : Option GraftValue)
    (blocks : Blocks) → IsQuick (install_piece s p pt g o blocks)
quick_install s p pt g None blocks = record { stops = refl; calls = refl; faultless = refl }
quick_install s p pt g (Some h) blocks = record { stops = refl; calls = refl; faultless = refl }

-- the piece of a remove, for what stands at the point
quick_remove : (s : Objects) (p pt : ℕ) (o : Option GraftValue) (blocks : Blocks) →
    IsQuick (remove_piece s p pt o blocks)
quick_remove s p pt None blocks = record { stops = refl; calls = refl; faultless = refl }
quick_remove s p pt (Some g) blocks = record { stops = refl; calls = refl; faultless = refl }

-- the piece of a fund, for what stands at the point
quick_fund : (s : Objects) (p pt : ℕ) (k : Kind) (n : ℕ) (o : Option GraftValue) (blocks : Blocks) →
    IsQuick (fund_piece s p pt k n o blocks)
quick_fund s p pt k n None blocks = record { stops = refl; calls = refl; faultless = refl }
quick_fund s p pt k n (Some g) blocks =
    quick_either (nat_lt ((s.accounts.acct p).balance k) n) _ _
    (record { stops = refl; calls = refl; faultless = refl })
    (record { stops = refl; calls = refl; faultless = refl })

-- the piece of a bill, for what stands at the point
quick_bill : (s : Objects) (p pt : ℕ) (o : Option GraftValue) (blocks : Blocks) →
    IsQuick (bill_piece s p pt o blocks)
quick_bill s p pt None blocks = record { stops = refl; calls = refl; faultless = refl }
quick_bill s p pt (Some g) blocks = record { stops = refl; calls = refl; faultless = refl }

-- what can't be: a call that is quick and isn't
not_quick : {A : Type 0} → false ≡ true → A
not_quick h = cc

-- the piece of a quick call is quick
pub quick_piece : (c : SysCall) (n : ℕ) (v : World) (s : Objects) (blocks : Blocks) (p : ℕ)
    (answer : Option (List ℕ)) (io : List Bool) →
    is_quick c ≡ true → IsQuick (piece_of c n v s blocks p answer io)
quick_piece Spawn n v s blocks p answer io h =
    quick_spawn s (free_process s.things.queue 16 0) blocks
quick_piece Exit n v s blocks p answer io h =
    record { stops = refl; calls = refl; faultless = refl }
quick_piece Yield n v s blocks p answer io h = not_quick h
quick_piece (OpenName name) n v s blocks p answer io h =
    quick_open s p (file_named v name) (free_descriptor s.things p 4 0) blocks
quick_piece (CloseFd fd) n v s blocks p answer io h = quick_close s p fd (s.things.file p fd) blocks
quick_piece (Read fd i off len) n v s blocks p answer io h = not_quick h
quick_piece (Write fd i off bytes) n v s blocks p answer io h = not_quick h
quick_piece Sync n v s blocks p answer io h = not_quick h
quick_piece (TakeLock u) n v s blocks p answer io h = quick_lock s p u (s.things.lock u) blocks
quick_piece (FreeLock u) n v s blocks p answer io h = quick_unlock s p u (s.things.lock u) blocks
quick_piece (Poke k x) n v s blocks p answer io h =
    record { stops = refl; calls = refl; faultless = refl }
quick_piece (Peek k) n v s blocks p answer io h =
    record { stops = refl; calls = refl; faultless = refl }
quick_piece (Tune kind k x) n v s blocks p answer io h = quick_tune s kind k x blocks
quick_piece (Choose kind j) n v s blocks p answer io h =
    record { stops = refl; calls = refl; faultless = refl }
quick_piece (Give q k x) n v s blocks p answer io h =
    quick_give s p q k x blocks (lives s.things.queue q)
quick_piece (Install pt i limit) n v s blocks p answer io h =
    quick_install s p pt (new_graft i limit) (s.accounts.graft p pt) blocks
quick_piece (Remove pt) n v s blocks p answer io h =
    quick_remove s p pt (s.accounts.graft p pt) blocks
quick_piece (Fund pt k x) n v s blocks p answer io h =
    quick_fund s p pt k x (s.accounts.graft p pt) blocks
quick_piece (Bill pt) n v s blocks p answer io h = quick_bill s p pt (s.accounts.graft p pt) blocks
-- the calls of other tables are refused
quick_piece c n v s blocks p answer io h =
    record { stops = refl; calls = refl; faultless = refl }
