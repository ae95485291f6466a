-- A piece does the same on two states that agree on what it needs: for each call, what that is,
-- value by value.
use Rattle.std.specs.Prelude.{◌≡◌, ℕ, zero, suc, ◌≤◌, nat_lt, Bool, true, false, List, Option, is_some}
use Rattle.std.proofs.Common.{arith, refl, ap}
use Rattle.std.proofs.lemmas.Bool.Decides.{nat_tests}
use Rattle.kernel_model.specs.declared.Kind.{Kind}
use Rattle.kernel_model.specs.declared.OpenRow.{OpenRow}
use Rattle.kernel_model.specs.declared.Refusal.{Refusal}
use Rattle.kernel_model.specs.World.{Blocks}
use Rattle.kernel_model.specs.Objects.{Objects, GraftValue}
use Rattle.kernel_model.specs.Meaning.{Piece, After, EndsWith}
use Rattle.kernel_model.specs.declared.Reply.TheVariants.{One}
use Rattle.kernel_model.specs.Fetch.{Fetched}
use Rattle.kernel_model.specs.FilePieces.{leaves, refuses, open_piece, close_piece, read_first}
use Rattle.kernel_model.specs.FilePieces.{read_second, read_third, write_fetched}
use Rattle.kernel_model.specs.Pieces.{spawn_piece, yield_piece, poke_piece, lock_piece}
use Rattle.kernel_model.specs.Pieces.{unlock_piece, tune_piece, choose_piece, give_piece}
use Rattle.kernel_model.specs.Pieces.{install_piece, remove_piece, fund_piece, bill_piece}
use Rattle.kernel_model.specs.Alike.{Keeps}

-- two pieces do the same: where the states before were the same they are so after, and all else is
-- equal
pub record SamePiece (s u : Objects) (a b : Piece) : Type 0 where
  pub objects : Keeps s u a.objects b.objects
  pub blocks : a.blocks ≡ b.blocks
  pub gave : a.gave ≡ b.gave
  pub after : a.after ≡ b.after
  pub calls : a.calls ≡ b.calls

-- a refusal leaves both as they were
pub same_refusal : (s u : Objects) (blocks : Blocks) (r q : Refusal) → r ≡ q →
    SamePiece s u (refuses s blocks r) (refuses u blocks q)
same_refusal s u blocks r q e =
    record {
      objects = λ o h. h;
      blocks = refl;
      gave = refl;
      after = ap After.Fails e;
      calls = refl;
    }

-- a new process
pub spawn_same : (s u : Objects) (c d : Option ℕ) (blocks : Blocks) → c ≡ d →
    s.things.queue ≡ u.things.queue →
    SamePiece s u (spawn_piece s c blocks) (spawn_piece u d blocks)
spawn_same s u c d blocks h e = grind (arith, nat_tests)

-- a yield
pub yield_same : (n : ℕ) (s u : Objects) (p : ℕ) (answer : Option (List ℕ)) (blocks : Blocks) →
    s.things.queue ≡ u.things.queue →
    (1 ≤ n → s.things.pol 2 ≡ u.things.pol 2) →
    SamePiece s u (yield_piece n s p answer blocks) (yield_piece n u p answer blocks)
yield_same zero s u p answer blocks e h = grind (arith, nat_tests)
yield_same (suc n) s u p answer blocks e h = let same : s.things.pol 2 ≡ u.things.pol 2 =
    h (omega arith) in grind (arith, nat_tests)

-- a file opened
pub open_same : (s u : Objects) (p : ℕ) (file fd free : Option ℕ) (blocks : Blocks) → fd ≡ free →
    SamePiece s u (open_piece s p file fd blocks) (open_piece u p file free blocks)
open_same s u p file fd free blocks e = grind (arith, nat_tests)

-- a file closed
pub close_same : (s u : Objects) (p fd : ℕ) (o r : Option OpenRow) (blocks : Blocks) → o ≡ r →
    SamePiece s u (close_piece s p fd o blocks) (close_piece u p fd r blocks)
close_same s u p fd o r blocks e = grind (arith, nat_tests)

-- a lock taken
pub take_same : (s u : Objects) (p l : ℕ) (g h : Option ℕ) (blocks : Blocks) → g ≡ h →
    SamePiece s u (lock_piece s p l g blocks) (lock_piece u p l h blocks)
take_same s u p l g h blocks e = grind (arith, nat_tests)

-- a lock let go
pub free_same : (s u : Objects) (p l : ℕ) (g h : Option ℕ) (blocks : Blocks) → g ≡ h →
    SamePiece s u (unlock_piece s p l g blocks) (unlock_piece u p l h blocks)
free_same s u p l g h blocks e = grind (arith, nat_tests)

-- a cell written
pub poke_same : (s u : Objects) (p k x : ℕ) (blocks : Blocks) →
    SamePiece s u (poke_piece s p k x blocks) (poke_piece u p k x blocks)
poke_same s u p k x blocks = grind (arith, nat_tests)

-- a cell read
pub peek_same : (s u : Objects) (x y : ℕ) (blocks : Blocks) → x ≡ y →
    SamePiece s u (leaves s blocks (EndsWith (One x))) (leaves u blocks (EndsWith (One y)))
peek_same s u x y blocks e =
    record {
      objects = λ o h. h;
      blocks = refl;
      gave = refl;
      after = ap (λ z. EndsWith (One z)) e;
      calls = refl;
    }

-- a parameter set
pub tune_same : (s u : Objects) (kind k x : ℕ) (blocks : Blocks) →
    s.things.pol kind ≡ u.things.pol kind →
    SamePiece s u (tune_piece s kind k x blocks) (tune_piece u kind k x blocks)
tune_same s u kind k x blocks e = grind (arith, nat_tests)

-- a policy chosen
pub choose_same : (s u : Objects) (kind j : ℕ) (blocks : Blocks) →
    s.things.pol kind ≡ u.things.pol kind →
    SamePiece s u (choose_piece s kind j blocks) (choose_piece u kind j blocks)
choose_same s u kind j blocks e = grind (arith, nat_tests)

-- a gift
pub give_same : (s u : Objects) (p q : ℕ) (k : Kind) (n : ℕ) (blocks : Blocks) (l m : Bool) →
    l ≡ m →
    (l ≡ true → s.accounts.acct p ≡ u.accounts.acct p) →
    (l ≡ true → nat_lt ((s.accounts.acct p).balance k) n ≡ false →
    s.accounts.acct q ≡ u.accounts.acct q) →
    SamePiece s u (give_piece s p q k n blocks l) (give_piece u p q k n blocks m)
give_same s u p q k n blocks l m e a b = grind (arith, nat_tests)

-- a graft put in place
pub install_same : (s u : Objects) (p pt : ℕ) (new : GraftValue) (g h : Option GraftValue)
    (blocks : Blocks) → g ≡ h →
    SamePiece s u (install_piece s p pt new g blocks) (install_piece u p pt new h blocks)
install_same s u p pt new g h blocks e = grind (arith, nat_tests)

-- a graft taken out
pub remove_same : (s u : Objects) (p pt : ℕ) (blocks : Blocks) →
    s.accounts.graft p pt ≡ u.accounts.graft p pt →
    (is_some (s.accounts.graft p pt) ≡ true → s.accounts.acct p ≡ u.accounts.acct p) →
    SamePiece s u (remove_piece s p pt (s.accounts.graft p pt) blocks)
    (remove_piece u p pt (u.accounts.graft p pt) blocks)
remove_same s u p pt blocks e a = grind (arith, nat_tests)

-- a graft funded
pub fund_same : (s u : Objects) (p pt : ℕ) (k : Kind) (n : ℕ) (blocks : Blocks)
    (g h : Option GraftValue) → g ≡ h →
    (is_some g ≡ true → s.accounts.acct p ≡ u.accounts.acct p) →
    SamePiece s u (fund_piece s p pt k n g blocks) (fund_piece u p pt k n h blocks)
fund_same s u p pt k n blocks g h e a = grind (arith, nat_tests)

-- a graft billed
pub bill_same : (s u : Objects) (p pt : ℕ) (g h : Option GraftValue) (blocks : Blocks) → g ≡ h →
    SamePiece s u (bill_piece s p pt g blocks) (bill_piece u p pt h blocks)
bill_same s u p pt g h blocks e = grind (arith, nat_tests)

-- the second piece of a read
pub read_second_same : (s u : Objects) (blocks : Blocks) (p fd i off len : ℕ) (row other : OpenRow)
    (ahead next : ℕ × ℕ) → row ≡ other → ahead ≡ next →
    SamePiece s u (read_second s blocks p fd i off len row ahead)
    (read_second u blocks p fd i off len other next)
read_second_same s u blocks p fd i off len row other ahead next e h = grind (arith, nat_tests)

-- the first piece of a read, once its block is fetched
pub read_first_same : (s u : Objects) (blocks : Blocks) (p fd i off len : ℕ) (row : OpenRow)
    (f : Fetched) →
    SamePiece s u (read_first s blocks p fd i off len row f)
    (read_first u blocks p fd i off len row f)
read_first_same s u blocks p fd i off len row f = grind (arith, nat_tests)

-- a later piece of a read, once its block is fetched
pub read_third_same : (s u : Objects) (blocks : Blocks) (p fd i off len : ℕ) (row : OpenRow)
    (f : Fetched) →
    SamePiece s u (read_third s blocks p fd i off len row f)
    (read_third u blocks p fd i off len row f)
read_third_same s u blocks p fd i off len row f = grind (arith, nat_tests)

-- a write, once its block is fetched
pub write_same : (s u : Objects) (blocks : Blocks) (off : ℕ) (new : List ℕ) (f : Fetched) →
    SamePiece s u (write_fetched s blocks off new f) (write_fetched u blocks off new f)
write_same s u blocks off new f = grind (arith, nat_tests)
