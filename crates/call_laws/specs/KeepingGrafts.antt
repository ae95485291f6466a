-- Grafts that pieces put in place, and the images of grafts.
use Rattle.std.specs.Prelude.{◌≡◌, ℕ, zero, suc, Bool, true, false, ◌&&◌, ◌==◌, length, List}
use Rattle.std.specs.Prelude.{Option, None, Some, is_some}
use Rattle.std.proofs.Common.{arith, refl, subst, sym, ap, ◌∙◌, inl, inr}
use Rattle.std.proofs.lemmas.Bool.{cases_Bool, cond-true, cond-false}
use Rattle.std.proofs.lemmas.Bool.Decides.{nat_tests}
use Rattle.kernel_model.specs.declared.SysCall.{SysCall}
use Rattle.kernel_model.specs.declared.SysCall.TheVariants.{Spawn, Exit, Yield, OpenName, CloseFd}
use Rattle.kernel_model.specs.declared.SysCall.TheVariants.{Read, Write, Sync, TakeLock, FreeLock}
use Rattle.kernel_model.specs.declared.SysCall.TheVariants.{Poke, Peek, Tune, Choose, Give, Install}
use Rattle.kernel_model.specs.declared.SysCall.TheVariants.{Remove, Fund, Bill}
use Rattle.kernel_model.specs.declared.Kind.{Kind}
use Rattle.kernel_model.specs.World.{World, Blocks, ImageTable, file_named}
use Rattle.kernel_model.specs.Objects.{Objects, Accounts, GraftValue}
use Rattle.kernel_model.specs.Charges.{removed, removed_by}
use Rattle.call_laws.specs.GrantedCalls.{IsGranted}
use Rattle.kernel_model.specs.Needs.{file_block, free_process}
use Rattle.kernel_model.specs.FilePieces.{free_descriptor}
use Rattle.kernel_model.specs.Policies.{lives}
use Rattle.kernel_model.specs.Pieces.{piece_of, without_grafts, install_piece, remove_piece}
use Rattle.kernel_model.specs.Pieces.{fund_piece, bill_piece, give_piece, new_graft}
use Rattle.kernel_model.specs.Sound.{ImagesAreLoaded}
use Rattle.kernel_model.specs.Laws.{is_new_graft, continues}
use Rattle.call_laws.specs.SameAccounts.{spawn_accounts, yield_accounts, open_leaves}
use Rattle.call_laws.specs.SameAccounts.{close_leaves, take_leaves, free_leaves, tune_leaves}
use Rattle.call_laws.specs.SameAccounts.{read_leaves_processes, write_leaves_processes}
use Rattle.call_laws.specs.SameAccounts.{sync_leaves}

-- the image of a graft, if one stands
abbrev image_at : Option GraftValue → Option ℕ
image_at None = None
image_at (Some g) = Some g.image

-- a graft stands after only where one of the same image stood before
record KeepsImage (before after : Option GraftValue) : Type 0 where
  same : is_some after ≡ true → image_at after ≡ image_at before

-- in particular where the accounts are the same
image_same : (a b : Accounts) (q pt : ℕ) → b ≡ a → KeepsImage (a.graft q pt) (b.graft q pt)
image_same s u q pt e = record { same = λ h. ap (λ (a : Accounts). image_at (a.graft q pt)) e }

-- a graft taken out
removed_image : (p n q pt : ℕ) (g : Option GraftValue) (a : Accounts) →
    KeepsImage (a.graft q pt) ((removed_by p n g a).graft q pt)
removed_image p n q pt g a = grind (arith, nat_tests)

-- through two steps
image_trans : (x y z : Option GraftValue) → KeepsImage x y → KeepsImage y z → KeepsImage x z
image_trans x y z h k = grind arith

-- all of them
without_image : (p n q pt : ℕ) (a : Accounts) →
    KeepsImage (a.graft q pt) ((without_grafts p n a).graft q pt)
without_image p zero q pt a = record { same = λ h. refl }
without_image p (suc n) q pt a =
    image_trans (a.graft q pt) ((removed p n a).graft q pt)
    ((without_grafts p n (removed p n a)).graft q pt)
    (removed_image p n q pt (a.graft p n) a) (without_image p n q pt (removed p n a))

-- a gift
give_image : (s : Objects) (p q : ℕ) (k : Kind) (n : ℕ) (blocks : Blocks) (l : Bool) (r pt : ℕ) →
    KeepsImage (s.accounts.graft r pt) ((give_piece s p q k n blocks l).objects.accounts.graft r pt)
give_image s p q k n blocks l r pt = grind arith

-- a graft taken out, funded or billed
remove_image : (s : Objects) (p pt : ℕ) (g : Option GraftValue) (blocks : Blocks) (r pu : ℕ) →
    KeepsImage (s.accounts.graft r pu) ((remove_piece s p pt g blocks).objects.accounts.graft r pu)
remove_image s p pt None blocks r pu = record { same = λ h. refl }
remove_image s p pt (Some g) blocks r pu =
    removed_image p pt r pu (s.accounts.graft p pt) s.accounts

-- a graft funded
fund_image : (s : Objects) (p pt : ℕ) (k : Kind) (n : ℕ) (g : Option GraftValue) (blocks : Blocks)
    (r pu : ℕ) → s.accounts.graft p pt ≡ g →
    KeepsImage (s.accounts.graft r pu)
    ((fund_piece s p pt k n g blocks).objects.accounts.graft r pu)
fund_image s p pt k n g blocks r pu e = grind (arith, nat_tests)

-- a graft billed
bill_image : (s : Objects) (p pt : ℕ) (g : Option GraftValue) (blocks : Blocks) (r pu : ℕ) →
    s.accounts.graft p pt ≡ g →
    KeepsImage (s.accounts.graft r pu) ((bill_piece s p pt g blocks).objects.accounts.graft r pu)
bill_image s p pt g blocks r pu e = grind (arith, nat_tests)

-- a call that installs
abbrev installs : SysCall → Bool
installs (Install pt i limit) = true
installs c = false

-- every other call keeps images
keeps_images : (c : SysCall) (n : ℕ) (v : World) (s : Objects) (blocks : Blocks) (p : ℕ)
    (answer : Option (List ℕ)) (io : List Bool) (q pt : ℕ) →
    installs c ≡ false →
    KeepsImage (s.accounts.graft q pt)
    ((piece_of c n v s blocks p answer io).objects.accounts.graft q pt)
keeps_images Spawn n v s blocks p answer io q pt h =
    image_same s.accounts _ q pt (spawn_accounts s (free_process s.things.queue 16 0) blocks)
keeps_images Exit n v s blocks p answer io q pt h = without_image p 16 q pt s.accounts
keeps_images Yield n v s blocks p answer io q pt h =
    image_same s.accounts _ q pt (yield_accounts n s p answer blocks)
keeps_images (OpenName name) n v s blocks p answer io q pt h =
    image_same s.accounts _ q pt
    (open_leaves s p (file_named v name) (free_descriptor s.things p 4 0) blocks).accounts
keeps_images (CloseFd fd) n v s blocks p answer io q pt h =
    image_same s.accounts _ q pt (close_leaves s p fd (s.things.file p fd) blocks).accounts
keeps_images (Read fd i off len) n v s blocks p answer io q pt h =
    image_same s.accounts _ q pt
    (read_leaves_processes n v s blocks p fd i off len (s.things.file p fd) answer io).accounts
keeps_images (Write fd i off bytes) n v s blocks p answer io q pt h =
    image_same s.accounts _ q pt
    (write_leaves_processes (file_block v (s.things.file p fd) i off (length bytes)) v s blocks
    p off bytes answer io).accounts
keeps_images Sync n v s blocks p answer io q pt h =
    image_same s.accounts _ q pt (sync_leaves v.frames 0 0 s blocks io).accounts
keeps_images (TakeLock u) n v s blocks p answer io q pt h =
    image_same s.accounts _ q pt (take_leaves s p u (s.things.lock u) blocks).accounts
keeps_images (FreeLock u) n v s blocks p answer io q pt h =
    image_same s.accounts _ q pt (free_leaves s p u (s.things.lock u) blocks).accounts
keeps_images (Poke k x) n v s blocks p answer io q pt h = record { same = λ e. refl }
keeps_images (Peek k) n v s blocks p answer io q pt h = record { same = λ e. refl }
keeps_images (Tune kind k x) n v s blocks p answer io q pt h =
    image_same s.accounts _ q pt (tune_leaves s kind k x blocks).accounts
keeps_images (Choose kind j) n v s blocks p answer io q pt h = record { same = λ e. refl }
keeps_images (Give r k x) n v s blocks p answer io q pt h =
    give_image s p r k x blocks (lives s.things.queue r) q pt
keeps_images (Install pu i limit) n v s blocks p answer io q pt h = cc
keeps_images (Remove pu) n v s blocks p answer io q pt h =
    remove_image s p pu (s.accounts.graft p pu) blocks q pt
keeps_images (Fund pu k x) n v s blocks p answer io q pt h =
    fund_image s p pu k x (s.accounts.graft p pu) blocks q pt refl
keeps_images (Bill pu) n v s blocks p answer io q pt h =
    bill_image s p pu (s.accounts.graft p pu) blocks q pt refl
-- the calls of other tables are refused
keeps_images c n v s blocks p answer io q pt h = record { same = λ e. refl }

-- what keeps its image isn't new
not_new : (s u : Objects) (q pt : ℕ) → KeepsImage (s.accounts.graft q pt) (u.accounts.graft q pt) →
    is_new_graft s u q pt ≡ true → ⊥
not_new s u q pt h e = grind arith

-- a new graft of an install stands at its point
install_new : (s : Objects) (p pt : ℕ) (new : GraftValue) (old : Option GraftValue)
    (blocks : Blocks) (q pu : ℕ) →
    is_new_graft s (install_piece s p pt new old blocks).objects q pu ≡ true → (q ≡ p) × (pu ≡ pt)
install_new s p pt new old blocks q pu h = grind (arith, nat_tests)

-- an install ends its call
install_ends : (s : Objects) (p pt : ℕ) (new : GraftValue) (old : Option GraftValue)
    (blocks : Blocks) → continues (install_piece s p pt new old blocks).after ≡ false
install_ends s p pt new None blocks = refl
install_ends s p pt new (Some g) blocks = refl

-- a piece puts at most one graft in place
pub one_graft_by : (c : SysCall) (n : ℕ) (v : World) (s : Objects) (blocks : Blocks) (p : ℕ)
    (answer : Option (List ℕ)) (io : List Bool) (q pt r pu : ℕ) →
    is_new_graft s (piece_of c n v s blocks p answer io).objects q pt ≡ true →
    is_new_graft s (piece_of c n v s blocks p answer io).objects r pu ≡ true → (q ≡ r) × (pt ≡ pu)
one_graft_by (Install pw i limit) n v s blocks p answer io q pt r pu h k =
    let a = install_new s p pw (new_graft i limit) (s.accounts.graft p pw) blocks q pt h in
    let b = install_new s p pw (new_graft i limit) (s.accounts.graft p pw) blocks r pu k in
    (a.0 ∙ sym b.0, a.1 ∙ sym b.1)
one_graft_by c n v s blocks p answer io q pt r pu h k =
    absurd (not_new s (piece_of c n v s blocks p answer io).objects q pt
    (keeps_images c n v s blocks p answer io q pt refl) h)

-- and then ends its call
pub graft_ends_by : (c : SysCall) (n : ℕ) (v : World) (s : Objects) (blocks : Blocks) (p : ℕ)
    (answer : Option (List ℕ)) (io : List Bool) (q pt : ℕ) →
    is_new_graft s (piece_of c n v s blocks p answer io).objects q pt ≡ true →
    continues (piece_of c n v s blocks p answer io).after ≡ false
graft_ends_by (Install pw i limit) n v s blocks p answer io q pt h =
    install_ends s p pw (new_graft i limit) (s.accounts.graft p pw) blocks
graft_ends_by c n v s blocks p answer io q pt h =
    absurd (not_new s (piece_of c n v s blocks p answer io).objects q pt
    (keeps_images c n v s blocks p answer io q pt refl) h)

-- a graft of an image that stood before is loaded
kept_loaded : (images : ImageTable) (s : Objects) (q pt : ℕ) (x : Option GraftValue)
    (g : GraftValue) → ImagesAreLoaded images s.accounts →
    s.accounts.graft q pt ≡ x → KeepsImage x (Some g) → is_some (images g.image) ≡ true
kept_loaded images s q pt None g h e k = let none = k.same refl in cc
kept_loaded images s q pt (Some old) g h e k =
    let same = k.same refl in let eq : g.image ≡ old.image = cc in
    subst (λ x. is_some (images x) ≡ true) (sym eq) (h q pt old e)

-- an install whose image is loaded
granted_image : (v : World) (images : ImageTable) (p pt i limit : ℕ) →
    IsGranted v images p (Install pt i limit) → is_some (images i) ≡ true
granted_image v images p pt i limit h = let g = h.granted in grind (arith, nat_tests)

-- the graft of an install
install_image : (images : ImageTable) (s : Objects) (p pt : ℕ) (new : GraftValue)
    (old : Option GraftValue) (blocks : Blocks) (q pu : ℕ) (g : GraftValue) →
    ImagesAreLoaded images s.accounts → is_some (images new.image) ≡ true →
    (install_piece s p pt new old blocks).objects.accounts.graft q pu ≡ Some g →
    is_some (images g.image) ≡ true
install_image images s p pt new (Some h) blocks q pu g loaded here e = loaded q pu g e
install_image images s p pt new None blocks q pu g loaded here e =
    elim (cases_Bool (q == p && pu == pt)) [
      | inl same ↦
          let there : Some new ≡ Some g =
          sym (cond-true (q == p && pu == pt) (Some new) (s.accounts.graft q pu) same) ∙ e in
          let one : new ≡ g = cc in subst (λ (x : GraftValue). is_some (images x.image) ≡ true) one here
      | inr other ↦ loaded q pu g
          (sym (cond-false (q == p && pu == pt) (Some new) (s.accounts.graft q pu) other) ∙ e)
    ]

-- the images of grafts stay loaded
pub images_loaded_by : (c : SysCall) (n : ℕ) (v : World) (images : ImageTable) (s : Objects)
    (blocks : Blocks) (p : ℕ) (answer : Option (List ℕ)) (io : List Bool) →
    IsGranted v images p c → ImagesAreLoaded images s.accounts →
    ImagesAreLoaded images (piece_of c n v s blocks p answer io).objects.accounts
images_loaded_by (Install pw i limit) n v images s blocks p answer io granted h q pt g e =
    install_image images s p pw (new_graft i limit) (s.accounts.graft p pw) blocks q pt g h
    (granted_image v images p pw i limit granted) e
images_loaded_by c n v images s blocks p answer io granted h q pt g e =
    kept_loaded images s q pt (s.accounts.graft q pt) g h refl
    (subst (λ x. KeepsImage (s.accounts.graft q pt) x) e
    (keeps_images c n v s blocks p answer io q pt refl))
