-- A store whose tables of bytes change.
use Rattle.std.proofs.Common.{◌≡◌, ℕ, List, [], Bool, true, false, cond, ◌==◌, Option, None, Some, refl, ap, ◌∙◌}
use Rattle.std.proofs.Math.Path.{fun_ext}
use Rattle.std.specs.Global.{Vec}
use Rattle.kernel_model.specs.Directory.{sample_block}
use Rattle.kernel_model.specs.Objects.{at}

-- the bytes that were put, or none
abbrev pub bytes_put : Option (Vec ℕ) → List ℕ
bytes_put o = elim o [ None ↦ [] | Some bytes ↦ bytes.items ]

-- the bytes of a block of the disk, by its row
abbrev pub block_in : ℕ → Option (Vec ℕ) → List ℕ
block_in b o = elim o [ None ↦ sample_block b | Some bytes ↦ bytes.items ]

-- a choice of some bytes, put
put_through : (b : Bool) (v : Vec ℕ) (w : Option (Vec ℕ)) →
    bytes_put (cond b (Some v) w) ≡ cond b v.items (bytes_put w)
put_through true v w = refl
put_through false v w = refl

-- one page changes
pub page_changed : (t u : ℕ → Option (Vec ℕ)) (f : ℕ) (v : Vec ℕ) → t ≡ at f (Some v) u →
    (λ (x : ℕ). bytes_put (t x)) ≡ at f v.items (λ (x : ℕ). bytes_put (u x))
page_changed t u f v e =
    fun_ext (λ x. ap (λ (g : ℕ → Option (Vec ℕ)). bytes_put (g x)) e ∙ put_through (x == f) v (u x))

-- a choice of some bytes as a block
block_through : (x : ℕ) (b : Bool) (v : Vec ℕ) (w : Option (Vec ℕ)) →
    block_in x (cond b (Some v) w) ≡ cond b v.items (block_in x w)
block_through x true v w = refl
block_through x false v w = refl

-- one block changes
pub block_changed : (t u : ℕ → Option (Vec ℕ)) (b : ℕ) (v : Vec ℕ) → t ≡ at b (Some v) u →
    (λ (x : ℕ). block_in x (t x)) ≡ at b v.items (λ (x : ℕ). block_in x (u x))
block_changed t u b v e =
    fun_ext (λ x. ap (λ (g : ℕ → Option (Vec ℕ)). block_in x (g x)) e ∙ block_through x (x == b) v (u x))
