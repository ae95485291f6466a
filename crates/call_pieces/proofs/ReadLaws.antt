-- The pieces of a read.
use Rattle.std.proofs.Common.{◌≡◌, ℕ, zero, suc, ◌+◌, ◌-◌, ◌≤◌, ◌&&◌, nat_le, nat_lt, Bool, true}
use Rattle.std.proofs.Common.{List, Option, Some, None, Result, Ok, slice_range, refl, arith, sym}
use Rattle.std.proofs.Common.{◌∙◌, ap, subst, option_map}
use Rattle.std.proofs.lemmas.Bool.{and_parts}
use Rattle.std.proofs.lemmas.Bool.Decides.{nat_tests}
use Rattle.kernel_model.specs.declared.OpenRow.{OpenRow}
use Rattle.kernel_model.specs.declared.SysCall.TheVariants.{Read}
use Rattle.kernel_model.specs.declared.Refusal.{Refusal}
use Rattle.kernel_model.specs.World.{World, Blocks}
use Rattle.kernel_model.specs.Objects.{Objects, CacheValue, at2}
use Rattle.kernel_model.specs.Meaning.{Stage, After, Continues, stage}
use Rattle.kernel_model.specs.Needs.{file_block, ahead_block}
use Rattle.kernel_model.specs.Fetch.{Fetched, Got, bytes_of, fetch, fetch_ahead}
use Rattle.kernel_model.specs.FilePieces.{with_cache, with_file, with_ahead, well, unless_zero}
use Rattle.kernel_model.specs.FilePieces.{read_on, read_first, read_third, read_second, ahead_by}
use Rattle.kernel_model.specs.FilePieces.{read_first_at, read_third_at, read_piece}
use Rattle.kernel_model.specs.Policies.{ahead_default}
use Rattle.kernel_model.specs.Pieces.{read_fits}
use Rattle.call_needs.specs.Fetching.{FetchMatches, blocks_after}
use Rattle.call_pieces.specs.Matching.{PieceMatches, ReadContinues}

-- the first piece, once the block is fetched
pub first_came : (s mid new : Objects) (blocks : Blocks) (p fd i off len f n : ℕ) (o : OpenRow)
    (q : Fetched) (cache : CacheValue) (known : Option (List (List ℕ))) (bytes : List ℕ)
    → FetchMatches q blocks (Ok f) cache known n → mid ≡ with_cache cache s →
    new ≡ with_file p fd (Some (read_on i o)) mid →
    bytes ≡ slice_range (bytes_of cache f) off (off + len)
    → PieceMatches (read_first s blocks p fd i off len o q) new known (Some bytes)
    (Continues (stage (Read fd i off len) 1)) n
first_came s mid new blocks p fd i off len f n o q cache known bytes came cached opened given =
    let r : Fetched = Got cache (blocks_after q blocks) f n in
    let there : PieceMatches (read_first s blocks p fd i off len o r) new known (Some bytes)
    (Continues (stage (Read fd i off len) 1)) n =
    record {
      objects = opened ∙ ap (λ (x : Objects). with_file p fd (Some (read_on i o)) x) cached;
      blocks = came.tells;
      bytes = ap (λ w. Some w) given;
      next = refl;
      calls_made = refl;
    } in
    subst (λ (x : Fetched). PieceMatches (read_first s blocks p fd i off len o x) new known
    (Some bytes) (Continues (stage (Read fd i off len) 1)) n) came.outcome there

here : (f : ℕ → ℕ → Option OpenRow) (p fd : ℕ) (o : Option OpenRow) → at2 p fd o f p fd ≡ o
here f p fd o = grind (arith, nat_tests)

-- the file at the descriptor that changed
pub file_here : (s t : Objects) (p fd : ℕ) (o : OpenRow) → t ≡ with_file p fd (Some o) s → t.things.file p fd ≡ Some o
file_here s t p fd o is = ap (λ (x : Objects). x.things.file p fd) is ∙ here (s.things.file) p fd (Some o)

-- the file at the descriptor that changed in place
pub changed_file : (s t : Objects) (p fd : ℕ) (change : OpenRow → OpenRow) (o : OpenRow) →
    s.things.file p fd ≡ Some o → t ≡ with_file p fd (option_map change (s.things.file p fd)) s
    → t ≡ with_file p fd (Some (change o)) s
changed_file s t p fd change o found is = is ∙ ap (λ (x : Option OpenRow). with_file p fd (option_map change x) s) found

-- a file that is open at a descriptor is so once the cache changed
pub file_after : (s t : Objects) (p fd : ℕ) (cache : CacheValue) (o : OpenRow) →
    t ≡ with_cache cache s → s.things.file p fd ≡ Some o → t.things.file p fd ≡ Some o
file_after s t p fd cache o is found = ap (λ (x : Objects). x.things.file p fd) is ∙ found

-- before the second piece
pub goes_first : (o y : OpenRow) (x : Option OpenRow) → x ≡ Some y → ReadContinues 0 1 (Some o) x
goes_first o y x is =
    let there : ReadContinues 0 1 (Some o) (Some y) =
    record { few = refl; fits = refl; fewer = omega arith } in
    subst (λ (z : Option OpenRow). ReadContinues 0 1 (Some o) z) (sym is) there

-- before a third piece
pub goes_second : (o y : OpenRow) (x : Option OpenRow) → x ≡ Some y → (y.count ≡ 0 → ⊥) →
    y.count ≤ 8 → ReadContinues 1 2 (Some o) x
goes_second o y x is some few =
    let there : ReadContinues 1 2 (Some o) (Some y) =
    record { few = refl; fits = grind (arith, nat_tests, some); fewer = omega arith } in
    subst (λ (z : Option OpenRow). ReadContinues 1 2 (Some o) z) (sym is) there

-- before a further piece
pub goes_later : (o y : OpenRow) (x : Option OpenRow) → x ≡ Some y → y.count ≡ o.count - 1 →
    (y.count ≡ 0 → ⊥) → ReadContinues 2 2 (Some o) x
goes_later o y x is one some =
    let there : ReadContinues 2 2 (Some o) (Some y) =
    record { few = refl; fits = grind (arith, nat_tests, some); fewer = omega arith } in
    subst (λ (z : Option OpenRow). ReadContinues 2 2 (Some o) z) (sym is) there

-- a later piece, once its block is fetched
pub third_came : (s mid new : Objects) (blocks : Blocks) (p fd i off len f n : ℕ) (o : OpenRow)
    (q : Fetched) (cache : CacheValue) (known : Option (List (List ℕ))) (after : After)
    → FetchMatches q blocks (Ok f) cache known n → mid ≡ with_cache cache s →
    new ≡ with_file p fd (Some (with_ahead (o.start + 1) (o.count - 1) o)) mid
    → after ≡ unless_zero (stage (Read fd i off len) 2) (o.count - 1)
    → PieceMatches (read_third s blocks p fd i off len o q) new known None after n
third_came s mid new blocks p fd i off len f n o q cache known after came cached opened next =
    let r : Fetched = Got cache (blocks_after q blocks) f n in
    let there : PieceMatches (read_third s blocks p fd i off len o r) new known None after n =
    record {
      objects =
          opened ∙ ap (λ (x : Objects). with_file p fd
          (Some (with_ahead (o.start + 1) (o.count - 1) o)) x) cached;
      blocks = came.tells;
      bytes = refl;
      next = next;
      calls_made = refl;
    } in
    subst (λ (x : Fetched). PieceMatches (read_third s blocks p fd i off len o x) new known None
    after n) came.outcome there

-- nothing is left to be read ahead, or something
pub none_ahead : (t : Stage) (n : ℕ) → n ≡ 0 → well ≡ unless_zero t n
none_ahead t n is = ap (unless_zero t) (sym is)

pub some_ahead : (t : Stage) (n : ℕ) → (n ≡ 0 → ⊥) → Continues t ≡ unless_zero t n
some_ahead t zero h = absurd (h refl)
some_ahead t (suc n) h = refl

-- the pieces of a read, by the blocks that they name
pub first_block : (x : Result ℕ Refusal) (b : ℕ) (v : World) (s new : Objects) (blocks : Blocks)
    (p fd i off len n : ℕ) (o : OpenRow) (answer : Option (List ℕ)) (io : List Bool)
    (known : Option (List (List ℕ))) (gave : Option (List ℕ)) (after : After)
    → Ok b ≡ x → PieceMatches (read_first s blocks p fd i off len o
    (fetch v (s.things.pol 1) p b answer s.things.cache blocks io)) new known gave after n
    → PieceMatches (read_first_at x v s blocks p fd i off len o answer io) new known gave after n
first_block x b v s new blocks p fd i off len n o answer io known gave after is came =
    subst (λ (y : Result ℕ Refusal). PieceMatches
    (read_first_at y v s blocks p fd i off len o answer io) new known gave after n) is came

pub third_block : (x : Result ℕ Refusal) (b : ℕ) (v : World) (s new : Objects) (blocks : Blocks)
    (p fd i off len n : ℕ) (o : OpenRow) (answer : Option (List ℕ)) (io : List Bool)
    (known : Option (List (List ℕ))) (gave : Option (List ℕ)) (after : After)
    → x ≡ Ok b → PieceMatches (read_third s blocks p fd i off len o
    (fetch_ahead v (s.things.pol 1) p b answer s.things.cache blocks io)) new known gave after n
    → PieceMatches (read_third_at x v s blocks p fd i off len o answer io) new known gave after n
third_block x b v s new blocks p fd i off len n o answer io known gave after is came =
    subst (λ (y : Result ℕ Refusal). PieceMatches (read_third_at y v s blocks p fd i off len o
    answer io) new known gave after n) (sym is) came

-- the pieces of a read, by their number
pub read_zero : (n : ℕ) (v : World) (s : Objects) (blocks : Blocks) (p fd i off len : ℕ) (x : Option
    OpenRow) (o : OpenRow) (answer : Option (List ℕ)) (io : List Bool) → n ≡ 0 → x ≡ Some o →
    read_piece n v s blocks p fd i off len x answer io
    ≡ read_first_at (file_block v (Some o) i off len) v s blocks p fd i off len o answer io
read_zero n v s blocks p fd i off len x o answer io number file =
    ap (λ k. read_piece k v s blocks p fd i off len x answer io) number
    ∙ ap (λ (y : Option OpenRow). read_piece 0 v s blocks p fd i off len y answer io) file

pub read_one : (n : ℕ) (v : World) (s : Objects) (blocks : Blocks) (p fd i off len : ℕ) (x : Option
    OpenRow) (o : OpenRow) (answer : Option (List ℕ)) (io : List Bool) → n ≡ 1 → x ≡ Some o →
    read_piece n v s blocks p fd i off len x answer io ≡ read_second s blocks p fd i off len o
    (ahead_by answer (ahead_default v (s.things.pol 0) (Some o)))
read_one n v s blocks p fd i off len x o answer io number file =
    ap (λ k. read_piece k v s blocks p fd i off len x answer io) number
    ∙ ap (λ (y : Option OpenRow). read_piece 1 v s blocks p fd i off len y answer io) file

pub read_later : (n : ℕ) (v : World) (s : Objects) (blocks : Blocks) (p fd i off len : ℕ) (x :
    Option OpenRow) (o : OpenRow) (answer : Option (List ℕ)) (io : List Bool) → n ≡ 2 → x ≡ Some o →
    read_piece n v s blocks p fd i off len x answer io ≡ read_third_at (ahead_block v (Some o)) v s
    blocks p fd i off len o answer io
read_later n v s blocks p fd i off len x o answer io number file =
    ap (λ k. read_piece k v s blocks p fd i off len x answer io) number
    ∙ ap (λ (y : Option OpenRow). read_piece 2 v s blocks p fd i off len y answer io) file

-- a read stands before one of three kinds of pieces
pub few_kinds : (fd n : ℕ) (x : Option OpenRow) →
    (nat_lt fd 4 && (nat_le n 2 && read_fits n x)) ≡ true → n ≤ 2
few_kinds fd n x fits =
    let kind = (and_parts (nat_lt fd 4) (nat_le n 2 && read_fits n x) fits).1 in
    let few = (and_parts (nat_le n 2) (read_fits n x) kind).0 in grind (arith, nat_tests, few)
