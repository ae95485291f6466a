-- The system calls meet the laws of stages: where a call may stand, and for how long.
use Rattle.std.specs.Prelude.{◌≡◌, ℕ, zero, suc, ◌+◌, ◌-◌, ◌<◌, ◌≤◌, Bool, true, false, not, ◌&&◌}
use Rattle.std.specs.Prelude.{◌||◌, ◌==◌, nat_lt, nat_le, List, slice_index, length, Option, Some}
use Rattle.std.specs.Prelude.{None, is_some, Result, Ok, Err, min}
use Rattle.std.proofs.Common.{arith, refl, ap, sym, subst, ◌∙◌}
use Rattle.std.proofs.lemmas.Bool.{leb-true, and_parts}
use Rattle.std.proofs.lemmas.Bool.Decides.{nat_tests}
use Rattle.kernel_model.specs.declared.SysCall.{SysCall}
use Rattle.kernel_model.specs.declared.SysCall.TheVariants.{Yield, Read, Write, Sync, Install}
use Rattle.kernel_model.specs.declared.Refusal.{Refusal}
use Rattle.kernel_model.specs.declared.Refusal.TheVariants.{BadPoint, BadIndex, NoImage}
use Rattle.kernel_model.specs.declared.OpenRow.{OpenRow}
use Rattle.kernel_model.specs.World.{World, Image, ImageTable, Blocks, blocks_of}
use Rattle.kernel_model.specs.Objects.{Objects, Things, PolValue, at2}
use Rattle.kernel_model.specs.Policies.{PointKind, Ahead, Victim, Next, Serve, Stream, kind_of}
use Rattle.kernel_model.specs.Policies.{args_by, ahead_default, ahead_count}
use Rattle.kernel_model.specs.Meaning.{Stage, stage, registers_of, After, Continues}
use Rattle.kernel_model.specs.Early.{begins_unless, call_refusal, refused, plain_early}
use Rattle.kernel_model.specs.Needs.{file_block, ahead_block}
use Rattle.kernel_model.specs.Fetch.{Fetched, Got, Failed, fetch, fetch_ahead}
use Rattle.kernel_model.specs.FilePieces.{unless_zero, read_on, with_ahead, read_first, read_second}
use Rattle.kernel_model.specs.FilePieces.{read_third, ahead_by, read_first_at, read_third_at}
use Rattle.kernel_model.specs.FilePieces.{read_piece, write_fetched, write_piece, sync_from}
use Rattle.kernel_model.specs.Pieces.{plain_upto, piece_of, yield_piece, piece_fits, pieces_left, read_fits, read_left}
use Rattle.kernel_model.specs.Alike.{SameFiles, Extends, windowless}
use Rattle.kernel_model.specs.Laws.{StageLaws, IsRightAnswer, accepted_by, continues}
use Rattle.call_laws.specs.GrantedCalls.{PieceReady, PieceStands, piece_ready, piece_stands, read_granted}
use Rattle.call_laws.specs.QuickPieces.{quick_piece}
use Rattle.call_laws.specs.SyncSteps.{sync_steps}

-- a call that isn't refused begins before its first piece
pub begins_at_first : (c : SysCall) (r : Option Refusal) (t : Stage) → begins_unless c r ≡ Ok t →
    t ≡ stage c 0
begins_at_first c None t h = cc
begins_at_first c (Some refusal) t h = cc

-- before its first piece a call may stand
first_fits : (top : ℕ) (v : World) (images : ImageTable) (c : SysCall) (w : Things) (p : ℕ)
    (t : Stage) →
    plain_early top v images p c ≡ Ok t → piece_fits c 0 w p ≡ true
first_fits top v images (Read fd i off len) w p t h = grind (arith, nat_tests)
first_fits top v images c w p t h = refl

-- a call begins at a stage that fits
begins_fitting : (top : ℕ) (v : World) (images : ImageTable) (s : Objects) (p : ℕ) (c : SysCall)
    (t : Stage) →
    plain_early top v images p c ≡ Ok t → piece_fits t.call t.piece s.things p ≡ true
begins_fitting top v images s p c t h =
    subst (λ (u : Stage). piece_fits u.call u.piece s.things p ≡ true)
    (sym (begins_at_first c (call_refusal top v images p c) t h))
    (first_fits top v images c s.things p t h)

-- and of the call itself
begins_itself : (top : ℕ) (v : World) (images : ImageTable) (p : ℕ) (c : SysCall) (t : Stage) →
    plain_early top v images p c ≡ Ok t → t.call ≡ c
begins_itself top v images p c t h =
    ap (λ (u : Stage). u.call) (begins_at_first c (call_refusal top v images p c) t h)

-- whether a read fits doesn't look at the window
read_fits_windowless : (n : ℕ) (o : Option OpenRow) → read_fits n (windowless o) ≡ read_fits n o
read_fits_windowless zero o = refl
read_fits_windowless (suc n) None = refl
read_fits_windowless (suc zero) (Some o) = refl
read_fits_windowless (suc (suc n)) (Some o) = refl

-- nor how many of its pieces are left
read_left_windowless : (n : ℕ) (o : Option OpenRow) → read_left n (windowless o) ≡ read_left n o
read_left_windowless zero o = refl
read_left_windowless (suc n) None = refl
read_left_windowless (suc zero) (Some o) = refl
read_left_windowless (suc (suc n)) (Some o) = refl

-- a test of open files that doesn't look at the window is the same where these are the same,
-- windows apart
pub same_windowless : {A : Type 0} (f : Option OpenRow → A) →
    ((o : Option OpenRow) → f (windowless o) ≡ f o) →
    (a b : Option OpenRow) → windowless a ≡ windowless b → f a ≡ f b
same_windowless f blind a b h = sym (blind a) ∙ (ap f h ∙ blind b)

-- whether a stage fits looks at the caller's open files alone, windows apart
fits_by_files : (s u : Objects) (p : ℕ) (c : SysCall) (n : ℕ) → SameFiles p s u →
    piece_fits c n s.things p ≡ piece_fits c n u.things p
fits_by_files s u p (Read fd i off len) n h =
    ap (λ b. nat_lt fd 4 && (nat_le n 2 && b))
    (same_windowless (read_fits n) (read_fits_windowless n) (s.things.file p fd)
    (u.things.file p fd) (h fd))
fits_by_files s u p c n h = refl

-- how many pieces are left looks at the caller's open files alone, windows apart
left_by_files : (s u : Objects) (p : ℕ) (c : SysCall) (n : ℕ) → SameFiles p s u →
    pieces_left c n s.things p ≡ pieces_left c n u.things p
left_by_files s u p (Read fd i off len) n h =
    same_windowless (read_left n) (read_left_windowless n) (s.things.file p fd) (u.things.file p fd)
    (h fd)
left_by_files s u p c n h = refl

-- a call that is granted is granted with more images loaded
more_granted : (c : SysCall) (t : Stage) (before index slot here there : Bool) →
    (here ≡ true → there ≡ true) →
    begins_unless c (refused before BadPoint
    (refused index BadIndex (refused (slot || not here) NoImage None))) ≡ Ok t →
    begins_unless c (refused before BadPoint
    (refused index BadIndex (refused (slot || not there) NoImage None))) ≡ Ok t
more_granted c t true index slot here there more h = cc
more_granted c t false true slot here there more h = cc
more_granted c t false false true here there more h = cc
more_granted c t false false false false there more h = cc
more_granted c t false false false true there more h = rw (more refl) h

-- an image that is loaded is loaded where there are more
loaded_more : (images more : ImageTable) (slot : ℕ) (i : Option Image) → Extends images more →
    images slot ≡ i → is_some i ≡ true → is_some (more slot) ≡ true
loaded_more images more slot None ext e h = cc
loaded_more images more slot (Some i) ext e h = ap is_some (ext slot i e)

-- a call that begins also begins with more images loaded
begins_more : (top : ℕ) (v : World) (images more : ImageTable) (p : ℕ) (c : SysCall) (t : Stage) →
    Extends images more →
    plain_early top v images p c ≡ Ok t → plain_early top v more p c ≡ Ok t
begins_more top v images more p (Install pt i limit) t ext h =
    more_granted (Install pt i limit) t (nat_lt top pt) (limit == 0
    || nat_lt 65536 limit) (nat_lt 31 i) (is_some (images i)) (is_some (more i))
    (loaded_more images more i (images i) ext refl) h
begins_more top v images more p c t ext h = h

-- ---- pieces after which the call goes on

-- what holds of the next stage u of a call c that stands before piece n
record GoesOn (c : SysCall) (n : ℕ) (p : ℕ) (before after : Things) (u : Stage) : Type 0 where
  pub same : u.call ≡ c
  pub fits : piece_fits u.call u.piece after p ≡ true
  pub fewer : pieces_left u.call u.piece after p < pieces_left c n before p

-- a piece that ends its call doesn't go on
stops : (c : SysCall) (n p : ℕ) (before after : Things) (u : Stage) (a : After) →
    continues a ≡ false → a ≡ Continues u → GoesOn c n p before after u
stops c n p before after u a h e = cc

-- a piece goes on to this piece of its call, which fits and has fewer left
goes_to : (c : SysCall) (n k p : ℕ) (before after : Things) (u : Stage) →
    piece_fits c k after p ≡ true →
    pieces_left c k after p < pieces_left c n before p → Continues (stage c k) ≡ Continues u →
    GoesOn c n p before after u
goes_to c n k p before after u h l e =
    let same : stage c k ≡ u = cc in
    subst (λ (t : Stage). GoesOn c n p before after t) same
    (record { same = refl; fits = h; fewer = l })

-- a function changed at a place has the new value there
pub at2_here : {A : Type 0} (i k : ℕ) (x : A) (f : ℕ → ℕ → A) → at2 i k x f i k ≡ x
at2_here i k x f = grind (arith, nat_tests)

-- ---- yield

-- a yield goes on from its first piece to its second
yield_goes_on : (n p : ℕ) (s : Objects) (blocks : Blocks) (answer : Option (List ℕ)) (u : Stage) →
    (yield_piece n s p answer blocks).after ≡ Continues u →
    GoesOn Yield n p s.things (yield_piece n s p answer blocks).objects.things u
yield_goes_on zero p s blocks answer u e =
    goes_to Yield 0 1 p s.things (yield_piece 0 s p answer blocks).objects.things u refl
    (omega arith) e
yield_goes_on (suc n) p s blocks answer u e = cc

-- ---- read

-- where the file stands open, a read before its second piece fits
second_fits : (fd : ℕ) (x : Option OpenRow) (o : OpenRow) → fd < 4 → x ≡ Some o →
    (nat_lt fd 4 && (nat_le 1 2 && read_fits 1 x)) ≡ true
second_fits fd x o low e = rw e (grind (arith, nat_tests))

-- and 9 pieces are left
second_left : (x : Option OpenRow) (o : OpenRow) → x ≡ Some o → read_left 1 x < 10
second_left x o e = rw e (omega arith)

-- where there is something to read ahead, a read before a later piece fits
later_fits : (fd : ℕ) (x : Option OpenRow) (o : OpenRow) (k : ℕ) → fd < 4 → x ≡ Some o →
    o.count ≡ suc k →
    (nat_lt fd 4 && (nat_le 2 2 && read_fits 2 x)) ≡ true
later_fits fd x o k low e h = rw (e, h) (grind (arith, nat_tests))

-- and as many pieces are left as there are blocks to read ahead
later_left : (x : Option OpenRow) (o : OpenRow) (k : ℕ) → x ≡ Some o → o.count ≡ suc k →
    read_left 2 x ≡ suc k
later_left x o k e h = rw e h

-- a read goes on from its first piece to its second, for what it fetched
first_goes_on : (s : Objects) (blocks : Blocks) (p fd i off len : ℕ) (o : OpenRow) (x : Fetched)
    (u : Stage) → fd < 4 →
    (read_first s blocks p fd i off len o x).after ≡ Continues u →
    GoesOn (Read fd i off len) 0 p s.things
    (read_first s blocks p fd i off len o x).objects.things u
first_goes_on s blocks p fd i off len o (Failed calls) u low e = cc
first_goes_on s blocks p fd i off len o (Got cache after frame calls) u low e =
    let w = (read_first s blocks p fd i off len o (Got cache after frame calls)).objects.things in
    let here : w.file p fd ≡ Some (read_on i o) =
    at2_here p fd (Some (read_on i o)) s.things.file in
    goes_to (Read fd i off len) 0 1 p s.things w u
    (second_fits fd (w.file p fd) (read_on i o) low here)
    (second_left (w.file p fd) (read_on i o) here) e

-- after a piece that left so much to read ahead
ahead_goes_on : (n p fd i off len : ℕ) (before after : Things) (o : OpenRow) (count : ℕ)
    (u : Stage) → fd < 4 →
    after.file p fd ≡ Some o → o.count ≡ count →
    count < pieces_left (Read fd i off len) n before p →
    unless_zero (stage (Read fd i off len) 2) count ≡ Continues u →
    GoesOn (Read fd i off len) n p before after u
ahead_goes_on n p fd i off len before after o zero u low here h l e = cc
ahead_goes_on n p fd i off len before after o (suc k) u low here h l e =
    goes_to (Read fd i off len) n 2 p before after u
    (later_fits fd (after.file p fd) o k low here h)
    (rw (later_left (after.file p fd) o k here h) l) e

-- a reading ahead by the policy is at most the window
pub ahead_count_most : (pol : PolValue) (seq : Bool) (window left : ℕ) →
    ahead_count pol seq window left ≤ window
ahead_count_most pol seq window left = grind (arith, nat_tests)

-- an answer that a point of reading ahead accepts has at most 8 blocks
accepted_few : (k : PointKind) (s : Objects) (args a : List ℕ) → k ≡ Ahead →
    accepted_by k s args a ≡ true → slice_index a 1 ≤ 8
accepted_few Ahead s args a e h = grind (arith, nat_tests)
accepted_few Victim s args a e h = cc
accepted_few Next s args a e h = cc
accepted_few Serve s args a e h = cc
accepted_few Stream s args a e h = cc

-- the points of descriptors are those of reading ahead
ahead_point : (fd : ℕ) → fd < 4 → kind_of fd ≡ Ahead
ahead_point fd h = grind (arith, nat_tests)

-- what is to be read ahead after the second piece is at most 8 blocks
ahead_most : (v : World) (s : Objects) (p fd : ℕ) (o : OpenRow) (answer : Option (List ℕ)) →
    fd < 4 → o.window ≤ 8 →
    IsRightAnswer s
    (Some (record { installer = p; point = fd; args = args_by Ahead v s.things p fd })) answer →
    (ahead_by answer (ahead_default v (s.things.pol 0) (Some o))).1 ≤ 8
ahead_most v s p fd o None low wide right =
    let most = ahead_count_most (s.things.pol 0) o.seq o.window
    (blocks_of v o.file - min o.next (blocks_of v o.file)) in omega (arith, most)
ahead_most v s p fd o (Some a) low wide right =
    accepted_few (kind_of fd) s (args_by Ahead v s.things p fd) a (ahead_point fd low) right

-- the first piece, for its block
first_at_goes_on : (r : Result ℕ Refusal) (v : World) (s : Objects) (blocks : Blocks)
    (p fd i off len : ℕ) (o : OpenRow)
    (answer : Option (List ℕ)) (io : List Bool) (u : Stage) → fd < 4 →
    (read_first_at r v s blocks p fd i off len o answer io).after ≡ Continues u →
    GoesOn (Read fd i off len) 0 p s.things
    (read_first_at r v s blocks p fd i off len o answer io).objects.things u
first_at_goes_on (Err why) v s blocks p fd i off len o answer io u low e = cc
first_at_goes_on (Ok b) v s blocks p fd i off len o answer io u low e =
    first_goes_on s blocks p fd i off len o
    (fetch v (s.things.pol 1) p b answer s.things.cache blocks io) u low e

-- a later piece, for what it fetched
third_goes_on : (s : Objects) (blocks : Blocks) (p fd i off len n : ℕ) (o : OpenRow) (x : Fetched)
    (u : Stage) → fd < 4 → s.things.file p fd ≡ Some o → 1 ≤ o.count →
    (read_third s blocks p fd i off len o x).after ≡ Continues u →
    GoesOn (Read fd i off len) (suc (suc n)) p s.things
    (read_third s blocks p fd i off len o x).objects.things u
third_goes_on s blocks p fd i off len n o (Failed calls) u low is some e = cc
third_goes_on s blocks p fd i off len n o (Got cache after frame calls) u low is some e =
    let left : read_left (suc (suc n)) (s.things.file p fd) ≡ o.count = rw is refl in
    ahead_goes_on (suc (suc n)) p fd i off len s.things
    (read_third s blocks p fd i off len o (Got cache after frame calls)).objects.things
    (with_ahead (o.start + 1) (o.count - 1) o) (o.count - 1) u low
    (at2_here p fd (Some (with_ahead (o.start + 1) (o.count - 1) o)) s.things.file) refl
    (omega (arith, some, left)) e

-- a later piece, for its block
third_at_goes_on : (r : Result ℕ Refusal) (v : World) (s : Objects) (blocks : Blocks)
    (p fd i off len n : ℕ) (o : OpenRow)
    (answer : Option (List ℕ)) (io : List Bool) (u : Stage) →
    fd < 4 → s.things.file p fd ≡ Some o → 1 ≤ o.count →
    (read_third_at r v s blocks p fd i off len o answer io).after ≡ Continues u →
    GoesOn (Read fd i off len) (suc (suc n)) p s.things
    (read_third_at r v s blocks p fd i off len o answer io).objects.things u
third_at_goes_on (Err why) v s blocks p fd i off len n o answer io u low is some e = cc
third_at_goes_on (Ok b) v s blocks p fd i off len n o answer io u low is some e =
    third_goes_on s blocks p fd i off len n o
    (fetch_ahead v (s.things.pol 1) p b answer s.things.cache blocks io) u low is some e

-- before a later piece there is something to read ahead
some_ahead : (n : ℕ) (x : Option OpenRow) (o : OpenRow) →
    (nat_le (suc (suc n)) 2 && read_fits (suc (suc n)) x) ≡ true → x ≡ Some o → 1 ≤ o.count
some_ahead n None o h e = cc
some_ahead n (Some r) o h e = let same : r ≡ o = cc in
    leb-true 1 o.count (rw (← same) (and_parts (nat_le (suc (suc n)) 2) (nat_le 1 r.count) h).1)

-- the pieces of a read, for the value of its descriptor
read_goes_on : (v : World) (images : ImageTable) (s : Objects) (blocks : Blocks)
    (p fd i off len n : ℕ) (o : Option OpenRow)
    (answer : Option (List ℕ)) (io : List Bool) (u : Stage) →
    PieceReady (Read fd i off len) n v images s p answer → s.things.file p fd ≡ o →
    (read_piece n v s blocks p fd i off len o answer io).after ≡ Continues u →
    GoesOn (Read fd i off len) n p s.things
    (read_piece n v s blocks p fd i off len o answer io).objects.things u
read_goes_on v images s blocks p fd i off len n None answer io u c is e = cc
read_goes_on v images s blocks p fd i off len zero (Some o) answer io u c is e =
    first_at_goes_on (file_block v (Some o) i off len) v s blocks p fd i off len o answer io u
    (read_granted v images p fd i off len c.granted) e
read_goes_on v images s blocks p fd i off len (suc zero) (Some o) answer io u c is e =
    let sound = (c.store.files p fd o is).1 in
    let low : fd < 4 = (c.store.files p fd o is).0 in
    let ahead = ahead_by answer (ahead_default v (s.things.pol 0) (Some o)) in
    let most : ahead.1 ≤ 8 = ahead_most v s p fd o answer low sound.window c.right in
    let left : read_left 1 (s.things.file p fd) ≡ 9 = rw is refl in
    ahead_goes_on 1 p fd i off len s.things
    (read_second s blocks p fd i off len o ahead).objects.things
    (with_ahead ahead.0 ahead.1 o) ahead.1 u low
    (at2_here p fd (Some (with_ahead ahead.0 ahead.1 o)) s.things.file) refl
    (omega (arith, most, left)) e
read_goes_on v images s blocks p fd i off len (suc (suc n)) (Some o) answer io u c is e =
    third_at_goes_on (ahead_block v (Some o)) v s blocks p fd i off len n o answer io u
    (read_granted v images p fd i off len c.granted) is
    (some_ahead n (s.things.file p fd) o
    (and_parts (nat_lt fd 4) (nat_le (suc (suc n)) 2
    && read_fits (suc (suc n)) (s.things.file p fd)) c.fits).1 is) e

-- ---- all calls

-- a write ends its call
write_fetched_stops : (s : Objects) (blocks : Blocks) (off : ℕ) (new : List ℕ) (x : Fetched) →
    continues (write_fetched s blocks off new x).after ≡ false
write_fetched_stops s blocks off new (Failed calls) = refl
write_fetched_stops s blocks off new (Got cache after frame calls) = refl

-- whatever block it names
write_stops : (r : Result ℕ Refusal) (v : World) (s : Objects) (blocks : Blocks) (p off : ℕ)
    (new : List ℕ) (answer : Option (List ℕ)) (io : List Bool) →
    continues (write_piece r v s blocks p off new answer io).after ≡ false
write_stops (Err why) v s blocks p off new answer io = refl
write_stops (Ok b) v s blocks p off new answer io =
    write_fetched_stops s blocks off new
    (fetch v (s.things.pol 1) p b answer s.things.cache blocks io)

-- a sync ends its call
sync_stops : (n f written : ℕ) (s : Objects) (blocks : Blocks) (io : List Bool) →
    continues (sync_from n f written s blocks io).after ≡ false
sync_stops n f written s blocks io =
    sync_steps io (λ n f written s blocks x. continues x.after ≡ false) (λ f written s blocks. refl)
    (λ n f written s blocks x e h. h)
    (λ n f written s blocks value e b. refl)
    (λ n f written s blocks value x e b h. h) n f written s blocks

-- a piece that goes on goes on to a stage of its call that fits and has fewer pieces left
goes_on : (v : World) (images : ImageTable) (s : Objects) (blocks : Blocks) (p : ℕ) (c : SysCall)
    (n : ℕ) (u : Stage) (answer : Option (List ℕ)) (io : List Bool) →
    PieceReady c n v images s p answer → (piece_of c n v s blocks p answer io).after ≡ Continues u →
    GoesOn c n p s.things (piece_of c n v s blocks p answer io).objects.things u
goes_on v images s blocks p Yield n u answer io c e = yield_goes_on n p s blocks answer u e
goes_on v images s blocks p (Read fd i off len) n u answer io c e =
    read_goes_on v images s blocks p fd i off len n (s.things.file p fd) answer io u c refl e
goes_on v images s blocks p (Write fd i off bytes) n u answer io c e =
    stops (Write fd i off bytes) n p s.things
    (piece_of (Write fd i off bytes) n v s blocks p answer io).objects.things u
    (piece_of (Write fd i off bytes) n v s blocks p answer io).after
    (write_stops (file_block v (s.things.file p fd) i off (length bytes)) v s blocks p off bytes
    answer io) e
goes_on v images s blocks p Sync n u answer io c e =
    stops Sync n p s.things (piece_of Sync n v s blocks p answer io).objects.things u
    (piece_of Sync n v s blocks p answer io).after
    (sync_stops v.frames 0 0 s blocks io) e
goes_on v images s blocks p call n u answer io c e =
    stops call n p s.things (piece_of call n v s blocks p answer io).objects.things u
    (piece_of call n v s blocks p answer io).after
    (quick_piece call n v s blocks p answer io refl).stops e

-- 1 to 10 pieces of a read are left
read_left_some : (v : World) (n : ℕ) (x : Option OpenRow) → (nat_le n 2 && read_fits n x) ≡ true →
    ((o : OpenRow) → x ≡ Some o → o.count ≤ 8) → (1 ≤ read_left n x) × (read_left n x ≤ 15)
read_left_some v zero x h few = omega arith
read_left_some v (suc n) None h few = omega arith
read_left_some v (suc zero) (Some o) h few = omega arith
read_left_some v (suc (suc n)) (Some o) h few =
    (some_ahead n (Some o) o h refl, let l = few o refl in omega arith)

-- 1 to 15 pieces are left
left_some : (v : World) (images : ImageTable) (s : Objects) (p : ℕ) (c : SysCall) (n : ℕ) →
    PieceStands c n v images s p →
    (1 ≤ pieces_left c n s.things p) × (pieces_left c n s.things p ≤ 15)
left_some v images s p Yield n c = let l = leb-true n 1 c.fits in omega arith
left_some v images s p (Read fd i off len) n c =
    read_left_some v n (s.things.file p fd)
    (and_parts (nat_lt fd 4) (nat_le n 2 && read_fits n (s.things.file p fd)) c.fits).1
    (λ o e. (c.store.files p fd o e).1.count)
left_some v images s p call n c = omega arith

-- The laws of stages hold of the system calls.
pub stages_of_plain : (top : ℕ) → top ≤ 15 → StageLaws (plain_upto top)
stages_of_plain top most =
    record {
      first = λ v images s p c t h. begins_fitting top v images s p c t h;
      same_call = λ v images p c t h. begins_itself top v images p c t h;
      next = λ v images s blocks p t u answer io c e.
          (goes_on v images s blocks p t.call t.piece u (registers_of answer) io
          (piece_ready top v images s p t answer most c) e).fits;
      same_call_next =
          λ v images s blocks p t u answer io c e.
          (goes_on v images s blocks p t.call t.piece u (registers_of answer) io
          (piece_ready top v images s p t answer most c) e).same;
      fits_same = λ v s u p t h. fits_by_files s u p t.call t.piece h;
      more_images = λ v images more p c t h e. begins_more top v images more p c t h e;
      some_left = λ v images s p t c. left_some v images s p t.call t.piece
          (piece_stands top v images s p t most c);
      left_falls =
          λ v images s blocks p t u answer io c e.
          (goes_on v images s blocks p t.call t.piece u (registers_of answer) io
          (piece_ready top v images s p t answer most c) e).fewer;
      left_same = λ v s u p t h. left_by_files s u p t.call t.piece h;
    }
