-- The kernels of runs are sound.
use Rattle.std.specs.Prelude.{◌≡◌, ℕ, suc, ◌<◌, ◌≤◌, Bool, true, false, List, [], ◌∷◌, drop}
use Rattle.std.specs.Prelude.{length, is_some, codes, slice_index_or, Option, Some, None, Result}
use Rattle.std.specs.Prelude.{Ok, Err}
use Rattle.std.proofs.Common.{arith, refl, subst, sym}
use Rattle.script_model.specs.declared.Keys.{Keys}
use Rattle.script_model.specs.declared.FileRow.{FileRow}
use Rattle.script_model.specs.Directory.{Disk, directory_of, usable_count, lies_on_disk}
use Rattle.script_model.specs.Kernel.{Kernel}
use Rattle.script_model.specs.Meaning.{disk_fails}
use Rattle.script_model.specs.Laws.{Laws}
use Rattle.script_model.specs.Opening.{opening_kernel}
use Rattle.script_model.specs.Script.{Entry, Blank, Frames, Patience, Grant, Boot, Happens, Loads}
use Rattle.script_model.specs.Script.{Raw, ScriptFault, parsed_line}
use Rattle.script_model.specs.Session.{Build, Setup, Session, Written, silent, world_of, booted}
use Rattle.script_model.specs.Session.{boots, running_in, after_entry, after_parse, after_line}
use Rattle.script_model.specs.Session.{first_io, later_io, session_after, first_session}
use Rattle.script_model.specs.Sound.{IsSoundKernel, HasWholeBlocks}
use Rattle.script_model.specs.Text.{boot_text}
use Rattle.kernel_laws.proofs.OpeningLemmas.{opening_kernel_is_sound}
use Rattle.session_laws.proofs.SoundLineLemmas.{lines_stay_sound}
use Rattle.session_laws.specs.Sessions.{IsRunnable, RunsAreSound}
use Rattle.session_laws.proofs.DirectoryLemmas.{row_count, rows_lie, ends_on}
use Rattle.session_laws.proofs.SetupLemmas.{IsRight, SaysRight, line_right}

module _ (b : Build) (keys : Keys) (size : ℕ) where
  -- a set-up with which a kernel can begin, over whole blocks
  pub record IsSetUp (s : Session) : Type 0 where
    pub least : 2 ≤ s.setup.frames
    pub most : s.setup.frames ≤ 64
    pub blocks : (i : ℕ) → i < size → length (s.blocks i) ≡ 512

  -- before boot a kernel can begin, and after it is sound
  abbrev pub StandsWith : Session → Option Kernel → Type 0
  StandsWith s None = IsSetUp s
  StandsWith s (Some k) = IsSoundKernel b.meaning k × HasWholeBlocks k.world s.blocks

  abbrev pub Stands : Session → Type 0
  Stands s = StandsWith s s.kernel

  module _ (laws : Laws b.meaning) (callable : b.callable ≤ 15) (some : 1 ≤ size) (high : size ≤ 4096) where
    -- ---- boot

    -- the kernel after boot, by its directory
    opens : (u : Setup) (rows : List (Option FileRow)) → 2 ≤ u.frames → u.frames ≤ 64 → length rows ≤ 16 →
        ((n : ℕ) (r : FileRow) → slice_index_or rows n None ≡ Some r → lies_on_disk size r ≡ true) →
        IsSoundKernel b.meaning (opening_kernel (world_of u size b.callable rows))
    opens u rows least most few lie =
        let v = world_of u size b.callable rows in
        opening_kernel_is_sound b.meaning v
        (record {
          frames_some = least;
          frames_most = most;
          entries = few;
          files = λ n r is. omega (arith, ends_on size r (lie n r is), high);
          callable = callable;
        })
        (record {
          some = some;
          most = high;
          files = λ n r is. ends_on size r (lie n r is);
          frames = λ f x is. absurd cc;
        })

    boot_stands : (s : Session) (io : List Bool) → IsSetUp s → Stands (boots size b.callable s io).session
    boot_stands s io h = by_fault (disk_fails io 0)
      where
        rows : List (Option FileRow)
        rows = directory_of size (s.blocks 0)

        none_there : (n : ℕ) (r : FileRow) → slice_index_or [] n None ≡ Some r → lies_on_disk size r ≡ true
        none_there n r is = absurd cc

        empty_few : 0 ≤ 16
        empty_few = omega arith

        rows_few : length rows ≤ 16
        rows_few = omega (arith, row_count size (s.blocks 0) 16)

        by_fault : (failed : Bool) → Stands (elim failed as (λ _. Written) [
          | true ↦ booted s (world_of s.setup size b.callable []) (codes "0 E16") (drop 1 io)
          | false ↦ booted s (world_of s.setup size b.callable rows)
              (boot_text s.setup.frames size (usable_count rows)) (drop 1 io)
        ]).session
        by_fault true = (opens s.setup [] h.least h.most empty_few none_there, h.blocks)
        by_fault false = (opens s.setup rows h.least h.most rows_few (rows_lie size (s.blocks 0) 16), h.blocks)

    -- ---- lines before boot

    -- what stands where there is no kernel
    set_up : (s : Session) → s.kernel ≡ None → Stands s → IsSetUp s
    set_up s e h = subst (StandsWith s) e h

    stands_up : (s : Session) → s.kernel ≡ None → IsSetUp s → Stands s
    stands_up s e h = subst (StandsWith s) (sym e) h

    -- an entry that needs a kernel does nothing
    idle_stands : (s : Session) (e : Entry) (io : List Bool) → s.kernel ≡ None → Stands s →
        Stands (running_in b keys size s e s.kernel io).session
    idle_stands s e io none h = subst (λ x. Stands (running_in b keys size s e x io).session) (sym none) h

    entry_stands : (s : Session) (e : Entry) (io : List Bool) → s.kernel ≡ None →
        IsRight (is_some s.kernel) e → Stands s → Stands (after_entry b keys size s e io).session
    entry_stands s Blank io none right h = h
    entry_stands s (Frames n) io none right h =
        stands_up (record s { setup = record (s.setup) { frames = n } }) none
        (record { least = right.0; most = right.1; blocks = (set_up s none h).blocks })
    entry_stands s (Patience kind ticks) io none right h =
        let u = set_up s none h in
        stands_up (after_entry b keys size s (Patience kind ticks) io).session none
        (record { least = u.least; most = u.most; blocks = u.blocks })
    entry_stands s (Grant n) io none right h =
        let u = set_up s none h in
        stands_up (after_entry b keys size s (Grant n) io).session none
        (record { least = u.least; most = u.most; blocks = u.blocks })
    entry_stands s Boot io none right h = boot_stands s io (set_up s none h)
    entry_stands s (Happens e) io none right h = idle_stands s (Happens e) io none h
    entry_stands s (Loads slot bytes) io none right h = idle_stands s (Loads slot bytes) io none h
    entry_stands s Raw io none right h = idle_stands s Raw io none h

    parse_stands : (s : Session) (x : Result Entry ScriptFault) (io : List Bool) → s.kernel ≡ None →
        SaysRight (is_some s.kernel) x → Stands s → Stands (after_parse b keys size s x io).session
    parse_stands s (Err fault) io none right h =
        let u = set_up s none h in
        stands_up (record s { refused = true }) none (record { least = u.least; most = u.most; blocks = u.blocks })
    parse_stands s (Ok e) io none right h = entry_stands s e io none right h

    first_stands : (s : Session) (text : List ℕ) (io : List Bool) → s.kernel ≡ None → IsSetUp s →
        Stands (after_line b keys size s text io).session
    first_stands s text io none h = by_refused s.refused
      where
        next : Session
        next = record s { lines = suc s.lines }

        by_refused : (refused : Bool) → Stands (elim refused as (λ _. Written) [
          | true ↦ silent s io
          | false ↦ after_parse b keys size next (parsed_line b.words (is_some s.kernel) text) io
        ]).session
        by_refused true = stands_up s none h
        by_refused false =
            parse_stands next (parsed_line b.words (is_some s.kernel) text) io none
            (line_right b.words (is_some s.kernel) text)
            (stands_up next none (record { least = h.least; most = h.most; blocks = h.blocks }))

    -- ---- all lines

    pub line_stands : (s : Session) (text : List ℕ) (io : List Bool) → Stands s →
        Stands (after_line b keys size s text io).session
    line_stands s text io h = by_kernel s.kernel refl h
      where
        by_kernel : (x : Option Kernel) → s.kernel ≡ x → StandsWith s x →
            Stands (after_line b keys size s text io).session
        by_kernel None is stands = first_stands s text io is stands
        by_kernel (Some k) is stands =
            let after = lines_stay_sound b keys size s (text ∷ []) (io ∷ []) laws
            (record { kernel = k; is = is; sound = stands.0; blocks = stands.1 }) in
            subst (StandsWith (after_line b keys size s text io).session) (sym after.is) (after.sound, after.blocks)

    lines_stand : (s : Session) (texts : List (List ℕ)) (ios : List (List Bool)) → Stands s →
        Stands (session_after b keys size s texts ios)
    lines_stand s [] ios h = h
    lines_stand s (text ∷ texts) ios h =
        lines_stand (after_line b keys size s text (first_io ios)).session texts (later_io ios)
        (line_stands s text (first_io ios) h)

-- the first session stands
pub first_session_stands : (b : Build) (keys : Keys) (d : Disk) → IsRunnable b d →
    Stands b keys d.size (first_session d)
first_session_stands b keys d h = record { least = few; most = many; blocks = h.blocks }
  where
    few : 2 ≤ 8
    few = omega arith

    many : 8 ≤ 64
    many = omega arith

pub runs_are_sound : RunsAreSound
runs_are_sound b keys d texts ios k h is =
    let s = session_after b keys d.size (first_session d) texts ios in
    subst (StandsWith b keys d.size s) is
    (lines_stand b keys d.size h.laws h.callable h.some h.most (first_session d) texts ios
    (first_session_stands b keys d h))
