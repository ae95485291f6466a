-- What it is for a cache to be sound, and the changes of a cache that keep it so.
use Rattle.std.specs.Prelude.{◌≡◌, ◌≢◌, ℕ, ◌+◌, ◌<◌, ◌≤◌, ◌==◌, true, false, cond, not, length}
use Rattle.std.specs.Prelude.{take, drop, List, [], ◌∷◌, ◌++◌, filter, Option, None, Some, is_some}
use Rattle.std.proofs.Common.{◌⊎◌, arith, refl, subst, sym, ap, ◌∙◌, inl, inr}
use Rattle.std.proofs.lemmas.Bool.{cases_Bool, cases_eq, cond-true, cond-false, eq-eqb, ne_eqb}
use Rattle.std.proofs.lemmas.Bool.Decides.{nat_tests}
use Rattle.std.proofs.lemmas.List.{length-append, length-take, length-drop}
use Rattle.kernel_model.specs.declared.QueueRow.{QueueRow}
use Rattle.kernel_model.specs.World.{World}
use Rattle.kernel_model.specs.Objects.{Objects, CacheValue, FrameValue, at}
use Rattle.kernel_model.specs.Fetch.{newest, swapped, used, filled, bytes_with, patched, with_patch, cleaned}
use Rattle.kernel_model.specs.Sound.{IsSoundStore, IsSoundFrame, count_of, once_if}

-- the order of use lists the frames in use once each, and no block stands in two frames
pub record IsSoundCache (v : World) (queue : List QueueRow) (c : CacheValue) : Type 0 where
  pub in_use : (f : ℕ) → count_of f c.lru ≡ once_if (is_some (c.frame f))
  pub frame_numbers : (f : ℕ) → is_some (c.frame f) ≡ true → f < v.frames
  pub one_frame : (f g : ℕ) (x y : FrameValue) → c.frame f ≡ Some x → c.frame g ≡ Some y →
      x.block ≡ y.block → f ≡ g
  pub frames : (f : ℕ) (x : FrameValue) → c.frame f ≡ Some x → IsSoundFrame queue x

-- the cache of a sound store
pub cache_of_store : (v : World) (s : Objects) → IsSoundStore v s →
    IsSoundCache v s.things.queue s.things.cache
cache_of_store v s h = record {
  in_use = h.in_use;
  frame_numbers = h.frame_numbers;
  one_frame = h.one_frame;
  frames = h.frames;
}

-- ---- the order of use

-- in two parts
count_parts : (g : ℕ) (xs ys : List ℕ) → count_of g (xs ++ ys) ≡ count_of g xs + count_of g ys
count_parts g [] ys = grind arith
count_parts g (x ∷ xs) ys = grind (arith, nat_tests, count_parts g xs ys)

-- without a frame
count_without : (g f : ℕ) (xs : List ℕ) →
    count_of g (filter (λ h. not (h == f)) xs) ≡ cond (g == f) 0 (count_of g xs)
count_without g f [] = grind arith
count_without g f (x ∷ xs) = grind (arith, nat_tests, count_without g f xs)

-- after a use
count_newest : (g f : ℕ) (xs : List ℕ) → count_of g (newest f xs) ≡ cond (g == f) 1 (count_of g xs)
count_newest g f xs =
    grind (
      arith,
      nat_tests,
      count_parts g (filter (λ h. not (h == f)) xs) (f ∷ []),
      count_without g f xs,
    )

-- the frame that stands in a place after two changed theirs
abbrev other_of : (f g h : ℕ) → ℕ
other_of f g h = cond (h == f) g (cond (h == g) f h)

-- after two frames changed places
count_swapped : (h f g : ℕ) (xs : List ℕ) →
    count_of h (swapped f g xs) ≡ count_of (other_of f g h) xs
count_swapped h f g [] = refl
count_swapped h f g (x ∷ xs) = grind (arith, nat_tests, count_swapped h f g xs)

-- ---- changes of frames

-- the block of a frame, if it is in use
abbrev pub block_at : Option FrameValue → Option ℕ
block_at None = None
block_at (Some x) = Some x.block

-- a frame is in use if it has a block
in_use_by_block : (x y : Option FrameValue) → block_at x ≡ block_at y → is_some x ≡ is_some y
in_use_by_block x y e = grind arith

-- no frame is in use that has no block
block_found : (x y : Option FrameValue) (value : FrameValue) → block_at x ≡ block_at y →
    x ≡ Some value → (old : FrameValue) × (y ≡ Some old) × (value.block ≡ old.block)
block_found x None value e h = let none : None ≡ Some value.block = sym e ∙ ap block_at h in cc
block_found x (Some old) value e h = let same : Some old.block ≡ Some value.block = sym e
    ∙ ap block_at h in (old, refl, (let k : value.block ≡ old.block = cc in k))

-- frames with the same blocks as before, each sound, make a sound cache
pub sound_reframed : (v : World) (queue rows : List QueueRow) (c : CacheValue) (frame : ℕ →
    Option FrameValue) → IsSoundCache v queue c →
    ((f : ℕ) → block_at (frame f) ≡ block_at (c.frame f)) →
    ((f : ℕ) (x : FrameValue) → frame f ≡ Some x → IsSoundFrame rows x) →
    IsSoundCache v rows (record c { frame = frame })
sound_reframed v queue rows c frame h same each = record {
  in_use = λ f. h.in_use f ∙ ap once_if (sym (in_use_by_block (frame f) (c.frame f) (same f)));
  frame_numbers = λ f e. h.frame_numbers f (sym (in_use_by_block (frame f) (c.frame f) (same f))
      ∙ e);
  one_frame = λ f g x y e k b.
      let old = block_found (frame f) (c.frame f) x (same f) e in
      let other = block_found (frame g) (c.frame g) y (same g) k in
      h.one_frame f g old.0 other.0 old.1 other.1 (sym old.2 ∙ b ∙ other.2);
  frames = each;
}

-- ---- a use, and a frame that is filled

-- a frame in use is used
pub sound_used : (v : World) (queue : List QueueRow) (f : ℕ) (c : CacheValue) →
    IsSoundCache v queue c → is_some (c.frame f) ≡ true → IsSoundCache v queue (used f c)
sound_used v queue f c h there = record {
  in_use = λ g. used_count f g c.lru c.frame there (h.in_use g);
  frame_numbers = h.frame_numbers;
  one_frame = h.one_frame;
  frames = h.frames;
}
  where
    -- each frame counts as before
    used_count : (f g : ℕ) (lru : List ℕ) (frame : ℕ → Option FrameValue) →
        is_some (frame f) ≡ true → count_of g lru ≡ once_if (is_some (frame g)) →
        count_of g (newest f lru) ≡ once_if (is_some (frame g))
    used_count f g lru frame there h = elim (cases_eq g f) [
      | inl e ↦ count_newest g f lru ∙ cond-true (g == f) 1 (count_of g lru) (eq-eqb g f e)
          ∙ sym (ap once_if (ap (λ i. is_some (frame i)) e ∙ there))
      | inr ne ↦ count_newest g f lru ∙ cond-false (g == f) 1 (count_of g lru) (ne_eqb g f ne) ∙ h
    ]

-- the count of a frame after one was filled
filled_count : (f g : ℕ) (value : FrameValue) (c : CacheValue) →
    count_of g c.lru ≡ once_if (is_some (c.frame g)) →
    count_of g (filled f value c).lru ≡ once_if (is_some ((filled f value c).frame g))
filled_count f g value c h = elim (cases_Bool (g == f)) [
  | inl e ↦ count_newest g f c.lru ∙ cond-true (g == f) 1 (count_of g c.lru) e
      ∙ sym (ap (λ x. once_if (is_some x)) (cond-true (g == f) (Some value) (c.frame g) e))
  | inr e ↦ count_newest g f c.lru ∙ cond-false (g == f) 1 (count_of g c.lru) e ∙ h
      ∙ sym (ap (λ x. once_if (is_some x)) (cond-false (g == f) (Some value) (c.frame g) e))
]

-- what a frame holds after one was filled: the new value, or what it held
pub filled_at : (f g : ℕ) (value x : FrameValue) (c : CacheValue) →
    (filled f value c).frame g ≡ Some x → ((g ≡ f) × (x ≡ value)) ⊎ ((g ≢ f) × (c.frame g ≡ Some x))
filled_at f g value x c h = elim (cases_eq g f) [
  | inl e ↦ let k : Some value ≡ Some x =
      sym (cond-true (g == f) (Some value) (c.frame g) (eq-eqb g f e)) ∙ h in
      inl (e, (let s : x ≡ value = cc in s))
  | inr ne ↦ inr (ne, sym (cond-false (g == f) (Some value) (c.frame g) (ne_eqb g f ne)) ∙ h)
]

-- a frame is filled with a block that stands in no other
pub sound_filled : (v : World) (queue : List QueueRow) (f : ℕ) (value : FrameValue)
    (c : CacheValue) → IsSoundCache v queue c → f < v.frames →
    IsSoundFrame queue value →
    ((g : ℕ) (x : FrameValue) → g ≢ f → c.frame g ≡ Some x → x.block ≢ value.block) →
    IsSoundCache v queue (filled f value c)
sound_filled v queue f value c h low sound other = record {
  in_use = λ g. filled_count f g value c (h.in_use g);
  frame_numbers = λ g e. elim (cases_eq g f) [
    | inl same ↦ omega arith
    | inr ne ↦ h.frame_numbers g
        (sym (ap is_some (cond-false (g == f) (Some value) (c.frame g) (ne_eqb g f ne))) ∙ e)
  ];
  one_frame = λ g k x y e d b. elim (filled_at f g value x c e) [
    | inl a ↦ elim (filled_at f k value y c d) [
      | inl z ↦ a.0 ∙ sym z.0
      | inr z ↦ absurd (other k y z.0 z.1 (sym b ∙ ap (λ (q : FrameValue). q.block) a.1))
    ]
    | inr a ↦ elim (filled_at f k value y c d) [
      | inl z ↦ absurd (other g x a.0 a.1 (b ∙ ap (λ (q : FrameValue). q.block) z.1))
      | inr z ↦ h.one_frame g k x y a.1 z.1 b
    ]
  ];
  frames = λ g x e. elim (filled_at f g value x c e) [
    | inl a ↦ subst (λ q. IsSoundFrame queue q) (sym a.1) sound
    | inr a ↦ h.frames g x a.1
  ];
}

-- two frames in use change places
pub sound_swapped : (v : World) (queue : List QueueRow) (f g : ℕ) (c : CacheValue) →
    IsSoundCache v queue c → is_some (c.frame f) ≡ true → is_some (c.frame g) ≡ true →
    IsSoundCache v queue (record c { lru = swapped f g c.lru })
sound_swapped v queue f g c h there here = record {
  in_use = λ k. swap_count c.lru c.frame f g k (h.in_use (other_of f g k)) there here;
  frame_numbers = h.frame_numbers;
  one_frame = h.one_frame;
  frames = h.frames;
}
  where
    -- each frame counts as the one in whose place it stands
    swap_count : (lru : List ℕ) (frame : ℕ → Option FrameValue) (f g k : ℕ) →
        count_of (other_of f g k) lru ≡ once_if (is_some (frame (other_of f g k))) →
        is_some (frame f) ≡ true → is_some (frame g) ≡ true →
        count_of k (swapped f g lru) ≡ once_if (is_some (frame k))
    swap_count lru frame f g k h there here = let c = count_swapped k f g lru in
        grind (arith, nat_tests)

-- ---- frames that keep their block

-- a patched frame is in use as before, with its block
patched_block : (off : ℕ) (new : List ℕ) (x : Option FrameValue) →
    block_at (patched off new x) ≡ block_at x
patched_block off new None = refl
patched_block off new (Some x) = refl

-- one frame that keeps its block
one_block : (f g : ℕ) (x : Option FrameValue) (frame : ℕ → Option FrameValue) →
    block_at x ≡ block_at (frame f) → block_at (at f x frame g) ≡ block_at (frame g)
one_block f g x frame h = grind (arith, nat_tests)

-- bytes put into a block
length_patched : (off : ℕ) (new old : List ℕ) → off + length new ≤ 512 → length old ≡ 512 →
    length (bytes_with off new old) ≡ 512
length_patched off new old low whole =
    omega (
      arith,
      length-append (take off old ++ new) (drop (off + length new) old),
      length-append (take off old) new,
      length-take off old,
      length-drop (off + length new) old,
    )

-- a patched frame is sound
patched_sound : (queue : List QueueRow) (off : ℕ) (new : List ℕ) (old : Option FrameValue)
    (x : FrameValue) → off + length new ≤ 512 →
    ((y : FrameValue) → old ≡ Some y → IsSoundFrame queue y) → patched off new old ≡ Some x →
    IsSoundFrame queue x
patched_sound queue off new None x low h e = cc
patched_sound queue off new (Some y) x low h e =
    let k = h y refl in
    let same : record y { dirty = true; bytes = bytes_with off new y.bytes } ≡ x = cc in
    subst (λ q. IsSoundFrame queue q) same
    (record {
      owner = k.owner;
      block = k.block;
      mark = k.mark;
      bytes = length_patched off new y.bytes low k.bytes;
    })

-- a frame at a changed place: the new value, or what it held
at_found : (f g : ℕ) (new : Option FrameValue) (frame : ℕ → Option FrameValue) (x : FrameValue) →
    at f new frame g ≡ Some x → (new ≡ Some x) ⊎ (frame g ≡ Some x)
at_found f g new frame x h = elim (cases_Bool (g == f)) [
  | inl e ↦ inl (sym (cond-true (g == f) new (frame g) e) ∙ h)
  | inr e ↦ inr (sym (cond-false (g == f) new (frame g) e) ∙ h)
]

-- bytes are put into a frame
pub sound_patch : (v : World) (queue : List QueueRow) (f off : ℕ) (new : List ℕ) (c : CacheValue) →
    IsSoundCache v queue c → off + length new ≤ 512 →
    IsSoundCache v queue (with_patch f off new c)
sound_patch v queue f off new c h low =
    sound_reframed v queue queue c (at f (patched off new (c.frame f)) c.frame) h
    (λ g. one_block f g (patched off new (c.frame f)) c.frame (patched_block off new (c.frame f)))
    (λ g x e. elim (at_found f g (patched off new (c.frame f)) c.frame x e) [
      | inl here ↦ patched_sound queue off new (c.frame f) x low (λ y k. h.frames f y k) here
      | inr there ↦ h.frames g x there
    ])

-- a frame is written to the disk
pub sound_cleaned : (v : World) (queue : List QueueRow) (f : ℕ) (value : FrameValue)
    (c : CacheValue) → IsSoundCache v queue c → c.frame f ≡ Some value →
    IsSoundCache v queue (cleaned f value c)
sound_cleaned v queue f value c h there =
    sound_reframed v queue queue c (at f (Some (record value { dirty = false })) c.frame) h
    (λ g. one_block f g (Some (record value { dirty = false })) c.frame (sym (ap block_at there)))
    (λ g x e. elim (at_found f g (Some (record value { dirty = false })) c.frame x e) [
      | inl here ↦
          let k = h.frames f value there in
          let same : record value { dirty = false } ≡ x = cc in
          subst (λ q. IsSoundFrame queue q) same
          (record { owner = k.owner; block = k.block; mark = k.mark; bytes = k.bytes })
      | inr else ↦ h.frames g x else
    ])
