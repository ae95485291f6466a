-- Rows that come behind others.
use Rattle.std.proofs.Common.{◌≡◌, List, [], ◌∷◌, ◌++◌, map, filter_map, flat_map, refl, ap, ◌∙◌}
use Rattle.std.proofs.lemmas.List.{append_assoc}
use Rattle.kernel_data.specs.declared.RawRow.{RawRow}
use Rattle.kernel_data.specs.Objects.{Objects}
use Rattle.kernel_data.specs.World.{processes}
use Rattle.kernel_model.specs.AllCalls.{all_calls}
use Rattle.kernel_model.specs.Kernel.{Kernel}
use Rattle.kernel_model.specs.RawRows as rows
use Rattle.audit_kernel.specs.Rows.{flight_rows, frame_rows, place_rows, process_rows}

-- some came, and then the others
pub some_more : {A : Type 0} (old mid new xs ys : List A) → mid ≡ old ++ xs → new ≡ mid ++ ys →
    new ≡ old ++ (xs ++ ys)
some_more {A} old mid new xs ys first rest =
    rest ∙ ap (λ (zs : List A). zs ++ ys) first ∙ append_assoc old xs ys

-- the parts of the rows, one behind the other
regroup : {A : Type 0} (a b c d e f g h i : List A) (x : A) →
    (a ++ b) ++ (((c ++ d) ++ e) ++ (x ∷ (f ++ ((g ++ h) ++ i))))
    ≡ (((((((a ++ b) ++ c) ++ d) ++ e) ++ (x ∷ f)) ++ g) ++ h) ++ i
regroup a b c d e f g h i x = simp append_assoc refl

-- all rows, one part behind the other
pub all_rows : (k : Kernel) (w : Objects) (start mid more most all : List RawRow) → start ≡ [] →
    ((others : List RawRow) → mid ++ others ≡ start ++ process_rows k w others) →
    ((others : List RawRow) → more ++ others ≡ mid ++ place_rows k.world w others) →
    ((others : List RawRow) → most ++ others ≡ more ++ frame_rows w others) →
    all ≡ most ++ flight_rows k → all ≡ rows.rows_on all_calls k w
all_rows k w start mid more most all none processes_are places_are frames_are flights_are =
    let calls = flight_rows k in
    flights_are ∙ frames_are calls ∙ places_are (frame_rows w calls)
    ∙ processes_are (place_rows k.world w (frame_rows w calls))
    ∙ ap (λ (xs : List RawRow). xs ++ process_rows k w (place_rows k.world w (frame_rows w calls))) none
    ∙ ap (λ (xs : List RawRow). RawRow.Clock k.clock ∷ RawRow.Queue w.things.queue ∷ xs)
    (regroup (map (rows.acct_row w) (rows.living w)) (map (rows.cells_row w) (rows.living w))
    (flat_map (rows.open_rows k.world w) processes) (flat_map (rows.graft_rows w) processes)
    (map (rows.pol_row w) (0 ∷ 1 ∷ 2 ∷ [])) (filter_map (rows.lock_row w) rows.points)
    (filter_map (rows.call_row all_calls k) processes) (flat_map (rows.level_rows all_calls k) processes)
    (flat_map (rows.undo_rows all_calls k) processes)
    (RawRow.Lru (filter_map (rows.frame_row_of w) w.things.cache.lru)))
