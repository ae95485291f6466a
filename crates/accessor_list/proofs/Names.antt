-- Names of a list and their places, both ways.
use Rattle.std.proofs.Common.{◌≡◌, ℕ, zero, suc, List, [], get_or, Some, refl, sym, ap, subst, codes}
use Rattle.std.specs.Prelude.{slice_get, position}
use Rattle.std.proofs.lemmas.List.Quantifiers.{position-Some}
use Rattle.std.proofs.lemmas.Option.{slice_get-get_or}
use Rattle.std.proofs.lemmas.Slice.Eq.{bytes_eq-Decides}
use Rattle.kernel_model.specs.World.{same_bytes}
use Rattle.kernel_model.specs.Callables.{callables, callable_name, callable_id}

-- the name at the place where it is found
found_at : (names : List (List ℕ)) (name : List ℕ) (i : ℕ) →
    position (same_bytes name) names ≡ Some i → slice_get names i ≡ Some name
found_at names name i h =
    let p = position-Some (same_bytes name) names i [] h in
    rw (slice_get-get_or names i [] p.0) (ap Some (sym ((bytes_eq-Decides name (get_or names i [])).0 p.1)))

-- a name that has an id is the id's
pub name-id : (id : ℕ) (name : List ℕ) → callable_id name ≡ Some id → callable_name id ≡ Some name
name-id id name h = found_at callables name id h

-- the id of a name is that of an equal name
id_of_same : (listed name : List ℕ) (id : ℕ) → callable_id listed ≡ Some id → listed ≡ name → callable_id name ≡ Some id
id_of_same listed name id h e = subst (λ (x : List ℕ). callable_id x ≡ Some id) e h

-- an id that has a name is the name's
pub id-name : (id : ℕ) (name : List ℕ) → callable_name id ≡ Some name → callable_id name ≡ Some id
id-name zero name h = id_of_same (codes "cell_get") name 0 refl (cc)
id-name (suc zero) name h = id_of_same (codes "cell_set") name 1 refl (cc)
id-name (suc (suc zero)) name h = id_of_same (codes "nice_get") name 2 refl (cc)
id-name (suc (suc (suc zero))) name h = id_of_same (codes "nice_set") name 3 refl (cc)
id-name (suc (suc (suc (suc zero)))) name h = id_of_same (codes "window_get") name 4 refl (cc)
id-name (suc (suc (suc (suc (suc zero))))) name h = id_of_same (codes "window_set") name 5 refl (cc)
id-name (suc (suc (suc (suc (suc (suc zero)))))) name h = id_of_same (codes "frames_mine") name 6 refl (cc)
id-name (suc (suc (suc (suc (suc (suc (suc zero))))))) name h = id_of_same (codes "frame_at") name 7 refl (cc)
id-name (suc (suc (suc (suc (suc (suc (suc (suc zero)))))))) name h = id_of_same (codes "frame_block") name 8 refl (cc)
id-name (suc (suc (suc (suc (suc (suc (suc (suc (suc zero))))))))) name h =
    id_of_same (codes "frame_mark") name 9 refl (cc)
id-name (suc (suc (suc (suc (suc (suc (suc (suc (suc (suc zero)))))))))) name h =
    id_of_same (codes "tune_get") name 10 refl (cc)
id-name (suc (suc (suc (suc (suc (suc (suc (suc (suc (suc (suc zero))))))))))) name h =
    id_of_same (codes "tune_set") name 11 refl (cc)
id-name (suc (suc (suc (suc (suc (suc (suc (suc (suc (suc (suc (suc zero)))))))))))) name h =
    id_of_same (codes "take_lock") name 12 refl (cc)
id-name (suc (suc (suc (suc (suc (suc (suc (suc (suc (suc (suc (suc (suc zero))))))))))))) name h =
    id_of_same (codes "ask_ra") name 13 refl (cc)
id-name (suc (suc (suc (suc (suc (suc (suc (suc (suc (suc (suc (suc (suc (suc zero))))))))))))))
    name h =
    id_of_same (codes "ask_victim") name 14 refl (cc)
id-name
    (suc (suc (suc (suc (suc (suc (suc (suc (suc (suc (suc (suc (suc (suc (suc zero)))))))))))))))
    name h =
    id_of_same (codes "ask_sched") name 15 refl (cc)
id-name (suc (suc (suc (suc (suc (suc (suc (suc (suc (suc (suc (suc (suc (suc (suc (suc id)))))))))))))))) name h = cc
