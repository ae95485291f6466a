use Rattle.std.proofs.Common.{◌≡◌, ◌≤◌, ◌<◌, ℕ, List, [], ◌∷◌, ◌++◌, length, take, get_or, remove}
use Rattle.std.proofs.Common.{ap, sym, ◌∙◌, subst, arith}
use Rattle.buffer_cache.specs.Frames.{uses, newest}
use Rattle.buffer_cache.proofs.Orders.{newest-placed, newest-pushed, length-pushed, refilled}
use Rattle.buffer_cache.proofs.frames.make_newest.Goals as goal

pub push-requires : goal.push-requires
push-requires c =
    let order = c.args.order.now.items in
    let le : length order ≤ c.place_of-at.result = omega (arith, c.if-at-len.false, c.len.ensures.value) in
    let none : ◌≡◌ {A = ℕ} (uses c.args.f (take c.place_of-at.result order)) 0 =
    subst (λ (xs : List ℕ). ◌≡◌ {A = ℕ} (uses c.args.f (take c.place_of-at.result xs)) 0)
    c.as_slice.ensures.value c.place_of-at.ensures.before in
    let few = length-pushed c.args.f order c.place_of-at.result le none in
    (omega arith, omega (arith, few, c.requires.room))

pub returns-then-at-len : goal.returns-then-at-len
returns-then-at-len c =
    let order = c.args.order.now.items in
    let lt : c.place_of-at.result < length order = omega (arith, c.if-at-len.true, c.len.ensures.value) in
    let none : ◌≡◌ {A = ℕ} (uses c.args.f (take c.place_of-at.result order)) 0 =
    subst (λ (xs : List ℕ). ◌≡◌ {A = ℕ} (uses c.args.f (take c.place_of-at.result xs)) 0)
    c.as_slice.ensures.value c.place_of-at.ensures.before in
    let here : ◌≡◌ {A = ℕ} (get_or order c.place_of-at.result 0) c.args.f =
    subst (λ (xs : List ℕ). ◌≡◌ {A = ℕ} (get_or xs c.place_of-at.result 0) c.args.f)
    c.as_slice.ensures.value (c.place_of-at.ensures.here (subst
    (λ (xs : List ℕ). c.place_of-at.result < length xs) (sym c.as_slice.ensures.value) lt)) in
    let moved : c.put_last.new.order ≡ newest c.args.f order =
    c.put_last.ensures ∙ ap (λ (xs : List ℕ). remove xs c.place_of-at.result ++ get_or xs
    c.place_of-at.result 0 ∷ []) c.as_mut_slice.ensures.value
    ∙ newest-placed c.args.f order c.place_of-at.result lt none here c.requires.once in
    let size : length c.put_last.new.order ≡ length order = c.put_last.auto.order
    ∙ ap length c.as_mut_slice.ensures.value in
    refilled order c.put_last.new.order size ∙ moved

pub returns-else-at-len : goal.returns-else-at-len
returns-else-at-len c =
    let order = c.args.order.now.items in
    let le : length order ≤ c.place_of-at.result = omega (arith, c.if-at-len.false, c.len.ensures.value) in
    let none : ◌≡◌ {A = ℕ} (uses c.args.f (take c.place_of-at.result order)) 0 =
    subst (λ (xs : List ℕ). ◌≡◌ {A = ℕ} (uses c.args.f (take c.place_of-at.result xs)) 0)
    c.as_slice.ensures.value c.place_of-at.ensures.before in
    c.push.ensures.items ∙ newest-pushed c.args.f order c.place_of-at.result le none
