use Rattle.std.proofs.Common.{ℕ, [], Option, subst, ap, ◌∙◌}
use Rattle.kernel_model.specs.Fetch as model
use Rattle.kernel_model.specs.Meaning.{registers_of}
use Rattle.kernel_model.specs.Policies.{or_zero, victim_among}
use Rattle.audit_pieces.specs.Ends.{answer_of, Fetches}
use Rattle.audit_pieces.specs.Stores.{objects_of, blocks_of}
use Rattle.audit_pieces.proofs.Store.read_block.Goals as goal

pub returns : goal.returns
returns c =
    let s = c.args.self.now in
    let t = c.place_block.new.self in
    let w = (objects_of s).things in
    let p = c.args.turn.now.process in
    let answer = registers_of (answer_of c.args.turn.now.answer.now) in
    let candidate = or_zero (victim_among (w.pol 1) w.cache w.cache.lru) in
    let place = λ (free : Option ℕ) (b candidate : ℕ).
    model.place_block free p b (model.chosen_by answer candidate) candidate w.cache
    (blocks_of s) [] in
    let Is : model.Fetched → Type 0 = λ m. Fetches m s t c.in_ok-f.f in
    subst Is
    (ap (λ (n : ℕ). place c.free_frame-free.result n c.candidate-candidate.result) c.in_ok-number.ensures
    ∙ ap (λ (n : ℕ). place c.free_frame-free.result c.args.b n) c.candidate-candidate.ensures
    ∙ ap (λ (o : Option ℕ). place o c.args.b candidate) c.free_frame-free.ensures) c.in_ok-f.ensures
