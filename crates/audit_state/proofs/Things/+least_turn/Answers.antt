use Rattle.std.proofs.Common.{◌≡◌, true, false, nat_lt, List, slice_index_or, ap, ◌∙◌, arith}
use Rattle.std.proofs.lemmas.Bool.Decides.{nat_tests}
use Rattle.std.proofs.lemmas.List.{take_rest}
use Rattle.kernel_model.specs.declared.QueueRow.{QueueRow}
use Rattle.kernel_model.specs.Policies as model
use Rattle.audit_state.specs.Things.{things_of}
use Rattle.audit_state.proofs.Turning.{none_behind, lesser_behind, none_lesser}
use Rattle.audit_state.proofs.Things.+least_turn.Goals as goal

pub returns-in-None : goal.returns-in-None
returns-in-None t c = λ bytes.
    let key = model.turn_key ((things_of bytes c.args.self.now).pol 2) in
    let rest = ap (λ (rows : List QueueRow). model.least key rows) (take_rest c.args.rows.now 1) in
    none_behind key c.args.rows.now (record { process = 0; nice = 0; slices = 0 })
    c.in-len1-up.len_at_least (c.in-None.ensures bytes ∙ rest)

pub returns-then-turn_key : goal.returns-then-turn_key
returns-then-turn_key t c = λ bytes.
    let key = model.turn_key ((things_of bytes c.args.self.now).pol 2) in
    let rest = ap (λ (rows : List QueueRow). model.least key rows) (take_rest c.args.rows.now 1) in
    let y = c.in-Some.y in
    let x = slice_index_or c.args.rows.now 0 (record { process = 0; nice = 0; slices = 0 }) in
    let ky : c.turn_key.result ≡ key y = c.turn_key.ensures bytes in
    let kx : c.turn_key-in-Some.result ≡ key x = c.turn_key-in-Some.ensures bytes in
    let less = c.if-turn_key.true in
    let is : nat_lt (key y) (key x) ≡ true = grind (arith, nat_tests, ky, kx, less) in
    lesser_behind key c.args.rows.now (record { process = 0; nice = 0; slices = 0 }) y
    c.in-len1-up.len_at_least (c.in-Some.ensures bytes ∙ rest) is

pub returns-else-turn_key : goal.returns-else-turn_key
returns-else-turn_key t c = λ bytes.
    let key = model.turn_key ((things_of bytes c.args.self.now).pol 2) in
    let rest = ap (λ (rows : List QueueRow). model.least key rows) (take_rest c.args.rows.now 1) in
    let y = c.in-Some.y in
    let x = slice_index_or c.args.rows.now 0 (record { process = 0; nice = 0; slices = 0 }) in
    let ky : c.turn_key.result ≡ key y = c.turn_key.ensures bytes in
    let kx : c.turn_key-in-Some.result ≡ key x = c.turn_key-in-Some.ensures bytes in
    let more = c.if-turn_key.false in
    let is : nat_lt (key y) (key x) ≡ false = grind (arith, nat_tests, ky, kx, more) in
    none_lesser key c.args.rows.now (record { process = 0; nice = 0; slices = 0 }) y
    c.in-len1-up.len_at_least (c.in-Some.ensures bytes ∙ rest) is
