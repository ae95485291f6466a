-- Two tables of calls as one: the calls that pass a test are the first table's, all others the
-- second's. So a table of new calls can be written and proved on its own, and put next to the
-- existing ones.
use Rattle.std.specs.Prelude.{Bool, cond}
use Rattle.kernel_data.specs.declared.SysCall.{SysCall}
use Rattle.kernel_model.specs.Meaning.{Meaning}

-- one table: for the calls that pass the test it is a, for all others it is b
abbrev pub beside : (SysCall → Bool) → (a b : Meaning) → Meaning
beside owns a b =
    record {
      early = λ v images p c. cond (owns c) (a.early v images p c) (b.early v images p c);
      need = λ v s p t. cond (owns t.call) (a.need v s p t) (b.need v s p t);
      asks = λ v s p t. cond (owns t.call) (a.asks v s p t) (b.asks v s p t);
      feed = λ t. cond (owns t.call) (a.feed t) (b.feed t);
      piece = λ v images s blocks p t answer io.
          cond (owns t.call) (a.piece v images s blocks p t answer io)
          (b.piece v images s blocks p t answer io);
      fits = λ v s p t. cond (owns t.call) (a.fits v s p t) (b.fits v s p t);
      left = λ v s p t. cond (owns t.call) (a.left v s p t) (b.left v s p t);
    }
