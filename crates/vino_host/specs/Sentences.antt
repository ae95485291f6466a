-- The sentence of each number by which a call says how it ended, and of each number of a refused
-- image.
use Rattle.std.specs.Prelude.{ℕ, ◌==◌, cond, List, codes}

-- how a call ended
abbrev pub sentence : ℕ → List ℕ
sentence n =
    cond (n == 0) (codes "returned")
    (cond (n == 1) (codes "divided by zero")
    (cond (n == 2) (codes "trapped")
    (cond (n == 3) (codes "called an id that isn't callable")
    (cond (n == 4) (codes "called with a bad argument")
    (cond (n == 9) (codes "took as many instructions as it may")
    (cond (n == 10) (codes "made as many records as it may")
    (cond (n == 12) (codes "gave an answer that its point refuses")
    (cond (n == 16) (codes "wanted a word of another call")
    (cond (n == 17) (codes "ran past its code")
    (cond (n == 32) (codes "waits for an answer of the host")
    (cond (n == 33) (codes "nothing was done: the call was misused")
    (codes "no number of an answer"))))))))))))

-- why an image was refused
abbrev pub refusal_sentence : ℕ → List ℕ
refusal_sentence n =
    cond (n == 0) (codes "loaded")
    (cond (n == 1) (codes "the length is not that of an image")
    (cond (n == 2) (codes "the first four bytes are not those of a sealed image")
    (cond (n == 3) (codes "the version is not known")
    (cond (n == 4) (codes "more instructions or data bytes than an image may have")
    (cond (n == 5) (codes "the seal is not right")
    (cond (n == 6) (codes "an instruction does not decode")
    (cond (n == 7) (codes "r14 or r15 is named outside of an access to memory")
    (cond (n == 8) (codes "a jump leaves the code or goes into an access")
    (cond (n == 9) (codes "the address of an access to memory is not masked")
    (cond (n == 10) (codes "a call has an id above 15")
    (cond (n == 11) (codes "the last instruction is not ret, jmp or trap")
    (cond (n == 12) (codes "a flag is set that is not known")
    (cond (n == 13) (codes "it names a key that was not given")
    (cond (n == 14) (codes "there was no memory")
    (cond (n == 15) (codes "it needs more bytes than there are")
    (cond (n == 16) (codes "the loaded plug-in was changed")
    (codes "no number of a refusal")))))))))))))))))
