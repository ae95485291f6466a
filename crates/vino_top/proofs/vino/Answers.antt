-- What is done for what the words ask.
use Rattle.std.proofs.Common.{◌≡◌, ◌≢◌, ◌⊎◌, ℕ, sym, ◌∙◌, refl, arith, inl, inr}
use Rattle.vino_top.proofs.EndLemmas.{known_run, not_read, demo_reads, usage_reads}
use Rattle.vino_top.proofs.vino.Goals as goal

-- the statuses of a filter of images aren't that of the usage line
known_image : (status : ℕ) → (status ≡ 0) ⊎ (status ≡ 2) ⊎ (status ≡ 3) ⊎ (status ≡ 4)
    ⊎ (status ≡ 5) ⊎ (status ≡ 6) ⊎ (status ≡ 7) → status ≢ 1
known_image status cases = λ is. grind (arith, cases, is)

-- nor are those of the auditor
known_audit : (status : ℕ) → (status ≡ 0) ⊎ (status ≡ 2) ⊎ (status ≡ 3) ⊎ (status ≡ 4)
    ⊎ (status ≡ 5) ⊎ (status ≡ 7) ⊎ (status ≡ 8) → status ≢ 1
known_audit status cases = λ is. grind (arith, cases, is)

pub run_script-requires : goal.run_script-requires
run_script-requires g c = record { shelf = c.requires.shelf; stock = c.requires.stock }

pub demo-requires : goal.demo-requires
demo-requires g c = record { shelf = c.requires.shelf; stock = c.requires.stock }

pub returns-in-Run-clause-does : goal.returns-in-Run-clause-does
returns-in-Run-clause-does g c =
    rw (sym c.read_words.ensures ∙ c.in-Run.is) c.run_script.ensures.does

pub returns-in-Asm-clause-does : goal.returns-in-Asm-clause-does
returns-in-Asm-clause-does g c =
    rw (sym c.read_words.ensures ∙ c.in-Asm.is) (record {
      known = known_run c.asm.result c.asm.ensures.statuses;
      answered = c.asm.ensures.filtered;
      disk = refl;
    })

pub returns-in-Dis-clause-does : goal.returns-in-Dis-clause-does
returns-in-Dis-clause-does g c =
    rw (sym c.read_words.ensures ∙ c.in-Dis.is) (record {
      known = known_run c.dis.result c.dis.ensures.statuses;
      answered = c.dis.ensures.filtered;
      disk = refl;
    })

pub returns-in-Lang-clause-does : goal.returns-in-Lang-clause-does
returns-in-Lang-clause-does g c =
    rw (sym c.read_words.ensures ∙ c.in-Lang.is) (record {
      known = known_run c.lang.result c.lang.ensures.statuses;
      answered = c.lang.ensures.filtered;
      disk = refl;
    })

pub returns-in-Box-clause-does : goal.returns-in-Box-clause-does
returns-in-Box-clause-does g c =
    rw (sym c.read_words.ensures ∙ c.in-Box.is) (record {
      known = known_image c.box_image.result c.box_image.ensures.statuses;
      answered = c.box_image.ensures.filtered;
      disk = refl;
    })

pub returns-in-Check-clause-does : goal.returns-in-Check-clause-does
returns-in-Check-clause-does g c =
    rw (sym c.read_words.ensures ∙ c.in-Check.is) (record {
      known = known_image c.check_image.result c.check_image.ensures.statuses;
      answered = c.check_image.ensures.filtered;
      disk = refl;
    })

pub returns-in-Reseal-clause-does : goal.returns-in-Reseal-clause-does
returns-in-Reseal-clause-does g c =
    rw (sym c.read_words.ensures ∙ c.in-Reseal.is) (record {
      known = known_image c.reseal_image.result c.reseal_image.ensures.statuses;
      answered = c.reseal_image.ensures.filtered;
      disk = refl;
    })

pub returns-in-Audit-clause-does : goal.returns-in-Audit-clause-does
returns-in-Audit-clause-does g c =
    rw (sym c.read_words.ensures ∙ c.in-Audit.is) (record {
      known = known_audit c.audit.result c.audit.ensures.statuses;
      answered = c.audit.ensures.filtered;
      disk = refl;
    })

pub returns-in-Demo-clause-does : goal.returns-in-Demo-clause-does
returns-in-Demo-clause-does g c =
    let demo = c.demo.ensures in
    rw (sym c.read_words.ensures ∙ c.in-Demo.is) (
      refl,
      elim demo.statuses [
        | inl done ↦ inl (done, demo.ran done)
        | inr others ↦ inr (elim others [
          | inl broken ↦ inl (broken, demo.broke broken)
          | inr lacking ↦ inr (lacking, demo.memory lacking)
        ])
      ],
    )

pub returns-in-Nothing-clause-does : goal.returns-in-Nothing-clause-does
returns-in-Nothing-clause-does g c =
    rw (sym c.read_words.ensures ∙ c.in-Nothing.is) (refl, refl, c.write_usage.ensures.cases)

pub returns-in-Asm-clause-source : goal.returns-in-Asm-clause-source
returns-in-Asm-clause-source g c = c.asm.ensures.filtered.source

pub returns-in-Asm-clause-sink : goal.returns-in-Asm-clause-sink
returns-in-Asm-clause-sink g c = c.asm.ensures.filtered.sink

pub returns-in-Dis-clause-source : goal.returns-in-Dis-clause-source
returns-in-Dis-clause-source g c = c.dis.ensures.filtered.source

pub returns-in-Dis-clause-sink : goal.returns-in-Dis-clause-sink
returns-in-Dis-clause-sink g c = c.dis.ensures.filtered.sink

pub returns-in-Lang-clause-source : goal.returns-in-Lang-clause-source
returns-in-Lang-clause-source g c = c.lang.ensures.filtered.source

pub returns-in-Lang-clause-sink : goal.returns-in-Lang-clause-sink
returns-in-Lang-clause-sink g c = c.lang.ensures.filtered.sink

pub returns-in-Box-clause-source : goal.returns-in-Box-clause-source
returns-in-Box-clause-source g c = c.box_image.ensures.filtered.source

pub returns-in-Box-clause-sink : goal.returns-in-Box-clause-sink
returns-in-Box-clause-sink g c = c.box_image.ensures.filtered.sink

pub returns-in-Check-clause-source : goal.returns-in-Check-clause-source
returns-in-Check-clause-source g c = c.check_image.ensures.filtered.source

pub returns-in-Check-clause-sink : goal.returns-in-Check-clause-sink
returns-in-Check-clause-sink g c = c.check_image.ensures.filtered.sink

pub returns-in-Reseal-clause-source : goal.returns-in-Reseal-clause-source
returns-in-Reseal-clause-source g c = c.reseal_image.ensures.filtered.source

pub returns-in-Reseal-clause-sink : goal.returns-in-Reseal-clause-sink
returns-in-Reseal-clause-sink g c = c.reseal_image.ensures.filtered.sink

pub returns-in-Audit-clause-source : goal.returns-in-Audit-clause-source
returns-in-Audit-clause-source g c = c.audit.ensures.filtered.source

pub returns-in-Audit-clause-sink : goal.returns-in-Audit-clause-sink
returns-in-Audit-clause-sink g c = c.audit.ensures.filtered.sink

pub returns-in-Demo-clause-source : goal.returns-in-Demo-clause-source
returns-in-Demo-clause-source g c = not_read _ c.demo.result (demo_reads c.demo.result c.demo.ensures.statuses)

pub returns-in-Nothing-clause-source : goal.returns-in-Nothing-clause-source
returns-in-Nothing-clause-source g c =
    not_read _ c.write_usage.result (usage_reads c.write_usage.result c.write_usage.ensures.cases)
