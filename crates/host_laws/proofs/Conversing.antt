-- A caller who answers each call of a plug-in finds what the whole run leaves.
use Rattle.std.proofs.Common.{◌≡◌, ℕ, Bool, true, false, cond, List, [], ◌∷◌, Option, None, Some, refl, sym, ap, ◌∙◌}
use Rattle.vino_host.specs.declared.Request.{Request}
use Rattle.vino_host.specs.declared.Stop.{Stop}
use Rattle.vino_host.specs.declared.Stop.TheVariants.{Returns, Waits, Drops}
use Rattle.vino_host.specs.declared.Word.{Word}
use Rattle.vino_host.specs.Codes.{BAD_ANSWER, is_taken}
use Rattle.vino_host.specs.Plugins.{code_of}
use Rattle.vino_host.specs.Calls.{Frame, Found, Pause, found, found_by, judged, resumed, begun, call_says, first_frame}
use Rattle.vino_host.specs.HostRuns.{State, state, Ended, host_run}
use Rattle.host_laws.specs.Talks.{host_talk, talk_on, after_wait, with_word, answered_with}

-- what comes of a run that stopped, and of the words for its calls
abbrev talked : (number : ℕ) → (plugin words : List ℕ) → Ended → Ended
talked number plugin [] e = e
talked number plugin (x ∷ xs) e = talk_on (host_talk number (code_of plugin) xs) x e

-- the run's first part, and what comes of it
in_one : (number : ℕ) (plugin words : List ℕ) (n : ℕ) (s : State) →
    talked number plugin words (host_run number (code_of plugin) n s) ≡ host_talk number (code_of plugin) words n s
unfolding host_talk
in_one number plugin [] n s = refl
in_one number plugin (x ∷ xs) n s = refl

-- what a caller finds goes on with a word, if the call waits
abbrev goes_on : (plugin : List ℕ) → ℕ → List ℕ → Found → Found
goes_on plugin x xs f =
    elim f.pause as (λ _. Found) [ None ↦ f | Some p ↦ answered_with plugin xs (resumed plugin p 0 x f.table) ]

finds : (f : Frame) (plugin words : List ℕ) (e : Ended) →
    answered_with plugin words (found f e) ≡ found f (talked f.number plugin words e)
finds f plugin [] e = refl
finds f plugin (x ∷ xs) e = by_stop (λ q. finds f plugin xs q) e.stop refl
  where
    of_stop : Stop → Found
    of_stop why = found_by f e.left e.state (judged f why (e.state.machine.regs 0))

    by_taken : (t : Bool) →
        let g = found_by f e.left e.state (cond t Returns (Drops BAD_ANSWER (e.state.machine.regs 0))) in
        goes_on plugin x xs g ≡ g
    by_taken true = refl
    by_taken false = refl

    by_stop : ((q : Ended) → answered_with plugin xs (found f q) ≡ found f (talked f.number plugin xs q)) →
        (why : Stop) → e.stop ≡ why →
        goes_on plugin x xs (of_stop why) ≡ found f (after_wait (host_talk f.number (code_of plugin) xs) x e why)
    by_stop rest Returns is =
        by_taken (is_taken f.point f.fed (e.state.machine.regs 0)) ∙ ap of_stop (sym is)
    by_stop rest (Waits id) is =
        rest (host_run f.number (code_of plugin) e.left (with_word x e))
        ∙ ap (λ (q : Ended). found f q) (in_one f.number plugin xs e.left (with_word x e))
    by_stop rest (Drops cause detail) is = ap of_stop (sym is)

pub conversed : (plugin : List ℕ) (request : Request) (fed segment words : List ℕ) (table : List Word) →
    answered_with plugin words (call_says plugin request fed segment table)
    ≡ found (first_frame request fed segment)
    (host_talk request.number (code_of plugin) words request.limit
    (state (begun plugin request fed segment) table []))
conversed plugin request fed segment words table =
    let f = first_frame request fed segment in
    let s = state (begun plugin request fed segment) table [] in
    finds f plugin words (host_run request.number (code_of plugin) request.limit s)
    ∙ ap (λ (q : Ended). found f q) (in_one request.number plugin words request.limit s)
