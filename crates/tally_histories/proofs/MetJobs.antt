-- The cells of a tally sum to the met jobs of the history: each met job has one response, and each response is one more in one cell.
use Prim.Native.Nat.{ℕ, ◌+◌, ◌-◌, ◌<◌}
use mathlib.Core.Path.{◌≡◌, refl, sym, ap, subst, ◌∙◌}
use mathlib.Core.Bool.{Bool, true, false, cond}
use mathlib.Core.List.{List, [], ◌∷◌}
use native.Mathlib.Omega.{arith}
use lib.ListN.{length}
use Rattle.event_reading.specs.declared.Event.{Event}
use Rattle.table_rules.specs.declared.Table.{Table}
use Rattle.table_rules.specs.Answers.{Accepted}
use Rattle.table_rules.specs.Judging.{judged}
use Rattle.state_rules.specs.declared.State.{State}
use Rattle.state_rules.specs.State.{fresh_state}
use Rattle.state_rules.specs.Sound.{StateSound}
use Rattle.state_rules.proofs.Starting.{start_sound}
use Rattle.run_windows.specs.Outcomes.{mets}
use Rattle.run_histories.specs.History.{Job, jobs_of, outcomes_of}
use Rattle.run_histories.proofs.Jobs as J
use Rattle.run_histories.proofs.Counted.{met_counted}
use Rattle.tally_rules.specs.declared.Tallies.{Tallies}
use Rattle.tally_rules.specs.Tally.{tally_at}
use Rattle.tally_rules.specs.Responses.{UpTo}
use Rattle.tally_rules.proofs.Over.{over_total}
use Rattle.tally_histories.specs.Sound.{fresh_tallies, AllWhole, Carried}
use Rattle.tally_histories.specs.Responses.{responses_of, tally_after}
use Rattle.tally_histories.specs.MetJobs.{cells_of, CellsMet}
use Rattle.tally_histories.proofs.Runs.{responses_small}
use Rattle.tally_histories.proofs.Fresh.{fresh_at, fresh_beside, fresh_all_whole}

-- as many responses as met jobs
pub responses_count : (jobs : List Job) → length (responses_of jobs) ≡ mets (outcomes_of jobs)
responses_count [] = refl
responses_count (j ∷ jobs) = go j.met (responses_count jobs)
  where
    go : (b : Bool) → length (responses_of jobs) ≡ mets (outcomes_of jobs)
        → length (cond b ((j.closing - j.release) ∷ responses_of jobs) (responses_of jobs)) ≡ mets (b ∷ outcomes_of jobs)
    go true k = omega (arith, k)
    go false k = k

-- from any sound state, on top of any tallies with the tasks' D
pub cells_grow : (s : State) (ts : Tallies) → StateSound s → Carried s ts s.count → AllWhole ts s.count → (es : List Event) (i : ℕ) → i < s.count
    → cells_of (tally_after s ts es i) ≡ cells_of (tally_at ts i) + mets (outcomes_of (jobs_of s es i))
cells_grow s ts g c w es i h =
    let rs = responses_of (jobs_of s es i) in
    let u : UpTo (tally_at ts i).d rs = subst (λ (d : ℕ). UpTo d rs) (sym (c i h)) (responses_small s g es i h) in
    over_total (tally_at ts i) (w i h) rs u ∙ ap (λ (n : ℕ). cells_of (tally_at ts i) + n) (responses_count (jobs_of s es i))

module _ (t : Table) (good : judged t ≡ Accepted) where
  abbrev from : State
  from = fresh_state t

  -- from a fresh start
  pub cells_met : (es : List Event) (i : ℕ) → i < t.count → CellsMet from es i (tally_after from (fresh_tallies from) es i)
  cells_met es i h =
      let g = start_sound t good in
      let b = fresh_beside from g in
      let n : cells_of (tally_at (fresh_tallies from) i) ≡ 0 = (b.tallies i h).met ∙ rw (fresh_at from i (omega (arith, g.counted.most))) in
      let k : cells_of (tally_after from (fresh_tallies from) es i) ≡ mets (outcomes_of (jobs_of from es i)) =
      omega (arith, cells_grow from (fresh_tallies from) g b.carried (fresh_all_whole from g) es i h, n) in
      let m = (J.tallied t good es i h).met in
      record { jobs = k; met = k ∙ sym m; completions = k ∙ sym m ∙ met_counted t good es i h }
