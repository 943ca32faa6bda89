-- The tallies of two logs one after the other join to the tally of both as one log: the jobs of a run are those of its later part and of its earlier part, so
-- the responses are two lists, one behind the other.
use Prim.Native.Nat.{ℕ, ◌-◌, ◌*◌, ◌<◌}
use mathlib.Core.Path.{◌≡◌, refl, sym, ap, subst, ◌∙◌}
use mathlib.Core.Bool.{Bool, true, false, cond}
use mathlib.Core.List.{List, [], ◌∷◌, ◌++◌, reverse, reverse-append}
use mathlib.Core.Logic.{◌↔◌}
use native.Mathlib.Omega.{arith}
use lib.ListN.{length}
use Rattle.table_rules.specs.declared.Task.{Task}
use Rattle.event_reading.specs.declared.Event.{Event}
use Rattle.event_logs.specs.Log.{readable, events_of}
use Rattle.event_logs.proofs.Rests.{rest_end}
use Rattle.event_logs.proofs.Endings.{ending_whole}
use Rattle.state_rules.specs.declared.State.{State}
use Rattle.state_rules.specs.State.{record_at}
use Rattle.state_rules.specs.Sound.{StateSound}
use Rattle.apply_events.specs.Apply.{applied}
use Rattle.run_histories.specs.History.{Job, run_state, closes, closed_job, jobs_of}
use Rattle.run_histories.proofs.Closes.{jobs_with}
use Rattle.tally_rules.specs.declared.Tally.{Tally}
use Rattle.tally_rules.specs.declared.Tallies.{Tallies}
use Rattle.tally_rules.specs.Answer.{Answer, Accepted, Tallied}
use Rattle.tally_histories.specs.Answer.{Reported}
use Rattle.tally_rules.specs.Tally.{fresh_tally, tally_at, tally_over, tally_of}
use Rattle.tally_rules.specs.Adding.{accepted}
use Rattle.tally_rules.specs.Responses.{Within, UpTo}
use Rattle.tally_rules.proofs.Kept.{fresh_whole}
use Rattle.tally_rules.proofs.Over.{over_d, over_whole}
use Rattle.tally_sums.specs.Joining.{both, joined}
use Rattle.tally_sums.proofs.Joining.{joined_was}
use Rattle.tally_sums.proofs.Orders.{both_either, join_either_way}
use Rattle.tally_sums.proofs.Lists.{two_lists, lists_join}
use Rattle.tally_histories.specs.Sound.{deadline_at, fresh_tallies}
use Rattle.tally_histories.specs.Responses.{responses_of, tally_after, run_of}
use Rattle.tally_histories.specs.TwoLogs.{report_of, tally_in, BothReported, sum_of_both, AddUp}
use Rattle.tally_histories.proofs.Runs.{run_sound, run_count, run_task, responses_small}
use Rattle.tally_histories.proofs.Exactly.{Told, accepted_told, within_accepted, historied_at}
use Rattle.tally_histories.proofs.Appended.{events_append}
use Rattle.tally_histories.proofs.Fresh.{fresh_at, deadline_some, fresh_beside, fresh_all_whole}

-- ---- a run behind another

pub run_append : (s : State) (fs es : List Event) → run_state s (fs ++ es) ≡ run_state (run_state s es) fs
unfolding run_state
run_append s [] es = refl
run_append s (e ∷ fs) es = ap (λ (q : State). (applied q e).state) (run_append s fs es)

-- the jobs of task i after one event more
abbrev jobs_after : State → Event → ℕ → List Job → List Job
jobs_after q e i jobs = jobs_with (record_at q i) (record_at (applied q e).state i) e i jobs

jobs_onto : (q : State) (e : Event) (i : ℕ) (js ks : List Job) → jobs_after q e i (js ++ ks) ≡ jobs_after q e i js ++ ks
jobs_onto q e i js ks = go (closes (record_at q i) (record_at (applied q e).state i)) (closed_job (record_at q i) e i)
  where
    go : (b : Bool) (j : Job) → cond b (j ∷ (js ++ ks)) (js ++ ks) ≡ cond b (j ∷ js) js ++ ks
    go true j = refl
    go false j = refl

-- the jobs of the later events, in front of those of the earlier ones
pub jobs_append : (s : State) (fs es : List Event) (i : ℕ) → jobs_of s (fs ++ es) i ≡ jobs_of (run_state s es) fs i ++ jobs_of s es i
unfolding run_state jobs_of
jobs_append s [] es i = refl
jobs_append s (e ∷ fs) es i =
    ap (λ (q : State). jobs_after q e i (jobs_of s (fs ++ es) i)) (run_append s fs es)
    ∙ ap (jobs_after (run_state (run_state s es) fs) e i) (jobs_append s fs es i)
    ∙ jobs_onto (run_state (run_state s es) fs) e i (jobs_of (run_state s es) fs i) (jobs_of s es i)

responses_append : (js ks : List Job) → responses_of (js ++ ks) ≡ responses_of js ++ responses_of ks
responses_append [] ks = refl
responses_append (j ∷ js) ks = rw (responses_append js ks) (go j.met)
  where
    r : ℕ
    r = j.closing - j.release

    go : (b : Bool) → cond b (r ∷ (responses_of js ++ responses_of ks)) (responses_of js ++ responses_of ks)
        ≡ cond b (r ∷ responses_of js) (responses_of js) ++ responses_of ks
    go true = refl
    go false = refl

pub responses_two : (s : State) (fs es : List Event) (i : ℕ)
    → responses_of (jobs_of s (fs ++ es) i) ≡ responses_of (jobs_of (run_state s es) fs i) ++ responses_of (jobs_of s es i)
responses_two s fs es i = ap responses_of (jobs_append s fs es i) ∙ responses_append (jobs_of (run_state s es) fs i) (jobs_of s es i)

-- so the tally of a task's met jobs is that of the later ones and that of the earlier ones
pub two_runs : (s : State) (d : ℕ) (fs es : List Event) (i : ℕ)
    → tally_of d (responses_of (jobs_of s (fs ++ es) i))
    ≡ both (tally_of d (responses_of (jobs_of (run_state s es) fs i))) (tally_of d (responses_of (jobs_of s es i)))
two_runs s d fs es i =
    ap (tally_of d) (responses_two s fs es i) ∙ two_lists d (responses_of (jobs_of (run_state s es) fs i)) (responses_of (jobs_of s es i))

-- ---- two logs

module _ (s : State) (a b : List ℕ) (r : BothReported s a b) where
  abbrev ts : Tallies
  ts = fresh_tallies s

  told : Told s ts a (fresh_all_whole s r.sound) (report_of s a)
  told = accepted_told s ts a (fresh_all_whole s r.sound) r.first

  -- the state that the first log leaves
  abbrev s' : State
  s' = run_state s (run_of a)

  left : (report_of s a).state ≡ s'
  left = ap (λ (x : Reported). x.state) told.same

  sound' : StateSound s'
  sound' = run_sound s r.sound (run_of a)

  -- it is read to its end
  ended : 20 * readable a ≡ length a
  ended = (rest_end a).0 ((ending_whole a).0 (sym (ap (λ (x : Reported). x.ending) told.same) ∙ r.whole))

  -- the two runs are one
  run_is : run_of (a ++ b) ≡ run_of b ++ run_of a
  run_is = ap reverse (events_append b a ended) ∙ reverse-append (events_of a) (events_of b)

  module _ (i : ℕ) (h : i < s.count) where
    abbrev d : ℕ
    d = deadline_at s i

    abbrev firsts : List ℕ
    firsts = responses_of (jobs_of s (run_of a) i)

    abbrev seconds : List ℕ
    seconds = responses_of (jobs_of s' (run_of b) i)

    place : i < s'.count
    place = rw (run_count s r.sound (run_of a)) h

    d_stays : deadline_at s' i ≡ d
    d_stays = ap (λ (t : Task). t.d) (run_task s r.sound (run_of a) i h)

    -- a tally that begins fresh
    begun : (q : State) (log : List ℕ) → StateSound q → i < q.count → (report_of q log).answer ≡ Accepted
        → tally_in q log i ≡ tally_of (deadline_at q i) (responses_of (jobs_of q (run_of log) i))
    begun q log g k c =
        let t = accepted_told q (fresh_tallies q) log (fresh_all_whole q g) c in
        ap (λ (x : Reported). tally_at x.tallies i) t.same ∙ historied_at q (fresh_tallies q) log t.beside i k
        ∙ ap (λ (x : Tally). tally_over x (responses_of (jobs_of q (run_of log) i))) (fresh_at q i (omega (arith, g.counted.most)))

    first_is : tally_in s a i ≡ tally_of d firsts
    first_is = begun s a r.sound h r.first

    second_is : tally_in (report_of s a).state b i ≡ tally_of d seconds
    second_is =
        ap (λ (q : State). tally_in q b i) left ∙ begun s' b sound' place (rw left at r.second) ∙ ap (λ (n : ℕ). tally_of n seconds) d_stays

    -- the tally of both logs as one
    abbrev whole : Tally
    whole = tally_after s ts (run_of (a ++ b)) i

    whole_is : whole ≡ tally_of d (seconds ++ firsts)
    whole_is =
        ap (λ (es : List Event). tally_after s ts es i) run_is ∙ ap (tally_over (tally_at ts i)) (responses_two s (run_of b) (run_of a) i)
        ∙ ap (λ (x : Tally). tally_over x (seconds ++ firsts)) (fresh_at s i (omega (arith, r.sound.counted.most)))

    -- the two join to it exactly where it is within the limits
    pub one_task : (sum_of_both s a b i ≡ accepted whole) ↔ Within whole
    one_task =
        let e = deadline_some s r.sound i h in
        let u = responses_small s r.sound (run_of a) i h in
        let v = subst (λ (n : ℕ). UpTo n seconds) d_stays (responses_small s' sound' (run_of b) i place) in
        let j = lists_join d seconds firsts e.0 e.1 v u in
        let f = fresh_tally d in
        let c = fresh_whole d in
        let o = join_either_way (tally_of d firsts) (tally_of d seconds) (tally_of d (seconds ++ firsts)) (over_whole f c firsts) (over_whole f c seconds) in
        rw (first_is, second_is, whole_is) (λ q. j.0 (o.0 q), λ k. o.1 (j.1 k))

    -- where they join at all, they join to it
    joins_whole : (sum_of_both s a b i).answer ≡ Accepted → sum_of_both s a b i ≡ accepted whole
    joins_whole q =
        let x = tally_in s a i in
        let y = tally_in (report_of s a).state b i in
        let t = (joined x y).tally in
        let z : joined x y ≡ accepted t = ap (λ (n : Answer). record { answer = n; tally = t }) q in
        let m : t ≡ whole = (joined_was x y z).tally ∙ both_is in
        z ∙ ap accepted m
      where
        both_is : both (tally_in s a i) (tally_in (report_of s a).state b i) ≡ whole
        both_is =
            let f = fresh_tally d in
            let c = fresh_whole d in
            rw (first_is, second_is, whole_is, two_lists d seconds firsts)
            (both_either (tally_of d firsts) (tally_of d seconds) (over_d f firsts ∙ sym (over_d f seconds)) (over_whole f c firsts) (over_whole f c seconds))

  pub two_logs : AddUp s a b
  two_logs =
      let w = fresh_all_whole s r.sound in
      let g = fresh_beside s r.sound in
      record {
        answer = (
          λ q i h. ap (λ (x : Tallied). x.answer) ((one_task i h).1 ((accepted_told s ts (a ++ b) w q).within i h)),
          λ k. ap (λ (x : Reported). x.answer) (within_accepted s ts (a ++ b) w g (λ i h. (one_task i h).0 (joins_whole i h (k i h)))),
        );
        tally =
            λ q i h.
            let t = accepted_told s ts (a ++ b) w q in
            (one_task i h).1 (t.within i h)
            ∙ ap accepted (sym (ap (λ (x : Reported). tally_at x.tallies i) t.same ∙ historied_at s ts (a ++ b) g i h));
      }
