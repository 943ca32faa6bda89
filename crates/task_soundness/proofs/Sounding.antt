-- The tests of a record tell exactly whether it is sound, clause by clause.
use Prim.Native.Nat.{ℕ, ◌+◌, ◌-◌, ◌^◌, min}
use mathlib.Core.Path.{◌≡◌, ap}
use mathlib.Core.Bool.{Bool, true, not}
use mathlib.Core.List.{[], ◌∷◌}
use borrow.Author.Tests.{leb-true, ltb-true, eqb-true, le-leb, lt-ltb, eq-eqb, not-true}
use lib.Dec.{eqb, leb, ltb}
use Rattle.laws.specs.Tests.{all_of, whenever}
use Rattle.laws.proofs.Tests.{Tells, tells, each_holds, both_hold, whenever_holds, whenever_if}
use Rattle.task_levels.specs.Level.{class_of, level_holds}
use Rattle.table_rules.specs.Rules.{task_fault}
use Rattle.task_thresholds.specs.Thresholds.{w_of, h_of, top_of}
use Rattle.task_records.specs.declared.Record.{Record}
use Rattle.task_soundness.specs.Sound.{Sound, run_holds, ranges_hold, open_holds, releases_hold, sound_holds}
use Rattle.task_soundness.specs.Counts.{open_of, totals_hold, counts_hold}

module _ (r : Record) (clock : ℕ) where
  abbrev level : Bool
  level = level_holds r.level (h_of r.task.m r.task.k) (top_of r.task.m r.task.k)

  abbrev w : ℕ
  w = w_of r.task.m r.task.k

  abbrev closed : ℕ
  closed = r.met + r.missed

  abbrev unused : Bool
  unused = all_of (not r.live ∷ eqb r.last 0 ∷ [])

  abbrev timely : Bool
  timely = all_of (eqb r.class (class_of r.level) ∷ leb clock (r.last + r.task.d) ∷ [])

  tested : sound_holds r clock ≡ true → Sound r clock
  unfolding sound_holds
  tested e =
      let h = each_holds (eqb (task_fault r.task) 0 ∷ ranges_hold r ∷ open_holds r clock ∷ releases_hold r clock ∷ counts_hold r ∷ []) e in
      let a = both_hold level (run_holds r.run w (class_of r.level)) (h 1) in
      let b = each_holds (leb r.run (w - 1) ∷ whenever (eqb (class_of r.level) 0) (eqb r.run 0) ∷ []) a.1 in
      let c = whenever_holds r.live timely (h 2) in
      let d = each_holds (leb r.last clock ∷ whenever (eqb r.released 0) unused ∷ leb r.released (r.last + 1) ∷ []) (h 3) in
      let f = both_hold (eqb r.released (r.met + r.missed + open_of r)) (totals_hold r closed) (h 4) in
      let g = each_holds (leb r.broken closed ∷ ltb r.marks (2 ^ min r.task.k closed) ∷ []) f.1 in
      record {
        ruled = eqb-true _ _ (h 0);
        level = a.0;
        run = leb-true _ _ (b 0);
        required = λ z. eqb-true _ _ (whenever_holds (eqb (class_of r.level) 0) (eqb r.run 0) (b 1) (eq-eqb _ _ z));
        opens = λ o. eqb-true _ _ (each_holds (eqb r.class (class_of r.level) ∷ leb clock (r.last + r.task.d) ∷ []) (c o) 0);
        past = leb-true _ _ (d 0);
        timely = λ o. leb-true _ _ (each_holds (eqb r.class (class_of r.level) ∷ leb clock (r.last + r.task.d) ∷ []) (c o) 1);
        unreleased =
            λ z.
            let u = each_holds (not r.live ∷ eqb r.last 0 ∷ []) (whenever_holds (eqb r.released 0) unused (d 1) (eq-eqb _ _ z)) in
            (not-true r.live (u 0), eqb-true _ _ (u 1));
        spaced = leb-true _ _ (d 2);
        balance = eqb-true _ _ f.0;
        broken = leb-true _ _ (g 0);
        marks = ltb-true _ _ (g 1);
      }

  passes : Sound r clock → sound_holds r clock ≡ true
  unfolding sound_holds
  passes s =
      let q = whenever_if (eqb (class_of r.level) 0) (eqb r.run 0) (λ z. eq-eqb _ _ (s.required (eqb-true _ _ z))) in
      let o = whenever_if r.live timely (λ z. rw (eq-eqb _ _ (s.opens z), le-leb _ _ (s.timely z))) in
      let u = whenever_if (eqb r.released 0) unused (λ z. let v = s.unreleased (eqb-true _ _ z) in rw (ap not v.0, eq-eqb _ _ v.1)) in
      rw (
        eq-eqb _ _ s.ruled,
        s.level,
        le-leb _ _ s.run,
        q,
        o,
        le-leb _ _ s.past,
        u,
        le-leb _ _ s.spaced,
        eq-eqb _ _ s.balance,
        le-leb _ _ s.broken,
        lt-ltb _ _ s.marks,
      )

  pub sound_tells : Tells (sound_holds r clock) (Sound r clock)
  sound_tells = tells tested passes
