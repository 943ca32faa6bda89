-- `carry` meets its contract: after i turns the report is that of the first i chunks, and one that is refused stays.
use Prim.Native.Nat.{◌+◌, ◌-◌, ◌/◌}
use mathlib.Core.Path.{◌≡◌, refl, sym, ap, ◌∙◌}
use native.Mathlib.Omega.{arith}
use lib.ListN.{length}
use Rattle.std.specs.Prelude.{Ok}
use Rattle.std.proofs.lemmas.Result.{err_from_is_err_and}
use Rattle.refusals.specs.Numbers.{number_of}
use Rattle.tally_histories.specs.Answer.{withheld, as_reported}
use Rattle.tally_histories.specs.Report.{reported}
use Rattle.bench_tally.specs.Chunks.{chunks_reported}
use Rattle.bench_tally.proofs.Steps.{goes_on_lem, has_ended, ended_stays, whole_goes_on}
use Rattle.bench_tally.proofs.chunks.carry.Goals.{then-is_ok+in_ok-done, else-is_ok}
use Rattle.bench_tally.proofs.chunks.carry.Goals as goal

pub loop-i-init : goal.loop-i-init
unfolding chunks_reported
loop-i-init c = refl

pub returns-in_err-done : goal.returns-in_err-done
returns-in_err-done c =
    let a = c.args in
    let l = c.loop-i in
    let s = a.log.now in
    let n = number_of c.in_err-done.field-0.0 in
    let g = whole_goes_on l.done.ending ∙ sym c.is_ok.ensures.value ∙ c.if-is_ok.true in
    let next : withheld l.done.state l.done.tallies n ≡ chunks_reported a.state a.tallies s (l.i + 1) =
    c.in_err-done.ensures ∙ ap (reported l.done.state l.done.tallies) c.chunk.ensures
    ∙ goes_on_lem a.state a.tallies s l.i (as_reported a.state a.tallies (Ok l.done)) l.invariant g in
    let m = length s / 65520 + 1 - (l.i + 1) in
    let all : m + (l.i + 1) ≡ length s / 65520 + 1 = omega (arith, c.loop-i-test.true) in
    let last = rw all at (ended_stays a.state a.tallies s (l.i + 1) m (withheld l.done.state l.done.tallies n) next refl) in
    let p = err_from_is_err_and c.from_residual.result c.from_residual.ensures.1 in
    rw (p.1, p.2, ← last)

pub loop-i-preserved : goal.loop-i-preserved
loop-i-preserved c =
    let a = c.args in
    let l = c.loop-i in
    let s = a.log.now in
    let r = as_reported a.state a.tallies (Ok l.done) in
    let g = whole_goes_on l.done.ending ∙ sym c.is_ok.ensures.value in
    elim c.if-is_ok.branch [
      | then-is_ok+in_ok-done w ↦ rw w.done-is (
          w.in_ok-done.ensures ∙ ap (reported l.done.state l.done.tallies) w.chunk.ensures
          ∙ goes_on_lem a.state a.tallies s l.i r l.invariant (g ∙ w.if-is_ok.true)
          )
      | else-is_ok w ↦ rw w.done-is (has_ended a.state a.tallies s l.i r l.invariant (g ∙ w.if-is_ok.false))
    ]

pub returns : goal.returns
returns c =
    let l = c.loop-i in
    let e : l.i ≡ length c.args.log.now / 65520 + 1 = omega arith in
    rw e at l.invariant
