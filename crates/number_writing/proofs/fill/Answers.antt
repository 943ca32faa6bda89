-- `fill` meets its contract: after i turns the first i bytes are written and x is divided by 256 as often.
use mathlib.Core.Path.{refl}
use native.Mathlib.Nat.{pow-suc, div-one, div-div-eq-div-mul}
use native.Mathlib.Numerals.{add-one}
use Rattle.number_writing.specs.Bytes.{bytes}
use Rattle.number_writing.proofs.Places.{bytes_store}
use Rattle.number_writing.proofs.fill.Goals as goal

pub loop-b-init : goal.loop-b-init
unfolding bytes
loop-b-init c = record { left = rw div-one; written = refl }

pub loop-b-preserved : goal.loop-b-preserved
loop-b-preserved c =
    let l = c.loop-b in
    let a = c.args in
    record {
      left = rw (l.invariant.left, div-div-eq-div-mul, ← pow-suc, add-one);
      written = rw (l.invariant.written, l.invariant.left, add-one) (bytes_store l.b-index a.x a.s.now c.loop-b-test.true);
    }
