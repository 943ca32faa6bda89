-- `get` meets its contract: no more bytes are read than the number has, so that it keeps all of them.
use Rattle.std.proofs.Common.{rules, ℕ, ◌≡◌, ◌<◌, ◌%◌, ◌^◌, arith}
use Rattle.std.proofs.Math.ListN.{length-take}
use Rattle.std.proofs.Math.Nat.{mod-eq_of_lt}
use Rattle.std.proofs.lemmas.List.{take_min}
use Rattle.number_reading.proofs.Places.{wider}
use Rattle.number_reading.proofs.get.Goals as goal

pub returns : goal.returns
returns g c =
    let f : c.spelled.result < 256 ^ g.N.Number.WIDTH = wider _ _ _ c.spelled.ensures.1 (omega (arith, length-take {A = ℕ})) in
    let m : c.spelled.result % 256 ^ g.N.Number.WIDTH ≡ c.spelled.result = mod-eq_of_lt f in
    rw (c.narrow.ensures, m) (search (rules, take_min))
