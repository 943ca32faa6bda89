-- `spelled` meets its contract: a turn reads the last byte that is left.
use Rattle.std.proofs.Common.{◌≡◌, [], ◌∷◌, ◌++◌, arith, refl}
use Rattle.number_reading.proofs.Places.{Reading, begun, byte_read, room, goes_on, all_read}
use Rattle.number_reading.proofs.spelled.Goals as goal
use Rattle.number_reading.proofs.spelled.Goals.{In-Some}

pub loop-b-init : goal.loop-b-init
loop-b-init c =
    let e : c.into_iter-b-iterator.result.iter.rest.now ≡ c.args.s.now =
    rw (c.into_iter-b-iterator.ensures.into_iter_gives, c.rev-b-items.ensures.source, c.iter.ensures.rest) refl in
    rw e (begun c.args.s.now (λ k. (c.type_inv.s k).fits))

-- before a turn the byte stands behind those that are left after it
turn : (c : In-Some) → Reading c.args.s.now (c.next.new.self.iter.rest.now ++ (c.in-Some.b.now ∷ [])) c.loop-b.x
turn c = rw c.in-Some.ensures.steps at c.loop-b.invariant

pub overflow_mul-x : goal.overflow_mul-x
overflow_mul-x c = omega (arith, room _ _ _ _ (turn c) c.requires)

pub overflow_add-x : goal.overflow_add-x
overflow_add-x c =
    let t = turn (goal.at.overflow_add-x c).In-Some in
    omega (arith, room _ _ _ _ t c.requires, byte_read _ _ _ _ t, c.from.ensures)

pub loop-b-preserved : goal.loop-b-preserved
loop-b-preserved c = rw c.from.ensures (goes_on _ _ _ _ (turn (goal.at.loop-b-preserved c).In-Some))

pub returns : goal.returns
returns c = all_read c.args.s.now _ _ c.loop-b.invariant c.in-None.ensures.steps.0
