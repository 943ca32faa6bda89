-- A refusal's number tells which refusal it is, and is never 0: a list of the refusals by number goes back.
use Prim.Native.Nat.{ℕ}
use mathlib.Core.Path.{◌≡◌, refl, sym, ap, ◌∙◌}
use mathlib.Core.List.{List, [], ◌∷◌}
use native.Mathlib.Omega.{arith}
use lib.ListN.{get_or}
use Rattle.std.specs.Prelude.{Result, Ok, Err}
use Rattle.refusals.specs.declared.Refusal.{Refusal}
use Rattle.refusals.specs.declared.Refusal.TheVariants as R
use Rattle.refusals.specs.Numbers.{number_of, fault_in}

-- the refusals from number 1 on; no refusal has the number 0
abbrev by_number : List Refusal
by_number =
    R.TaskCount ∷ R.TaskCount ∷ R.TaskMark ∷ R.TaskTimes ∷ R.TaskMisses ∷ R.EventSize ∷ R.EventMark ∷ R.EventKind ∷ R.EventFields ∷ R.EventTime
    ∷ R.NoTask ∷ R.TooSoon ∷ R.NotOpen ∷ R.NoBound ∷ R.NoRoom ∷ R.NotSound ∷ R.NoFit ∷ []

abbrev numbered : ℕ → Refusal
numbered n = get_or by_number n R.TaskCount

there_and_back : (r : Refusal) → numbered (number_of r) ≡ r
there_and_back R.TaskCount = refl
there_and_back R.TaskMark = refl
there_and_back R.TaskTimes = refl
there_and_back R.TaskMisses = refl
there_and_back R.EventSize = refl
there_and_back R.EventMark = refl
there_and_back R.EventKind = refl
there_and_back R.EventFields = refl
there_and_back R.EventTime = refl
there_and_back R.NoTask = refl
there_and_back R.TooSoon = refl
there_and_back R.NotOpen = refl
there_and_back R.NoBound = refl
there_and_back R.NoRoom = refl
there_and_back R.NotSound = refl
there_and_back R.NoFit = refl

pub number_tells : (a b : Refusal) → number_of a ≡ number_of b → a ≡ b
number_tells a b e = sym (there_and_back a) ∙ ap numbered e ∙ there_and_back b

pub number_some : (r : Refusal) → number_of r ≡ 0 → ⊥
number_some r e =
    let one : 1 ≡ number_of r = ap number_of (sym (ap numbered e) ∙ there_and_back r) in
    omega arith

-- a contract on the number of an answer admits a single answer
pub fault_tells : (a b : Result Unit Refusal) → fault_in a ≡ fault_in b → a ≡ b
fault_tells (Ok x) (Ok y) e = refl
fault_tells (Ok x) (Err r) e = absurd (number_some r (sym e))
fault_tells (Err r) (Ok y) e = absurd (number_some r e)
fault_tells (Err r) (Err s) e = ap Err (number_tells r s e)
