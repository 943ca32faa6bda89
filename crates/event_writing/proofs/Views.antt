-- The rules' terms tell the code's answers apart, so a contract on an answer in these terms admits a single one.
use mathlib.Core.Path.{◌≡◌, refl, ap}
use Rattle.std.specs.Prelude.{Result, Ok, Err}
use Rattle.laws.proofs.Tests.{impossible}
use Rattle.refusals.specs.declared.Refusal.{Refusal}
use Rattle.refusals.specs.Numbers.{number_of}
use Rattle.refusals.proofs.Numbers.{number_tells}
use Rattle.event_writing.specs.Answer.{as_writing}

pub writing_tells : (a b : Result Unit Refusal) → as_writing a ≡ as_writing b → a ≡ b
writing_tells (Ok x) (Ok y) e = refl
writing_tells (Ok x) (Err s) e = impossible cc
writing_tells (Err r) (Ok y) e = impossible cc
writing_tells (Err r) (Err s) e = let w : number_of r ≡ number_of s = cc in ap Err (number_tells r s w)
