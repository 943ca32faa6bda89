-- What a begun state tells of the table: with a state the table is accepted and the state is its fresh one, and a refusal is the table's; case by case.
use mathlib.Core.Path.{◌≡◌, refl, sym, ap}
use Rattle.std.specs.Prelude.{Ok, Err}
use Rattle.laws.proofs.Tests.{impossible}
use Rattle.refusals.specs.Numbers.{number_of}
use Rattle.table_rules.specs.declared.Refused as D
use Rattle.table_rules.specs.declared.Table.{Table}
use Rattle.table_rules.specs.Answers.{Answer, Accepted, Refused}
use Rattle.state_rules.specs.Started.{Started}
use Rattle.state_rules.specs.declared.State.{State}
use Rattle.state_rules.specs.State.{fresh_state, as_started, started_by}

pub begun_by : (a : Answer) (t : Table) (s : State) → as_started (Ok s) ≡ started_by a t → (a ≡ Accepted) × (s ≡ fresh_state t)
begun_by Accepted t s q = (refl, ap (λ (x : Started). x.state) q)
begun_by (Refused n p) t s q = let z = ap (λ (x : Started). x.answer) q in impossible cc

pub refused_by : (a : Answer) (t : Table) (r : D.Refused) → as_started (Err r) ≡ started_by a t → a ≡ Refused (number_of r.refusal) r.position
refused_by Accepted t r q = let z = ap (λ (x : Started). x.answer) q in impossible cc
refused_by (Refused n p) t r q = sym (ap (λ (x : Started). x.answer) q)
