-- The records of a log from the front on: one law says what stands at the front, and each claim follows by induction on how many read.
use Prim.Native.Nat.{ℕ, zero, suc, ◌+◌, ◌*◌, ◌≤◌}
use mathlib.Core.Path.{◌≡◌, refl, ap, ◌∙◌}
use mathlib.Core.List.{List, [], ◌∷◌}
use mathlib.Core.Logic.{◌⊎◌, inl, inr}
use native.Mathlib.Omega.{arith}
use lib.ListN.{length, drop, length-drop}
use lib.Seq.{drop-drop}
use Rattle.laws.proofs.Tests.{impossible}
use Rattle.event_reading.specs.declared.Event.{Event}
use Rattle.event_reading.specs.Reading.{Reading}
use Rattle.event_reading.specs.Reading as R
use Rattle.event_reading.specs.Event.{Ruled}
use Rattle.event_reading.specs.Record.{Marked, event_of, read_record}
use Rattle.event_logs.specs.Log.{more, readable_in, readable, rest_of}
use Rattle.event_reading.proofs.ReadOne.{event-of}

-- a bound that is large enough does not matter
enough : (n m : ℕ) (s : List ℕ) → length s ≤ n → length s ≤ m → readable_in n s ≡ readable_in m s
unfolding readable_in read_record
enough zero zero s p q = refl
enough zero (suc m) [] p q = refl
enough zero (suc m) (b ∷ s) p q = absurd (omega arith)
enough (suc n) zero [] p q = refl
enough (suc n) zero (b ∷ s) p q = absurd (omega arith)
enough (suc n) (suc m) s p q = ap (more (read_record s)) (enough n m (drop 20 s) (rw length-drop (omega arith)) (rw length-drop (omega arith)))

-- a record that reads and those behind it, or none
pub readable_step : (s : List ℕ) → readable s ≡ more (read_record s) (readable (drop 20 s))
unfolding readable readable_in read_record
readable_step [] = refl
readable_step (b ∷ s) =
    ap (more (read_record (b ∷ s))) (enough (length s) (length (drop 20 (b ∷ s))) (drop 20 (b ∷ s)) (simp length-drop (omega arith)) (omega arith))

-- a record that reads stands at the front
pub record Goes (s : List ℕ) : Type 0 where
  pub long : 20 ≤ length s
  pub marked : Marked s
  pub ruled : Ruled (event_of s)
  pub reads : read_record s ≡ R.Event (event_of s)
  pub counts : readable s ≡ suc (readable (drop 20 s))

-- none does
pub record Stops (s : List ℕ) : Type 0 where
  pub silent : (e : Event) → read_record s ≡ R.Event e → ⊥
  pub none : readable s ≡ 0

pub front : (s : List ℕ) → Goes s ⊎ Stops s
front s = go (read_record s) refl
  where
    go : (r : Reading) → read_record s ≡ r → Goes s ⊎ Stops s
    go (R.Event e) q =
        let w = event-of s e q in
        inl (record { long = w.0; marked = w.1.0; ruled = w.1.1.0; reads = q ∙ ap R.Event w.1.1.1; counts = rw q at (readable_step s) })
    go R.End q = inr (record { silent = λ e p. impossible cc; none = rw q at (readable_step s) })
    go (R.Refused n) q = inr (record { silent = λ e p. impossible cc; none = rw q at (readable_step s) })

pub goes_of : (s : List ℕ) (e : Event) → read_record s ≡ R.Event e → Goes s
goes_of s e q = go (front s)
  where
    go : Goes s ⊎ Stops s → Goes s
    go (inl g) = g
    go (inr n) = absurd (n.silent e q)

-- induction on the records of a log: what holds where none reads, and of a log if it holds behind its first record, holds of every log
pub by_records : (P : List ℕ → Type 0)
    → ((s : List ℕ) → Stops s → P s)
    → ((s : List ℕ) → Goes s → P (drop 20 s) → P s)
    → (s : List ℕ) → P s
by_records P last next s = go (readable s) s refl
  where
    pick : (s : List ℕ) → Goes s ⊎ Stops s → (Goes s → P s) → P s
    pick s (inl g) f = f g
    pick s (inr t) f = last s t

    go : (n : ℕ) (s : List ℕ) → readable s ≡ n → P s
    go zero s q = pick s (front s) (λ g. absurd (omega (arith, g.counts)))
    go (suc n) s q = pick s (front s) (λ g. next s g (go n (drop 20 s) (omega (arith, g.counts))))

-- the records that read lie within the log
pub readable-fits : (s : List ℕ) → 20 * readable s ≤ length s
readable-fits =
    by_records (λ s. 20 * readable s ≤ length s) (λ s t. omega (arith, t.none))
    (λ s g h. omega (arith, g.long, g.counts, rw length-drop at h))

-- a record that reads is whole, and behind it stands the same rest
pub record_there : (s : List ℕ) (e : Event) → read_record s ≡ R.Event e → 20 ≤ length s
record_there s e q = (goes_of s e q).long

pub rest_behind : (s : List ℕ) (e : Event) → read_record s ≡ R.Event e → rest_of (drop 20 s) ≡ rest_of s
rest_behind s e q =
    let k = readable (drop 20 s) in
    let n : 20 * readable s ≡ 20 + 20 * k = omega (arith, (goes_of s e q).counts) in
    rw n (drop-drop (20 * k) 20 s)

-- where none reads at the front, all is the rest
module _ (s : List ℕ) where
  rest_whole : ((e : Event) → read_record s ≡ R.Event e → ⊥) → s ≡ rest_of s
  rest_whole n = go (front s)
    where
      go : Goes s ⊎ Stops s → s ≡ rest_of s
      go (inl g) = absurd (n (event_of s) g.reads)
      go (inr t) = rw t.none

  pub rest_at_end : R.End ≡ read_record s → s ≡ rest_of s
  rest_at_end q = rest_whole (λ e p. impossible cc)

  pub rest_refused : (n : ℕ) → R.Refused n ≡ read_record s → s ≡ rest_of s
  rest_refused n q = rest_whole (λ e p. impossible cc)
