-- Reading and writing are each other's inverse at every width, by induction on the width.
use Prim.Native.Nat.{ℕ, zero, suc, ◌+◌, ◌*◌, ◌/◌, ◌%◌, ◌^◌, ◌≤◌, ◌<◌}
use mathlib.Core.Path.{◌≡◌, refl}
use mathlib.Core.List.{List, [], ◌∷◌, ◌++◌}
use native.Mathlib.Nat.{pow-suc, pow-zero}
use native.Mathlib.Omega.{arith}
use borrow.Author.Tests.{le-leb}
use lib.ListN.{length, take, drop, take-append-drop}
use lib.Seq.{take_at, length-take-le}
use Rattle.laws.specs.Bytes.{AreBytes}
use Rattle.laws.proofs.Bytes.{take-bytes}
use Rattle.number_reading.specs.Words.{number}
use Rattle.number_writing.specs.Bytes.{bytes, wrote}
use Rattle.number_writing.proofs.Places.{length-bytes}

pub number_of-bytes : (n x : ℕ) → x < 256 ^ n → number (bytes n x) ≡ x
unfolding number bytes
number_of-bytes zero x h = omega (arith, pow-zero 256)
number_of-bytes (suc n) x h =
    let q : x / 256 < 256 ^ n = omega (arith, pow-suc 256 n) in
    rw (number_of-bytes n (x / 256) q) (omega arith)

pub bytes_of_number : (s : List ℕ) → AreBytes s → bytes (length s) (number s) ≡ s
unfolding number bytes
bytes_of_number [] f = refl
bytes_of_number (b ∷ s) f =
    let l : (b + 256 * number s) % 256 ≡ b = omega (arith, f 0) in
    let h : (b + 256 * number s) / 256 ≡ number s = omega (arith, f 0) in
    rw (l, h, bytes_of_number s (λ i. f (suc i)))

-- each of them is a byte
pub bytes_are : (n x : ℕ) → AreBytes (bytes n x)
unfolding bytes
bytes_are zero x i = omega arith
bytes_are (suc n) x zero = omega arith
bytes_are (suc n) x (suc i) = bytes_are n (x / 256) i

-- a written slice: n bytes of the number, and the old ones past them
pub wrote_is : (n x : ℕ) (s : List ℕ) → n ≤ length s → wrote n x s ≡ bytes n x ++ drop n s
unfolding wrote
wrote_is n x s h = rw (le-leb n (length s) h)

-- a number that is written and read back is the same
pub written_read : (n x : ℕ) (s : List ℕ) → n ≤ length s → x < 256 ^ n → number (take n (wrote n x s)) ≡ x
written_read n x s h q =
    rw (wrote_is n x s h, take_at (bytes n x) (drop n s) n (length-bytes n x)) (number_of-bytes n x q)

-- bytes that are read and written again are the same
pub read_written : (n : ℕ) (s : List ℕ) → n ≤ length s → AreBytes s → wrote n (number (take n s)) s ≡ s
read_written n s h f =
    let l : length (take n s) ≡ n = length-take-le n s h in
    let e : bytes n (number (take n s)) ≡ take n s = rw l at (bytes_of_number (take n s) (take-bytes n s f)) in
    rw (wrote_is n (number (take n s)) s h, e) (take-append-drop n s)
