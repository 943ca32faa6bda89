-- What writing one byte more does, at any width: the loop's step, by induction on the place.
use Prim.Native.Nat.{ℕ, zero, suc, ◌/◌, ◌%◌, ◌^◌, ◌<◌}
use mathlib.Core.Path.{◌≡◌, refl, ap}
use mathlib.Core.List.{List, [], ◌∷◌, ◌++◌, append_assoc}
use native.Mathlib.Nat.{pow-succ', pow-zero, div-div-eq-div-mul, div-one}
use lib.ListN.{length, get_or, drop, set}
use lib.Seq.{drop-cons, set_at}
use Rattle.number_writing.specs.Bytes.{bytes}

pub length-bytes : (n x : ℕ) → length (bytes n x) ≡ n
unfolding bytes
length-bytes zero x = refl
length-bytes (suc n) x = ap suc (length-bytes n _)

-- the last byte of one more
pub bytes_last : (n x : ℕ) → bytes (suc n) x ≡ bytes n x ++ (x / 256 ^ n % 256) ∷ []
unfolding bytes
bytes_last zero x = rw (pow-zero, div-one)
bytes_last (suc n) x = rw (bytes_last n (x / 256), div-div-eq-div-mul, pow-succ')

-- a store behind the bytes that are written writes one more
pub bytes_store : (n x : ℕ) (s : List ℕ) → n < length s → set (bytes n x ++ drop n s) n (x / 256 ^ n % 256) ≡ bytes (suc n) x ++ drop (suc n) s
bytes_store n x s h =
    rw (drop-cons s n 0 h, set_at (bytes n x) (get_or s n 0) (drop (suc n) s) (x / 256 ^ n % 256) n (length-bytes n x), bytes_last n x, append_assoc)
