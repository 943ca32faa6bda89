-- What reading one byte more does, at any width: the bytes that are left, and what was read behind them, spell the whole.
use Prim.Native.Nat.{ℕ, zero, suc, ◌+◌, ◌-◌, ◌*◌, ◌^◌, ◌≤◌, ◌<◌}
use mathlib.Core.Path.{◌≡◌, refl, ◌∙◌}
use mathlib.Core.List.{List, [], ◌∷◌, ◌++◌}
use native.Mathlib.Nat.{pow-suc, pow-zero, pow-le-pow_right, lt_of_lt_of_le, mul-add, mul_assoc, mul_comm, sub_self, sub-zero}
use native.Mathlib.Omega.{arith}
use lib.ListN.{length, length-append, take}
use lib.Seq.{get_or-append_seam, take-append_seam}
use lib.Dec.{lit<}
use Rattle.std.proofs.lemmas.List.{nil_from_length}
use Rattle.laws.specs.Bytes.{AreBytes}
use Rattle.laws.proofs.Bytes.{take-bytes}
use Rattle.number_reading.specs.Words.{number}

-- a byte behind others counts by what they have room for
number_push : (r : List ℕ) (b : ℕ) → number (r ++ (b ∷ [])) ≡ number r + 256 ^ length r * b
unfolding number
number_push [] b = rw pow-zero (omega arith)
number_push (a ∷ r) b =
    let e : 256 * (256 ^ length r * b) ≡ 256 ^ suc (length r) * b = rw (pow-suc, mul_comm (256 ^ length r) 256, mul_assoc) refl in
    rw (number_push r b) (omega (arith, e))

-- s is to be read, the bytes rest are left of it, and x was read behind them
pub record Reading (s rest : List ℕ) (x : ℕ) : Type 0 where
  pub bytes : AreBytes rest
  pub left : length rest ≤ length s
  pub whole : number rest + 256 ^ length rest * x ≡ number s
  pub small : x < 256 ^ (length s - length rest)

pub begun : (s : List ℕ) → AreBytes s → Reading s s 0
begun s f =
    let z : 0 < 256 ^ 0 = rw pow-zero (omega arith) in
    record { bytes = f; left = omega arith; whole = omega arith; small = rw sub_self z }

module _ (s r : List ℕ) (b x : ℕ) (h : Reading s (r ++ (b ∷ [])) x) where
  one_less : length (r ++ (b ∷ [])) ≡ suc (length r)
  one_less = length-append r (b ∷ []) ∙ (omega arith)

  pub byte_read : b < 256
  byte_read = rw (get_or-append_seam r b [] 0) at (h.bytes (length r))

  -- there is room for a byte more in 64 bits
  pub room : length s ≤ 8 → x < 2 ^ 56
  room p = lt_of_lt_of_le h.small (pow-le-pow_right {n = 256} (lit< tt) {i = length s - length (r ++ (b ∷ []))} {j = 7} (omega (arith, one_less)))

  pub goes_on : Reading s r (x * 256 + b)
  goes_on =
      let p = 256 ^ length r in
      let e : 256 ^ length (r ++ (b ∷ [])) * x ≡ p * (x * 256) = rw (one_less, pow-suc, mul_assoc, mul_comm 256 x) refl in
      let d : length s - length r ≡ suc (length s - length (r ++ (b ∷ []))) = omega (arith, one_less, h.left) in
      record {
        bytes = rw take-append_seam at (take-bytes (length r) (r ++ (b ∷ [])) h.bytes);
        left = omega (arith, one_less, h.left);
        whole = rw (mul-add p (x * 256) b) (omega (arith, h.whole, number_push r b, e));
        small = rw (d, pow-suc) (omega (arith, h.small, byte_read));
      }

pub all_read : (s rest : List ℕ) (x : ℕ) → Reading s rest x → length rest ≡ 0 → (x ≡ number s) × (x < 256 ^ length s)
unfolding number
all_read s rest x h e =
    let n : rest ≡ [] = nil_from_length rest e in
    let w : number [] + 256 ^ 0 * x ≡ number s = rw n at h.whole in
    let m : x < 256 ^ length s = rw (n, sub-zero) at h.small in
    (omega (arith, w, pow-zero 256), m)

-- fewer bytes have less room
pub wider : (x m n : ℕ) → x < 256 ^ m → m ≤ n → x < 256 ^ n
wider x m n h p = lt_of_lt_of_le h (pow-le-pow_right {n = 256} (lit< tt) {i = m} {j = n} p)

-- n bytes spell less than 256 ^ n
pub number_small : (n : ℕ) (s : List ℕ) → AreBytes s → number (take n s) < 256 ^ n
unfolding number
number_small zero s f = omega (arith, pow-zero 256)
number_small (suc n) [] f = omega (arith, pow-suc 256 n, number_small n [] f)
number_small (suc n) (b ∷ s) f = omega (arith, pow-suc 256 n, f 0, number_small n s (λ i. f (suc i)))
