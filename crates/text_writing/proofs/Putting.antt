-- Two texts put one behind the other are one text, and no text leaves a sheet as it is: by the laws of `puts`.
use mathlib.Core.Path.{refl, sym, ap, ◌∙◌}
use mathlib.Core.List.{List, [], ◌∷◌, ◌++◌}
use Prim.Native.Nat.{ℕ, suc, ◌+◌, ◌/◌, ◌%◌, ◌≤◌, ◌<◌}
use lib.ListN.{length, get_or, take}
use Rattle.text_writing.specs.declared.Sheet.{Sheet}
use Rattle.text_writing.specs.Sheet.{puts}
use Rattle.text_writing.specs.Puts.{as_sheet, Puts}
use Rattle.text_writing.proofs.Sheets.{and_then, next_byte}
use Rattle.text_writing.specs.Decimal.{decimal}
use Rattle.text_writing.proofs.Decimals.{decimal_one, decimal-more}

pub none_put : (a : Sheet) → Puts a a []
unfolding puts
none_put a = record { same = refl; put = refl }

-- one text, and then what follows it
pub then_put : {a b c : Sheet} {s t : List ℕ} → Puts a b s → Puts b c t → Puts a c (s ++ t)
then_put {a} {b} {c} {s} {t} p q = record { same = q.same ∙ p.same; put = and_then (as_sheet a) s t p.put q.put }

-- one byte more of a text
pub next_put : {a b c : Sheet} (text : List ℕ) (i : ℕ) → i < length text → Puts a b (take i text) → Puts b c (get_or text i 0 ∷ [])
    → Puts a c (take (suc i) text)
unfolding puts
next_put {a} {b} {c} text i h p q = record { same = q.same ∙ p.same; put = next_byte (as_sheet a) text i h p.put q.put }

-- a number of one digit, and one more digit of a number
pub digit_put : {a b : Sheet} (n : ℕ) → n < 10 → Puts a b ((48 + n) ∷ []) → Puts a b (decimal n)
digit_put {a} n h p = record { same = p.same; put = p.put ∙ ap (puts (as_sheet a)) (sym (decimal_one n h)) }

pub digits_put : {a b c : Sheet} (n : ℕ) → 10 ≤ n → Puts a b (decimal (n / 10)) → Puts b c ((48 + n % 10) ∷ []) → Puts a c (decimal n)
digits_put {a} {b} {c} n h p q =
    let r = then_put p q in
    record { same = r.same; put = r.put ∙ ap (puts (as_sheet a)) (sym (decimal-more n h)) }
