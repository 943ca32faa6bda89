-- The words of the rules' listing, letter by letter.
use Rattle.std.specs.Prelude.{ℕ, List, [], ◌∷◌}
use Rattle.listing_text.specs.Letters.{a, b, c, d, e, f, g, h, i, k, l, m, n, o, p, r, s, t, u, v, w, space, dash, newline}

abbrev pub input_too_long_word : List ℕ
input_too_long_word = i ∷ n ∷ p ∷ u ∷ t ∷ space ∷ t ∷ o ∷ o ∷ space ∷ l ∷ o ∷ n ∷ g ∷ []

abbrev pub table_refused_word : List ℕ
table_refused_word = t ∷ a ∷ b ∷ l ∷ e ∷ space ∷ r ∷ e ∷ f ∷ u ∷ s ∷ e ∷ d ∷ space ∷ []

abbrev pub task_word : List ℕ
task_word = t ∷ a ∷ s ∷ k ∷ space ∷ []

abbrev pub event_word : List ℕ
event_word = e ∷ v ∷ e ∷ n ∷ t ∷ space ∷ []

abbrev pub stop_word : List ℕ
stop_word = s ∷ t ∷ o ∷ p ∷ space ∷ []

abbrev pub at_word : List ℕ
at_word = space ∷ a ∷ t ∷ space ∷ []

abbrev pub w_word : List ℕ
w_word = space ∷ w ∷ space ∷ []

abbrev pub h_word : List ℕ
h_word = space ∷ h ∷ space ∷ []

abbrev pub bound_word : List ℕ
bound_word = space ∷ b ∷ o ∷ u ∷ n ∷ d ∷ space ∷ []

abbrev pub no_bound_word : List ℕ
no_bound_word = space ∷ b ∷ o ∷ u ∷ n ∷ d ∷ space ∷ dash ∷ []

abbrev pub run_word : List ℕ
run_word = space ∷ r ∷ u ∷ n ∷ space ∷ []

abbrev pub class_word : List ℕ
class_word = space ∷ c ∷ l ∷ a ∷ s ∷ s ∷ space ∷ []

abbrev pub idle_word : List ℕ
idle_word = space ∷ i ∷ d ∷ l ∷ e ∷ []

abbrev pub refused_word : List ℕ
refused_word = space ∷ r ∷ e ∷ f ∷ u ∷ s ∷ e ∷ d ∷ space ∷ []

abbrev pub met_word : List ℕ
met_word = space ∷ m ∷ e ∷ t ∷ space ∷ []

abbrev pub missed_word : List ℕ
missed_word = space ∷ m ∷ i ∷ s ∷ s ∷ e ∷ d ∷ space ∷ []

abbrev pub open_word : List ℕ
open_word = space ∷ o ∷ p ∷ e ∷ n ∷ space ∷ []

abbrev pub window_word : List ℕ
window_word = space ∷ w ∷ i ∷ n ∷ d ∷ o ∷ w ∷ space ∷ []

abbrev pub broken_word : List ℕ
broken_word = space ∷ b ∷ r ∷ o ∷ k ∷ e ∷ n ∷ space ∷ []

abbrev pub line_end : List ℕ
line_end = newline ∷ []
