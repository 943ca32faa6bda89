-- The rules' own listing, byte by byte and as one claim, by computation: what its input gives is the text that it prints.
use Prim.Native.Nat.{ℕ}
use mathlib.Core.Path.{◌≡◌, refl}
use mathlib.Core.List.{List, [], ◌∷◌, ◌++◌}
use Rattle.text_writing.specs.Decimal.{digits_in, decimal}
use Rattle.table_reading.proofs.Computing.{table_computes}
use Rattle.bound_one.proofs.Computing.{bound_computes}
use Rattle.event_logs.proofs.Computing.{log_computes}
use Rattle.listing_text.specs.TableLines.{task_lines, last_lines}
use Rattle.apply_events.specs.Log.{state_after}
use Rattle.apply_events.proofs.Computing.{event_computes}
use Rattle.listing_text.specs.LogLines.{event_lines, stop_text}
use Rattle.listing_text.specs.Listing.{table_listing, listed, listing_of}

-- one byte n: 2 tasks
abbrev count : List ℕ
count = 2 ∷ []

-- task 0: (2,4,4,(1,2))
abbrev first : List ℕ
first = 84 ∷ 75 ∷ 2 ∷ 0 ∷ 0 ∷ 0 ∷ 4 ∷ 0 ∷ 0 ∷ 0 ∷ 4 ∷ 0 ∷ 0 ∷ 0 ∷ 1 ∷ 2 ∷ []

-- task 1: (3,7,8,(1,3))
abbrev second : List ℕ
second = 84 ∷ 75 ∷ 3 ∷ 0 ∷ 0 ∷ 0 ∷ 7 ∷ 0 ∷ 0 ∷ 0 ∷ 8 ∷ 0 ∷ 0 ∷ 0 ∷ 1 ∷ 3 ∷ []

-- release 0 at 0
abbrev event1 : List ℕ
event1 = 69 ∷ 86 ∷ 1 ∷ 0 ∷ 0 ∷ 0 ∷ 0 ∷ 0 ∷ 0 ∷ 0 ∷ 0 ∷ 0 ∷ 0 ∷ 0 ∷ 0 ∷ 0 ∷ 0 ∷ 0 ∷ 0 ∷ 0 ∷ []

-- release 1 at 0
abbrev event2 : List ℕ
event2 = 69 ∷ 86 ∷ 1 ∷ 1 ∷ 0 ∷ 0 ∷ 0 ∷ 0 ∷ 0 ∷ 0 ∷ 0 ∷ 0 ∷ 0 ∷ 0 ∷ 0 ∷ 0 ∷ 0 ∷ 0 ∷ 0 ∷ 0 ∷ []

-- complete 0 job 1 at 2
abbrev event3 : List ℕ
event3 = 69 ∷ 86 ∷ 2 ∷ 0 ∷ 1 ∷ 0 ∷ 0 ∷ 0 ∷ 0 ∷ 0 ∷ 0 ∷ 0 ∷ 2 ∷ 0 ∷ 0 ∷ 0 ∷ 0 ∷ 0 ∷ 0 ∷ 0 ∷ []

-- release 0 at 3
abbrev event4 : List ℕ
event4 = 69 ∷ 86 ∷ 1 ∷ 0 ∷ 0 ∷ 0 ∷ 0 ∷ 0 ∷ 0 ∷ 0 ∷ 0 ∷ 0 ∷ 3 ∷ 0 ∷ 0 ∷ 0 ∷ 0 ∷ 0 ∷ 0 ∷ 0 ∷ []

-- release 0 at 4
abbrev event5 : List ℕ
event5 = 69 ∷ 86 ∷ 1 ∷ 0 ∷ 0 ∷ 0 ∷ 0 ∷ 0 ∷ 0 ∷ 0 ∷ 0 ∷ 0 ∷ 4 ∷ 0 ∷ 0 ∷ 0 ∷ 0 ∷ 0 ∷ 0 ∷ 0 ∷ []

-- complete 1 job 1 at 5
abbrev event6 : List ℕ
event6 = 69 ∷ 86 ∷ 2 ∷ 1 ∷ 1 ∷ 0 ∷ 0 ∷ 0 ∷ 0 ∷ 0 ∷ 0 ∷ 0 ∷ 5 ∷ 0 ∷ 0 ∷ 0 ∷ 0 ∷ 0 ∷ 0 ∷ 0 ∷ []

-- complete 0 job 1 at 6
abbrev event7 : List ℕ
event7 = 69 ∷ 86 ∷ 2 ∷ 0 ∷ 1 ∷ 0 ∷ 0 ∷ 0 ∷ 0 ∷ 0 ∷ 0 ∷ 0 ∷ 6 ∷ 0 ∷ 0 ∷ 0 ∷ 0 ∷ 0 ∷ 0 ∷ 0 ∷ []

-- tick 9
abbrev event8 : List ℕ
event8 = 69 ∷ 86 ∷ 0 ∷ 0 ∷ 0 ∷ 0 ∷ 0 ∷ 0 ∷ 0 ∷ 0 ∷ 0 ∷ 0 ∷ 9 ∷ 0 ∷ 0 ∷ 0 ∷ 0 ∷ 0 ∷ 0 ∷ 0 ∷ []

abbrev pub input : List ℕ
input = count ++ first ++ second ++ event1 ++ event2 ++ event3 ++ event4 ++ event5 ++ event6 ++ event7 ++ event8

-- task 0 w 1 h 1 bound 2
abbrev line1 : List ℕ
line1 = 116 ∷ 97 ∷ 115 ∷ 107 ∷ 32 ∷ 48 ∷ 32 ∷ 119 ∷ 32 ∷ 49 ∷ 32 ∷ 104 ∷ 32 ∷ 49 ∷ 32 ∷ 98 ∷ 111 ∷ 117 ∷ 110 ∷ 100 ∷ 32 ∷ 50 ∷ 10 ∷ []

-- task 1 w 1 h 2 bound 7
abbrev line2 : List ℕ
line2 = 116 ∷ 97 ∷ 115 ∷ 107 ∷ 32 ∷ 49 ∷ 32 ∷ 119 ∷ 32 ∷ 49 ∷ 32 ∷ 104 ∷ 32 ∷ 50 ∷ 32 ∷ 98 ∷ 111 ∷ 117 ∷ 110 ∷ 100 ∷ 32 ∷ 55 ∷ 10 ∷ []

-- event 1 run 0 class 0
abbrev line3 : List ℕ
line3 = 101 ∷ 118 ∷ 101 ∷ 110 ∷ 116 ∷ 32 ∷ 49 ∷ 32 ∷ 114 ∷ 117 ∷ 110 ∷ 32 ∷ 48 ∷ 32 ∷ 99 ∷ 108 ∷ 97 ∷ 115 ∷ 115 ∷ 32 ∷ 48 ∷ 10 ∷ []

-- event 2 run 0 class 0
abbrev line4 : List ℕ
line4 = 101 ∷ 118 ∷ 101 ∷ 110 ∷ 116 ∷ 32 ∷ 50 ∷ 32 ∷ 114 ∷ 117 ∷ 110 ∷ 32 ∷ 48 ∷ 32 ∷ 99 ∷ 108 ∷ 97 ∷ 115 ∷ 115 ∷ 32 ∷ 48 ∷ 10 ∷ []

-- event 3 run 1 class 0
abbrev line5 : List ℕ
line5 = 101 ∷ 118 ∷ 101 ∷ 110 ∷ 116 ∷ 32 ∷ 51 ∷ 32 ∷ 114 ∷ 117 ∷ 110 ∷ 32 ∷ 49 ∷ 32 ∷ 99 ∷ 108 ∷ 97 ∷ 115 ∷ 115 ∷ 32 ∷ 48 ∷ 10 ∷ []

-- event 4 refused 11
abbrev line6 : List ℕ
line6 = 101 ∷ 118 ∷ 101 ∷ 110 ∷ 116 ∷ 32 ∷ 52 ∷ 32 ∷ 114 ∷ 101 ∷ 102 ∷ 117 ∷ 115 ∷ 101 ∷ 100 ∷ 32 ∷ 49 ∷ 49 ∷ 10 ∷ []

-- event 5 run 1 class 0
abbrev line7 : List ℕ
line7 = 101 ∷ 118 ∷ 101 ∷ 110 ∷ 116 ∷ 32 ∷ 53 ∷ 32 ∷ 114 ∷ 117 ∷ 110 ∷ 32 ∷ 49 ∷ 32 ∷ 99 ∷ 108 ∷ 97 ∷ 115 ∷ 115 ∷ 32 ∷ 48 ∷ 10 ∷ []

-- event 6 run 0 class 1
abbrev line8 : List ℕ
line8 = 101 ∷ 118 ∷ 101 ∷ 110 ∷ 116 ∷ 32 ∷ 54 ∷ 32 ∷ 114 ∷ 117 ∷ 110 ∷ 32 ∷ 48 ∷ 32 ∷ 99 ∷ 108 ∷ 97 ∷ 115 ∷ 115 ∷ 32 ∷ 49 ∷ 10 ∷ []

-- event 7 refused 12
abbrev line9 : List ℕ
line9 = 101 ∷ 118 ∷ 101 ∷ 110 ∷ 116 ∷ 32 ∷ 55 ∷ 32 ∷ 114 ∷ 101 ∷ 102 ∷ 117 ∷ 115 ∷ 101 ∷ 100 ∷ 32 ∷ 49 ∷ 50 ∷ 10 ∷ []

-- event 8 idle
abbrev line10 : List ℕ
line10 = 101 ∷ 118 ∷ 101 ∷ 110 ∷ 116 ∷ 32 ∷ 56 ∷ 32 ∷ 105 ∷ 100 ∷ 108 ∷ 101 ∷ 10 ∷ []

-- task 0 met 1 missed 1 open 0 window 1 broken 0
abbrev line11 : List ℕ
line11 =
    116 ∷ 97 ∷ 115 ∷ 107 ∷ 32 ∷ 48 ∷ 32 ∷ 109 ∷ 101 ∷ 116 ∷ 32 ∷ 49 ∷ 32 ∷ 109 ∷ 105 ∷ 115 ∷ 115 ∷ 101 ∷ 100 ∷ 32 ∷ 49 ∷ 32 ∷ 111 ∷ 112 ∷ 101 ∷ 110 ∷ 32 ∷ 48
    ∷ 32 ∷ 119 ∷ 105 ∷ 110 ∷ 100 ∷ 111 ∷ 119 ∷ 32 ∷ 49 ∷ 32 ∷ 98 ∷ 114 ∷ 111 ∷ 107 ∷ 101 ∷ 110 ∷ 32 ∷ 48 ∷ 10 ∷ []

-- task 1 met 1 missed 0 open 0 window 0 broken 0
abbrev line12 : List ℕ
line12 =
    116 ∷ 97 ∷ 115 ∷ 107 ∷ 32 ∷ 49 ∷ 32 ∷ 109 ∷ 101 ∷ 116 ∷ 32 ∷ 49 ∷ 32 ∷ 109 ∷ 105 ∷ 115 ∷ 115 ∷ 101 ∷ 100 ∷ 32 ∷ 48 ∷ 32 ∷ 111 ∷ 112 ∷ 101 ∷ 110 ∷ 32 ∷ 48
    ∷ 32 ∷ 119 ∷ 105 ∷ 110 ∷ 100 ∷ 111 ∷ 119 ∷ 32 ∷ 48 ∷ 32 ∷ 98 ∷ 114 ∷ 111 ∷ 107 ∷ 101 ∷ 110 ∷ 32 ∷ 48 ∷ 10 ∷ []

abbrev pub text : List ℕ
text = line1 ++ line2 ++ line3 ++ line4 ++ line5 ++ line6 ++ line7 ++ line8 ++ line9 ++ line10 ++ line11 ++ line12

pub document : listing_of input ≡ text
unfolding listing_of listed table_listing task_lines event_lines state_after stop_text last_lines table_computes bound_computes log_computes
    event_computes digits_in decimal
document = refl
