-- The listing in lent bytes: 14 exactly where they are too short for it, and then they stay as they were; bytes past the text stay.
use Rattle.std.specs.Prelude.{ℕ, ◌≤◌, ◌<◌, cond, List, [], ◌∷◌, ◌++◌, ltb, length, drop}
use Rattle.laws.specs.Said.{Said}
use Rattle.listing_of_input.specs.Answer.{Listing, Text, Refused}
use Rattle.listing_text.specs.Listing.{listing_of}

-- bytes that are enough for every listing (`room_enough`)
abbrev pub room : ℕ
room = 131072

-- what listing says and the lent bytes afterwards, rule by rule
pub data Lists (s out : List ℕ) : Listing → List ℕ → Type 0 where
  short : length out < length (listing_of s) → Lists s out (Refused 14) out
  whole : length (listing_of s) ≤ length out → Lists s out (Text (length (listing_of s))) (listing_of s ++ drop (length (listing_of s)) out)

-- the same computed: `lists_exactly` shows that they agree. Text carries the number of bytes that it takes
unfoldable pub list_answer : List ℕ → ℕ → Listing
list_answer s lent = cond (ltb lent (length (listing_of s))) (Refused 14) (Text (length (listing_of s)))

unfoldable pub listed_into : List ℕ → List ℕ → List ℕ
listed_into s out = cond (ltb (length out) (length (listing_of s))) out (listing_of s ++ drop (length (listing_of s)) out)

-- the rules' number, and how many of the lent bytes are the text
abbrev pub list_said : Listing → Said ℕ
list_said (Text n) = record { number = 0; values = n ∷ [] }
list_said (Refused n) = record { number = n; values = [] }
