-- The trim list: tokens parted by `++` from the left, the ranges that they say, and the list's refusals in document 01's order.
use Rattle.std.specs.Prelude.{ℕ, zero, suc, cond, List, [], ◌∷◌, ◌++◌, length, eqb, leb}
use Rattle.spec_base.specs.base.Limits.{most_list_bytes, most_trims, most_places}
use Rattle.spec_base.specs.base.Refusal.{◌or_else◌, fault_unless}
use Rattle.spec_base.specs.base.Put.{put}
use Rattle.spec_text.specs.utf8.Utf8.{utf8}
use Rattle.spec_text.specs.whitespace.White.{trim}
use Rattle.spec_text.specs.text.Line.{blank}
use Rattle.spec_text.specs.pattern.Piece.{pieces}
use Rattle.spec_trim.specs.trim.Token.{mark, token_of, step_of, token_number, token_range, token_end}
use Rattle.spec_trim.specs.declared.trim.Parsed.{Parsed}

-- ---- the tokens
unfoldable pub tokens_of : List ℕ → List (List ℕ)
tokens_of s = pieces mark s

-- those of a list: a blank one has none (only the whole list; what stands behind a `++` may not be blank)
unfoldable pub list_tokens : List ℕ → List (List ℕ)
list_tokens s = cond (blank s) [] (tokens_of s)

-- the first refusal among tokens, of which `left` are allowed, after a range that ends at prev: 7 for one too many, then the token's own
unfoldable pub tokens_number : ℕ → ℕ → List (List ℕ) → ℕ
tokens_number left prev [] = 0
tokens_number zero prev (t ∷ ts) = 7
tokens_number (suc left) prev (t ∷ ts) = token_number (step_of prev t) or_else tokens_number left (token_end (step_of prev t)) ts

-- the ranges of tokens, each as its start and its end
unfoldable pub ranges_in : List (List ℕ) → List ℕ
ranges_in [] = []
ranges_in (t ∷ ts) = token_range (token_of (trim t)) ++ ranges_in ts

-- ---- the list
-- length, UTF-8
unfoldable pub head_number : List ℕ → ℕ
head_number s =
    fault_unless (leb (length s) most_list_bytes) 7 or_else
    fault_unless (utf8 s) 20

-- the number of the list s: 0, or its first refusal
unfoldable pub list_number : List ℕ → ℕ
list_number s = head_number s or_else tokens_number most_trims 0 (list_tokens s)

-- how many ranges s has, none where it is blank, and the ranges, where its number is 0
unfoldable pub range_count : List ℕ → ℕ
range_count s = length (list_tokens s)

unfoldable pub ranges_of : List ℕ → List ℕ
ranges_of s = ranges_in (list_tokens s)

-- ---- the call
abbrev pub parsed : ℕ → ℕ → Parsed
parsed n k = record { number = n; count = k }

-- a number, and the count of ranges of s where that number is 0
unfoldable pub list_answer : ℕ → List ℕ → Parsed
list_answer n s = parsed n (cond (eqb n 0) (range_count s) 0)

-- what the list s gives, where `lent` places are lent for its ranges: 16 where these are too few, before all else
unfoldable pub parse_number : List ℕ → ℕ → ℕ
parse_number s lent = fault_unless (leb most_places lent) 16 or_else list_number s

unfoldable pub parse_of : List ℕ → ℕ → Parsed
parse_of s lent = list_answer (parse_number s lent) s

-- the lent places afterwards: the ranges from the first on where the number is 0, else as they were
unfoldable pub range_places : List ℕ → List ℕ → List ℕ
range_places s places = cond (eqb (parse_number s (length places)) 0) (put (ranges_of s) places) places
