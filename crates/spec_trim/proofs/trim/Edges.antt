-- The limits of a list from both sides, by document 01's numbers: 65,536 bytes and 1,024 trims (7), 2,048 places (16).
use mathlib.Core.Path.{◌≡◌, refl, ap, ◌∙◌}
use mathlib.Core.List.{List, [], ◌∷◌}
use Prim.Native.Nat.{ℕ, zero, suc, ◌≤◌, ◌<◌}
use native.Mathlib.Omega.{arith}
use borrow.Author.Tests.{le-leb, lt-leb}
use lib.Dec.{leb}
use lib.ListN.{length, take}
use Rattle.spec_base.specs.base.Refusal.{◌or_else◌, fault_unless}
use Rattle.spec_base.proofs.base.RefusalLaws.{else_none, unless_held}
use Rattle.spec_base.proofs.base.RefusalNumbers.{else_numbers, unless_numbers}
use Rattle.spec_text.specs.utf8.Utf8.{utf8}
use Rattle.spec_trim.specs.trim.Token.{step_of, token_number, token_end}
use Rattle.spec_trim.specs.trim.TrimList.{list_tokens, tokens_number, head_number, list_number, parse_number}

-- ---- bytes
Not7 : ℕ → Type 0
Not7 n = n ≡ 7 → ⊥

pub bytes_65536 : (s : List ℕ) → length s ≡ 65536 → head_number s ≡ 7 → ⊥
unfolding head_number Not7
bytes_65536 s h =
    let k : fault_unless (leb (length s) 65536) 7 ≡ 0 = unless_held 7 (le-leb (length s) 65536 (omega arith)) in
    else_numbers Not7 _ _ (λ e. omega arith) (unless_numbers Not7 (λ e. omega arith) (utf8 s) 20 (λ e. omega arith))

pub bytes_65537 : (s : List ℕ) → length s ≡ 65537 → list_number s ≡ 7
unfolding list_number head_number ◌or_else◌ fault_unless
bytes_65537 s h = rw (lt-leb (length s) 65536 (omega arith))

-- ---- trims: the tokens' own numbers, however many there are
unfoldable pub own_number : ℕ → List (List ℕ) → ℕ
own_number prev [] = 0
own_number prev (t ∷ ts) = token_number (step_of prev t) or_else own_number (token_end (step_of prev t)) ts

own_few : (left prev : ℕ) (ts : List (List ℕ)) → length ts ≤ left → tokens_number left prev ts ≡ own_number prev ts
unfolding tokens_number own_number
own_few zero prev [] h = refl
own_few (suc left) prev [] h = refl
own_few zero prev (t ∷ ts) h = absurd (omega arith)
own_few (suc left) prev (t ∷ ts) h = ap (λ (n : ℕ). token_number (step_of prev t) or_else n) (own_few left (token_end (step_of prev t)) ts (omega arith))

else_assoc : (a b c : ℕ) → a or_else (b or_else c) ≡ (a or_else b) or_else c
unfolding ◌or_else◌
else_assoc zero b c = refl
else_assoc (suc a) b c = refl

own_many : (left prev : ℕ) (ts : List (List ℕ)) → left < length ts → tokens_number left prev ts ≡ own_number prev (take left ts) or_else 7
unfolding tokens_number own_number ◌or_else◌
own_many left prev [] h = absurd (omega arith)
own_many zero prev (t ∷ ts) h = refl
own_many (suc left) prev (t ∷ ts) h =
    ap (λ (n : ℕ). token_number (step_of prev t) or_else n) (own_many left (token_end (step_of prev t)) ts (omega arith))
    ∙ else_assoc (token_number (step_of prev t)) (own_number (token_end (step_of prev t)) (take left ts)) 7

-- 1,024 trims have their own numbers, and no other
pub trims_1024 : (s : List ℕ) → length (list_tokens s) ≡ 1024 → head_number s ≡ 0 → list_number s ≡ own_number 0 (list_tokens s)
unfolding list_number
trims_1024 s h z = else_none _ z ∙ own_few 1024 0 (list_tokens s) (omega arith)

-- with one more the list is 7 at the latest
pub trims_1025 : (s : List ℕ) → length (list_tokens s) ≡ 1025 → head_number s ≡ 0 → list_number s ≡ own_number 0 (take 1024 (list_tokens s)) or_else 7
unfolding list_number
trims_1025 s h z = else_none _ z ∙ own_many 1024 0 (list_tokens s) (omega arith)

-- ---- lent places
pub places_2048 : (s : List ℕ) → parse_number s 2048 ≡ list_number s
unfolding parse_number
places_2048 s = else_none _ (unless_held 16 (le-leb 2048 2048 (omega arith)))

pub places_2047 : (s : List ℕ) → parse_number s 2047 ≡ 16
unfolding parse_number fault_unless ◌or_else◌
places_2047 s = refl
