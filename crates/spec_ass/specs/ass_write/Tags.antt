-- The override tags whose times are relative to a caption's start.
use Rattle.std.specs.Prelude.{Bool, true, false, cond, List, [], ◌∷◌, ℕ}
use Rattle.spec_text.specs.pattern.Find.{contains}

-- `\move(`, `\t(`, `\fad(`, `\fade(`, `\k`
abbrev pub tags : List (List ℕ)
tags =
    (92 ∷ 109 ∷ 111 ∷ 118 ∷ 101 ∷ 40 ∷ [])
    ∷ (92 ∷ 116 ∷ 40 ∷ [])
    ∷ (92 ∷ 102 ∷ 97 ∷ 100 ∷ 40 ∷ [])
    ∷ (92 ∷ 102 ∷ 97 ∷ 100 ∷ 101 ∷ 40 ∷ [])
    ∷ (92 ∷ 107 ∷ [])
    ∷ []

-- one of ts stands somewhere in s
unfoldable pub holds_any : List (List ℕ) → List ℕ → Bool
holds_any [] s = false
holds_any (t ∷ ts) s = cond (contains t s) true (holds_any ts s)

abbrev pub tagged : List ℕ → Bool
tagged s = holds_any tags s
