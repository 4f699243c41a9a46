-- White space around a value, a member, and a value by itself, as they are written, are read back.
use Prim.Native.Nat.{ℕ, zero, suc, ◌+◌, ◌-◌, ◌≤◌, ◌<◌}
use mathlib.Core.Path.{◌≡◌, refl, ap, sym, subst, ◌∙◌}
use mathlib.Core.Bool.{Bool, true, false, cond}
use mathlib.Core.List.{List, [], ◌∷◌, ◌++◌, append_assoc}
use lib.Dec.{eqb}
use lib.ListN.{length, get_or, drop, length-append}
use lib.Seq.{drop-append_seam, get_or-append_seam, drop-drop}
use native.Mathlib.Omega.{arith}
use borrow.Author.Tests.{eq-eqb, ne_eqb}
use Rattle.spec_base.specs.base.Width.{by_width}
use Rattle.spec_text.specs.pattern.Find.{starts}
use Rattle.spec_text.specs.text.Number.{digit}
use Rattle.spec_json.specs.json.Space.{is_space, spaces, more, joined, padded}
use Rattle.spec_json.specs.json.Str.{string_width}
use Rattle.spec_json.specs.json.Num.{number_width}
use Rattle.spec_json.specs.json.Value.{literal_width, scalar_width, colon_at, key_width, member_width, inside_width, value_width}
use Rattle.spec_json.specs.json.Quote.{quoted, decimal}
use Rattle.spec_json.proofs.json.StringBack.{string_width_lem}
use Rattle.spec_json.proofs.json.NumberBack.{Stops, plain, number_width_lem}

-- ---- white space
abbrev pub AllSpace : List ℕ → Type 0
AllSpace [] = Unit {0}
AllSpace (b ∷ s) = (is_space b ≡ true) × AllSpace s

-- a text that does not begin with white space
abbrev pub Bare : List ℕ → Type 0
Bare r = is_space (get_or r 0 0) ≡ false

none_space : (r : List ℕ) → Bare r → spaces r ≡ 0
unfolding spaces
none_space [] h = refl
none_space (b ∷ r) h = rw h

pub spaces_all : (p r : List ℕ) → AllSpace p → Bare r → spaces (p ++ r) ≡ length p
unfolding spaces
spaces_all [] r a h = none_space r h
spaces_all (b ∷ p) r a h = rw a.0 (ap suc (spaces_all p r a.1 h))

pub bare_first : (v r : List ℕ) (w : ℕ) → length v ≡ suc w → Bare v → Bare (v ++ r)
bare_first [] r w e h = absurd (omega arith)
bare_first (b ∷ v) r w e h = h

-- ---- white space, a value, white space
pub padded_with : (item : List ℕ → ℕ) (s : List ℕ) (a w : ℕ) → spaces s ≡ a → item (drop a s) ≡ suc w → padded item s ≡ a + suc w + spaces (drop (a + suc w) s)
unfolding padded
padded_with item s a w e f =
    subst (λ (x : ℕ). by_width (item (drop x s)) 0 (λ k. x + suc k + spaces (drop (x + suc k) s)) ≡ a + suc w + spaces (drop (a + suc w) s)) (sym e)
    (ap (λ (y : ℕ). by_width y 0 (λ k. a + suc k + spaces (drop (a + suc k) s))) f)

pub padded_back : (item : List ℕ → ℕ) (p v q r : List ℕ) (w : ℕ) → AllSpace p → AllSpace q → Bare v → Bare r → length v ≡ suc w
    → item (v ++ (q ++ r)) ≡ length v → padded item (p ++ (v ++ (q ++ r))) ≡ length p + length v + length q
padded_back item p v q r w a b hv hr e f =
    let s = p ++ (v ++ (q ++ r)) in
    let one : spaces s ≡ length p = spaces_all p (v ++ (q ++ r)) a (bare_first v (q ++ r) w e hv) in
    let two : item (drop (length p) s) ≡ suc w = ap item (drop-append_seam p (v ++ (q ++ r))) ∙ f ∙ e in
    let n : length p + suc w ≡ length p + length v = omega arith in
    let three : drop (length p + suc w) s ≡ q ++ r =
    sym (drop-drop (suc w) (length p) s) ∙ ap (drop (suc w)) (drop-append_seam p (v ++ (q ++ r))) ∙ ap (λ (k : ℕ). drop k (v ++ (q ++ r))) (sym e) ∙ drop-append_seam v (q ++ r) in
    let four : spaces (drop (length p + suc w) s) ≡ length q = ap spaces three ∙ spaces_all q r b hr in
    padded_with item s (length p) w one two ∙ omega arith

-- ---- a key
pub key_with : (s : List ℕ) (a w : ℕ) → spaces s ≡ a → string_width (drop a s) ≡ suc w → key_width s ≡ colon_at s (a + suc w + spaces (drop (a + suc w) s))
unfolding key_width
key_with s a w e f =
    subst (λ (x : ℕ). by_width (string_width (drop x s)) 0 (λ k. colon_at s (x + suc k + spaces (drop (x + suc k) s))) ≡ colon_at s (a + suc w + spaces (drop (a + suc w) s))) (sym e)
    (ap (λ (y : ℕ). by_width y 0 (λ k. colon_at s (a + suc k + spaces (drop (a + suc k) s)))) f)

colon_bare : (r : List ℕ) → Bare (0x3A ∷ r)
unfolding is_space
colon_bare r = refl

pub quote_starts : (s r : List ℕ) → Bare (quoted s ++ r)
unfolding is_space quoted
quote_starts s r = refl

pub quote_bare : (s : List ℕ) → Bare (quoted s)
unfolding is_space quoted
quote_bare s = refl

pub key_back : (p name r : List ℕ) → AllSpace p → key_width (p ++ (quoted name ++ 0x3A ∷ r)) ≡ length p + length (quoted name) + 1
unfolding quoted
key_back p name r a = go (length (quoted name)) refl
  where
    go : (n : ℕ) → length (quoted name) ≡ n → key_width (p ++ (quoted name ++ 0x3A ∷ r)) ≡ length p + length (quoted name) + 1
    go zero e = absurd (omega arith)
    go (suc w) e =
        let s = p ++ (quoted name ++ 0x3A ∷ r) in
        let one : spaces s ≡ length p = spaces_all p (quoted name ++ 0x3A ∷ r) a (bare_first (quoted name) (0x3A ∷ r) w e (quote_bare name)) in
        let two : string_width (drop (length p) s) ≡ suc w = ap string_width (drop-append_seam p (quoted name ++ 0x3A ∷ r)) ∙ string_width_lem name (0x3A ∷ r) ∙ e in
        let three : drop (length p + suc w) s ≡ 0x3A ∷ r =
        sym (drop-drop (suc w) (length p) s) ∙ ap (drop (suc w)) (drop-append_seam p (quoted name ++ 0x3A ∷ r)) ∙ ap (λ (k : ℕ). drop k (quoted name ++ 0x3A ∷ r)) (sym e) ∙ drop-append_seam (quoted name) (0x3A ∷ r) in
        let four : spaces (drop (length p + suc w) s) ≡ 0 = ap spaces three ∙ none_space (0x3A ∷ r) (colon_bare r) in
        let n : length p + suc w + spaces (drop (length p + suc w) s) ≡ length (p ++ quoted name) = omega (arith, length-append p (quoted name)) in
        let five : get_or s (length p + suc w + spaces (drop (length p + suc w) s)) 0 ≡ 0x3A =
        ap (λ (k : ℕ). get_or s k 0) n ∙ ap (λ (l : List ℕ). get_or l (length (p ++ quoted name)) 0) (sym (append_assoc p (quoted name) (0x3A ∷ r))) ∙ get_or-append_seam (p ++ quoted name) 0x3A r 0 in
        key_with s (length p) w one two
        ∙ ap (λ (t : Bool). cond t (suc (length p + suc w + spaces (drop (length p + suc w) s))) 0) (eq-eqb _ 0x3A five)
        ∙ omega (arith, length-append p (quoted name))

-- ---- values: taken whole where no number goes on behind them
pub record IsValue (value : List ℕ → ℕ) (v : List ℕ) : Type 0 where
  pub less : ℕ
  pub size : length v ≡ suc less
  pub bare_value : Bare v
  pub taken : (r : List ℕ) → Stops r → value (v ++ r) ≡ length v

-- a byte that ends a value
pub stop_comma : (r : List ℕ) → Stops (0x2C ∷ r)
unfolding digit
stop_comma r = record { digit_not = refl; point_not = refl; e_not = refl; E-not = refl }

pub stop_lf : (r : List ℕ) → Stops (0x0A ∷ r)
unfolding digit
stop_lf r = record { digit_not = refl; point_not = refl; e_not = refl; E-not = refl }

pub stop_brace : (r : List ℕ) → Stops (0x7D ∷ r)
unfolding digit
stop_brace r = record { digit_not = refl; point_not = refl; e_not = refl; E-not = refl }

pub stop_bracket : (r : List ℕ) → Stops (0x5D ∷ r)
unfolding digit
stop_bracket r = record { digit_not = refl; point_not = refl; e_not = refl; E-not = refl }

pub stop_none : Stops []
unfolding digit
stop_none = record { digit_not = refl; point_not = refl; e_not = refl; E-not = refl }

-- a string
scalar_quote : (s r : List ℕ) → scalar_width (quoted s ++ r) ≡ length (quoted s)
unfolding scalar_width quoted
scalar_quote s r = string_width_lem s r

deep_quote : (d : ℕ) (s r : List ℕ) → value_width d (quoted s ++ r) ≡ scalar_width (quoted s ++ r)
unfolding value_width quoted
deep_quote zero s r = refl
deep_quote (suc d) s r = refl

quoted_size : (s : List ℕ) → length (quoted s) ≡ suc (length (quoted s) - 1)
unfolding quoted
quoted_size s = omega arith

pub string_value : (d : ℕ) (s : List ℕ) → IsValue (value_width d) (quoted s)
string_value d s =
    record { less = length (quoted s) - 1; size = quoted_size s; bare_value = quote_bare s; taken = λ r h. deep_quote d s r ∙ scalar_quote s r }

-- a number
digit_starts : (b : ℕ) (s : List ℕ) → 0x30 ≤ b → b ≤ 0x39 → literal_width (b ∷ s) ≡ 0
unfolding literal_width starts
digit_starts b s l h = rw (ne_eqb 0x74 b (λ e. omega arith), ne_eqb 0x6E b (λ e. omega arith), ne_eqb 0x66 b (λ e. omega arith))

digit_scalar : (b : ℕ) (s : List ℕ) → 0x30 ≤ b → b ≤ 0x39 → scalar_width (b ∷ s) ≡ number_width (b ∷ s)
unfolding scalar_width
digit_scalar b s l h = rw (ne_eqb b 0x22 (λ e. omega arith), digit_starts b s l h)

deep_else : (d b : ℕ) (s : List ℕ) → eqb b 0x5B ≡ false → eqb b 0x7B ≡ false → value_width (suc d) (b ∷ s) ≡ scalar_width (b ∷ s)
unfolding value_width
deep_else d b s e f =
    subst (λ (t : Bool). elim t [ true ↦ more (inside_width (padded (λ t. value_width d t)) 0x5D s) | false ↦ elim (eqb b 0x7B) [ true ↦ more (inside_width (member_width (λ t. value_width d t)) 0x7D s) | false ↦ scalar_width (b ∷ s) ] ] ≡ scalar_width (b ∷ s)) (sym e)
    (subst (λ (t : Bool). elim t [ true ↦ more (inside_width (member_width (λ t. value_width d t)) 0x7D s) | false ↦ scalar_width (b ∷ s) ] ≡ scalar_width (b ∷ s)) (sym f) refl)

digit_deep : (d b : ℕ) (s : List ℕ) → 0x30 ≤ b → b ≤ 0x39 → value_width d (b ∷ s) ≡ scalar_width (b ∷ s)
unfolding value_width
digit_deep zero b s l h = refl
digit_deep (suc d) b s l h = deep_else d b s (ne_eqb b 0x5B (λ e. omega arith)) (ne_eqb b 0x7B (λ e. omega arith))

digit_bare : (b : ℕ) (s : List ℕ) → 0x30 ≤ b → b ≤ 0x39 → Bare (b ∷ s)
unfolding is_space
digit_bare b s l h = rw (ne_eqb b 0x20 (λ e. omega arith), ne_eqb b 0x09 (λ e. omega arith), ne_eqb b 0x0A (λ e. omega arith), ne_eqb b 0x0D (λ e. omega arith))

pub number_value : (d n : ℕ) → IsValue (value_width d) (decimal n)
number_value d n =
    let p = plain n in
    record {
      less = length p.rest;
      size = ap length p.is;
      bare_value = subst Bare (sym p.is) (digit_bare p.head p.rest p.low p.high);
      taken =
          λ r h.
          subst (λ (l : List ℕ). value_width d (l ++ r) ≡ number_width (l ++ r)) (sym p.is)
          (digit_deep d p.head (p.rest ++ r) p.low p.high ∙ digit_scalar p.head (p.rest ++ r) p.low p.high)
          ∙ number_width_lem n r h;
    }

-- ---- a member as it is written: white space p, the name, a colon, a space, the value, white space q
abbrev pub member_text : (p name v q : List ℕ) → List ℕ
member_text p name v q = p ++ (quoted name ++ 0x3A ∷ (0x20 ∷ (v ++ q)))

-- the white space behind a value: nothing, or a line end and more
pub data Ends : List ℕ → Type 0 where
  ends_none : Ends []
  ends_lf : {w : List ℕ} → AllSpace w → Ends (0x0A ∷ w)

pub ends_space : {q : List ℕ} → Ends q → AllSpace q
unfolding is_space
ends_space ends_none = tt
ends_space (ends_lf a) = (refl, a)

pub ends_stop : {q : List ℕ} (r : List ℕ) → Ends q → Stops r → Stops (q ++ r)
ends_stop r ends_none h = h
ends_stop r (ends_lf {w = w} a) h = stop_lf (w ++ r)

pub space_one : AllSpace (0x20 ∷ [])
unfolding is_space
space_one = (refl, tt)

member_with : (value : List ℕ → ℕ) (s : List ℕ) (k : ℕ) → key_width s ≡ suc k → member_width value s ≡ joined (suc k) (padded value (drop (suc k) s))
unfolding member_width
member_with value s k e = ap (λ (y : ℕ). by_width y 0 (λ k. joined (suc k) (padded value (drop (suc k) s)))) e

-- the text behind the colon
pub behind_colon : (p name t : List ℕ) (k : ℕ) → length p + length (quoted name) + 1 ≡ suc k → drop (suc k) (p ++ (quoted name ++ 0x3A ∷ t)) ≡ t
behind_colon p name t k e =
    let n : suc k ≡ length ((p ++ quoted name) ++ 0x3A ∷ []) = omega (arith, length-append (p ++ quoted name) (0x3A ∷ []), length-append p (quoted name)) in
    ap (λ (i : ℕ). drop i (p ++ (quoted name ++ 0x3A ∷ t))) n
    ∙ ap (drop (length ((p ++ quoted name) ++ 0x3A ∷ []))) (sym (append_assoc p (quoted name) (0x3A ∷ t)) ∙ sym (append_assoc (p ++ quoted name) (0x3A ∷ []) t))
    ∙ drop-append_seam ((p ++ quoted name) ++ 0x3A ∷ []) t

joined_some : (a b : ℕ) → 0 < b → joined a b ≡ a + b
joined_some a zero h = absurd (omega arith)
joined_some a (suc b) h = refl

regroup : (p name v q r : List ℕ) → member_text p name v q ++ r ≡ p ++ (quoted name ++ 0x3A ∷ (0x20 ∷ (v ++ (q ++ r))))
regroup p name v q r = simp append_assoc

pub member_size : (p name v q : List ℕ) → length (member_text p name v q) ≡ length p + length (quoted name) + 2 + length v + length q
member_size p name v q = simp length-append (omega arith)

pub member_back : (value : List ℕ → ℕ) (p name v q r : List ℕ) → AllSpace p → Ends q → IsValue value v → Bare r → Stops r
    → member_width value (member_text p name v q ++ r) ≡ length (member_text p name v q)
member_back value p name v q r a b f hr hs =
    let k = length p + length (quoted name) in
    let t : List ℕ = 0x20 ∷ (v ++ (q ++ r)) in
    let e : length p + length (quoted name) + 1 ≡ suc k = omega arith in
    let pad-is : padded value t ≡ 1 + length v + length q =
    padded_back value (0x20 ∷ []) v q r f.less space_one (ends_space b) f.bare_value hr f.size (f.taken (q ++ r) (ends_stop r b hs)) in
    ap (member_width value) (regroup p name v q r)
    ∙ member_with value (p ++ (quoted name ++ 0x3A ∷ t)) k (key_back p name t a ∙ e)
    ∙ ap (λ (l : List ℕ). joined (suc k) (padded value l)) (behind_colon p name t k e)
    ∙ ap (joined (suc k)) pad-is
    ∙ joined_some (suc k) (1 + length v + length q) (omega arith)
    ∙ omega (arith, member_size p name v q)
