-- `specs/Utf8.antt` takes nothing else: where a character stands at the head of a list, the list begins with the encoding of the scalar value that
-- `code_head` reads. So a list is UTF-8 exactly where it is a row of encodings.
use mathlib.Core.Path.{◌≡◌, refl, sym, ap, subst, ◌∙◌}
use mathlib.Core.Bool.{Bool, true, false}
use mathlib.Core.List.{List, [], ◌∷◌, ◌++◌}
use Prim.Native.Nat.{ℕ, zero, suc, ◌+◌, ◌*◌, ◌-◌, ◌/◌, ◌%◌, ◌≤◌, ◌<◌}
use native.Mathlib.Nat.{not-suc-le-zero, le_refl}
use native.Mathlib.Omega.{arith}
use borrow.Author.Tests.{eq-eqb, ne_eqb, ltb-true, ltb-false, eqb-true, eqb-false}
use lib.Dec.{eqb, ltb}
use lib.ListN.{length, drop, get_or}
use mathlib.Core.Bool.{cond}
use Rattle.spec_text.specs.utf8.Utf8.{lead_len, second_low, second_high, tail, width_by, char_width, utf8, code_by, code_head}
use Rattle.spec_text.specs.unicode.Encode.{encode, Scalar, encode_all, Scalars, none, more}
use Rattle.spec_base.proofs.base.Laws.{yes!, no!, drop_less}
use Rattle.spec_text.proofs.utf8.Laws.{utf8_end, utf8_bad, utf8_step}
use Rattle.spec_text.proofs.unicode.Encoding.{utf8_encoded}
use Rattle.spec_text.proofs.unicode.Trailing.{enc_1, enc_2, enc_3, enc_4}
use Rattle.spec_text.proofs.whitespace.LastBytes.{low_least, high_most}

-- what the bytes of a character of width w are known to be
data Form : ℕ → ℕ → ℕ → ℕ → ℕ → Type 0 where
  form1 : {a b c d : ℕ} → a < 0x80 → Form a b c d 1
  form2 : {a b c d : ℕ} → 0xC2 ≤ a → a < 0xE0 → second_low a ≤ b → b ≤ second_high a → Form a b c d 2
  form3 : {a b c d : ℕ} → 0xE0 ≤ a → a < 0xF0 → second_low a ≤ b → b ≤ second_high a → tail c ≡ true → Form a b c d 3
  form4 : {a b c d : ℕ} → 0xF0 ≤ a → a < 0xF5 → second_low a ≤ b → b ≤ second_high a → tail c ≡ true → tail d ≡ true → Form a b c d 4

module _ (a b c d : ℕ) where
  by_2 : 0xC2 ≤ a → a < 0xE0 → (w : ℕ) (y z : Bool) → ltb b (second_low a) ≡ y → ltb (second_high a) b ≡ z → cond y 0 (cond z 0 2) ≡ w → (w ≡ 0 → ⊥) → Form a b c d w
  by_2 l h w true z e f q n = absurd (n (sym q))
  by_2 l h w false true e f q n = absurd (n (sym q))
  by_2 l h w false false e f q n = subst (Form a b c d) q (form2 l h (ltb-false _ _ e) (ltb-false _ _ f))

  by_3 : 0xE0 ≤ a → a < 0xF0 → (w : ℕ) (y z t : Bool) → ltb b (second_low a) ≡ y → ltb (second_high a) b ≡ z → tail c ≡ t → cond y 0 (cond z 0 (cond t 3 0)) ≡ w → (w ≡ 0 → ⊥) → Form a b c d w
  by_3 l h w true z t e f g q n = absurd (n (sym q))
  by_3 l h w false true t e f g q n = absurd (n (sym q))
  by_3 l h w false false false e f g q n = absurd (n (sym q))
  by_3 l h w false false true e f g q n = subst (Form a b c d) q (form3 l h (ltb-false _ _ e) (ltb-false _ _ f) g)

  by_4 : 0xF0 ≤ a → a < 0xF5 → (w : ℕ) (y z t v : Bool) → ltb b (second_low a) ≡ y → ltb (second_high a) b ≡ z → tail c ≡ t → tail d ≡ v → cond y 0 (cond z 0 (cond t (cond v 4 0) 0)) ≡ w → (w ≡ 0 → ⊥) → Form a b c d w
  by_4 l h w true z t v e f g i q n = absurd (n (sym q))
  by_4 l h w false true t v e f g i q n = absurd (n (sym q))
  by_4 l h w false false false v e f g i q n = absurd (n (sym q))
  by_4 l h w false false true false e f g i q n = absurd (n (sym q))
  by_4 l h w false false true true e f g i q n = subst (Form a b c d) q (form4 l h (ltb-false _ _ e) (ltb-false _ _ f) g i)

  by_lead : (w : ℕ) (x₁ x₂ x₃ x₄ x₅ : Bool) → ltb a 0x80 ≡ x₁ → ltb a 0xC2 ≡ x₂ → ltb a 0xE0 ≡ x₃ → ltb a 0xF0 ≡ x₄ → ltb a 0xF5 ≡ x₅
      → width_by (cond x₁ 1 (cond x₂ 0 (cond x₃ 2 (cond x₄ 3 (cond x₅ 4 0))))) a b c d ≡ w → (w ≡ 0 → ⊥) → Form a b c d w
  unfolding width_by
  by_lead w true x₂ x₃ x₄ x₅ e₁ e₂ e₃ e₄ e₅ q n = subst (Form a b c d) q (form1 (ltb-true _ _ e₁))
  by_lead w false true x₃ x₄ x₅ e₁ e₂ e₃ e₄ e₅ q n = absurd (n (sym q))
  by_lead w false false true x₄ x₅ e₁ e₂ e₃ e₄ e₅ q n = by_2 (ltb-false _ _ e₂) (ltb-true _ _ e₃) w (ltb b (second_low a)) (ltb (second_high a) b) refl refl q n
  by_lead w false false false true x₅ e₁ e₂ e₃ e₄ e₅ q n = by_3 (ltb-false _ _ e₃) (ltb-true _ _ e₄) w (ltb b (second_low a)) (ltb (second_high a) b) (tail c) refl refl refl q n
  by_lead w false false false false true e₁ e₂ e₃ e₄ e₅ q n = by_4 (ltb-false _ _ e₄) (ltb-true _ _ e₅) w (ltb b (second_low a)) (ltb (second_high a) b) (tail c) (tail d) refl refl refl refl q n
  by_lead w false false false false false e₁ e₂ e₃ e₄ e₅ q n = absurd (n (sym q))

  shape : (w : ℕ) → width_by (lead_len a) a b c d ≡ w → (w ≡ 0 → ⊥) → Form a b c d w
  unfolding lead_len
  shape w q n = by_lead w (ltb a 0x80) (ltb a 0xC2) (ltb a 0xE0) (ltb a 0xF0) (ltb a 0xF5) refl refl refl refl refl q n

-- ---- what the tests say in numbers
tail_low : (c : ℕ) → tail c ≡ true → 0x80 ≤ c
unfolding tail
tail_low c e = go (ltb c 0x80) refl e
  where
    go : (x : Bool) → ltb c 0x80 ≡ x → cond x false (ltb c 0xC0) ≡ true → 0x80 ≤ c
    go true f e = let z : ◌≡◌ {A = ℕ} 0 1 = ap (λ (t : Bool). cond t 1 0) e in absurd (omega arith)
    go false f e = ltb-false _ _ f

tail_high : (c : ℕ) → tail c ≡ true → c ≤ 0xBF
unfolding tail
tail_high c e = go (ltb c 0x80) refl e
  where
    go : (x : Bool) → ltb c 0x80 ≡ x → cond x false (ltb c 0xC0) ≡ true → c ≤ 0xBF
    go true f e = let z : ◌≡◌ {A = ℕ} 0 1 = ap (λ (t : Bool). cond t 1 0) e in absurd (omega arith)
    go false f e = omega (arith, ltb-true c 0xC0 e)

low_at_lem : (a b : ℕ) → second_low a ≤ b → (a ≡ 0xE0 → 0xA0 ≤ b) × (a ≡ 0xF0 → 0x90 ≤ b)
unfolding second_low
low_at_lem a b h = (λ e. subst (λ (n : ℕ). n ≤ b) (sym (yes! _ (eq-eqb a 0xE0 e) refl)) h, λ e. subst (λ (n : ℕ). n ≤ b) (sym (no! _ (ne_eqb a 0xE0 (λ f. omega arith)) (yes! _ (eq-eqb a 0xF0 e) refl))) h)

high_at_lem : (a b : ℕ) → b ≤ second_high a → (a ≡ 0xED → b ≤ 0x9F) × (a ≡ 0xF4 → b ≤ 0x8F)
unfolding second_high
high_at_lem a b h = (λ e. subst (λ (n : ℕ). b ≤ n) (sym (yes! _ (eq-eqb a 0xED e) refl)) h, λ e. subst (λ (n : ℕ). b ≤ n) (sym (no! _ (ne_eqb a 0xED (λ f. omega arith)) (yes! _ (eq-eqb a 0xF4 e) refl))) h)

below : (b x y : ℕ) → 0x80 ≤ x → x ≤ b → b ≤ y → y ≤ 0xBF → (0x80 ≤ b) × (b ≤ 0xBF)
below b x y h i j k = omega arith

bits_6 : (b : ℕ) → 0x80 ≤ b → b ≤ 0xBF → b % 64 ≡ b - 0x80
bits_6 b l h = omega arith

bits_5 : (a : ℕ) → 0xC2 ≤ a → a < 0xE0 → a % 32 ≡ a - 0xC0
bits_5 a l h = omega arith

bits_4 : (a : ℕ) → 0xE0 ≤ a → a < 0xF0 → a % 16 ≡ a - 0xE0
bits_4 a l h = omega arith

bits_3 : (a : ℕ) → 0xF0 ≤ a → a < 0xF5 → a % 8 ≡ a - 0xF0
bits_3 a l h = omega arith

-- ---- the value, and the bytes back from it
two_low : (a b u : ℕ) → 0xC2 ≤ a → a < 0xE0 → 0x80 ≤ b → b ≤ 0xBF → u ≡ (a - 0xC0) * 64 + (b - 0x80) → (0x80 ≤ u) × (u < 0x800) × (0xC0 + u / 64 ≡ a) × (0x80 + u % 64 ≡ b)
two_low a b u l h i j e = omega arith

three_size : (a b c u : ℕ) → 0xE0 ≤ a → a < 0xF0 → 0x80 ≤ b → b ≤ 0xBF → 0x80 ≤ c → c ≤ 0xBF → u ≡ (a - 0xE0) * 4096 + (b - 0x80) * 64 + (c - 0x80) → (u < 0x10000) × (0xE0 + u / 4096 ≡ a) × (0x80 + u % 64 ≡ c)
three_size a b c u l h i j k m e = omega arith

three_mid : (a b c u : ℕ) → 0xE0 ≤ a → a < 0xF0 → 0x80 ≤ b → b ≤ 0xBF → 0x80 ≤ c → c ≤ 0xBF → u ≡ (a - 0xE0) * 4096 + (b - 0x80) * 64 + (c - 0x80) → 0x80 + u / 64 % 64 ≡ b
three_mid a b c u l h i j k m e =
    let p : u / 64 ≡ (a - 0xE0) * 64 + (b - 0x80) = omega arith in
    omega arith

three_least : (a b c u : ℕ) → 0xE0 ≤ a → 0x80 ≤ b → u ≡ (a - 0xE0) * 4096 + (b - 0x80) * 64 + (c - 0x80) → (a ≡ 0xE0 → 0xA0 ≤ b) → 0x800 ≤ u
three_least a b c u l i e p = go (eqb a 0xE0) refl
  where
    go : (x : Bool) → eqb a 0xE0 ≡ x → 0x800 ≤ u
    go true f = omega (arith, p (eqb-true _ _ f), eqb-true a 0xE0 f)
    go false f = omega (arith, eqb-false a 0xE0 f)

three_plain : (a b c u : ℕ) → 0xE0 + u / 4096 ≡ a → 0x80 + u / 64 % 64 ≡ b → (a ≡ 0xED → b ≤ 0x9F) → 0xD800 ≤ u → u < 0xE000 → ⊥
three_plain a b c u e f p l h =
    let q : a ≡ 0xED = omega arith in
    let r : b ≤ 0x9F = p q in
    omega arith

four_low : (b c d v : ℕ) → 0x80 ≤ b → b ≤ 0xBF → 0x80 ≤ c → c ≤ 0xBF → 0x80 ≤ d → d ≤ 0xBF → v ≡ (b - 0x80) * 4096 + (c - 0x80) * 64 + (d - 0x80) → v < 262144
four_low b c d v i j k m n o e = omega arith

four_top : (a u v : ℕ) → 0xF0 ≤ a → v < 262144 → u ≡ (a - 0xF0) * 262144 + v → (0xF0 + u / 262144 ≡ a) × (u % 262144 ≡ v)
four_top a u v l h e = omega arith

mod_12 : (u : ℕ) → u / 4096 % 64 ≡ u % 262144 / 4096
mod_12 u = omega arith

mod_6 : (u : ℕ) → u / 64 % 64 ≡ u % 262144 / 64 % 64
mod_6 u = let p : u / 64 ≡ u / 262144 * 4096 + u % 262144 / 64 = omega arith in omega arith

mod_0 : (u : ℕ) → u % 64 ≡ u % 262144 % 64
mod_0 u = omega arith

four_rest : (b c d v : ℕ) → 0x80 ≤ b → b ≤ 0xBF → 0x80 ≤ c → c ≤ 0xBF → 0x80 ≤ d → d ≤ 0xBF → v ≡ (b - 0x80) * 4096 + (c - 0x80) * 64 + (d - 0x80) → (0x80 + v / 4096 ≡ b) × (0x80 + v % 64 ≡ d)
four_rest b c d v i j k m n o e = omega arith

four_mid : (b c d v : ℕ) → 0x80 ≤ b → b ≤ 0xBF → 0x80 ≤ c → c ≤ 0xBF → 0x80 ≤ d → d ≤ 0xBF → v ≡ (b - 0x80) * 4096 + (c - 0x80) * 64 + (d - 0x80) → 0x80 + v / 64 % 64 ≡ c
four_mid b c d v i j k m n o e =
    let p : v / 64 ≡ (b - 0x80) * 64 + (c - 0x80) = omega arith in
    omega arith

four_least : (a b u v : ℕ) → 0xF0 ≤ a → 0x80 ≤ b → u ≡ (a - 0xF0) * 262144 + v → (b - 0x80) * 4096 ≤ v → (a ≡ 0xF0 → 0x90 ≤ b) → 0x10000 ≤ u
four_least a b u v l i e h p = go (eqb a 0xF0) refl
  where
    go : (x : Bool) → eqb a 0xF0 ≡ x → 0x10000 ≤ u
    go true f = omega (arith, p (eqb-true _ _ f), eqb-true a 0xF0 f)
    go false f = omega (arith, eqb-false a 0xF0 f)

four_most : (a b u v : ℕ) → 0xF0 ≤ a → a < 0xF5 → 0x80 ≤ b → u ≡ (a - 0xF0) * 262144 + v → v < (b - 0x80) * 4096 + 4096 → v < 262144 → (a ≡ 0xF4 → b ≤ 0x8F) → u < 0x110000
four_most a b u v l m i e h k p = go (eqb a 0xF4) refl
  where
    go : (x : Bool) → eqb a 0xF4 ≡ x → u < 0x110000
    go true f = omega (arith, p (eqb-true _ _ f), eqb-true a 0xF4 f)
    go false f = omega (arith, eqb-false a 0xF4 f)

-- ---- what is claimed of a list with a character of width w at its head, whose bytes are a b c d
abbrev Claim : ℕ → ℕ → ℕ → ℕ → ℕ → List ℕ → Type 0
Claim w a b c d s = (Scalar (code_by w a b c d)) × (s ≡ encode (code_by w a b c d) ++ drop w s)

claim_1 : (a : ℕ) (r : List ℕ) (b c d : ℕ) → a < 0x80 → Claim 1 a b c d (a ∷ r)
unfolding code_by
claim_1 a r b c d h = (record { below = omega arith; plain = λ l m. omega arith }, ap (λ (e : List ℕ). e ++ r) (enc_1 a h))

claim_2 : (a b : ℕ) (r : List ℕ) (c d : ℕ) → 0xC2 ≤ a → a < 0xE0 → 0x80 ≤ b → b ≤ 0xBF → Claim 2 a b c d (a ∷ b ∷ r)
unfolding code_by
claim_2 a b r c d l h i j = go (a % 32 * 64 + b % 64) (rw (bits_5 a l h, bits_6 b i j) refl)
  where
    go : (u : ℕ) → u ≡ (a - 0xC0) * 64 + (b - 0x80) → (Scalar u) × (a ∷ b ∷ r ≡ encode u ++ r)
    go u e =
        let t = two_low a b u l h i j e in (
          record { below = omega arith; plain = λ l m. omega arith },
          ap (λ (x : ℕ). x ∷ b ∷ r) (sym t.2) ∙ ap (λ (y : ℕ). (0xC0 + u / 64) ∷ y ∷ r) (sym t.3) ∙ ap (λ (e : List ℕ). e ++ r) (enc_2 u t.0 t.1),
        )

claim_3 : (a b c : ℕ) (r : List ℕ) (d : ℕ) → 0xE0 ≤ a → a < 0xF0 → 0x80 ≤ b → b ≤ 0xBF → (a ≡ 0xE0 → 0xA0 ≤ b) → (a ≡ 0xED → b ≤ 0x9F) → 0x80 ≤ c → c ≤ 0xBF → Claim 3 a b c d (a ∷ b ∷ c ∷ r)
unfolding code_by
claim_3 a b c r d l h i j p q k m = go (a % 16 * 4096 + b % 64 * 64 + c % 64) (rw (bits_4 a l h, bits_6 b i j, bits_6 c k m) refl)
  where
    go : (u : ℕ) → u ≡ (a - 0xE0) * 4096 + (b - 0x80) * 64 + (c - 0x80) → (Scalar u) × (a ∷ b ∷ c ∷ r ≡ encode u ++ r)
    go u e =
        let t = three_size a b c u l h i j k m e in
        let s = three_mid a b c u l h i j k m e in (
          record { below = omega arith; plain = three_plain a b c u t.1 s q },
          ap (λ (x : ℕ). x ∷ b ∷ c ∷ r) (sym t.1) ∙ ap (λ (y : ℕ). (0xE0 + u / 4096) ∷ y ∷ c ∷ r) (sym s) ∙ ap (λ (z : ℕ). (0xE0 + u / 4096) ∷ (0x80 + u / 64 % 64) ∷ z ∷ r) (sym t.2)
              ∙ ap (λ (e : List ℕ). e ++ r) (enc_3 u (three_least a b c u l i e p) t.0),
        )

claim_4 : (a b c d : ℕ) (r : List ℕ) → 0xF0 ≤ a → a < 0xF5 → 0x80 ≤ b → b ≤ 0xBF → (a ≡ 0xF0 → 0x90 ≤ b) → (a ≡ 0xF4 → b ≤ 0x8F) → 0x80 ≤ c → c ≤ 0xBF → 0x80 ≤ d → d ≤ 0xBF → Claim 4 a b c d (a ∷ b ∷ c ∷ d ∷ r)
unfolding code_by
claim_4 a b c d r l h i j p q k m n o = go (a % 8 * 262144 + b % 64 * 4096 + c % 64 * 64 + d % 64) ((b - 0x80) * 4096 + (c - 0x80) * 64 + (d - 0x80)) refl (rw (bits_3 a l h, bits_6 b i j, bits_6 c k m, bits_6 d n o) (omega arith))
  where
    go : (u v : ℕ) → v ≡ (b - 0x80) * 4096 + (c - 0x80) * 64 + (d - 0x80) → u ≡ (a - 0xF0) * 262144 + v → (Scalar u) × (a ∷ b ∷ c ∷ d ∷ r ≡ encode u ++ r)
    go u v f e =
        let z = four_low b c d v i j k m n o f in
        let t = four_top a u v l z e in
        let s = four_rest b c d v i j k m n o f in
        let y = four_mid b c d v i j k m n o f in
        let x1 : 0x80 + u / 4096 % 64 ≡ b = ap (λ (x : ℕ). 0x80 + x) (mod_12 u ∙ ap (λ (x : ℕ). x / 4096) t.1) ∙ s.0 in
        let x2 : 0x80 + u / 64 % 64 ≡ c = ap (λ (x : ℕ). 0x80 + x) (mod_6 u ∙ ap (λ (x : ℕ). x / 64 % 64) t.1) ∙ y in
        let x3 : 0x80 + u % 64 ≡ d = ap (λ (x : ℕ). 0x80 + x) (mod_0 u ∙ ap (λ (x : ℕ). x % 64) t.1) ∙ s.1 in
        let w : 0x10000 ≤ u = four_least a b u v l i e (omega arith) p in (
          record { below = four_most a b u v l h i e (omega arith) z q; plain = λ l m. omega arith },
          ap (λ (x : ℕ). x ∷ b ∷ c ∷ d ∷ r) (sym t.0) ∙ ap (λ (x : ℕ). (0xF0 + u / 262144) ∷ x ∷ c ∷ d ∷ r) (sym x1) ∙ ap (λ (x : ℕ). (0xF0 + u / 262144) ∷ (0x80 + u / 4096 % 64) ∷ x ∷ d ∷ r) (sym x2)
              ∙ ap (λ (x : ℕ). (0xF0 + u / 262144) ∷ (0x80 + u / 4096 % 64) ∷ (0x80 + u / 64 % 64) ∷ x ∷ r) (sym x3)
              ∙ ap (λ (e : List ℕ). e ++ r) (enc_4 u w),
        )

-- the second byte of a character is 80 to BF
second : (a b : ℕ) → second_low a ≤ b → b ≤ second_high a → (0x80 ≤ b) × (b ≤ 0xBF)
second a b p q = below b (second_low a) (second_high a) (low_least a) p q (high_most a)

by_shape : {a b c d w : ℕ} → Form a b c d w → (s : List ℕ) → 0 < length s → get_or s 0 0 ≡ a → get_or s 1 0 ≡ b → get_or s 2 0 ≡ c → get_or s 3 0 ≡ d → Claim w a b c d s
by_shape (form1 h) [] l ea eb ec ed = absurd (not-suc-le-zero l)
by_shape {a} {b} {c} {d} (form1 h) (x ∷ r) l ea eb ec ed = subst (λ (y : ℕ). Claim 1 a b c d (y ∷ r)) (sym ea) (claim_1 a r b c d h)
by_shape (form2 h i p q) [] l ea eb ec ed = absurd (not-suc-le-zero l)
by_shape {a} {b} (form2 h i p q) (x ∷ []) l ea eb ec ed = let t = second a b p q in absurd (omega arith)
by_shape {a} {b} {c} {d} (form2 h i p q) (x ∷ y ∷ r) l ea eb ec ed =
    let t = second a b p q in
    subst (λ (v : ℕ). Claim 2 a b c d (v ∷ y ∷ r)) (sym ea) (subst (λ (v : ℕ). Claim 2 a b c d (a ∷ v ∷ r)) (sym eb) (claim_2 a b r c d h i t.0 t.1))
by_shape (form3 h i p q t) [] l ea eb ec ed = absurd (not-suc-le-zero l)
by_shape {a} {b} (form3 h i p q t) (x ∷ []) l ea eb ec ed = let t = second a b p q in absurd (omega arith)
by_shape {a} {b} {c} (form3 h i p q t) (x ∷ y ∷ []) l ea eb ec ed = let z = tail_low c t in absurd (omega arith)
by_shape {a} {b} {c} {d} (form3 h i p q t) (x ∷ y ∷ z ∷ r) l ea eb ec ed =
    let s = second a b p q in
    subst (λ (v : ℕ). Claim 3 a b c d (v ∷ y ∷ z ∷ r)) (sym ea) (subst (λ (v : ℕ). Claim 3 a b c d (a ∷ v ∷ z ∷ r)) (sym eb) (subst (λ (v : ℕ). Claim 3 a b c d (a ∷ b ∷ v ∷ r)) (sym ec)
    (claim_3 a b c r d h i s.0 s.1 (low_at_lem a b p).0 (high_at_lem a b q).0 (tail_low c t) (tail_high c t))))
by_shape (form4 h i p q t u) [] l ea eb ec ed = absurd (not-suc-le-zero l)
by_shape {a} {b} (form4 h i p q t u) (x ∷ []) l ea eb ec ed = let t = second a b p q in absurd (omega arith)
by_shape {a} {b} {c} (form4 h i p q t u) (x ∷ y ∷ []) l ea eb ec ed = let z = tail_low c t in absurd (omega arith)
by_shape {a} {b} {c} {d} (form4 h i p q t u) (x ∷ y ∷ z ∷ []) l ea eb ec ed = let z = tail_low d u in absurd (omega arith)
by_shape {a} {b} {c} {d} (form4 h i p q t u) (x ∷ y ∷ z ∷ k ∷ r) l ea eb ec ed =
    let s = second a b p q in
    subst (λ (v : ℕ). Claim 4 a b c d (v ∷ y ∷ z ∷ k ∷ r)) (sym ea) (subst (λ (v : ℕ). Claim 4 a b c d (a ∷ v ∷ z ∷ k ∷ r)) (sym eb) (subst (λ (v : ℕ). Claim 4 a b c d (a ∷ b ∷ v ∷ k ∷ r)) (sym ec) (subst (λ (v : ℕ). Claim 4 a b c d (a ∷ b ∷ c ∷ v ∷ r)) (sym ed)
    (claim_4 a b c d r h i s.0 s.1 (low_at_lem a b p).1 (high_at_lem a b q).1 (tail_low c t) (tail_high c t) (tail_low d u) (tail_high d u)))))

-- a character at the head of a list is the encoding of the scalar value that it reads as
pub decoded : (s : List ℕ) → 0 < length s → (char_width s ≡ 0 → ⊥) → (Scalar (code_head s)) × (s ≡ encode (code_head s) ++ drop (char_width s) s)
unfolding char_width code_head
decoded s l n = by_shape (shape (get_or s 0 0) (get_or s 1 0) (get_or s 2 0) (get_or s 3 0) (char_width s) refl n) s l refl refl refl refl

-- ---- UTF-8 is exactly the rows of encodings
pub all_taken : (us : List ℕ) → Scalars us → utf8 (encode_all us) ≡ true
unfolding encode_all
all_taken us none = sym (utf8_end [] (omega arith))
all_taken us (more {u = u} {us = vs} k r) = utf8_encoded u k (encode_all vs) ∙ all_taken vs r

abbrev pub Row : List ℕ → Type 0
Row s = (us : List ℕ) × Scalars us × (s ≡ encode_all us)

row_step : (n : ℕ) → ((s : List ℕ) → length s ≤ n → utf8 s ≡ true → Row s) → (s : List ℕ) → length s ≤ suc n → utf8 s ≡ true → Row s
unfolding encode_all
row_step n ih [] h e = ([], none, refl)
row_step n ih (b ∷ r) h e =
    let k : char_width (b ∷ r) ≡ 0 → ⊥ = λ z. let f : ◌≡◌ {A = ℕ} 0 1 = ap (λ (t : Bool). cond t 1 0) (utf8_bad (b ∷ r) (char_width (b ∷ r)) (omega arith) refl z ∙ e) in omega arith in
    let d = decoded (b ∷ r) (omega arith) k in
    let g : length (drop (char_width (b ∷ r)) (b ∷ r)) < length (b ∷ r) = drop_less (b ∷ r) _ (char_width (b ∷ r)) refl (omega arith) k in
    let q = ih (drop (char_width (b ∷ r)) (b ∷ r)) (omega arith) (sym (utf8_step (b ∷ r) (char_width (b ∷ r)) (omega arith) refl k) ∙ e) in
    (code_head (b ∷ r) ∷ q.0, more d.0 q.1, d.1 ∙ ap (λ (l : List ℕ). encode (code_head (b ∷ r)) ++ l) q.2)

row_none : (s : List ℕ) → length s ≤ 0 → Row s
unfolding encode_all
row_none [] h = ([], none, refl)
row_none (b ∷ r) h = absurd (not-suc-le-zero h)

-- by a bound n on the length
rows : (n : ℕ) (s : List ℕ) → length s ≤ n → utf8 s ≡ true → Row s
rows zero s h e = row_none s h
rows (suc n) s h e = row_step n (rows n) s h e

pub only_those : (s : List ℕ) → utf8 s ≡ true → Row s
only_those s e = rows (length s) s (le_refl _) e
