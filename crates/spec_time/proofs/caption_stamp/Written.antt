-- The text of a time: its length, and the text put together piece by piece.
use Prim.Native.Nat.{ℕ, ◌+◌, ◌-◌, ◌/◌, ◌%◌, ◌^◌, ◌≤◌, ◌<◌}
use mathlib.Core.Path.{◌≡◌, refl, ap, sym, ◌∙◌}
use mathlib.Core.Bool.{Bool, true, false}
use mathlib.Core.List.{List, [], ◌∷◌, ◌++◌}
use lib.ListN.{length, take, drop, length-append}
use native.Mathlib.Omega.{arith}
use borrow.Rule.Slice.PartMut.{put_mid}
use Rattle.spec_base.specs.base.Put.{put, placed, placed_length}
use Rattle.spec_base.proofs.base.Laws.{yes!, no! }
use Rattle.spec_base.proofs.base.PutLaws.{put_back, none_placed}
use Rattle.spec_time.specs.caption_time.Kind.{kind_bad, units_of, fraction_digits, hour_digits}
use Rattle.spec_time.specs.caption_stamp.Write.{pad, widest, text_with, time_text}
use Rattle.spec_time.proofs.caption_time.Limits.{by_kind, units_low, fraction_low, fraction_high, hour_high}
use Rattle.spec_time.proofs.caption_stamp.Pad.{pad_length, width_bound, width_pos}

module _ (U frac least mark units : ℕ) where
  pub text_length : length (text_with U frac least mark units) ≡ widest least (units / U / 60 / 60) + 7 + frac
  unfolding text_with
  text_length =
      let h = units / U / 60 / 60 in
      let m = units / U / 60 % 60 in
      let s = units / U % 60 in
      let f = units % U in
      let p1 : List ℕ = pad (widest least h) h in
      let p2 : List ℕ = 58 ∷ pad 2 m in
      let p3 : List ℕ = 58 ∷ pad 2 s in
      let p4 : List ℕ = mark ∷ pad frac f in
      omega (
        arith,
        length-append (p1 ++ p2 ++ p3) p4,
        length-append (p1 ++ p2) p3,
        length-append p1 p2,
        pad_length (widest least h) h,
        pad_length 2 m,
        pad_length 2 s,
        pad_length frac f,
      )

  -- four pieces, each written to the rest of the output
  module _ (w : ℕ) (l₀ l₁ m₂ m₃ m₄ : List ℕ) (ew : w ≡ widest least (units / U / 60 / 60)) where
    pub text_put : (l₂ l₃ : List ℕ)
        → l₁ ≡ put (pad w (units / U / 60 / 60)) l₀
        → m₂ ≡ put (58 ∷ pad 2 (units / U / 60 % 60)) (take (length l₁ - w) (drop w l₁))
        → l₂ ≡ put_mid w (length l₁ - w) l₁ m₂
        → m₃ ≡ put (58 ∷ pad 2 (units / U % 60)) (take (length l₂ - (w + 3)) (drop (w + 3) l₂))
        → l₃ ≡ put_mid (w + 3) (length l₂ - (w + 3)) l₂ m₃
        → m₄ ≡ put (mark ∷ pad frac (units % U)) (take (length l₃ - (w + 6)) (drop (w + 6) l₃))
        → put_mid (w + 6) (length l₃ - (w + 6)) l₃ m₄ ≡ put (text_with U frac least mark units) l₀
    unfolding text_with
    text_put l₂ l₃ e1 e2 d2 e3 d3 e4 =
        let h = units / U / 60 / 60 in
        let m = units / U / 60 % 60 in
        let s = units / U % 60 in
        let p1 : List ℕ = pad w h in
        let p2 : List ℕ = 58 ∷ pad 2 m in
        let p3 : List ℕ = 58 ∷ pad 2 s in
        let n1 = pad_length w h in
        let n2 = length-append p1 p2 in
        let n3 = length-append (p1 ++ p2) p3 in
        let k2 = pad_length 2 m in
        let k3 = pad_length 2 s in
        let q1 : w ≡ length p1 = omega arith in
        let q2 : w + 3 ≡ length (p1 ++ p2) = omega arith in
        let q3 : w + 6 ≡ length (p1 ++ p2 ++ p3) = omega arith in
        let r2 : l₂ ≡ put (p1 ++ p2) l₀ = d2 ∙ put_back w p1 p2 l₀ l₁ m₂ e1 q1 e2 in
        let r3 : l₃ ≡ put (p1 ++ p2 ++ p3) l₀ = d3 ∙ put_back (w + 3) (p1 ++ p2) p3 l₀ l₂ m₃ r2 q2 e3 in
        put_back (w + 6) (p1 ++ p2 ++ p3) (mark ∷ pad frac (units % U)) l₀ l₃ m₄ r3 q3 e4 ∙
        ap (λ (k : ℕ). put (pad k h ++ p2 ++ p3 ++ (mark ∷ pad frac (units % U))) l₀) ew

-- the text of a time in a kind
pub text_some : (kind mark units : ℕ) → kind_bad kind ≡ false → time_text kind mark units ≡ text_with (units_of kind) (fraction_digits kind) (hour_digits kind) mark units
unfolding time_text
text_some kind mark units e = sym (no! _ e refl)

pub text_none : (kind mark units : ℕ) → kind_bad kind ≡ true → time_text kind mark units ≡ []
unfolding time_text
text_none kind mark units e = sym (yes! _ e refl)

pub text_size : (kind mark units : ℕ) → kind_bad kind ≡ false → length (time_text kind mark units) ≡ widest (hour_digits kind) (units / units_of kind / 60 / 60) + 7 + fraction_digits kind
text_size kind mark units e = rw (text_some kind mark units e) (text_length (units_of kind) (fraction_digits kind) (hour_digits kind) mark units)

-- the text of an SRT time below 100 hours has 12 bytes
pub srt_12 : (mark units : ℕ) → units < 360000000 → length (time_text 1 mark units) ≡ 12
unfolding units_of fraction_digits hour_digits kind_bad
srt_12 mark units h = omega (arith, text_size 1 mark units refl, width_bound 1 (units / 1000 / 60 / 60) (omega arith))

-- the longest text of a time, of any word of units, has 23 bytes
ass_23 : (mark units : ℕ) → units < 2 ^ 64 → length (text_with (units_of 0) (fraction_digits 0) (hour_digits 0) mark units) ≤ 23
unfolding units_of fraction_digits hour_digits
ass_23 mark units h = omega (arith, text_length 100 2 1 mark units, width_bound 13 (units / 100 / 60 / 60) (omega arith))

srt_23 : (mark units : ℕ) → units < 2 ^ 64 → length (text_with (units_of 1) (fraction_digits 1) (hour_digits 1) mark units) ≤ 23
unfolding units_of fraction_digits hour_digits
srt_23 mark units h = omega (arith, text_length 1000 3 2 mark units, width_bound 12 (units / 1000 / 60 / 60) (omega arith))

vtt_23 : (mark units : ℕ) → units < 2 ^ 64 → length (text_with (units_of 2) (fraction_digits 2) (hour_digits 2) mark units) ≤ 23
unfolding units_of fraction_digits hour_digits
vtt_23 mark units h = omega (arith, text_length 1000 3 2 mark units, width_bound 12 (units / 1000 / 60 / 60) (omega arith))

pub text_23 : (kind mark units : ℕ) → units < 2 ^ 64 → length (time_text kind mark units) ≤ 23
text_23 kind mark units h = go (kind_bad kind) refl
  where
    go : (b : Bool) → kind_bad kind ≡ b → length (time_text kind mark units) ≤ 23
    go true e = rw (text_none kind mark units e) (omega arith)
    go false e =
        rw (text_some kind mark units e)
        (by_kind (λ k. length (text_with (units_of k) (fraction_digits k) (hour_digits k) mark units) ≤ 23) (ass_23 mark units h) (srt_23 mark units h) (vtt_23 mark units h) kind e)

-- and the shortest has 10
pub text_10 : (kind mark units : ℕ) → kind_bad kind ≡ false → 10 ≤ length (time_text kind mark units)
text_10 kind mark units e =
    rw (text_some kind mark units e)
    (omega (
      arith,
      text_length (units_of kind) (fraction_digits kind) (hour_digits kind) mark units,
      width_pos (units / units_of kind / 60 / 60),
      fraction_low kind e,
    ))

-- ---- what the writer's calls answered
pub write_none : (kind mark units : ℕ) (l : List ℕ) (b : Bool) → b ≡ kind_bad kind → b ≡ true → (0 ≡ placed_length (time_text kind mark units) l) × (l ≡ placed (time_text kind mark units) l)
write_none kind mark units l b e h = rw (text_none kind mark units (sym e ∙ h)) (none_placed l)

module _ (kind : ℕ) (b : Bool) (e : b ≡ kind_bad kind) (h : b ≡ false) (u f d : ℕ) (eu : u ≡ units_of kind) (ef : f ≡ fraction_digits kind) (ed : d ≡ hour_digits kind) where
  pub write_limits : (1 ≤ u) × ((f ≤ 3) × (d ≤ 2))
  write_limits =
      let k = sym e ∙ h in
      (omega (arith, units_low kind k), (omega (arith, fraction_high kind k), omega (arith, hour_high kind k)))

  pub write_some : (mark units n : ℕ) (l m : List ℕ) → (n ≡ placed_length (text_with u f d mark units) l) × (m ≡ placed (text_with u f d mark units) l)
      → (n ≡ placed_length (time_text kind mark units) l) × (m ≡ placed (time_text kind mark units) l)
  write_some mark units n l m p =
      let t : text_with u f d mark units ≡ time_text kind mark units = rw (eu, ef, ed) (sym (text_some kind mark units (sym e ∙ h))) in
      (p.0 ∙ ap (λ (x : List ℕ). placed_length x l) t, p.1 ∙ ap (λ (x : List ℕ). placed x l) t)
