-- Which ops are about a text or a session.
use Rattle.std.proofs.Common.{◌≡◌, ℕ, true, false, ne_eqb}
use Rattle.replay_sessions.specs.Op.{is_text}

pub text_5 : (op : ℕ) → op ≡ 5 → true ≡ is_text op
unfolding is_text
text_5 op e = rw e

pub text_13 : (op : ℕ) → op ≡ 13 → true ≡ is_text op
unfolding is_text
text_13 op e = rw e

pub text_14 : (op : ℕ) → op ≡ 14 → true ≡ is_text op
unfolding is_text
text_14 op e = rw e

pub text_15 : (op : ℕ) → op ≡ 15 → true ≡ is_text op
unfolding is_text
text_15 op e = rw e

pub text_none : (op : ℕ) → (op ≡ 5 → ⊥) → (op ≡ 13 → ⊥) → (op ≡ 14 → ⊥) → (op ≡ 15 → ⊥) → false ≡ is_text op
unfolding is_text
text_none op a b c d = rw (ne_eqb op 5 a, ne_eqb op 13 b, ne_eqb op 14 c, ne_eqb op 15 d)
