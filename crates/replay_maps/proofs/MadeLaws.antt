-- Laws of the map that is made, and of the op that is answered.
use mathlib.Core.Path.{◌≡◌, refl, ap, subst, ◌∙◌}
use mathlib.Core.Bool.{Bool, true, false, cond}
use mathlib.Core.List.{List}
use Rattle.std.specs.Prelude.{Result, IfOk, min}
use Prim.Native.Nat.{ℕ, ◌≤◌}
use native.Mathlib.Omega.{arith}
use lib.Dec.{eqb, ltb}
use lib.ListN.{length, take, replicate, length-replicate}
use lib.Seq.{length-take-le}
use borrow.Author.Tests.{eq-eqb, ne_eqb, ltb-true, ltb-false}
use Rattle.spec_base.specs.base.Limits.{most_work}
use Rattle.spec_base.proofs.base.Laws.{yes!, no! }
use Rattle.spec_sheet.specs.checked_blocks.Block.{word_at}
use Rattle.spec_map.specs.declared.segmap.Made.{Made}
use Rattle.spec_map.specs.segmap.Map.{map_of, made_of}
use Rattle.replay_ask.specs.Query.{is_query}
use Rattle.replay_json.specs.Query.{is_text_query}
use Rattle.replay_sessions.specs.Op.{is_text}
use Rattle.replay_maps.specs.Made.{work_lent, made_number}

-- ---- the op is word 0 of the head
pub text_op : (r : Bool) (op : ℕ) (h : List ℕ) → op ≡ word_at h 0 → r ≡ is_text op → r ≡ is_text (word_at h 0)
text_op r op h e q = q ∙ ap is_text e

pub query_op : (r : Bool) (op : ℕ) (h : List ℕ) → op ≡ word_at h 0 → r ≡ is_query op → r ≡ is_query (word_at h 0)
query_op r op h e q = q ∙ ap is_query e

pub map_text_op : (r : Bool) (op : ℕ) (h : List ℕ) → op ≡ word_at h 0 → r ≡ is_text_query op → r ≡ is_text_query (word_at h 0)
map_text_op r op h e q = q ∙ ap is_text_query e

-- ---- how many work bytes are lent
pub lent_all : (c : ℕ) → c ≡ 0 → most_work ≡ work_lent c
unfolding work_lent
lent_all c z = yes! _ (eq-eqb c 0 z) refl

pub lent_least : (c : ℕ) → (c ≡ 0 → ⊥) → min c most_work ≡ work_lent c
unfolding work_lent
lent_least c z = no! _ (ne_eqb c 0 z) (go (ltb most_work c) refl)
  where
    go : (t : Bool) → ltb most_work c ≡ t → min c most_work ≡ cond t most_work c
    go true q = omega (arith, ltb-true most_work c q)
    go false q = omega (arith, ltb-false most_work c q)

-- ---- the number, with the first n of all work bytes lent
abbrev work_bytes : List ℕ
work_bytes = replicate most_work 0

lent_long : (n c : ℕ) → n ≡ work_lent c → n ≤ most_work → length (take n work_bytes) ≡ work_lent c
lent_long n c q h = length-take-le n work_bytes (rw (length-replicate {A = ℕ} most_work 0) h) ∙ q

pub number_made : (s l : List ℕ) (d c n k : ℕ) (r : Made) → n ≡ work_lent c → n ≤ most_work → k ≡ 6144 → r ≡ made_of (map_of s l d k (length (take n work_bytes)))
    → r.number ≡ made_number s l d c
unfolding made_of made_number
number_made s l d c n k r q h p e =
    ap (λ (x : Made). x.number) e ∙ ap (λ (x : ℕ). (map_of s l d x (length (take n work_bytes))).number) p
    ∙ ap (λ (x : ℕ). (map_of s l d 6144 x).number) (lent_long n c q h)

pub number_printed : (s l : List ℕ) (d c n r : ℕ) → n ≡ work_lent c → n ≤ most_work → r ≡ (map_of s l d 6144 (length (take n work_bytes))).number → r ≡ made_number s l d c
unfolding made_number
number_printed s l d c n r q h e = e ∙ ap (λ (x : ℕ). (map_of s l d 6144 x).number) (lent_long n c q h)

pub answer_printed : {E : Type 0} (r : Result ℕ E) (s l : List ℕ) (d c n : ℕ) → n ≡ work_lent c → n ≤ most_work
    → IfOk r (λ v. v ≡ (map_of s l d 6144 (length (take n work_bytes))).number) → IfOk r (λ v. v ≡ made_number s l d c)
answer_printed {E} r s l d c n q h e = subst (λ (x : ℕ). IfOk r (λ v. v ≡ x)) (number_printed s l d c n _ q h refl) e
