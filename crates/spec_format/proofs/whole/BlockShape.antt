-- What the blocks of a text are: no line is lost; the body's lines are not blank, the others are; no block is without a line, only the first may have
-- no body, only the last no blank line. No other blocks of the same lines are so.
use mathlib.Core.Path.{◌≡◌, refl, ap, ◌∙◌}
use mathlib.Core.Bool.{Bool, true, false, cond}
use mathlib.Core.List.{List, [], ◌∷◌, ◌++◌}
use Prim.Native.Nat.{ℕ}
use Rattle.spec_cue.specs.block_timing.Style.{blank_in}
use Rattle.spec_format.specs.whole.Srt.{Block, block_of, onto_block, onto_blanks, blank_onto, blocks_of}

-- the lines of blocks, in order
abbrev pub block_lines : List Block → List (List ℕ)
block_lines [] = []
block_lines (b ∷ bs) = b.body ++ (b.blanks ++ block_lines bs)

onto_lines : (l : List ℕ) (bs : List Block) → block_lines (onto_block l bs) ≡ l ∷ block_lines bs
onto_lines l [] = refl
onto_lines l (b ∷ bs) = refl

blank_lines : (l : List ℕ) (bs : List Block) → block_lines (blank_onto l bs) ≡ l ∷ block_lines bs
blank_lines l [] = refl
blank_lines l (b ∷ bs) = go b.body b.blanks
  where
    go : (body blanks : List (List ℕ)) → block_lines (onto_blanks l body blanks bs) ≡ l ∷ (body ++ (blanks ++ block_lines bs))
    go [] blanks = refl
    go (k ∷ ks) blanks = refl

abbrev pub Lines : List (List ℕ) → Type 0
Lines [] = ⊥
Lines (l ∷ ls) = Unit {0}

-- a blank line before further blocks
abbrev pub BlankBehind : (blanks : List (List ℕ)) → List Block → Type 0
BlankBehind ls [] = Unit {0}
BlankBehind ls (b ∷ bs) = Lines ls

pub lines_more : (ks ls : List (List ℕ)) → Lines ks → Lines (ks ++ ls)
lines_more [] ls h = absurd h
lines_more (k ∷ ks) ls h = tt

module _ (kind : ℕ) where
  pub blocks_joined : (ls : List (List ℕ)) → block_lines (blocks_of kind ls) ≡ ls
  unfolding blocks_of
  blocks_joined [] = refl
  blocks_joined (l ∷ ls) = go (blank_in kind l) (blocks_joined ls)
    where
      go : (t : Bool) → block_lines (blocks_of kind ls) ≡ ls → block_lines (cond t (blank_onto l (blocks_of kind ls)) (onto_block l (blocks_of kind ls))) ≡ l ∷ ls
      go true e = blank_lines l (blocks_of kind ls) ∙ ap (λ (x : List (List ℕ)). l ∷ x) e
      go false e = onto_lines l (blocks_of kind ls) ∙ ap (λ (x : List (List ℕ)). l ∷ x) e

  -- every line blank, or none
  abbrev pub AllBlank : Bool → List (List ℕ) → Type 0
  AllBlank t [] = Unit {0}
  AllBlank t (l ∷ ls) = (blank_in kind l ≡ t) × AllBlank t ls

  -- blocks behind the first: each has a body; each but the last has a blank line
  abbrev pub Others : List Block → Type 0
  Others [] = Unit {0}
  Others (b ∷ bs) = AllBlank false b.body × AllBlank true b.blanks × Lines b.body × BlankBehind b.blanks bs × Others bs

  abbrev pub Blocks : List Block → Type 0
  Blocks [] = Unit {0}
  Blocks (b ∷ bs) = AllBlank false b.body × AllBlank true b.blanks × Lines (b.body ++ b.blanks) × BlankBehind b.blanks bs × Others bs

  onto_shape : (l : List ℕ) (bs : List Block) → blank_in kind l ≡ false → Blocks bs → Blocks (onto_block l bs)
  onto_shape l [] e h = ((e, tt), tt, tt, tt, tt)
  onto_shape l (b ∷ bs) e h = ((e, h.0), h.1, tt, h.3, h.4)

  blank_shape : (l : List ℕ) (bs : List Block) → blank_in kind l ≡ true → Blocks bs → Blocks (blank_onto l bs)
  blank_shape l [] e h = (tt, (e, tt), tt, tt, tt)
  blank_shape l (b ∷ bs) e h = go b.body b.blanks h.0 h.1 h.3
    where
      ended : (blanks : List (List ℕ)) (bs : List Block) → BlankBehind (l ∷ blanks) bs
      ended blanks [] = tt
      ended blanks (x ∷ bs) = tt

      go : (body blanks : List (List ℕ)) → AllBlank false body → AllBlank true blanks → BlankBehind blanks bs → Blocks (onto_blanks l body blanks bs)
      go [] blanks p q r = (tt, (e, q), tt, ended blanks bs, h.4)
      go (k ∷ ks) blanks p q r = (tt, (e, tt), tt, tt, (p, q, tt, r, h.4))

  pub blocks_shape : (ls : List (List ℕ)) → Blocks (blocks_of kind ls)
  unfolding blocks_of
  blocks_shape [] = tt
  blocks_shape (l ∷ ls) = go (blank_in kind l) refl (blocks_shape ls)
    where
      go : (t : Bool) → blank_in kind l ≡ t → Blocks (blocks_of kind ls) → Blocks (cond t (blank_onto l (blocks_of kind ls)) (onto_block l (blocks_of kind ls)))
      go true e h = blank_shape l (blocks_of kind ls) e h
      go false e h = onto_shape l (blocks_of kind ls) e h

  -- ---- no other blocks of the same lines are so
  pub blocks_blank : (l : List ℕ) (ls : List (List ℕ)) → blank_in kind l ≡ true → blocks_of kind (l ∷ ls) ≡ blank_onto l (blocks_of kind ls)
  unfolding blocks_of
  blocks_blank l ls e = rw e

  pub blocks_body : (l : List ℕ) (ls : List (List ℕ)) → blank_in kind l ≡ false → blocks_of kind (l ∷ ls) ≡ onto_block l (blocks_of kind ls)
  unfolding blocks_of
  blocks_body l ls e = rw e

  pub blocks_none : blocks_of kind [] ≡ []
  unfolding blocks_of
  blocks_none = refl

  pub others_blocks : (bs : List Block) → Others bs → Blocks bs
  others_blocks [] h = tt
  others_blocks (b ∷ bs) h = (h.0, h.1, lines_more b.body b.blanks h.2, h.3, h.4)

  last_blank : (l : List ℕ) (bs : List Block) → Others bs → blank_onto l bs ≡ block_of [] (l ∷ []) ∷ bs
  last_blank l [] h = refl
  last_blank l (b ∷ bs) h = go b.body b.blanks h.2
    where
      go : (body blanks : List (List ℕ)) → Lines body → onto_blanks l body blanks bs ≡ block_of [] (l ∷ []) ∷ block_of body blanks ∷ bs
      go [] blanks q = absurd q
      go (k ∷ ks) blanks q = refl

  blanks_only : (l : List ℕ) (ls : List (List ℕ)) (bs : List Block) → AllBlank true (l ∷ ls) → Others bs → blocks_of kind (block_lines bs) ≡ bs
      → blocks_of kind ((l ∷ ls) ++ block_lines bs) ≡ block_of [] (l ∷ ls) ∷ bs
  blanks_only l [] bs h o e = blocks_blank l (block_lines bs) h.0 ∙ ap (blank_onto l) e ∙ last_blank l bs o
  blanks_only l (k ∷ ls) bs h o e =
      blocks_blank l ((k ∷ ls) ++ block_lines bs) h.0 ∙ ap (blank_onto l) (blanks_only k ls bs h.1 o e)

  body_only : (body rest blanks : List (List ℕ)) (bs : List Block) → AllBlank false body → blocks_of kind rest ≡ block_of [] blanks ∷ bs
      → blocks_of kind (body ++ rest) ≡ block_of body blanks ∷ bs
  body_only [] rest blanks bs h e = e
  body_only (l ∷ ls) rest blanks bs h e = blocks_body l (ls ++ rest) h.0 ∙ ap (onto_block l) (body_only ls rest blanks bs h.1 e)

  body_last : (l : List ℕ) (ls : List (List ℕ)) → AllBlank false (l ∷ ls) → blocks_of kind ((l ∷ ls) ++ []) ≡ block_of (l ∷ ls) [] ∷ []
  body_last l [] h = blocks_body l [] h.0 ∙ ap (onto_block l) blocks_none
  body_last l (k ∷ ls) h = blocks_body l ((k ∷ ls) ++ []) h.0 ∙ ap (onto_block l) (body_last k ls h.1)

  block_only : (body blanks : List (List ℕ)) (bs : List Block) → Blocks (block_of body blanks ∷ bs) → blocks_of kind (block_lines bs) ≡ bs
      → blocks_of kind (body ++ (blanks ++ block_lines bs)) ≡ block_of body blanks ∷ bs
  block_only body (l ∷ ls) bs h e = body_only body ((l ∷ ls) ++ block_lines bs) (l ∷ ls) bs h.0 (blanks_only l ls bs h.1 h.4 e)
  block_only body [] (b ∷ bs) h e = absurd h.3
  block_only [] [] [] h e = absurd h.2
  block_only (k ∷ ks) [] [] h e = body_last k ks h.0

  pub blocks_only : (bs : List Block) → Blocks bs → blocks_of kind (block_lines bs) ≡ bs
  blocks_only [] h = blocks_none
  blocks_only (b ∷ bs) h = block_only b.body b.blanks bs h (blocks_only bs (others_blocks bs h.4))
