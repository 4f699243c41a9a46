-- Files of a folder: the path of one, and its bytes in a buffer.
use Rattle.std.specs.Prelude.{◌≡◌, cond, List, ◌∷◌, ◌++◌, ℕ, ◌≤◌, eqb, length, replicate}
use Rattle.spec_base.specs.base.Put.{put}

-- the path of the file `name` in a folder: a slash between them, and none in the current folder, which is empty
unfoldable pub path_below : (folder name : List ℕ) → List ℕ
path_below f n = cond (eqb (length f) 0) n (f ++ (47 ∷ n))

-- a buffer of 65,537 bytes and a length: what the file holds is free, and all else zero
pub record Held (buffer : List ℕ) (n : ℕ) : Type 0 where
  pub bytes : List ℕ
  pub fits : length bytes ≤ 65537
  pub counted : n ≡ length bytes
  pub held : buffer ≡ put bytes (replicate 65537 0)
