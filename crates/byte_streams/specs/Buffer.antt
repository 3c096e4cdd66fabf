-- The contents of a buffer.
use Rattle.std.specs.Prelude.{ℕ, List}

-- the buffered bytes, and how many more fit after them in the array
pub record Contents : Type 0 where
  pub items : List ℕ
  pub room : ℕ
