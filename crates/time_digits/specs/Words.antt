-- No public contract rests on this file.
--
-- Texts that fit in one machine word.
use Rattle.std.specs.Prelude.{ℕ, List, take}
use Rattle.std.specs.Int.{to_le_bytes, w64}

-- the first n of the eight bytes of the word, the lowest byte first
abbrev pub first_bytes : ℕ → ℕ → List ℕ
first_bytes word n = take n (to_le_bytes w64 word)
