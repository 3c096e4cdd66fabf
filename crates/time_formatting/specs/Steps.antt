-- No public contract rests on this file.
--
-- The effect of a writer on the bytes written so far.
use Rattle.std.specs.Prelude.{◌≡◌, ℕ, List, Result, Ok, Err}
use Rattle.time_formatting.specs.declared.walk.Unformattable.{Unformattable}

-- The writer succeeds and the bytes afterwards are the expected ones; or it returns the expected error, and the bytes
-- afterwards are unspecified.
abbrev pub Puts : {A : Type 0} → Result (List ℕ) Unformattable → Result A Unformattable → List ℕ → Type 0
Puts bytes (Ok x) new = bytes ≡ Ok new
Puts bytes (Err why) new = bytes ≡ Err why
