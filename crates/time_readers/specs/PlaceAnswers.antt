-- No public contract rests on this file.
--
-- The results of parsing places.
use Rattle.std.specs.Prelude.{◌≡◌, ℕ, List, Result, Ok, Err, Option, Some, None}
use Rattle.std.specs.Borrow.{Bor}
use Rattle.time_digits.specs.Digits.{Form, Cut, NoCut}
use Rattle.time_readers.specs.Readers.{Format, MatchesPlaces, StopsAt}

-- The result of parsing the place p: its text matches, and the numbers n become m; or nothing matches, and the error is
-- p. After an error m may be any numbers.
abbrev pub Steps : {P N : Type 0} → Format P N → P → N → List ℕ → Result (Bor (List ℕ)) P → N → Type 0
Steps A p n bytes (Ok rest) m = Cut (A p n) bytes rest.now m
Steps A p n bytes (Err e) m = (e ≡ p) × NoCut (A p n) bytes

-- The result is the rest after a matching prefix of value v, or nothing if no prefix matches. In that case v may be any
-- value.
abbrev pub Reads : {V : Type 0} → Form V → List ℕ → Option (Bor (List ℕ)) → V → Type 0
Reads S bytes None v = NoCut S bytes
Reads S bytes (Some rest) v = Cut S bytes rest.now v

-- The result of parsing places one after another: the rest, where the numbers n become m; or the first place that
-- doesn't match. After an error m may be any numbers.
abbrev pub Walks : {P N : Type 0} → Format P N → List P → N → List ℕ → Result (Bor (List ℕ)) P → N → Type 0
Walks A ps n bytes (Ok rest) m = MatchesPlaces A ps n bytes rest.now m
Walks A ps n bytes (Err p) m = StopsAt A ps n bytes p
