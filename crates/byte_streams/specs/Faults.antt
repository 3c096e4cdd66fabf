-- How many calls have failed, and how many bytes were read.
use Rattle.std.specs.Prelude.{◌≡◌, ◌⊎◌, ℕ, ◌+◌, ◌-◌, ◌^◌, ◌≤◌, min, Result, MatchResult}

-- A count rose by at least one, or it was already 2^64 - 1 or more, and didn't fall.
abbrev pub Rises : ℕ → ℕ → Type 0
Rises before now = (before ≤ now) × (min (before + 1) (2 ^ 64 - 1) ≤ now)

-- After `Ok` the count of failed calls (reads, writes, flushes, opens) is unchanged. After an error it rose (`Rises`).
abbrev pub HasCause : {V E : Type 0} → Result V E → ℕ → ℕ → Type 0
HasCause result before now = MatchResult result (λ _. now ≡ before) (λ _. Rises before now)

-- a count plus n, at most the greatest 64-bit number
abbrev pub count_more : ℕ → ℕ → ℕ
count_more before n = min (before + n) (2 ^ 64 - 1)

-- A read added the number of bytes that it returned to their count, up to 2^64 - 1. A failed read left it unchanged.
abbrev pub HasGiven : {E : Type 0} → Result ℕ E → ℕ → ℕ → Type 0
HasGiven result before now = MatchResult result (λ n. now ≡ count_more before n) (λ _. now ≡ before)

-- The count of failed calls rose (`Rises`), or a source has returned 2^64 - 1 bytes or more.
abbrev pub IsCutOff : ℕ → ℕ → ℕ → Type 0
IsCutOff before now given = Rises before now ⊎ (2 ^ 64 - 1 ≤ given)

-- The count of failed calls rose (`Rises`); or it is unchanged, and bytes were read or their count is 2^64 - 1 or more.
abbrev pub HasProgressed : ℕ → ℕ → ℕ → ℕ → Type 0
HasProgressed faults faults' given given' = ((faults' ≡ faults) × (count_more given 1 ≤ given')) ⊎ Rises faults faults'
