-- Units since 1970 have few digits.
use Rattle.std.proofs.Common.{neg_ℤ, ◌≤ℤ◌, suc, ◌≤◌, ℤ, pos, negsuc, length, arith}
use Rattle.std.proofs.lemmas.{Fmt.length-decimal-le_wide, Int.ints, Int.to_z-of_z}
use Rattle.std.specs.{Fmt.signed_decimal, Int.w128, Int.cast_signed as to_z, Int.cast_unsigned as of_z}
use Rattle.time_values.proofs.InstantLemmas.{first_instant_is, last_instant_is}
use Rattle.restamp_formats.specs.Common.{IsInstant, IsWhole, greatest_year}

-- a number of 33 digits
wide : (z : ℤ) → neg_ℤ (pos 1_000_000_000_000_000_000_000_000_000_000_000) ≤ℤ z → z ≤ℤ pos 1_000_000_000_000_000_000_000_000_000_000_000
    → length (signed_decimal z) ≤ 35
wide (pos n) low high =
    let short = length-decimal-le_wide 34 n (omega arith) (omega (arith, ints)) (omega (arith, ints)) in omega arith
wide (negsuc n) low high =
    let short = length-decimal-le_wide 34 (suc n) (omega arith) (omega (arith, ints)) (omega (arith, ints)) in omega arith

-- a number that is passed on unchanged
passed : (z : ℤ) → neg_ℤ (pos 1_000_000_000_000_000_000_000_000_000_000_000) ≤ℤ z → z ≤ℤ pos 1_000_000_000_000_000_000_000_000_000_000_000
    → length (signed_decimal (to_z w128 (of_z w128 z))) ≤ 35
passed z low high = let kept = to_z-of_z w128 z (omega (arith, ints)) in rw kept (wide z low high)

pub nanoseconds_short : (n : ℤ) → IsInstant greatest_year n → length (signed_decimal (to_z w128 (of_z w128 n))) ≤ 35
nanoseconds_short n within =
    passed n (omega (arith, ints, first_instant_is, last_instant_is)) (omega (arith, ints, first_instant_is, last_instant_is))

pub microseconds_short : (n z : ℤ) → IsInstant greatest_year n → IsWhole 1_000 n z → length (signed_decimal (to_z w128 (of_z w128 z))) ≤ 35
microseconds_short n z within whole =
    passed z (omega (arith, ints, first_instant_is, last_instant_is)) (omega (arith, ints, first_instant_is, last_instant_is))
