use Rattle.std.proofs.Common.{◌≡◌, ◌≢◌, ℤ, pos, Bool, true, false, refl, sym, ap, arith, rules, ◌∙◌, ◌≤ℤ◌, ◌<ℤ◌, ◌+ℤ◌, ◌*ℤ◌, int_lt}
use Rattle.std.proofs.lemmas.Int.{ints, to_z-of_z}
use Rattle.std.specs.Int.{w64, cast_unsigned as of_z}
use Rattle.restamp_formats.specs.Common.{offset_instant, greatest_year}
use Rattle.restamp_formats.proofs.dated.is_after.Goals as goal

-- different whole seconds decide which of two instants in nanoseconds is later
module _ (m n s t : ℤ) (low : (s *ℤ pos 1_000_000_000) ≤ℤ m) (high : m <ℤ ((s *ℤ pos 1_000_000_000) +ℤ pos 1_000_000_000))
    (least : (t *ℤ pos 1_000_000_000) ≤ℤ n) (most : n <ℤ ((t *ℤ pos 1_000_000_000) +ℤ pos 1_000_000_000)) (differ : s ≢ t) where
  by_second : (a : Bool) → int_lt t s ≡ a → int_lt t s ≡ int_lt n m
  by_second true e = e ∙ sym (grind (arith, ints))
  by_second false e = e ∙ sym (grind (arith, ints))

pub returns-then-seconds-others : goal.returns-then-seconds-others
returns-then-seconds-others c =
    let s = c.unix_timestamp-seconds.result in
    let t = c.unix_timestamp-others.result in
    rw (to_z-of_z w64 t (search rules), to_z-of_z w64 s (search rules))
    (by_second (offset_instant greatest_year c.args.moment) (offset_instant greatest_year c.args.other) s t
    c.unix_timestamp-seconds.ensures.0 c.unix_timestamp-seconds.ensures.1 c.unix_timestamp-others.ensures.0 c.unix_timestamp-others.ensures.1
    (λ same. c.if-seconds-others.true (ap (of_z w64) same)) (int_lt t s) refl)
