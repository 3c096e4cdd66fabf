use Rattle.std.proofs.Common.{◌+◌, ◌-◌, ◌≡◌, arith, subst, sym, drop, refl}
use Rattle.std.proofs.lemmas.Nat.{mul-lt}
use Rattle.time_readers.specs.IsoTimes.{IsFloor}
use Rattle.time_readers.proofs.OneMailDate.{digit_at, carry_below, floor_at}
use Rattle.time_readers.proofs.iso8601.grammar.carried.Goals as goal

pub overflow_sub-digit : goal.overflow_sub-digit
overflow_sub-digit c = (digit_at c.args.digits.now (c.loop-count.count - 1) (omega arith) c.requires.digits).0

pub overflow_mul-carry : goal.overflow_mul-carry
overflow_mul-carry c = omega (arith, mul-lt c.from.result c.args.unit 256 7_200_000_000_001 (omega (arith, c.from.ensures)) (omega arith))

pub overflow_add-carry : goal.overflow_add-carry
overflow_add-carry c = omega (arith, mul-lt c.from.result c.args.unit 256 7_200_000_000_001 (omega (arith, c.from.ensures)) (omega arith))

pub loop-count-preserved : goal.loop-count-preserved
loop-count-preserved c =
    let s = c.args.digits.now in
    let i = c.loop-count.count - 1 in
    let back : i + 1 ≡ c.loop-count.count = omega arith in
    let digit = digit_at s i (omega arith) c.requires.digits in
    let small = carry_below c.from.result c.args.unit c.loop-count.carry (omega (arith, c.from.ensures)) c.loop-count.invariant.below in
    record {
      in_range = omega arith;
      floor =
          floor_at s i c.args.unit c.loop-count.carry _ (omega arith)
          (subst (λ j. IsFloor (drop j s) c.args.unit c.loop-count.carry) (sym back) c.loop-count.invariant.floor) (rw c.from.ensures refl);
      below = omega arith;
    }
