use Rattle.std.proofs.Common.{refl, arith}
use Rattle.std.proofs.lemmas.Int.{ints}
use Rattle.time_zones.proofs.clocks.fast.offset_before.Goals as goal

pub returns : goal.returns
returns c = record {
  place = c.args.place;
  last = c.index-rows-place.result;
  next = c.index-rows-place-2.result;
  some = omega (arith, c.if-place-eq0.false);
  within = omega (arith, c.if-rows-place.false);
  is_last = c.index-rows-place.is;
  is_next = c.index-rows-place-2.is;
  begun = omega (arith, ints, c.if-begin-last.false);
  ended = omega (arith, ints, c.if-next-end.false);
  offset = refl;
}
