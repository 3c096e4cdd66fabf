use Rattle.std.proofs.Common.{arith}
use Rattle.restamp_place.proofs.TextLemmas.{place_of-byte}
use Rattle.restamp_place.proofs.texts.find_text.Goals as goal

pub returns-in-len1-clause-value : goal.returns-in-len1-clause-value
returns-in-len1-clause-value c =
    let least = c.in-len1.len_at_least in
    let below = c.in-len1.len_below in
    place_of-byte c.args.text.now c.args.bytes.now (omega arith) c.memchr.result c.memchr.ensures
