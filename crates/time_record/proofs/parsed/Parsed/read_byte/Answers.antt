use Rattle.std.proofs.Common.{◌∷◌, [], refl, sym, arith}
use Rattle.time_record.proofs.ComponentLemmas.{reads_byte, refuses_literal, Strips-other, Strips-start}
use Rattle.time_record.proofs.parsed.Parsed.read_byte.Goals as goal

pub returns-in_default : goal.returns-in_default
returns-in_default c = λ r.
    let all = c.args.byte ∷ [] in
    let b = c.args.input.now in
    let refused = refuses_literal _ all b r (Strips-other all b all b c.args.byte [] (Strips-start all b) refl (λ h e. absurd (omega arith))) in
    record { unread = refused.unread; same = refl }

pub returns-then-found-byte : goal.returns-then-found-byte
returns-then-found-byte c = λ r.
    let all = c.args.byte ∷ [] in
    let b = c.args.input.now in
    let refused = refuses_literal _ all b r (Strips-other all b all b c.args.byte [] (Strips-start all b) refl (λ h e. c.if-found-byte.true (sym e))) in
    record { unread = refused.unread; same = refl }

pub returns : goal.returns
returns c = λ r. reads_byte _ (c.args.byte ∷ []) c.args.input.now r refl (omega arith) (cc)
