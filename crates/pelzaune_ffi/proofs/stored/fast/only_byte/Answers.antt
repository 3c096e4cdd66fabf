use Rattle.std.proofs.Common.{◌≡◌, [], ◌∷◌, map, refl, arith, rules}
use Rattle.time_components.specs.Tree.{further}
use Rattle.time_record.proofs.ComponentLemmas.{reads_byte}
use Rattle.pelzaune_ffi.specs.Described.{step_of}
use Rattle.pelzaune_ffi.proofs.stored.fast.only_byte.Goals as goal

pub returns-in-len1-up-clause-read : goal.returns-in-len1-up-clause-read
returns-in-len1-up-clause-read c = λ r.
    let none : further (map step_of c.args.behind.now) ≡ [] = search rules in
    rw none (reads_byte _ (c.args.byte ∷ []) c.args.input.now r refl (omega arith) (cc))
