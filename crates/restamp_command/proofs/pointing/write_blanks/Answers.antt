use Rattle.std.proofs.Common.{List, ℕ, replicate, OnOk, ap, subst, arith, ◌∙◌}
use Rattle.std.proofs.lemmas.List.{take-replicate}
use Rattle.std.specs.Io.KnownBytes.{Appends}
use Rattle.restamp_command.proofs.pointing.write_blanks.Goals as goal

pub returns-clause-written : goal.returns-clause-written
returns-clause-written g c =
    subst (λ (bytes : List ℕ). OnOk c.write_all.result (Appends (g.L.Sink.contents c.args.log.now) (g.L.Sink.contents c.write_all.new.self) bytes))
    (take-replicate c.min.result 40 32 (omega arith) ∙ ap (λ n. replicate n 32) c.min.ensures) c.write_all.ensures.bytes
