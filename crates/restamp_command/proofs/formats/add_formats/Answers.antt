use Rattle.std.proofs.Common.{rules, ◌≡◌, [], ◌∷◌, ◌++◌, Err}
use Rattle.restamp_command.specs.Fault.{erased_fault}
use Rattle.restamp_command.proofs.FormatLemmas.{fault_of_one, more_formats}
use Rattle.restamp_command.proofs.formats.add_formats.Goals as goal

pub returns-in_err-format-clause-err : goal.returns-in_err-format-clause-err
returns-in_err-format-clause-err g c =
    let handed : c.from_residual.result ≡ Err c.in_err-format.field-0.0 = search rules in
    rw handed (fault_of_one (λ name. name.now) c.args.has_year c.args.names.now c.loop-name.name-index _ (erased_fault c.in_err-format.field-0.0)
    (search rules) c.in_err-format.ensures)

pub loop-name-preserved : goal.loop-name-preserved
loop-name-preserved g c =
    let put : c.push.new.self.items ≡ c.loop-name.formats.items ++ c.in_ok-format.format ∷ [] = search rules in
    rw put (more_formats (λ name. name.now) c.args.has_year _ _ _ c.args.names.now c.loop-name.name-index _ c.loop-name.invariant
    (search rules) c.in_ok-format.ensures)
