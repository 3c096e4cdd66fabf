use Rattle.pelzaune_ffi.proofs.columns.column_stored.Goals as goal

pub returns-clause-entries : goal.returns-clause-entries
returns-clause-entries c = rw c.prepare.ensures at c.column.ensures.entries
