use Rattle.restamp_command.proofs.rewriting.serve.Goals as goal

pub returns-clause-ok : goal.returns-clause-ok
returns-clause-ok g c = (c.job.result, c.settings.result, c.job.ensures, c.settings.ensures, rw c.zone_name.ensures at c.serve_files.ensures.ok)

pub returns-clause-refused : goal.returns-clause-refused
returns-clause-refused g c = (c.job.result, c.settings.result, c.job.ensures, c.settings.ensures, rw c.zone_name.ensures at c.serve_files.ensures.refused)
