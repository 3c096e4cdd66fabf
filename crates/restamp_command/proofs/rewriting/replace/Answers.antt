use Rattle.restamp_command.proofs.rewriting.replace.Goals as goal

pub returns : goal.returns
returns g c = (c.job.result, c.settings.result, c.job.ensures, c.settings.ensures, rw c.zone_name.ensures at c.replace_file.ensures)
