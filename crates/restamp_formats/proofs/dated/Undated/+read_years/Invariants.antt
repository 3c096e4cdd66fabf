use Rattle.restamp_formats.proofs.dated.Undated.+read_years.Given as goal

abbrev pub decreases-read_years : goal.decreases-read_years
decreases-read_years g l = l.count
