use Rattle.std.proofs.Common.{ℤ, false, not, ap, refl, ◌∙◌, Ok, Err}
use Rattle.std.proofs.lemmas.Int.{to_z-of_z}
use Rattle.std.specs.Int.{w32}
use Rattle.restamp_formats.specs.{Common.greatest_year, Reading.in_year, Reading.erased_undated}
use Rattle.restamp_formats.proofs.ParseLemmas.{early}
use Rattle.restamp_formats.proofs.dated.Undated.is_early.Goals as goal

pub returns-in-Ok : goal.returns-in-Ok
returns-in-Ok c =
    let u = erased_undated c.args.self.now in
    early u c.args.year c.in_year.result c.at-defaults.result c.offset.result (Ok c.in-Ok.said) (not c.is_after.result)
    (c.in_year.ensures ∙ ap (λ (y : ℤ). in_year y u.offset u.clocks) (to_z-of_z w32 c.args.year c.ranges.year)) c.offset.ensures
    c.at-defaults.ensures c.in-Ok.ensures.said (ap not c.is_after.ensures)

pub returns-in-Err : goal.returns-in-Err
returns-in-Err c =
    let u = erased_undated c.args.self.now in
    early u c.args.year c.in_year.result c.at-defaults.result c.offset.result (Err c.in-Err.ensures.said.0) false
    (c.in_year.ensures ∙ ap (λ (y : ℤ). in_year y u.offset u.clocks) (to_z-of_z w32 c.args.year c.ranges.year)) c.offset.ensures
    c.at-defaults.ensures c.in-Err.ensures.said.2 refl
