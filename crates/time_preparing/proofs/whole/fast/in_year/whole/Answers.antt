use Rattle.std.proofs.Common.{sym, ◌∙◌, ap, Some}
use Rattle.std.specs.Int.{w32}
use Rattle.std.proofs.lemmas.Int.{to_z-of_z}
use Rattle.time_preparing.proofs.Wholes.{no_bytes, whole_in_year}
use Rattle.time_preparing.proofs.whole.fast.in_year.whole.Goals as goal

pub returns : goal.returns
returns c =
    let year = c.in_ok-year.ensures in
    let same = to_z-of_z w32 c.in_ok-year.year year.fits in
    whole_in_year c.args.form.now c.args.input.now c.in_ok-date.behind.now c.in_ok-after.field-0.now c.in_ok-time.rest.now
    c.args.known.now c.in_ok-date.date c.in_ok-time.time c.new.result c.in_ok-time.ensures.whole
    (year.year ∙ ap Some (sym (c.in_ok-date.ensures.year ∙ same))) year.ordinal year.subsecond
    c.in_ok-date.ensures.reads c.in_ok-after.ensures c.in_ok-time.ensures.reads
    (no_bytes c.in_ok-time.rest.now (sym c.is_empty.ensures ∙ c.if-not-is_empty.false)) c.new.ensures.date c.new.ensures.time
