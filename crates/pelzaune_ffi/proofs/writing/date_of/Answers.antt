use Rattle.std.proofs.Common.{◌≡◌, sym, ap, ◌∙◌, w32, arith}
use Rattle.std.proofs.lemmas.Int.{to_z-of_z, ints}
use Rattle.time_values.specs.Dates.{calendar_date_refusal}
use Rattle.time_values.specs.Dates as Dates
use Rattle.time_values.specs.Names.{month_number}
use Rattle.time_values.specs.Calendar.{greatest_year}
use Rattle.time_values.specs.Refusal.{Constructs}
use Rattle.pelzaune_ffi.specs.Results.{month_refusal, IsDateOf}
use Rattle.pelzaune_ffi.proofs.IsoInPlace.{Constructs-made, Constructs-property, Constructs-map, Constructs-later}
use Rattle.pelzaune_ffi.proofs.writing.date_of.Goals as goal

pub returns : goal.returns
returns c =
    let s = c.args.parts.now in
    let month = c.in_ok-month.month in
    let kept = to_z-of_z w32 s.year (omega (arith, ints)) in
    let known = Constructs-property (month_refusal s.month) (λ m. month_number m ≡ s.month) month c.in_ok-month.ensures in
    let none = Constructs-made (month_refusal s.month) (λ m. month_number m ≡ s.month) month c.in_ok-month.ensures in
    let refused = calendar_date_refusal greatest_year s.year s.month s.day in
    let made : Constructs refused (Dates.HasParts s.year month s.day) c.from_calendar_date.result =
    rw (kept, known) at c.from_calendar_date.ensures in
    Constructs-later (month_refusal s.month) refused (λ d. IsDateOf s d) c.from_calendar_date.result none
    (Constructs-map refused (Dates.HasParts s.year month s.day) (λ d. IsDateOf s d) c.from_calendar_date.result
    (λ d h. (sym h.0, sym known ∙ ap month_number (sym h.1), sym h.2)) made)
