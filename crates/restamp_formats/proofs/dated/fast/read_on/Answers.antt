use Rattle.std.proofs.Common.{◌≡◌, ◌-◌, ◌∙◌, false, [], None, Ok, length, refl, sym, subst}
use Rattle.restamp_formats.specs.Common.{greatest_year, plain_date, plain_time, Record, IsPlain, is_leap_second}
use Rattle.restamp_formats.specs.{Reading.ReadsRecord, Reading.ParsesLocally, Reading.said}
use Rattle.restamp_formats.proofs.{ClocksOnce.nothing_left, ClocksOnce.plain_parts, ClocksOnce.says_once, dated.fast.read_on.Goals.else-not-is_prefix-via-then-not-is_prefix+else-not-is_empty, dated.fast.read_on.Goals.else-not-is_prefix-via-else-not-is_prefix}
use Rattle.restamp_formats.proofs.dated.fast.read_on.Goals as goal

pub returns-clause-said : goal.returns-clause-said
returns-clause-said c =
    let text = c.args.text.now in
    let rest = c.in_ok-rest.rest.now in
    let r = c.parse.new.parsed in
    let defaults = c.args.defaults.now in
    let clocks = c.args.clocks in
    let utc = c.assume_utc.result in
    let v = c.assume_offset.result in
    let length_said = length text - length rest in
    let format = c.args.reading.now in
    let read = subst (λ (x : Record). ReadsRecord format text x rest r) c.new-parsed.ensures c.in_ok-rest.ensures in
    let all : c.args.is_prefix ≡ false → rest ≡ [] = elim c.else-not-is_prefix.branch [
      | else-not-is_prefix-via-then-not-is_prefix+else-not-is_empty w ↦ λ is. nothing_left rest (w.if-not-is_empty.ensures)
      | else-not-is_prefix-via-else-not-is_prefix w ↦ λ is. let opens = w.if-not-is_prefix.false in absurd cc
    ] in
    let parts = plain_parts _ c.in-Ok.clock
    (subst (λ (x : Record). IsPlain greatest_year x (Ok c.in-Ok.clock)) c.put_year.ensures c.in-Ok.ensures) in
    let plain = subst (λ (x : Record). (x.offset_hour ≡ None) × (x.unix_timestamp_nanos ≡ None) × (is_leap_second x ≡ false)) c.put_year.ensures
    (c.if-is_placed.ensures refl) in
    let told : ParsesLocally format c.args.is_prefix text defaults (Ok (said v length_said)) =
    says_once text rest r format read c.args.is_prefix defaults clocks utc v c.in_ok-moment.moment
    (plain_date c.in-Ok.clock) (plain_time c.in-Ok.clock) all c.requires.clocks c.requires.offset parts.0 parts.1 plain
    (c.assume_utc.ensures.date, c.assume_utc.ensures.time, c.assume_utc.ensures.offset) c.in_ok-moment.ensures
    (c.assume_offset.ensures.date, c.assume_offset.ensures.time, c.assume_offset.ensures.offset ∙ c.offset.ensures) in
    subst (λ s. ParsesLocally format c.args.is_prefix text defaults (Ok s)) (sym c.match_before.ensures.said) told
