use Rattle.std.proofs.Common.{◌≡◌, ℕ, ◌-◌, List, length, drop, ap, arith, ◌∙◌, take}
use Rattle.std.proofs.lemmas.{List.length-take-le, List.length-drop, List.Sums.prefix_len-le-length, Str.Ascii.trim_ascii_start_is, Str.Ascii.trim_ascii_end_is}
use Rattle.std.specs.{Char.is_ascii_whitespace, List.prefix_len, Str.IsTrimAsciiStart, Str.IsTrimAsciiEnd}
use Rattle.restamp_formats.specs.{Common.OffsetDateTime, Common.Match, Reading.before_blanks, Reading.bare_match}
use Rattle.restamp_formats.proofs.reading.bare.Goals as goal

-- ---- The match of a mail date without white space at both ends of it

abbrev said_at : OffsetDateTime → ℕ → ℕ → Match
said_at v start n = record { moment = v; start = start; length = n }

module _ (text front middle : List ℕ) (begins : IsTrimAsciiStart text front) (ends : IsTrimAsciiEnd front middle) where
  start_is : length text - length front ≡ prefix_len is_ascii_whitespace text
  start_is =
      let n = prefix_len is_ascii_whitespace text in
      omega (arith, ap length (trim_ascii_start_is text front begins), length-drop n text, prefix_len-le-length is_ascii_whitespace text)

  length_is : length middle ≡ before_blanks (drop (prefix_len is_ascii_whitespace text) text)
  length_is =
      ap length (trim_ascii_end_is front middle ends)
      ∙ length-take-le (before_blanks front) front (omega arith)
      ∙ ap before_blanks (trim_ascii_start_is text front begins)

  pub bare_is : (v : OffsetDateTime) → said_at v (length text - length front) (length middle) ≡ bare_match v text
  bare_is v = ap (λ (n : ℕ). said_at v n (length middle)) start_is ∙ ap (said_at v (prefix_len is_ascii_whitespace text)) length_is

pub returns-clause-said : goal.returns-clause-said
returns-clause-said c =
    let text = take c.args.said.length c.args.text.now in
    let front = c.trim_ascii_start-front.result.now in
    let middle = c.trim_ascii_end.result.now in
    let before : c.saturating_sub.result ≡ length text - length front =
    omega (arith, c.saturating_sub.ensures, length-take-le c.args.said.length c.args.text.now c.requires) in
    ap (λ n. said_at c.args.said.moment n (length middle)) before
    ∙ bare_is text front middle c.trim_ascii_start-front.ensures.value c.trim_ascii_end.ensures.value c.args.said.moment
