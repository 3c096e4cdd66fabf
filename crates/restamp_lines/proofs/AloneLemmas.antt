-- The match from a byte of a line on, unless it starts or ends inside a word or a number.
use Rattle.std.proofs.Common.{◌≡◌, ℕ, ◌+◌, ◌<◌, true, List, length, get_or, drop, refl, None, Some, take, Option, Result, min, slice_range}
use Rattle.std.proofs.lemmas.List.{take_min}
use Rattle.restamp_place.proofs.WordLemmas.{tail_range}
use Rattle.restamp_formats.specs.Reading.{IsDated}
use Rattle.restamp_formats.specs.Reason.{Reason}
use Rattle.restamp_formats.specs.declared.reading.Reading.{Reading}
use Rattle.restamp_formats.specs.declared.reading.Match.{Match}
use Rattle.restamp_lines.specs.Job.{alone, MatchesAlone, AreTriedAlone}
use Rattle.restamp_lines.specs.declared.job.Job.{Job}
use Rattle.restamp_lines.specs.declared.job.TheConstants.{REACH}
use Rattle.restamp_formats.proofs.ParseLemmas.{at_item}

-- the bytes of a line from byte k on
abbrev rest : List ℕ → ℕ → List ℕ
rest line k = slice_range line k (length line)

-- the first `REACH` bytes of the rest decide
pub alone-read : (job : Job) (line : List ℕ) (k : ℕ) (format : Reading) (n : ℕ) → n ≡ min REACH (length (rest line k))
    → (read : Result Match Reason) (result : Option Match) → IsDated format true (take n (rest line k)) job.defaults read
    → result ≡ alone line k read → MatchesAlone job line k format result
alone-read job line k format n reach read result says is =
    (read, rw (reach, take_min REACH (rest line k), tail_range k line) at says, is)

-- the match by formats that are tried in turn
module _ (job : Job) (line : List ℕ) (k : ℕ) (formats : List Reading) (i : ℕ) (format : Reading)
    (below : i < length formats) (is : format ≡ get_or formats i format) where
  pub alone-here : (s : Match) → MatchesAlone job line k format (Some s)
      → AreTriedAlone job line k (drop i formats) (Some s)
  alone-here s says = rw (at_item formats i format below is) (Some s, says, refl)

  pub alone-later : (result : Option Match) → MatchesAlone job line k format None
      → AreTriedAlone job line k (drop (i + 1) formats) result → AreTriedAlone job line k (drop i formats) result
  alone-later result says later = rw (at_item formats i format below is) (None, says, later)
