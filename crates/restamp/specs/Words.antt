-- No public contract rests on this file.
--
-- The words of the command line.
use Rattle.std.specs.Prelude.{ℕ, List, [], ◌∷◌, ◌++◌, codes, true}
use Rattle.std.specs.Fmt.{decimal}
use Rattle.restamp_stream.specs.Reports.{displayed_as}

-- the line that reports that the word of that number isn't UTF-8, with its LF; the program's name is word 0
abbrev pub unread_text : ℕ → List ℕ → List ℕ
unread_text number word =
    codes "restamp: argument "
    ++ (decimal number ++ (codes " is not UTF-8: '" ++ (displayed_as true word ++ 39 ∷ 10 ∷ [])))
