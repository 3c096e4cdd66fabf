-- Blanks and comments between the parts of a mail date: RFC 2822, sections 3.2.1 to 3.2.3, 4.2 and 4.3.
-- A rule of the RFC may match bytes in several ways. Here the first alternative that matches counts, and repetitions
-- are greedy.
use Rattle.std.specs.Prelude.{ℕ, zero, suc, Bool, ◌||◌, ◌==◌, Some, None, if◌then◌else◌, is_some, List, [], ◌∷◌, ◌&&◌, not, ℤ, pos, neg_ℤ, codes, Option, option_map}
use Rattle.std.specs.Int.{is_in_range}
use Rattle.std.specs.Str.{str_to_ascii_lowercase, bytes_eq}
use Rattle.std.specs.Char.{to_ascii_lowercase, is_ascii_lowercase}
use Rattle.time_readers.specs.Readers.{Reader, one_of, char, ◌then◌, ◌or◌, optional, zero_or_more, one_or_more}

-- WSP: a space or a tab
abbrev pub is_blank : ℕ → Bool
is_blank c = c == 32 || c == 9

-- 1*WSP: one or more spaces and tabs, all that come before the first other byte
unfoldable pub blanks : Reader
blanks = one_or_more (one_of is_blank)

-- CRLF, the end of a line
abbrev pub crlf : Reader
crlf = one_of (λ c. c == 13) then one_of (λ c. c == 10)

-- CRLF 1*WSP, which folds a line: its end, and the blanks at the start of the next
unfoldable pub line_fold : Reader
line_fold = crlf then blanks

-- consumes nothing if no CRLF comes next, and else rejects
unfoldable pub no_crlf : Reader
no_crlf s = if is_some (crlf s) then None else Some s

-- FWS (section 3.2.3): [*WSP CRLF] 1*WSP, which is blanks and one fold at most, or obs-FWS (section 4.2), which is
-- blanks and any number of folds. A fold that comes first is taken alone; after blanks, each CRLF must begin a fold.
unfoldable pub fws : Reader
fws = line_fold or blanks then zero_or_more line_fold then no_crlf

-- ctext (section 3.2.3): NO-WS-CTL of section 3.2.1, or a printable character except space, parentheses and backslash
abbrev pub is_text : ℕ → Bool
is_text c =
    is_in_range 1 8 c || c == 11 || c == 12 || is_in_range 14 31 c || is_in_range 33 39 c || is_in_range 42 91 c
    || is_in_range 93 127 c

-- text (section 3.2.1): an ASCII character other than NUL, CR and LF
abbrev pub is_quotable : ℕ → Bool
is_quotable c = is_in_range 1 9 c || c == 11 || c == 12 || is_in_range 14 127 c

-- quoted-pair (section 3.2.2): a backslash and the character that it quotes
abbrev pub quoted_pair : Reader
quoted_pair = char "\\" then one_of is_quotable

-- ccontent (section 3.2.3): ctext, a quoted-pair or a comment, which the reader `inner` defines
abbrev pub content : Reader → Reader
content inner = one_of is_text or quoted_pair or inner

-- comment (section 3.2.3) after its `(`: any number of FWS and ccontent, in any order, and `)`
unfoldable pub comment_end : Reader → Reader
comment_end inner = zero_or_more fws then zero_or_more (content inner then zero_or_more fws) then char ")"

-- comment (section 3.2.3), nested at most n deep, counting the outermost. The RFC has no such bound.
unfoldable pub comment : ℕ → Reader
comment zero s = None
comment (suc n) s = (char "(" then comment_end (comment n)) s

-- CFWS (section 3.2.3): FWS and comments, one or more, with comments nested at most 31 deep
unfoldable pub cfws : Reader
cfws = one_or_more (fws or comment 31)

-- [CFWS]: the blanks and comments that `cfws` consumes, or no bytes if it rejects
unfoldable pub opt_cfws : Reader
opt_cfws = optional cfws

-- the `:` of time-of-day (section 3.3), which has [CFWS] on both sides by obs-hour, obs-minute and obs-second (section
-- 4.3)
unfoldable pub opt_cfws_colon_opt_cfws : Reader
opt_cfws_colon_opt_cfws = opt_cfws then char ":" then opt_cfws

-- ---- Zone names of mail dates: obs-zone of RFC 2822, section 4.3, which is an alternative to zone of section 3.3.
-- The names match in upper and lower case, like all literals of the RFC's grammar.

-- The names of three letters with their hours from UTC: four zones of North America, each by standard and by daylight
-- time, and Greenwich.
abbrev pub zone_hours : List (List ℕ × ℤ)
zone_hours =
    (codes "est", neg_ℤ (pos 5)) ∷ (codes "edt", neg_ℤ (pos 4))
    ∷ (codes "cst", neg_ℤ (pos 6)) ∷ (codes "cdt", neg_ℤ (pos 5))
    ∷ (codes "mst", neg_ℤ (pos 7)) ∷ (codes "mdt", neg_ℤ (pos 6))
    ∷ (codes "pst", neg_ℤ (pos 8)) ∷ (codes "pdt", neg_ℤ (pos 7))
    ∷ (codes "gmt", pos 0) ∷ []

-- the number beside the name in the table, or nothing if the name isn't in the table
abbrev pub beside : List ℕ → List (List ℕ × ℤ) → Option ℤ
beside name [] = None
beside name (row ∷ rows) = if bytes_eq name row.0 then Some row.1 else beside name rows

-- the hours from UTC of a name of three letters in any case, or nothing for any other name
unfoldable pub hours_of : List ℕ → Option ℤ
hours_of name = beside (str_to_ascii_lowercase name) zone_hours

-- the byte is a lower-case letter that names a military zone: each except `j`
abbrev pub is_military : ℕ → Bool
is_military c = is_ascii_lowercase c && not (c == 106)

-- A military zone, which is a letter except `j` in any case, or nothing for other bytes. Such letters have been used
-- with either sign, so by section 4.3 they mean no more than -0000: the time in UTC.
abbrev pub military_zone : List ℕ → Option (ℤ × List ℕ)
military_zone [] = None
military_zone (c ∷ rest) = if is_military (to_ascii_lowercase c) then Some (pos 0, rest) else None

-- UTC, with no rest, if the bytes are exactly `UT` in any case; or else a military zone
abbrev pub short_zone : List ℕ → Option (ℤ × List ℕ)
short_zone s = if bytes_eq (str_to_ascii_lowercase s) (codes "ut") then Some (pos 0, []) else military_zone s

-- obs-zone (section 4.3): the hours from UTC of the zone name at the front of the bytes, and the rest. Unlike in the
-- RFC, 3 bytes or more must begin with a name in `zone_hours`; fewer must be `UT` or begin with a military zone.
unfoldable pub zone_literal : List ℕ → Option (ℤ × List ℕ)
zone_literal (a ∷ b ∷ c ∷ rest) = option_map (λ hours. (hours, rest)) (hours_of (a ∷ b ∷ c ∷ []))
zone_literal s = short_zone s
