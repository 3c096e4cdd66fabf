-- Formats by their names, and by descriptions.
use Rattle.std.specs.Prelude.{◌≡◌, ◌==◌, if◌then◌else◌}
use Rattle.std.specs.{List.list_any, Str.bytes_eq}
use Rattle.time_descriptions.specs.{Description.IsRefused, Refusal.Refusal, Refusal.refusal_of, Refusal.refusal_text, Strftime.IsRefusedStrftime}
use Rattle.restamp_formats.specs.declared.naming.FormatName as declared
use Rattle.restamp_formats.specs.Common.{Bool, ℕ, List, codes, Option, None, Some, MatchOption, Tree, steps_shape, shape, version_of, Describes, DescribesStrftime, Description, Seconds, Milliseconds, Microseconds, Nanoseconds, Named, Writing, Reading, MOST_STEPS}
use Rattle.restamp_formats.specs.declared.naming.FormatFault.{FormatFault}

-- How a text names an input format: by one of three names; by a description in brackets, `counted` for `unix` (a number
-- of seconds), `complete` for `common` (parsed without defaults), otherwise `brackets`; or by a description as in
-- strftime. `unknown` is none of them.
pub data FormatName : Type 0 where
  rfc3339 : FormatName
  rfc2822 : FormatName
  iso8601 : FormatName
  counted : List ℕ → FormatName
  complete : List ℕ → FormatName
  brackets : List ℕ → FormatName
  strftime : List ℕ → FormatName
  unknown : FormatName

-- a `FormatName` of the code, without the addresses of its texts
abbrev pub erased_format_name : declared.FormatName → FormatName
erased_format_name declared.FormatName.Rfc3339 = rfc3339
erased_format_name declared.FormatName.Rfc2822 = rfc2822
erased_format_name declared.FormatName.Iso8601 = iso8601
erased_format_name (declared.FormatName.Counted text) = counted text.now
erased_format_name (declared.FormatName.Complete text) = complete text.now
erased_format_name (declared.FormatName.Brackets text) = brackets text.now
erased_format_name (declared.FormatName.Strftime text) = strftime text.now
erased_format_name declared.FormatName.Unknown = unknown

-- the list has the byte
abbrev pub has : ℕ → List ℕ → Bool
has byte bytes = list_any (λ b. b == byte) bytes

-- the kind of a description: in brackets if the text has a `[`, else as in strftime if it has a `%`, else `unknown`
abbrev pub description_name : List ℕ → FormatName
description_name name = if has 91 name then brackets name else if has 37 name then strftime name else unknown

-- the description of the timestamps of access logs, for the name `common`
abbrev pub common_text : List ℕ
common_text =
    codes "[day]/[month repr:short]/[year]:[hour]:[minute]:[second] [offset_hour sign:mandatory][offset_minute]"

-- how a text names an input format: by one of nine names, of which six mean a description; or by `description_name`
abbrev pub format_name_of : List ℕ → FormatName
format_name_of name =
    if bytes_eq name (codes "rfc3339") then rfc3339 else
    if bytes_eq name (codes "rfc2822") then rfc2822 else
    if bytes_eq name (codes "iso8601") then iso8601 else
    if bytes_eq name (codes "unix") then counted (codes "[unix_timestamp][optional [.[subsecond]]]") else
    if bytes_eq name (codes "unix-ms") then brackets (codes "[unix_timestamp precision:millisecond]") else
    if bytes_eq name (codes "unix-us") then brackets (codes "[unix_timestamp precision:microsecond]") else
    if bytes_eq name (codes "unix-ns") then brackets (codes "[unix_timestamp precision:nanosecond]") else
    if bytes_eq name (codes "common") then complete common_text else
    if bytes_eq name (codes "syslog") then
    brackets (codes "[month repr:short] [day padding:space] [hour]:[minute]:[second]") else description_name name

-- The meaning of an input format: RFC 3339, RFC 9557 (which has no name here), RFC 2822 or ISO 8601; or the tree of a
-- description: one with defaults, one without defaults, or a number of seconds.
pub data Meaning : Type 0 where
  as_rfc3339 : Meaning
  as_rfc9557 : Meaning
  as_rfc2822 : Meaning
  as_iso8601 : Meaning
  as_tree : Tree → Meaning
  as_complete : Tree → Meaning
  as_count : Tree → Meaning

-- which of the meanings an input format has, with the tree of its description
abbrev pub meaning_of : Reading → Meaning
meaning_of Reading.Rfc3339 = as_rfc3339
meaning_of (Reading.Zoned zones) = as_rfc9557
meaning_of Reading.Rfc2822 = as_rfc2822
meaning_of Reading.Iso8601 = as_iso8601
meaning_of (Reading.Described d) = as_tree (steps_shape d)
meaning_of (Reading.Complete d) = as_complete (steps_shape d)
meaning_of (Reading.Counted d) = as_count (steps_shape d)

-- why a text names no format: it is neither a name nor a description, or the description is invalid or too long
pub data Fault : Type 0 where
  unnamed : Fault
  faulty : Refusal → Fault

-- an error of the code, without the addresses of its texts
abbrev pub fault_of : FormatFault → Fault
fault_of FormatFault.Unknown = unnamed
fault_of (FormatFault.Description e) = faulty (refusal_of e)

-- the meaning of a format that a text names in that way; none for an invalid description or for `unknown`
abbrev pub Means : FormatName → Meaning → Type 0
Means rfc3339 meaning = meaning ≡ as_rfc3339
Means rfc2822 meaning = meaning ≡ as_rfc2822
Means iso8601 meaning = meaning ≡ as_iso8601
Means (counted text) meaning = (tree : Tree) × Describes (version_of 2) text tree × (meaning ≡ as_count tree)
Means (complete text) meaning = (tree : Tree) × Describes (version_of 2) text tree × (meaning ≡ as_complete tree)
Means (brackets text) meaning = (tree : Tree) × Describes (version_of 2) text tree × (meaning ≡ as_tree tree)
Means (strftime text) meaning = (tree : Tree) × DescribesStrftime text tree × (meaning ≡ as_tree tree)
Means unknown meaning = ⊥

-- the error of a text that names a format in that way: it is unknown, or its description is invalid or has more than
-- 256 steps
abbrev pub IsFault : FormatName → Fault → Type 0
IsFault rfc3339 f = ⊥
IsFault rfc2822 f = ⊥
IsFault iso8601 f = ⊥
IsFault (counted text) f = (r : Refusal) × IsRefused MOST_STEPS (version_of 2) text r × (f ≡ faulty r)
IsFault (complete text) f = (r : Refusal) × IsRefused MOST_STEPS (version_of 2) text r × (f ≡ faulty r)
IsFault (brackets text) f = (r : Refusal) × IsRefused MOST_STEPS (version_of 2) text r × (f ≡ faulty r)
IsFault (strftime text) f = (r : Refusal) × IsRefusedStrftime MOST_STEPS text r × (f ≡ faulty r)
IsFault unknown f = f ≡ unnamed

-- the output format of that name; `None` for any other text
abbrev pub writing_named : List ℕ → Option Named
writing_named name =
    if bytes_eq name (codes "rfc3339") then Some Named.Rfc3339 else
    if bytes_eq name (codes "rfc2822") then Some Named.Rfc2822 else
    if bytes_eq name (codes "iso8601") then Some Named.Iso8601 else
    if bytes_eq name (codes "unix") then Some (Named.Count Seconds) else
    if bytes_eq name (codes "unix-ms") then Some (Named.Count Milliseconds) else
    if bytes_eq name (codes "unix-us") then Some (Named.Count Microseconds) else
    if bytes_eq name (codes "unix-ns") then Some (Named.Count Nanoseconds) else None

-- The output format of a text: the one of that name, otherwise the one that it describes. There is none if it is
-- neither, or the description is invalid or has more than 256 steps.
abbrev pub MeansWriting : List ℕ → Writing → Type 0
MeansWriting name result =
    MatchOption (writing_named name)
    ((d : Description MOST_STEPS) × Means (description_name name) (as_tree (shape d)) × (result ≡ Writing.Described d))
    (λ n. result ≡ Writing.Named n)

-- the error of a text that names no output format: it is none of the names, and is no description, an invalid one or
-- one of more than 256 steps
abbrev pub IsWritingFault : List ℕ → Fault → Type 0
IsWritingFault name f = (writing_named name ≡ None) × IsFault (description_name name) f

-- the printed text of an error; `None`, which leaves it unspecified, for one that quotes a word of the description
abbrev pub fault_text : Fault → Option (List ℕ)
fault_text unnamed = Some (codes "no format has this name, and a description has a `[` or a `%`")
fault_text (faulty refusal) = refusal_text refusal
