-- The requests that the arguments make.
use Rattle.std.specs.Prelude.{◌≡◌, ℕ, List, [], ◌++◌, codes, map, replicate, Option, Some, IfSome, ◌&&◌, nat_le, if◌then◌else◌, ◌⊎◌, ◌==◌, None, Bool, ◌∷◌, true, false}
use Rattle.std.specs.Option.{option_map}
use Rattle.std.specs.List.{list_any}
use Rattle.std.specs.Str.{bytes_eq}
use Rattle.time_components.specs.Tree.{steps_shape, Tree}
use Rattle.time_descriptions.specs.Refusal as description
use Rattle.time_descriptions.specs.Refusal.{Refusal, index_of}
use Rattle.time_descriptions.specs.Grammar.{by_option, Describes}
use Rattle.time_descriptions.specs.Description.{IsRefused, version_of}
use Rattle.time_descriptions.specs.Strftime.{DescribesStrftime, IsRefusedStrftime}
use Rattle.programs_answers.specs.Formats.{format_named, target_named}
use Rattle.programs_answers.specs.Output.{IsDescribed, IsParsed}
use Rattle.programs_answers.specs.declared.formats.Format.{Format}
use Rattle.programs_answers.specs.declared.formats.Target.{Target}
use Rattle.time_parse.specs.declared.arguments.Fault.{Fault}
use Rattle.time_parse.specs.declared.arguments.Fault.TheVariants as fault
use Rattle.time_parse.specs.declared.request.TheConstants.{MOST_STEPS}
use Rattle.time_parse.specs.declared.request.Chosen.{Chosen}
use Rattle.time_parse.specs.declared.request.Chosen.TheVariants as chosen
use Rattle.time_parse.specs.declared.request.Version.{Version}
use Rattle.time_parse.specs.declared.request.Version.TheVariants as version
use Rattle.time_parse.specs.declared.request.Writing.{Writing}
use Rattle.time_parse.specs.declared.request.Writing.TheVariants as writing
use Rattle.time_parse.specs.declared.arguments.Command.{Command}
use Rattle.time_parse.specs.declared.arguments.Command.TheVariants as command

-- ---- Faults of the arguments, with the bytes of the argument by value, and how they are reported

-- Why the arguments are rejected. Each reason has the faulty argument, and that of a description also its error.
pub data Reason : Type 0 where
  unknown_format : List ℕ → Reason
  faulty : List ℕ → Refusal → Reason
  unknown_target : List ℕ → Reason

-- The reason of a fault, with its argument as bytes.
abbrev pub reason_of : Fault → Reason
reason_of (fault.UnknownFormat name) = unknown_format name.now
reason_of (fault.Description format error) = faulty format.now (description.refusal_of error)
reason_of (fault.UnknownTarget name) = unknown_target name.now

-- The message of a reason; none, so unspecified, if it quotes a faulty name, modifier, letter or flag of a description.
abbrev pub reason_text : Reason → Option (List ℕ)
reason_text (unknown_format name) = Some (codes "no format has this name, and a description has a `[` or a `%`")
reason_text (faulty format refusal) = description.refusal_text refusal
reason_text (unknown_target name) = Some (codes "no target has this name")

-- The faulty argument, and the byte index of the fault in it, 0 for an unknown name; none for a description with too
-- many steps.
abbrev pub place_of : Reason → Option (List ℕ × ℕ)
place_of (unknown_format name) = Some (name, 0)
place_of (faulty format refusal) = option_map (λ index. (format, index)) (index_of refusal)
place_of (unknown_target name) = Some (name, 0)

-- The byte as it is printed: itself if it is a printable character of ASCII, else `?`.
abbrev pub printable : ℕ → ℕ
printable byte = if nat_le 32 byte && nat_le byte 126 then byte else 63

-- Two lines, each with LF: the bytes, as by `printable`, after two spaces, and a caret below the byte at that index, or
-- further right if the bytes end before it.
abbrev pub caret_lines : List ℕ → ℕ → List ℕ
caret_lines bytes index = codes "  " ++ map printable bytes ++ codes "\n  " ++ replicate index 32 ++ codes "^\n"

-- The lines of a report: `error: ` and the message, and if the fault has an index, the argument and a caret below it.
-- An unspecified message may be any text.
abbrev pub IsReport : Reason → List ℕ → Type 0
IsReport reason lines =
    (why : List ℕ) × IfSome (reason_text reason) (λ text. why ≡ text)
    × (lines ≡ codes "error: " ++ why ++ codes "\n"
    ++ by_option [] (λ place. caret_lines place.0 place.1) (place_of reason))

-- The meaning of a format: a named format, or the tree of a description.
pub data Meaning : Type 0 where
  named : Format → Meaning
  described : Tree → Meaning

-- The meaning of the format that was chosen.
abbrev pub meaning_of : Chosen → Meaning
meaning_of (chosen.Named format all) = named format
meaning_of (chosen.Described steps) = described (steps_shape steps)

-- The number of a version of descriptions: 1 or 2.
abbrev pub number_of : Version → ℕ
number_of version.One = 1
number_of version.Two = 2

-- Whether the bytes contain the byte.
abbrev pub has : ℕ → List ℕ → Bool
has byte bytes = list_any (λ b. b == byte) bytes

-- How a format is written: by its name, else in brackets if it contains `[`, else in strftime's syntax if it contains
-- `%`; unknown for any other text.
abbrev pub writing_of : List ℕ → Writing
writing_of format =
    by_option (if has 91 format then writing.Brackets else if has 37 format then writing.Strftime else writing.Unknown)
    writing.Name (format_named format)

-- The meaning is a tree with the property P.
abbrev pub MeansTree : (Tree → Type 0) → Meaning → Type 0
MeansTree P meaning = (tree : Tree) × P tree × (meaning ≡ described tree)

-- The meaning of a format's text in that syntax: the format of that name, or the tree of a description. The version is
-- that of a description in brackets. A text in an unknown syntax has no meaning.
abbrev pub MeansBy : Writing → Version → List ℕ → Meaning → Type 0
MeansBy (writing.Name format) version text meaning = meaning ≡ named format
MeansBy writing.Brackets version text meaning = MeansTree (Describes (version_of (number_of version)) text) meaning
MeansBy writing.Strftime version text meaning = MeansTree (DescribesStrftime text) meaning
MeansBy writing.Unknown version text meaning = ⊥

-- The meaning of a format's text, with that version of descriptions in brackets.
abbrev pub Means : Version → List ℕ → Meaning → Type 0
Means version text = MeansBy (writing_of text) version text

-- The reason is that the text is a faulty description, with an error that has the property P.
abbrev pub IsFaulty : (Refusal → Type 0) → List ℕ → Reason → Type 0
IsFaulty P text reason = (refusal : Refusal) × P refusal × (reason ≡ faulty text refusal)

-- The fault of a format's text in that syntax: the first error of a description, or that it has too many steps. A name
-- has no fault, and a text in an unknown syntax is an unknown format.
abbrev pub IsFaultBy : Writing → Version → List ℕ → Reason → Type 0
IsFaultBy (writing.Name format) version text reason = ⊥
IsFaultBy writing.Brackets version text reason =
    IsFaulty (IsRefused MOST_STEPS (version_of (number_of version)) text) text reason
IsFaultBy writing.Strftime version text reason = IsFaulty (IsRefusedStrftime MOST_STEPS text) text reason
IsFaultBy writing.Unknown version text reason = reason ≡ unknown_format text

-- The fault of a format and a target's name: that of the format, or else that of the name.
abbrev pub IsFault : Version → List ℕ → List ℕ → Reason → Type 0
IsFault version format target reason =
    IsFaultBy (writing_of format) version format reason
    ⊎ ((meaning : Meaning) × Means version format meaning × (target_named target ≡ None)
    × (reason ≡ unknown_target target))

-- The answer for the target is the printed outcome of the text, which the format of that meaning parses.
abbrev pub IsAnswer : Meaning → Target → List ℕ → List ℕ → Type 0
IsAnswer (named format) target = IsParsed format target
IsAnswer (described tree) target = IsDescribed tree target

-- ---- The words of the command line

-- What the command line requests: a page, or answers. `answers` has whether locations of errors are printed, the
-- version of a description in brackets, the format, and the target's name. Unknown words request the usage.
pub data CommandValue : Type 0 where
  help : CommandValue
  program_version : CommandValue
  answers : Bool → Version → List ℕ → List ℕ → CommandValue
  unknown : CommandValue

-- The request of a command, with its words by value.
abbrev pub value_of : Command → CommandValue
value_of command.Help = help
value_of command.Version = program_version
value_of (command.Parse question) =
    answers question.prints_places question.version question.format.now question.target.now
value_of command.Unknown = unknown

-- The request of a single word: the help, the version, or unknown.
abbrev pub page : List ℕ → CommandValue
page word =
    if bytes_eq word (codes "--help") then help else
    if bytes_eq word (codes "--version") then program_version else unknown

-- The request of the words after `--place`, or of all words without it: `[--v1] FORMAT TARGET`; unknown for other
-- words, as for `--v1` and only one word after it.
abbrev pub question_of : Bool → List (List ℕ) → CommandValue
question_of prints_places (format ∷ target ∷ []) =
    if bytes_eq format (codes "--v1") then unknown else answers prints_places version.Two format target
question_of prints_places (option ∷ format ∷ target ∷ []) =
    if bytes_eq option (codes "--v1") then answers prints_places version.One format target else unknown
question_of prints_places words = unknown

-- The request of the words after the program's name: `--help` or `--version` alone, or `[--place] [--v1] FORMAT
-- TARGET`, in this order. `--place` or `--v1`, where that option may be, is never FORMAT. Unknown for other words.
abbrev pub command_of : List (List ℕ) → CommandValue
command_of [] = unknown
command_of (word ∷ []) = page word
command_of (option ∷ words) =
    if bytes_eq option (codes "--place") then question_of true words else question_of false (option ∷ words)
