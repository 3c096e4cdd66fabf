-- The values of the command line, as `clap` matches them.
use Rattle.std.specs.Prelude.{◌≡◌, ℕ, Bool, true, false, List, [], ◌∷◌, codes, map, drop, unwrap_or, Option, None, Some}
use Rattle.std.specs.Borrow.{Bor}
use Rattle.std.specs.Option.{option_map}
use Rattle.clap.specs.Matches.{first_value, matched_of, one_text, raw_values}
use Rattle.clap.specs.declared.parser.matches.Found.{Found}
use Rattle.restamp_command.specs.declared.options.Options.{Options}

-- A flag is true if its matched text is `true`, and false if that is `false` or if there is none.
abbrev pub IsFlag : Found → List ℕ → Bool → Type 0
IsFlag f id flag =
    (one_text f id ≡ Some (codes "true") → flag ≡ true) × (one_text f id ≡ Some (codes "false") → flag ≡ false)
    × (one_text f id ≡ None → flag ≡ false)

-- the text behind a reference; `None` without one
abbrev pub text_behind : Option (Bor (List ℕ)) → Option (List ℕ)
text_behind = option_map (λ t. t.now)

-- the first value of an option, given or by default; the empty text without one
abbrev pub text_given : Found → List ℕ → List ℕ
text_given f id = unwrap_or (first_value f id) []

-- all values of an option, given or by default, in order; empty without one
abbrev pub values_of : Found → List ℕ → List (List ℕ)
values_of f id = unwrap_or (option_map raw_values (matched_of f id)) []

-- the two texts of `--between`; `None` unless there are exactly two
abbrev pub pair_of : List (List ℕ) → Option (List ℕ × List ℕ)
pair_of (first ∷ second ∷ []) = Some (first, second)
pair_of texts = None

-- the first of the values of `--from`; `rfc3339` if there is none
abbrev pub first_format : List (List ℕ) → List ℕ
first_format [] = codes "rfc3339"
first_format (name ∷ names) = name

-- the texts behind a reference to texts; `None` without one
abbrev pub texts_behind : Option (Bor (List (Bor (List ℕ)))) → Option (List (List ℕ))
texts_behind = option_map (λ texts. map (λ t. t.now) texts.now)

-- the names of all formats of `--from` but the first; empty if there are fewer than two
abbrev pub other_names : Options → List (List ℕ)
other_names o = drop 1 (unwrap_or (texts_behind o.formats) [])

-- The options have the values that `clap` matched: each field that of the option of its name, but `local` that of
-- `--in`, `from` the first of `--from`, and `formats` all of them.
pub record AreGiven (f : Found) (o : Options) : Type 0 where
  pub front : IsFlag f (codes "front") o.front
  pub anywhere : IsFlag f (codes "anywhere") o.anywhere
  pub field : text_behind o.field ≡ first_value f (codes "field")
  pub delimiter : o.delimiter.now ≡ text_given f (codes "delimiter")
  pub blanks : IsFlag f (codes "blanks") o.blanks
  pub csv : IsFlag f (codes "csv") o.csv
  pub between : option_map (λ p. (p.0.now, p.1.now)) o.between ≡ pair_of (values_of f (codes "between"))
  pub after : text_behind o.after ≡ first_value f (codes "after")
  pub from : o.from.now ≡ first_format (values_of f (codes "from"))
  pub formats : texts_behind o.formats ≡ option_map raw_values (matched_of f (codes "from"))
  pub year : text_behind o.year ≡ first_value f (codes "year")
  pub latest : text_behind o.latest ≡ first_value f (codes "latest")
  pub offset : text_behind o.offset ≡ first_value f (codes "offset")
  pub local : text_behind o.local ≡ first_value f (codes "in")
  pub fold : text_behind o.fold ≡ first_value f (codes "fold")
  pub to : o.to.now ≡ text_given f (codes "to")
  pub zone : o.zone.now ≡ text_given f (codes "zone")
  pub utc : IsFlag f (codes "utc") o.utc
  pub digits : o.digits.now ≡ text_given f (codes "digits")
  pub only : IsFlag f (codes "only") o.only
  pub since : text_behind o.since ≡ first_value f (codes "since")
  pub until : text_behind o.until ≡ first_value f (codes "until")
  pub drop_refused : IsFlag f (codes "drop-refused") o.drop_refused
  pub quiet : IsFlag f (codes "quiet") o.quiet
  pub errors : o.errors.now ≡ text_given f (codes "errors")
  pub color : o.color.now ≡ text_given f (codes "color")
  pub strict : IsFlag f (codes "strict") o.strict
  pub keep_going : IsFlag f (codes "keep-going") o.keep_going
  pub in_place : text_behind o.in_place ≡ first_value f (codes "in-place")
