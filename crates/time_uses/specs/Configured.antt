-- The date of a text by a description, where both are texts.
use Rattle.std.specs.Prelude.{ℕ, List, Result, Ok, Err}
use Rattle.time.specs.Types.{Date, VersionTwo}
use Rattle.time.specs.Words.{greatest_year, Tree, Describes, IsRefused, IsDated, IsOutcome, Refusal, empty, refusal_of}
use Rattle.time.specs.descriptions.Refusal as Descriptions
use Rattle.time.specs.records.Reading.{Reads, Refuses}
use Rattle.time_uses.specs.declared.NoDate.{NoDate}
use Rattle.time_uses.specs.declared.NoDate.TheVariants as why

-- The description, of version 2, describes a tree, and parsing the whole text by it has this outcome: a date or an
-- error.
abbrev pub HasOutcome : List ℕ → List ℕ → Result Date Refusal → Type 0
HasOutcome description text outcome =
    (t : Tree) × Describes VersionTwo description t
    × IsOutcome (IsDated greatest_year) (Reads greatest_year t) (Refuses greatest_year t) text empty outcome

-- The result is the date of the text by the description, or the error of the text; or, of a rejected description, its
-- error, with room for 64 steps.
abbrev pub IsConfigured : List ℕ → List ℕ → Result Date NoDate → Type 0
IsConfigured description text (Ok date) = HasOutcome description text (Ok date)
IsConfigured description text (Err (why.Text error)) = HasOutcome description text (Err (refusal_of error))
IsConfigured description text (Err (why.Description error)) =
    IsRefused 64 VersionTwo description (Descriptions.refusal_of error)
