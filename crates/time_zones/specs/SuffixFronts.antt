-- No public contract rests on this file.
-- The parts that a text begins with: brackets, a zone, a tag.
use Rattle.std.specs.Prelude.{◌≡◌, ◌||◌, ◌==◌, ℕ, Bool, List, ◌∷◌, ◌++◌, All, Option, Some}
use Rattle.std.specs.List.{AllPass}
use Rattle.time_zones.specs.Suffix.{is_zone_char, IsSuffixKey, AreSuffixValues, bracketed, ZoneTag, Tag, IsZoneTagIfAny, tag_text, IsSuffixTag, tags_text}

-- whether brackets may contain the byte, after a flag: an ASCII letter or digit, or one of `._-+/:=`
abbrev pub is_bracket_char : ℕ → Bool
is_bracket_char b = is_zone_char b || b == 47 || b == 58 || b == 61

-- the text is suffix-key "=" suffix-values, with that key and these values
pub record IsKeyed (text key values : List ℕ) : Type 0 where
  pub whole : text ≡ key ++ 61 ∷ values
  pub is_key : IsSuffixKey key
  pub are_values : AreSuffixValues values

-- the text begins with these brackets, followed by the rest
pub record BeginsBracketed (text : List ℕ) (is_critical : Bool) (inside rest : List ℕ) : Type 0 where
  pub whole : text ≡ bracketed is_critical inside ++ rest
  pub are_bracket_chars : AllPass is_bracket_char inside

-- the text is that zone in brackets, followed by the rest; or without a zone, the rest alone
pub record BeginsWithZone (text : List ℕ) (zone : Option ZoneTag) (rest : List ℕ) : Type 0 where
  pub front : List ℕ
  pub whole : text ≡ front ++ rest
  pub is_zone : IsZoneTagIfAny front zone

-- the text begins with no zone in brackets
abbrev pub HasNoZone : List ℕ → Type 0
HasNoZone text = (z : ZoneTag) (rest : List ℕ) → BeginsWithZone text (Some z) rest → ⊥

-- the text begins with a tag, followed by the rest
pub record BeginsWithTag (text : List ℕ) (t : Tag) (rest : List ℕ) : Type 0 where
  pub whole : text ≡ tag_text t ++ rest
  pub is_tag : IsSuffixTag t

-- the text begins with no tag
abbrev pub HasNoTag : List ℕ → Type 0
HasNoTag text = (t : Tag) (rest : List ℕ) → BeginsWithTag text t rest → ⊥

-- the text begins with these tags, followed by the rest, which begins with no tag
pub record BeginsWithTags (text : List ℕ) (tags : List Tag) (rest : List ℕ) : Type 0 where
  pub whole : text ≡ tags_text tags ++ rest
  pub are_tags : All IsSuffixTag tags
  pub last : HasNoTag rest
