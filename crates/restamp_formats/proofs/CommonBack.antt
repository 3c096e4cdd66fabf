-- The timestamps of access logs parse back.
use Rattle.std.proofs.Common.{Option, MatchOption, bytes_eq, unsigned_abs, ◌≡◌, ◌≢◌, ℕ, List, [], true, false, None, Some, Ok, Err, ap, sym, ◌∙◌, refl, subst, codes, pos, ◌∷◌, arith}
use Rattle.std.proofs.lemmas.{Bool.false_from_ne_true, Slice.Eq.bytes_eq-Decides}
use Rattle.time_digits.specs.{Digits.NoDigitFirst, declared.Padding.TheVariants.Zero}
use Rattle.time_descriptions.specs.Items.{Item, items_of, trees_of, literal, component}
use Rattle.time_descriptions.specs.Values.{component_names, modifier_keys, representations, signs, look_up}
use Rattle.time_descriptions.specs.{Components.Read, Components.modifier, Components.modifiers, Components.bracketed, Grammar.leaf, Grammar.group_word, Grammar.items_by, Grammar.item, declared.leaf.Version.Version, Modifiers.component_of}
use Rattle.time_formatting.specs.{Components.SignedStops, Components.PaddedStops, Numbers.year_sign}
use Rattle.time_values.specs.Dates as Dates
use Rattle.time_values.specs.Offsets as Offsets
use Rattle.time_values.specs.Times as Times
use Rattle.restamp_formats.specs.Common.{offset_date, offset_time, offset_of, greatest_year, is_behind, OffsetDateTime, Tree, sequence, steps_shape, Step, shape, version_of, Describes, DescribesStrftime, Description, Record, empty, Named, Reading, MOST_STEPS, Component, Writing}
use Rattle.restamp_formats.specs.Naming.{FormatName, counted, complete, brackets, strftime, unknown, format_name_of, description_name, writing_named, meaning_of, as_tree, Means, common_text, as_complete}
use Rattle.restamp_formats.specs.ComponentValues.{pieces, AllStop, DeterminesMoment, ReadsTree, no_defaults, clock, HasAll}
use Rattle.restamp_formats.specs.Laws.{OneTree, CommonReadsBack}
use Rattle.restamp_formats.proofs.ComponentValueLemmas.{says_all_told, signs_tell}

-- ---- A text that names both a format to parse by and a description to write by has one tree

items_in : Read (List Item) → List Item
items_in (Ok x) = x.0
items_in (Err e) = []

pub one_description : (version : Version) (text : List ℕ) (a b : Tree) → Describes version text a → Describes version text b → a ≡ b
unfolding Describes items_in
one_description version text a b x y =
    x.2 ∙ ap (λ (is : List Item). sequence (trees_of (items_of is))) (ap items_in (sym x.1 ∙ y.1)) ∙ sym y.2

one_strftime : (text : List ℕ) (a b : Tree) → DescribesStrftime text a → DescribesStrftime text b → a ≡ b
unfolding DescribesStrftime
one_strftime text a b x y = x.1 ∙ sym y.1

-- the format with a tree as its meaning
abbrev ByTree : Reading → Tree → Type 0
ByTree format tree = (e : List Step) × (format ≡ Reading.Described e) × (steps_shape e ≡ tree)

by_tree : (format : Reading) (tree : Tree) → meaning_of format ≡ as_tree tree → ByTree format tree
by_tree (Reading.Described d) tree e = let same : steps_shape d ≡ tree = cc in (d, refl, same)
by_tree format tree e = absurd cc

pub same_as_tree : (a b : Tree) → as_tree a ≡ as_tree b → a ≡ b
same_as_tree a b e = cc

-- the name of a format has one tree
one_format_name : (way : FormatName) (format : Reading) (tree : Tree) → Means way (meaning_of format) → Means way (as_tree tree) → ByTree format tree
one_format_name (counted text) format tree means writes = let e = writes.2 in absurd cc
one_format_name (complete text) format tree means writes = let e = writes.2 in absurd cc
one_format_name (brackets text) format tree (a, describes, is) (b, also, e) =
    by_tree format tree (is ∙ ap as_tree (one_description (version_of 2) text a b describes also ∙ sym (same_as_tree tree b e)))
one_format_name (strftime text) format tree (a, describes, is) (b, also, e) =
    by_tree format tree (is ∙ ap as_tree (one_strftime text a b describes also ∙ sym (same_as_tree tree b e)))
one_format_name unknown format tree means writes = absurd means
one_format_name way format tree means writes = absurd cc

-- a text with a description isn't that name
not_that : (text name : List ℕ) → description_name text ≢ unknown → description_name name ≡ unknown → bytes_eq text name ≡ false
not_that text name known none =
    false_from_ne_true _ (λ e. known (ap description_name ((bytes_eq-Decides text name).0 e) ∙ none))

module _ (text : List ℕ) (known : description_name text ≢ unknown) (unnamed : writing_named text ≡ None) where
  same_way : format_name_of text ≡ description_name text
  same_way =
      let common = not_that text (codes "common") known refl in
      let syslog = not_that text (codes "syslog") known refl in
      grind arith

by_name : (text : List ℕ) (format : Reading) (d : Description MOST_STEPS) (name : Option Named) → writing_named text ≡ name
    → Means (format_name_of text) (meaning_of format)
    → MatchOption name
    ((e : Description MOST_STEPS) × Means (description_name text) (as_tree (shape e)) × (Writing.Described d ≡ Writing.Described e))
    (λ n. Writing.Described d ≡ Writing.Named n)
    → ByTree format (shape d)
by_name text format d None unnamed means (e, writes, same) =
    let way = same_way text (λ none. subst (λ (w : FormatName). Means w (as_tree (shape e))) none writes) unnamed in
    let one : e ≡ d = cc in
    one_format_name (description_name text) format (shape d) (subst (λ (w : FormatName). Means w (meaning_of format)) way means)
    (subst (λ (x : Description MOST_STEPS). Means (description_name text) (as_tree (shape x))) one writes)
by_name text format d (Some n) unnamed means is = absurd cc

pub one_tree : OneTree
one_tree text format d means writes = by_name text format d (writing_named text) refl means writes

same_described : (d e : Description MOST_STEPS) → Writing.Described d ≡ Writing.Described e → d ≡ e
same_described d e same = cc

-- the items of the description of access logs
abbrev common_items : List Item
common_items =
    component (Component.Day (record { padding = Zero }))
    ∷ literal 47 []
    ∷ component (Component.MonthShort (record { case_sensitive = true }))
    ∷ literal 47 []
    ∷ component (Component.CalendarYearFullExtendedRange (record { padding = Zero; sign_is_mandatory = false }))
    ∷ literal 58 []
    ∷ component (Component.Hour24 (record { padding = Zero }))
    ∷ literal 58 []
    ∷ component (Component.Minute (record { padding = Zero }))
    ∷ literal 58 []
    ∷ component (Component.Second (record { padding = Zero }))
    ∷ literal 32 []
    ∷ component (Component.OffsetHour (record { padding = Zero; sign_is_mandatory = true }))
    ∷ component (Component.OffsetMinute (record { padding = Zero }))
    ∷ []

abbrev common_tree : Tree
common_tree = sequence (trees_of (items_of common_items))

describes_common : Describes (version_of 2) common_text common_tree
unfolding Describes leaf group_word items_by item modifier modifiers bracketed component_of component_names modifier_keys representations signs look_up
describes_common = (common_items, refl, refl)

-- a colon isn't a digit
no_digit : (sign rest : List ℕ) → SignedStops sign NoDigitFirst (PaddedStops Zero) (58 ∷ rest)
no_digit [] rest = tt
no_digit (c ∷ cs) rest = λ h. omega (arith, h)

module _ (v : OffsetDateTime) (none : Times.nanosecond (offset_time v) ≡ 0) (minutes : Offsets.seconds (offset_of v) ≡ pos 0) where
  stops : AllStop v (pieces common_tree)
  stops = (tt, (tt, (no_digit (year_sign false (Dates.year (offset_date v))) _, (tt, (tt, (tt, (tt, (tt, tt))))))))

  -- the record with the values of all components
  abbrev after : Record
  after = record empty {
    day = Some (Dates.day (offset_date v));
    month = Some (Dates.month (offset_date v));
    year = Some (Dates.year (offset_date v));
    hour_24 = Some (Times.hour (offset_time v));
    minute = Some (Times.minute (offset_time v));
    second = Some (Times.second (offset_time v));
    offset_hour = Some (Offsets.hours (offset_of v));
    offset_minute = Some (pos (unsigned_abs (Offsets.minutes (offset_of v))));
    offset_is_negative = is_behind (offset_of v);
  }

  has_all : HasAll after v
  has_all = record {
    date = (refl, (refl, refl));
    time = ap (λ n. Some (record (clock (offset_time v)) { nanosecond = n })) (sym none);
    offset = (refl, (signs_tell (offset_of v)).0, sym minutes);
    no_count = refl;
  }

  says : DeterminesMoment common_tree no_defaults v
  says = says_all_told v common_tree no_defaults after stops refl has_all

-- the format of that name
complete_tree : (format : Reading) (tree : Tree) → meaning_of format ≡ as_complete tree
    → (e : List Step) × (format ≡ Reading.Complete e) × (steps_shape e ≡ tree)
complete_tree (Reading.Complete d) tree e = let same : steps_shape d ≡ tree = cc in (d, refl, same)
complete_tree format tree e = absurd cc

pub common_reads_back : CommonReadsBack
common_reads_back v format defaults d (read_tree, reads, is) (e, (tree, writes, same), one) none minutes =
    let here : shape d ≡ common_tree = ap (λ (x : Description MOST_STEPS). shape x) (same_described d e one) ∙ same_as_tree (shape e) tree same
    ∙ one_description (version_of 2) common_text tree common_tree writes describes_common in
    let there = one_description (version_of 2) common_text read_tree common_tree reads describes_common in
    let (c, format_is, tree_is) = complete_tree format read_tree is in
    subst (λ (f : Reading). ReadsTree f defaults (shape d) v) (sym format_is)
    (tree_is ∙ there ∙ sym here, subst (λ (t : Tree). DeterminesMoment t no_defaults v) (sym here) (says v none minutes))
