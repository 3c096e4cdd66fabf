use Rattle.std.proofs.Common.{◌≡◌, ℕ, List, ◌++◌, Bool, true, false, Option, Some, None, ap, subst, sym, ◌∙◌, inl, inr}
use Rattle.std.proofs.lemmas.Option.{none-some, same_Some}
use Rattle.time_values.specs.Calendar.{greatest_year}
use Rattle.time_values.specs.Refusal.{Refusal}
use Rattle.time_components.specs.Tree.{Tree}
use Rattle.time_readers.specs.Direct.{RefusesRfc3339, RefusesRfc2822}
use Rattle.time_descriptions.specs.Description.{version_of, OneDescription, OneStrftimeDescription}
use Rattle.time_descriptions.specs.Grammar.{Describes}
use Rattle.time_descriptions.specs.Strftime.{DescribesStrftime}
use Rattle.time_record.specs.Record.{empty}
use Rattle.time_record.specs.Laws.{OneResolution}
use Rattle.time_record.specs.Resolution.{IsDated, IsTimed, IsOffset, IsPlain, IsUtcMoment, IsMoment, IsTimestamp}
use Rattle.time_record.proofs.ResolutionLemmas.{IsDated-one, IsTimed-one, IsOffset-one, IsPlain-one, IsUtcMoment-one, IsMoment-one, IsTimestamp-one}
use Rattle.time_parsing.specs.Outcome.{IsExact, IsExactPath, Path, Reading, Refusing, Resolving, direct, over_record}
use Rattle.time_parsing.specs.exact.Laws.{tree_exact, rfc3339_exact_path, rfc2822_exact_path, iso8601_exact, rfc2822_exact, rfc3339_exact}
use Rattle.time_parsing.proofs.OneOutcome.{one_outcome, one_moment_outcome}
use Rattle.time_locating.specs.Located.{IsExactMark, IsExactPlace, Locating, Marking}
use Rattle.time_locating.specs.Misses.{LiteralReport, all_bytes, first_byte}
use Rattle.time_locating.specs.exact.PlaceLaws.{iso8601_exact_mark, iso8601_exact_place, tree_exact_mark, tree_exact_place, rfc2822_exact_mark, rfc2822_exact_place, rfc3339_exact_mark, rfc3339_exact_place}
use Rattle.time_locating.proofs.WholeTexts.{one_answer, one_index}
use Rattle.programs_answers.specs.Formats.{clock, local, unix, ymd}
use Rattle.programs_answers.specs.declared.formats.Format.{Format}
use Rattle.programs_answers.specs.declared.formats.Format.TheVariants as format
use Rattle.programs_answers.specs.Output as output
use Rattle.programs_answers.specs.declared.formats.Target.{Target}
use Rattle.programs_answers.specs.declared.formats.Target.TheVariants as target
use Rattle.programs_answers.proofs.OutputLemmas.{OneText, IsDescribed-one, IsParsed-one, WritesAnswers-one}
use Rattle.time_parse.specs.Place.{OneMeaning, OneWriting, IsRequestedAnswer, IsErrorPlace, IsNamedPlace, IsPlace, IsPlaceBy, IsPlacedAnswer, IsRefusal, IsRefusalFor, IsTreePlace, index_text, place_text, refusal_in}
use Rattle.time_parse.specs.Request.{IsAnswer, MeansBy, MeansTree, Meaning, named, described, number_of, writing_of}
use Rattle.time_parse.specs.declared.request.Version.{Version}
use Rattle.time_parse.specs.declared.request.Writing.{Writing}
use Rattle.time_parse.specs.declared.request.Writing.TheVariants as writing
use Rattle.time_parse.proofs.laws.law_one_answer.Goals as goal

-- ---- A format has one meaning, and a text has one answer

MeansTree-one : (P : Tree → Type 0) → ((a b : Tree) → P a → P b → a ≡ b)
    → (m n : Meaning) → MeansTree P m → MeansTree P n → m ≡ n
MeansTree-one P one m n h k = h.2 ∙ ap described (one h.0 k.0 h.1 k.1) ∙ sym k.2

IsAnswer-one : (meaning : Meaning) (target : Target) (text : List ℕ) → OneText (IsAnswer meaning target text)
IsAnswer-one (named format) target text = IsParsed-one format target text
IsAnswer-one (described tree) target text = IsDescribed-one tree target text

-- the printed location of an error
module _ (path : Path) (reads : Reading) (refuses : Refusing) (locates : Locating) (marks : Marking) (exact : IsExact reads refuses)
    (alone : IsExactPath greatest_year path reads refuses) (places : IsExactPlace reads locates) (one : IsExactMark marks)
    (text : List ℕ) where
  IsRefusal-one : {V : Type 0} (resolves : Resolving V) → OneResolution resolves → (x y : Option Refusal)
      → IsRefusal resolves reads refuses text x → IsRefusal resolves reads refuses text y → x ≡ y
  IsRefusal-one resolves one_value x y h k =
      h.2 ∙ ap refusal_in (one_outcome reads refuses exact resolves one_value text empty h.0 k.0 h.1 k.1) ∙ sym k.2

  IsRefusalFor-one : (t : Target) (x y : Option Refusal) → IsRefusalFor t path reads refuses text x
      → IsRefusalFor t path reads refuses text y → x ≡ y
  IsRefusalFor-one target.Date = IsRefusal-one (IsDated greatest_year) IsDated-one
  IsRefusalFor-one target.Time = IsRefusal-one IsTimed IsTimed-one
  IsRefusalFor-one target.Offset = IsRefusal-one IsOffset IsOffset-one
  IsRefusalFor-one target.Plain = IsRefusal-one (IsPlain greatest_year) IsPlain-one
  IsRefusalFor-one target.Utc = IsRefusal-one (IsUtcMoment greatest_year) IsUtcMoment-one
  IsRefusalFor-one target.DateTime = λ x y h k.
      h.2 ∙ ap refusal_in (one_moment_outcome path reads refuses exact alone IsMoment-one text None h.0 k.0 h.1 k.1) ∙ sym k.2
  IsRefusalFor-one target.Staged = IsRefusal-one (IsMoment greatest_year) IsMoment-one
  IsRefusalFor-one target.Timestamp = IsRefusal-one (IsTimestamp greatest_year) IsTimestamp-one

  IsErrorPlace-one : (refusal : Option Refusal) → OneText (IsErrorPlace reads locates marks text refusal)
  IsErrorPlace-one None x y h k = h ∙ sym k
  IsErrorPlace-one (Some e) x y h k =
      h.2 ∙ ap index_text (one_index reads locates marks places one text empty e h.0 k.0 h.1 k.1) ∙ sym k.2

  IsPlace-one : (t : Target) → OneText (IsPlace t path reads refuses locates marks text)
  IsPlace-one t x y (inl h) (inl k) =
      h.2 ∙ ap place_text (one_answer reads locates places text empty (Some h.0) (Some k.0) h.1 k.1) ∙ sym k.2
  IsPlace-one t x y (inl h) (inr k) =
      absurd (none-some _ (sym (one_answer reads locates places text empty (Some h.0) None h.1 k.0)))
  IsPlace-one t x y (inr h) (inl k) =
      absurd (none-some _ (one_answer reads locates places text empty None (Some k.0) h.0 k.1))
  IsPlace-one t x y (inr (h, refusal, is, printed)) (inr (k, same, be, other)) =
      let one_refusal = IsRefusalFor-one t refusal same is be in
      IsErrorPlace-one same x y (subst (λ r. IsErrorPlace reads locates marks text r x) one_refusal printed) other

IsTreePlace-one : (bytes : LiteralReport) (tree : Tree) (t : Target) (text : List ℕ) → OneText (IsTreePlace bytes tree t text)
IsTreePlace-one bytes tree t text =
    IsPlace-one over_record _ _ _ _ (tree_exact greatest_year tree) tt (tree_exact_place bytes tree)
    (tree_exact_mark tree) text t

IsNamedPlace-one : (f : Format) (t : Target) (text : List ℕ) → OneText (IsNamedPlace f t text)
IsNamedPlace-one format.Rfc3339 t text =
    IsPlace-one (direct (RefusesRfc3339 greatest_year)) _ _ _ _ (rfc3339_exact greatest_year) rfc3339_exact_path
    rfc3339_exact_place rfc3339_exact_mark text t
IsNamedPlace-one format.Rfc2822 t text =
    IsPlace-one (direct (RefusesRfc2822 greatest_year)) _ _ _ _ (rfc2822_exact greatest_year) rfc2822_exact_path
    rfc2822_exact_place rfc2822_exact_mark text t
IsNamedPlace-one format.Iso8601 t text =
    IsPlace-one over_record _ _ _ _ (iso8601_exact greatest_year) tt iso8601_exact_place
    iso8601_exact_mark text t
IsNamedPlace-one format.Ymd t text = IsTreePlace-one all_bytes ymd t text
IsNamedPlace-one format.Clock t text = IsTreePlace-one all_bytes clock t text
IsNamedPlace-one format.Unix t text = IsTreePlace-one all_bytes unix t text
IsNamedPlace-one format.Local t text = IsTreePlace-one all_bytes local t text

IsPlaceBy-one : (meaning : Meaning) (t : Target) (text : List ℕ) → OneText (IsPlaceBy meaning t text)
IsPlaceBy-one (named f) t text = IsNamedPlace-one f t text
IsPlaceBy-one (described tree) t text = IsTreePlace-one first_byte tree t text

-- an answer with the error's location, or without
IsPlacedAnswer-one : (meaning : Meaning) (target : Target) (text : List ℕ) → OneText (IsPlacedAnswer meaning target text)
IsPlacedAnswer-one meaning target text x y h k =
    let outcome = IsAnswer-one meaning target text h.0 k.0 h.2 k.2 in
    let place = IsPlaceBy-one meaning target text h.1 k.1 h.3 k.3 in
    h.4 ∙ ap (λ o. o ++ h.1) outcome ∙ ap (λ p. k.0 ++ p) place ∙ sym k.4

IsRequestedAnswer-one : (prints_places : Bool) (meaning : Meaning) (target : Target) (text : List ℕ)
    → OneText (IsRequestedAnswer prints_places meaning target text)
IsRequestedAnswer-one false meaning target text = IsAnswer-one meaning target text
IsRequestedAnswer-one true meaning target text = IsPlacedAnswer-one meaning target text

written : (prints_places : Bool) (m n : Meaning) (t u : Target) (input before new other : List ℕ) → m ≡ n → t ≡ u
    → output.WritesAnswers (IsRequestedAnswer prints_places m t) (Some before) (Some new) input
    → output.WritesAnswers (IsRequestedAnswer prints_places n u) (Some before) (Some other) input → new ≡ other
written prints_places m n t u input before new other p q h k =
    let same_target = subst (λ (v : Target). output.WritesAnswers (IsRequestedAnswer prints_places m v) (Some before) (Some new) input) q h in
    let same = subst (λ (o : Meaning). output.WritesAnswers (IsRequestedAnswer prints_places o u) (Some before) (Some new) input) p same_target in
    WritesAnswers-one (IsRequestedAnswer prints_places n u) (IsRequestedAnswer-one prints_places n u) input before new other same k

module _ (one : OneDescription) (one_strftime : OneStrftimeDescription) where
  MeansBy-one : (w : Writing) (version : Version) (text : List ℕ) (m n : Meaning)
      → MeansBy w version text m → MeansBy w version text n → m ≡ n
  MeansBy-one (writing.Name f) version text m n h k = h ∙ sym k
  MeansBy-one writing.Brackets version text m n h k =
      MeansTree-one (Describes (version_of (number_of version)) text) (one (version_of (number_of version)) text) m n h k
  MeansBy-one writing.Strftime version text m n h k =
      MeansTree-one (DescribesStrftime text) (one_strftime text) m n h k
  MeansBy-one writing.Unknown version text m n h k = absurd h

  pub Means-one : OneMeaning
  Means-one version format = MeansBy-one (writing_of format) version format

  pub Writing-one : OneWriting
  Writing-one prints_places version format target input before new other h k =
      written prints_places h.0 k.0 h.1 k.1 input before new other (Means-one version format h.0 k.0 h.2 k.2)
      (same_Some h.1 k.1 (sym h.3 ∙ k.3)) h.4 k.4

pub returns-clause-meaning : goal.returns-clause-meaning
returns-clause-meaning c = Means-one c.law_one_description.ensures c.law_one_strftime_description.ensures

pub returns-clause-text : goal.returns-clause-text
returns-clause-text c = IsRequestedAnswer-one

pub returns-clause-input : goal.returns-clause-input
returns-clause-input c = Writing-one c.law_one_description.ensures c.law_one_strftime_description.ensures
