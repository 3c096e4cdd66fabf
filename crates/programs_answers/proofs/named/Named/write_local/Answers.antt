use Rattle.std.proofs.Common.{◌≡◌, ℕ, List, [], ◌∷◌, Option, Result, Ok, Err, OnOk, inl, inr, refl, subst, sym}
use Rattle.time_values.specs.Refusal.{Refusal}
use Rattle.time_values.specs.Calendar.{greatest_year}
use Rattle.time_components.specs.Tree.{Tree, sequence, more, none, trees}
use Rattle.time_record.specs.Reading.{Reads, ReadsAll, IsFault, IsFaultAll, Refuses}
use Rattle.time_record.specs.Record.{Record, empty}
use Rattle.time_record.specs.Resolution.{IsDated, IsTimed, IsOffset, IsPlain, IsUtcMoment, IsMoment, IsTimestamp}
use Rattle.time_parsing.specs.Outcome.{IsOutcome, Reading, Refusing, Resolving, over_record}
use Rattle.programs_answers.specs.Output.{IsAnswerFor, IsDescribed, Writes}
use Rattle.programs_answers.specs.declared.formats.Target.{Target}
use Rattle.programs_answers.specs.declared.formats.Target.TheVariants as target
use Rattle.programs_answers.specs.Formats as formats
use Rattle.programs_answers.proofs.named.Named.write_local.Goals as goal

-- ---- A list of one item parses as the item does

-- the tree accepts each text that the list of that tree accepts
single_reads : (t : Tree) (b : List ℕ) (r : Record) (rest : List ℕ) (q : Record)
    → Reads greatest_year (sequence (more t none)) b r rest q → Reads greatest_year t b r rest q
unfolding Reads ReadsAll
single_reads t b r rest q (mid, m, here, same) =
    subst (λ x. Reads greatest_year t b r x q) (sym same.0) (subst (λ x. Reads greatest_year t b r mid x) (sym same.1) here)

single_fault : (t : Tree) (b : List ℕ) (r : Record) (e : Refusal)
    → IsFault greatest_year (sequence (more t none)) b r e → IsFault greatest_year t b r e
unfolding IsFault IsFaultAll
single_fault t b r e (inl h) = h.1
single_fault t b r e (inr h) = absurd h.3

-- and rejects each text that the list rejects
single_refuses : (t : Tree) (b : List ℕ) (r : Record) (e : Refusal)
    → Refuses greatest_year (sequence (more t none)) b r e → Refuses greatest_year t b r e
unfolding Reads ReadsAll
single_refuses t b r e h = record {
  unread = λ rest q here. h.unread rest q (rest, q, here, (refl, refl));
  fault = single_fault t b r e h.fault;
}

module _ (reads others : Reading) (refuses denies : Refusing)
    (on : (b : List ℕ) (r : Record) (rest : List ℕ) (q : Record) → reads b r rest q → others b r rest q)
    (off : (b : List ℕ) (r : Record) (e : Refusal) → refuses b r e → denies b r e) where
  same_outcome : {V : Type 0} (resolves : Resolving V) (text : List ℕ) (begin : Record) (result : Result V Refusal)
      → IsOutcome resolves reads refuses text begin result → IsOutcome resolves others denies text begin result
  same_outcome resolves text begin (Ok v) h = (h.0, on text begin [] h.0 h.1, h.2)
  same_outcome resolves text begin (Err e) (inl (inl h)) = inl (inl (off text begin e h))
  same_outcome resolves text begin (Err e) (inl (inr h)) = inl (inr (h.0, h.1, on text begin h.0 h.1 h.2, h.3, h.4))
  same_outcome resolves text begin (Err e) (inr h) = inr (h.0, on text begin [] h.0 h.1, h.2)

  same_answer : (t : Target) (text answer : List ℕ)
      → IsAnswerFor t over_record reads refuses text answer
      → IsAnswerFor t over_record others denies text answer
  same_answer target.Date text answer h = (h.0, same_outcome (IsDated greatest_year) text empty h.0 h.1, h.2)
  same_answer target.Time text answer h = (h.0, same_outcome IsTimed text empty h.0 h.1, h.2)
  same_answer target.Offset text answer h = (h.0, same_outcome IsOffset text empty h.0 h.1, h.2)
  same_answer target.Plain text answer h = (h.0, same_outcome (IsPlain greatest_year) text empty h.0 h.1, h.2)
  same_answer target.Utc text answer h = (h.0, same_outcome (IsUtcMoment greatest_year) text empty h.0 h.1, h.2)
  same_answer target.DateTime text answer h = (h.0, same_outcome (IsMoment greatest_year) text empty h.0 h.1, h.2)
  same_answer target.Staged text answer h = (h.0, same_outcome (IsMoment greatest_year) text empty h.0 h.1, h.2)
  same_answer target.Timestamp text answer h = (h.0, same_outcome (IsTimestamp greatest_year) text empty h.0 h.1, h.2)

single_answers : (t : Tree) (target : Target) (text answer : List ℕ)
    → IsDescribed (sequence (more t none)) target text answer → IsDescribed t target text answer
single_answers t = same_answer _ _ _ _ (single_reads t) (single_refuses t)

-- a text has equal outcomes by a list of one tree and by the tree
Writes-single : {E : Type 0} (r : Result (Unit {0}) E) (list t : Tree) (target : Target) (text : List ℕ)
    (a b : Option (List ℕ)) → list ≡ sequence (trees (t ∷ [])) → OnOk r (Writes (IsDescribed list target text) a b)
    → OnOk r (Writes (IsDescribed t target text) a b)
Writes-single (Ok u) list t target text a b is h =
    (h.0, single_answers t target text h.0 (subst (λ l. IsDescribed l target text h.0) is h.1), h.2)
Writes-single (Err e) list t target text a b is h = tt

pub returns-clause-bytes : goal.returns-clause-bytes
returns-clause-bytes g c =
    Writes-single c.write_value.result _ formats.local c.args.target c.args.text.now _ _ c.self.invariant.2 c.write_value.ensures.bytes
