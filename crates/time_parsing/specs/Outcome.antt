-- The results of a parse, over a format's readings and errors, which are relations.
use Rattle.std.specs.Prelude.{◌≡◌, ◌≢◌, ◌⊎◌, ◌↔◌, ℕ, List, [], Option, None, Some, Result, Ok, Err}
use Rattle.std.specs.Borrow.{Bor}
use Rattle.time_values.specs.Refusal.{Refusal, trailing, refusal_of}
use Rattle.time_values.specs.declared.error.Parse.{Parse}
use Rattle.time_values.specs.declared.offset_date_time.OffsetDateTime.{OffsetDateTime}
use Rattle.time_record.specs.Record.{Record, empty}
use Rattle.time_record.specs.Resolution.{IsMoment}

-- how a format parses a prefix: bytes, the record before, the rest of the bytes, and the record after
abbrev pub Reading : Type 1
Reading = List ℕ → Record → List ℕ → Record → Type 0

-- how a format rejects bytes of which it matches no prefix: the bytes, the record before, and the error
abbrev pub Refusing : Type 1
Refusing = List ℕ → Record → Refusal → Type 0

-- what a record resolves to: a value, or the error of the record
abbrev pub Resolving : Type 0 → Type 1
Resolving V = Record → Result V Refusal → Type 0

-- the initial record of a parse: the defaults, or the empty one for none
abbrev pub begun : Option Record → Record
begun None = empty
begun (Some defaults) = defaults

-- a call's result: the same value, or the error viewed without the address of its text
abbrev pub seen : {V : Type 0} → Result V Parse → Result V Refusal
seen (Ok v) = Ok v
seen (Err e) = Err (refusal_of e)

-- The result of parsing a prefix of the bytes over the record `old`: the rest, and the record `new`; or an error of the
-- format, and `new` is `old`.
abbrev pub ParsesInto : Reading → Refusing → List ℕ → Record → Result (Bor (List ℕ)) Parse → Record → Type 0
ParsesInto reads refuses bytes old (Ok rest) new = reads bytes old rest.now new
ParsesInto reads refuses bytes old (Err e) new = refuses bytes old (refusal_of e) × (new ≡ old)

-- The result of parsing all bytes over the record `begin`: the new record; or the error of the format, or trailing
-- characters if the format matches a prefix and bytes remain.
abbrev pub IsWhole : Reading → Refusing → List ℕ → Record → Result Record Refusal → Type 0
IsWhole reads refuses bytes begin (Ok r) = reads bytes begin [] r
IsWhole reads refuses bytes begin (Err e) =
    refuses bytes begin e ⊎ ((rest : List ℕ) × (r : Record) × reads bytes begin rest r × (rest ≢ []) × (e ≡ trailing))

-- The outcome of a parse of all bytes over the record `begin`: the value to which the new record resolves; or an error
-- of `IsWhole`, or the error to which the new record resolves.
abbrev pub IsOutcome : {V : Type 0} → Resolving V → Reading → Refusing → List ℕ → Record → Result V Refusal → Type 0
IsOutcome resolves reads refuses bytes begin (Ok v) = (r : Record) × reads bytes begin [] r × resolves r (Ok v)
IsOutcome resolves reads refuses bytes begin (Err e) =
    IsWhole reads refuses bytes begin (Err e) ⊎ ((r : Record) × reads bytes begin [] r × resolves r (Err e))

-- the result of a parse of a prefix, with the bytes of the rest, or the error viewed without the address of its text
abbrev pub erased_prefix_result : {V : Type 0} → Result (V × Bor (List ℕ)) Parse → Result (V × List ℕ) Refusal
erased_prefix_result (Ok x) = Ok (x.0, x.1.now)
erased_prefix_result (Err e) = Err (refusal_of e)

-- The outcome of a parse of a prefix over the record `begin`: the value to which the new record resolves, with the rest
-- of the bytes; or the error of the format, or the error to which the new record resolves. Bytes that remain are no
-- error.
abbrev pub IsFront : {V : Type 0} → Resolving V → Reading → Refusing → List ℕ → Record
    → Result (V × List ℕ) Refusal → Type 0
IsFront resolves reads refuses bytes begin (Ok x) = (r : Record) × reads bytes begin x.1 r × resolves r (Ok x.0)
IsFront resolves reads refuses bytes begin (Err e) =
    refuses bytes begin e ⊎ ((rest : List ℕ) × (r : Record) × reads bytes begin rest r × resolves r (Err e))

-- For bytes and a record, a format has at most one reading (a rest and a new record) and at most one error, and never
-- both.
pub record IsExact (reads : Reading) (refuses : Refusing) : Type 0 where
  pub one_rest : (bytes : List ℕ) (r : Record) (x y : List ℕ) (p q : Record)
      → reads bytes r x p → reads bytes r y q → x ≡ y
  pub one_record : (bytes : List ℕ) (r : Record) (x y : List ℕ) (p q : Record)
      → reads bytes r x p → reads bytes r y q → p ≡ q
  pub one_refusal : (bytes : List ℕ) (r : Record) (e f : Refusal) → refuses bytes r e → refuses bytes r f → e ≡ f
  pub not_both : (bytes : List ℕ) (r : Record) (x : List ℕ) (p : Record) (e : Refusal)
      → reads bytes r x p → refuses bytes r e → ⊥

-- two outcomes of parsing the same bytes over the same record are equal
abbrev pub OneOutcome : {V : Type 0} → Resolving V → Reading → Refusing → Type 0
OneOutcome {V} resolves reads refuses =
    (bytes : List ℕ) (begin : Record) (result other : Result V Refusal)
    → IsOutcome resolves reads refuses bytes begin result
    → IsOutcome resolves reads refuses bytes begin other → result ≡ other

-- two outcomes of parsing a prefix of the same bytes over the same record are equal
abbrev pub OneFront : {V : Type 0} → Resolving V → Reading → Refusing → Type 0
OneFront {V} resolves reads refuses =
    (bytes : List ℕ) (begin : Record) (result other : Result (V × List ℕ) Refusal)
    → IsFront resolves reads refuses bytes begin result
    → IsFront resolves reads refuses bytes begin other → result ≡ other

-- how a format parses a moment without defaults: over an empty record, as it parses values of other types; or directly,
-- and then the given relation of bytes and errors is that of its errors
pub data Path : Type 1 where
  over_record : Path
  direct : (List ℕ → Refusal → Type 0) → Path

-- The outcome of a parse of a moment from all bytes. On a direct path without defaults it is the moment of a parse over
-- an empty record, or a direct error. Otherwise it is the outcome of a parse over the defaults, or over an empty record
-- without defaults.
abbrev pub IsMomentOutcome : ℕ → Path → Reading → Refusing → List ℕ → Option Record
    → Result OffsetDateTime Refusal → Type 0
IsMomentOutcome Y (direct refused) reads refuses bytes None (Ok v) =
    IsOutcome (IsMoment Y) reads refuses bytes empty (Ok v)
IsMomentOutcome Y (direct refused) reads refuses bytes None (Err e) = refused bytes e
IsMomentOutcome Y (direct refused) reads refuses bytes (Some defaults) result =
    IsOutcome (IsMoment Y) reads refuses bytes defaults result
IsMomentOutcome Y over_record reads refuses bytes defaults result =
    IsOutcome (IsMoment Y) reads refuses bytes (begun defaults) result

-- a direct path has at most one error for bytes, and none for bytes that parse as a moment over an empty record; for
-- the path over a record nothing is stated
abbrev pub IsExactPath : ℕ → Path → Reading → Refusing → Type 0
IsExactPath Y over_record reads refuses = Unit {0}
IsExactPath Y (direct refused) reads refuses =
    ((bytes : List ℕ) (e f : Refusal) → refused bytes e → refused bytes f → e ≡ f)
    × ((bytes : List ℕ) (v : OffsetDateTime) (e : Refusal)
    → IsOutcome (IsMoment Y) reads refuses bytes empty (Ok v) → refused bytes e → ⊥)

-- two outcomes of parsing a moment from the same bytes, with the same defaults or none, are equal
abbrev pub OneMomentOutcome : ℕ → Path → Reading → Refusing → Type 0
OneMomentOutcome Y path reads refuses =
    (bytes : List ℕ) (defaults : Option Record) (result other : Result OffsetDateTime Refusal)
    → IsMomentOutcome Y path reads refuses bytes defaults result
    → IsMomentOutcome Y path reads refuses bytes defaults other → result ≡ other

-- The direct path returns a moment for a text if and only if a parse over an empty record returns that moment.
abbrev pub SameMoments : ℕ → Reading → Refusing → (List ℕ → OffsetDateTime → Type 0) → Type 0
SameMoments Y reads refuses direct_moment =
    (bytes : List ℕ) (v : OffsetDateTime)
    → direct_moment bytes v ↔ IsOutcome (IsMoment Y) reads refuses bytes empty (Ok v)
