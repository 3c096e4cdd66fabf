-- An error in one of the formats is an error of the options.
use Rattle.std.specs.Int.{int_div_euclid}
use Rattle.std.specs.Io.KnownBytes.{Appends}
use Rattle.std.proofs.Common.{◌≡◌, ℕ, ℤ, pos, neg_ℤ, negsuc, arith, Some, None, zero, suc, ◌+◌, ◌<◌, List, [], ◌∷◌, ◌++◌, length, take, map, get_or, Bool, Option, inl, inr, ap, subst, ◌-◌, min, codes, true, drop, append_assoc, length-drop, decimal}
use Rattle.std.proofs.lemmas.Int.{ints}
use Rattle.std.proofs.lemmas.List.{map_more, take_all, take_min, drop_min}
use Rattle.std.proofs.KnownBytes.{Appends-trans}
use Rattle.time_values.specs.Calendar.{IsBetween, greatest_year}
use Rattle.time_values.specs.Instants.{IsInstant, IsWhole, nanos_per_day, timestamp_refusal}
use Rattle.time_values.specs.MovedClocks.{IsNear}
use Rattle.time_values.specs.Refusal.{Refusal}
use Rattle.time_values.specs.declared.utc_date_time.UtcDateTime.{UtcDateTime}
use Rattle.time_values.proofs.InstantLemmas.{first_instant_is, is_instant-IsInstant, last_instant_is}
use Rattle.restamp_stream.specs.Reports.{reason_text}
use Rattle.restamp_formats.specs.declared.reading.Reading.{Reading}
use Rattle.restamp_command.specs.Options.{other_names}
use Rattle.restamp_command.specs.declared.options.Options.{Options}
use Rattle.restamp_command.specs.Fault as fault
use Rattle.restamp_command.specs.Fault.{Fault}
use Rattle.restamp_command.specs.Request.{AddsFormats, IsFault, IsFaultAt, IsFormat, IsFormatFault, IsOneOf, IsSuffixFault, has_default_year, zone_of}
use Rattle.restamp_command.specs.Zones.{IsZone}
use Rattle.restamp_command.specs.declared.zone.Zone.{Zone}
use Rattle.restamp_command.specs.Rewriting.{around, blanks, red, pointer, reason_report}

-- ---- Instants near 1970, their days, and instants without a date

pub near : (n : ℤ) → IsInstant greatest_year n → IsNear n
near n h = omega (arith, ints, first_instant_is, last_instant_is)

-- the quotient is rounded down
whole : (n : ℤ) → IsWhole nanos_per_day n (int_div_euclid n (pos nanos_per_day))
whole (pos a) = (omega (arith, ints), omega (arith, ints))
whole (negsuc a) = (omega (arith, ints), omega (arith, ints))

pub day_near : (n : ℤ) → IsBetween (neg_ℤ (pos 33_000_000_000_000_000_000_000)) (pos 33_000_000_000_000_000_000_000) n
    → IsBetween (neg_ℤ (pos 500_000_000)) (pos 500_000_000) (int_div_euclid n (pos nanos_per_day))
day_near n h = let day = whole n in omega (arith, ints)

pub no_date : (n : ℤ) (r : Refusal) → timestamp_refusal greatest_year n ≡ Some r → ¬ IsInstant greatest_year n
no_date n r e inside =
    let clash : None ≡ Some r = rw ((is_instant-IsInstant greatest_year n).1 inside) at e in
    absurd cc

pub others_fault : (o : Options) (has_year : Bool) (names : List (List ℕ)) (f : Fault) → has_year ≡ has_default_year o
    → names ≡ other_names o → IsFormatFault has_year names f → IsFault o f
others_fault o has_year names f e n h =
    by_fault f (rw (e, n) at h)
  where
    by_fault : (f : Fault) → IsFormatFault (has_default_year o) (other_names o) f → IsFault o f
    by_fault fault.memory h = h
    by_fault (fault.from value why) h = (inr h.0, h.1, h.2)
    by_fault (fault.zones value why) h = (inr h.0, h.1, h.2)
    by_fault (fault.incomplete_format value missing_field) h = (inr h.0, h.1, h.2)
    by_fault f h = absurd h

-- an error at any time is an error at each moment
pub fault_at : (now : Option UtcDateTime) (o : Options) (f : Fault) → IsFault o f → IsFaultAt now o f
fault_at now o (fault.latest value why) h = absurd h
fault_at now o (fault.since value why) h = absurd h
fault_at now o (fault.until value why) h = absurd h
fault_at now o f h = h

push : (has_year : Bool) (names : List (List ℕ)) (name : List ℕ) (old new : List Reading) (format : Reading)
    → AddsFormats has_year names old new → IsFormat has_year name format
    → AddsFormats has_year (names ++ name ∷ []) old (new ++ format ∷ [])
push has_year [] name old new format p q = (format, q, ap (λ (l : List Reading). l ++ format ∷ []) p)
push has_year (first ∷ names) name old new format p q =
    (p.0, p.1, push has_year names name (old ++ p.0 ∷ []) new format p.2 q)

-- the format of the name at the index is appended
pub more_formats : {X : Type 0} (f : X → List ℕ) (has_year : Bool) (old new : List Reading) (format : Reading) (xs : List X) (i : ℕ) (x : X)
    → AddsFormats has_year (map f (take i xs)) old new → i < length xs → IsFormat has_year (f (get_or xs i x)) format
    → AddsFormats has_year (map f (take (i + 1) xs)) old (new ++ format ∷ [])
more_formats {X} f has_year old new format xs i x p below q =
    rw (map_more f xs i x below) (push has_year (map f (take i xs)) (f (get_or xs i x)) old new format p q)

one_of : {X : Type 0} (f : X → List ℕ) (xs : List X) (i : ℕ) (x : X) (value : List ℕ) → i < length xs
    → IsOneOf (f (get_or xs i x) ∷ []) value → IsOneOf (map f xs) value
one_of f [] i x value below h = absurd (omega (arith, below))
one_of f (y ∷ ys) zero x value below (inl e) = inl e
one_of f (y ∷ ys) zero x value below (inr none) = absurd none
one_of f (y ∷ ys) (suc i) x value below h = inr (one_of f ys i x value (omega (arith, below)) h)

-- an error in the format at the index is an error in the formats
pub fault_of_one : {X : Type 0} (f : X → List ℕ) (has_year : Bool) (xs : List X) (i : ℕ) (x : X) (why : Fault) → i < length xs
    → IsFormatFault has_year (f (get_or xs i x) ∷ []) why → IsFormatFault has_year (map f xs) why
fault_of_one f has_year xs i x fault.memory below h = h
fault_of_one f has_year xs i x (fault.from value why) below h = (one_of f xs i x value below h.0, h.1, h.2)
fault_of_one f has_year xs i x (fault.zones value why) below h = (one_of f xs i x value below h.0, h.1, h.2)
fault_of_one f has_year xs i x (fault.incomplete_format value missing_field) below h = (one_of f xs i x value below h.0, h.1, h.2)
fault_of_one f has_year xs i x why below h = absurd h

-- an error in a suffix of the given zone is an error of the options
pub suffix_fault : (o : Options) (zone : Zone) (f : Fault) → IsZone (zone_of o) zone → IsSuffixFault o.to.now zone f → IsFault o f
suffix_fault o zone fault.memory is h = h
suffix_fault o zone (fault.unnamed value) is h = (h.0, (h.1, (zone, is, h.2)))
suffix_fault o zone f is h = absurd h

-- ---- The part of a line that is printed, and several writes to a log

-- a range is a start and a number of bytes from there on
pub part_is : (line : List ℕ) (most left_out from n : ℕ) → from ≡ min left_out (length line)
    → n ≡ min most (length (take (length line - from) (drop from line)))
    → take n (take (length line - from) (drop from line)) ≡ take most (drop left_out line)
part_is line most left_out from n begins ends =
    let rest : take (length line - from) (drop from line) ≡ drop from line = grind (arith, take_all, length-drop) in
    rw (rest, rw rest at ends, take_min most (drop from line), begins, drop_min left_out line)

pub Appends-pointer : (a b c d e f : Option (List ℕ)) (line : List ℕ) (column : ℕ)
    → Appends a b (10 ∷ []) → Appends b c (around line column) → Appends c d (10 ∷ []) → Appends d e (blanks (column - 1))
    → Appends e f (red (codes "^")) → Appends a f (pointer line column)
Appends-pointer a b c d e f line column p q r s t =
    let behind = Appends-trans c d f (10 ∷ []) (blanks (column - 1) ++ red (codes "^")) r (Appends-trans d e f _ _ s t) in
    Appends-trans a b f (10 ∷ []) _ p (Appends-trans b c f _ _ q behind)

told_joined : (number mark red_on reason expected red_off line : List ℕ)
    → (number ++ ((mark ++ red_on) ++ reason)) ++ (expected ++ (red_off ++ line))
    ≡ number ++ (mark ++ ((red_on ++ ((reason ++ expected) ++ red_off)) ++ line))
told_joined number mark red_on reason expected red_off line = simp append_assoc

-- a reason in red, with what was expected, and a line below it
pub Appends-location : (a b c d e : Option (List ℕ)) (line reason expected : List ℕ) (column : ℕ)
    → Appends a b (decimal column ++ ((codes ": " ++ (27 ∷ codes "[31m")) ++ reason)) → Appends b c expected
    → Appends c d (27 ∷ codes "[0m") → Appends d e (pointer line column)
    → Appends a e (reason_text column (reason_report true line column (reason ++ expected)))
Appends-location a b c d e line reason expected column p q r s =
    let red_off : List ℕ = 27 ∷ codes "[0m" in
    subst (Appends a e)
    (told_joined (decimal column) (codes ": ") (27 ∷ codes "[31m") reason expected red_off (pointer line column))
    (Appends-trans a b e _ (expected ++ (red_off ++ pointer line column)) p
    (Appends-trans b c e expected (red_off ++ pointer line column) q (Appends-trans c d e red_off (pointer line column) r s)))

plain_joined : (number mark reason expected : List ℕ)
    → (number ++ (mark ++ reason)) ++ expected ≡ number ++ (mark ++ (reason ++ expected))
plain_joined number mark reason expected = simp append_assoc

-- a reason, with what was expected
pub Appends-plain : (a b c : Option (List ℕ)) (reason expected : List ℕ) (column : ℕ)
    → Appends a b (decimal column ++ (codes ": " ++ reason)) → Appends b c expected
    → Appends a c (reason_text column (reason ++ expected))
Appends-plain a b c reason expected column p q =
    subst (Appends a c) (plain_joined (decimal column) (codes ": ") reason expected) (Appends-trans a b c _ expected p q)
