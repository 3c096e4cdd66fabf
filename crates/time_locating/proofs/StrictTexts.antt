-- What is located in a strict text is located in the whole text.
use Rattle.std.proofs.Common.{◌≡◌, ℕ, ◌+◌, ◌≤◌, Bool, true, false, List, length, take, Option, Some, None, refl, subst, arith}
use Rattle.std.proofs.lemmas.List.{length-take}
use Rattle.std.specs.Prelude.{if◌then◌else◌}
use Rattle.time_values.specs.Calendar.{greatest_year}
use Rattle.time_record.specs.Record.{Record}
use Rattle.time_parsing.specs.Rfc3339 as rfc3339_record
use Rattle.time_parsing.specs.Rfc3339Strict as strict_record
use Rattle.time_parsing.specs.Rfc3339Strict.{has_separator, strict_text}
use Rattle.time_locating.specs.Located.{IsLocated, IsMarked}
use Rattle.time_locating.specs.Misses.{missed}
use Rattle.time_locating.specs.Rfc3339 as rfc3339
use Rattle.time_locating.specs.Rfc3339Strict as strict
use Rattle.time_locating.specs.Rfc3339Strict.{cut_off}
use Rattle.time_locating.specs.declared.located.Located.{Located}

either-within : (bytes : List ℕ) (b : Bool) → length (if b then bytes else take 10 bytes) ≤ length bytes
either-within bytes true = omega arith
either-within bytes false = omega (arith, length-take 10 bytes)

strict_text-within : (bytes : List ℕ) → length (strict_text bytes) ≤ length bytes
strict_text-within bytes = either-within bytes (has_separator bytes)

module _ (bytes text : List ℕ) (begin : Record) where
  located_by : (result : Option Located) → IsLocated (rfc3339_record.Reads greatest_year) rfc3339.Locates (strict_text bytes) begin result
      → IsLocated (strict_record.Reads greatest_year) strict.Locates bytes begin result
  located_by None p = p
  located_by (Some at) p = (
    missed (p.0.left + cut_off bytes) p.0.wanted,
    (p.0, p.1, refl),
    omega (arith, p.2, strict_text-within bytes),
    p.3,
  )

  pub located : (result : Option Located) → text ≡ strict_text bytes
      → IsLocated (rfc3339_record.Reads greatest_year) rfc3339.Locates text begin result
      → IsLocated (strict_record.Reads greatest_year) strict.Locates bytes begin result
  located result e p =
      located_by result
      (subst (λ (b : List ℕ). IsLocated (rfc3339_record.Reads greatest_year) rfc3339.Locates b begin result) e p)

  marked_by : (name : List ℕ) (result : Option ℕ) → IsMarked rfc3339.Marks name (strict_text bytes) begin result
      → IsMarked strict.Marks name bytes begin result
  marked_by name None p = (None, p, refl)
  marked_by name (Some index) p =
      (p.0 + cut_off bytes, (Some p.0, p.1, refl), omega (arith, p.2, strict_text-within bytes))

  pub marked : (name : List ℕ) (result : Option ℕ) → text ≡ strict_text bytes → IsMarked rfc3339.Marks name text begin result
      → IsMarked strict.Marks name bytes begin result
  marked name result e p = marked_by name result (subst (λ (b : List ℕ). IsMarked rfc3339.Marks name b begin result) e p)
