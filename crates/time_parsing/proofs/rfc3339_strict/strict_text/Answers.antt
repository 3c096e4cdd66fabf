use Rattle.std.proofs.Common.{◌≡◌, ℕ, ◌∙◌, List, length, take, inl, inr, ap, sym, arith}
use Rattle.std.proofs.lemmas.Bool.{cases_lt}
use Rattle.std.proofs.lemmas.List.{take_all}
use Rattle.std.specs.Prelude.{min, if◌then◌else◌}
use Rattle.time_parsing.proofs.rfc3339_strict.strict_text.Goals as goal

take_min : (n : ℕ) (bytes : List ℕ) → take (min (length bytes) n) bytes ≡ take n bytes
take_min n bytes =
    elim (cases_lt n (length bytes)) [
      | inl low ↦ let same : min (length bytes) n ≡ n = omega arith in ap (λ k. take k bytes) same
      | inr high ↦ take_all (min (length bytes) n) bytes (omega arith) ∙ sym (take_all n bytes high)
    ]

pub returns : goal.returns
returns c =
    let bytes = c.args.input.now in
    c.split_at.ensures.front ∙ ap (λ n. take n bytes) c.min.ensures ∙ take_min 10 bytes ∙ ap
    (λ b. if b then bytes else take 10 bytes) c.if-has_separator.ensures
