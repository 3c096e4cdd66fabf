-- No public contract rests on this file.
--
-- The pieces into which a line is split.
use Rattle.std.specs.Prelude.{◌≡◌, ℕ, List, Option, Some, MatchOption}
use Rattle.time_lines.specs.Output.{split_at_tab}

-- The bytes are a name without TABs, which `named` maps to x, then a TAB and the rest.
abbrev pub StartsWithName : {X : Type 0} → (List ℕ → Option X) → List ℕ → X → List ℕ → Type 0
StartsWithName named bytes x rest =
    MatchOption (split_at_tab bytes) ⊥ (λ split. (named split.0 ≡ Some x) × (split.1 ≡ rest))
