use Rattle.std.proofs.Common.{◌≡◌, ◌≢◌, ℕ, List, ◌++◌, Option, MatchOption, Bor, subst, refl}
use Rattle.std.proofs.lemmas.Slice.Eq.{strip_prefix_is}
use Rattle.std.proofs.lemmas.Bool.Decides.{Decides-eqb}
use Rattle.time_record.proofs.ComponentLemmas.{reads_literal, refuses_literal}
use Rattle.time_record.proofs.parsed.Parsed.parse_literal.Goals as goal

-- the rest of the bytes after the text
abbrev Stripped : List ℕ → List ℕ → Option (Bor (List ℕ)) → Type 0
Stripped b t r = MatchOption r ((x : List ℕ) → b ≢ t ++ x) (λ x. b ≡ t ++ x.now)

pub returns-in-Some : goal.returns-in-Some
returns-in-Some c = λ r.
    let h = strip_prefix_is Decides-eqb c.args.input.now c.args.literal.now c.strip_prefix.result c.strip_prefix.ensures.cases in
    reads_literal _ c.args.literal.now c.args.input.now r _ (subst (Stripped c.args.input.now c.args.literal.now) c.in-Some.is h)

pub returns-in-None : goal.returns-in-None
returns-in-None c = λ r.
    let h = strip_prefix_is Decides-eqb c.args.input.now c.args.literal.now c.strip_prefix.result c.strip_prefix.ensures.cases in
    (refuses_literal _ c.args.literal.now c.args.input.now r (subst (Stripped c.args.input.now c.args.literal.now) c.in-None.is h), refl)
