use Rattle.std.proofs.Common.{◌≡◌, ◌≢◌, ℕ, List, ◌++◌, Option, None, Some, Bor, IfSome, MatchOption}
use Rattle.std.proofs.lemmas.Slice.Eq.{strip_prefix_is}
use Rattle.std.proofs.lemmas.Bool.Decides.{Decides-eqb}
use Rattle.time_lines.proofs.answers.fast.after.Goals as goal

-- a match of all cases has the rest where there is one
rest-is : (b n : List ℕ) → (r : Option (Bor (List ℕ)))
    → MatchOption r ((x : List ℕ) → b ≢ n ++ x) (λ x. b ≡ n ++ x.now) → IfSome r (λ x. b ≡ n ++ x.now)
rest-is b n None _ = tt
rest-is b n (Some x) is = is

pub returns : goal.returns
returns c =
    rest-is _ _ c.strip_prefix.result
    (strip_prefix_is Decides-eqb c.args.bytes.now c.args.name.now c.strip_prefix.result c.strip_prefix.ensures.cases)
