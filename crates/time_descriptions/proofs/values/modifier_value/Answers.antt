use Rattle.std.proofs.Common.{◌≡◌, Option, Some, None, ap, ◌∙◌}
use Rattle.std.specs.Option.{option_map}
use Rattle.std.specs.Prelude.{MatchOption, IsSomeAnd}
use Rattle.time_descriptions.specs.declared.values.Modifier.{Modifier}
use Rattle.time_descriptions.specs.declared.values.Modifier.TheVariants as modifier
use Rattle.time_descriptions.specs.Values.{bases, digits, precisions, ranges, signs}
use Rattle.time_descriptions.proofs.values.modifier_value.Goals as goal

-- the modifier made of a value that is found
made : {V : Type 0} (make : V → Modifier) {o p : Option V} → o ≡ p → (r : Option Modifier)
    → MatchOption o (r ≡ None) (λ x. IsSomeAnd r (λ y. y ≡ make x)) → r ≡ option_map make p
made make {o = None} e r h = h ∙ ap (option_map make) e
made make {o = Some x} e (Some y) h = ap Some h ∙ ap (option_map make) e
made make {o = Some x} e None h = absurd h

pub returns-in-Base : goal.returns-in-Base
unfolding bases
returns-in-Base c = rw c.in-Base.is (made modifier.Base c.look_up.ensures c.map.result c.map.ensures.cases)

pub returns-in-Digits : goal.returns-in-Digits
unfolding digits
returns-in-Digits c = rw c.in-Digits.is (made modifier.Digits c.look_up-in-Digits.ensures c.map-in-Digits.result c.map-in-Digits.ensures.cases)

pub returns-in-Precision : goal.returns-in-Precision
unfolding precisions
returns-in-Precision c =
    rw c.in-Precision.is (made modifier.Precision c.look_up-in-Precision.ensures c.map-in-Precision.result c.map-in-Precision.ensures.cases)

pub returns-in-Range : goal.returns-in-Range
unfolding ranges
returns-in-Range c = rw c.in-Range.is (made modifier.Range c.look_up-in-Range.ensures c.map-in-Range.result c.map-in-Range.ensures.cases)

pub returns-in-Sign : goal.returns-in-Sign
unfolding signs
returns-in-Sign c = rw c.in-Sign.is (made modifier.Sign c.look_up-in-Sign.ensures c.map-in-Sign.result c.map-in-Sign.ensures.cases)
